-- More blocks than before.
use Rattle.std.proofs.Common.{◌≡◌, inl, inr, ℕ, ◌+◌, List, refl, sym, ap, ◌∙◌, arith, Option, None, Some}
use Rattle.ipld_tree.specs.Cid.{CidParts}
use Rattle.ipld_links.specs.Names.{IsInline}
use Rattle.ipld_links.specs.Verdicts.{IsVerified}
use Rattle.ipld_links.specs.Reaching.{Stored, AreBytesOf}
use Rattle.ipld_paths.specs.Resolving.{LeadsOn}
use Rattle.ipld_paths.proofs.Ways.{Led, led_nowhere, led_on}
use Rattle.program_index.specs.Ways.{HoldsMore}

-- what is stored under a CID stays there
abbrev pub Extends : Stored → Stored → Type 0
Extends old new = (q : CidParts) (b : List ℕ) → AreBytesOf old q b → AreBytesOf new q b

inline_bytes : (q : CidParts) (x b : List ℕ) → IsVerified (q, x) → IsInline q → q.digest ≡ b → x ≡ b
inline_bytes q x b (inl v) i is = absurd (omega (arith, v.0.0, i))
inline_bytes q x b (inr v) i is = sym v.1 ∙ is

pub grown : (known : Option (List ℕ)) (name : CidParts) (old new : Stored) → HoldsMore known name old new → Extends old new
grown known name old new h q b (inl is) = inl (h.keeps q b is)
grown known name old new h q b (inr k) = by (new q) refl
  where
    by : (o : Option (List ℕ)) → new q ≡ o → AreBytesOf new q b
    by None is = inr (is, k.1, k.2)
    by (Some x) is = inl (is ∙ ap Some (inline_bytes q x b (h.led q x is).0 k.1 k.2))

goes_more : (old new : Stored) (name next : CidParts) (path left : List (List ℕ)) → Extends old new → LeadsOn old name path next left → LeadsOn new name path next left
goes_more old new name next path left e g = (g.0, (g.1.0, g.1.1, (g.1.2.0, e name g.1.2.0 g.1.2.1, g.1.2.2, g.1.2.3), g.1.3, g.1.4))

-- the path leads there over any blocks that include these
abbrev pub LedOver : Stored → CidParts → List (List ℕ) → ℕ → CidParts → List (List ℕ) → Type 0
LedOver stored root path count name left = (s : Stored) → Extends stored s → Led s root path count name left

pub over_nowhere : (stored : Stored) (root : CidParts) (path : List (List ℕ)) → LedOver stored root path 0 root path
over_nowhere stored root path s e = led_nowhere s root path

pub over_more : (old new : Stored) (root name : CidParts) (path left : List (List ℕ)) (count : ℕ) → Extends old new → LedOver old root path count name left → LedOver new root path count name left
over_more old new root name path left count more led s e = led s (λ q b h. e q b (more q b h))

pub over_on : (stored : Stored) (root name next : CidParts) (path left following : List (List ℕ)) (count : ℕ) → LedOver stored root path count name left → LeadsOn stored name left next following → LedOver stored root path (count + 1) next following
over_on stored root name next path left following count led g s e = led_on s root name next path left following count (led s e) (goes_more stored s name next left following e g)
