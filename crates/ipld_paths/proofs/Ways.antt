-- The way of a path over blocks.
use Rattle.std.proofs.Common.{◌≡◌, ℕ, suc, ◌+◌, List, arith}
use Rattle.ipld_tree.specs.Cid.{CidParts}
use Rattle.ipld_links.specs.Reaching.{Stored}
use Rattle.ipld_paths.specs.Resolving.{LeadsOn, ResolvesIn, IsEndlessAfter, Resolves}
use Rattle.ipld_paths.specs.declared.resolution.Resolved.{Resolved}

-- links led over `count` blocks from the root to this one, and these segments are left
abbrev pub Led : Stored → CidParts → List (List ℕ) → ℕ → CidParts → List (List ℕ) → Type 0
Led stored root path count name left = (n : ℕ) (r : Resolved) → ResolvesIn n stored name left r
    → (m : ℕ) × (m ≡ count + n) × ResolvesIn m stored root path r

pub led_nowhere : (stored : Stored) (root : CidParts) (path : List (List ℕ)) → Led stored root path 0 root path
led_nowhere stored root path n r h = (n, omega arith, h)

pub led_on : (stored : Stored) (root name next : CidParts) (path left more : List (List ℕ)) (count : ℕ) → Led stored root path count name left → LeadsOn stored name left next more → Led stored root path (count + 1) next more
led_on stored root name next path left more count led g n r h = let k = led (suc n) r (next, more, g, h) in (k.0, omega (arith, k.1), k.2)

pub led_to_end : (stored : Stored) (root name : CidParts) (path left : List (List ℕ)) (count : ℕ) (r : Resolved) → Led stored root path count name left → ResolvesIn 0 stored name left r → ((n : ℕ) → IsEndlessAfter n r.end) → Resolves stored root path r
led_to_end stored root name path left count r led here never = let k = led 0 r here in (k.0, k.2, never k.0)

pub led_endless : (stored : Stored) (root name : CidParts) (path left : List (List ℕ)) (count : ℕ) (r : Resolved) → Led stored root path count name left → ResolvesIn 0 stored name left r → ((n : ℕ) → n ≡ count → IsEndlessAfter n r.end) → Resolves stored root path r
led_endless stored root name path left count r led here last = let k = led 0 r here in (k.0, k.2, last k.0 (omega (arith, k.1)))
