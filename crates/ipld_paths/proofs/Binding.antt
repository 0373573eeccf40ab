-- A root and a path determine the answer.
use Rattle.std.proofs.Common.{◌≡◌, ◌≢◌, ◌⊎◌, inl, inr, ℕ, zero, suc, List, [], ◌∷◌, ◌++◌, refl, sym, ap, ◌∙◌, subst, arith, Option, None, Some}
use Rattle.ipld_tree.specs.Cid.{CidParts, cid_bytes}
use Rattle.ipld_tree.specs.Tree.{Tree, link}
use Rattle.ipld_tree.proofs.Cids.{cid_unique}
use Rattle.ipld_tree.proofs.Fronts.{front_unique}
use Rattle.dagcbor_decode.specs.Blocks.{IsBlock}
use Rattle.dagcbor_items.proofs.SliceReads.{whole_front}
use Rattle.ipld_paths.specs.Paths.{IsPart, At}
use Rattle.ipld_paths.specs.Finding.{LeadsInto, HasNoPart}
use Rattle.ipld_paths.proofs.Leading.{IsWhole, part_whole, part_unique, at_unique}
use Rattle.ipld_paths.proofs.Ends.{nothing_found, no_part_of_link}
use Rattle.ipld_links.specs.Reaching.{Stored}
use Rattle.ipld_links.specs.Verdicts.{IsVerified}
use Rattle.ipld_paths.specs.Resolving.{IsReadAs, IsReadUnder, LeadsOn}
use Rattle.ipld_paths.specs.Laws.{LeadsInBlock, Leads, PathsBind}
use Rattle.ipld_links.specs.Collisions.{Collides}
use Rattle.ipld_links.proofs.Colliding.{of_one_hash}
use Rattle.ipld_paths.proofs.Reading.{read_as_one}

-- ---- the bytes under a name

pub one_named : (name : CidParts) (x y : List ℕ) → IsVerified (name, x) → IsVerified (name, y) → (x ≡ y) ⊎ Collides
one_named name x y h k = elim h [
  | inl a ↦ elim k [ inl b ↦ of_one_hash x y (sym a.1 ∙ b.1) | inr b ↦ absurd (omega (arith, a.0.0, b.0)) ]
  | inr a ↦ elim k [ inl b ↦ absurd (omega (arith, a.0, b.0.0)) | inr b ↦ inl (sym a.1 ∙ b.1) ]
]

pub same_block : (s o : Stored) (name : CidParts) (x y : List ℕ) → IsReadUnder s name x → IsReadUnder o name y → (x ≡ y) ⊎ Collides
same_block s o name x y h k = elim (one_named name h.0 k.0 h.2 k.2) [
  | inl is ↦ inl (read_as_one name k.0 x y (subst (λ z. IsReadAs name z x) is h.3) k.3)
  | inr c ↦ inr c
]

pub block_unique : (b : List ℕ) (t u : Tree) → IsBlock b t → IsBlock b u → t ≡ u
block_unique b t u h k = (front_unique b [] [] t u (whole_front h.0) (whole_front k.0)).0

-- ---- in one block

led_unique : (p q left more : List (List ℕ)) (t u v : Tree) → IsWhole t → p ++ left ≡ q ++ more → At p t u → At q t v → HasNoPart left u → HasNoPart more v → (u ≡ v) × (left ≡ more)
led_unique [] [] left more t u v w e h k x y = (sym h ∙ k, e)
led_unique [] (s ∷ q) left more t u v w e h k x y = absurd (subst (λ z. HasNoPart z t) e (subst (HasNoPart left) (sym h) x) k.0 k.1)
led_unique (s ∷ p) [] left more t u v w e h k x y = absurd (subst (λ z. HasNoPart z t) (sym e) (subst (HasNoPart more) (sym k) y) h.0 h.1)
led_unique (s ∷ p) (r ∷ q) left more t u v w e h k x y =
    let first : s ≡ r = cc in
    let rest : p ++ left ≡ q ++ more = cc in
    let same = part_unique s t k.0 h.0 w (subst (λ z. IsPart z t k.0) (sym first) k.1) h.1 in
    led_unique p q left more h.0 u v (part_whole s t h.0 w h.1) rest h.2 (subst (λ z. At q z v) same k.2) x y

pub into_unique : (b : List ℕ) (path left more : List (List ℕ)) (t r u v : Tree) → LeadsInto b path left t u → LeadsInto b path more r v → HasNoPart left u → HasNoPart more v → (u ≡ v) × (left ≡ more)
into_unique b path left more t r u v h k x y =
    led_unique h.passed k.passed left more t u v (h.block.0.well_formed, h.block.0.spellable) (sym h.whole ∙ k.whole) h.leads (subst (λ z. At k.passed z v) (block_unique b r t k.block h.block) k.leads) x y

none_beside : (b : List ℕ) (path left : List (List ℕ)) (t r u v : Tree) → LeadsInto b path left t u → HasNoPart left u → IsBlock b r → At path r v → ⊥
none_beside b path left t r u v h x k a =
    let n = nothing_found b path left t u h x in
    n.2 v (subst (λ z. At path z v) (block_unique b r n.0 k n.1) a)

found_unique : (b : List ℕ) (path : List (List ℕ)) (o p : Option Tree) → LeadsInBlock b path o → LeadsInBlock b path p → o ≡ p
found_unique b path (Some u) (Some v) h k = ap Some (at_unique path h.0 u v (h.1.0.well_formed, h.1.0.spellable) h.2 (subst (λ z. At path z v) (block_unique b k.0 h.0 k.1 h.1) k.2))
found_unique b path (Some u) None h k = absurd (none_beside b path k.2 k.0 h.0 k.1 u k.3 k.4 h.1 h.2)
found_unique b path None (Some v) h k = absurd (none_beside b path h.2 h.0 k.0 h.1 v h.3 h.4 k.1 k.2)
found_unique b path None None h k = refl

pub no_end_at_link : (b : List ℕ) (path left : List (List ℕ)) (t : Tree) (next : CidParts) (o : Option Tree) → LeadsInto b path left t (link (cid_bytes next)) → left ≢ [] → LeadsInBlock b path o → ⊥
no_end_at_link b path left t next (Some v) h some k = none_beside b path left t k.0 (link (cid_bytes next)) v h (no_part_of_link left (cid_bytes next) some) k.1 k.2
no_end_at_link b path left t next None h some k = k.5 (cid_bytes next) (sym (into_unique b path left k.2 t k.0 (link (cid_bytes next)) k.1 h k.3 (no_part_of_link left (cid_bytes next) some) k.4).0)

-- ---- over blocks

ends_and_goes : (s o : Stored) (name next : CidParts) (path left : List (List ℕ)) (found : Option Tree) (x : List ℕ) → IsReadUnder s name x → LeadsInBlock x path found → LeadsOn o name path next left → Collides
ends_and_goes s o name next path left found x h k g = elim (same_block s o name x g.1.0 h g.1.2) [
  | inl is ↦ absurd (no_end_at_link g.1.0 path left g.1.1 next found g.1.3 g.1.4 (subst (λ z. LeadsInBlock z path found) is k))
  | inr c ↦ c
]

go_alike : (s o : Stored) (name next also : CidParts) (path left more : List (List ℕ)) → LeadsOn s name path next left → LeadsOn o name path also more → ((next ≡ also) × (left ≡ more)) ⊎ Collides
go_alike s o name next also path left more g k = elim (same_block s o name g.1.0 k.1.0 g.1.2 k.1.2) [
  | inl is ↦ inl (
      let h = subst (λ z. LeadsInto z path left g.1.1 (link (cid_bytes next))) is g.1.3 in
      let same = into_unique k.1.0 path left more g.1.1 k.1.1 (link (cid_bytes next)) (link (cid_bytes also)) h k.1.3 (no_part_of_link left (cid_bytes next) g.1.4) (no_part_of_link more (cid_bytes also) k.1.4) in
      let cids : cid_bytes next ≡ cid_bytes also = cc same.0 in
      (cid_unique next also g.0 k.0 cids, same.1)
      )
  | inr c ↦ inr c
]

bound : (s o : Stored) (m n : ℕ) (root : CidParts) (path : List (List ℕ)) (found other : Option Tree) → Leads m s root path found → Leads n o root path other → (found ≡ other) ⊎ Collides
bound s o zero zero root path found other h k = elim (same_block s o root h.0 k.0 h.1 k.1) [
  | inl is ↦ inl (found_unique k.0 path found other (subst (λ z. LeadsInBlock z path found) is h.2) k.2)
  | inr c ↦ inr c
]
bound s o zero (suc n) root path found other h k = inr (ends_and_goes s o root k.0 path k.1 found h.0 h.1 h.2 k.2)
bound s o (suc m) zero root path found other h k = inr (ends_and_goes o s root h.0 path h.1 other k.0 k.1 k.2 h.2)
bound s o (suc m) (suc n) root path found other h k = elim (go_alike s o root h.0 k.0 path h.1 k.1 h.2 k.2) [
  | inl same ↦ bound s o m n k.0 k.1 found other (subst (λ z. Leads m s k.0 z found) same.1 (subst (λ z. Leads m s z h.1 found) same.0 h.3)) k.3
  | inr c ↦ inr c
]

pub paths_bind : PathsBind
paths_bind = bound
