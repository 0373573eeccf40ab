-- If a path ends, but not for lack of a block, it ends nowhere else.
use Rattle.std.proofs.Common.{◌≡◌, ◌≢◌, ℕ, zero, suc, ◌-◌, ◌^◌, ◌<◌, List, refl, subst, arith}
use Rattle.ipld_tree.specs.Cid.{CidParts}
use Rattle.ipld_links.specs.Reaching.{Stored, AreBytesOf}
use Rattle.ipld_paths.specs.Resolving.{EndsAs, ResolvesIn, IsEndlessAfter, Resolves}
use Rattle.ipld_paths.specs.declared.resolution.End.{End}
use Rattle.ipld_paths.specs.declared.resolution.End.TheVariants as ends
use Rattle.ipld_paths.specs.declared.resolution.Resolved.{Resolved}
use Rattle.ipld_paths.proofs.Deciding.{go_unique, ends_no_further}
use Rattle.program_index.specs.Ways.{IsSettled}
use Rattle.program_index.proofs.Growing.{LedOver}

pub settled_of : (end : End) → end ≢ ends.NotHeld → ((n : ℕ) → IsEndlessAfter n end) → IsSettled end
settled_of (ends.Item kind place end) held never = tt
settled_of (ends.NoSuchPath left) held never = tt
settled_of ends.NotHeld held never = held refl
settled_of (ends.NoBlock verdict) held never = tt
settled_of ends.NoModel held never = tt
settled_of ends.Endless held never = absurd (omega (arith, never 0))

never_endless : (end : End) → IsSettled end → (n : ℕ) → IsEndlessAfter n end
never_endless (ends.Item kind place end) is n = tt
never_endless (ends.NoSuchPath left) is n = tt
never_endless ends.NotHeld is n = absurd is
never_endless (ends.NoBlock verdict) is n = tt
never_endless ends.NoModel is n = tt
never_endless ends.Endless is n = absurd is

-- there are bytes under the name
settled_bytes : (s : Stored) (name : CidParts) (path : List (List ℕ)) (end : End) → EndsAs s name path end → IsSettled end → (b : List ℕ) × AreBytesOf s name b
settled_bytes s name path (ends.Item kind place end) h is = (h.3.0, h.3.1)
settled_bytes s name path (ends.NoSuchPath left) h is = (h.3.0, h.3.1)
settled_bytes s name path ends.NotHeld h is = absurd is
settled_bytes s name path (ends.NoBlock verdict) h is = (h.0, h.1)
settled_bytes s name path ends.NoModel h is = (h.0, h.1)
settled_bytes s name path ends.Endless h is = absurd is

-- if there are bytes, a path does not end for lack of them
settled_here : (s : Stored) (name : CidParts) (path : List (List ℕ)) (end : End) (b : List ℕ) → AreBytesOf s name b → EndsAs s name path end → end ≢ ends.Endless → IsSettled end
settled_here s name path (ends.Item kind place end) b under h never = tt
settled_here s name path (ends.NoSuchPath left) b under h never = tt
settled_here s name path ends.NotHeld b under h never = h b under
settled_here s name path (ends.NoBlock verdict) b under h never = tt
settled_here s name path ends.NoModel b under h never = tt
settled_here s name path ends.Endless b under h never = never refl

settled_along : (m n : ℕ) (s : Stored) (name : CidParts) (path : List (List ℕ)) (r t : Resolved) → ResolvesIn m s name path r → IsSettled r.end → ResolvesIn n s name path t → (t.end ≡ ends.Endless → m < n) → IsSettled t.end
settled_along zero zero s name path r t h is k late =
    let b = settled_bytes s name path r.end h.2 is in
    settled_here s name path t.end b.0 b.1 k.2 (λ e. omega (arith, late e))
settled_along zero (suc n) s name path r t h is k late = absurd (ends_no_further s name path r.end h.2 (never_endless r.end is) k.0 k.1 k.2)
settled_along (suc m) zero s name path r t h is k late = settled_here s name path t.end h.2.1.2.0 h.2.1.2.1 k.2 (λ e. omega (arith, late e))
settled_along (suc m) (suc n) s name path r t h is k late =
    let same = go_unique s name h.0 k.0 path h.1 k.1 h.2 k.2 in
    settled_along m n s k.0 k.1 r t (subst (λ p. ResolvesIn m s k.0 p r) same.1 (subst (λ q. ResolvesIn m s q h.1 r) same.0 h.3)) is k.3 (λ e. omega (arith, late e))

-- each end of a path is settled if one is
all_settled : (m : ℕ) (s : Stored) (root : CidParts) (path : List (List ℕ)) (r : Resolved) → m < 2 ^ 64 - 1 → ResolvesIn m s root path r → IsSettled r.end → (t : Resolved) → Resolves s root path t → IsSettled t.end
all_settled m s root path r few h is t k = settled_along m k.0 s root path r t h is k.1 (λ e. omega (arith, few, subst (IsEndlessAfter k.0) e k.2))

-- ---- where the walk ends

pub walk_settled : (s : Stored) (root name : CidParts) (path left : List (List ℕ)) (count : ℕ) (r : Resolved) → LedOver s root path count name left → count < 2 ^ 64 - 1 → ResolvesIn 0 s name left r → IsSettled r.end → (t : Resolved) → Resolves s root path t → IsSettled t.end
walk_settled s root name path left count r led few here is =
    let k = led s (λ q b h. h) 0 r here in
    all_settled k.0 s root path r (omega (arith, few, k.1)) k.2 is

pub walk_resolved : (s : Stored) (root name : CidParts) (path left : List (List ℕ)) (count : ℕ) (r : Resolved) → LedOver s root path count name left → ResolvesIn 0 s name left r → ((n : ℕ) → IsEndlessAfter n r.end) → Resolves s root path r
walk_resolved s root name path left count r led here never =
    let k = led s (λ q b h. h) 0 r here in
    (k.0, k.2, never k.0)
