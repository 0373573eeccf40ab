-- The fields of a link, read one by one.
use Rattle.std.proofs.Common.{◌≡◌, ◌≢◌, ℕ, ◌+◌, List, [], ◌∷◌, ◌++◌, length, take, Option, None, Some, Bool, true, false, nat_eq, eqb-true, refl, sym, ap, ◌∙◌, subst, arith, append_assoc}
use Rattle.std.proofs.lemmas.Bool.{eqb-false}
use Rattle.std.proofs.lemmas.List.{take_at, append_cancel_left}
use Rattle.ipld_tree.specs.Cid.{cid_bytes, IsCid}
use Rattle.ipld_tree.specs.CidFault.{IsFault}
use Rattle.ipld_tree.specs.declared.cid_error.CidError.{CidError}
use Rattle.dag_pb.specs.Varint.{AreGroups, BeginsWithVarint, BeginsNoVarint, BeginsNoCounted}
use Rattle.dag_pb.specs.Node.{BeginsWithBytes, BeginsNoBytes, MayBeginWithBytes, MayBeNumber, IsLinkEnd, HasOneEnd, LinkParts, IsLink}
use Rattle.dag_pb.specs.declared.error.PbCause.TheVariants.{InvalidCid}
use Rattle.dag_pb.specs.declared.stop.Stop.{Stop}
use Rattle.dag_pb.specs.Causes.{StopsIn}
use Rattle.dag_pb.proofs.Varints.{one_varint}
use Rattle.dag_pb.proofs.Stopping.{stops_after}

-- ---- the field at the front

pub none_in_nothing : BeginsNoVarint []
none_in_nothing n rest (form, v, e) = by form v.groups e
  where
    by : (form : List ℕ) → AreGroups form → [] ≡ form ++ rest → ⊥
    by [] h e = h
    by (a ∷ form) h e = cc e

pub varint_there : (b : List ℕ) (n : ℕ) (rest : List ℕ) → BeginsWithVarint b n rest → b ≢ []
varint_there b n rest h e = none_in_nothing n rest (subst (λ x. BeginsWithVarint x n rest) e h)

pub one_bytes : (b : List ℕ) (t u : ℕ) (p q r s : List ℕ) → BeginsWithBytes t b p r → BeginsWithBytes u b q s → (t ≡ u) × (p ≡ q) × (r ≡ s)
one_bytes b t u p q r s (c, h, k) (d, i, j) =
    let tags = one_varint b t u c d h i in
    let counts = one_varint c (length p) (length q) (p ++ r) (q ++ s) k (subst (λ x. BeginsWithVarint x (length q) (q ++ s)) (sym tags.1) j) in
    let same : p ≡ q = sym (take_at p r (length p) refl) ∙ ap (take (length p)) counts.1 ∙ take_at q s (length p) (sym counts.0) in
    (tags.0, same, append_cancel_left p r s (counts.1 ∙ ap (λ x. x ++ s) (sym same)))

-- how far on the rest lies
pub bytes_parts : (t : ℕ) (b p r : List ℕ) → BeginsWithBytes t b p r → (front : List ℕ) × (b ≡ front ++ (p ++ r))
bytes_parts t b p r (c, (f, v, e), (g, w, d)) = (f ++ g, e ∙ ap (λ x. f ++ x) d ∙ sym (append_assoc f g (p ++ r)))

-- ---- whether there is a field

pub empty_there : (b : List ℕ) (t : Bool) → t ≡ nat_eq (length b) 0 → t ≡ true → b ≡ []
empty_there b t is h = by b (eqb-true (length b) 0 (sym is ∙ h))
  where
    by : (b : List ℕ) → length b ≡ 0 → b ≡ []
    by [] e = refl
    by (x ∷ b) e = absurd (omega (arith, e))

pub some_there : (b : List ℕ) (t : Bool) → t ≡ nat_eq (length b) 0 → t ≡ false → b ≢ []
some_there b t is h e = eqb-false (length b) 0 (sym is ∙ h) (ap length e)

-- ---- the field of bytes

pub no_bytes : (t : ℕ) (b : List ℕ) → BeginsNoVarint b → BeginsNoBytes t b
no_bytes t b none p r (c, h, k) = none t c h

pub other_bytes : (t n : ℕ) (b rest : List ℕ) → BeginsWithVarint b n rest → n ≢ t → BeginsNoBytes t b
other_bytes t n b rest h other p r (c, i, k) = other (one_varint b n t rest c h i).0

pub no_counted_bytes : (t : ℕ) (b rest : List ℕ) → BeginsWithVarint b t rest → BeginsNoCounted rest → BeginsNoBytes t b
no_counted_bytes t b rest h none p r (c, i, k) = none p r (subst (λ x. BeginsWithVarint x (length p) (p ++ r)) (sym (one_varint b t t rest c h i).1) k)

pub stops_after_varint : (b : List ℕ) (n : ℕ) (rest : List ℕ) (stop : Stop) → BeginsWithVarint b n rest → StopsIn rest stop → StopsIn b stop
stops_after_varint b n rest stop (form, v, e) h = stops_after b form rest stop e h

-- ---- the CID

pub no_hash : (b : List ℕ) → BeginsNoBytes 0x0a b → (link : LinkParts) → IsLink b link → ⊥
no_hash b none link h = none (cid_bytes link.hash) h.following h.hash

pub no_hash_in_nothing : (b : List ℕ) → b ≡ [] → (link : LinkParts) → IsLink b link → ⊥
no_hash_in_nothing b e = no_hash b (no_bytes 0x0a b (subst BeginsNoVarint (sym e) none_in_nothing))

pub no_cid : (b form rest : List ℕ) → BeginsWithBytes 0x0a b form rest → (IsCid form → ⊥) → (link : LinkParts) → IsLink b link → ⊥
no_cid b form rest h none link k = none (link.hash, k.valid, (one_bytes b 0x0a 0x0a form (cid_bytes link.hash) rest k.following h k.hash).1)

pub stops_at_cid : (b form rest : List ℕ) (fault : CidError) → BeginsWithBytes 0x0a b form rest → IsFault fault form → StopsIn b (record { cause = InvalidCid fault; left = length form + length rest })
stops_at_cid b form rest fault h f = let k = bytes_parts 0x0a b form rest h in (k.0, form, rest, k.1, refl, f)

-- ---- the size

-- the bytes are not a field of a size
abbrev pub IsNoSize : List ℕ → Type 0
IsNoSize b = (size : Option ℕ) → MayBeNumber 0x18 b size → ⊥

pub no_size : (b : List ℕ) → b ≢ [] → BeginsNoVarint b → IsNoSize b
no_size b there none None h = there h
no_size b there none (Some n) (c, h, k) = none 0x18 c h

pub other_size : (b : List ℕ) (n : ℕ) (rest : List ℕ) → BeginsWithVarint b n rest → n ≢ 0x18 → IsNoSize b
other_size b n rest h other None k = varint_there b n rest h k
other_size b n rest h other (Some m) (c, i, k) = other (one_varint b n 0x18 rest c h i).0

pub no_number_size : (b rest : List ℕ) → BeginsWithVarint b 0x18 rest → BeginsNoVarint rest → IsNoSize b
no_number_size b rest h none None k = varint_there b 0x18 rest h k
no_number_size b rest h none (Some m) (c, i, k) = none m [] (subst (λ x. BeginsWithVarint x m []) (sym (one_varint b 0x18 0x18 rest c h i).1) k)

pub more_size : (b c rest : List ℕ) (n : ℕ) → BeginsWithVarint b 0x18 c → BeginsWithVarint c n rest → rest ≢ [] → IsNoSize b
more_size b c rest n h k there None j = varint_there b 0x18 c h j
more_size b c rest n h k there (Some m) (d, i, j) =
    let same = one_varint b 0x18 0x18 c d h i in
    there (one_varint c n m rest [] k (subst (λ x. BeginsWithVarint x m []) (sym same.1) j)).1

pub stops_after_two : (b c rest : List ℕ) (m n : ℕ) (stop : Stop) → BeginsWithVarint b m c → BeginsWithVarint c n rest → StopsIn rest stop → StopsIn b stop
stops_after_two b c rest m n stop h k s = stops_after_varint b m c stop h (stops_after_varint c n rest stop k s)

-- ---- the name

abbrev pub IsNoLinkEnd : List ℕ → Type 0
IsNoLinkEnd b = (name : Option (List ℕ)) (tsize : Option ℕ) → IsLinkEnd b name tsize → ⊥

pub no_link_end : (b : List ℕ) → b ≢ [] → BeginsNoVarint b → IsNoLinkEnd b
no_link_end b there none None size (r, e, k) = no_size b there none size (subst (λ x. MayBeNumber 0x18 x size) (sym e) k)
no_link_end b there none (Some name) size (r, (c, h, i), k) = none 0x12 c h

pub no_counted_name : (b rest : List ℕ) → BeginsWithVarint b 0x12 rest → BeginsNoCounted rest → IsNoLinkEnd b
no_counted_name b rest h none None size (r, e, k) = other_size b 0x12 rest h (λ e. absurd (omega (arith, e))) size (subst (λ x. MayBeNumber 0x18 x size) (sym e) k)
no_counted_name b rest h none (Some name) size (r, i, k) = no_counted_bytes 0x12 b rest h none name r i

pub end_without_name : (b : List ℕ) (n : ℕ) (rest : List ℕ) → BeginsWithVarint b n rest → n ≢ 0x12 → HasOneEnd b b
end_without_name b n rest h other None size r e k = sym e
end_without_name b n rest h other (Some name) size r i k = absurd (other_bytes 0x12 n b rest h other name r i)

pub end_with_name : (b name rest : List ℕ) → BeginsWithBytes 0x12 b name rest → HasOneEnd b rest
end_with_name b name rest (c, h, j) None size r e k = absurd (other_size b 0x12 c h (λ e. absurd (omega (arith, e))) size (subst (λ x. MayBeNumber 0x18 x size) (sym e) k))
end_with_name b name rest h (Some other) size r i k = sym (one_bytes b 0x12 0x12 name other rest r h i).2

-- ---- a link

pub may_parts : (t : ℕ) (b : List ℕ) (name : Option (List ℕ)) (r : List ℕ) → MayBeginWithBytes t b name r → (front : List ℕ) × (b ≡ front ++ r)
may_parts t b None r e = ([], e)
may_parts t b (Some name) r h = let k = bytes_parts t b name r h in (k.0 ++ name, k.1 ∙ sym (append_assoc k.0 name r))

pub stops_in_size : (b : List ℕ) (name : Option (List ℕ)) (rest : List ℕ) (stop : Stop) → MayBeginWithBytes 0x12 b name rest → StopsIn rest stop → StopsIn b stop
stops_in_size b name rest stop h s = let k = may_parts 0x12 b name rest h in stops_after b k.0 rest stop k.1 s

pub no_size_end : (b rest : List ℕ) → HasOneEnd b rest → IsNoSize rest → IsNoLinkEnd b
no_size_end b rest one none name size (r, h, k) = none size (subst (λ x. MayBeNumber 0x18 x size) (one name size r h k) k)

pub no_end : (b form rest : List ℕ) → BeginsWithBytes 0x0a b form rest → IsNoLinkEnd rest → (link : LinkParts) → IsLink b link → ⊥
no_end b form rest h none link k = none link.name link.tsize (subst (λ x. IsLinkEnd x link.name link.tsize) (sym (one_bytes b 0x0a 0x0a form (cid_bytes link.hash) rest k.following h k.hash).2) k.ends)

pub stops_after_hash : (b form rest : List ℕ) (stop : Stop) → BeginsWithBytes 0x0a b form rest → StopsIn rest stop → StopsIn b stop
stops_after_hash b form rest stop h s =
    let k = bytes_parts 0x0a b form rest h in
    stops_after b (k.0 ++ form) rest stop (k.1 ∙ sym (append_assoc k.0 form rest)) s
