-- The fields of a node in a row.
use Rattle.std.proofs.Common.{◌≡◌, ◌≢◌, ℕ, ◌+◌, ◌<◌, ◌≤◌, List, [], ◌∷◌, ◌++◌, length, length-append, Option, None, Some, refl, sym, ap, ◌∙◌, subst, arith, append_assoc, append-nil}
use Rattle.std.specs.List.{AllByRecursion}
use Rattle.ipld_tree.specs.Cid.{CidParts, AreCidParts, cid_bytes}
use Rattle.ipld_tree.proofs.Cids.{cid_unique}
use Rattle.dag_pb.specs.Varint.{AreGroups, BeginsWithVarint, BeginsNoVarint, BeginsNoCounted}
use Rattle.dag_pb.specs.Node.{BeginsWithBytes, MayBeNumber, IsLinkEnd, LinkParts, IsLink, Field, link_field, data_field, BeginsWithField, BeginsNoField, BeginsWithFields}
use Rattle.dag_pb.specs.Reads.{links_in}
use Rattle.dag_pb.specs.Orders.{field_tag}
use Rattle.dag_pb.specs.declared.error.PbCause.{PbCause}
use Rattle.dag_pb.specs.declared.error.PbCause.TheVariants.{UnexpectedField}
use Rattle.dag_pb.specs.declared.stop.Stop.{Stop}
use Rattle.dag_pb.specs.Causes.{StopsIn, CauseIn}
use Rattle.dag_pb.proofs.Varints.{one_varint}
use Rattle.dag_pb.proofs.Stopping.{stops_here, stops_after}
use Rattle.dag_pb.proofs.Fields.{varint_there, one_bytes, bytes_parts, no_bytes, other_bytes, no_counted_bytes, other_size}

-- ---- one field

pub no_field : (b : List ℕ) → BeginsNoVarint b → BeginsNoField b
no_field b none (link_field link) rest (message, h, l) = no_bytes 0x12 b none message rest h
no_field b none (data_field inner) rest h = no_bytes 0x0a b none inner rest h

pub other_field : (b : List ℕ) (n : ℕ) (following : List ℕ) → BeginsWithVarint b n following → n ≢ 0x0a → n ≢ 0x12 → BeginsNoField b
other_field b n following h a l (link_field link) rest (message, k, m) = other_bytes 0x12 n b following h l message rest k
other_field b n following h a l (data_field inner) rest k = other_bytes 0x0a n b following h a inner rest k

pub no_data_field : (b following : List ℕ) → BeginsWithVarint b 0x0a following → BeginsNoCounted following → BeginsNoField b
no_data_field b following h none (link_field link) rest (message, k, m) = other_bytes 0x12 0x0a b following h (λ e. absurd (omega (arith, e))) message rest k
no_data_field b following h none (data_field inner) rest k = no_counted_bytes 0x0a b following h none inner rest k

pub no_message : (b following : List ℕ) → BeginsWithVarint b 0x12 following → BeginsNoCounted following → BeginsNoField b
no_message b following h none (link_field link) rest (message, k, m) = no_counted_bytes 0x12 b following h none message rest k
no_message b following h none (data_field inner) rest k = other_bytes 0x0a 0x12 b following h (λ e. absurd (omega (arith, e))) inner rest k

pub no_link_field : (b message following : List ℕ) → BeginsWithBytes 0x12 b message following → ((link : LinkParts) → IsLink message link → ⊥) → BeginsNoField b
no_link_field b message following h none (link_field link) rest (other, k, m) = none link (subst (λ x. IsLink x link) (sym (one_bytes b 0x12 0x12 message other following rest h k).1) m)
no_link_field b message following h none (data_field inner) rest k = absurd (omega (arith, (one_bytes b 0x12 0x0a message inner following rest h k).0))

-- a stop in a link's message is a stop in the whole
pub stops_in_message : (b message following : List ℕ) (stop : Stop) → BeginsWithBytes 0x12 b message following → StopsIn message stop → StopsIn b (record { cause = stop.cause; left = stop.left + length following })
stops_in_message b message following stop h (before, at, rest, is, left, cause) =
    let k = bytes_parts 0x12 b message following h in (
      k.0 ++ before,
      at,
      rest ++ following,
      k.1 ∙ ap (λ m. k.0 ++ (m ++ following)) is ∙ ap (λ x. k.0 ++ x) (append_assoc before (at ++ rest) following ∙ ap (λ x. before ++ x) (append_assoc at rest following)) ∙ sym (append_assoc k.0 before (at ++ (rest ++ following))),
      omega (arith, left, length-append rest following),
      cause,
    )

-- ---- no two

one_number : (b : List ℕ) (s t : Option ℕ) → MayBeNumber 0x18 b s → MayBeNumber 0x18 b t → s ≡ t
one_number b None None h k = refl
one_number b None (Some n) h (c, i, k) = absurd (varint_there b 0x18 c i h)
one_number b (Some m) None (c, i, h) k = absurd (varint_there b 0x18 c i k)
one_number b (Some m) (Some n) (c, i, h) (d, j, k) =
    let same = one_varint b 0x18 0x18 c d i j in
    ap Some (one_varint c m n [] [] h (subst (λ x. BeginsWithVarint x n []) (sym same.1) k)).0

one_link_end : (b : List ℕ) (m n : Option (List ℕ)) (s t : Option ℕ) → IsLinkEnd b m s → IsLinkEnd b n t → (m ≡ n) × (s ≡ t)
one_link_end b None None s t (r, e, h) (q, f, k) = (refl, one_number r s t h (subst (λ x. MayBeNumber 0x18 x t) (sym f ∙ e) k))
one_link_end b None (Some y) s t (r, e, h) (q, (c, i, j), k) = absurd (other_size b 0x12 c i (λ o. absurd (omega (arith, o))) s (subst (λ x. MayBeNumber 0x18 x s) (sym e) h))
one_link_end b (Some x) None s t (r, (c, i, j), h) (q, f, k) = absurd (other_size b 0x12 c i (λ o. absurd (omega (arith, o))) t (subst (λ x. MayBeNumber 0x18 x t) (sym f) k))
one_link_end b (Some x) (Some y) s t (r, i, h) (q, j, k) =
    let same = one_bytes b 0x12 0x12 x y r q i j in
    (ap Some same.1, one_number r s t h (subst (λ x. MayBeNumber 0x18 x t) (sym same.2) k))

pub one_link : (b : List ℕ) (k l : LinkParts) → IsLink b k → IsLink b l → k ≡ l
one_link b k l h i =
    let same = one_bytes b 0x0a 0x0a (cid_bytes k.hash) (cid_bytes l.hash) h.following i.following h.hash i.hash in
    let hash = cid_unique k.hash l.hash h.valid i.valid same.1 in
    let ends = one_link_end h.following k.name l.name k.tsize l.tsize h.ends (subst (λ x. IsLinkEnd x l.name l.tsize) (sym same.2) i.ends) in
    λ j. record { hash = hash j; name = ends.0 j; tsize = ends.1 j }

pub one_field : (b : List ℕ) (f g : Field) (r s : List ℕ) → BeginsWithField b f r → BeginsWithField b g s → (f ≡ g) × (r ≡ s)
one_field b (link_field k) (link_field l) r s (m, h, i) (n, j, o) =
    let same = one_bytes b 0x12 0x12 m n r s h j in
    (ap link_field (one_link m k l i (subst (λ x. IsLink x l) (sym same.1) o)), same.2)
one_field b (link_field k) (data_field q) r s (m, h, i) j = absurd (omega (arith, (one_bytes b 0x12 0x0a m q r s h j).0))
one_field b (data_field p) (link_field l) r s h (n, j, o) = absurd (omega (arith, (one_bytes b 0x0a 0x12 p n r s h j).0))
one_field b (data_field p) (data_field q) r s h j = let same = one_bytes b 0x0a 0x0a p q r s h j in (ap data_field same.1, same.2)

-- ---- how a field begins

pub field_begins : (b : List ℕ) (f : Field) (r : List ℕ) → BeginsWithField b f r → (c : List ℕ) × BeginsWithVarint b (field_tag f) c
field_begins b (link_field k) r (m, (c, h, i), l) = (c, h)
field_begins b (data_field p) r (c, h, i) = (c, h)

pub field_there : (b : List ℕ) (f : Field) (r : List ℕ) → BeginsWithField b f r → b ≢ []
field_there b f r h = let k = field_begins b f r h in varint_there b (field_tag f) k.0 k.1

form_some : (form : List ℕ) → AreGroups form → 0 < length form
form_some [] h = absurd h
form_some (a ∷ form) h = omega arith

bytes_shorter : (t : ℕ) (b p r : List ℕ) → BeginsWithBytes t b p r → length r < length b
bytes_shorter t b p r (c, (f, v, e), (g, w, d)) = omega (arith, ap length e, length-append f c, ap length d, length-append g (p ++ r), length-append p r, form_some f v.groups)

pub field_shorter : (b : List ℕ) (f : Field) (r : List ℕ) → BeginsWithField b f r → length r < length b
field_shorter b (link_field k) r (m, h, l) = bytes_shorter 0x12 b m r h
field_shorter b (data_field p) r h = bytes_shorter 0x0a b p r h

-- the bytes after a link are shorter than the whole by more than its CID
pub link_shorter : (b : List ℕ) (link : LinkParts) (r : List ℕ) → BeginsWithField b (link_field link) r → length (cid_bytes link.hash) + length r < length b
link_shorter b link r (m, (c, (f, v, e), (g, w, d)), l) =
    let k = bytes_parts 0x0a m (cid_bytes link.hash) l.following l.hash in
    omega (arith, ap length e, length-append f c, ap length d, length-append g (m ++ r), length-append m r, form_some f v.groups, ap length k.1, length-append k.0 (cid_bytes link.hash ++ l.following), length-append (cid_bytes link.hash) l.following)

field_parts : (b : List ℕ) (f : Field) (r : List ℕ) → BeginsWithField b f r → (front : List ℕ) × (b ≡ front ++ r)
field_parts b (link_field k) r (m, h, l) = let s = bytes_parts 0x12 b m r h in (s.0 ++ m, s.1 ∙ sym (append_assoc s.0 m r))
field_parts b (data_field p) r h = let s = bytes_parts 0x0a b p r h in (s.0 ++ p, s.1 ∙ sym (append_assoc s.0 p r))

-- ---- rows

pub row_end : (b : List ℕ) (fs : List Field) (rest : List ℕ) (f : Field) (more : List ℕ) → BeginsWithFields b fs rest → BeginsWithField rest f more → BeginsWithFields b (fs ++ f ∷ []) more
row_end b [] rest f more e h = (more, subst (λ x. BeginsWithField x f more) (sym e) h, refl)
row_end b (g ∷ fs) rest f more (c, i, k) h = (c, i, row_end c fs rest f more k h)

pub row_parts : (b : List ℕ) (fs : List Field) (rest : List ℕ) → BeginsWithFields b fs rest → (front : List ℕ) × (b ≡ front ++ rest)
row_parts b [] rest e = ([], e)
row_parts b (f ∷ fs) rest (c, h, k) =
    let s = field_parts b f c h in
    let t = row_parts c fs rest k in
    (s.0 ++ t.0, s.1 ∙ ap (λ x. s.0 ++ x) t.1 ∙ sym (append_assoc s.0 t.0 rest))

-- if a row begins with these fields, the rest of it is left
pub row_left : (b : List ℕ) (fs gs : List Field) (rest : List ℕ) → BeginsWithFields b fs rest → BeginsWithFields b gs [] → (hs : List Field) × (gs ≡ fs ++ hs) × BeginsWithFields rest hs []
row_left b [] gs rest e k = (gs, refl, subst (λ x. BeginsWithFields x gs []) e k)
row_left b (f ∷ fs) [] rest (c, h, i) k = absurd (field_there b f c h k)
row_left b (f ∷ fs) (g ∷ gs) rest (c, h, i) (d, j, k) =
    let same = one_field b f g c d h j in
    let left = row_left c fs gs rest i (subst (λ x. BeginsWithFields x gs []) (sym same.1) k) in
    (left.0, (λ p. sym same.0 p ∷ left.1 p), left.2)

-- a row that is not over
pub row_first : (b : List ℕ) (gs : List Field) → b ≢ [] → BeginsWithFields b gs [] → (g : Field) × (more : List Field) × (rest : List ℕ) × (gs ≡ g ∷ more) × BeginsWithField b g rest × BeginsWithFields rest more []
row_first b [] there e = absurd (there e)
row_first b (g ∷ gs) there (c, h, k) = (g, gs, c, refl, h, k)

pub row_over : (b : List ℕ) (gs : List Field) → b ≡ [] → BeginsWithFields b gs [] → gs ≡ []
row_over b [] e h = refl
row_over b (g ∷ gs) e (c, h, k) = absurd (field_there b g c h e)

pub stops_in_row : (b : List ℕ) (fs : List Field) (rest : List ℕ) (stop : Stop) → BeginsWithFields b fs rest → StopsIn rest stop → StopsIn b stop
stops_in_row b fs rest stop h s = let k = row_parts b fs rest h in stops_after b k.0 rest stop k.1 s

pub stops_at_field : (b : List ℕ) (f : Field) (more : List ℕ) (tag : ℕ) (stop : Stop) → BeginsWithField b f more → tag ≡ field_tag f → stop ≡ record { cause = UnexpectedField tag; left = length b } → StopsIn b stop
stops_at_field b f more tag stop h is e =
    let k = field_begins b f more h in
    stops_here b (UnexpectedField tag) stop e (k.0, subst (λ n. BeginsWithVarint b n k.0) (sym is) k.1)

pub left_fits : (b : List ℕ) (cause : PbCause) (left : ℕ) → CauseIn cause b left → left ≤ length b
left_fits b cause left (before, at, following, is, e, h) = omega (arith, ap length is, length-append before (at ++ following), length-append at following, e)

-- a row that is the whole is one
pub one_row : (b : List ℕ) (fs gs : List Field) → BeginsWithFields b fs [] → BeginsWithFields b gs [] → fs ≡ gs
one_row b fs gs h k =
    let left = row_left b fs gs [] h k in
    sym (left.1 ∙ ap (λ x. fs ++ x) (row_over [] left.0 refl left.2) ∙ append-nil fs)

-- the names of its links are CIDs
pub row_links : (b : List ℕ) (fs : List Field) (rest : List ℕ) → BeginsWithFields b fs rest → (P : List ℕ → Type 0) → ((c : CidParts) → AreCidParts c → P (cid_bytes c)) → AllByRecursion (λ l. P (cid_bytes l.hash)) (links_in fs)
row_links b [] rest h P all = tt
row_links b (link_field l ∷ fs) rest (c, (m, h, i), k) P all = (all l.hash i.valid, row_links c fs rest k P all)
row_links b (data_field d ∷ fs) rest (c, h, k) P all = row_links c fs rest k P all
