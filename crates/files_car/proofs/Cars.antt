-- Bytes are read as a CAR file in one way at most.
use Rattle.std.proofs.Common.{◌≡◌, inl, inr, ℕ, ◌^◌, ◌<◌, List, [], ◌∷◌, ◌++◌, map, length, length-append, refl, sym, ap, ap₂, ◌∙◌, arith, append_assoc, append-nil, flat_map}
use Rattle.std.specs.List.{AllByRecursion}
use Rattle.ipld_tree.specs.Cid.{varint, CidParts, AreCidParts, cid_bytes}
use Rattle.ipld_tree.specs.Tree.{link, items_of, links_of, items_links}
use Rattle.ipld_tree.specs.Spelling.{spelling}
use Rattle.ipld_tree.proofs.Cids.{varint_unique, form_0, form_1}
use Rattle.ipld_tree.proofs.Unique.{split_at_length, spelling_unique}
use Rattle.files_car.specs.Car.{counted, header_tree, header_bytes, Section, section_body, section_bytes, IsHeader, IsSection, IsCar}

-- ---- a length and its bytes

pub counted_unique : (b c x y : List ℕ) → length b < 2 ^ 64 → length c < 2 ^ 64 → counted b ++ x ≡ counted c ++ y → (b ≡ c) × (x ≡ y)
counted_unique b c x y h l e =
    let v = varint_unique (length b) (length c) (b ++ x) (c ++ y) h l (sym (append_assoc (varint (length b)) b x) ∙ e ∙ append_assoc (varint (length c)) c y) in
    split_at_length b c x y v.0 v.1

-- ---- a CID at the front

fields_front : (codec hash_code : ℕ) (digest x : List ℕ) → (varint codec ++ (varint hash_code ++ (varint (length digest) ++ digest))) ++ x ≡ varint codec ++ (varint hash_code ++ (varint (length digest) ++ (digest ++ x)))
fields_front codec hash_code digest x = simp append_assoc

pub front_1 : (c : CidParts) (x : List ℕ) → c.version ≡ 1 → cid_bytes c ++ x ≡ 0x01 ∷ (varint c.codec ++ (varint c.hash_code ++ (varint (length c.digest) ++ (c.digest ++ x))))
front_1 c x e = ap (λ b. b ++ x) (form_1 c e) ∙ ap (λ b. 0x01 ∷ b) (fields_front c.codec c.hash_code c.digest x)

pub front_0 : (c : CidParts) (x : List ℕ) → c.version ≡ 0 → cid_bytes c ++ x ≡ 0x12 ∷ 0x20 ∷ (c.digest ++ x)
front_0 c x e = ap (λ b. b ++ x) (form_0 c e)

pub cid_front_unique : (c d : CidParts) (x y : List ℕ) → AreCidParts c → AreCidParts d → cid_bytes c ++ x ≡ cid_bytes d ++ y → (c ≡ d) × (x ≡ y)
cid_front_unique c d x y (inl p) (inl q) e =
    let s = sym (front_0 c x p.0) ∙ e ∙ front_0 d y q.0 in
    let t : c.digest ++ x ≡ d.digest ++ y = cc s in
    let same = split_at_length c.digest d.digest x y (p.3 ∙ sym q.3) t in
    (λ i. record { version = (p.0 ∙ sym q.0) i; codec = (p.1 ∙ sym q.1) i; hash_code = (p.2 ∙ sym q.2) i; digest = same.0 i }, same.1)
cid_front_unique c d x y (inl p) (inr q) e = let s = sym (front_0 c x p.0) ∙ e ∙ front_1 d y q.0 in absurd (cc s)
cid_front_unique c d x y (inr p) (inl q) e = let s = sym (front_1 c x p.0) ∙ e ∙ front_0 d y q.0 in absurd (cc s)
cid_front_unique c d x y (inr p) (inr q) e =
    let s = sym (front_1 c x p.0) ∙ e ∙ front_1 d y q.0 in
    let t : varint c.codec ++ (varint c.hash_code ++ (varint (length c.digest) ++ (c.digest ++ x))) ≡ varint d.codec ++ (varint d.hash_code ++ (varint (length d.digest) ++ (d.digest ++ y))) = cc s in
    let codec = varint_unique c.codec d.codec (varint c.hash_code ++ (varint (length c.digest) ++ (c.digest ++ x))) (varint d.hash_code ++ (varint (length d.digest) ++ (d.digest ++ y))) p.1 q.1 t in
    let hash_code = varint_unique c.hash_code d.hash_code (varint (length c.digest) ++ (c.digest ++ x)) (varint (length d.digest) ++ (d.digest ++ y)) p.2 q.2 codec.1 in
    let len = varint_unique (length c.digest) (length d.digest) (c.digest ++ x) (d.digest ++ y) (omega arith) (omega arith) hash_code.1 in
    let digest = split_at_length c.digest d.digest x y len.0 len.1 in
    (λ i. record { version = (p.0 ∙ sym q.0) i; codec = codec.0 i; hash_code = hash_code.0 i; digest = digest.0 i }, digest.1)

-- ---- sections

pub section_unique : (s t : Section) (x y : List ℕ) → IsSection s → IsSection t → section_bytes s ++ x ≡ section_bytes t ++ y → (s ≡ t) × (x ≡ y)
section_unique s t x y p q e =
    let body = counted_unique (section_body s) (section_body t) x y p.1 q.1 e in
    let parts = cid_front_unique s.0 t.0 s.1 t.1 p.0 q.0 body.0 in
    (λ i. (parts.0 i, parts.1 i), body.1)

body_some : (s : Section) → IsSection s → 0 < length (section_body s)
body_some s (inl p, h) = omega (arith, ap length (front_0 s.0 s.1 p.0))
body_some s (inr p, h) = omega (arith, ap length (front_1 s.0 s.1 p.0))

pub section_some : (s : Section) → IsSection s → 0 < length (section_bytes s)
section_some s h = omega (arith, body_some s h, length-append (varint (length (section_body s))) (section_body s))

pub sections_unique : (ss ts : List Section) → AllByRecursion IsSection ss → AllByRecursion IsSection ts → flat_map section_bytes ss ≡ flat_map section_bytes ts → ss ≡ ts
sections_unique [] [] p q e = refl
sections_unique [] (t ∷ ts) p q e = absurd (omega (arith, ap length e, section_some t q.0, length-append (section_bytes t) (flat_map section_bytes ts)))
sections_unique (s ∷ ss) [] p q e = absurd (omega (arith, ap length e, section_some s p.0, length-append (section_bytes s) (flat_map section_bytes ss)))
sections_unique (s ∷ ss) (t ∷ ts) p q e =
    let first = section_unique s t (flat_map section_bytes ss) (flat_map section_bytes ts) p.0 q.0 e in
    ap₂ (λ x xs. x ∷ xs) first.0 (sections_unique ss ts p.1 q.1 first.1)

-- ---- the header

links_of_links : (roots : List (List ℕ)) → items_links (items_of (map link roots)) ≡ roots
links_of_links [] = refl
links_of_links (r ∷ rs) = ap (λ more. r ∷ more) (links_of_links rs)

pub links_of_header : (roots : List (List ℕ)) → links_of (header_tree roots) ≡ roots
links_of_header roots = append-nil (items_links (items_of (map link roots))) ∙ links_of_links roots

pub header_unique : (roots others : List (List ℕ)) (x y : List ℕ) → IsHeader roots → IsHeader others → header_bytes roots ++ x ≡ header_bytes others ++ y → (roots ≡ others) × (x ≡ y)
header_unique roots others x y p q e =
    let inner = counted_unique (spelling (header_tree roots)) (spelling (header_tree others)) x y p.fits q.fits e in
    let trees = spelling_unique (header_tree roots) (header_tree others) [] [] p.spellable q.spellable (ap (λ b. b ++ []) inner.0) in
    (sym (links_of_header roots) ∙ ap links_of trees.0 ∙ links_of_header others, inner.1)

-- ---- the file

pub car_unique : (b : List ℕ) (roots others : List (List ℕ)) (sections more : List Section) → IsCar b roots sections → IsCar b others more → (roots ≡ others) × (sections ≡ more)
car_unique b roots others sections more p q =
    let h = header_unique roots others (flat_map section_bytes sections) (flat_map section_bytes more) p.header q.header (sym p.is ∙ q.is) in
    (h.0, sections_unique sections more p.all q.all h.1)
