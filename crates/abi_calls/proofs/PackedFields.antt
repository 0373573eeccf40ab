-- Writing the packed links of a node's fields into memory.
use Rattle.std.proofs.Common.{◌≡◌, ℕ, map, ◌+◌, ◌^◌, ◌<◌, ◌≤◌, List, [], ◌∷◌, ◌++◌, length, refl, sym, ap, ◌∙◌, subst, arith, append_assoc, append-nil, length-append}
use Rattle.ipld_tree.specs.Cid.{cid_bytes}
use Rattle.dag_pb.specs.Node.{LinkParts, Field, BeginsWithFields}
use Rattle.dag_pb.specs.Reads.{links_in}
use Rattle.lent_memory.proofs.Putting.{overwritten_where_room}
use Rattle.abi_calls.specs.Packed.{packed_cids, packed_fields, PacksCid, PacksFields}
use Rattle.abi_calls.specs.declared.links.PackedLinks.{PackedLinks}
use Rattle.abi_calls.proofs.Packing.{packed_push}
use Rattle.abi_calls.proofs.Putting.{HasPut, cid_put}

-- the binary forms of the links
abbrev forms : List LinkParts → List (List ℕ)
forms links = map (λ link. cid_bytes link.hash) links

forms_push : (ls : List LinkParts) (l : LinkParts) → forms (ls ++ l ∷ []) ≡ forms ls ++ cid_bytes l.hash ∷ []
forms_push [] l = refl
forms_push (m ∷ ls) l = ap (λ fs. cid_bytes m.hash ∷ fs) (forms_push ls l)

push_packed : (ls : List LinkParts) (l : LinkParts) → packed_cids (forms (ls ++ l ∷ [])) ≡ packed_cids (forms ls) ++ (length (cid_bytes l.hash) ∷ cid_bytes l.hash)
push_packed ls l = ap packed_cids (forms_push ls l) ∙ packed_push (forms ls) (cid_bytes l.hash)

-- the links so far were put
pub record FieldsSoFar (fields : List ℕ) (name : ℕ) (before rest : List ℕ) (p : PackedLinks) : Type 0 where
  pub found : List LinkParts
  pub so_far : (row : List Field) → BeginsWithFields fields row [] → (more : List Field) × BeginsWithFields rest more [] × (links_in row ≡ found ++ links_in more)
  pub left : (more : List Field) × BeginsWithFields rest more []
  pub put : HasPut name before (packed_cids (forms found)) p
  pub few : length (packed_cids (forms found)) + length rest ≤ length fields

pub no_field_packed : (fields : List ℕ) (p : PackedLinks) → ((row : List Field) × BeginsWithFields fields row []) → p.needed ≡ 0 → length p.out.now < 2 ^ 64 → FieldsSoFar fields p.out.ghost_name p.out.now fields p
no_field_packed fields p some none small = record {
  found = [];
  so_far = λ row h. (row, h, refl);
  left = some;
  put = record { same_reference = refl; counted = none; fits = small; same_length = refl; stands = λ room. refl };
  few = omega arith;
}

pub one_field_packed : (fields : List ℕ) (name : ℕ) (before rest after : List ℕ) (l : LinkParts) (p q : PackedLinks) → FieldsSoFar fields name before rest p → PacksCid (cid_bytes l.hash) p q
    → ((row : List Field) → BeginsWithFields rest row [] → (more : List Field) × BeginsWithFields after more [] × (links_in row ≡ l ∷ links_in more)) → length (cid_bytes l.hash) + length after < length rest
    → FieldsSoFar fields name before after q
one_field_packed fields name before rest after l p q s put next shorter = record {
  found = s.found ++ l ∷ [];
  so_far = λ row h. let k = s.so_far row h in let n = next k.0 k.1 in (n.0, n.1, k.2 ∙ ap (λ ls. s.found ++ ls) n.2 ∙ sym (append_assoc s.found (l ∷ []) (links_in n.0)));
  left = let n = next s.left.0 s.left.1 in (n.0, n.1);
  put = subst (λ bs. HasPut name before bs q) (sym (push_packed s.found l)) (cid_put name before (packed_cids (forms s.found)) (cid_bytes l.hash) p q s.put put);
  few = omega (arith, s.few, shorter, ap length (push_packed s.found l), length-append (packed_cids (forms s.found)) (length (cid_bytes l.hash) ∷ cid_bytes l.hash));
}

pub all_fields_packed : (fields : List ℕ) (name : ℕ) (before rest : List ℕ) (p : PackedLinks) → length fields < 2 ^ 64 → FieldsSoFar fields name before rest p → ((row : List Field) → BeginsWithFields rest row [] → links_in row ≡ [])
    → PacksFields fields before p.out.now p.needed
all_fields_packed fields name before rest p small s none = λ row h.
    let k = s.so_far row h in
    let is : links_in row ≡ s.found = k.2 ∙ ap (λ ls. s.found ++ ls) (none k.0 k.1) ∙ append-nil s.found in
    let put = subst (λ ls. HasPut name before (packed_cids (forms ls)) p) (sym is) s.put in
    let few : length (packed_fields row) + length rest ≤ length fields = subst (λ ls. length (packed_cids (forms ls)) + length rest ≤ length fields) (sym is) s.few in
    (omega (arith, put.counted, few, small), λ room. put.stands room ∙ sym (overwritten_where_room (packed_fields row) before room))
