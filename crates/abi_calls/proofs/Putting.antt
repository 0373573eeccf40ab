-- Writing packed links into memory.
use Rattle.std.proofs.Common.{◌≡◌, ℕ, ℤ, min, map, ◌-◌, ◌^◌, ◌<◌, ◌≤◌, List, [], ◌∷◌, ◌++◌, length, drop, refl, sym, ap, ◌∙◌, subst, arith, append_assoc, append-nil, length-append}
use Rattle.dagcbor_core.specs.declared.error.DecodeError.{DecodeError}
use Rattle.ipld_tree.specs.Cid.{CidParts, cid_bytes}
use Rattle.ipld_tree.specs.Tree.{Tree}
use Rattle.dagcbor_decode.specs.Decode.{Decoded, got, refused, decode_first}
use Rattle.dagcbor_decode.specs.Rows.{HoldsLinks, IsFirstItem}
use Rattle.dagcbor_decode.specs.TreeKinds.{kind_of, IsKindOfFront}
use Rattle.dagcbor_decode.specs.declared.kind.Kind.{Kind}
use Rattle.ipld_tree.specs.Spelling.{spelling}
use Rattle.dagcbor_decode.specs.Verdicts.{IsRefusal}
use Rattle.dagcbor_decode.proofs.Rows.{LinksSoFar, none_so_far, one_so_far, all_so_far, some_left}
use Rattle.abi_calls.specs.Answers.{packed_of, links_answer}
use Rattle.abi_calls.specs.Codes.{kind_code, why_code, decoded_code, refusal_code}
use Rattle.abi_calls.specs.Packed.{packed_cids, packed_links, PacksBytes, PacksCid, Packs}
use Rattle.lent_memory.specs.Puts.{with_front, put_at}
use Rattle.lent_memory.proofs.Putting.{length_put_at, put_after, overwritten_where_room, nothing_at_front}
use Rattle.abi_calls.specs.declared.links.PackedLinks.{PackedLinks}
use Rattle.abi_calls.proofs.Packing.{packed_push, row_fits}
use Rattle.abi_calls.proofs.Decoding.{why_told}

-- ---- packed links

-- just these bytes were put into the memory of this name, and they are at its front if they all fit
pub record HasPut (name : ℕ) (before bytes : List ℕ) (p : PackedLinks) : Type 0 where
  pub same_reference : p.out.ghost_name ≡ name
  pub counted : p.needed ≡ min (length bytes) (2 ^ 64 - 1)
  pub fits : length before < 2 ^ 64
  pub same_length : length p.out.now ≡ length before
  pub stands : length bytes ≤ length before → p.out.now ≡ bytes ++ drop (length bytes) before

put_more : (name : ℕ) (before bs more : List ℕ) (p q : PackedLinks) → HasPut name before bs p → PacksBytes more p q → HasPut name before (bs ++ more) q
put_more name before bs more p q h g =
    let l = length-append bs more in
    record {
      same_reference = g.same_reference ∙ h.same_reference;
      counted = omega (arith, g.counted, h.counted, l);
      fits = h.fits;
      same_length = ap length g.stands ∙ length_put_at p.needed more p.out.now ∙ h.same_length;
      stands = λ room.
          let exact : p.needed ≡ length bs = omega (arith, h.counted, h.fits, l, room) in
          let first : p.out.now ≡ bs ++ drop (length bs) before = h.stands (omega (arith, l, room)) in
          g.stands ∙ ap (λ n. put_at n more p.out.now) exact ∙ ap (λ old. put_at (length bs) more old) first ∙ put_after bs more before (omega (arith, l, room));
    }

pub cid_put : (name : ℕ) (before bs cid : List ℕ) (p q : PackedLinks) → HasPut name before bs p → PacksCid cid p q → HasPut name before (bs ++ (length cid ∷ cid)) q
cid_put name before bs cid p q h k =
    subst (λ x. HasPut name before x q) (append_assoc bs (length cid ∷ []) cid)
    (put_more name before (bs ++ length cid ∷ []) cid k.0 q (put_more name before bs (length cid ∷ []) p k.0 h k.1) k.2)

-- the links so far were put
pub record PackedSoFar (items : List ℕ) (name : ℕ) (before rest : List ℕ) (p : PackedLinks) : Type 0 where
  pub found : List CidParts
  pub so_far : LinksSoFar items found rest
  pub put : HasPut name before (packed_cids (map cid_bytes found)) p

pub none_packed : (items : List ℕ) (p : PackedLinks) → ((links : List (List ℕ)) × HoldsLinks items links) → p.needed ≡ 0 → length p.out.now < 2 ^ 64 → PackedSoFar items p.out.ghost_name p.out.now items p
none_packed items p some none small = record { found = []; so_far = none_so_far items some; put = record { same_reference = refl; counted = none; fits = small; same_length = refl; stands = λ room. refl } }

map_push : (cs : List CidParts) (c : CidParts) → map cid_bytes (cs ++ c ∷ []) ≡ map cid_bytes cs ++ cid_bytes c ∷ []
map_push [] c = refl
map_push (x ∷ xs) c = ap (λ fs. cid_bytes x ∷ fs) (map_push xs c)

pub one_packed : (items : List ℕ) (name : ℕ) (before rest after : List ℕ) (c : CidParts) (p q : PackedLinks) → PackedSoFar items name before rest p → PacksCid (cid_bytes c) p q
    → ((links : List (List ℕ)) → HoldsLinks rest links → (more : List (List ℕ)) × (links ≡ cid_bytes c ∷ more) × HoldsLinks after more) → PackedSoFar items name before after q
one_packed items name before rest after c p q s put next = record {
  found = s.found ++ c ∷ [];
  so_far = one_so_far items s.found c rest after s.so_far next;
  put = subst (λ bs. HasPut name before bs q) (sym (ap packed_cids (map_push s.found c) ∙ packed_push (map cid_bytes s.found) (cid_bytes c))) (cid_put name before (packed_cids (map cid_bytes s.found)) (cid_bytes c) p q s.put put);
}

pub all_packed : (items : List ℕ) (name : ℕ) (before rest : List ℕ) (p : PackedLinks) → length items < 2 ^ 64 → PackedSoFar items name before rest p → ((links : List (List ℕ)) → HoldsLinks rest links → links ≡ []) → Packs items before p.out.now p.needed
all_packed items name before rest p small s none = λ links h.
    let is = all_so_far items s.found rest s.so_far none links h in
    let put = subst (λ ls. HasPut name before (packed_cids ls) p) is s.put in
    (omega (arith, put.counted, row_fits items links h, small), λ room. put.stands room ∙ sym (overwritten_where_room (packed_cids links) before room))

pub some_left_packed : {items : List ℕ} {name : ℕ} {before rest : List ℕ} {p : PackedLinks} → PackedSoFar items name before rest p → (links : List (List ℕ)) × HoldsLinks rest links
some_left_packed {items} {name} {before} {rest} s = some_left items s.found rest s.so_far

-- ---- the answer

same_three : {A B C : Type 0} (a x : A) (b y : B) (c z : C) → a ≡ x → b ≡ y → c ≡ z → ◌≡◌ {A = A × B × C} (a, b, c) (x, y, z)
same_three {A} {B} {C} a x b y c z d e f = ap (λ (k : A). (k, b, c)) d ∙ ap (λ (k : B). (x, k, c)) e ∙ ap (λ (k : C). (x, y, k)) f

pub links_put : (b item old new : List ℕ) (needed : ℕ) (code : ℤ) (f : IsFirstItem b item) → code ≡ kind_code (kind_of f.tree) → needed ≡ length (packed_links f.tree) → new ≡ with_front (packed_links f.tree) old → ◌≡◌ {A = ℤ × ℕ × List ℕ} (code, needed, new) (links_answer b old)
links_put b item old new needed code f k count put =
    same_three code (kind_code (kind_of f.tree)) needed (length (packed_links f.tree)) new (with_front (packed_links f.tree) old) k count put
    ∙ ap (λ d. (decoded_code d, length (packed_of d), with_front (packed_of d) old)) (sym f.decoded)

-- the kind of a whole item is that of its tree
pub whole_kind : {b item : List ℕ} {kind : Kind} (f : IsFirstItem b item) → IsKindOfFront item kind → kind_code kind ≡ kind_code (kind_of f.tree)
whole_kind {b} {item} {kind} f h = ap kind_code (h f.tree [] record { well_formed = f.spelled.well_formed; spellable = f.spelled.spellable; is = f.spelled.is ∙ sym (append-nil (spelling f.tree)) })

pub none_put : {E : Type 0} (b old : List ℕ) (e : DecodeError E) → IsRefusal (decode_first b) e → ◌≡◌ {A = ℤ × ℕ × List ℕ} (refusal_code e, 0, old) (links_answer b old)
none_put {E} b old e h = by (decode_first b) h
  where
    by : (d : Decoded Tree) → IsRefusal d e → ◌≡◌ {A = ℤ × ℕ × List ℕ} (refusal_code e, 0, old) (decoded_code d, length (packed_of d), with_front (packed_of d) old)
    by (got t rest) r = absurd r
    by (refused why left) r = same_three (refusal_code e) (why_code why) 0 0 old (with_front [] old) (why_told e why r) refl (sym (nothing_at_front old))
