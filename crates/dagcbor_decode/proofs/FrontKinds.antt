-- The kind of what is decoded is that of its initial byte.
use Rattle.std.proofs.Common.{◌≡◌, inl, inr, ℕ, zero, suc, ◌/◌, ◌%◌, ◌==◌, List, [], ◌∷◌, length, Bool, true, false, None, codes, pos, negsuc, ap, subst, if◌then◌else◌, nat_lt, arith}
use Rattle.std.proofs.lemmas.Bool.Decides.{eqb_tells}
use Rattle.ipld_tree.specs.Spelling.{IsFront}
use Rattle.ipld_tree.specs.Tree.{Tree, any_need, null, boolean, integer, bytes, text, list, mapping, link}
use Rattle.dagcbor_decode.specs.CidTest.{is_cid}
use Rattle.dagcbor_decode.specs.Decode.{Decoded, Why, got, refused, indefinite_size, after, payload, argument_of, string_of, text_of, no_cid, zero_and_cid, cid_bytes_of, cid_of, tag_of, leaf_of, link_of, simple_of, items_of, entries_of, item_of, list_of, map_of, by_major_type}
use Rattle.dagcbor_decode.specs.TreeKinds.{kind_of, kind_at, IsKindAt, IsKindOfFront}
use Rattle.dagcbor_decode.specs.declared.kind.Kind.{Kind}
use Rattle.dagcbor_decode.specs.declared.kind.Kind.TheVariants as kinds
use Rattle.dagcbor_decode.proofs.Complete.{any_reads}

-- what is read is of the kind
abbrev IsOf : Kind → Decoded Tree → Type 0
IsOf kind r = (t : Tree) (rest : List ℕ) → r ≡ got t rest → kind ≡ kind_of t

of_got : (u : Tree) (b : List ℕ) → IsOf (kind_of u) (got u b)
of_got u b t rest e = let same : u ≡ t = cc e in ap kind_of same

of_none : (kind : Kind) (why : Why) (left : ℕ) → IsOf kind (refused why left)
of_none kind why left t rest e = absurd (cc e)

of_if : (kind : Kind) (c : Bool) (x y : Decoded Tree) → IsOf kind x → IsOf kind y → IsOf kind (if c then x else y)
of_if kind true x y h k = h
of_if kind false x y h k = k

of_after : {A : Type 0} (kind : Kind) (r : Decoded A) (f : A → List ℕ → Decoded Tree) → ((a : A) (b : List ℕ) → IsOf kind (f a b)) → IsOf kind (after r f)
of_after kind (got a b) f h = h a b
of_after kind (refused why left) f h = of_none kind why left

-- ---- links

zero_kind : (s rest : List ℕ) → IsOf kinds.Link (zero_and_cid s rest)
zero_kind [] rest = of_none kinds.Link _ _
zero_kind (zero ∷ cid) rest = of_if kinds.Link (is_cid cid) (got (link cid) rest) (no_cid rest) (of_got (link cid) rest) (of_none kinds.Link _ _)
zero_kind (suc n ∷ cid) rest = of_none kinds.Link _ _

cid_kind : (b : List ℕ) → IsOf kinds.Link (cid_of b)
cid_kind [] = of_none kinds.Link _ _
cid_kind (first ∷ b) = of_if kinds.Link (first / 32 == 2) (after (argument_of (codes "cid") first b) cid_bytes_of) _
    (of_after kinds.Link (argument_of (codes "cid") first b) cid_bytes_of (λ n mid. of_if kinds.Link (nat_lt 87 n) (no_cid mid) (after (payload (codes "cid") n mid) zero_and_cid) (of_none kinds.Link _ _) (of_after kinds.Link (payload (codes "cid") n mid) zero_and_cid zero_kind)))
    (of_none kinds.Link _ _)

tag_kind : (b : List ℕ) → IsOf kinds.Link (tag_of b)
tag_kind [] = of_none kinds.Link _ _
tag_kind (second ∷ b) = of_if kinds.Link (second == 0x2a) (cid_of b) _ (cid_kind b) (of_none kinds.Link _ _)

link_kind : (first : ℕ) (b : List ℕ) → IsOf kinds.Link (link_of first b)
link_kind first b = of_if kinds.Link (first == 0xd8) (tag_of b) _ (tag_kind b) (of_none kinds.Link _ _)

-- ---- simple values

abbrev simple_kind : ℕ → Kind
simple_kind first = if first == 0xf6 then kinds.Null else kinds.Bool

of_simple : (first : ℕ) (b : List ℕ) → IsOf (simple_kind first) (simple_of first b)
of_simple first b t rest e = elim (eqb_tells first 0xf4) [
  | inl h ↦ rw h.1 (of_got (boolean false) b t rest (rw h.0 at e))
  | inr h ↦ elim (eqb_tells first 0xf5) [
    | inl k ↦ rw k.1 (of_got (boolean true) b t rest (rw (h.0, k.0) at e))
    | inr k ↦ elim (eqb_tells first 0xf6) [
      | inl l ↦ rw l.0 (of_got null b t rest (rw (h.0, k.0, l.0) at e))
      | inr l ↦ rw l.0 (of_none kinds.Bool _ _ t rest (rw (h.0, k.0, l.0) at e))
    ]
  ]
]

-- ---- items

leaf_kind : (first : ℕ) (b : List ℕ) → (first / 32 == 4) ≡ false → (first / 32 == 5) ≡ false → IsOf (kind_at first) (leaf_of first b)
leaf_kind first b n4 n5 t rest e = elim (eqb_tells (first / 32) 0) [
  | inl h0 ↦ rw h0.0 (of_after kinds.Integer (argument_of (codes "u64") first b) (λ n. got (integer (pos n))) (λ n mid. of_got (integer (pos n)) mid) t rest (rw h0.0 at e))
  | inr h0 ↦ elim (eqb_tells (first / 32) 1) [
    | inl h1 ↦ rw (h0.0, h1.0) (of_after kinds.Integer (argument_of (codes "any") first b) (λ n. got (integer (negsuc n))) (λ n mid. of_got (integer (negsuc n)) mid) t rest (rw (h0.0, h1.0) at e))
    | inr h1 ↦ elim (eqb_tells (first / 32) 2) [
      | inl h2 ↦ rw (h0.0, h1.0, h2.0) (of_after kinds.Bytes (string_of (codes "bytes") first b) (λ s. got (bytes s)) (λ s mid. of_got (bytes s) mid) t rest (rw (h0.0, h1.0, h2.0) at e))
      | inr h2 ↦ elim (eqb_tells (first / 32) 3) [
        | inl h3 ↦ rw (h0.0, h1.0, h2.0, h3.0) (of_after kinds.String (text_of (codes "string") first b) (λ s. got (text s)) (λ s mid. of_got (text s) mid) t rest (rw (h0.0, h1.0, h2.0, h3.0) at e))
        | inr h3 ↦ elim (eqb_tells (first / 32) 6) [
          | inl h6 ↦ rw (h0.0, h1.0, h2.0, h3.0, n4, n5, h6.0) (link_kind first b t rest (rw (h0.0, h1.0, h2.0, h3.0, h6.0) at e))
          | inr h6 ↦ rw (h0.0, h1.0, h2.0, h3.0, n4, n5, h6.0) (of_simple first b t rest (rw (h0.0, h1.0, h2.0, h3.0, h6.0) at e))
        ]
      ]
    ]
  ]
]

list_kind : (steps first : ℕ) (b : List ℕ) → IsOf kinds.List (list_of steps first b)
list_kind zero first b = of_none kinds.List _ _
list_kind (suc steps) first b = of_after kinds.List (argument_of (codes "array") first b) _ (λ n mid. of_after kinds.List (items_of (item_of steps) n mid) (λ ts. got (list ts)) (λ ts end. of_got (list ts) end))

map_kind : (steps first : ℕ) (b : List ℕ) → IsOf kinds.Map (map_of steps first b)
map_kind zero first b = of_none kinds.Map _ _
map_kind (suc steps) first b = of_after kinds.Map (argument_of (codes "map") first b) _ (λ n mid. of_after kinds.Map (entries_of (item_of steps) n None mid) (λ es. got (mapping es)) (λ es end. of_got (mapping es) end))

kind_after : (steps first : ℕ) (b : List ℕ) → IsOf (kind_at first) (by_major_type (list_of steps) (map_of steps) first b)
kind_after steps first b = of_if (kind_at first) (first % 32 == 31) (refused indefinite_size (length b)) _ (of_none (kind_at first) _ _) (λ t rest e. elim (eqb_tells (first / 32) 4) [
  | inl h4 ↦ rw h4.1 (list_kind steps first b t rest (rw h4.0 at e))
  | inr h4 ↦ elim (eqb_tells (first / 32) 5) [
    | inl h5 ↦ rw h5.1 (map_kind steps first b t rest (rw (h4.0, h5.0) at e))
    | inr h5 ↦ leaf_kind first b h4.0 h5.0 t rest (rw (h4.0, h5.0) at e)
  ]
])

-- if an item is read, its kind is that of its first byte
by_steps : (steps first : ℕ) (more : List ℕ) (t : Tree) (rest : List ℕ) → item_of steps (first ∷ more) ≡ got t rest → kind_at first ≡ kind_of t
by_steps zero first more t rest e = absurd (cc e)
by_steps (suc steps) first more t rest e = kind_after steps first more t rest e

pub kind_is_at : (first : ℕ) → IsKindAt first (kind_at first)
kind_is_at first t more rest f = by_steps (any_need t) first more t rest (any_reads (any_need t) (first ∷ more) t rest f (omega arith))

pub front_kind : (b : List ℕ) (first : ℕ) (more : List ℕ) (kind : Kind) → b ≡ first ∷ more → IsKindAt first kind → IsKindOfFront b kind
front_kind b first more kind is h t rest f = h t more rest (subst (λ b. IsFront b t rest) is f)

pub no_front_kind : (b : List ℕ) (kind : Kind) → length b ≡ 0 → IsKindOfFront b kind
no_front_kind (x ∷ b) kind none t rest f = absurd (omega (arith, none))
no_front_kind [] kind none t rest f = let read = any_reads (any_need t) [] t rest f (omega arith) in none_read (any_need t) read
  where
    none_read : (steps : ℕ) → item_of steps [] ≡ got t rest → kind ≡ kind_of t
    none_read zero e = absurd (cc e)
    none_read (suc steps) e = absurd (cc e)
