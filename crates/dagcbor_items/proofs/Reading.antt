-- The functions read the trees that are in bytes.
use Rattle.std.proofs.Common.{◌≡◌, ℕ, ℤ, List, length, true, false, Option, Some, codes, chars, refl, sym, ap, ◌∙◌, subst, arith, append_assoc}
use Rattle.dagcbor_core.specs.Head.{head}
use Rattle.ipld_tree.specs.Tree.{Tree, null, boolean, integer, text, bytes, link}
use Rattle.ipld_tree.specs.Spelling.{IsFront}
use Rattle.dagcbor_decode.specs.Decode.{got, after, item_of}
use Rattle.dagcbor_decode.proofs.Complete.{any_reads}
use Rattle.dagcbor_items.specs.Shapes.{number_of, natural_below, within, view_number, view_text, view_char, view_bytes, view_null, view_bool, only}
use Rattle.dagcbor_items.specs.Leaves.{in_range, one_char, number_at, big_number_at, text_at, char_at, string_at, byte_at, bool_at, link_at}
use Rattle.dagcbor_items.specs.Laws.{Reads, ReadsAreDecoded}
use Rattle.dagcbor_items.proofs.LeafRefusals.{head_stands, string_stands, text_stands}
use Rattle.dagcbor_items.proofs.Integers.{number_head_read, big_head_stands}

-- ---- numbers

number_shown : {V : Type 0} (accepted : ℤ → Option V) (t : Tree) (v : V) → view_number accepted t ≡ Some v → (n : ℤ) × (t ≡ integer n) × (accepted n ≡ Some v)
number_shown accepted (integer n) v e = (n, refl, e)
number_shown accepted _ v e = absurd (cc e)

numbers : {V : Type 0} (name : List ℕ) (accepted : ℤ → Option V) → Reads (number_at name accepted) (view_number accepted)
numbers name accepted b t rest v f e =
    let n = number_shown accepted t v e in
    let h = number_head_read name n.0 b rest (subst (λ u. IsFront b u rest) n.1 f) in
    ap (λ x. after x (λ h. in_range name (accepted (number_of h.0 h.1)))) (head_stands name 0 1 h.0.0 h.0.1 b rest h.3 (omega arith) h.2 h.4)
    ∙ ap (λ o. in_range name o rest) (ap accepted h.1 ∙ n.2)

big_numbers : {V : Type 0} (name : List ℕ) (accepted : ℤ → Option V) → Reads (big_number_at name accepted) (view_number accepted)
big_numbers name accepted b t rest v f e =
    let n = number_shown accepted t v e in
    let h = number_head_read name n.0 b rest (subst (λ u. IsFront b u rest) n.1 f) in
    ap (λ x. after x (λ h. in_range name (accepted (number_of h.0 h.1)))) (big_head_stands name h.0.0 h.0.1 b rest h.3 h.2 h.4)
    ∙ ap (λ o. in_range name o rest) (ap accepted h.1 ∙ n.2)

-- ---- texts and byte strings

text_shown : (t : Tree) (s : List ℕ) → view_text t ≡ Some s → t ≡ text s
text_shown (text v) s e = cc
text_shown _ s e = absurd (cc e)

texts : (name : List ℕ) → Reads (text_at name) view_text
texts name b t rest s f e = text_stands name b s rest (subst (λ u. IsFront b u rest) (text_shown t s e) f)

char_shown : (t : Tree) (c : ℕ) → view_char t ≡ Some c → (s : List ℕ) × (t ≡ text s) × (only (chars s) ≡ Some c)
char_shown (text s) c e = (s, refl, e)
char_shown _ c e = absurd (cc e)

characters : Reads char_at view_char
characters b t rest c f e =
    let k = char_shown t c e in
    ap (λ x. after x (λ s. one_char (only (chars s)))) (text_stands (codes "string") b k.0 rest (subst (λ u. IsFront b u rest) k.1 f)) ∙ ap (λ o. one_char o rest) k.2

bytes_shown : (t : Tree) (s : List ℕ) → view_bytes t ≡ Some s → t ≡ bytes s
bytes_shown (bytes v) s e = cc
bytes_shown _ s e = absurd (cc e)

strings : (name : List ℕ) → Reads (string_at name 2) view_bytes
strings name b t rest s f e =
    let k = subst (λ u. IsFront b u rest) (bytes_shown t s e) f in
    string_stands name 2 b s rest k.spellable (k.is ∙ append_assoc (head 2 (length s)) s rest)

-- ---- other leaves

nulls : Reads (byte_at (codes "unit") (codes "unit") 0xf6) view_null
nulls b null rest v f e = ap (byte_at (codes "unit") (codes "unit") 0xf6) f.is
nulls b _ rest v f e = absurd (cc e)

booleans : Reads bool_at view_bool
booleans b (boolean false) rest v f e = ap bool_at f.is ∙ ap (λ x. got x rest) (cc e)
booleans b (boolean true) rest v f e = ap bool_at f.is ∙ ap (λ x. got x rest) (cc e)
booleans b _ rest v f e = absurd (cc e)

links : (b cid rest : List ℕ) → IsFront b (link cid) rest → link_at b ≡ got (link cid) rest
links b cid rest f = ap link_at f.is ∙ ap (item_of 1) (sym f.is) ∙ any_reads 1 b (link cid) rest f (omega arith)

pub reads_are_decoded : ReadsAreDecoded
reads_are_decoded = record {
  item = any_reads;
  natural = λ name bound. numbers name (natural_below bound);
  number = λ name bound. numbers name (within bound);
  big_natural = λ name bound. big_numbers name (natural_below bound);
  big_number = λ name bound. big_numbers name (within bound);
  text = texts;
  char = characters;
  bytes = strings;
  null = nulls;
  bool = booleans;
  cid = links;
}
