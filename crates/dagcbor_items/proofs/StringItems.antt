-- Texts and byte strings as items of unknown kind.
use Rattle.std.proofs.Common.{◌≡◌, ℕ, ◌+◌, ◌<◌, List, refl, ap, ◌∙◌, subst, arith, Vec, Global, Option, Some, is_some, String, string_bytes, codes}
use Rattle.dagcbor_heads.specs.Reading.{Reading}
use Rattle.dagcbor_heads.specs.Refusals.{Refuses}
use Rattle.dagcbor_core.specs.declared.error.DecodeError.{DecodeError}
use Rattle.dagcbor_heads.proofs.Taking.{stays}
use Rattle.dagcbor_heads.proofs.Refusing.{passed_on, as_refusal}
use Rattle.ipld_tree.specs.Tree.{Tree, text, bytes, any_need}
use Rattle.ipld_tree.specs.Spelling.{IsFront}
use Rattle.ipld_tree.specs.Ipld.{tree_of}
use Rattle.ipld_tree.specs.declared.ipld.Ipld.{Bytes as Bytes', String as String'}
use Rattle.ipld_tree.proofs.Trees.{tree_of_Bytes, tree_of_String}
use Rattle.ipld_tree.proofs.Unique.{major}
use Rattle.ipld_tree.proofs.Fronts.{is_bytes, is_text}
use Rattle.dagcbor_items.specs.Untyped.{HasItem, TakesItem, StartsWithMajor}
use Rattle.dagcbor_items.specs.TypedReads.{HasFront, TakesFront}
use Rattle.dagcbor_items.specs.Shapes.{view_text, view_bytes, leaf}
use Rattle.dagcbor_decode.specs.Verdicts.{IsRefusal}
use Rattle.dagcbor_decode.proofs.Refusals.{kept_short}
use Rattle.dagcbor_items.specs.Leaves.{string_at, text_at}
use Rattle.dagcbor_items.specs.ReadCauses.{ItemCause, StringCause, TextCause}
use Rattle.dagcbor_items.proofs.LeafRefusals.{string_read, text_read}
use Rattle.dagcbor_items.proofs.ItemRefusals.{bytes_item, text_item}
use Rattle.dagcbor_items.proofs.Fronts.{MajorAt, major_of_front, as_tree}
use Rattle.dagcbor_items.proofs.StringReads.{shown_bytes, shown_text}

-- ---- the causes

bytes_stand : {E : Type 0} (steps : ℕ) → 0 < steps → (e : DecodeError E) (b : List ℕ) → MajorAt b 2 → StringCause (codes "bytes") 2 e b → ItemCause steps e b
bytes_stand steps some e b m h =
    let k = h (codes "bytes") (kept_short (codes "bytes") (omega arith)) in
    bytes_item steps e m.0 b m.1 some m.2 m.3 (subst (λ x. IsRefusal x e) (ap (string_at (codes "bytes") 2) m.2 ∙ string_read (codes "bytes") 2 m.0 m.1 m.3) k)

text_stands : {E : Type 0} (steps : ℕ) → 0 < steps → (e : DecodeError E) (b : List ℕ) → MajorAt b 3 → TextCause (codes "string") e b → ItemCause steps e b
text_stands steps some e b m h =
    let k = h (codes "string") (kept_short (codes "string") (omega arith)) in
    text_item steps e m.0 b m.1 some m.2 m.3 (subst (λ x. IsRefusal x e) (ap (text_at (codes "string")) m.2 ∙ text_read (codes "string") m.0 m.1 m.3) k)

-- ---- strings of either kind

string_front : (kind : ℕ) (view : Tree → Option (List ℕ)) (made : List ℕ → Tree) → ((s : List ℕ) → view (made s) ≡ Some s) → ((t : Tree) → major t ≡ kind → (s : List ℕ) × (t ≡ made s)) → {old : Reading} → StartsWithMajor old kind → HasItem 1 old → HasFront (leaf view) old
string_front kind view made shows is starts i = record {
  bytes = i.bytes;
  tree = i.tree;
  rest = i.rest;
  left = i.left;
  front = i.front;
  accepted = let s = is i.tree (major_of_front i.bytes i.rest i.tree kind (starts i.bytes i.left) i.front) in ap (λ t. is_some (view t)) s.1 ∙ ap is_some (shows s.0);
  within = omega arith;
}

string_taken : (view : Tree → Option (List ℕ)) (made : List ℕ → Tree) → ((t : Tree) (s : List ℕ) → view t ≡ Some s → t ≡ made s) → ((s : List ℕ) → any_need (made s) ≡ 1) → {old new : Reading} (s : List ℕ) → TakesFront (leaf view) old s new → TakesItem 1 old (made s) new
string_taken view made shown needs {old} {new} s h = record {
  taken = λ b l. let k = h.taken b l in let e = shown k.0 s k.3 in (k.1, subst (λ t. IsFront b t k.1) e k.2, omega (arith, needs s), k.5);
  same = h.same;
}

-- ---- texts

text_front : {old : Reading} → StartsWithMajor old 3 → HasItem 1 old → HasFront (leaf view_text) old
text_front = string_front 3 view_text text (λ s. refl) is_text

pub text_taken : {old new : Reading} (s : List ℕ) → TakesFront (leaf view_text) old s new → TakesItem 1 old (text s) new
text_taken = string_taken view_text text shown_text (λ s. refl)

pub text_refused : {E : Type 0} (lacks : Type 0) (old new : Reading) (e : DecodeError E) → StartsWithMajor old 3 → Refuses (record { could = HasFront (leaf view_text) old; lacks = lacks; borrows = ⊥; stands = TextCause (codes "string") }) old e new → Refuses (record { could = HasItem 1 old; lacks = lacks; borrows = ⊥; stands = ItemCause (old.steps + 1) }) old e new
text_refused lacks old new e starts r =
    passed_on (TextCause (codes "string")) (ItemCause (old.steps + 1)) old old new e (stays old) (text_front starts) (λ x. x) (λ x. x) (λ b l. (b, l, text_stands _ (omega arith) e b (starts b l))) r

pub text_as_tree : {old new : Reading} (s : String Global) → TakesFront (leaf view_text) old (string_bytes s) new → TakesItem 1 old (tree_of (String' s)) new
text_as_tree {old} {new} s h = as_tree (text (string_bytes s)) _ (tree_of_String s) (text_taken (string_bytes s) h)

-- ---- byte strings

bytes_front : {old : Reading} → StartsWithMajor old 2 → HasItem 1 old → HasFront (leaf view_bytes) old
bytes_front = string_front 2 view_bytes bytes (λ s. refl) is_bytes

pub bytes_taken : {old new : Reading} (s : List ℕ) → TakesFront (leaf view_bytes) old s new → TakesItem 1 old (bytes s) new
bytes_taken = string_taken view_bytes bytes shown_bytes (λ s. refl)

pub bytes_as_tree : {old new : Reading} (v : Vec ℕ Global) → TakesFront (leaf view_bytes) old v.items new → TakesItem 1 old (tree_of (Bytes' v)) new
bytes_as_tree {old} {new} v h = as_tree (bytes v.items) _ (tree_of_Bytes v) (bytes_taken v.items h)

pub bytes_refused : {E : Type 0} (lacks : Type 0) (old new : Reading) (e : DecodeError E) → StartsWithMajor old 2 → Refuses (record { could = HasFront (leaf view_bytes) old; lacks = lacks; borrows = ⊥; stands = StringCause (codes "bytes") 2 }) old e new → Refuses (record { could = HasItem 1 old; lacks = lacks; borrows = ⊥; stands = ItemCause (old.steps + 1) }) old e new
bytes_refused lacks old new e starts r =
    passed_on (StringCause (codes "bytes") 2) (ItemCause (old.steps + 1)) old old new e (stays old) (bytes_front starts) (λ x. x) (λ x. x) (λ b l. (b, l, bytes_stand _ (omega arith) e b (starts b l))) r

-- ---- for the calls that read a string as an item

pub ruleset text_items = (text_as_tree, text_refused, as_refusal)

pub ruleset bytes_items = (bytes_as_tree, bytes_refused, as_refusal)
