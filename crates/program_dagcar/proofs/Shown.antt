-- What `show` writes for bytes.
use Rattle.std.proofs.Common.{◌≡◌, ◌≢◌, inl, inr, ℕ, ◌==◌, List, [], ◌∷◌, length, Bool, true, false, sym, ◌∙◌, subst}
use Rattle.ipld_tree.specs.Tree.{Tree}
use Rattle.dagcbor_decode.specs.Blocks.{IsBlock}
use Rattle.dagcbor_decode.proofs.Laws.{refused_no_block, refused_for}
use Rattle.dag_pb_model.specs.Model.{IsNodeOf}
use Rattle.ipld_paths.proofs.Binding.{block_unique}
use Rattle.program_parts.specs.Shown.{IsShown, IsSaidOfNoBlock}
use Rattle.program_dagcar.specs.Answers.{IsDataSaid, IsDataShown}

-- what `show` says of a node
abbrev pub IsNodeSaid : List ℕ → Bool → List ℕ → List ℕ → Type 0
IsNodeSaid b well said told = (b ≢ []) × ((t : Tree) × IsNodeOf b t × IsDataSaid t well said told)

pub some_bytes : (b : List ℕ) → false ≡ (length b == 0) → b ≢ []
some_bytes [] e is = let clash : false ≡ true = e in cc clash
some_bytes (x ∷ b) e is = cc is

no_block : (b : List ℕ) (t : Tree) (well : Bool) (said told : List ℕ) → IsSaidOfNoBlock b well said told → IsBlock b t → ⊥
no_block b t well said told k is = refused_no_block b k.0 t (refused_for b k.0 k.1 k.2) is

pub model_said : (b made : List ℕ) → (b ≢ []) → ((t : Tree) × IsNodeOf b t × IsBlock made t) → (well : Bool) (said told : List ℕ) → IsShown made well said told → IsNodeSaid b well said told
model_said b made some m well said told (inl k) = (some, (k.0, subst (IsNodeOf b) (block_unique made m.0 k.0 m.2 k.1) m.1, (k.2, k.3, k.4)))
model_said b made some m well said told (inr k) = absurd (no_block made m.0 well said told k m.2)

pub node_shown : (b : List ℕ) (before : Bool) (line lines : List ℕ) → IsShown b before line lines → before ≡ false → (well : Bool) (said told : List ℕ) → IsNodeSaid b well said told → IsDataShown b well said told
node_shown b before line lines (inl k) not well said told h = absurd (let clash : true ≡ false = sym k.2 ∙ not in cc clash)
node_shown b before line lines (inr k) not well said told h = inr (inl ((λ t. no_block b t.0 before line lines k t.1), h.0, h.1))

-- what `show` says of bytes that are neither a block nor a node
pub unread_shown : (b : List ℕ) (well : Bool) (line told : List ℕ) → IsShown b well line told → well ≡ false → IsSaidOfNoBlock b well line told
unread_shown b well line told (inl k) not = absurd (let clash : true ≡ false = sym k.2 ∙ not in cc clash)
unread_shown b well line told (inr k) not = k
