-- The data that a text is read as is the data of a block.
use Rattle.std.proofs.Common.{◌≡◌, inl, inr, ℕ, ◌≤◌, Bool, true, false, List, Result, Ok, Err, MatchResult, if◌then◌else◌, nat_le, refl, sym, subst, leb-true}
use Rattle.dagcbor_core.specs.Steps.{default_steps}
use Rattle.ipld_tree.specs.Tree.{Tree, any_need}
use Rattle.ipld_tree.specs.Spelling.{IsSpelling}
use Rattle.dagcbor_decode.specs.Blocks.{IsBlock}
use Rattle.text_dag_json.specs.Reading.{Read, within_steps, ReadsWhole, ReadsJson}
use Rattle.text_dag_json.specs.declared.error.DagJsonError.{DagJsonError}
use Rattle.text_dag_json.specs.declared.error.DagJsonError.TheVariants.{TooDeep}

few : (o : Bool) (t u : Tree) → nat_le (any_need u) 256 ≡ o → Ok t ≡ (if o then Ok u else Err TooDeep) → any_need t ≤ default_steps
few false t u test is = absurd (cc is)
few true t u test is = let same : t ≡ u = cc is in subst (λ x. any_need x ≤ default_steps) (sym same) (leb-true (any_need u) 256 test)

read_few : (t : Tree) (found : Read Tree) → Ok t ≡ within_steps found → any_need t ≤ default_steps
read_few t (Ok u) is = few (nat_le (any_need u) 256) t u refl is
read_few t (Err e) is = absurd (cc is)

told_few : {J : Type 0} (t : Tree) (d : Result J DagJsonError) (whole : J → Type 0) → ((j : J) → whole j → any_need t ≤ default_steps) → MatchResult d whole (λ e. Ok t ≡ Err e) → any_need t ≤ default_steps
told_few t (Ok j) whole by h = by j h
told_few t (Err e) whole by h = absurd (cc h)

text_few : (s : List ℕ) (t : Tree) → ReadsJson s (Ok t) → any_need t ≤ default_steps
text_few s t (inl h) = let clash = h.1 in absurd (cc clash)
text_few s t (inr h) = told_few t _ (λ j. ReadsWhole j (Ok t)) (λ j w. read_few t w.0 w.2) h.1

pub block_read : (s b : List ℕ) (t : Tree) → ReadsJson s (Ok t) → IsSpelling b t → IsBlock b t
block_read s b t reads is = (is, text_few s t reads)
