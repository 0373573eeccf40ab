-- The test for two blocks in a row.
use Rattle.std.proofs.Common.{◌≡◌, ℕ, List, drop, Option, Result, Ok, Err, IfOk, MatchBool, is_ok, sym, ap, subst, ◌∙◌}
use Rattle.dagcbor_core.specs.declared.error.DecodeError.TheVariants as unread
use Rattle.ipld_tree.specs.Tree.{Tree}
use Rattle.ipld_links.specs.Blocks.{HasBlock}
use Rattle.dagcbor_decode.specs.Blocks.{IsBlock}
use Rattle.dagcbor_decode.specs.Decode.{Why, decode}
use Rattle.dagcbor_decode.specs.TreeKinds.{kind_of}
use Rattle.dagcbor_decode.specs.Verdicts.{judged, verdict, why_of}
use Rattle.dagcbor_decode.specs.declared.kind.Kind.{Kind}
use Rattle.dagcbor_decode.specs.declared.slices.Refused.{Refused}
use Rattle.dagcbor_decode.proofs.Laws.{refused_no_block, refused_for}
use Rattle.program_dagcar.specs.Answers.{AreTwoBlocks}

abbrev place_in : Result Kind (Option Why × ℕ) → ℕ
place_in (Ok kind) = 0
place_in (Err p) = p.1

-- the bytes after a block are judged
pub trailing_judged : (b rest : List ℕ) (r : Refused) (second : Result Kind Refused) → judged (Err r) ≡ verdict b (decode b) → r.cause ≡ unread.TrailingData → rest ≡ drop r.place b
    → judged second ≡ verdict rest (decode rest) → IfOk second (λ kind. (t : Tree) × IsBlock rest t × (kind ≡ kind_of t)) → MatchBool (is_ok second) (AreTwoBlocks b) (AreTwoBlocks b → ⊥)
trailing_judged b rest r (Ok kind) h cause is j k = (r.place, sym h ∙ ap (λ e. Err (why_of e, r.place)) cause, subst HasBlock is (k.0, k.1))
trailing_judged b rest r (Err s) h cause is j k = λ two.
    let same : r.place ≡ two.0 = ap place_in (h ∙ two.1) in
    refused_no_block rest s.cause two.2.0 (refused_for rest s.cause s.place (sym j)) (subst (λ x. IsBlock x two.2.0) (sym (is ∙ ap (λ n. drop n b) same)) two.2.1)
