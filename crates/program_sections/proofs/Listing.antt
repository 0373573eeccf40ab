-- A list of CIDs, one per line.
use Rattle.std.proofs.Common.{◌≡◌, ℕ, ◌+◌, List, [], ◌∷◌, ◌++◌, length, length-append, append_assoc, sym, ap, ◌∙◌, arith}
use Rattle.std.specs.BTreeSet.{insert_key}
use Rattle.ipld_tree.specs.Cid.{CidParts, cid_cmp}
use Rattle.text_cid.specs.Texts.{IsTextOf}
use Rattle.program_inspect.specs.Names.{distinct}
use Rattle.program_inspect.proofs.Counting.{distinct_push}
use Rattle.program_sections.specs.Words.{AreTexts}
use Rattle.program_sections.proofs.Wording.{texts_push}

-- the first `number` lines were read
pub record Read (lines rest : List (List ℕ)) (number : ℕ) (names : List CidParts) : Type 0 where
  pub done : List (List ℕ)
  pub all : lines ≡ done ++ rest
  pub count : number ≡ length done
  pub cs : List CidParts
  pub are : AreTexts done cs
  pub set : names ≡ distinct cs

pub read_more : (lines rest next : List (List ℕ)) (line : List ℕ) (number : ℕ) (old new : List CidParts) (c : CidParts) → Read lines rest number old → rest ≡ line ∷ next → IsTextOf line c → new ≡ insert_key cid_cmp old c → Read lines next (number + 1) new
read_more lines rest next line number old new c h first is put = record {
  done = h.done ++ line ∷ [];
  all = h.all ∙ ap (λ l. h.done ++ l) first ∙ sym (append_assoc h.done (line ∷ []) next);
  count = omega (arith, h.count, length-append h.done (line ∷ []));
  cs = h.cs ++ c ∷ [];
  are = texts_push h.done h.cs line c h.are is;
  set = put ∙ ap (λ k. insert_key cid_cmp k c) h.set ∙ sym (distinct_push [] h.cs c);
}
