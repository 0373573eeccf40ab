-- How many sections got each verdict.
use Rattle.std.proofs.Common.{◌≡◌, ℕ, ◌+◌, List, [], ◌∷◌, ◌++◌, length, length-append, append_assoc, Bool, arith, ap, ◌∙◌, subst, ◌↔◌, IsTrue, Result, Ok, Err, OnOk, Vec, Global}
use Rattle.std.specs.Prelude.{IfOk}
use Rattle.ipld_tree.specs.Cid.{CidParts}
use Rattle.files_car.specs.Car.{Section}
use Rattle.files_car.specs.Checks.{IsAfter, TakesSection, ListsMissingInFile}
use Rattle.ipld_links.specs.Verdicts.{IsVerdict}
use Rattle.files_car.specs.Told.{Told}
use Rattle.files_car.proofs.Told.{sections_push, told_push}
use Rattle.ipld_links.specs.declared.verdict.Verdict.{Verdict}
use Rattle.program_dagcar.specs.Answers.{summary_speech}
use Rattle.program_dagcar.specs.Steps.{KnowsMore, SaysAtEnd}
use Rattle.program_dagcar.specs.Summary.{is_ok, is_not_read, are_links_not_read, is_refused, is_other_bytes, is_unverified, one_if, how_many, summary_lines, counts_lines, AreCounts, CountsOne, KnowsCounts}
use Rattle.program_dagcar.specs.declared.summary.Counts.{Counts}
use Rattle.program_dagcar.specs.declared.summary.Summing.{Summing}

many_push : (is_so : Verdict → Bool) (told : List Told) (p : Told) → how_many is_so (told ++ p ∷ []) ≡ how_many is_so told + one_if (is_so p.1)
many_push is_so [] p = omega arith
many_push is_so (q ∷ told) p = omega (arith, many_push is_so told p)

one_counted : (is_so : Verdict → Bool) (told : List Told) (s : Section) (v : Verdict) (old new : ℕ) → old ≡ how_many is_so told → new ≡ old + one_if (is_so v) → new ≡ how_many is_so (told ++ (s, v) ∷ [])
one_counted is_so told s v old new h k = omega (arith, h, k, many_push is_so told (s, v))

counts_push : (told : List Told) (s : Section) (v : Verdict) (old new : Counts) → AreCounts old told → CountsOne v old new → AreCounts new (told ++ (s, v) ∷ [])
counts_push told s v old new h k = record {
  sections = omega (arith, h.sections, k.sections, length-append told ((s, v) ∷ []));
  ok = one_counted is_ok told s v old.ok new.ok h.ok k.ok;
  not_read = one_counted is_not_read told s v old.not_read new.not_read h.not_read k.not_read;
  links_not_read = one_counted are_links_not_read told s v old.links_not_read new.links_not_read h.links_not_read k.links_not_read;
  refused = one_counted is_refused told s v old.refused new.refused h.refused k.refused;
  other_bytes = one_counted is_other_bytes told s v old.other_bytes new.other_bytes h.other_bytes k.other_bytes;
  unverified = one_counted is_unverified told s v old.unverified new.unverified h.unverified k.unverified;
}

pub counted_more : (s : Section) (old new : Summing) → TakesSection s old.check new.check → ((v : Verdict) × IsVerdict s v × CountsOne v old.counts new.counts) → KnowsMore KnowsCounts s old new
counted_more s old new takes h roots sections k =
    let told = k.1.0 in
    (takes roots sections k.0, (told ++ (s, h.0) ∷ [], sections_push told (s, h.0) ∙ ap (λ ss. ss ++ s ∷ []) k.1.1, told_push told (s, h.0) k.1.2 h.1, counts_push told s h.0 old.counts new.counts k.1.3 h.2))

-- one after the other
pub join : (old mid new a b : List ℕ) → mid ≡ old ++ a → new ≡ mid ++ b → new ≡ old ++ (a ++ b)
join old mid new a b h k = k ∙ ap (λ x. x ++ b) h ∙ append_assoc old a b

pub on_ok : {A E P Q : Type 0} (r : Result A E) → (P → Q) → OnOk r P → OnOk r Q
on_ok (Ok x) f p = f p
on_ok (Err e) f p = tt

lines_of : (counts : Counts) (told : List Told) (missing : ℕ) → AreCounts counts told → counts_lines counts missing ≡ summary_lines told missing
lines_of counts told missing h = λ i. counts_lines (record { sections = h.sections i; ok = h.ok i; not_read = h.not_read i; links_not_read = h.links_not_read i; refused = h.refused i; other_bytes = h.other_bytes i; unverified = h.unverified i }) missing

pub summary_is_said : {E : Type 0} (it : Summing) (v : Vec CidParts Global) (items : List CidParts) (r : Result (Vec ℕ Global × Bool) E) → items ≡ v.items → ((roots : List (List ℕ)) (sections : List Section) → IsAfter it.check roots sections → ListsMissingInFile roots sections v)
    → IfOk r (λ p. p.0.items ≡ counts_lines it.counts (length items)) → IfOk r (λ p. IsTrue p.1 ↔ (items ≡ [])) → SaysAtEnd summary_speech KnowsCounts it r
summary_is_said it v items (Ok p) is lists lines well roots sections k = record {
  missing = v;
  lists = lists roots sections k.0;
  told = k.1.0;
  of_sections = k.1.1;
  right = k.1.2;
  lines = lines ∙ ap (λ x. counts_lines it.counts (length x)) is ∙ lines_of it.counts k.1.0 (length v.items) k.1.3;
  wellness = subst (λ x. IsTrue p.1 ↔ (x ≡ [])) is well;
}
summary_is_said it v items (Err e) is lists lines well roots sections k = tt
