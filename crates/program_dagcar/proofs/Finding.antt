-- What is found in a file: one block, or those that links lead to.
use Rattle.std.specs.Bool.{⊤}
use Rattle.std.proofs.Common.{◌≡◌, inl, inr, ℕ, List, [], ◌∷◌, ◌++◌, append-nil, Bool, refl, sym, ap, ◌∙◌, subst, ◌↔◌, IsTrue, Option, Result, Ok, Err, IsErrAnd, Vec, Global, flat_map}
use Rattle.std.specs.Io.KnownBytes.{Appends}
use Rattle.std.proofs.KnownBytes.{Appends-nil}
use Rattle.ipld_tree.specs.Cid.{CidParts}
use Rattle.dagcbor_items.specs.Walks.{forms}
use Rattle.files_car.specs.Car.{Section}
use Rattle.ipld_links.specs.Verdicts.{IsVerified, IsVerdict}
use Rattle.files_car.specs.Checks.{IsHeldInFile, IsFileFront}
use Rattle.ipld_links.specs.declared.verdict.Verdict.{Verdict}
use Rattle.ipld_links.specs.declared.verdict.Verdict.TheVariants as verdicts
use Rattle.program_shared.specs.declared.fault.ToolError.{ToolError}
use Rattle.program_shared.specs.declared.fault.ToolError.TheVariants.{Output}
use Rattle.ipld_links.specs.Reaching.{Stored, ReachesKnown}
use Rattle.ipld_links.proofs.Members.{among_push}
use Rattle.program_parts.specs.Lines.{missing_line, BreaksLine, SaysBoth}
use Rattle.files_car.specs.Versions.{IsFile}
use Rattle.program_parts.specs.Taking.{TookEach, TakesAll}
use Rattle.program_parts.specs.Holding.{TellsFault}
use Rattle.program_parts.specs.declared.take.Ended.{Ended}
use Rattle.program_parts.specs.declared.take.Ended.TheVariants as ended
use Rattle.program_parts.proofs.Taking.{took_knows}
use Rattle.program_parts.proofs.Keeping.{fault_told, start_told}
use Rattle.program_parts.proofs.Saying.{text_breaks}
use Rattle.program_dagcar.specs.Finding.{Seeks, IsTreeFile, IsTreeFound, SendsTree}
use Rattle.program_dagcar.specs.declared.get.Search.{Search}
use Rattle.program_dagcar.specs.declared.get.Stop.{Stop}
use Rattle.program_dagcar.specs.declared.get.Stop.TheVariants as stops

-- ---- verdicts

pub verified_of : (s : Section) (v : Verdict) → IsVerdict s v → (v ≡ verdicts.OtherBytes → ⊥) → (v ≡ verdicts.Unverified → ⊥) → IsVerified s
verified_of s (verdicts.Block kind) h other none = h.0
verified_of s (verdicts.Refused e) h other none = h.0
verified_of s verdicts.NotRead h other none = h.0
verified_of s verdicts.LinksNotRead h other none = h.0
verified_of s verdicts.Node h other none = h.0
verified_of s (verdicts.NoNode e) h other none = h.0
verified_of s verdicts.OtherBytes h other none = absurd (other refl)
verified_of s verdicts.Unverified h other none = absurd (none refl)

-- ---- one block

pub still_none : (name : CidParts) (sections : List Section) (s : Section) → (IsHeldInFile name sections → ⊥) → (((s.0 ≡ name) × IsVerified s) → ⊥) → IsHeldInFile name (sections ++ s ∷ []) → ⊥
still_none name sections s none other h = elim (among_push (name, h.0) sections s h.1) [
  | inl m ↦ none (h.0, m, h.2)
  | inr e ↦ other (sym (ap (λ (p : Section). p.0) e), subst IsVerified e h.2)
]

-- a search that found nothing is unchanged
abbrev pub FoundNone : Search → Search → List Section → Type 0
FoundNone first now sections = (now ≡ first) × ¬ IsHeldInFile first.name sections

none_more : (first : Search) (s : Section) (old new : Search) (done : List Section) → FoundNone first old done → Seeks s old (Ok tt) new → FoundNone first new (done ++ s ∷ [])
none_more first s old new done h k = (k.0 ∙ h.0, still_none first.name done s h.1 (λ m. k.1 (m.0 ∙ ap (λ (x : Search). x.name) (sym h.0), m.1)))

pub none_found : (ss : List Section) (old new : Search) → TookEach Seeks old ss new → FoundNone old new ss
none_found ss old new t = took_knows Seeks (FoundNone old) (none_more old) [] ss old new (refl, λ none. absurd none.1) t

pub got_whole : (name : CidParts) (b told : List ℕ) → told ≡ flat_map missing_line (name ∷ []) → told ≡ missing_line name
got_whole name b told is = is ∙ append-nil (missing_line name)

-- how far a file goes, and what was found in it
abbrev pub GotOf : CidParts → List ℕ → Ended Stop → Search → Type 0
GotOf name b ended.Whole new = (roots : List (List ℕ)) × (sections : List Section) × IsFile b roots sections
    × ¬ IsHeldInFile name sections
GotOf name b (ended.Stopped stops.Enough) new = (roots : List (List ℕ)) × (sections : List Section) × (n : ℕ)
    × (rest : List ℕ) × IsFileFront b roots (sections ++ (name, new.block.items) ∷ []) n rest
    × ¬ IsHeldInFile name sections × IsVerified (name, new.block.items)
GotOf name b (ended.Stopped stops.OutOfMemory) new = ⊤
GotOf name b (ended.Fault line) new = TellsFault (λ ss. ¬ IsHeldInFile name ss) b line.items

pub got_of : (b : List ℕ) (old new : Search) (roots : Vec CidParts Global) (e : Ended Stop) → TakesAll Seeks b old (roots, e) new → GotOf old.name b e new
got_of b old new roots (ended.Fault line) (inl h) = start_told (λ ss. IsHeldInFile old.name ss → ⊥) b Stop line h.0
got_of b old new roots ended.Whole (inl h) = absurd h.0
got_of b old new roots (ended.Stopped stop) (inl h) = absurd h.0
got_of b old new roots (ended.Fault line) (inr h) = fault_told Seeks (λ ss. IsHeldInFile old.name ss → ⊥) b line.items (forms roots.items) old new h.0 h.1 (none_found h.1.first.sections old new h.1.first.took).1 h.2
got_of b old new roots ended.Whole (inr h) = (forms roots.items, h.sections, h.file, (none_found h.sections old new h.took).1)
got_of b old new roots (ended.Stopped stops.OutOfMemory) (inr h) = tt
got_of b old new roots (ended.Stopped stops.Enough) (inr h) =
    let none = none_found h.first.sections old h.it h.first.took in
    let name : h.section.0 ≡ old.name = h.refused.0 ∙ ap (λ (x : Search). x.name) none.0 in
    let same : h.section ≡ (old.name, new.block.items) = λ i. (name i, sym h.refused.2 i) in
    (forms roots.items, h.first.sections, h.wanting, h.rest, subst (λ s. IsFileFront b (forms roots.items) (h.first.sections ++ s ∷ []) h.wanting h.rest) same h.front, none.1, subst IsVerified same h.refused.1)

-- ---- how a tree is written

module _ (stored : Stored) (root : CidParts) (found names lost : List CidParts) (well : Bool) (told text : List ℕ) (same : names ≡ found) (reaches : ReachesKnown stored root found lost) (lines : told ≡ flat_map missing_line lost) (same_told : text ≡ told)
    (wellness : IsTrue well ↔ (lost ≡ [])) where
  is_tree : (out : List ℕ) → IsTreeFile stored root names out → IsTreeFound stored root well out text
  is_tree out file = record {
    found = found;
    lost = lost;
    reaches = reaches;
    tree = subst (λ ns. IsTreeFile stored root ns out) same file;
    lines = same_told ∙ lines;
    wellness = wellness;
  }

  pub tree_broken : (old heard new : Option (List ℕ)) (r : Result Bool ToolError) (e : ToolError) → IsErrAnd r (λ x. x ≡ e) → SendsTree stored root names old (Err e) new → SaysBoth (IsTreeFound stored root) old heard r new heard
  tree_broken old heard new (Ok w) e is h = absurd is
  tree_broken old heard new (Err x) e is h = by (text_breaks (λ out. out ≡ h.0) h.0 old new e refl h.2)
    where
      by : BreaksLine (λ out. out ≡ h.0) old new e → SaysBoth (IsTreeFound stored root) old heard (Err x) new heard
      by (inl none) = inl (none, Appends-nil heard)
      by (inr k) = inr (well, k.0, k.1, [], text, is_tree (k.0 ++ k.1) (subst (IsTreeFile stored root names) (sym k.2) h.1), is ∙ k.3, k.4, Appends-nil heard)

  pub told_broken : (old heard new after : Option (List ℕ)) (r : Result Bool ToolError) (e : ToolError) → IsErrAnd r (λ x. x ≡ e) → e ≡ Output → SendsTree stored root names old (Ok tt) new → ((front back : List ℕ) × (text ≡ front ++ back) × Appends heard after front) → SaysBoth (IsTreeFound stored root) old heard r new after
  told_broken old heard new after (Ok w) e is out h k = absurd is
  told_broken old heard new after (Err x) e is out h k =
      inr (well, h.0, [], k.0, k.1, subst (IsTreeFound stored root well (h.0 ++ [])) k.2 (is_tree (h.0 ++ []) (subst (IsTreeFile stored root names) (sym (append-nil h.0)) h.1)), is ∙ out, h.2, k.3)
