-- The answer for a path, past an index.
use Rattle.std.proofs.Common.{◌≡◌, inl, inr, ℕ, List, [], ◌++◌, Bool, true, false, refl, sym, ap, ◌∙◌, subst, append_assoc, append-nil, Option, IfSome, Result, Ok, Err}
use Rattle.std.specs.Io.KnownBytes.{Appends}
use Rattle.std.proofs.KnownBytes.{Appends-trans}
use Rattle.ipld_tree.specs.Cid.{CidParts}
use Rattle.program_parts.specs.Lines.{SaysBoth}
use Rattle.program_shared.specs.declared.fault.ToolError.{ToolError}
use Rattle.program_shared.specs.declared.fault.ToolError.TheVariants.{Output}
use Rattle.program_parts.specs.declared.at.Asked.{Asked}
use Rattle.program_parts.proofs.Known.{if_some}
use Rattle.program_parts.proofs.Saying.{both_of}
use Rattle.program_index.specs.Layouts.{HasIndex}
use Rattle.program_index.specs.Ways.{HoldsWay, LeavesIndex}
use Rattle.ipld_links.specs.Reaching.{Stored}
use Rattle.program_parts.specs.Paths.{IsAnswerOf, IsAnswerOfFile}
use Rattle.program_dagcar_files.specs.PathAnswers.{no_way_line, IsAnswerPast, IsAnswerNamed}
use Rattle.program_dagcar_files.proofs.Getting.{both_known}

-- ---- past an index

module _ (asked : Asked) (root : CidParts) (path : List (List ℕ)) (b : List ℕ) where
  lined : (out told : List ℕ) → IsAnswerOfFile asked root path b true out told → IsAnswerPast asked root path b true out (told ++ no_way_line)
  lined out told is = inl (refl, (told, refl, is))

  -- part of the error output was written, and the line is in the rest
  some_past : (well : Bool) (out told others : List ℕ) → IsAnswerOfFile asked root path b well out (told ++ others) → (rest : List ℕ) × IsAnswerPast asked root path b well out (told ++ rest)
  some_past true out told others is = (others ++ no_way_line, subst (IsAnswerPast asked root path b true out) (append_assoc told others no_way_line) (lined out (told ++ others) is))
  some_past false out told others is = (others, inr (refl, is))

  pub past_broken : (old heard new after : Option (List ℕ)) (e : ToolError) → SaysBoth (IsAnswerOfFile asked root path b) old heard (Err e) new after → SaysBoth (IsAnswerPast asked root path b) old heard (Err e) new after
  past_broken old heard new after e (inl none) = inl none
  past_broken old heard new after e (inr k) =
      let past = some_past k.0 (k.1 ++ k.2) k.3 k.4 k.5 in
      inr (k.0, k.1, k.2, k.3, past.0, past.1, k.6, k.7, k.8)

  pub past_not : (old heard new after : Option (List ℕ)) (well : Bool) → well ≡ false → SaysBoth (IsAnswerOfFile asked root path b) old heard (Ok well) new after → SaysBoth (IsAnswerPast asked root path b) old heard (Ok well) new after
  past_not old heard new after well not k = (k.0, k.1, inr (not, subst (λ w. IsAnswerOfFile asked root path b w k.0 k.1) not k.2), k.3, k.4)

  -- the whole line was written
  pub past_told : (old heard new mid after : Option (List ℕ)) (well : Bool) (front back : List ℕ) → well ≡ true → no_way_line ≡ front ++ back → back ≡ [] → Appends mid after front → SaysBoth (IsAnswerOfFile asked root path b) old heard (Ok well) new mid → SaysBoth (IsAnswerPast asked root path b) old heard (Ok well) new after
  past_told old heard new mid after well front back is cut none tells k = (k.0, k.1 ++ front, said, k.3, Appends-trans heard mid after k.1 front k.4 tells)
    where
      whole : no_way_line ≡ front
      whole = cut ∙ ap (λ x. front ++ x) none ∙ append-nil front

      said : IsAnswerPast asked root path b well k.0 (k.1 ++ front)
      said = subst (λ w. IsAnswerPast asked root path b w k.0 (k.1 ++ front)) (sym is) (subst (λ l. IsAnswerPast asked root path b true k.0 (k.1 ++ l)) whole (lined k.0 k.1 (subst (λ w. IsAnswerOfFile asked root path b w k.0 k.1) is k.2)))

  -- or a prefix of it was
  pub past_half : (old heard new mid after : Option (List ℕ)) (well : Bool) (e : ToolError) (front back : List ℕ) → well ≡ true → no_way_line ≡ front ++ back → e ≡ Output → Appends mid after front → SaysBoth (IsAnswerOfFile asked root path b) old heard (Ok well) new mid → SaysBoth (IsAnswerPast asked root path b) old heard (Err e) new after
  past_half old heard new mid after well e front back is cut fault tells k = inr (true, k.0, [], k.1 ++ front, back, said, fault, k.3, Appends-trans heard mid after k.1 front k.4 tells)
    where
      plain : IsAnswerPast asked root path b true k.0 (k.1 ++ no_way_line)
      plain = lined k.0 k.1 (subst (λ w. IsAnswerOfFile asked root path b w k.0 k.1) is k.2)

      said : IsAnswerPast asked root path b true (k.0 ++ []) ((k.1 ++ front) ++ back)
      said = subst (λ o. IsAnswerPast asked root path b true o ((k.1 ++ front) ++ back)) (sym (append-nil k.0))
          (subst (IsAnswerPast asked root path b true k.0) (ap (λ l. k.1 ++ l) cut ∙ sym (append_assoc k.1 front back)) plain)

-- ---- if the bytes are known

module _ (asked : Asked) (root : CidParts) (path : List (List ℕ)) (known old heard : Option (List ℕ)) where
  pub known_broken : (new after : Option (List ℕ)) (e : ToolError) → IfSome known (λ b. SaysBoth (IsAnswerOfFile asked root path b) old heard (Err e) new after) → IfSome known (λ b. SaysBoth (IsAnswerPast asked root path b) old heard (Err e) new after)
  known_broken new after e h = if_some known h (λ b k. past_broken asked root path b old heard new after e k)

  pub known_half : (new mid after : Option (List ℕ)) (well : Bool) (e : ToolError) (front back : List ℕ) → well ≡ true → no_way_line ≡ front ++ back → e ≡ Output → Appends mid after front → IfSome known (λ b. SaysBoth (IsAnswerOfFile asked root path b) old heard (Ok well) new mid) → IfSome known (λ b. SaysBoth (IsAnswerPast asked root path b) old heard (Err e) new after)
  known_half new mid after well e front back is cut fault tells h = if_some known h (λ b k. past_half asked root path b old heard new mid after well e front back is cut fault tells k)

  pub named_bound : (stored : Stored) (r : Result Bool ToolError) (new after : Option (List ℕ)) → HoldsWay stored root path → IfSome known HasIndex → SaysBoth (IsAnswerOf asked root path stored) old heard r new after → IfSome known (λ b. SaysBoth (IsAnswerNamed asked root path b) old heard r new after)
  named_bound stored r new after holds has says = if_some known has (λ b h. both_of (IsAnswerOf asked root path stored) (IsAnswerNamed asked root path b) old heard r new after (λ well said told k. inr (h, inl (stored, holds, k))) says)

  pub named_past : (r : Result Bool ToolError) (new after : Option (List ℕ)) → IfSome known (λ b. HasIndex b × LeavesIndex b root path) → IfSome known (λ b. SaysBoth (IsAnswerPast asked root path b) old heard r new after) → IfSome known (λ b. SaysBoth (IsAnswerNamed asked root path b) old heard r new after)
  named_past r new after leaves says = both_known known leaves says (λ b h k. both_of (IsAnswerPast asked root path b) (IsAnswerNamed asked root path b) old heard r new after (λ well said told s. inr (h.0, inr (h.1, s))) k)

  pub named_plain : (r : Result Bool ToolError) (new after : Option (List ℕ)) → IfSome known (λ b. ¬ HasIndex b) → IfSome known (λ b. SaysBoth (IsAnswerOfFile asked root path b) old heard r new after) → IfSome known (λ b. SaysBoth (IsAnswerNamed asked root path b) old heard r new after)
  named_plain r new after none says = both_known known none says (λ b h k. both_of (IsAnswerOfFile asked root path b) (IsAnswerNamed asked root path b) old heard r new after (λ well said told s. inl (h, s)) k)
