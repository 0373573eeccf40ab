-- Records as DAG-JSON lines.
use Rattle.std.proofs.Common.{◌≡◌, ◌↔◌, inl, inr, ℕ, ◌<◌, List, [], ◌∷◌, ◌++◌, length, length-append, take, Bool, true, false, ◌&&◌, refl, sym, ap, ap₂, ◌∙◌, subst, arith, append_assoc, append-nil, Option, None, Some}
use Rattle.std.specs.Prelude.{option_to_list, IsSome}
use Rattle.std.proofs.Math.Bool.{and-true, and_assoc}
use Rattle.std.proofs.Math.Seq.{take-append_seam}
use Rattle.ipld_tree.specs.Cid.{CidParts}
use Rattle.ipld_links.specs.Reaching.{Stored}
use Rattle.text_dag_json.specs.DagJson.{dag_json}
use Rattle.atproto_mst.specs.Keys.{Entry}
use Rattle.program_parts.specs.Lines.{line}
use Rattle.program_parts.specs.Shown.{IsShown}
use Rattle.program_records.specs.Records.{IsToldAlone, IsBlockSaid}
use Rattle.program_records.specs.Json.{json_line, keyed, IsRecordSaid, AreRecordsSaid}

-- ---- one record

-- the text of a line, without its line feed
line_front : (text front json : List ℕ) (last : Option ℕ) (size : ℕ) → size ≡ length text → text ≡ front ++ option_to_list last → (IsSome last ↔ (0 < size)) → text ≡ line json → front ≡ json
line_front text front json None size counted is some e = absurd (cc (some.1 (omega (arith, counted, ap length e, length-append json (10 ∷ [])))))
line_front text front json (Some x) size counted is some e =
    let both : front ++ x ∷ [] ≡ json ++ 10 ∷ [] = sym is ∙ e in
    let same : length front ≡ length json = omega (arith, ap length both, length-append front (x ∷ []), length-append json (10 ∷ [])) in
    sym (take-append_seam front (x ∷ [])) ∙ ap₂ (λ n l. take n l) same both ∙ take-append_seam json (10 ∷ [])

never : {A : Type 0} → true ≡ false → A
never e = absurd (cc e)

shown_line : (b o told : List ℕ) → IsShown b true o told → (json : List ℕ) × (o ≡ line json)
shown_line b o told (inl k) = (dag_json k.0, k.3)
shown_line b o told (inr k) = never k.3

-- what `record` shows is a line
said_line : (stored : Stored) (name : CidParts) (o told : List ℕ) → IsBlockSaid stored name true o told → (json : List ℕ) × (o ≡ line json)
said_line stored name o told (inl (b, is, inl (verified, inl found))) = shown_line b o told found.1
said_line stored name o told (inl (b, is, inl (verified, inr other))) = never other.1.0
said_line stored name o told (inl (b, is, inr other)) = never other.1.2.0
said_line stored name o told (inr lost) = never lost.1.0

pub is_shown : (stored : Stored) (e : Entry) (well : Bool) (text front told texts out : List ℕ) (last : Option ℕ) (size : ℕ) → IsBlockSaid stored e.1 well text told → well ≡ true
    → texts ≡ keyed e told → size ≡ length text → text ≡ front ++ option_to_list last → (IsSome last ↔ (0 < size)) → out ≡ json_line e front → IsRecordSaid stored e true out texts
is_shown stored e well text front told texts out last size said shows key counted is some made =
    let shown : IsBlockSaid stored e.1 true text told = subst (λ w. IsBlockSaid stored e.1 w text told) shows said in
    let json = said_line stored e.1 text told shown in
    (told, key, inl (json.0, subst (λ o. IsBlockSaid stored e.1 true o told) json.1 shown, refl, made ∙ ap (json_line e) (line_front text front json.0 last size counted is some json.1)))

pub is_not_shown : (stored : Stored) (e : Entry) (before well : Bool) (text told texts out more : List ℕ) → IsBlockSaid stored e.1 before text told → before ≡ false
    → texts ≡ keyed e told → IsToldAlone texts well out more → IsRecordSaid stored e well out more
is_not_shown stored e before well text told texts out more said hides key alone =
    (told, alone.2 ∙ key, inr (text, subst (λ w. IsBlockSaid stored e.1 w text told) hides said, alone.0, alone.1))

-- ---- the records so far

-- the output for the remaining records completes the output for all
abbrev pub SoFar : Stored → List Entry → List Entry → Bool → List ℕ → List ℕ → Type 0
SoFar stored all rest well out told = (w : Bool) (o t : List ℕ) → AreRecordsSaid stored rest w o t → AreRecordsSaid stored all (well && w) (out ++ o) (told ++ t)

same_said : (stored : Stored) (es : List Entry) (w x : Bool) (o p t u : List ℕ) → w ≡ x → o ≡ p → t ≡ u → AreRecordsSaid stored es w o t → AreRecordsSaid stored es x p u
same_said stored es w x o p t u e f g h = subst (λ y. y) (λ i. AreRecordsSaid stored es (e i) (f i) (g i)) h

pub one_said : (stored : Stored) (all : List Entry) (e : Entry) (es : List Entry) (well first both : Bool) (out line lines told text texts : List ℕ)
    → SoFar stored all (e ∷ es) well out told → IsRecordSaid stored e first line text → both ≡ (well && first) → lines ≡ out ++ line → texts ≡ told ++ text
    → SoFar stored all es both lines texts
one_said stored all e es well first both out line lines told text texts h said f g k = λ w o t rest.
    same_said stored all (well && (first && w)) (both && w) (out ++ (line ++ o)) (lines ++ o) (told ++ (text ++ t)) (texts ++ t)
    (sym (ap (λ x. x && w) f ∙ and_assoc well first w))
    (sym (ap (λ x. x ++ o) g ∙ append_assoc out line o))
    (sym (ap (λ x. x ++ t) k ∙ append_assoc told text t))
    (h (first && w) (line ++ o) (text ++ t) (first, w, line, o, text, t, said, rest, refl, refl, refl))

pub all_said : (stored : Stored) (all : List Entry) (well : Bool) (out told : List ℕ) → SoFar stored all [] well out told → AreRecordsSaid stored all well out told
all_said stored all well out told h = same_said stored all (well && true) well (out ++ []) out (told ++ []) told (and-true well) (append-nil out) (append-nil told) (h true [] [] (refl, refl, refl))
