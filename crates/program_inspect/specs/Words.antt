-- The words of `inspect`.
use Rattle.std.specs.Prelude.{◌≡◌, ◌≢◌, ℕ, List, [], ◌∷◌, codes, Option, None, Some}
use Rattle.program_inspect.specs.declared.inspect.Form.{Form}
use Rattle.program_inspect.specs.declared.inspect.Form.TheVariants.{Lines, Json}

-- the words ask for what a file holds, in this form: `inspect`, then `--json` for JSON, and then
-- the file, if one is named
abbrev pub IsInspect : List (List ℕ) → Form → Option (List ℕ) → Type 0
IsInspect words Lines None = words ≡ codes "inspect" ∷ []
IsInspect words Json None = words ≡ codes "inspect" ∷ codes "--json" ∷ []
IsInspect words Lines (Some file) = (words ≡ codes "inspect" ∷ file ∷ []) × (file ≢ codes "--json")
IsInspect words Json (Some file) = words ≡ codes "inspect" ∷ codes "--json" ∷ file ∷ []
