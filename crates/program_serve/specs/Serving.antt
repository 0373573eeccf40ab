-- Requests that are read one after the other, and the outcome of each.
use Rattle.std.specs.Prelude.{◌≡◌, ◌≢◌, ◌⊎◌, ◌<◌, ℕ, List, [], ◌∷◌, ◌++◌, length, flat_map, All, Bool, true, false, Option, None, Some, IfSome, Result, Ok, Err, string_bytes}
use Rattle.std.specs.Io.{StopsAt}
use Rattle.std.specs.Io.KnownBytes.{Appends, Consumes, IsAtEnd}
use Rattle.sqlite_trees.specs.declared.store.Store.{Ghosts}
use Rattle.dagcbor_core.specs.Appends.{AppendsFront}
use Rattle.program_shared.specs.declared.fault.ToolError.{ToolError}
use Rattle.program_shared.specs.declared.fault.ToolError.TheVariants.{Input, Output, OutOfMemory}
use Rattle.program_serve.specs.Requests.{AsksFor, wanted, IsLineOf, IsRequest}
use Rattle.program_serve.specs.Replies.{reply_text}
use Rattle.program_serve.specs.Answers.{Replies, Leaves}
use Rattle.program_serve.specs.declared.asked.Request.{Request}
use Rattle.program_serve.specs.declared.asked.Asked.{Asked}
use Rattle.program_serve.specs.declared.asked.Asked.TheVariants as asks
use Rattle.program_serve.specs.declared.reply.Reply.{Reply}
use Rattle.program_serve.specs.declared.heard.Pause.{Pause}
use Rattle.program_serve.specs.declared.heard.Pause.TheVariants as pauses
use Rattle.program_serve.specs.declared.heard.Heard.{Heard}
use Rattle.program_serve.specs.declared.heard.Heard.TheVariants as heards

-- ---- what is heard

-- if the bytes of the input are known, none is left
abbrev pub IsSpent : Option (List ℕ) → Option (List ℕ) → Type 0
IsSpent before after = IfSome before (λ _. IsAtEnd after)

-- the text ends within a request: in its line, or in its block
abbrev pub IsCut : List ℕ → Type 0
IsCut text = ((text ≢ []) × All (λ b. b ≢ 10) text)
    ⊎ ((line part : List ℕ) × (request : Request) × (text ≡ line ++ (10 ∷ part))
    × All (λ b. b ≢ 10) line × AsksFor line (asks.Do request) × (length part < wanted request))

-- the line asks to import the file at this path; or to export one
abbrev pub IsImport : List ℕ → Asked → Type 0
IsImport path (asks.Import given) = given.now ≡ path
IsImport path _ = ⊥

abbrev pub IsExport : List ℕ → Asked → Type 0
IsExport path (asks.Export given) = given.now ≡ path
IsExport path _ = ⊥

-- a line that asks for such a thing was read
abbrev pub TakesLine : (Asked → Type 0) → Option (List ℕ) → Option (List ℕ) → Type 0
TakesLine IsSo before after = (text line : List ℕ) × (asked : Asked) × IsLineOf text line
    × AsksFor line asked × IsSo asked × Consumes before after text

-- why no request was read, and what was read
abbrev pub Pauses : Pause → Option (List ℕ) → Option (List ℕ) → Type 0
Pauses pauses.End before after = IsAtEnd before
Pauses pauses.Cut before after = (text : List ℕ) × IsCut text × Consumes before after text
    × IsSpent before after
Pauses pauses.Bad before after = (text line : List ℕ) × IsLineOf text line
    × ((asked : Asked) → ¬ AsksFor line asked) × Consumes before after text
Pauses (pauses.Import path) before after = TakesLine (IsImport (string_bytes path)) before after
Pauses (pauses.Export path) before after = TakesLine (IsExport (string_bytes path)) before after

-- a whole request was read, with its block; or this is why none was
abbrev pub Hears : Heard → List ℕ → Option (List ℕ) → Option (List ℕ) → Type 0
Hears (heards.Request request) block before after = (text : List ℕ) × IsRequest text request block
    × Consumes before after text
Hears (heards.Pause pause) block before after = Pauses pause before after

-- ---- the outcome

-- a request, its block, and the reply
pub record Exchange : Type 0 where
  pub request : Request
  pub block : List ℕ
  pub reply : Reply

-- the texts of the replies, one after the other
abbrev pub answers : List Exchange → List ℕ
answers exchanges = flat_map (λ x. reply_text x.reply) exchanges

module _ {S : Type 0} (g : Ghosts S) where
  -- the request was read, and replied to
  pub record Exchanges (x : Exchange) (before : Option (List ℕ)) (old : S)
      (after : Option (List ℕ)) (new : S) : Type 0 where
    pub text : List ℕ
    pub asked : IsRequest text x.request x.block
    pub taken : Consumes before after text
    pub replies : Replies g x.request x.block old x.reply new
    pub leaves : Leaves g x.request x.block old new

  -- each exchange took place, one after the other
  abbrev pub AreExchanged : List Exchange → Option (List ℕ) → S → Option (List ℕ) → S → Type 0
  AreExchanged [] before old after new = (after ≡ before) × (new ≡ old)
  AreExchanged (x ∷ more) before old after new = (left : Option (List ℕ)) × (now : S)
      × Exchanges x before old left now × AreExchanged more left now after new

  -- Why it stops: there is no request; or the input failed or memory ran out, and nothing was done;
  -- or a request was replied to, and the reply is not all written.
  abbrev pub Stops : Result Pause ToolError → Option (List ℕ) → S → Option (List ℕ)
      → Option (List ℕ) → S → Option (List ℕ) → Type 0
  Stops (Ok pause) before old held after new holds =
      Pauses pause before after × (new ≡ old) × (holds ≡ held)
  Stops (Err Input) before old held after new holds = (new ≡ old) × (holds ≡ held)
  Stops (Err OutOfMemory) before old held after new holds = ((new ≡ old) × (holds ≡ held))
      ⊎ ((x : Exchange) × Exchanges x before old after new × (holds ≡ held))
  Stops (Err Output) before old held after new holds = (x : Exchange)
      × Exchanges x before old after new × AppendsFront held holds (reply_text x.reply)

  -- Requests were read, one after the other, each was replied to, and the replies were written in
  -- this order; then it stopped.
  pub record Serves (ended : Result Pause ToolError) (before : Option (List ℕ)) (old : S)
      (held after : Option (List ℕ)) (new : S) (holds : Option (List ℕ)) : Type 0 where
    pub exchanges : List Exchange
    pub left : Option (List ℕ)
    pub now : S
    pub sent : Option (List ℕ)
    pub exchanged : AreExchanged exchanges before old left now
    pub answered : Appends held sent (answers exchanges)
    pub stops : Stops ended left now sent after new holds

  -- a request was read and replied to, and the reply was written; or it stopped
  abbrev pub ServesOne : Result (Option Pause) ToolError → Option (List ℕ) → S → Option (List ℕ)
      → Option (List ℕ) → S → Option (List ℕ) → Type 0
  ServesOne (Ok None) before old held after new holds = (x : Exchange)
      × Exchanges x before old after new × Appends held holds (reply_text x.reply)
  ServesOne (Ok (Some pause)) before old held after new holds =
      Stops (Ok pause) before old held after new holds
  ServesOne (Err e) before old held after new holds = Stops (Err e) before old held after new holds

-- ---- its steps

-- the bytes up to and including a line feed were read, or all that there are
pub record IsReadTo (line : List ℕ) (before after : Option (List ℕ)) : Type 0 where
  pub taken : Consumes before after line
  pub stops : StopsAt line 10
  pub none : line ≡ [] → IsAtEnd before
  pub last : ((front : List ℕ) → line ≢ front ++ 10 ∷ []) → IsSpent before after

-- n more bytes were read; 0 only if none is left
pub record IsPieceRead (n : ℕ) (old new : List ℕ) (before after : Option (List ℕ)) : Type 0 where
  pub bytes : List ℕ
  pub count : length bytes ≡ n
  pub appended : new ≡ old ++ bytes
  pub taken : Consumes before after bytes
  pub last : n ≡ 0 → IsSpent before after

-- a block of n bytes was read; or all that there are, which are fewer
abbrev pub IsBlockRead : Bool → ℕ → List ℕ → Option (List ℕ) → Option (List ℕ) → Type 0
IsBlockRead true n block before after = (length block ≡ n) × Consumes before after block
IsBlockRead false n block before after = (length block < n) × Consumes before after block
    × IsSpent before after

-- what was read after a line that asks for this
abbrev pub HearsAsked : Asked → Heard → List ℕ → Option (List ℕ) → Option (List ℕ) → Type 0
HearsAsked (asks.Do asked) (heards.Request request) block before after = (request ≡ asked)
    × (length block ≡ wanted request) × Consumes before after block
HearsAsked (asks.Do asked) (heards.Pause pauses.Cut) block before after = (length block < wanted asked)
    × Consumes before after block × IsSpent before after
HearsAsked asked (heards.Pause (pauses.Import path)) block before after =
    IsImport (string_bytes path) asked × (after ≡ before)
HearsAsked asked (heards.Pause (pauses.Export path)) block before after =
    IsExport (string_bytes path) asked × (after ≡ before)
HearsAsked asked heard block before after = ⊥
