-- What the program writes for its input.
use Rattle.std.specs.Prelude.{◌≡◌, ℕ, ◌+◌, ◌<◌, ◌≤◌, ◌-◌, ◌^◌, List, [], ◌∷◌, ◌++◌, length, take, drop, flat_map, codes, ⊤, Option, Some, Result, Ok, Err, MatchResult, IfSome, OnOk, IfErr}
use Rattle.std.specs.Io.{StartsWith}
use Rattle.std.specs.Io.KnownBytes.{Appends}
use Rattle.std.specs.Str.Lines.{lines}
use Rattle.hex.specs.Hex.{decode_of, encode_lower}
use Rattle.program_dagcbor.specs.Pieces.{IsOfOneLine}
use Rattle.program_dagcbor.specs.declared.command.Command.{Command}
use Rattle.program_dagcbor.specs.declared.command.Command.TheVariants.{Check, Links}
use Rattle.program_shared.specs.declared.fault.ToolError.{ToolError}
use Rattle.program_shared.specs.declared.fault.ToolError.TheVariants.{Output, OutOfMemory}
use Rattle.ipld_tree.specs.Tree.{Tree, links_of}
use Rattle.dagcbor_decode.specs.Decode.{Decoded, Why, got, refused, eof, mismatch, unsupported, non_minimal, indefinite_size, require_utf8, msg, unordered_key, depth_overflow, trailing_data, cast_overflow, decode, decode_first}
use Rattle.dagcbor_decode.specs.TreeKinds.{kind_of}
use Rattle.dagcbor_decode.specs.PrintedNames.{kind_name}

-- the name of the cause for which bytes are refused
abbrev pub variant : Why → List ℕ
variant (eof name expect) = codes "Eof"
variant (mismatch name found) = codes "Mismatch"
variant (unsupported name found) = codes "Unsupported"
variant (non_minimal name found) = codes "NonMinimal"
variant indefinite_size = codes "IndefiniteSize"
variant (require_utf8 name) = codes "RequireUtf8"
variant (msg message) = codes "Msg"
variant unordered_key = codes "UnorderedKey"
variant (depth_overflow name) = codes "DepthOverflow"
variant trailing_data = codes "TrailingData"
variant (cast_overflow name) = codes "CastOverflow"

-- each in hexadecimal, after a space
abbrev pub after_spaces : List (List ℕ) → List ℕ
after_spaces [] = []
after_spaces (form ∷ others) = (32 ∷ encode_lower form) ++ after_spaces others

-- links in hexadecimal, with spaces between, or `none` if there are none
abbrev pub links_text : List (List ℕ) → List ℕ
links_text [] = codes "none"
links_text (first ∷ others) = encode_lower first ++ after_spaces others

-- what is said of decoded bytes: a word about the tree, or why there is none
abbrev pub told : (Tree → List ℕ) → Decoded Tree → List ℕ
told word (got t rest) = word t
told word (refused why left) = codes "refused " ++ variant why

-- what `check` says of a block: its kind
abbrev pub check_line : List ℕ → List ℕ
check_line block = told (λ t. codes "ok " ++ kind_name (kind_of t)) (decode block)

-- what `links` says of a block: the links of the item at its start
abbrev pub links_line : List ℕ → List ℕ
links_line block = told (λ t. links_text (links_of t)) (decode_first block)

-- what a command says of a block
abbrev pub said : Command → List ℕ → List ℕ
said Check = check_line
said Links = links_line

-- what a command says of the bytes that a line encodes, or of a line that is not hexadecimal
abbrev pub said_of : {E : Type 0} → Command → Result (List ℕ) E → List ℕ
said_of command (Ok block) = said command block
said_of command (Err e) = codes "refused hex"

-- what a command says of a line
abbrev pub answer_to : Command → List ℕ → List ℕ
answer_to command line = said_of command (decode_of line)

-- the line and a line feed were appended to these bytes
abbrev pub AppendsLine : List ℕ → List ℕ → List ℕ → Type 0
AppendsLine line old new = new ≡ old ++ (line ++ 10 ∷ [])

-- What was there before stays, in any case. On `Ok` the line and a line feed follow it. The only
-- error is out of memory.
pub record PushesLine (line old new : List ℕ) (r : Result Unit ToolError) : Type 0 where
  pub kept : StartsWith new old
  pub written : OnOk r (AppendsLine line old new)
  pub memory : IfErr r (λ e. e ≡ OutOfMemory)

-- whatever follows the text: its lines are these, and then those of what is left of it
abbrev pub BeginsWithLines : List ℕ → List (List ℕ) → List ℕ → Type 0
BeginsWithLines text asked left = (more : List ℕ)
    → lines (text ++ more) ≡ asked ++ lines (left ++ more)

-- ---- the answers of many lines

-- the number of lines after which a run ends, with `Input`
abbrev pub most_lines : ℕ
most_lines = 2 ^ 64 - 1

-- the number of lines after which a run may end thus: out of memory only comes before the run ends
-- anyway
abbrev pub MayEndAfter : ℕ → ToolError → Type 0
MayEndAfter count OutOfMemory = count < most_lines
MayEndAfter count _ = ⊤

-- Each definition takes first the input, as lines or as bytes, then what is left of it, and last
-- what the output held before and holds after.
module _ (command : Command) where
  -- one line of output for each line, in order
  abbrev pub answers : List (List ℕ) → List ℕ
  answers asked = flat_map (λ line. answer_to command line ++ 10 ∷ []) asked

  -- the text begins with these lines, and their answers were appended to these bytes
  abbrev pub AppendsAnswers : List (List ℕ) → (text left old new : List ℕ) → Type 0
  AppendsAnswers done text left old new =
      BeginsWithLines text done left × (new ≡ old ++ answers done)

  -- a call wrote the answers of the first `count` lines of the input
  pub record WritesWhole (count : ℕ) (input : List ℕ) (old new : Option (List ℕ)) : Type 0 where
    pub enough : count ≤ length (lines input)
    pub appended : Appends old new (answers (take count (lines input)))

  -- a call wrote a prefix of the answers of the lines
  abbrev pub WritesBeginning : List (List ℕ) → (old new : Option (List ℕ)) → Type 0
  WritesBeginning asked old new =
      (part : List ℕ) × StartsWith (answers asked) part × Appends old new part

  -- the first `count` lines were taken from the input so far, and each was answered
  pub record HasAnswered (count : ℕ) (input : List ℕ) (remaining old new : Option (List ℕ))
      : Type 0 where
    pub left : List ℕ
    pub remains : remaining ≡ Some left
    pub others : lines left ≡ drop count (lines input)
    pub wrote : WritesWhole count input old new

  -- what is written of the answers of the input left, if a run ends thus after `done` lines: a
  -- prefix, if the output failed; else the answers of whole lines
  abbrev pub WritesUntil : ToolError → ℕ → List ℕ → (old new : Option (List ℕ)) → Type 0
  WritesUntil Output done input old new = WritesBeginning (lines input) old new
  WritesUntil e done input old new =
      (count : ℕ) × MayEndAfter (done + count) e × WritesWhole count input old new

  -- after `done` lines the run broke off with this error, and part of the next line, or none of it,
  -- was taken from the input
  pub record BreaksOff (e : ToolError) (done : ℕ) (input : List ℕ) (remaining old new : Option (List ℕ))
      : Type 0 where
    pub taken : List ℕ
    pub left : List ℕ
    pub split : input ≡ taken ++ left
    pub remains : remaining ≡ Some left
    pub of_one_line : IsOfOneLine taken
    pub wrote : WritesUntil e done input old new

  -- the whole input was taken, and each line was answered
  pub record AnswersAll (input : List ℕ) (remaining old new : Option (List ℕ)) : Type 0 where
    pub wrote : Appends old new (answers (lines input))
    pub at_end : remaining ≡ Some []

  -- whole lines were taken from the input, and each was answered; then the run broke off with this
  -- error
  pub record AnswersSome (e : ToolError) (input : List ℕ) (remaining old new : Option (List ℕ))
      : Type 0 where
    pub count : ℕ
    pub left : List ℕ
    pub now : Option (List ℕ)
    pub answered : HasAnswered count input (Some left) old now
    pub broken : BreaksOff e count left remaining now new

  -- a run over the input, if its bytes are known: each line was answered, or it broke off
  abbrev pub RunsLines : (before after old new : Option (List ℕ)) → Result Unit ToolError → Type 0
  RunsLines before after old new r = IfSome before (λ input. MatchResult r
      (λ _. AnswersAll input after old new) (λ e. AnswersSome e input after old new))
