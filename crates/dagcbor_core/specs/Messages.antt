-- Messages in refusals of what is written.
use Rattle.std.specs.Prelude.{ℕ, List}
use Rattle.dagcbor_core.specs.Texts.{IsKept, text_bytes}
use Rattle.dagcbor_core.specs.declared.name.Message.{Message}

-- the bytes of a message
abbrev pub message_bytes : Message → List ℕ
message_bytes message = text_bytes message.text

-- the message is the longest beginning of the text that has at most 63 bytes and ends with a
-- character
pub record Says (message : Message) (text : List ℕ) : Type 0 where
  pub kept : IsKept 63 (message_bytes message) text
