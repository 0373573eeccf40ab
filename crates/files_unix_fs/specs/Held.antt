-- The values that the code's fields and messages stand for.
use Rattle.std.specs.Prelude.{ℕ, option_map}
use Rattle.files_unix_fs.specs.Fields.{number, bytes}
use Rattle.files_unix_fs.specs.Fields as fields
use Rattle.files_unix_fs.specs.UnixFs.{SaidParts, UnixFsParts, sizes_of}
use Rattle.files_unix_fs.specs.declared.field.Value.{Value}
use Rattle.files_unix_fs.specs.declared.field.Value.TheVariants.{Number, Bytes}
use Rattle.files_unix_fs.specs.declared.field.Field.{Field}
use Rattle.files_unix_fs.specs.declared.message.Said.{Said}
use Rattle.files_unix_fs.specs.declared.message.UnixFs.{UnixFs}

abbrev pub held_value : Value → fields.Value
held_value (Number n) = number n
held_value (Bytes s) = bytes s.now

abbrev pub held_field : Field → ℕ × fields.Value
held_field field = (field.tag, held_value field.value)

abbrev pub held_said : Said → SaidParts
held_said said = record {
  kind = said.kind;
  content = option_map (λ s. s.now) said.content;
  file_size = said.file_size;
  hash_type = said.hash_type;
  fanout = said.fanout;
}

abbrev pub held_parts : UnixFs → UnixFsParts
held_parts u = record {
  kind = u.kind;
  content = option_map (λ s. s.now) u.content;
  file_size = u.file_size;
  block_sizes = sizes_of u.sizes.now;
  hash_type = u.hash_type;
  fanout = u.fanout;
}
