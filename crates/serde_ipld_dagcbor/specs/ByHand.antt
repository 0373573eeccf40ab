-- Lemmas for the laws of types by hand, from the proofs of the crates below.

-- ---- a refusal that `?` passes on
pub use Rattle.dagcbor_heads.proofs.Refusing.{as_refusal}
-- ---- a text that is written part by part
pub use Rattle.dagcbor_heads.proofs.Writing.{next_part, exit_part, all_written, Writes_at, Writes_ok}
-- ---- a map that is collected, of a struct or of a variant
pub use Rattle.dagcbor_write.proofs.Fields.{begin_struct, begin_entries, next_entry, exit_field, end_struct}
pub use Rattle.dagcbor_write.proofs.Enums.{begin_tuple_variant, begin_struct_variant}
-- ---- a map that is read entry by entry
pub use Rattle.dagcbor_read.proofs.EntryLoops.{MapSoFar, map_begun, map_key_refused, at_value, map_value_refused, value_read, skip_refused, value_skipped, map_ended}
-- ---- what was read makes the value, or does not
pub use Rattle.dagcbor_read.proofs.FieldPlaces.{other_name}
pub use Rattle.dagcbor_read.proofs.Finishing.{handed_on, value_finished, value_unfinished}
-- ---- what a variant holds
pub use Rattle.dagcbor_read.proofs.NamedVariants.{held_refused}
