use Rattle.std.proofs.Common.{rules, ℕ, List, ap, [], ◌∷◌, Some, None, pos, codes, refl, lit<}
use Rattle.serde_ipld_dagcbor.specs.ByHand.{exit_part, begin_entries, next_entry, exit_field, end_struct, begin_struct_variant}
use Rattle.ipld_tree.specs.Tree.{integer}
use Rattle.dagcbor_write.specs.Trees.{Pair, field}
use Rattle.tests_types.proofs.tests.by_hand.second.serialize_data.Goals as goal

abbrev fields : ℕ → ℕ → ℕ → List Pair
fields b abc a = field (codes "b") (Some (integer (pos b))) ∷ field (codes "abc") (Some (integer (pos abc))) ∷ field (codes "a") (Some (integer (pos a))) ∷ []

pub returns-in_err-fields-clause-written : goal.returns-in_err-fields-clause-written
returns-in_err-fields-clause-written g c = (exit_part (begin_struct_variant (codes "Data") (fields c.args.b c.args.abc c.args.a) 3 _ refl) _ _ _ c.from_residual.ensures.1 (rw c.in_err-fields.was at c.serialize_struct_variant.follows.holds-at-none))

pub returns-in_err-serialize_field-clause-written : goal.returns-in_err-serialize_field-clause-written
returns-in_err-serialize_field-clause-written g c = (exit_field (fields c.args.b c.args.abc c.args.a) (begin_struct_variant (codes "Data") (fields c.args.b c.args.abc c.args.a) 3 _ refl) c.in_ok-fields.ensures.head 0 (None, None) (lit< tt) _ _ _ c.in_err-serialize_field.ensures.entry.joins c.from_residual-in_err-serialize_field.ensures.1 (search rules))

pub returns-in_err-serialize_field-2-clause-written : goal.returns-in_err-serialize_field-2-clause-written
returns-in_err-serialize_field-2-clause-written g c = (exit_field (fields c.args.b c.args.abc c.args.a) (begin_struct_variant (codes "Data") (fields c.args.b c.args.abc c.args.a) 3 _ refl) c.in_ok-fields.ensures.head 1 (None, None) (lit< tt) _ _ _ c.in_err-serialize_field-2.ensures.entry.joins c.from_residual-in_err-serialize_field-2.ensures.1 (search rules))

pub returns-in_err-serialize_field-3-clause-written : goal.returns-in_err-serialize_field-3-clause-written
returns-in_err-serialize_field-3-clause-written g c = (exit_field (fields c.args.b c.args.abc c.args.a) (begin_struct_variant (codes "Data") (fields c.args.b c.args.abc c.args.a) 3 _ refl) c.in_ok-fields.ensures.head 2 (None, None) (lit< tt) _ _ _ c.in_err-serialize_field-3.ensures.entry.joins c.from_residual-in_err-serialize_field-3.ensures.1 (search rules))

pub returns-clause-written : goal.returns-clause-written
returns-clause-written g c =
    let given = begin_entries (fields c.args.b c.args.abc c.args.a) _ (ap (λ state. state.entries) c.in_ok-fields.ensures.nothing) in
    let given = next_entry given _ c.in_ok-serialize_field.ensures.entry.joins in
    let given = next_entry given _ c.in_ok-serialize_field-2.ensures.entry.joins in
    let given = next_entry given _ c.in_ok-serialize_field-3.ensures.entry.joins in
    (end_struct 3 _ (begin_struct_variant (codes "Data") (fields c.args.b c.args.abc c.args.a) 3 _ refl) c.in_ok-fields.ensures.head given (search rules) _ _ _ _ c.end.ensures.written (search rules) (search rules))
