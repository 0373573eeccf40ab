use Rattle.std.proofs.Common.{rules, List, ap, [], ◌∷◌, Some, None, codes, refl, lit<}
use Rattle.serde_ipld_dagcbor.specs.ByHand.{exit_part, begin_struct, begin_entries, next_entry, exit_field, end_struct}
use Rattle.ipld_tree.specs.Tree.{boolean, link}
use Rattle.ipld_tree.specs.Cid.{cid_bytes}
use Rattle.dagcbor_write.specs.Trees.{Pair, field}
use Rattle.tests_types.specs.declared.tests.by_hand.my_struct.MyStruct.{MyStruct}
use Rattle.tests_types.proofs.tests.by_hand.my_struct.MyStructSerialize.serialize.Goals as goal

abbrev fields : MyStruct → List Pair
fields p =
    field (codes "cid") (Some (link (cid_bytes p.cid)))
    ∷ field (codes "data") (Some (boolean p.data)) ∷ []

pub returns-in_err-fields-clause-written : goal.returns-in_err-fields-clause-written
returns-in_err-fields-clause-written g c = exit_part (begin_struct (fields c.args.self.now) 2 _ refl) _ _ _ c.from_residual.ensures.1 (rw c.in_err-fields.was at c.serialize_struct.follows.holds-at-none)

pub returns-in_err-serialize_field-clause-written : goal.returns-in_err-serialize_field-clause-written
returns-in_err-serialize_field-clause-written g c = exit_field (fields c.args.self.now) (begin_struct (fields c.args.self.now) 2 _ refl) c.in_ok-fields.ensures.head 0 (None, None) (lit< tt) _ _ _ c.in_err-serialize_field.ensures.entry.joins c.from_residual-in_err-serialize_field.ensures.1 (search rules)

pub returns-in_err-serialize_field-2-clause-written : goal.returns-in_err-serialize_field-2-clause-written
returns-in_err-serialize_field-2-clause-written g c = exit_field (fields c.args.self.now) (begin_struct (fields c.args.self.now) 2 _ refl) c.in_ok-fields.ensures.head 1 (None, None) (lit< tt) _ _ _ c.in_err-serialize_field-2.ensures.entry.joins c.from_residual-in_err-serialize_field-2.ensures.1 (search rules)

pub returns-clause-written : goal.returns-clause-written
returns-clause-written g c =
    let given = begin_entries (fields c.args.self.now) _ (ap (λ state. state.entries) c.in_ok-fields.ensures.nothing) in
    let given = next_entry given _ c.in_ok-serialize_field.ensures.entry.joins in
    let given = next_entry given _ c.in_ok-serialize_field-2.ensures.entry.joins in
    end_struct 2 _ (begin_struct (fields c.args.self.now) 2 _ refl) c.in_ok-fields.ensures.head given (search rules) _ _ _ _ c.end.ensures.written (search rules) (search rules)
