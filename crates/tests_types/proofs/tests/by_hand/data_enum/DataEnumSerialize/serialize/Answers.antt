use Rattle.std.proofs.Common.{rules, ℕ, Bool, List, Option, [], ◌∷◌, Some, pos, codes}
use Rattle.serde_ipld_dagcbor.specs.ByHand.{next_part, exit_part, all_written, Writes_at, Writes_ok, begin_tuple_variant}
use Rattle.ipld_tree.specs.Tree.{Tree, boolean, integer}
use Rattle.tests_types.proofs.tests.by_hand.data_enum.DataEnumSerialize.serialize.Goals as goal

abbrev parts : Bool → ℕ → List (Option Tree)
parts flag n = Some (boolean flag) ∷ Some (integer (pos n)) ∷ []

pub returns-in_err-parts-in-B-clause-written : goal.returns-in_err-parts-in-B-clause-written
returns-in_err-parts-in-B-clause-written g c = rw c.in-B.is (exit_part (begin_tuple_variant (codes "B") (parts c.in-B.flag c.in-B.n) (g.W.Write.written c.args.ser.now)) _ _ _ c.from_residual.ensures.1 (rw c.in_err-parts-in-B.was at c.serialize_tuple_variant.follows.holds-at-none))

pub returns-in_err-serialize_field-in-B-clause-written : goal.returns-in_err-serialize_field-in-B-clause-written
returns-in_err-serialize_field-in-B-clause-written g c =
    let w = next_part (begin_tuple_variant (codes "B") (parts c.in-B.flag c.in-B.n) (g.W.Write.written c.args.ser.now)) _ c.in_ok-parts-in-B.ensures.begins.head in
    rw c.in-B.is (Writes_at _ _ _ _ _ (search rules) (exit_part w _ _ _ c.from_residual-in_err-serialize_field-in-B.ensures.1 c.in_err-serialize_field-in-B.ensures.item))

pub returns-in_err-serialize_field-in-B-2-clause-written : goal.returns-in_err-serialize_field-in-B-2-clause-written
returns-in_err-serialize_field-in-B-2-clause-written g c =
    let w = next_part (begin_tuple_variant (codes "B") (parts c.in-B.flag c.in-B.n) (g.W.Write.written c.args.ser.now)) _ c.in_ok-parts-in-B.ensures.begins.head in
    let w = next_part w _ c.in_ok-serialize_field-in-B.ensures.item in
    rw c.in-B.is (Writes_at _ _ _ _ _ (search rules) (exit_part w _ _ _ c.from_residual-in_err-serialize_field-in-B-2.ensures.1 c.in_err-serialize_field-in-B-2.ensures.item))

pub returns-in_ok-serialize_field-in-B-2-clause-written : goal.returns-in_ok-serialize_field-in-B-2-clause-written
returns-in_ok-serialize_field-in-B-2-clause-written g c =
    let w = next_part (begin_tuple_variant (codes "B") (parts c.in-B.flag c.in-B.n) (g.W.Write.written c.args.ser.now)) _ c.in_ok-parts-in-B.ensures.begins.head in
    let w = next_part w _ c.in_ok-serialize_field-in-B.ensures.item in
    let w = next_part w _ c.in_ok-serialize_field-in-B-2.ensures.item in
    rw c.in-B.is (Writes_at _ _ _ _ _ (search rules) (Writes_ok _ _ _ _ c.end.ensures.ok (all_written w)))
