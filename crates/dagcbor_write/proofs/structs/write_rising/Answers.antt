use Rattle.std.proofs.Common.{List, Some}
use Rattle.dagcbor_heads.proofs.Writing.{next_part, exit_part, last_part}
use Rattle.ipld_tree.specs.Tree.{entries_tree}
use Rattle.ipld_tree.specs.Spelled.{spelled_tree, spelled_head}
use Rattle.dagcbor_write.specs.Rows.{places_of}
use Rattle.dagcbor_write.specs.Trees.{Pair}
use Rattle.dagcbor_write.proofs.Lists.{OnOk_of}
use Rattle.dagcbor_write.proofs.Parts.{begin_two}
use Rattle.dagcbor_write.proofs.PlaceOrder.{ordered_map}
use Rattle.dagcbor_write.proofs.structs.write_rising.Goals as goal

pub returns-in_err-push_head-clause-written : goal.returns-in_err-push_head-clause-written
returns-in_err-push_head-clause-written g c =
    let pairs : List Pair = g.F.FieldRow.pairs c.args.fields.now in
    let m = ordered_map pairs (places_of c.args.order) c.args.count c.in_ok-bytes.bytes.items
    c.requires.count c.in_ok-bytes.ensures.0
    c.in_ok-bytes.ensures.1 c.requires.rising in
    let w = begin_two (spelled_tree (entries_tree pairs)) (spelled_head 5 c.args.count)
    (Some c.in_ok-bytes.bytes.items) _ m.0 in
    exit_part w _ _ _ c.from_residual-in_err-push_head.ensures.1 c.in_err-push_head.ensures.written

pub returns-clause-written : goal.returns-clause-written
returns-clause-written g c =
    let pairs : List Pair = g.F.FieldRow.pairs c.args.fields.now in
    let m = ordered_map pairs (places_of c.args.order) c.args.count c.in_ok-bytes.bytes.items
    c.requires.count c.in_ok-bytes.ensures.0
    c.in_ok-bytes.ensures.1 c.requires.rising in
    let w = begin_two (spelled_tree (entries_tree pairs)) (spelled_head 5 c.args.count)
    (Some c.in_ok-bytes.bytes.items) _ m.0 in
    last_part (next_part w _ c.in_ok-push_head.ensures.written) _ _
    (rw c.as_slice.ensures.value at c.push.ensures.written)

pub returns-clause-well_formed : goal.returns-clause-well_formed
returns-clause-well_formed g c =
    let pairs : List Pair = g.F.FieldRow.pairs c.args.fields.now in
    let m = ordered_map pairs (places_of c.args.order) c.args.count c.in_ok-bytes.bytes.items
    c.requires.count c.in_ok-bytes.ensures.0
    c.in_ok-bytes.ensures.1 c.requires.rising in
    OnOk_of _ m.1
