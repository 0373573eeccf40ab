use Rattle.std.proofs.Common.{◌≡◌, codes}
use Rattle.ipld_tree.specs.Ipld.{tree_of}
use Rattle.dagcbor_write.specs.TreeMessages.{tree_message}
use Rattle.dagcbor_write.proofs.IpldTrees.{list_kind, map_kind, Writes_tree, good_tree, integer_told, list_told, map_told, list_no_integer, map_no_integer}
use Rattle.dagcbor_write.proofs.Messages.{none_as, left_unsent}
use Rattle.dagcbor_write.proofs.types.data.+serialize.Goals as goal

pub push_data-returns-in-List-clause-written : goal.push_data-returns-in-List-clause-written
push_data-returns-in-List-clause-written g t c = Writes_tree _ _ _ _ _ (list_kind c.args.value.now c.in-List.items c.in-List.is) c.serialize.ensures.written

pub push_data-returns-in-List-clause-well_formed : goal.push_data-returns-in-List-clause-well_formed
push_data-returns-in-List-clause-well_formed g t c = good_tree _ _ _ (list_kind c.args.value.now c.in-List.items c.in-List.is) c.serialize.ensures.well_formed

pub push_data-returns-in-Map-clause-written : goal.push_data-returns-in-Map-clause-written
push_data-returns-in-Map-clause-written g t c = Writes_tree _ _ _ _ _ (map_kind c.args.value.now c.in-Map.entries c.in-Map.is c.iter.ensures.ordered) c.write_texts.ensures.written

pub push_data-returns-in-Map-clause-well_formed : goal.push_data-returns-in-Map-clause-well_formed
push_data-returns-in-Map-clause-well_formed g t c = good_tree _ _ _ (map_kind c.args.value.now c.in-Map.entries c.in-Map.is c.iter.ensures.ordered) c.write_texts.ensures.well_formed

pub push_data-returns-in-Null-clause-told : goal.push_data-returns-in-Null-clause-told
push_data-returns-in-Null-clause-told g t c = none_as (tree_message (tree_of c.args.value.now)) _ c.serialize_unit.ensures.silent

pub push_data-returns-in-Bool-clause-told : goal.push_data-returns-in-Bool-clause-told
push_data-returns-in-Bool-clause-told g t c = none_as (tree_message (tree_of c.args.value.now)) _ c.serialize_bool.ensures.silent

pub push_data-returns-in-String-clause-told : goal.push_data-returns-in-String-clause-told
push_data-returns-in-String-clause-told g t c = none_as (tree_message (tree_of c.args.value.now)) _ c.serialize_str.ensures.silent

pub push_data-returns-in-Bytes-clause-told : goal.push_data-returns-in-Bytes-clause-told
push_data-returns-in-Bytes-clause-told g t c = none_as (tree_message (tree_of c.args.value.now)) _ c.serialize_bytes.ensures.silent

pub push_data-returns-in-Link-clause-told : goal.push_data-returns-in-Link-clause-told
push_data-returns-in-Link-clause-told g t c = none_as (tree_message (tree_of c.args.value.now)) _ c.serialize_cid.ensures.silent

pub push_data-returns-in-Integer-clause-told : goal.push_data-returns-in-Integer-clause-told
push_data-returns-in-Integer-clause-told g t c = integer_told c.args.value.now c.in-Integer.n _ _ _ c.in-Integer.is c.serialize_i128.ensures.message

pub push_data-returns-in-List-clause-told : goal.push_data-returns-in-List-clause-told
push_data-returns-in-List-clause-told g t c = list_told c.args.value.now c.in-List.items _ c.in-List.is c.serialize.ensures.told

pub push_data-returns-in-Map-clause-told : goal.push_data-returns-in-Map-clause-told
push_data-returns-in-Map-clause-told g t c = map_told c.args.value.now c.in-Map.entries _ c.in-Map.is c.write_texts.ensures.message

pub push_data-returns-in-Integer-clause-unsent : goal.push_data-returns-in-Integer-clause-unsent
push_data-returns-in-Integer-clause-unsent g t c h = left_unsent g.W.Write.written (λ m. m ≡ codes "Integer must be within [-u64::MAX-1, u64::MAX] range") c.args.ser.now c.serialize_i128.new.self _ c.serialize_i128.ensures.message

pub push_data-returns-in-List-clause-unsent : goal.push_data-returns-in-List-clause-unsent
push_data-returns-in-List-clause-unsent g t c h = list_no_integer c.args.value.now c.in-List.items c.in-List.is h

pub push_data-returns-in-Map-clause-unsent : goal.push_data-returns-in-Map-clause-unsent
push_data-returns-in-Map-clause-unsent g t c h = map_no_integer c.args.value.now c.in-Map.entries c.in-Map.is h
