use Rattle.std.proofs.Common.{◌≡◌, ◌++◌, ◌∷◌, [], List, take}
use Rattle.ipld_tree.proofs.Trees.{IpldEntry}
use Rattle.text_dag_json.proofs.Listing.{AreOut, texts_of, texts_of_entries}
use Rattle.text_dag_json.proofs.tree.+push_data.Given as goal

abbrev pub invariant-push_list-loop-item : goal.invariant-push_list-loop-item
invariant-push_list-loop-item l = AreOut (l.fn.out.items ++ 91 ∷ []) l.out.items (texts_of (take l.item-index l.items)) l.is_first

abbrev pub invariant-push_map-loop-key : goal.invariant-push_map-loop-key
invariant-push_map-loop-key l = (done : List IpldEntry) × (l.initial.key-iterator ≡ done ++ l.key-iterator) × AreOut (l.fn.out.items ++ 123 ∷ []) l.out.items (texts_of_entries done) l.is_first
