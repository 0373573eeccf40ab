use Rattle.std.proofs.Common.{◌≡◌, ap, ◌∙◌, subst, IfOk, OnOk, IfErr, inr, ◌⊎◌}
use Rattle.std.proofs.lemmas.Result.{IfErr-weaker}
use Rattle.ipld_tree.specs.Spelling.{spelling}
use Rattle.ipld_links.specs.Names.{block_name}
use Rattle.atproto_mst.specs.Keys.{AreMstEntries}
use Rattle.atproto_mst.specs.Trees.{nodes, top_layer, nodes_of}
use Rattle.atproto_mst.specs.Placed.{all_told}
use Rattle.atproto_mst.specs.Entries.{entries, EntriesRefused}
use Rattle.atproto_mst.specs.Sinks.{HandsOver, HandsOverFirst, RefusesOne}
use Rattle.atproto_mst.proofs.Whole.{tree_is, nodes_is}
use Rattle.atproto_mst.proofs.write.write_mst.Goals as goal

pub returns-clause-root : goal.returns-clause-root
returns-clause-root g c = subst (λ t. IfOk c.name_node.result (λ root. root ≡ block_name (spelling t)))
    (tree_is (entries c.args.all.now) (all_told c.deref.result.now) c.top_of.result (ap all_told c.deref.ensures.value ∙ c.in_ok-leaves.ensures) (c.top_of.ensures ∙ ap (λ ps. top_layer (all_told ps)) c.deref-2.ensures.value ∙ ap top_layer c.in_ok-leaves.ensures))
    c.name_node.ensures.name

pub returns-clause-taken : goal.returns-clause-taken
returns-clause-taken g c = subst (λ xs. OnOk c.name_node.result (HandsOver g.S.NodeSink.holds c.args.sink.now xs c.name_node.new.sink))
    (nodes_is (entries c.args.all.now) (all_told c.deref.result.now) c.top_of.result (ap all_told c.deref.ensures.value ∙ c.in_ok-leaves.ensures) (c.top_of.ensures ∙ ap (λ ps. top_layer (all_told ps)) c.deref-2.ensures.value ∙ ap top_layer c.in_ok-leaves.ensures))
    c.name_node.ensures.taken

pub returns-clause-refused : goal.returns-clause-refused
returns-clause-refused g c = IfErr-weaker c.name_node.result
    (RefusesOne g.S.NodeSink.holds g.S.NodeSink.refuses c.args.sink.now (nodes c.top_of.result (all_told c.deref.result.now)))
    (λ e. (EntriesRefused e (entries c.args.all.now) × (c.name_node.new.sink ≡ c.args.sink.now)) ⊎ (AreMstEntries (entries c.args.all.now) × RefusesOne g.S.NodeSink.holds g.S.NodeSink.refuses c.args.sink.now (nodes_of (entries c.args.all.now)) e))
    (λ e h. inr (
      c.in_ok-check_entries.ensures,
      subst (λ xs. RefusesOne g.S.NodeSink.holds g.S.NodeSink.refuses c.args.sink.now xs e)
          (nodes_is (entries c.args.all.now) (all_told c.deref.result.now) c.top_of.result (ap all_told c.deref.ensures.value ∙ c.in_ok-leaves.ensures) (c.top_of.ensures ∙ ap (λ ps. top_layer (all_told ps)) c.deref-2.ensures.value ∙ ap top_layer c.in_ok-leaves.ensures)) h,
    ))
    c.name_node.ensures.refused

pub returns-clause-begun : goal.returns-clause-begun
returns-clause-begun g c = subst (λ xs. IfErr c.name_node.result (λ _. HandsOverFirst g.S.NodeSink.holds c.args.sink.now xs c.name_node.new.sink))
    (nodes_is (entries c.args.all.now) (all_told c.deref.result.now) c.top_of.result (ap all_told c.deref.ensures.value ∙ c.in_ok-leaves.ensures) (c.top_of.ensures ∙ ap (λ ps. top_layer (all_told ps)) c.deref-2.ensures.value ∙ ap top_layer c.in_ok-leaves.ensures))
    c.name_node.ensures.begun
