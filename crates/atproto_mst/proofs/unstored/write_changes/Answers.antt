use Rattle.std.proofs.Common.{◌≡◌, ◌⊎◌, inl, inr, [], refl, sym, ap, subst, append-nil, ◌∙◌}
use Rattle.std.proofs.lemmas.Result.{IfErr-weaker}
use Rattle.ipld_links.specs.Reaching.{stored_in}
use Rattle.atproto_mst.specs.Trees.{nodes_of}
use Rattle.atproto_mst.specs.Entries.{entries, EntriesRefused}
use Rattle.atproto_mst.specs.Keys.{AreMstEntries}
use Rattle.atproto_mst.specs.Sinks.{HandsOverFirst, RefusesOne, not_stored}
use Rattle.atproto_mst.proofs.Building.{on_ok_more}
use Rattle.atproto_mst.proofs.Keeping.{among_kept, kept_of_both}
use Rattle.atproto_mst.proofs.unstored.write_changes.Goals as goal

pub returns-clause-taken : goal.returns-clause-taken
returns-clause-taken g c = on_ok_more c.write_mst-root.result
    (λ t w before h. (t (stored_in c.args.blocks.now, (w, before)) [] (refl, subst (g.S.NodeSink.holds c.args.sink w) (sym (append-nil before)) h)).1)
    c.write_mst-root.ensures.taken

pub returns-clause-refused : goal.returns-clause-refused
returns-clause-refused g c = IfErr-weaker c.write_mst-root.result _
    (λ e. (EntriesRefused e (entries c.args.all.now) × (c.write_mst-root.new.sink.sink ≡ c.args.sink))
    ⊎ (AreMstEntries (entries c.args.all.now) × RefusesOne g.S.NodeSink.holds g.S.NodeSink.refuses c.args.sink (not_stored (stored_in c.args.blocks.now) (nodes_of (entries c.args.all.now))) e))
    (λ e h. elim h [
      | inl r ↦ inl (r.0, ap (λ s. s.sink) r.1)
      | inr k ↦ inr (
        k.0,
        λ w before x. elim (k.1 (stored_in c.args.blocks.now, (w, before)) [] (refl, subst (g.S.NodeSink.holds c.args.sink w) (sym (append-nil before)) x)) [
          | inl m ↦ inl m
          | inr f ↦ inr (f.0, among_kept (stored_in c.args.blocks.now) f.0 (nodes_of (entries c.args.all.now)) f.2.0 f.1, f.2.1)
        ],
      )
    ])
    c.write_mst-root.ensures.refused

pub returns-clause-begun : goal.returns-clause-begun
returns-clause-begun g c = IfErr-weaker c.write_mst-root.result _
    (λ e. HandsOverFirst g.S.NodeSink.holds c.args.sink (not_stored (stored_in c.args.blocks.now) (nodes_of (entries c.args.all.now))) c.write_mst-root.new.sink.sink)
    (λ e h. (
      not_stored (stored_in c.args.blocks.now) h.0,
      not_stored (stored_in c.args.blocks.now) h.1,
      ap (not_stored (stored_in c.args.blocks.now)) h.2 ∙ kept_of_both (stored_in c.args.blocks.now) h.0 h.1,
      λ w before x. (h.3 (stored_in c.args.blocks.now, (w, before)) [] (refl, subst (g.S.NodeSink.holds c.args.sink w) (sym (append-nil before)) x)).1,
    ))
    c.write_mst-root.ensures.begun
