use Rattle.std.proofs.Common.{subst, ap, ◌∙◌}
use Rattle.ipld_links.specs.Names.{block_name}
use Rattle.ipld_links.specs.Blocks.{HasBlock}
use Rattle.dagcbor_blocks.proofs.Keeping.{put_done, sound_named}
use Rattle.dagcbor_blocks.proofs.store.Blocks.put.Goals as goal

pub returns : goal.returns
returns g c = put_done c.spelling_unique.ensures (g.T.Serialize.tree c.args.value.now) c.in-Ok.bytes c.name_of_block-name.result _ _ c.store.result c.in-Ok.ensures.value (subst HasBlock c.deref.ensures.value c.in_ok-check_depth.ensures) (c.name_of_block-name.ensures ∙ ap block_name c.deref-2.ensures.value) c.store.ensures

pub store-requires : goal.store-requires
store-requires g c = sound_named c.name_of_block-name.result c.in-Ok.bytes.items (c.name_of_block-name.ensures ∙ ap block_name c.deref-2.ensures.value) (subst HasBlock c.deref.ensures.value c.in_ok-check_depth.ensures)
