use Rattle.std.proofs.Common.{◌≡◌, refl, sym, ap, ◌∙◌, rules, Some}
use Rattle.dagcbor_blocks.proofs.Keeping.{block_found, held_already, now_held, still_sound}
use Rattle.dagcbor_blocks.proofs.store.Blocks.store.Goals as goal

pub returns-then-eq : goal.returns-then-eq
returns-then-eq c =
    let found = block_found c.args.name c.args.self.now.blocks.entries c.in-Some.other.now (sym c.in-Some.ensures.value) in
    let same : c.in-Some.other.now.items ≡ c.args.bytes.items = search rules in
    (refl, held_already c.args.name _ c.args.bytes.items (found ∙ ap Some same))

pub returns-in-Some : goal.returns-in-Some
returns-in-Some c =
    let found = block_found c.args.name c.args.self.now.blocks.entries c.in-Some.other.now (sym c.in-Some.ensures.value) in
    (refl, (c.in-Some.other.now.items, found, λ e. search rules))

pub invariant_of-self : goal.invariant_of-self
invariant_of-self c = record {
  sound = still_sound c.insert.result c.args.self.now.blocks.entries c.insert.new.self.entries c.args.name c.args.bytes c.insert.ensures.entries c.insert.ensures.err
      c.version-version.ensures.valid c.requires c.args.self.now.sound;
}

pub returns-in-Ok : goal.returns-in-Ok
returns-in-Ok c = (refl, now_held c.args.self.now.blocks c.insert.new.self c.args.name c.args.bytes (sym c.in-None.ensures.value) c.in-Ok.ensures.updates)
