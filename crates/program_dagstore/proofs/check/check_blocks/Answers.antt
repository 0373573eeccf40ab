use Rattle.std.proofs.Common.{◌≡◌, refl, [], ◌↔◌, inl, inr, sym, subst, IsTrue, flat_map}
use Rattle.std.specs.Io.KnownBytes.{Appends}
use Rattle.std.proofs.KnownBytes.{Appends-trans}
use Rattle.std.proofs.lemmas.Result.{err_from_is_err_and}
use Rattle.program_shared.specs.declared.fault.ToolError.TheVariants.{OutOfMemory}
use Rattle.program_parts.specs.Lines.{missing_line}
use Rattle.program_dagstore.specs.Checks.{IsCheckedLine}
use Rattle.program_parts.proofs.Saying.{text_breaks}
use Rattle.program_dagstore.proofs.Telling.{nothing_after}
use Rattle.program_dagstore.proofs.Missing.{lists_missing}
use Rattle.program_dagstore.proofs.check.check_blocks.Goals as goal

pub returns-in_err-said-clause-says : goal.returns-in_err-said-clause-says
returns-in_err-said-clause-says g c =
    let p = err_from_is_err_and c.from_residual-in_err-said.result c.from_residual-in_err-said.ensures.1 in
    rw (p.1, p.2) (inl (nothing_after IsCheckedLine (g.S.Store.view c.args.store.now) (g.S.Store.view c.check_names.new.store) _ _ c.in_ok-all_sound.all_sound OutOfMemory c.in_ok-all_sound.ensures.says))

pub returns-in_err-none_missing-clause-says : goal.returns-in_err-none_missing-clause-says
returns-in_err-none_missing-clause-says g c =
    let v = g.S.Store.view c.args.store.now in
    let s = c.check_names.new.missing in
    let p = err_from_is_err_and c.from_residual-in_err-none_missing.result c.from_residual-in_err-none_missing.ensures.1 in
    rw (p.1, p.2) (inr (
      g.W.Write.contents c.check_names.new.output,
      c.in_ok-all_sound.all_sound,
      s.keys,
      c.in_ok-all_sound.ensures.says,
      (λ clean. lists_missing v s c.in_ok-said.ensures.0 (c.in_ok-all_sound.ensures.missing clean)),
      text_breaks (λ text. text ≡ flat_map missing_line s.keys) c.in_ok-said.said.0.items _ _ c.in_err-none_missing.field-0.0 c.in_ok-said.ensures.1 c.in_err-none_missing.ensures,
    ))

pub returns-clause-says : goal.returns-clause-says
returns-clause-says g c =
    let v = g.S.Store.view c.args.store.now in
    let s = c.check_names.new.missing in
    let k = c.in_ok-all_sound.ensures.says in record {
      names = k.0;
      all_well = c.in_ok-all_sound.all_sound;
      said = k.1;
      all = k.2;
      each = k.3;
      links = s.keys;
      missing = λ clean. lists_missing v s c.in_ok-said.ensures.0 (c.in_ok-all_sound.ensures.missing clean);
      none = c.in_ok-none_missing.none_missing;
      is_none = subst (λ b. IsTrue b ↔ (s.keys ≡ [])) (sym c.in_ok-none_missing.ensures.0) c.in_ok-said.ensures.2;
      lines = Appends-trans _ _ _ k.1 _ k.4 (subst (λ t. Appends (g.W.Write.contents c.check_names.new.output) (g.W.Write.contents c.say.new.output) t) c.in_ok-said.ensures.1 c.in_ok-none_missing.ensures.1);
      wellness = refl;
    }
