use Rattle.std.proofs.Common.{◌-◌, inl, inr, map, refl, sym, ◌∙◌, subst}
use Rattle.std.proofs.lemmas.Result.{err_from_is_err_and}
use Rattle.files_unix_fs.specs.UnixFs.{sizes_of}
use Rattle.files_unix_fs.specs.Nodes.{cids_of}
use Rattle.files_unix_fs.specs.Files.{total_of}
use Rattle.files_unix_fs.specs.Held.{held_parts}
use Rattle.files_unix_fs.specs.Reading.{asked, paired, HasPart, IsTotal}
use Rattle.files_unix_fs.proofs.Fronts.{test_false}
use Rattle.files_unix_fs.proofs.Pairing.{unequal}
use Rattle.files_unix_fs.proofs.Parts.{no_file, empty_part, other_file_size, other_size, file_part, wrong_links, unpaired, total_along}
use Rattle.files_unix_fs.proofs.part.read_file.Goals as goal

pub returns-then-not-is_file_kind : goal.returns-then-not-is_file_kind
returns-then-not-is_file_kind c =
    let none = sym c.is_file_kind.ensures ∙ c.if-not-is_file_kind.true in (
      (held_parts c.args.file.now, c.requires.node, refl, none),
      no_file (asked c.args.wanted.now) c.args.block.now (held_parts c.args.file.now) c.requires.node none,
    )

pub returns-then-has_empty_part : goal.returns-then-has_empty_part
returns-then-has_empty_part c =
    let file = sym c.is_file_kind.ensures ∙ c.if-not-is_file_kind.false in
    let empty = sym c.has_empty_part.ensures ∙ c.if-has_empty_part.true in (
      (held_parts c.args.file.now, c.requires.node, file, empty),
      empty_part (asked c.args.wanted.now) c.args.block.now (held_parts c.args.file.now) c.requires.node file empty,
    )

pub returns-then-not-is_announced : goal.returns-then-not-is_announced
returns-then-not-is_announced c =
    let parts = held_parts c.args.file.now in
    let file = sym c.is_file_kind.ensures ∙ c.if-not-is_file_kind.false in
    let untold = test_false c.is_announced.result c.if-not-is_announced.true c.is_announced.ensures.1 in
    let other = λ (h : IsTotal c.args.file.now.file_size (total_of parts)). untold (total_along c.args.file.now.file_size _ _ _ (sym c.content_of-content.ensures) h) in (
      inr (parts, c.requires.node, inl other),
      other_file_size (asked c.args.wanted.now) c.args.block.now parts c.requires.node file other,
    )

pub returns-then-not-is_announced-2 : goal.returns-then-not-is_announced-2
returns-then-not-is_announced-2 c =
    let parts = held_parts c.args.file.now in
    let file = sym c.is_file_kind.ensures ∙ c.if-not-is_file_kind.false in
    let total = total_along c.args.file.now.file_size _ _ _ c.content_of-content.ensures (c.is_announced.ensures.0 c.if-not-is_announced.false) in
    let untold = test_false c.is_announced-2.result c.if-not-is_announced-2.true c.is_announced-2.ensures.1 in
    let other = λ (h : IsTotal c.args.wanted.now.size (total_of parts)). untold (total_along c.args.wanted.now.size _ _ _ (sym c.content_of-content.ensures) h) in (
      inr (parts, c.requires.node, inr other),
      other_size (asked c.args.wanted.now) c.args.block.now parts c.requires.node file total other,
    )

pub returns-in_err-after : goal.returns-in_err-after
returns-in_err-after c =
    let parts = held_parts c.args.file.now in
    let file = sym c.is_file_kind.ensures ∙ c.if-not-is_file_kind.false in
    let total = total_along c.args.file.now.file_size _ _ _ c.content_of-content.ensures (c.is_announced.ensures.0 c.if-not-is_announced.false) in
    let size = total_along c.args.wanted.now.size _ _ _ c.content_of-content.ensures (c.is_announced-2.ensures.0 c.if-not-is_announced-2.false) in
    let some = sym c.has_empty_part.ensures ∙ c.if-has_empty_part.false in
    let p = err_from_is_err_and c.from_residual.result c.from_residual.ensures.1 in
    rw (p.1, p.2) (unpaired c.in_err-after.field-0.0 (asked c.args.wanted.now) c.args.block.now parts
    (paired (c.args.wanted.now.depth - 1) (cids_of c.args.block.now) (sizes_of c.args.file.now.sizes.now)) c.requires.node
    (λ none. (wrong_links (asked c.args.wanted.now) c.args.block.now parts c.requires.node file some total size none, unequal (c.args.wanted.now.depth - 1) (cids_of c.args.block.now) (sizes_of c.args.file.now.sizes.now) none))
    c.in_err-after.ensures)

pub returns : goal.returns
returns c =
    let parts = held_parts c.args.file.now in
    let file = sym c.is_file_kind.ensures ∙ c.if-not-is_file_kind.false in
    let total = total_along c.args.file.now.file_size _ _ _ c.content_of-content.ensures (c.is_announced.ensures.0 c.if-not-is_announced.false) in
    let size = total_along c.args.wanted.now.size _ _ _ c.content_of-content.ensures (c.is_announced-2.ensures.0 c.if-not-is_announced-2.false) in
    let some = sym c.has_empty_part.ensures ∙ c.if-has_empty_part.false in
    subst (λ s. HasPart (asked c.args.wanted.now) c.args.block.now s (map asked c.in_ok-after.after.items)) (sym c.content_of-content.ensures)
    (file_part (asked c.args.wanted.now) c.args.block.now parts (map asked c.in_ok-after.after.items) c.requires.node file some total size c.in_ok-after.ensures)
