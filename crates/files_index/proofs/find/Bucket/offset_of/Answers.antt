use Rattle.std.proofs.Common.{rules}
use Rattle.files_index.proofs.Lookups.{some_known, short_entry, other_entry, right_entry}
use Rattle.files_index.proofs.find.Bucket.offset_of.Goals as goal

pub returns-in_default : goal.returns-in_default
returns-in_default g c = some_known (g.S.ReadAt.bytes c.args.source.now) (rw c.in_default.is at c.in_ok-order.ensures) (λ b h below short offset e.
    short_entry b c.args.digest.now c.args.self.now c.args.number offset (h below) e)

pub returns-in_default-order : goal.returns-in_default-order
returns-in_default-order g c = some_known (g.S.ReadAt.bytes c.args.source.now) (rw c.in-Some.is at c.in_ok-order.ensures) (λ b h below short offset e.
    other_entry b c.args.digest.now c.args.self.now c.args.number offset c.in-Some.order (h below) c.in_default-order.not-Equal e)

pub returns-in-Equal : goal.returns-in-Equal
returns-in-Equal g c = right_entry (g.S.ReadAt.bytes c.args.source.now) c.args.digest.now c.args.self.now c.args.number c.place_of-place.result c.saturating_add.result c.in-Some.order _ c.number_at.result c.if-number-self.false (rw c.in-Some.is at c.in_ok-order.ensures) c.in-Equal.is (search rules) (search rules) c.number_at.ensures
