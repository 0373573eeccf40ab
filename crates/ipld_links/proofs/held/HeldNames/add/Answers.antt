use Rattle.std.proofs.Common.{ap, ◌∙◌, Some, refl}
use Rattle.ipld_links.proofs.Keeping.{name_there, other_joined, row_joined, same_places, none_named, place_named}
use Rattle.ipld_links.specs.declared.held.HeldNames.{HeldNames}
use Rattle.ipld_links.proofs.held.HeldNames.add.Goals as goal

pub returns-then-place-end : goal.returns-then-place-end
returns-then-place-end c =
    let absent = none_named c.args.self.now c.front_of.result c.in_ok-place.place c.len-end.result (c.len-end.ensures ∙ c.args.self.now.names.ok.0) c.in_ok-place.ensures.place c.if-place-end.true in
    row_joined c.args.cid c.front_of.result c.args.self.now record { names = c.push.new.self; places = c.place_at.new.places; others = c.args.self.now.others } c.version-version.ensures.valid c.front_of.ensures absent c.in_ok-push.ensures.items
    (c.in_ok-place.ensures.there ∙ ap (λ n. Some n) (c.if-place-end.true ∙ c.len-end.ensures ∙ c.args.self.now.names.ok.0)) c.in_ok-place.ensures.others refl

pub returns-then-has_at : goal.returns-then-has_at
returns-then-has_at c =
    let before = place_named _ c.in_ok-place.place c.len-end.result c.in_ok-place.ensures.place c.if-place-end.false in
    let new : HeldNames = record { names = c.args.self.now.names; places = c.place_at.new.places; others = c.args.self.now.others } in
    name_there c.args.cid c.args.self.now new c.in_ok-place.place c.version-version.ensures.valid refl (same_places c.args.self.now new c.front_of.result c.in_ok-place.place before c.in_ok-place.ensures.there c.in_ok-place.ensures.others) refl (rw c.front_of.ensures at before) (c.has_at.ensures c.if-has_at.true)

pub returns : goal.returns
returns c =
    let before = place_named _ c.in_ok-place.place c.len-end.result c.in_ok-place.ensures.place c.if-place-end.false in
    let new : HeldNames = record { names = c.args.self.now.names; places = c.place_at.new.places; others = c.add.new.self } in
    other_joined c.add.result c.args.cid c.args.self.now new refl (same_places c.args.self.now new c.front_of.result c.in_ok-place.place before c.in_ok-place.ensures.there c.in_ok-place.ensures.others) c.add.ensures
