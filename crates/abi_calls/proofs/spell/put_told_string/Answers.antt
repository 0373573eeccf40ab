use Rattle.std.proofs.Common.{◌≡◌, ◌+◌, ◌≤◌, length, Some, sym, ◌∙◌, subst}
use Rattle.lent_memory.specs.Puts.{PutsAt, string_form}
use Rattle.abi_calls.proofs.Spelling.{string_is}
use Rattle.abi_calls.proofs.spell.put_told_string.Goals as goal

pub put_string-requires-clause-room : goal.put_string-requires-clause-room
put_string-requires-clause-room c =
    let token = c.args.token.now in
    let payload = c.payload_told.result.now in
    let found = string_is c.args.bytes.now payload c.args.major token.place token.number c.payload_told.ensures in
    let same : Some (string_form c.args.major payload) ≡ Some c.requires.room.0 = sym found ∙ c.requires.room.1 in
    let equal : string_form c.args.major payload ≡ c.requires.room.0 = cc same in
    subst (λ o. c.args.at + length o ≤ length c.args.out.now) (sym equal) c.requires.room.2

pub returns : goal.returns
returns c s told =
    let token = c.args.token.now in
    let payload = c.payload_told.result.now in
    let found = string_is c.args.bytes.now payload c.args.major token.place token.number c.payload_told.ensures in
    let is : Some (string_form c.args.major payload) ≡ Some s = sym found ∙ told in
    let equal : string_form c.args.major payload ≡ s = cc is in
    subst (λ o. PutsAt o c.args.at c.args.out.now c.put_string.new.out c.put_string.result) equal c.put_string.ensures
