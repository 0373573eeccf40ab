use Rattle.std.proofs.Common.{rules, ◌≡◌, ◌∷◌, map, string_bytes, codes}
use Rattle.program_sections.specs.Words.{after_roots}
use Rattle.program_sections.proofs.Wording.{no_split}
use Rattle.program_sections.proofs.split_words.split_of.Goals as goal

pub returns-in-None : goal.returns-in-None
returns-in-None c =
    let is : map string_bytes c.args.args.now ≡ codes "split" ∷ map string_bytes c.in-Some.rest.now = search rules in
    let same : map string_bytes c.in-Some-2.rest.now ≡ after_roots (map string_bytes c.in-Some.rest.now) = search rules in
    no_split (map string_bytes c.args.args.now) (map string_bytes c.in-Some.rest.now) (map string_bytes c.in-Some-2.rest.now) is same c.in-None.ensures
