-- The sections of a CAR file of stored blocks.
use Rattle.std.specs.Prelude.{List, option_map, option_to_list, flat_map}
use Rattle.ipld_tree.specs.Cid.{CidParts}
use Rattle.files_car.specs.Car.{Section}
use Rattle.ipld_links.specs.Reaching.{Stored}

-- the section of the name, if bytes are stored under it
abbrev pub section_at : Stored → CidParts → List Section
section_at stored name = option_to_list (option_map (λ b. (name, b)) (stored name))

-- the sections of those names under which bytes are stored
abbrev pub sections_at : Stored → List CidParts → List Section
sections_at stored names = flat_map (section_at stored) names
