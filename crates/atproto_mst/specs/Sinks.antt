-- What sinks receive.
use Rattle.std.specs.Prelude.{◌≡◌, ◌⊎◌, List, [], ◌∷◌, ◌++◌, is_some, if◌then◌else◌}
use Rattle.files_car.specs.Car.{Section}
use Rattle.ipld_links.specs.Sets.{Among}
use Rattle.ipld_links.specs.Reaching.{Stored}
use Rattle.atproto_mst.specs.declared.error.MstError.{MstError}
use Rattle.atproto_mst.specs.declared.error.MstError.TheVariants.{OutOfMemory}

-- the sink received these sections after those before
abbrev pub HandsOver : {S W : Type 0} → (S → W → List Section → Type 0) → S → List Section → S → Type 0
HandsOver {S} {W} holds old taken new = (world : W) (before : List Section) → holds old world before
    → holds new world (before ++ taken)

-- the sink received the first of these sections, and no others
abbrev pub HandsOverFirst : {S W : Type 0} → (S → W → List Section → Type 0) → S → List Section → S → Type 0
HandsOverFirst holds old nodes new = (first rest : List Section) × (nodes ≡ first ++ rest)
    × HandsOver holds old first new

-- out of memory, or the sink refused one of the nodes for this reason
abbrev pub RefusesOne : {S W : Type 0} → (S → W → List Section → Type 0) → (W → Section → MstError → Type 0)
    → S → List Section → MstError → Type 0
RefusesOne {S} {W} holds refuses old nodes e = (world : W) (before : List Section)
    → holds old world before
    → (e ≡ OutOfMemory) ⊎ ((s : Section) × Among s nodes × refuses world s e)

-- the nodes that are not stored
abbrev pub not_stored : Stored → List Section → List Section
not_stored stored [] = []
not_stored stored (s ∷ ss) = if is_some (stored s.0) then not_stored stored ss else s ∷ not_stored stored ss
