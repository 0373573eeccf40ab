-- How a writer's bytes represent what is open; for private clauses.
use Rattle.std.specs.Prelude.{◌≡◌, ◌⊎◌, ℕ, ◌+◌, ◌≤◌, ◌<◌, List, [], ◌∷◌, ◌++◌, length, map, take, drop, Option, Some, None, reverse, Bool, true, false, IsSomeAnd, ⊤, All, flat_map, IsSortedBy}
use Rattle.serde.specs.Event.{Log}
use Rattle.ipld_tree.specs.Tree.{Tree, text, link, IsTree, AreItems, items_of}
use Rattle.ipld_tree.specs.Spelled.{spelled, spelled_items}
use Rattle.dagcbor_write.specs.declared.collect.gathered.Span.{Span}
use Rattle.dagcbor_write.specs.Spans.{entry_at, whole_at, IsWithin}
use Rattle.dagcbor_write.specs.Trees.{Pair}
use Rattle.dagcbor_write.specs.Maps.{Texts, AreSpellingsOf}
use Rattle.dagcbor_write.specs.Order.{PutsInOrder, KeysDiffer, goes_before, entries_bytes}
use Rattle.types_serde.specs.Building.{Wait, rests, for_key, for_value, for_map, Level, whole, in_list, in_map, in_link, State, put, put_key, on_top, steps, start, events_tree}
use Rattle.types_serde.specs.declared.frame.Frame.{Frame}
use Rattle.types_serde.specs.declared.frame.Stage.{Stage}
use Rattle.types_serde.specs.declared.frame.Stage.TheVariants as stage
use Rattle.types_serde.specs.declared.sink.Sink.{Sink}

-- the bytes are the spelling of a well-formed tree
abbrev pub IsGood : Tree → List ℕ → Type 0
IsGood t b = (spelled t ≡ Some b) × IsTree t

-- ---- entries

-- the first byte in which they differ is less in the first
abbrev pub StandsBefore : List ℕ → List ℕ → Type 0
StandsBefore [] b = ⊥
StandsBefore (x ∷ a) [] = ⊥
StandsBefore (x ∷ a) (y ∷ b) = (x < y) ⊎ ((x ≡ y) × StandsBefore a b)

-- the entries are in the order of their bytes, and each key differs from the one before it
abbrev pub AreInOrder : List Texts → Type 0
AreInOrder es = IsSortedBy goes_before es × KeysDiffer es true

-- the entries are all that comes after the byte at the place
abbrev pub HoldsEntries : List Pair → ℕ → List ℕ → List Span → Type 0
HoldsEntries ps place b ss = AreSpellingsOf ps (map (entry_at b) ss) × All (IsWithin (length b)) ss
    × (flat_map (whole_at b) ss ≡ drop (place + 1) b) × (place < length b)

-- these entries were put in order, and are now all that comes after the byte at the place
abbrev pub PutsEntries : ℕ → List ℕ → List Span → List ℕ → ℕ → Type 0
PutsEntries place old ss new n = (es : List Texts) × PutsInOrder (map (entry_at old) ss) es true
    × (new ≡ take (place + 1) old ++ entries_bytes es) × (n ≡ length es)

abbrev pub PutsEach : ℕ → List ℕ → List Span → List ℕ → ℕ → Type 0
PutsEach place old ss new n = (ps : List Pair) → HoldsEntries ps place old ss
    → PutsEntries place old ss new n

-- ---- what is open

-- an open level, with the bytes up to its end, and its entries
pub record Part : Type 0 where
  pub frame : Frame
  pub bytes : List ℕ
  pub spans : List Span

abbrev pub part : Frame → List ℕ → List Span → Part
part f b ss = record { frame = f; bytes = b; spans = ss }

abbrev pub HoldsWait : Wait → List Pair → Part → Type 0
HoldsWait rests ps p = (p.frame.stage ≡ stage.Rests) × HoldsEntries ps p.frame.place p.bytes p.spans
HoldsWait for_key ps p = (p.frame.stage ≡ stage.WantsKey)
    × HoldsEntries ps p.frame.place p.bytes p.spans
HoldsWait for_map ps p = (p.frame.stage ≡ stage.WantsMap)
    × HoldsEntries ps p.frame.place p.bytes p.spans
HoldsWait (for_value k) ps p = (p.frame.stage ≡ stage.WantsValue)
    × HoldsEntries ps p.frame.place (take p.frame.key p.bytes) p.spans
    × IsGood (text k) (drop p.frame.key p.bytes) × (p.frame.key ≤ length p.bytes)

abbrev pub HoldsLevel : Level → Part → Type 0
HoldsLevel (whole None) p = (p.frame.stage ≡ stage.Vacant) × (p.bytes ≡ [])
HoldsLevel (whole (Some t)) p = (p.frame.stage ≡ stage.Full) × IsGood t p.bytes
HoldsLevel (in_list ts) p = (p.frame.stage ≡ stage.List) × (p.frame.count ≡ length ts)
    × (spelled_items (items_of ts) ≡ Some (drop (p.frame.place + 1) p.bytes))
    × AreItems (items_of ts) × (p.frame.place < length p.bytes) × (p.spans ≡ [])
HoldsLevel (in_map ps w n) p = HoldsWait w ps p × (p.frame.flat ≡ n)
HoldsLevel (in_link None) p = (p.frame.stage ≡ stage.Link) × (length p.bytes ≡ p.frame.place)
    × (p.spans ≡ [])
HoldsLevel (in_link (Some cid)) p = (p.frame.stage ≡ stage.Linked)
    × IsGood (link cid) (drop p.frame.place p.bytes) × (p.spans ≡ [])

-- the open levels are represented, from the inside out: the bytes and entries of each come after
-- those of the level around it
abbrev pub Opens : List Level → List Frame → List ℕ → List Span → Type 0
Opens [] [] b ss = ⊤
Opens [] (f ∷ fs) b ss = ⊥
Opens (l ∷ ls) [] b ss = ⊥
Opens (l ∷ ls) (f ∷ fs) b ss = HoldsLevel l (part f b (drop f.first ss)) × (f.place ≤ length b)
    × (f.first ≤ length ss) × Opens ls fs (take f.place b) (take f.first ss)

abbrev pub HoldsAll : State → Sink → Type 0
HoldsAll s sink = Opens (s.top ∷ s.around) (sink.top ∷ reverse sink.below.items) sink.bytes.items
    sink.spans.items

-- if a state is represented, the next one is afterwards
abbrev pub StepsBy : (State → Option State) → Sink → Sink → Type 0
StepsBy next old new = (s : State) → HoldsAll s old → (t : State) × (next s ≡ Some t) × HoldsAll t new

-- only the innermost level changes
abbrev pub MovesTop : (Level → Option Level) → Sink → Sink → Type 0
MovesTop next old new = StepsBy (on_top next) old new

-- an item with this spelling is put
abbrev pub PutsSpelling : List ℕ → Sink → Sink → Type 0
PutsSpelling b old new = (t : Tree) → IsGood t b → MovesTop (put t) old new

-- an item came, with its bytes between these places
abbrev pub Lands : Stage → ℕ → ℕ → Frame → List Span → Frame → List Span → Type 0
Lands stage.Vacant from to f ss g ts = (g ≡ record f { stage = stage.Full }) × (ts ≡ ss)
Lands stage.List from to f ss g ts = (g ≡ record f { count = f.count + 1 }) × (ts ≡ ss)
Lands stage.WantsValue from to f ss g ts = (g ≡ record f { stage = stage.Rests })
    × (ts ≡ ss ++ (record { start = f.key; key_end = from; end = to }) ∷ [])
Lands _ from to f ss g ts = ⊥

-- a name comes, as a key or as a text
abbrev pub put_name : Bool → List ℕ → Level → Option Level
put_name true k = put_key k
put_name false k = put (text k)

-- a list or map was begun after all bytes and all entries
pub record BeginsStage (s : Stage) (old new : Sink) : Type 0 where
  pub top : new.top ≡ record {
    stage = s;
    place = length old.bytes.items;
    first = length old.spans.items;
    count = 0;
    key = 0;
    flat = 0;
  }
  pub bytes : new.bytes.items ≡ old.bytes.items ++ 0x00 ∷ []
  pub spans : new.spans.items ≡ old.spans.items
  pub below : new.below.items ≡ old.below.items ++ old.top ∷ []

-- the events so far make a state, and the writer represents it
abbrev pub FollowsLog : Log → Sink → Type 0
FollowsLog log sink = IsSomeAnd log (λ es. (s : State) × (steps es start ≡ Some s) × HoldsAll s sink)

-- the same, unless a call was refused
abbrev pub FollowsUnless : Bool → Log → Sink → Type 0
FollowsUnless true log sink = ⊤
FollowsUnless false log sink = FollowsLog log sink

-- the bytes are the spelling of the tree of the events
abbrev pub IsGoodLog : Log → List ℕ → Type 0
IsGoodLog log b = IsSomeAnd log (λ es. IsSomeAnd (events_tree es) (λ t. IsGood t b))
