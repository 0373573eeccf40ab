-- The tree that the events of a value make, event by event.
use Rattle.std.specs.Prelude.{ℕ, zero, suc, pos, Bool, true, false, ◌&&◌, if◌then◌else◌, codes, List, [], ◌∷◌, ◌++◌, Option, Some, None, option_map, option_and_then, encode_utf8, bytes_eq}
use Rattle.serde.specs.Event as event
use Rattle.serde.specs.Event.{Event}
use Rattle.serde.specs.Spelling.{spelled as spelled_name}
use Rattle.serde.specs.declared.name.Case.{Case}
use Rattle.serde.specs.declared.name.Case.TheVariants.{Kebab}
use Rattle.serde.specs.declared.name.NameKind.TheVariants.{Field, Variant}
use Rattle.ipld_tree.specs.Tree.{Tree, null, boolean, integer, text, bytes, list, link, items_of, key_of, entries_tree}
use Rattle.dagcbor_write.specs.Trees.{Pair}

-- what an open map expects next: a key, a key as a value, the value of a key, or a map whose
-- entries it takes
pub data Wait : Type 0 where
  rests : Wait
  for_key : Wait
  for_value : List ℕ → Wait
  for_map : Wait

-- what is open: the whole value, with its one item; a list, with its items; a map, with its
-- entries, what it expects and how many open maps give it their entries; or a link, with its CID
pub data Level : Type 0 where
  whole : Option Tree → Level
  in_list : List Tree → Level
  in_map : List Pair → Wait → ℕ → Level
  in_link : Option (List ℕ) → Level

-- the innermost open level, and those around it, from the inside out
pub record State : Type 0 where
  pub top : Level
  pub around : List Level

abbrev pub state : Level → List Level → State
state l ls = record { top = l; around = ls }

-- nothing was sent
abbrev pub start : State
start = state (whole None) []

-- ---- what is innermost

-- an item comes to the level
abbrev pub put : Tree → Level → Option Level
put t (whole None) = Some (whole (Some t))
put t (whole (Some u)) = None
put t (in_list ts) = Some (in_list (ts ++ t ∷ []))
put t (in_map ps rests n) = None
put t (in_map ps for_key n) = option_map (λ k. in_map ps (for_value k) n) (key_of t)
put t (in_map ps (for_value k) n) = Some (in_map (ps ++ (Some (text k), Some t) ∷ []) rests n)
put t (in_map ps for_map n) = None
put t (in_link o) = None

-- the name of a field or a variant comes
abbrev pub put_key : List ℕ → Level → Option Level
put_key k (in_map ps rests n) = Some (in_map ps (for_value k) n)
put_key k _ = None

-- a map that was just begun becomes a link
abbrev pub as_link : Level → Option Level
as_link (in_map [] rests zero) = Some (in_link None)
as_link _ = None

-- the case in which the name `/` marks a link: no derive sends it so
abbrev pub is_kebab : Case → Bool
is_kebab Kebab = true
is_kebab _ = false

abbrev pub is_link_name : List ℕ → Case → Bool
is_link_name name case = is_kebab case && bytes_eq name (codes "/")

abbrev pub put_field : List ℕ → Case → Level → Option Level
put_field name case l =
    if is_link_name name case then as_link l else put_key (spelled_name case Field name) l

-- bytes come, as a byte string or as the CID of the link
abbrev pub put_bytes : List ℕ → Level → Option Level
put_bytes s (in_link None) = Some (in_link (Some s))
put_bytes s l = put (bytes s) l

-- a unit comes, as null or in place of a map whose entries are to be taken
abbrev pub put_unit : Level → Option Level
put_unit (in_map ps for_map n) = Some (in_map ps rests n)
put_unit l = put null l

abbrev pub begin_key : Level → Option Level
begin_key (in_map ps rests n) = Some (in_map ps for_key n)
begin_key _ = None

abbrev pub end_key : Level → Option Level
end_key (in_map ps (for_value k) n) = Some (in_map ps (for_value k) n)
end_key _ = None

abbrev pub flatten : Level → Option Level
flatten (in_map ps rests n) = Some (in_map ps for_map n)
flatten _ = None

-- ---- what is open

abbrev pub on_top : (Level → Option Level) → State → Option State
on_top f s = option_map (λ l. state l s.around) (f s.top)

-- a list or a map begins; a flattened map gives its entries to the one around it
abbrev pub begin : Level → State → Option State
begin l s = Some (state l (s.top ∷ s.around))

abbrev pub begin_map : Level → List Level → Option State
begin_map (in_map ps for_map n) ls = Some (state (in_map ps rests (suc n)) ls)
begin_map l ls = begin (in_map [] rests 0) (state l ls)

-- the innermost level ends, and its tree is an item of the level around it
abbrev pub close : Option Tree → List Level → Option State
close None ls = None
close (Some t) [] = None
close (Some t) (l ∷ ls) = option_map (λ m. state m ls) (put t l)

-- the tree of a list that ends
abbrev pub ended_list : Level → Option Tree
ended_list (in_list ts) = Some (list (items_of ts))
ended_list _ = None

abbrev pub close_map : Level → List Level → Option State
close_map (in_map ps rests zero) ls = close (entries_tree ps) ls
close_map (in_map ps rests (suc n)) ls = Some (state (in_map ps rests n) ls)
close_map (in_link (Some cid)) ls = close (Some (link cid)) ls
close_map _ ls = None

-- ---- events

-- an event comes; a float is refused
abbrev pub step : Event → State → Option State
step (event.boolean b) s = on_top (put (boolean b)) s
step (event.signed z) s = on_top (put (integer z)) s
step (event.unsigned n) s = on_top (put (integer (pos n))) s
step (event.single x) s = None
step (event.double x) s = None
step (event.character c) s = on_top (put (text (encode_utf8 c))) s
step (event.text t) s = on_top (put (text t)) s
step (event.octets bs) s = on_top (put_bytes bs) s
step event.nothing s = on_top put_unit s
step (event.unit_variant name case) s = on_top (put (text (spelled_name case Variant name))) s
step (event.seq_begins n) s = begin (in_list []) s
step event.seq_ends s = close (ended_list s.top) s.around
step (event.map_begins n) s = begin_map s.top s.around
step event.map_ends s = close_map s.top s.around
step (event.field_key name case) s = on_top (put_field name case) s
step (event.variant_key name case) s = on_top (put_key (spelled_name case Variant name)) s
step event.key_begins s = on_top begin_key s
step event.key_ends s = on_top end_key s
step event.flattens s = on_top flatten s

abbrev pub steps : List Event → State → Option State
steps [] s = Some s
steps (e ∷ es) s = option_and_then (steps es) (step e s)

-- the one item, if nothing else is open
abbrev pub only_item : Level → List Level → Option Tree
only_item (whole o) [] = o
only_item _ _ = None

abbrev pub finished : State → Option Tree
finished s = only_item s.top s.around

-- the tree of the events, if they are those of one value
abbrev pub events_tree : List Event → Option Tree
events_tree es = option_and_then finished (steps es start)
