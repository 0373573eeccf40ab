-- Reading one block of a file.
use Rattle.std.proofs.Common.{◌≡◌, ◌≢◌, ℕ, suc, ◌+◌, ◌-◌, ◌<◌, List, [], ◌∷◌, ◌++◌, length, sum, Option, None, Some, Ok, Err, true, false, refl, sym, ap, ◌∙◌, subst, arith, append-nil}
use Rattle.files_unix_fs.specs.declared.error.UnixFsError.{UnixFsError}
use Rattle.files_unix_fs.specs.UnixFs.{UnixFsParts, size_in, sizes_of, unix_fs_of}
use Rattle.files_unix_fs.specs.Nodes.{or_nothing, data_of, cids_of}
use Rattle.files_unix_fs.specs.Files.{codec_of, joined, of_size, has_empty, linked_bytes, is_file, node_bytes, data_bytes, file_bytes, held_bytes, bytes_under}
use Rattle.files_unix_fs.specs.declared.error.UnixFsCause.TheVariants.{Truncated}
use Rattle.files_unix_fs.specs.Reading.{Asked, asked_bytes, stack_bytes, row_bytes, IsTotal, paired, IsNoPairing, HasPart, HasNoPart, IsNoPart, IsFileNode, AreBelow, IsCause, Denies, IsNext, IsTaken, GoesOn, AreTaken, HandsOutContents}
use Rattle.std.specs.List.{concat}
use Rattle.files_unix_fs.proofs.Pairing.{no_pairs, paired_below}
use Rattle.files_unix_fs.specs.declared.file_error.FileError.{FileError}
use Rattle.files_unix_fs.specs.declared.file_error.FileError.TheVariants.{NothingWanted, TooDeep, OtherCodec, NotANode, NoData, NoMessage, NotAFile, EmptyPart, WrongSize, WrongLinks, OutOfMemory}
use Rattle.files_unix_fs.proofs.Steps.{none_found, no_field}
use Rattle.files_unix_fs.proofs.Stacks.{joined_assoc, linked_pairs, linked_none, linked_length, of_total, of_other, pairs_bytes, stack-append, other_test}

-- ---- blocks of a codec

none_sized : (size : Option ℕ) → of_size size None ≡ None
none_sized None = refl
none_sized (Some n) = refl

pub too_deep : (w : Asked) (b : List ℕ) → w.depth ≡ 0 → HasNoPart w b
unfolding file_bytes
too_deep w b e blocks held =
    ap (λ d. of_size w.size (bytes_under blocks d w.cid)) e
    ∙ ap (λ found. of_size w.size (held_bytes (file_bytes blocks 0) (codec_of w.cid) found)) held
    ∙ none_sized w.size

suc_less : (d : ℕ) → 0 < d → d ≡ suc (d - 1)
suc_less d h = omega arith

-- the content of a block that is held
pub held_under : (blocks : List ℕ → Option (List ℕ)) (w : Asked) (b : List ℕ) (codec : ℕ) → codec_of w.cid ≡ codec → 0 < w.depth → blocks w.cid ≡ Some b → bytes_under blocks w.depth w.cid ≡ file_bytes blocks (suc (w.depth - 1)) codec b
held_under blocks w b codec is deep held =
    ap (held_bytes (file_bytes blocks w.depth) (codec_of w.cid)) held
    ∙ (λ i. file_bytes blocks (suc_less w.depth deep i) (is i) b)

pub other_codec : (w : Asked) (b : List ℕ) (codec : ℕ) → codec_of w.cid ≡ codec → codec ≢ 0x55 → codec ≢ 0x70 → 0 < w.depth → HasNoPart w b
unfolding file_bytes
other_codec w b codec is raw node deep blocks held =
    ap (of_size w.size) (held_under blocks w b codec is deep held ∙ rw (other_test codec 0x55 raw, other_test codec 0x70 node) refl)
    ∙ none_sized w.size

-- ---- leaves

leaf_opened : (w : Asked) (b : List ℕ) → codec_of w.cid ≡ 0x55 → 0 < w.depth → (blocks : List ℕ → Option (List ℕ)) → blocks w.cid ≡ Some b → asked_bytes blocks w ≡ of_size w.size (joined (Some b) (Some []))
unfolding file_bytes
leaf_opened w b is deep blocks held =
    ap (of_size w.size) (held_under blocks w b 0x55 is deep held ∙ ap Some (sym (append-nil b)))

no_sizes : sum (sizes_of []) ≡ 0
unfolding sizes_of
no_sizes = ap sum (none_found size_in [] Truncated no_field)

nothing_long : (s : List ℕ) → ◌≡◌ {A = Option (List ℕ)} (Some []) (Some s) → length s ≡ sum (sizes_of [])
nothing_long s e = let k : [] ≡ s = cc e in ap length (sym k) ∙ sym no_sizes

pub leaf_part : (w : Asked) (b : List ℕ) → codec_of w.cid ≡ 0x55 → 0 < w.depth → IsTotal w.size (length b + sum (sizes_of [])) → HasPart w b b []
leaf_part w b is deep total = record {
  bytes = λ blocks held. leaf_opened w b is deep blocks held ∙ of_total w.size b (Some []) (sum (sizes_of [])) nothing_long total;
  links = λ some. absurd (some refl);
  below = tt;
  deep = deep;
}

pub leaf_other : (w : Asked) (b : List ℕ) → codec_of w.cid ≡ 0x55 → 0 < w.depth → (IsTotal w.size (length b + sum (sizes_of [])) → ⊥) → HasNoPart w b
leaf_other w b is deep other blocks held =
    leaf_opened w b is deep blocks held ∙ of_other w.size b (Some []) (sum (sizes_of [])) nothing_long other

-- ---- nodes

node_opened : (w : Asked) (b : List ℕ) → codec_of w.cid ≡ 0x70 → 0 < w.depth → (blocks : List ℕ → Option (List ℕ)) → blocks w.cid ≡ Some b → asked_bytes blocks w ≡ of_size w.size (data_bytes (bytes_under blocks (w.depth - 1)) (cids_of b) (data_of b))
unfolding file_bytes
node_opened w b is deep blocks held = ap (of_size w.size) (held_under blocks w b 0x70 is deep held)

pub no_data : (w : Asked) (b : List ℕ) → codec_of w.cid ≡ 0x70 → 0 < w.depth → data_of b ≡ None → HasNoPart w b
no_data w b is deep none blocks held =
    node_opened w b is deep blocks held
    ∙ ap (λ d. of_size w.size (data_bytes (bytes_under blocks (w.depth - 1)) (cids_of b) d)) none
    ∙ none_sized w.size

pub no_message : (w : Asked) (b message : List ℕ) (e : UnixFsError) → codec_of w.cid ≡ 0x70 → 0 < w.depth → data_of b ≡ Some message → unix_fs_of message ≡ Err e → HasNoPart w b
no_message w b message e is deep stands none blocks held =
    node_opened w b is deep blocks held
    ∙ ap (λ d. of_size w.size (data_bytes (bytes_under blocks (w.depth - 1)) (cids_of b) d)) stands
    ∙ ap (λ r. of_size w.size (node_bytes (bytes_under blocks (w.depth - 1)) (cids_of b) r)) none
    ∙ none_sized w.size

file_opened : (w : Asked) (b : List ℕ) (parts : UnixFsParts) → IsFileNode w b parts → (blocks : List ℕ → Option (List ℕ)) → blocks w.cid ≡ Some b → asked_bytes blocks w ≡ of_size w.size (node_bytes (bytes_under blocks (w.depth - 1)) (cids_of b) (Ok parts))
file_opened w b parts n blocks held =
    node_opened w b n.codec n.deep blocks held
    ∙ ap (λ d. of_size w.size (data_bytes (bytes_under blocks (w.depth - 1)) (cids_of b) d)) n.says.stands
    ∙ ap (λ r. of_size w.size (node_bytes (bytes_under blocks (w.depth - 1)) (cids_of b) r)) n.says.is

pub no_file : (w : Asked) (b : List ℕ) (parts : UnixFsParts) → IsFileNode w b parts → is_file parts.kind ≡ false → HasNoPart w b
no_file w b parts n none blocks held =
    file_opened w b parts n blocks held
    ∙ ap (of_size w.size) (rw none refl)
    ∙ none_sized w.size

-- the contents below the links
abbrev below_links : (List ℕ → Option (List ℕ)) → Asked → List ℕ → UnixFsParts → Option (List ℕ)
below_links blocks w b parts = linked_bytes (bytes_under blocks (w.depth - 1)) (cids_of b) parts.block_sizes

parts_opened : (w : Asked) (b : List ℕ) (parts : UnixFsParts) → IsFileNode w b parts → is_file parts.kind ≡ true → (blocks : List ℕ → Option (List ℕ)) → blocks w.cid ≡ Some b → asked_bytes blocks w ≡ of_size w.size (of_size parts.file_size (joined (Some (or_nothing parts.content)) (below_links blocks w b parts)))
parts_opened w b parts n file blocks held = file_opened w b parts n blocks held ∙ ap (of_size w.size) (rw file refl)

pub empty_part : (w : Asked) (b : List ℕ) (parts : UnixFsParts) → IsFileNode w b parts → is_file parts.kind ≡ true → has_empty parts.block_sizes ≡ true → HasNoPart w b
empty_part w b parts n file empty blocks held =
    parts_opened w b parts n file blocks held
    ∙ ap (λ c. of_size w.size (of_size parts.file_size (joined (Some (or_nothing parts.content)) c))) (linked_none (bytes_under blocks (w.depth - 1)) (cids_of b) parts.block_sizes empty)
    ∙ ap (of_size w.size) (none_sized parts.file_size)
    ∙ none_sized w.size

pub other_file_size : (w : Asked) (b : List ℕ) (parts : UnixFsParts) → IsFileNode w b parts → is_file parts.kind ≡ true → (IsTotal parts.file_size (length (or_nothing parts.content) + sum parts.block_sizes) → ⊥) → HasNoPart w b
other_file_size w b parts n file other blocks held =
    parts_opened w b parts n file blocks held
    ∙ ap (of_size w.size) (of_other parts.file_size (or_nothing parts.content) (below_links blocks w b parts) (sum parts.block_sizes) (linked_length (bytes_under blocks (w.depth - 1)) (cids_of b) parts.block_sizes) other)
    ∙ none_sized w.size

-- the size announced in the node is right
size_opened : (w : Asked) (b : List ℕ) (parts : UnixFsParts) → IsFileNode w b parts → is_file parts.kind ≡ true → IsTotal parts.file_size (length (or_nothing parts.content) + sum parts.block_sizes) → (blocks : List ℕ → Option (List ℕ)) → blocks w.cid ≡ Some b → asked_bytes blocks w ≡ of_size w.size (joined (Some (or_nothing parts.content)) (below_links blocks w b parts))
size_opened w b parts n file total blocks held =
    parts_opened w b parts n file blocks held
    ∙ ap (of_size w.size) (of_total parts.file_size (or_nothing parts.content) (below_links blocks w b parts) (sum parts.block_sizes) (linked_length (bytes_under blocks (w.depth - 1)) (cids_of b) parts.block_sizes) total)

pub other_size : (w : Asked) (b : List ℕ) (parts : UnixFsParts) → IsFileNode w b parts → is_file parts.kind ≡ true → IsTotal parts.file_size (length (or_nothing parts.content) + sum parts.block_sizes) → (IsTotal w.size (length (or_nothing parts.content) + sum parts.block_sizes) → ⊥) → HasNoPart w b
other_size w b parts n file total other blocks held =
    size_opened w b parts n file total blocks held
    ∙ of_other w.size (or_nothing parts.content) (below_links blocks w b parts) (sum parts.block_sizes) (linked_length (bytes_under blocks (w.depth - 1)) (cids_of b) parts.block_sizes) other

all_opened : (w : Asked) (b : List ℕ) (parts : UnixFsParts) → IsFileNode w b parts → is_file parts.kind ≡ true → has_empty parts.block_sizes ≡ false → IsTotal parts.file_size (length (or_nothing parts.content) + sum parts.block_sizes) → IsTotal w.size (length (or_nothing parts.content) + sum parts.block_sizes) → (blocks : List ℕ → Option (List ℕ)) → blocks w.cid ≡ Some b → asked_bytes blocks w ≡ joined (Some (or_nothing parts.content)) (pairs_bytes blocks (paired (w.depth - 1) (cids_of b) parts.block_sizes))
all_opened w b parts n file some total same blocks held =
    size_opened w b parts n file total blocks held
    ∙ of_total w.size (or_nothing parts.content) (below_links blocks w b parts) (sum parts.block_sizes) (linked_length (bytes_under blocks (w.depth - 1)) (cids_of b) parts.block_sizes) same
    ∙ ap (joined (Some (or_nothing parts.content))) (linked_pairs blocks (w.depth - 1) (cids_of b) parts.block_sizes some)

pub file_part : (w : Asked) (b : List ℕ) (parts : UnixFsParts) (after : List Asked) → IsFileNode w b parts → is_file parts.kind ≡ true → has_empty parts.block_sizes ≡ false → IsTotal parts.file_size (length (or_nothing parts.content) + sum parts.block_sizes) → IsTotal w.size (length (or_nothing parts.content) + sum parts.block_sizes) → paired (w.depth - 1) (cids_of b) parts.block_sizes ≡ Some after → HasPart w b (or_nothing parts.content) after
file_part w b parts after n file some total same pairs = record {
  bytes = λ blocks held.
      all_opened w b parts n file some total same blocks held
      ∙ ap (λ p. joined (Some (or_nothing parts.content)) (pairs_bytes blocks p)) pairs;
  links = λ there. (n.codec, λ none. there (no_pairs (w.depth - 1) (cids_of b) parts.block_sizes after pairs none));
  below = paired_below (w.depth - 1) (cids_of b) parts.block_sizes after some pairs;
  deep = n.deep;
}

pub wrong_links : (w : Asked) (b : List ℕ) (parts : UnixFsParts) → IsFileNode w b parts → is_file parts.kind ≡ true → has_empty parts.block_sizes ≡ false → IsTotal parts.file_size (length (or_nothing parts.content) + sum parts.block_sizes) → IsTotal w.size (length (or_nothing parts.content) + sum parts.block_sizes) → paired (w.depth - 1) (cids_of b) parts.block_sizes ≡ None → HasNoPart w b
wrong_links w b parts n file some total same pairs blocks held =
    all_opened w b parts n file some total same blocks held
    ∙ ap (λ p. joined (Some (or_nothing parts.content)) (pairs_bytes blocks p)) pairs

-- the length of the same bytes
pub total_along : (size : Option ℕ) (s t : List ℕ) (n : ℕ) → s ≡ t → IsTotal size (length s + n) → IsTotal size (length t + n)
total_along size s t n e h = subst (λ x. IsTotal size (length x + n)) e h

-- a leaf of another size
pub leaf_long : (size : Option ℕ) (b : List ℕ) → IsTotal size (length b) → IsTotal size (length b + sum (sizes_of []))
leaf_long size b h = let same : length b ≡ length b + sum (sizes_of []) = omega (arith, no_sizes) in subst (IsTotal size) same h

-- why there is no part, if links and sizes do not pair
pub unpaired : (e : FileError) (w : Asked) (b : List ℕ) (parts : UnixFsParts) (pairs : Option (List Asked)) → IsFileNode w b parts → (pairs ≡ None → HasNoPart w b × (length (cids_of b) ≢ length parts.block_sizes)) → IsNoPairing e (cids_of b) pairs → IsNoPart e w b
unpaired OutOfMemory w b parts pairs n none h = ((n.codec, h), tt)
unpaired WrongLinks w b parts pairs n none h = let k = none h in ((parts, n, k.1), k.0)
unpaired NothingWanted w b parts pairs n none h = absurd h
unpaired (NotANode p) w b parts pairs n none h = absurd h
unpaired TooDeep w b parts pairs n none h = absurd h
unpaired (OtherCodec codec) w b parts pairs n none h = absurd h
unpaired NoData w b parts pairs n none h = absurd h
unpaired (NoMessage m) w b parts pairs n none h = absurd h
unpaired (NotAFile k) w b parts pairs n none h = absurd h
unpaired EmptyPart w b parts pairs n none h = absurd h
unpaired WrongSize w b parts pairs n none h = absurd h

denied : (e : FileError) (P Q : Type 0) → (P → Q) → Denies e P → Denies e Q
denied OutOfMemory P Q f h = tt
denied (NotANode p) P Q f h = tt
denied NothingWanted P Q f h = f h
denied WrongLinks P Q f h = f h
denied TooDeep P Q f h = f h
denied (OtherCodec codec) P Q f h = f h
denied NoData P Q f h = f h
denied (NoMessage m) P Q f h = f h
denied (NotAFile k) P Q f h = f h
denied EmptyPart P Q f h = f h
denied WrongSize P Q f h = f h

-- ---- the stack

last_of : List Asked → Option Asked
last_of [] = None
last_of (w ∷ []) = Some w
last_of (w ∷ v ∷ more) = last_of (v ∷ more)

last-append : (ws : List Asked) (w : Asked) → last_of (ws ++ w ∷ []) ≡ Some w
unfolding last_of
last-append [] w = refl
last-append (v ∷ []) w = refl
last-append (v ∷ u ∷ ws) w = last-append (u ∷ ws) w

one_last : (xs ys : List Asked) (x y : Asked) → xs ++ x ∷ [] ≡ ys ++ y ∷ [] → x ≡ y
one_last xs ys x y e = let same : Some x ≡ Some y = sym (last-append xs x) ∙ ap last_of e ∙ last-append ys y in cc same

init_of : List Asked → List Asked
init_of [] = []
init_of (w ∷ []) = []
init_of (w ∷ v ∷ more) = w ∷ init_of (v ∷ more)

init-append : (ws : List Asked) (w : Asked) → init_of (ws ++ w ∷ []) ≡ ws
unfolding init_of
init-append [] w = refl
init-append (v ∷ []) w = refl
init-append (v ∷ u ∷ ws) w = ap (λ xs. v ∷ xs) (init-append (u ∷ ws) w)

-- it is the one that was taken off
pub next_is : (blocks : List ℕ → Option (List ℕ)) (stack below others : List Asked) (w v : Asked) (b : List ℕ) → stack ≡ below ++ w ∷ [] → IsNext blocks stack others v b → w ≡ v
next_is blocks stack below others w v b is next = one_last below others w v (sym is ∙ next.is)

pub below_is : (blocks : List ℕ → Option (List ℕ)) (stack below others : List Asked) (w v : Asked) (b : List ℕ) → stack ≡ below ++ w ∷ [] → IsNext blocks stack others v b → below ≡ others
below_is blocks stack below others w v b is next = sym (init-append below w) ∙ ap init_of (sym is ∙ next.is) ∙ init-append others v

next_held : (blocks : List ℕ → Option (List ℕ)) (stack below others : List Asked) (w v : Asked) (b : List ℕ) → stack ≡ below ++ w ∷ [] → IsNext blocks stack others v b → blocks w.cid ≡ Some b
next_held blocks stack below others w v b is next = ap (λ x. blocks x.cid) (next_is blocks stack below others w v b is next) ∙ next.held

pub part_taken : (blocks : List ℕ → Option (List ℕ)) (stack below others after new : List Asked) (w v : Asked) (b content : List ℕ) → stack ≡ below ++ w ∷ [] → HasPart w b content after → stack_bytes blocks new ≡ joined (row_bytes blocks after) (stack_bytes blocks below) → IsNext blocks stack others v b → IsTaken blocks stack content new
part_taken blocks stack below others after new w v b content is part moved next =
    ap (stack_bytes blocks) is
    ∙ stack-append blocks below w
    ∙ ap (λ c. joined c (stack_bytes blocks below)) (part.bytes blocks (next_held blocks stack below others w v b is next))
    ∙ joined_assoc (Some content) (row_bytes blocks after) (stack_bytes blocks below)
    ∙ ap (joined (Some content)) (sym moved)

pub goes_on : (blocks : List ℕ → Option (List ℕ)) (stack below others after new : List Asked) (w v : Asked) (b content : List ℕ) → stack ≡ below ++ w ∷ [] → HasPart w b content after → ((depth : ℕ) → AreBelow depth after → (more : List Asked) × (new ≡ below ++ more) × AreBelow depth more) → IsNext blocks stack others v b → GoesOn others v new
goes_on blocks stack below others after new w v b content is part moved next =
    subst (λ x. GoesOn others x new) (next_is blocks stack below others w v b is next)
    (subst (λ xs. GoesOn xs w new) (below_is blocks stack below others w v b is next) (part.deep, moved (w.depth - 1) part.below))

pub not_taken : (e : FileError) (blocks : List ℕ → Option (List ℕ)) (stack below others : List Asked) (w v : Asked) (b : List ℕ) → stack ≡ below ++ w ∷ [] → IsNext blocks stack others v b → IsNoPart e w b → IsCause e v b × Denies e (stack_bytes blocks stack ≡ None)
not_taken e blocks stack below others w v b is next h = (
  subst (λ x. IsCause e x b) (next_is blocks stack below others w v b is next) h.0,
  denied e (HasNoPart w b) (stack_bytes blocks stack ≡ None)
      (λ none. ap (stack_bytes blocks) is ∙ stack-append blocks below w ∙ ap (λ c. joined c (stack_bytes blocks below)) (none blocks (next_held blocks stack below others w v b is next)))
      h.1,
)

-- ---- takes in a row

joined_more : (blocks : List ℕ → Option (List ℕ)) (stack : List Asked) (pieces : List (List ℕ)) → AreTaken blocks stack pieces [] → stack_bytes blocks stack ≡ Some (concat pieces)
joined_more blocks stack [] e = ap (stack_bytes blocks) e
joined_more blocks stack (out ∷ more) (next, taken, h) = taken ∙ ap (joined (Some out)) (joined_more blocks next more h)

pub contents_handed_out : HandsOutContents
contents_handed_out blocks stack pieces h = joined_more blocks stack pieces h
