-- The header of a file: its spelling, its links, and why bytes are not a header.
use Rattle.std.proofs.Common.{◌≡◌, ℕ, ◌≤◌, List, [], ◌∷◌, ◌++◌, map, length, codes, pos, refl, sym, ap, ◌∙◌, subst, arith, Option, Some, option_map}
use Rattle.ipld_tree.specs.Cid.{CidParts, cid_bytes}
use Rattle.ipld_tree.specs.Tree.{Tree, integer, list, link, items_of, all_some, list_tree, entries_tree, any_need, items_need, links_of}
use Rattle.ipld_tree.specs.Spelling.{spelling, IsSpelling}
use Rattle.ipld_tree.proofs.Fronts.{front_unique}
use Rattle.dagcbor_items.specs.Walks.{forms}
use Rattle.dagcbor_decode.specs.Blocks.{IsBlock}
use Rattle.dagcbor_decode.specs.Blocks.{AreFirstLinks}
use Rattle.dagcbor_items.proofs.SliceReads.{whole_front}
use Rattle.dagcbor_write.specs.Trees.{field}
use Rattle.dagcbor_write.specs.Answers.{AreSpellingOf}
use Rattle.files_car.specs.Car.{counted, header_tree}
use Rattle.files_car.specs.Splits.{SplitsCounted, CountFault, IsNoHeader, SplitsHeader, BeginsNoHeader, HeaderRefused}
use Rattle.files_car.specs.declared.error.CarError.{CarError}
use Rattle.files_car.specs.declared.error.CarError.TheVariants.{Truncated, InvalidLength, NoBlock, OtherHeader, OutOfMemory}
use Rattle.dagcbor_decode.proofs.Laws.{refused_no_block}
use Rattle.files_car.proofs.Cars.{counted_unique, links_of_header}
use Rattle.files_car.proofs.Counts.{no_counted}

-- ---- the encoded roots

all_links : (cs : List CidParts) → all_some (map (λ c. Some (link (cid_bytes c))) cs) ≡ Some (map link (forms cs))
all_links [] = refl
all_links (c ∷ cs) = ap (option_map (λ more. link (cid_bytes c) ∷ more)) (all_links cs)

-- the tree that is written
abbrev pub written_tree : List CidParts → Option Tree
written_tree cs = entries_tree (field (codes "roots") (list_tree (map (λ c. Some (link (cid_bytes c))) cs)) ∷ field (codes "version") (Some (integer (pos 1))) ∷ [])

pub written_header : (cs : List CidParts) → written_tree cs ≡ Some (header_tree (forms cs))
written_header cs = ap (λ found. entries_tree (field (codes "roots") (option_map (λ ts. list (items_of ts)) found) ∷ field (codes "version") (Some (integer (pos 1))) ∷ [])) (all_links cs)

-- the encoded bytes are the header of the roots
abbrev pub IsWritten : List CidParts → List ℕ → Type 0
IsWritten cs v = IsSpelling v (header_tree (forms cs))

pub is_written : (cs : List CidParts) (v : List ℕ) → AreSpellingOf (written_tree cs) v → IsWritten cs v
is_written cs v h = subst (λ o. AreSpellingOf o v) (written_header cs) h

-- ---- a header as a block

links_need : (roots : List (List ℕ)) → items_need (items_of (map link roots)) ≤ 1
links_need [] = omega arith
links_need (r ∷ rs) = omega (arith, links_need rs)

header_need : (roots : List (List ℕ)) → any_need (header_tree roots) ≤ 256
header_need roots = omega (arith, links_need roots)

pub header_block : (b : List ℕ) (roots : List (List ℕ)) → IsSpelling b (header_tree roots) → IsBlock b (header_tree roots)
header_block b roots h = (h, header_need roots)

-- the first links of a header are its roots
pub roots_found : (b : List ℕ) (links roots : List (List ℕ)) → AreFirstLinks b links → IsSpelling b (header_tree roots) → IsSpelling b (header_tree links)
roots_found b links roots first h =
    let same : links ≡ roots = first.4 ∙ ap links_of (front_unique b first.1 [] first.0 (header_tree roots) first.2 (whole_front h)).0 ∙ links_of_header roots in
    subst (λ rs. IsSpelling b (header_tree rs)) (sym same) h

-- ---- the header at the front

pub header_found : (b inner rest : List ℕ) (roots : List (List ℕ)) → SplitsCounted b inner rest → IsSpelling inner (header_tree roots) → SplitsHeader b roots rest
header_found b inner rest roots h s = (
  record { well_formed = s.well_formed; spellable = s.spellable; fits = omega (arith, h.0, ap length s.is) },
  h.1 ∙ ap (λ x. counted x ++ rest) s.is,
)

inner_of : (b inner rest more : List ℕ) (roots : List (List ℕ)) → SplitsCounted b inner rest → SplitsHeader b roots more → IsSpelling inner (header_tree roots)
inner_of b inner rest more roots h k = record {
  well_formed = k.0.well_formed;
  spellable = k.0.spellable;
  is = (counted_unique inner (spelling (header_tree roots)) rest more h.0 k.0.fits (sym h.1 ∙ k.1)).0;
}

no_header_here : (b inner rest : List ℕ) → SplitsCounted b inner rest → ((roots : List (List ℕ)) → IsSpelling inner (header_tree roots) → ⊥) → BeginsNoHeader b
no_header_here b inner rest h none roots more k = none roots (inner_of b inner rest more roots h k)

pub not_read : {E : Type 0} (e : CarError E) (b inner rest : List ℕ) → SplitsCounted b inner rest → IsNoHeader e inner → HeaderRefused e b
not_read (NoBlock e) b inner rest h r = (no_header_here b inner rest h (λ roots s. refused_no_block inner e (header_tree roots) r (header_block inner roots s)), (inner, rest, h, r))
not_read OtherHeader b inner rest h r = (no_header_here b inner rest h r.1, (inner, rest, h, r.0))
not_read OutOfMemory b inner rest h r = (inner, rest, h, r)
not_read _ b inner rest h r = absurd r

pub not_counted : {E : Type 0} (e : CarError E) (b : List ℕ) → CountFault e b → HeaderRefused e b
not_counted {E} Truncated b f = (λ roots rest h. no_counted {E = E} Truncated b (spelling (header_tree roots)) rest f (h.0.fits, h.1), f)
not_counted {E} InvalidLength b f = (λ roots rest h. no_counted {E = E} InvalidLength b (spelling (header_tree roots)) rest f (h.0.fits, h.1), f)
not_counted _ b f = absurd f
