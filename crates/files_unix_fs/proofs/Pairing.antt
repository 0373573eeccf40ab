-- The links of a node and their sizes, read side by side.
use Rattle.std.proofs.Common.{◌≡◌, ◌≢◌, length, arith, ℕ, zero, suc, false, List, [], ◌∷◌, ◌++◌, map, Option, None, Some, refl, sym, ap, ◌∙◌, subst, append_assoc, append-nil}
use Rattle.ipld_tree.specs.Cid.{cid_bytes}
use Rattle.dag_pb.specs.Node.{LinkParts, BeginsWithFields}
use Rattle.dag_pb.specs.Reads.{links_in}
use Rattle.files_unix_fs.specs.UnixFs.{sizes_of}
use Rattle.files_unix_fs.specs.Nodes.{cids_of}
use Rattle.files_unix_fs.specs.Files.{has_empty}
use Rattle.files_unix_fs.specs.Reading.{HasRow, Asked, AreBelow, asked, followed_by, paired}
use Rattle.files_unix_fs.specs.declared.wanted.Wanted.{Wanted}
use Rattle.files_unix_fs.proofs.Nodes.{row_cids}

abbrev pub prepended : List Asked → Option (List Asked) → Option (List Asked)
prepended before None = None
prepended before (Some more) = Some (before ++ more)

prepended-one : (before : List Asked) (w : Asked) (more : Option (List Asked)) → prepended before (followed_by w more) ≡ prepended (before ++ w ∷ []) more
prepended-one before w None = refl
prepended-one before w (Some more) = ap Some (sym (append_assoc before (w ∷ []) more))

pub record IsPairedTo (depth : ℕ) (block sizes : List ℕ) (before : List Asked) (links rest : List ℕ) : Type 0 where
  pub row : HasRow links
  pub some : cids_of block ≡ [] → cids_of links ≡ []
  pub same : paired depth (cids_of block) (sizes_of sizes) ≡ prepended before (paired depth (cids_of links) (sizes_of rest))

pub next_cid : (links following : List ℕ) (link : LinkParts) → HasRow links → ((row : _) → BeginsWithFields links row [] → (more : _) × BeginsWithFields following more [] × (links_in row ≡ link ∷ links_in more)) → HasRow following × (cids_of links ≡ cid_bytes link.hash ∷ cids_of following)
next_cid links following link (row, h) next =
    let k = next row h in
    ((k.0, k.1), row_cids links row h ∙ ap (map (λ l. cid_bytes l.hash)) k.2 ∙ ap (λ xs. cid_bytes link.hash ∷ xs) (sym (row_cids following k.0 k.1)))

pub no_cids : (links : List ℕ) → HasRow links → ((row : _) → BeginsWithFields links row [] → links_in row ≡ []) → cids_of links ≡ []
no_cids links (row, h) none = row_cids links row h ∙ ap (map (λ l. cid_bytes l.hash)) (none row h)

pub one_paired : (depth : ℕ) (block sizes : List ℕ) (before : List Asked) (links rest more_links more_sizes : List ℕ) (cid : List ℕ) (size : ℕ) → IsPairedTo depth block sizes before links rest → HasRow more_links → cids_of links ≡ cid ∷ cids_of more_links → sizes_of rest ≡ size ∷ sizes_of more_sizes → IsPairedTo depth block sizes (before ++ record { cid = cid; size = Some size; depth = depth } ∷ []) more_links more_sizes
one_paired depth block sizes before links rest more_links more_sizes cid size h row c s = record {
  row = row;
  some = λ e. absurd (cc (sym (h.some e) ∙ c));
  same = h.same ∙ (λ i. prepended before (paired depth (c i) (s i)))
      ∙ prepended-one before (record { cid = cid; size = Some size; depth = depth }) (paired depth (cids_of more_links) (sizes_of more_sizes));
}

pub too_few_sizes : (depth : ℕ) (block sizes : List ℕ) (before : List Asked) (links rest : List ℕ) (cid : List ℕ) (cids : List (List ℕ)) → IsPairedTo depth block sizes before links rest → cids_of links ≡ cid ∷ cids → sizes_of rest ≡ [] → paired depth (cids_of block) (sizes_of sizes) ≡ None
too_few_sizes depth block sizes before links rest cid cids h c s = h.same ∙ (λ i. prepended before (paired depth (c i) (s i)))

pub too_many_sizes : (depth : ℕ) (block sizes : List ℕ) (before : List Asked) (links rest : List ℕ) (size : ℕ) (more : List ℕ) → IsPairedTo depth block sizes before links rest → cids_of links ≡ [] → sizes_of rest ≡ size ∷ more → paired depth (cids_of block) (sizes_of sizes) ≡ None
too_many_sizes depth block sizes before links rest size more h c s = h.same ∙ (λ i. prepended before (paired depth (c i) (s i)))

pub all_paired : (depth : ℕ) (block sizes : List ℕ) (before : List Asked) (links rest : List ℕ) → IsPairedTo depth block sizes before links rest → cids_of links ≡ [] → sizes_of rest ≡ [] → paired depth (cids_of block) (sizes_of sizes) ≡ Some before
all_paired depth block sizes before links rest h c s = h.same ∙ (λ i. prepended before (paired depth (c i) (s i))) ∙ ap Some (append-nil before)

pub asked-append : (ws : List Wanted) (w : Wanted) → map asked (ws ++ w ∷ []) ≡ map asked ws ++ asked w ∷ []
asked-append [] w = refl
asked-append (v ∷ ws) w = ap (λ xs. asked v ∷ xs) (asked-append ws w)

-- links were there
pub some_cids : (depth : ℕ) (block sizes : List ℕ) (before : List Asked) (links rest : List ℕ) (cid : List ℕ) (cids : List (List ℕ)) → IsPairedTo depth block sizes before links rest → cids_of links ≡ cid ∷ cids → cids_of block ≡ [] → ⊥
some_cids depth block sizes before links rest cid cids h c e = absurd (cc (sym (h.some e) ∙ c))

pub no_pairs : (depth : ℕ) (cids : List (List ℕ)) (sizes : List ℕ) (ws : List Asked) → paired depth cids sizes ≡ Some ws → cids ≡ [] → ws ≡ []
no_pairs depth [] [] ws e none = let same : [] ≡ ws = cc e in sym same
no_pairs depth [] (size ∷ sizes) ws e none = absurd (cc e)
no_pairs depth (cid ∷ cids) sizes ws e none = absurd (cc none)

followed_none : (w : Asked) (more : Option (List Asked)) → followed_by w more ≡ None → more ≡ None
followed_none w None e = refl
followed_none w (Some more) e = absurd (cc e)

-- as many of the one as of the other are paired
pub unequal : (depth : ℕ) (cids : List (List ℕ)) (sizes : List ℕ) → paired depth cids sizes ≡ None → length cids ≢ length sizes
unequal depth [] [] e same = absurd (cc e)
unequal depth [] (size ∷ sizes) e same = omega (arith, same)
unequal depth (cid ∷ cids) [] e same = omega (arith, same)
unequal depth (cid ∷ cids) (size ∷ sizes) e same = unequal depth cids sizes (followed_none _ (paired depth cids sizes) e) (omega (arith, same))

followed_some : (w : Asked) (more : Option (List Asked)) (ws : List Asked) → followed_by w more ≡ Some ws → (rest : List Asked) × (more ≡ Some rest) × (w ∷ rest ≡ ws)
followed_some w None ws e = absurd (cc e)
followed_some w (Some rest) ws e = (rest, refl, cc e)

-- each is of the depth that was given, and of a byte at least
pub paired_below : (depth : ℕ) (cids : List (List ℕ)) (sizes : List ℕ) (ws : List Asked) → has_empty sizes ≡ false → paired depth cids sizes ≡ Some ws → AreBelow depth ws
paired_below depth [] [] ws some e = let same : [] ≡ ws = cc e in subst (AreBelow depth) same tt
paired_below depth [] (size ∷ sizes) ws some e = absurd (cc e)
paired_below depth (cid ∷ cids) [] ws some e = absurd (cc e)
paired_below depth (cid ∷ cids) (zero ∷ sizes) ws some e = absurd (cc some)
paired_below depth (cid ∷ cids) (suc n ∷ sizes) ws some e =
    let k = followed_some (record { cid = cid; size = Some (suc n); depth = depth }) (paired depth cids sizes) ws e in
    subst (AreBelow depth) k.2 ((refl, (suc n, refl, omega arith)), paired_below depth cids sizes k.0 some k.1)

pub asked-empty : (ws : List Wanted) → length ws ≡ 0 → map asked ws ≡ []
asked-empty [] e = refl
asked-empty (w ∷ ws) e = absurd (omega (arith, e))
