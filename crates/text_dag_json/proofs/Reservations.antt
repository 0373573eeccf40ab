-- The key `/` among a map's entries, in any order.
use Rattle.std.proofs.Common.{◌≡◌, ℕ, List, [], ◌∷◌, Bool, true, false, cond, ◌||◌, codes, refl, sym, ap, ◌∙◌, string_bytes, bytes_eq}
use Rattle.ipld_tree.specs.Key.{comes_before}
use Rattle.ipld_tree.specs.Tree.{Tree, Entries, no_entries, entry, insert, ordered_entries}
use Rattle.ipld_tree.specs.Ipld.{tree_of, pairs_of}
use Rattle.ipld_tree.proofs.Trees.{IpldEntry}
use Rattle.text_dag_json.specs.DagJson.{has_reserved_key, entries_reserved}
use Rattle.text_dag_json.proofs.Slots.{or_swap}

-- whether the key is `/`, or the value has a key `/`
abbrev pub entry_reserved : List ℕ → Tree → Bool
entry_reserved k t = bytes_eq k (codes "/") || has_reserved_key t

abbrev pub pairs_reserved : List IpldEntry → Bool
pairs_reserved [] = false
pairs_reserved (e ∷ es) = entry_reserved (string_bytes e.0) (tree_of e.1) || pairs_reserved es

or_assoc : (a b c : Bool) → (a || (b || c)) ≡ ((a || b) || c)
or_assoc true b c = refl
or_assoc false b c = refl

entry_step : (k : List ℕ) (t : Tree) (es : Entries) → entries_reserved (entry k t es) ≡ (entry_reserved k t || entries_reserved es)
entry_step k t es = or_assoc (bytes_eq k (codes "/")) (has_reserved_key t) (entries_reserved es)

insert_reserved : (k : List ℕ) (t : Tree) (es : Entries) → entries_reserved (insert k t es) ≡ (entry_reserved k t || entries_reserved es)
insert_reserved k t no_entries = entry_step k t no_entries
insert_reserved k t (entry l u es) = by (comes_before k l) (insert_reserved k t es)
  where
    by : (b : Bool) → entries_reserved (insert k t es) ≡ (entry_reserved k t || entries_reserved es) → entries_reserved (cond b (entry k t (entry l u es)) (entry l u (insert k t es))) ≡ (entry_reserved k t || entries_reserved (entry l u es))
    by true more = entry_step k t (entry l u es)
    by false more =
        entry_step l u (insert k t es) ∙ ap (λ b. entry_reserved l u || b) more ∙ or_swap (entry_reserved l u) (entry_reserved k t) (entries_reserved es)
        ∙ ap (λ b. entry_reserved k t || b) (sym (entry_step l u es))

pub ordered_reserved : (es : List IpldEntry) → entries_reserved (ordered_entries (pairs_of es)) ≡ pairs_reserved es
ordered_reserved [] = refl
ordered_reserved (e ∷ es) = insert_reserved (string_bytes e.0) (tree_of e.1) (ordered_entries (pairs_of es)) ∙ ap (λ b. entry_reserved (string_bytes e.0) (tree_of e.1) || b) (ordered_reserved es)

-- the next entry
pub next_reserved : (left more : List IpldEntry) (e : IpldEntry) (b found : Bool) → left ≡ e ∷ more → pairs_reserved left ≡ b → found ≡ entry_reserved (string_bytes e.0) (tree_of e.1) → (found || pairs_reserved more) ≡ b
next_reserved left more e b found is so_far test = ap (λ x. x || pairs_reserved more) test ∙ ap pairs_reserved (sym is) ∙ so_far
