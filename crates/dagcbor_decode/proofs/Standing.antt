-- What is at the front is read.
use Rattle.std.proofs.Common.{◌≡◌, ℕ, suc, zero, ◌-◌, ◌≤◌, List, ap, ◌∙◌, arith, Option, None, codes, true}
use Rattle.dagcbor_core.specs.Splits.{SplitsHead}
use Rattle.ipld_tree.specs.Tree.{list, mapping, text}
use Rattle.ipld_tree.specs.Spelling.{IsFront}
use Rattle.dagcbor_decode.specs.Fronts.{SplitsLeaf}
use Rattle.dagcbor_decode.specs.Decode.{got, after, key_of, follows, items_of, entries_of, item_of, list_of, map_of}
use Rattle.dagcbor_decode.specs.Told.{skim}
use Rattle.dagcbor_decode.proofs.Parts.{skim_got}
use Rattle.dagcbor_decode.proofs.Complete.{any_reads, key_front, led, item_list, item_map}

pub leaf_read : (steps : ℕ) (b rest : List ℕ) → 1 ≤ steps → SplitsLeaf b rest → skim (item_of steps b) ≡ got tt rest
leaf_read steps b rest h k = ap skim (any_reads steps b k.0 rest k.1 (omega (arith, h, k.2)))

pub key_read : (previous : Option (List ℕ)) (b key rest : List ℕ) → IsFront b (text key) rest → follows previous key ≡ true → key_of previous b ≡ got key rest
key_read previous b key rest k f = ap (key_of previous) k.is ∙ key_front previous key rest k.well_formed k.spellable f

pub list_read : (steps n : ℕ) (b c : List ℕ) → 2 ≤ steps → SplitsHead b 4 n c → skim (item_of steps b) ≡ skim (items_of (item_of (steps - 2)) n c)
list_read zero n b c h k = absurd (omega (arith, h))
list_read (suc zero) n b c h k = absurd (omega (arith, h))
list_read (suc (suc steps)) n b c h k =
    let e : steps ≡ suc (suc steps) - 2 = omega arith in
    ap (λ b. skim (item_of (suc (suc steps)) b)) k.2
    ∙ ap skim (led (suc steps) 4 n c _ k.1 (λ first more m i r. item_list (list_of (suc steps)) (map_of (suc steps)) first more i m
    ∙ ap (λ x. after x (λ n rest. after (items_of (item_of steps) n rest) (λ us. got (list us)))) (r (codes "array"))))
    ∙ skim_got (items_of (item_of steps) n c) list
    ∙ ap (λ s. skim (items_of (item_of s) n c)) e

pub map_read : (steps n : ℕ) (b c : List ℕ) → 2 ≤ steps → SplitsHead b 5 n c → skim (item_of steps b) ≡ skim (entries_of (item_of (steps - 2)) n None c)
map_read zero n b c h k = absurd (omega (arith, h))
map_read (suc zero) n b c h k = absurd (omega (arith, h))
map_read (suc (suc steps)) n b c h k =
    let e : steps ≡ suc (suc steps) - 2 = omega arith in
    ap (λ b. skim (item_of (suc (suc steps)) b)) k.2
    ∙ ap skim (led (suc steps) 5 n c _ k.1 (λ first more m i r. item_map (list_of (suc steps)) (map_of (suc steps)) first more i m
    ∙ ap (λ x. after x (λ n rest. after (entries_of (item_of steps) n None rest) (λ es. got (mapping es)))) (r (codes "map"))))
    ∙ skim_got (entries_of (item_of steps) n None c) mapping
    ∙ ap (λ s. skim (entries_of (item_of s) n None c)) e
