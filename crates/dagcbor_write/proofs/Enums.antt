-- The spelling of a variant.
use Rattle.std.proofs.Common.{◌≡◌, ℕ, List, [], ◌∷◌, length, map, Option, None, Some, true, sym, ap, ◌∙◌}
use Rattle.std.specs.Fmt.{◌++?◌}
use Rattle.dagcbor_heads.specs.Written.{Written}
use Rattle.dagcbor_heads.proofs.Writing.{append_None, append_Some, joined_assoc, Written-but, begin_writing, join_parts}
use Rattle.ipld_tree.specs.Tree.{Tree, list_tree, entries_tree}
use Rattle.ipld_tree.specs.Spelled.{spelled, spelled_bytes, spelled_tree, spelled_head}
use Rattle.dagcbor_write.specs.Trees.{Pair, variant_tree, variant_head}
use Rattle.dagcbor_write.specs.Maps.{map_rest}
use Rattle.dagcbor_write.proofs.Lists.{spelled_list, each_joined}
use Rattle.dagcbor_write.proofs.Fields.{spelled_map}

pub spelled_variant : (name : List ℕ) (part : Option Tree) → spelled_tree (variant_tree name part) ≡ variant_head name ++? spelled_tree part
unfolding spelled
spelled_variant name None = sym (append_None (variant_head name))
spelled_variant name (Some t) =
    ap (λ x. spelled_head 5 1 ++? (spelled_bytes 3 name ++? x)) (append_Some (spelled t)) ∙ sym (joined_assoc (spelled_head 5 1) (spelled_bytes 3 name) (spelled t))

pub begin_newtype_variant : (name : List ℕ) (part : Option Tree) (s : Written) → Written-but (spelled_tree (variant_tree name part)) (variant_head name ∷ spelled_tree part ∷ []) s s
begin_newtype_variant name part s = begin_writing _ _ s (spelled_variant name part ∙ ap (λ x. variant_head name ++? x) (sym (append_Some (spelled_tree part))))

pub begin_tuple_variant : (name : List ℕ) (os : List (Option Tree)) (s : Written) → Written-but (spelled_tree (variant_tree name (list_tree os))) ((variant_head name ++? spelled_head 4 (length os)) ∷ map spelled_tree os) s s
begin_tuple_variant name os s = begin_writing _ _ s
    (spelled_variant name (list_tree os) ∙ ap (λ x. variant_head name ++? x) (spelled_list os ∙ ap (λ x. spelled_head 4 (length os) ++? x) (each_joined os))
    ∙ sym (joined_assoc (variant_head name) (spelled_head 4 (length os)) (join_parts (map spelled_tree os))))

pub begin_struct_variant : (name : List ℕ) (ps : List Pair) (n : ℕ) (s : Written) → n ≡ length ps → Written-but (spelled_tree (variant_tree name (entries_tree ps))) ((variant_head name ++? spelled_head 5 n) ∷ map_rest true ps ∷ []) s s
begin_struct_variant name ps n s e = begin_writing _ _ s
    (spelled_variant name (entries_tree ps) ∙ ap (λ x. variant_head name ++? x) (spelled_map ps n e ∙ ap (λ x. spelled_head 5 n ++? x) (sym (append_Some (map_rest true ps))))
    ∙ sym (joined_assoc (variant_head name) (spelled_head 5 n) (map_rest true ps ++? Some [])))
