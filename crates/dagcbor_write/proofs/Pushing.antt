-- The entries of a map, written one after another.
use Rattle.std.proofs.Common.{◌≡◌, ℕ, ◌+◌, ◌<◌, ◌≤◌, List, [], ◌∷◌, ◌++◌, length, get_or, drop, Option, Some, Bool, refl, sym, ap, ◌∙◌, subst, add-one, append_assoc, drop-cons, drop_of_length-le}
use Rattle.std.specs.Fmt.{◌++?◌}
use Rattle.dagcbor_heads.specs.Written.{Written, WroteAll}
use Rattle.dagcbor_heads.proofs.Writing.{Written-but, begin_writing, append_Some, Appends_nothing, next_part, all_written}
use Rattle.dagcbor_write.proofs.Parts.{part_opened}
use Rattle.dagcbor_write.specs.Maps.{Texts}
use Rattle.dagcbor_write.specs.Order.{head_rest, entries_bytes}

-- a head, if it was not written yet, and the entries
pub begin_entries : (out : Bool) (es : List Texts) (s : Written) → Written-but (head_rest out (length es) ++? Some (entries_bytes es)) (head_rest out (length es) ∷ Some (entries_bytes es) ∷ []) s s
begin_entries out es s = begin_writing _ _ s (ap (λ x. head_rest out (length es) ++? x) (sym (append_Some (Some (entries_bytes es)))))

-- the first of the entries that are left
pub at_entry : (es : List Texts) (i : ℕ) (bytes : List ℕ) → i < length es → ((d : Texts) → bytes ≡ (get_or es i d).0 ++ (get_or es i d).1) → (whole : Option (List ℕ)) (s t : Written) → Written-but whole (Some (entries_bytes (drop i es)) ∷ []) s t
    → Written-but whole (Some bytes ∷ Some (entries_bytes (drop (i + 1) es)) ∷ []) s t
at_entry es i bytes h is whole s t w =
    let e : Texts = get_or es i ([], []) in
    let begins : drop i es ≡ e ∷ drop (i + 1) es = rw add-one (drop-cons es i ([], []) h) in
    let more : List ℕ = entries_bytes (drop (i + 1) es) in
    let first : entries_bytes (drop i es) ≡ bytes ++ more = ap entries_bytes begins ∙ sym (append_assoc e.0 e.1 more) ∙ ap (λ x. x ++ more) (sym (is ([], []))) in
    part_opened (Some bytes) (Some more) (ap Some first) w

pub no_entry : (es : List Texts) (i : ℕ) → length es ≤ i → (whole : Option (List ℕ)) (s t : Written) → Written-but whole (Some (entries_bytes (drop i es)) ∷ []) s t → WroteAll whole s t
no_entry es i h whole s t w = all_written (next_part (subst (λ fs. Written-but whole (Some (entries_bytes fs) ∷ []) s t) (drop_of_length-le es h) w) t (Appends_nothing t.bytes, refl, refl))
