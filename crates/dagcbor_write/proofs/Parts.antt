-- A text that is written in parts.
use Rattle.std.proofs.Common.{◌≡◌, ℕ, ◌+◌, ◌^◌, ◌<◌, ◌≤◌, List, [], ◌∷◌, length, Option, Some, sym, ap, ◌∙◌, arith}
use Rattle.std.specs.Fmt.{◌++?◌}
use Rattle.dagcbor_core.specs.Head.{head}
use Rattle.dagcbor_heads.specs.Written.{Written, WroteAll}
use Rattle.dagcbor_core.proofs.Heads.{head_one}
use Rattle.dagcbor_heads.proofs.Writing.{Written-but, begin_writing, all_written, append_Some, join_parts, joined_assoc}
use Rattle.ipld_tree.specs.Tree.{link}
use Rattle.ipld_tree.specs.Spelled.{spelled, spelled_head, spelled_bytes}
use Rattle.dagcbor_write.proofs.Spelling.{head_is_spelled}

pub begin_two : (whole a b : Option (List ℕ)) (s : Written) → whole ≡ a ++? b → Written-but whole (a ∷ b ∷ []) s s
begin_two whole a b s e = begin_writing whole (a ∷ b ∷ []) s (e ∙ ap (λ x. a ++? x) (sym (append_Some b)))

-- what is left is a part and more
pub part_opened : {whole a : Option (List ℕ)} {s t : Written} → (b c : Option (List ℕ)) → a ≡ b ++? c → Written-but whole (a ∷ []) s t → Written-but whole (b ∷ c ∷ []) s t
part_opened {whole} {a} b c e w = record {
  done = w.done;
  split = w.split ∙ ap (λ x. w.done ++? x) (append_Some a ∙ e ∙ ap (λ x. b ++? x) (sym (append_Some c)));
  wrote = w.wrote;
}

-- the next part is two
pub part_split : {whole a b : Option (List ℕ)} {parts : List (Option (List ℕ))} {s t : Written} → Written-but whole ((a ++? b) ∷ parts) s t → Written-but whole (a ∷ b ∷ parts) s t
part_split {whole} {a} {b} {parts} w = record { done = w.done; split = w.split ∙ ap (λ x. w.done ++? x) (joined_assoc a b (join_parts parts)); wrote = w.wrote }

-- nothing is left
pub parts_ended : {whole a : Option (List ℕ)} {s t : Written} → a ≡ Some [] → Written-but whole (a ∷ []) s t → WroteAll whole s t
parts_ended {whole} {a} e w = all_written (record { done = w.done; split = w.split ∙ ap (λ x. w.done ++? x) (append_Some a ∙ e); wrote = w.wrote })

-- a head of the number of bytes, and the bytes
pub begin_counted : (major : ℕ) (bytes : List ℕ) (s : Written) → length bytes < 2 ^ 64 → Written-but (spelled_bytes major bytes) (Some (head major (length bytes)) ∷ Some bytes ∷ []) s s
begin_counted major bytes s h = begin_two _ _ _ s (ap (λ o. o ++? Some bytes) (head_is_spelled major (length bytes) h))

pub begin_link : (cid : List ℕ) (n : ℕ) (s : Written) → n ≡ length cid + 1 → n < 2 ^ 64 → Written-but (spelled (link cid)) (Some (0xd8 ∷ 0x2a ∷ []) ∷ Some (head 2 n) ∷ Some (0x00 ∷ []) ∷ Some cid ∷ []) s s
unfolding spelled
begin_link cid n s e h =
    let long : length (0x00 ∷ cid) ≡ n = omega (arith, e) in
    begin_writing _ _ s (ap (λ o. Some (0xd8 ∷ 0x2a ∷ []) ++? (o ++? Some (0x00 ∷ cid))) (ap (λ k. spelled_head 2 k) long ∙ head_is_spelled 2 n h)
    ∙ ap (λ x. Some (0xd8 ∷ 0x2a ∷ []) ++? (Some (head 2 n) ++? (Some (0x00 ∷ []) ++? x))) (sym (append_Some (Some cid))))

-- the bytes of a link whose CID is of 23 bytes or more, and of fewer than 255
pub link_bytes : (cid : List ℕ) (n : ℕ) → n ≡ length cid + 1 → 24 ≤ n → n < 2 ^ 8 → spelled (link cid) ≡ Some (0xd8 ∷ 0x2a ∷ 0x58 ∷ n ∷ 0x00 ∷ cid)
unfolding spelled
link_bytes cid n e a b =
    let long : length (0x00 ∷ cid) ≡ n = omega (arith, e) in
    let two : spelled_head 2 n ≡ Some (0x58 ∷ n ∷ []) = head_is_spelled 2 n (omega (arith, b)) ∙ ap Some (head_one 2 n a b) in
    ap (λ o. Some (0xd8 ∷ 0x2a ∷ []) ++? (o ++? Some (0x00 ∷ cid))) (ap (λ k. spelled_head 2 k) long ∙ two)
