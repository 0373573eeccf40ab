-- Links in a line.
use Rattle.std.proofs.Common.{◌≡◌, ◌++◌, ◌∷◌, [], ◌<◌, ◌≤◌, ◌+◌, ℕ, List, length, map, sym, ap, ◌∙◌, get_or, take, append_assoc, Result, OnOk, IsErr, Ok, Err, take-suc, add-one, append-nil, take_all}
use Rattle.std.proofs.Math.Seq.{take-append_seam, take-length}
use Rattle.std.proofs.lemmas.List.{map-append}
use Rattle.hex.specs.Hex.{encode_lower}
use Rattle.ipld_tree.specs.Cid.{CidParts, cid_bytes}
use Rattle.program_dagcbor.specs.Answers.{after_spaces}

after_next : (forms : List (List ℕ)) (form : List ℕ) → after_spaces (forms ++ form ∷ []) ≡ after_spaces forms ++ 32 ∷ encode_lower form
after_next [] form = append-nil (32 ∷ encode_lower form)
after_next (first ∷ forms) form =
    ap (λ (s : List ℕ). (32 ∷ encode_lower first) ++ s) (after_next forms form)
    ∙ sym (append_assoc (32 ∷ encode_lower first) (after_spaces forms) (32 ∷ encode_lower form))

-- one more link comes after those before it
pub link_after : (links : List CidParts) (i : ℕ) (link : CidParts) (first old spaced new : List ℕ) → i < length links → link ≡ get_or links i link
    → old ≡ first ++ after_spaces (map cid_bytes (take i links)) → spaced ≡ old ++ 32 ∷ [] → new ≡ spaced ++ encode_lower (cid_bytes link)
    → new ≡ first ++ after_spaces (map cid_bytes (take (i + 1) links))
link_after links i link first old spaced new within is so_far space digits =
    let form = cid_bytes link in
    let done = map cid_bytes (take i links) in
    let more : take (i + 1) links ≡ take i links ++ link ∷ [] =
    ap (λ n. take n links) (add-one i) ∙ take-suc links i link within ∙ ap (λ y. take i links ++ y ∷ []) (sym is) in
    let forms : map cid_bytes (take (i + 1) links) ≡ done ++ form ∷ [] = ap (λ ls. map cid_bytes ls) more ∙ map-append cid_bytes (take i links) (link ∷ []) in
    digits ∙ ap (λ (s : List ℕ). s ++ encode_lower form) (space ∙ ap (λ (s : List ℕ). s ++ 32 ∷ []) so_far)
    ∙ append_assoc (first ++ after_spaces done) (32 ∷ []) (encode_lower form)
    ∙ append_assoc first (after_spaces done) (32 ∷ encode_lower form)
    ∙ ap (λ (s : List ℕ). first ++ s) (sym (ap after_spaces forms ∙ after_next done form))

-- a prefix is kept
pub kept_front : (before following : List ℕ) {now : List ℕ} → now ≡ before ++ following → take (length before) now ≡ before
kept_front before following is = ap (take (length before)) is ∙ take-append_seam before following

-- what came before the links is still there
pub kept_before : (before first following : List ℕ) {now : List ℕ} → now ≡ (before ++ first) ++ following → take (length before) now ≡ before
kept_before before first following is =
    kept_front before (first ++ following) (is ∙ append_assoc before first following)

pub all_kept : (before : List ℕ) {now : List ℕ} → now ≡ before → take (length before) now ≡ before
all_kept before is = ap (take (length before)) is ∙ take-length before

pub kept_before_space : (before first following : List ℕ) {old spaced now : List ℕ} → old ≡ (before ++ first) ++ following → spaced ≡ old ++ 32 ∷ [] → now ≡ spaced → take (length before) now ≡ before
kept_before_space before first following so_far space same =
    kept_before before first (following ++ 32 ∷ []) (same ∙ space ∙ ap (λ (s : List ℕ). s ++ 32 ∷ []) so_far ∙ append_assoc (before ++ first) following (32 ∷ []))

-- after the last link the line ends
pub links_ended : (links : List CidParts) (i : ℕ) (before first old new : List ℕ) → length links ≤ i → old ≡ (before ++ first) ++ after_spaces (map cid_bytes (take i links)) → new ≡ old ++ 10 ∷ []
    → new ≡ before ++ ((first ++ after_spaces (map cid_bytes links)) ++ 10 ∷ [])
links_ended links i before first old new none so_far ended =
    let all : take i links ≡ links = take_all i links none in
    let following = after_spaces (map cid_bytes links) in
    ended ∙ ap (λ (s : List ℕ). s ++ 10 ∷ []) (so_far ∙ ap (λ ls. (before ++ first) ++ after_spaces (map cid_bytes ls)) all ∙ append_assoc before first following)
    ∙ append_assoc before (first ++ following) (10 ∷ [])

-- after a refusal nothing is claimed about the answer
pub no_answer : {T E : Type 0} (r : Result T E) (P : Type 0) → IsErr r → OnOk r P
no_answer (Ok x) P e = absurd (cc e)
no_answer (Err x) P e = tt
