-- What the tape of a block encodes.
use Rattle.std.proofs.Common.{◌≡◌, ℕ, ◌+◌, ◌≤◌, pos, negsuc, List, [], ◌∷◌, ◌++◌, length, take, drop, Bool, true, false, if◌then◌else◌, refl, sym, ap, ap₂, ◌∙◌, arith, append_assoc, append-nil, length-append, Option, Some, None, option_map, option_and_then, le-ltb}
use Rattle.std.proofs.Math.Seq.{drop-append_seam, take-append_seam}
use Rattle.dagcbor_core.specs.Head.{head}
use Rattle.ipld_tree.specs.Tree.{Tree, null, boolean, integer, text, bytes, list, mapping, link, Items, no_items, item, Entries, no_entries, entry}
use Rattle.ipld_tree.specs.Spelling.{item_count, entry_count, text_spelling, spelling, items_spelling, entries_spelling}
use Rattle.abi_calls.specs.Tapes.{token_at, tokens_of, items_tokens, entries_tokens, text_token}
use Rattle.abi_calls.specs.Told.{payload_at, token_bytes, tape_told, TapeTellsBlock}
use Rattle.abi_calls.specs.declared.tape.Token.{Token}

-- a payload after the bytes before it
payload_there : (b x s y : List ℕ) (place : ℕ) → b ≡ x ++ (s ++ y) → length x ≡ place → payload_at b place (length s) ≡ Some s
payload_there b x s y place is e =
    let room : place + length s ≤ length b = omega (arith, e, ap length is, length-append x (s ++ y), length-append s y) in
    ap (λ (o : Bool). if o then None else Some (take (length s) (drop place b))) (le-ltb (length b) (place + length s) room)
    ∙ ap (λ n. Some (take (length s) (drop n b))) (sym e)
    ∙ ap (λ z. Some (take (length s) (drop (length x) z))) is
    ∙ ap (λ z. Some (take (length s) z)) (drop-append_seam x (s ++ y))
    ∙ ap Some (take-append_seam s y)

-- a token and those after it
pub told_first : (b s r : List ℕ) (first : Token) (more : List Token) → token_bytes b first.kind first.number first.place ≡ Some s → tape_told b more ≡ Some r → tape_told b (first ∷ more) ≡ Some (s ++ r)
told_first b s r first more p q = ap₂ (λ o u. option_and_then (λ x. option_map (λ y. x ++ y) u) o) p q

-- tokens after others
told_both : (b s r : List ℕ) (first more : List Token) → tape_told b first ≡ Some s → tape_told b more ≡ Some r → tape_told b (first ++ more) ≡ Some (s ++ r)
told_both b s r [] more p q = let none : [] ≡ s = cc p in q ∙ ap (λ x. Some (x ++ r)) none
told_both b s r (x ∷ xs) more p q = by (λ u f. told_both b u r xs more f q) (token_bytes b x.kind x.number x.place) refl (tape_told b xs) refl
  where
    by : ((u : List ℕ) → tape_told b xs ≡ Some u → tape_told b (xs ++ more) ≡ Some (u ++ r)) → (o : Option (List ℕ)) → o ≡ token_bytes b x.kind x.number x.place → (u : Option (List ℕ)) → u ≡ tape_told b xs → tape_told b (x ∷ (xs ++ more)) ≡ Some (s ++ r)
    by following None e u f = let k : None ≡ Some s = ap₂ (λ o v. option_and_then (λ y. option_map (λ z. y ++ z) v) o) e f ∙ p in absurd (cc k)
    by following (Some o) e None f = let k : None ≡ Some s = ap₂ (λ w v. option_and_then (λ y. option_map (λ z. y ++ z) v) w) e f ∙ p in absurd (cc k)
    by following (Some o) e (Some u) f =
        let k : Some (o ++ u) ≡ Some s = sym (told_first b o u x xs (sym e) (sym f)) ∙ p in
        let is : o ++ u ≡ s = cc k in
        told_first b o (u ++ r) x (xs ++ more) (sym e) (following u (sym f)) ∙ ap Some (sym (append_assoc o u r)) ∙ ap (λ z. Some (z ++ r)) is

-- ---- what follows some bytes, part by part

inside_first : (b x s r y : List ℕ) → b ≡ x ++ ((s ++ r) ++ y) → b ≡ x ++ (s ++ (r ++ y))
inside_first b x s r y is = is ∙ ap (λ z. x ++ z) (append_assoc s r y)

inside_next : (b x s r y : List ℕ) → b ≡ x ++ ((s ++ r) ++ y) → b ≡ (x ++ s) ++ (r ++ y)
inside_next b x s r y is = inside_first b x s r y is ∙ sym (append_assoc x s (r ++ y))

further : (x s : List ℕ) (at : ℕ) → length x ≡ at → length (x ++ s) ≡ at + length s
further x s at e = omega (arith, length-append x s, e)

-- a head and its payload
string_is_told : (b x s y : List ℕ) (at major : ℕ) → length x ≡ at → b ≡ x ++ ((head major (length s) ++ s) ++ y) → option_map (λ p. head major (length s) ++ p) (payload_at b (at + length (head major (length s))) (length s)) ≡ Some (head major (length s) ++ s)
string_is_told b x s y at major e is =
    let front = head major (length s) in
    ap (option_map (λ p. front ++ p)) (payload_there b (x ++ front) s y (at + length front) (inside_next b x front s y is) (further x front at e))

link_is_told : (b x cid y : List ℕ) (at : ℕ) → length x ≡ at → b ≡ x ++ (spelling (link cid) ++ y) → token_bytes b 7 (length cid) (at + length (0xd8 ∷ 0x2a ∷ head 2 (length (0x00 ∷ cid)) ++ 0x00 ∷ [])) ≡ Some (spelling (link cid))
link_is_told b x cid y at e is =
    let h = head 2 (length (0x00 ∷ cid)) in
    let front = 0xd8 ∷ 0x2a ∷ h ++ 0x00 ∷ [] in
    let whole : spelling (link cid) ≡ front ++ cid = ap (λ z. 0xd8 ∷ 0x2a ∷ z) (sym (append_assoc h (0x00 ∷ []) cid)) in
    ap (option_map (λ s. 0xd8 ∷ 0x2a ∷ h ++ 0x00 ∷ s)) (payload_there b (x ++ front) cid y (at + length front) (inside_next b x front cid y (is ∙ ap (λ z. x ++ (z ++ y)) whole)) (further x front at e))

mutual
  tree_told : (b x y : List ℕ) (at : ℕ) (t : Tree) → length x ≡ at → b ≡ x ++ (spelling t ++ y) → tape_told b (tokens_of at t) ≡ Some (spelling t)
  tree_told b x y at null e is = refl
  tree_told b x y at (boolean false) e is = refl
  tree_told b x y at (boolean true) e is = refl
  tree_told b x y at (integer (pos n)) e is = ap Some (append-nil (head 0 n))
  tree_told b x y at (integer (negsuc n)) e is = ap Some (append-nil (head 1 n))
  tree_told b x y at (text s) e is = told_first b (text_spelling s) [] (text_token at s) [] (string_is_told b x s y at 3 e is) refl ∙ ap Some (append-nil (text_spelling s))
  tree_told b x y at (bytes s) e is = told_first b (spelling (bytes s)) [] (token_at at (head 2 (length s)) 4 (length s)) [] (string_is_told b x s y at 2 e is) refl ∙ ap Some (append-nil (spelling (bytes s)))
  tree_told b x y at (list ts) e is =
      let h = head 4 (item_count ts) in
      told_first b h (items_spelling ts) (token_at at h 5 (item_count ts)) (items_tokens (at + length h) ts) refl (items_told b (x ++ h) y (at + length h) ts (further x h at e) (inside_next b x h (items_spelling ts) y is))
  tree_told b x y at (mapping es) e is =
      let h = head 5 (entry_count es) in
      told_first b h (entries_spelling es) (token_at at h 6 (entry_count es)) (entries_tokens (at + length h) es) refl (entries_told b (x ++ h) y (at + length h) es (further x h at e) (inside_next b x h (entries_spelling es) y is))
  tree_told b x y at (link cid) e is =
      told_first b (spelling (link cid)) [] (token_at at (0xd8 ∷ 0x2a ∷ head 2 (length (0x00 ∷ cid)) ++ 0x00 ∷ []) 7 (length cid)) [] (link_is_told b x cid y at e is) refl ∙ ap Some (append-nil (spelling (link cid)))

  items_told : (b x y : List ℕ) (at : ℕ) (ts : Items) → length x ≡ at → b ≡ x ++ (items_spelling ts ++ y) → tape_told b (items_tokens at ts) ≡ Some (items_spelling ts)
  items_told b x y at no_items e is = refl
  items_told b x y at (item t ts) e is =
      let s = spelling t in
      let r = items_spelling ts in
      told_both b s r (tokens_of at t) (items_tokens (at + length s) ts) (tree_told b x (r ++ y) at t e (inside_first b x s r y is)) (items_told b (x ++ s) y (at + length s) ts (further x s at e) (inside_next b x s r y is))

  entries_told : (b x y : List ℕ) (at : ℕ) (es : Entries) → length x ≡ at → b ≡ x ++ (entries_spelling es ++ y) → tape_told b (entries_tokens at es) ≡ Some (entries_spelling es)
  entries_told b x y at no_entries e is = refl
  entries_told b x y at (entry k t es) e is =
      let key = text_spelling k in
      let s = spelling t in
      let r = entries_spelling es in
      let next = at + length key in
      let following = inside_next b x key (s ++ r) y is in
      let f = further x key at e in
      told_first b key (s ++ r) (text_token at k) (tokens_of next t ++ entries_tokens (next + length s) es) (string_is_told b x k (((s ++ r) ++ y)) at 3 e (inside_first b x key (s ++ r) y is))
      (told_both b s r (tokens_of next t) (entries_tokens (next + length s) es) (tree_told b (x ++ key) (r ++ y) next t f (inside_first b (x ++ key) s r y following)) (entries_told b ((x ++ key) ++ s) y (next + length s) es (further (x ++ key) s next f) (inside_next b (x ++ key) s r y following)))

pub tape_tells_block : TapeTellsBlock
tape_tells_block t = tree_told (spelling t) [] [] 0 t refl (sym (append-nil (spelling t)))
