-- Keeping blocks, and finding them again.
use Rattle.std.proofs.Common.{◌≡◌, inl, inr, ℕ, ◌<◌, ◌≤◌, List, [], ◌∷◌, map, Bool, true, false, cond, Ordering, Less, Equal, Greater, refl, sym, ap, ◌∙◌, subst, arith, ◌⊎◌, Option, None, Some, option_map, Result, Ok, Err, OnOk, OnErr, Vec, Global, BTreeMap}
use Rattle.std.specs.declared.convert.Infallible.{Infallible}
use Rattle.std.specs.Ordering.{match_ordering}
use Rattle.std.specs.List.{AllByRecursion}
use Rattle.std.specs.Map.{lookup}
use Rattle.std.specs.BTreeMap.{is_at, insert_entry, get, Updates}
use mathlib.Core.List.{is_set as List-set}
use Rattle.std.proofs.Math.Nat.{ℕ_set}
use Rattle.std.proofs.Math.Logic.{∥∥₁_elim, ∥∥₁_map}
use Rattle.sha2.specs.Sha256.{sha256}
use Rattle.serde_ipld_dagcbor.specs.DecodeError.{DecodeError}
use Rattle.serde_ipld_dagcbor.specs.DecodeError.TheVariants as unread
use Rattle.serde_ipld_dagcbor.specs.Cid.{CidParts, AreCidParts, cid_cmp}
use Rattle.serde_ipld_dagcbor.specs.CidHash.{same_cid, is_equal}
use Rattle.serde_ipld_dagcbor.specs.Tree.{Tree, any_need, links_of}
use Rattle.serde_ipld_dagcbor.specs.Spelling.{IsSpelling}
use Rattle.serde_ipld_dagcbor.specs.Answers.{AreSpellingOf}
use Rattle.serde_ipld_dagcbor.specs.Shapes.{Shape}
use Rattle.serde_ipld_dagcbor.specs.Whole.{HoldsNoValue, OfWhole, LacksMemoryIf}
use Rattle.serde_ipld_dagcbor.specs.GrammarLaws.{SpellingsAreUnique}
use Rattle.ipld_links.specs.Names.{block_name}
use Rattle.dagcbor_decode.specs.Blocks.{AreFirstLinks}
use Rattle.dagcbor_decode.specs.Decode.{decode_first}
use Rattle.dagcbor_decode.specs.Verdicts.{AnswersLinks}
use Rattle.dagcbor_decode.proofs.FirstLinks.{links_not_refused, told_of_none}
use Rattle.dagcbor_blocks.specs.Errors.{TellsOfDecoding}
use Rattle.ipld_links.specs.Sound.{IsSound}
use Rattle.ipld_links.proofs.Sounding.{sound_own}
use Rattle.dagcbor_blocks.specs.Sound.{IsSoundEntry}
use Rattle.dagcbor_blocks.specs.Blocks.{Held, block_at, HoldsAlso, HoldsOther, ExceedsSteps, Puts, HoldsRead, NotReadAs}
use Rattle.ipld_links.specs.Sets.{Among}
use Rattle.ipld_links.specs.Blocks.{HasBlock}
use Rattle.dagcbor_blocks.specs.Steps.{HasTree, DepthRefused, StoresBlock}
use Rattle.dagcbor_blocks.proofs.Unique.{front_unique, whole_front}
use Rattle.ipld_links.proofs.Members.{same_at}
use Rattle.dagcbor_blocks.specs.declared.error.BlockError.{BlockError}
use Rattle.dagcbor_blocks.specs.declared.error.BlockError.TheVariants.{Encode, Decode, Collision, OutOfMemory, OtherCodec}
use Rattle.serde_ipld_dagcbor.specs.Steps.{default_steps}

abbrev pub BlockEntry : Type 0
BlockEntry = CidParts × Vec ℕ Global

abbrev pub shown : List BlockEntry → Held
shown es = map (λ e. (e.0, e.1.items)) es

abbrev pub items_of_vec : Vec ℕ Global → List ℕ
items_of_vec v = v.items

-- ---- look-ups

pub block_at_shown : (name : CidParts) (es : List BlockEntry) → block_at name (shown es) ≡ option_map items_of_vec (lookup (is_at (cid_cmp name)) es)
block_at_shown name [] = refl
block_at_shown name (e ∷ es) = by (is_at (cid_cmp name) e.0) _ _ (block_at_shown name es)
  where
    by : (b : Bool) (x : Option (List ℕ)) (y : Option (Vec ℕ Global)) → x ≡ option_map items_of_vec y → cond b (Some e.1.items) x ≡ option_map items_of_vec (cond b (Some e.1) y)
    by true x y h = refl
    by false x y h = h

pub block_found : (name : CidParts) (es : List BlockEntry) (v : Vec ℕ Global) → lookup (is_at (cid_cmp name)) es ≡ Some v → block_at name (shown es) ≡ Some v.items
block_found name es v e = block_at_shown name es ∙ ap (option_map items_of_vec) e

pub no_block_found : (name : CidParts) (es : List BlockEntry) → lookup (is_at (cid_cmp name)) es ≡ None → block_at name (shown es) ≡ None
no_block_found name es e = block_at_shown name es ∙ ap (option_map items_of_vec) e

same_name : (name k : CidParts) → is_at (cid_cmp name) k ≡ true → name ≡ k
same_name name k h = same_cid name k (is_equal (cid_cmp name k) h)

pub found_named : (name : CidParts) (es : List BlockEntry) (v : Vec ℕ Global) → lookup (is_at (cid_cmp name)) es ≡ Some v → AllByRecursion IsSoundEntry es → name.digest ≡ sha256 v.items
found_named name [] v e h = absurd (cc e)
found_named name (x ∷ es) v e h = by (is_at (cid_cmp name) x.0) refl e (λ l. found_named name es v l h.1)
  where
    by : (b : Bool) → is_at (cid_cmp name) x.0 ≡ b → cond b (Some x.1) (lookup (is_at (cid_cmp name)) es) ≡ Some v → (lookup (is_at (cid_cmp name)) es ≡ Some v → name.digest ≡ sha256 v.items) → name.digest ≡ sha256 v.items
    by true t l f = let same : x.1 ≡ v = cc l in ap (λ (c : CidParts). c.digest) (same_name name x.0 t) ∙ h.0.sound.digest ∙ ap (λ (w : Vec ℕ Global). sha256 w.items) same
    by false t l f = f l

pub digest_of_found : (name : CidParts) (es : List BlockEntry) (v : Vec ℕ Global) → lookup (is_at (cid_cmp name)) es ≡ Some v → ∥ AllByRecursion IsSoundEntry es ∥₁ → name.digest ≡ sha256 v.items
digest_of_found name es v e h = ∥∥₁_elim h (List-set ℕ_set _ _) (λ s. found_named name es v e s)

-- ---- storing

pub sound_inserted : (es : List BlockEntry) (k : CidParts) (v : Vec ℕ Global) → AllByRecursion IsSoundEntry es → IsSoundEntry (k, v) → AllByRecursion IsSoundEntry (insert_entry cid_cmp es k v)
sound_inserted [] k v h s = (s, tt)
sound_inserted (e ∷ es) k v h s = by (cid_cmp k e.0) refl (sound_inserted es k v h.1 s)
  where
    by : (o : Ordering) → cid_cmp k e.0 ≡ o → AllByRecursion IsSoundEntry (insert_entry cid_cmp es k v) → AllByRecursion IsSoundEntry (match_ordering o ((k, v) ∷ e ∷ es) ((e.0, v) ∷ es) (e ∷ insert_entry cid_cmp es k v))
    by Less x r = (s, h)
    by Equal x r = (subst (λ n. IsSoundEntry (n, v)) (same_cid k e.0 x) s, h.1)
    by Greater x r = (h.0, r)

-- whether the call took the entry or not
pub still_sound : {X Y : Type 0} (r : Result X Y) (es fs : List BlockEntry) (k : CidParts) (v : Vec ℕ Global) → OnOk r (fs ≡ insert_entry cid_cmp es k v) → OnErr r (fs ≡ es) → AreCidParts k → IsSound (k, v.items)
    → ∥ AllByRecursion IsSoundEntry es ∥₁ → ∥ AllByRecursion IsSoundEntry fs ∥₁
still_sound (Ok x) es fs k v put same valid sound h = ∥∥₁_map h (λ s. subst (AllByRecursion IsSoundEntry) (sym put) (sound_inserted es k v s record { valid = valid; sound = sound }))
still_sound (Err y) es fs k v put same valid sound h = ∥∥₁_map h (λ s. subst (AllByRecursion IsSoundEntry) (sym same) s)

-- a block that is already stored
pub held_already : (name : CidParts) (blocks : Held) (b : List ℕ) → block_at name blocks ≡ Some b → HoldsAlso blocks ((name, b) ∷ []) blocks
held_already name blocks b e q c = (inr, back)
  where
    back : Among {X = CidParts × List ℕ} (q, c) ((name, b) ∷ []) ⊎ (block_at q blocks ≡ Some c) → block_at q blocks ≡ Some c
    back (inl (inl same)) = ap (λ (p : CidParts × List ℕ). block_at p.0 blocks) same ∙ e ∙ ap (λ (p : CidParts × List ℕ). Some p.1) (sym same)
    back (inl (inr m)) = absurd m
    back (inr o) = o

-- the bytes are stored under the name; under other names nothing changes
abbrev PutsUnder : CidParts → List ℕ → Held → Held → Type 0
PutsUnder name b old new = (q : CidParts) → block_at q new ≡ cond (is_at (cid_cmp name) q) (Some b) (block_at q old)

held_since : (name : CidParts) (b : List ℕ) (old new : Held) → PutsUnder name b old new → block_at name old ≡ None → HoldsAlso old ((name, b) ∷ []) new
held_since name b old new put free q c = (λ e. there (is_at (cid_cmp name) q) refl (sym (put q) ∙ e), λ m. put q ∙ back m)
  where
    there : (t : Bool) → is_at (cid_cmp name) q ≡ t → cond t (Some b) (block_at q old) ≡ Some c → Among {X = CidParts × List ℕ} (q, c) ((name, b) ∷ []) ⊎ (block_at q old ≡ Some c)
    there true t e = let same : b ≡ c = cc e in inl (inl (λ i. (sym (same_name name q t) i, sym same i)))
    there false t e = inr e

    kept : (t : Bool) → is_at (cid_cmp name) q ≡ t → block_at q old ≡ Some c → cond t (Some b) (block_at q old) ≡ Some c
    kept true t o = let clash : None ≡ Some c = sym free ∙ ap (λ n. block_at n old) (same_name name q t) ∙ o in absurd (cc clash)
    kept false t o = o

    back : Among {X = CidParts × List ℕ} (q, c) ((name, b) ∷ []) ⊎ (block_at q old ≡ Some c) → cond (is_at (cid_cmp name) q) (Some b) (block_at q old) ≡ Some c
    back (inl (inl same)) = ap (λ t. cond t (Some b) (block_at q old)) (same_at name q (ap (λ (p : CidParts × List ℕ). p.0) (sym same))) ∙ ap (λ (p : CidParts × List ℕ). Some p.1) (sym same)
    back (inl (inr m)) = absurd m
    back (inr o) = kept (is_at (cid_cmp name) q) refl o

pub now_held : (m n : BTreeMap CidParts (Vec ℕ Global)) (name : CidParts) (v : Vec ℕ Global) → get cid_cmp m name ≡ None → Updates cid_cmp m n name (Some v) → HoldsAlso (shown m.entries) ((name, v.items) ∷ []) (shown n.entries)
now_held m n name v free put = held_since name v.items (shown m.entries) (shown n.entries) puts (no_block_found name m.entries free)
  where
    by : (q : CidParts) (b : Bool) → option_map items_of_vec (cond b (Some v) (get cid_cmp m q)) ≡ cond b (Some v.items) (option_map items_of_vec (get cid_cmp m q))
    by q true = refl
    by q false = refl

    puts : PutsUnder name v.items (shown m.entries) (shown n.entries)
    puts q = block_at_shown q n.entries ∙ ap (option_map items_of_vec) (put.0 q) ∙ by q (is_at (cid_cmp name) q) ∙ ap (λ o. cond (is_at (cid_cmp name) q) (Some v.items) o) (sym (block_at_shown q m.entries))

-- ---- checking

pub check_holds : SpellingsAreUnique → (b : List ℕ) (links : List (List ℕ)) → HasTree b → AreFirstLinks b links → HasBlock b
check_holds law b links has h = let u = front_unique law b [] h.1 has.0 h.0 (whole_front has.1) h.2 in (has.0, (has.1, subst (λ t. any_need t ≤ 256) (sym u.0) h.3))

need_of : (b : List ℕ) (t : Tree) → IsSpelling b t → ((links : List (List ℕ)) → AreFirstLinks b links → ⊥) → 256 < any_need t
need_of b t h n = by_contradiction
  where
    by_contradiction : 256 < any_need t
    by_contradiction = omega (arith, λ (le : any_need t ≤ 256). n (links_of t) (t, [], whole_front h, le, refl))

exceeds : (b : List ℕ) (e : DecodeError Infallible) → AnswersLinks (decode_first b) (Err e) → (e ≡ unread.OutOfMemory → ⊥) → (t : Tree) → IsSpelling b t → ExceedsSteps e t
exceeds b e r other t s = (need_of b t s (λ links. links_not_refused b e links r other), other, subst (λ x. AnswersLinks (decode_first x) (Err e)) s.is r)

pub not_checked : (b : List ℕ) (e : DecodeError Infallible) (told : BlockError) → AnswersLinks (decode_first b) (Err e) → TellsOfDecoding e told → DepthRefused b told
not_checked b (unread.Read e) told r h = elim e [ ]
not_checked b unread.OutOfMemory told r h = subst (DepthRefused b) (sym h) tt
not_checked b (unread.RequireBorrowed n) told r h = absurd (told_of_none {E = Infallible} (decode_first b) (unread.RequireBorrowed n) refl r)
not_checked b unread.Failed told r h = absurd (told_of_none {E = Infallible} (decode_first b) unread.Failed refl r)
not_checked b _ told r h = subst (DepthRefused b) (sym h) (exceeds b _ r (λ same. cc))

-- ---- putting

pub put_done : SpellingsAreUnique → (tree : Option Tree) (v : Vec ℕ Global) (name : CidParts) (old new : Held) (r : Result CidParts BlockError) → AreSpellingOf tree v.items → HasBlock v.items → name ≡ block_name v.items → StoresBlock name v.items old r new → Puts tree old r new
put_done law None v name old new r a has named h = absurd a
put_done law (Some t) v name old new (Ok n) a has named h =
    let u = front_unique law v.items [] [] has.0 t (whole_front has.1.0) (whole_front a) in (
      (record { well_formed = a.well_formed; spellable = a.spellable; is = refl }, subst (λ x. any_need x ≤ 256) u.0 has.1.1),
      h.0 ∙ named ∙ ap block_name a.is,
      subst (λ b. HoldsAlso old ((n, b) ∷ []) new) a.is (subst (λ m. HoldsAlso old ((m, v.items) ∷ []) new) (sym h.0) h.1),
    )
put_done law (Some t) v name old new (Err (Encode e)) a has named h = absurd h.1
put_done law (Some t) v name old new (Err (Decode e)) a has named h = absurd h.1
put_done law (Some t) v name old new (Err Collision) a has named h = (h.0, subst (λ b. HoldsOther (block_name b) b old) a.is (subst (λ m. HoldsOther m v.items old) named h.1))
put_done law (Some t) v name old new (Err OutOfMemory) a has named h = (h.0, tt)
put_done law (Some t) v name old new (Err OtherCodec) a has named h = absurd h.1

-- ---- getting

module _ {V : Type 0} (shape : Shape Tree V) where
  pub not_got : (name : CidParts) (blocks : Held) (b : List ℕ) (e : DecodeError Infallible) (told : BlockError) → HoldsRead name b blocks → ((e ≡ unread.OutOfMemory) ⊎ HoldsNoValue shape default_steps b) × OfWhole e × LacksMemoryIf (shape.memory true) e → TellsOfDecoding e told → NotReadAs shape name blocks told
  not_got name blocks b (unread.Read e) told at r h = elim e [ ]
  not_got name blocks b unread.OutOfMemory told at r h = subst (NotReadAs shape name blocks) (sym h) ((b, at), r.2)
  not_got name blocks b (unread.RequireBorrowed n) told at r h = absurd r.1
  not_got name blocks b unread.Failed told at r h = absurd r.1
  not_got name blocks b _ told at r h = elim r.0 [ inl k ↦ absurd (cc k) | inr k ↦ subst (NotReadAs shape name blocks) (sym h) (tt, (b, at, k)) ]

-- a block of DAG-CBOR is sound under its own name
pub sound_named : (name : CidParts) (b : List ℕ) → name ≡ block_name b → HasBlock b → IsSound (name, b)
sound_named name b named has = subst (λ n. IsSound (n, b)) (sym named) (sound_own b has)
