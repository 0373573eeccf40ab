-- What a write of a tree's spelling says.
use Rattle.std.proofs.Common.{◌≡◌, ℕ, ◌^◌, ◌<◌, List, [], refl, sym, ap, subst, ◌∙◌, Option, None, Some, Result, Ok, Err, Vec, Global, cond, lt-ltb, ◌⊎◌, inl, inr, IfSome, IsErrAnd, IfOk, IfErr, OnOk}
use Rattle.std.specs.Io.KnownBytes.{Appends}
use Rattle.std.specs.declared.convert.Infallible.{Infallible}
use Rattle.dagcbor_core.specs.declared.error.EncodeError.{EncodeError}
use Rattle.dagcbor_core.specs.declared.error.EncodeError.TheVariants.{Msg, Write, OutOfMemory}
use Rattle.dagcbor_core.specs.Head.{head}
use Rattle.dagcbor_core.specs.declared.name.Message.{Message}
use Rattle.dagcbor_core.specs.Appends.{AppendsSome}
use Rattle.dagcbor_heads.specs.Written.{Written, Writes, Stops, WroteFront}
use Rattle.ipld_tree.specs.Tree.{Tree, IsTree}
use Rattle.ipld_tree.specs.Spelling.{IsSpellable, IsSpelling, spelling}
use Rattle.ipld_tree.specs.Spelled.{spelled, spelled_tree, spelled_head}
use Rattle.ipld_tree.proofs.Spelled.{spelled_is}
use Rattle.dagcbor_write.specs.Answers.{HasNoSpelling, AreSpellingOf, GrewBySpelling, GrewByFront, IsWriteExcuse}

-- a tree with a spelling is refused with no message
no_message : (t : Tree) → IsSpellable t → spelled t ≡ None → ⊥
no_message t h e = let differ : Some (spelling t) ≡ None = sym ((spelled_is t (spelling t)).1 (h, refl)) ∙ e in cc

pub head_is_spelled : (major n : ℕ) → n < 2 ^ 64 → spelled_head major n ≡ Some (head major n)
head_is_spelled major n h = ap (λ b. cond b (Some (head major n)) None) (lt-ltb n (2 ^ 64) h)

-- ---- what is returned

-- a writer to memory that was empty holds the spelling
abbrev in_memory : List ℕ → Written
in_memory bs = record { bytes = Some bs; faults = 0; through = [] }

pub spelling_answered : (o : Option Tree) (held : List ℕ) (v : Vec ℕ Global) → IfSome o IsTree → v.items ≡ held → Writes {T = Unit {0}} {E = Infallible} (spelled_tree o) (in_memory []) (in_memory held) (Ok tt) → AreSpellingOf o v.items
spelling_answered None held v tree is w = absurd w
spelling_answered (Some t) held v tree is w = by (spelled t) refl w
  where
    by : (o : Option (List ℕ)) → spelled t ≡ o → Writes {T = Unit {0}} {E = Infallible} o (in_memory []) (in_memory held) (Ok tt) → IsSpelling v.items t
    by None e w = absurd w
    by (Some s) e w = let k = (spelled_is t s).0 e in record { well_formed = tree; spellable = k.0; is = is ∙ w.0 ∙ k.1 }

-- why no vector is returned
abbrev NotAnswered : Option Tree → EncodeError Infallible → Type 0
NotAnswered o e = (e ≡ OutOfMemory) ⊎ HasNoSpelling o

pub refusal_answered : (o : Option Tree) (r : Result (Vec ℕ Global) (EncodeError Infallible)) (e : EncodeError Infallible) (old new : List ℕ) → IsErrAnd r (λ d. d ≡ e)
    → Stops (spelled_tree o) (in_memory old) (in_memory new) e → IfErr r (NotAnswered o)
refusal_answered o (Ok v) e old new h s = absurd h
refusal_answered o (Err d) e old new h s = subst (NotAnswered o) (sym h) (by o e s)
  where
    by : (o : Option Tree) (e : EncodeError Infallible) → Stops (spelled_tree o) (in_memory old) (in_memory new) e → NotAnswered o e
    by None (Msg m) s = inr tt
    by (Some t) (Msg m) s = inr (λ k. no_message t k s.0)
    by o (Write x) s = elim x [ ]
    by o OutOfMemory s = inl refl

-- ---- what is sent

spelling_sent : (o : Option Tree) (before after : Option (List ℕ)) (text : List ℕ) → IfSome o IsTree → spelled_tree o ≡ Some text → Appends before after text
    → GrewBySpelling o before after
spelling_sent None before after text tree e a = let differ : None ≡ Some text = e in cc
spelling_sent (Some t) before after text tree e a = let k = (spelled_is t text).0 e in (text, record { well_formed = tree; spellable = k.0; is = k.1 }, a)

grown : (text : Option (List ℕ)) (old new : Written) → WroteFront text old new → AppendsSome old.bytes new.bytes
grown None old new w = w
grown (Some text) old new w = (w.0, w.3)

front_sent : (o : Option Tree) (old new : Written) → WroteFront (spelled_tree o) old new → GrewByFront o old.bytes new.bytes
front_sent None old new w = (w, tt)
front_sent (Some t) old new w = (grown (spelled t) old new w, λ k. subst (λ s. WroteFront s old new) ((spelled_is t (spelling t)).1 (k, refl)) w)

module _ (E : Type 0) (o : Option Tree) where
  -- a message is returned if there is no spelling; some bytes may have been written before
  message_front : (old new : Written) (m : Message) → Stops {E = E} (spelled_tree o) old new (Msg m) → GrewByFront o old.bytes new.bytes
  message_front old new m w = by o w
    where
      by : (o : Option Tree) → Stops {E = E} (spelled_tree o) old new (Msg m) → GrewByFront o old.bytes new.bytes
      by None w = (w.1, tt)
      by (Some t) w = (w.1, λ k. absurd (no_message t k w.0))

  -- why it refused
  pub device_refused : (r : Result (Unit {0}) (EncodeError E)) (old new : Written) → Writes (spelled_tree o) old new r → IfErr r (λ e. IsWriteExcuse e ⊎ HasNoSpelling o)
  device_refused r old new w = by r w
    where
      by : (r : Result (Unit {0}) (EncodeError E)) → Writes (spelled_tree o) old new r → IfErr r (λ e. IsWriteExcuse e ⊎ HasNoSpelling o)
      by (Ok u) w = tt
      by (Err (Msg m)) w = inr (none o w)
        where
          none : (o : Option Tree) → Stops {E = E} (spelled_tree o) old new (Msg m) → HasNoSpelling o
          none None w = tt
          none (Some t) w = λ k. no_message t k w.0
      by (Err (Write e)) w = inl tt
      by (Err OutOfMemory) w = inl tt

  -- A writer over a device that held the bytes before, and holds those after: its result,
  module _ (r : Result (Unit {0}) (EncodeError E)) (old new : Written) (before after : Option (List ℕ)) (was : old.bytes ≡ before) (is : new.bytes ≡ after) where
    pub value_sent : OnOk r (IfSome o IsTree) → Writes (spelled_tree o) old new r → IfOk r (λ _. GrewBySpelling o before after)
    value_sent tree w = subst (λ b. IfOk r (λ _. GrewBySpelling o before b)) is (subst (λ b. IfOk r (λ _. GrewBySpelling o b new.bytes)) was (by r tree w))
      where
        whole : (s : Option (List ℕ)) → IfSome o IsTree → spelled_tree o ≡ s → Writes {T = Unit {0}} {E = E} s old new (Ok tt) → GrewBySpelling o old.bytes new.bytes
        whole None tree e k = absurd k
        whole (Some text) tree e k = spelling_sent o old.bytes new.bytes text tree e k.0

        by : (r : Result (Unit {0}) (EncodeError E)) → OnOk r (IfSome o IsTree) → Writes (spelled_tree o) old new r → IfOk r (λ _. GrewBySpelling o old.bytes new.bytes)
        by (Ok u) tree w = whole (spelled_tree o) tree refl w
        by (Err e) tree w = tt

    -- and what was written before a refusal.
    pub front_before : Writes (spelled_tree o) old new r → IfErr r (λ _. GrewByFront o before after)
    front_before w = subst (λ b. IfErr r (λ _. GrewByFront o before b)) is (subst (λ b. IfErr r (λ _. GrewByFront o b new.bytes)) was (by r w))
      where
        by : (r : Result (Unit {0}) (EncodeError E)) → Writes (spelled_tree o) old new r → IfErr r (λ _. GrewByFront o old.bytes new.bytes)
        by (Ok u) w = tt
        by (Err (Msg m)) w = message_front old new m w
        by (Err (Write e)) w = front_sent o old new w.0
        by (Err OutOfMemory) w = front_sent o old new w.0
