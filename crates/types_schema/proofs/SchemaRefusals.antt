-- What calls promise in addition to the law, from what the calls below them promise.
use Rattle.std.proofs.Common.{◌≡◌, ℕ, ◌-◌, List, refl, arith, sym, ap, subst, ◌∙◌, inl, inr, Result, Ok, Err, IsErrAnd, codes}
use Rattle.dagcbor_heads.specs.Looking.{Looks}
use Rattle.dagcbor_core.specs.declared.error.DecodeError.{DecodeError}
use Rattle.dagcbor_core.specs.declared.error.DecodeError.TheVariants.{LengthMismatch}
use Rattle.dagcbor_items.specs.AnsweredVariants.{OfText}
use Rattle.dagcbor_items.specs.LeafReads.{ReadsStr}
use Rattle.dagcbor_decode.specs.declared.kind.Kind.{Kind}
use Rattle.dagcbor_read.specs.Accessors.{AccessorState, EndsItems, LeavesUnread, with_key, with_value}
use Rattle.dagcbor_read.specs.Deserializers.{DeState, Call}
use Rattle.dagcbor_read.specs.EnumViews.{EnumShape, part_of}
use Rattle.dagcbor_read.specs.Parts.{ReadsStringOnce, IsPartsRefusal}
use Rattle.dagcbor_read.specs.Values.{ReadsValue}
use Rattle.dagcbor_read.proofs.Handing.{item_past, text_past}
use Rattle.dagcbor_read.proofs.Progressing.{call_told}
use Rattle.types_schema.specs.declared.by_kind.ByKind.{ByKind}
use Rattle.types_schema.specs.SchemaAnswers.{PeeksOnce, AnswersOfKind, AnswersByKind, RefusesNamedKey, RefusesContent, RefusesTagged, RefusesTag, RefusesEnvelope}
use Rattle.types_schema.proofs.EnvelopeFronts.{AtFirstKey, AtTold, AtSecondKey, AtHeld}

-- the refusal that `?` passes on
pub told_as : {T E : Type 0} (Q : DecodeError E → Type 0) (r : Result T (DecodeError E)) (e : DecodeError E) → IsErrAnd r (λ y. y ≡ e) → Q e → IsErrAnd r Q
told_as Q (Ok x) e h q = absurd h
told_as Q (Err y) e h q = subst (λ x. Q x) (sym h) q

-- ---- a value told by its kind

module _ {E B I T Y L M K : Type 0} (of_bool : DeState → Result B (DecodeError E) → DeState → Type 0) (of_integer : DeState → Result I (DecodeError E) → DeState → Type 0) (of_text : DeState → Result T (DecodeError E) → DeState → Type 0)
    (of_bytes : DeState → Result Y (DecodeError E) → DeState → Type 0) (of_list : DeState → Result L (DecodeError E) → DeState → Type 0) (of_map : DeState → Result M (DecodeError E) → DeState → Type 0) (of_link : DeState → Result K (DecodeError E) → DeState → Type 0)
  where
    -- the type for this kind returned the result
    pub kind_answered : (old mid new : DeState) {found kind : Kind} (r : Result (ByKind B I T Y L M K) (DecodeError E)) → found ≡ kind → PeeksOnce {E = E} old (Ok found) mid → AnswersOfKind of_bool of_integer of_text of_bytes of_list of_map of_link kind mid r new
        → AnswersByKind of_bool of_integer of_text of_bytes of_list of_map of_link old r new
    kind_answered old mid new {found} {kind} r is p a = inr (kind, mid, subst (λ k. PeeksOnce {E = E} old (Ok k) mid) is p, a)

-- ---- an envelope

module _ {V E : Type 0} (tag content : List ℕ) (shape : EnumShape V) (refuses : DeState → DecodeError E → DeState → Type 0) where
  abbrev Refused : DeState → DecodeError E → DeState → Type 0
  Refused = RefusesEnvelope tag content refuses

  pub tag_told : {old mid new : DeState} {entries : AccessorState} {e : DecodeError E} → AtFirstKey tag content shape old entries mid → RefusesNamedKey tag entries.last entries.left mid e new → Refused old e new
  tag_told {old} {mid} {new} {entries} {e} s r = inr (s.accessor, mid, s.sound, s.begun, inl (subst (λ (c : AccessorState). RefusesNamedKey tag c.last c.left mid e new) (sym s.is) r))

  -- what is after the tag's key, after the tag, and after the content's key
  at_tag : {old now new : DeState} {entries : AccessorState} {e : DecodeError E} (s : AtTold tag content shape old entries now) → RefusesTag tag content refuses s.before now e new → Refused old e new
  at_tag {old} {now} {new} {entries} {e} s r =
      let first = s.begun in
      inr (first.accessor, s.mid, first.sound, first.begun, inr (now, text_past s.sound s.key, subst (λ c. RefusesTag tag content refuses c now e new) (sym first.is) r))

  at_tagged : {name : List ℕ} {old now new : DeState} {entries : AccessorState} {e : DecodeError E} (s : AtSecondKey tag content shape name old entries now) → RefusesTagged tag content refuses s.begun.before now e new → Refused old e new
  at_tagged {name} {old} {now} s r = at_tag s.begun (inr (now, item_past refl s.sound s.told, r))

  at_content : {name : List ℕ} {old now new : DeState} {entries : AccessorState} {e : DecodeError E} (s : AtHeld tag content shape name old entries now) → RefusesContent refuses s.begun.begun.before now e new → Refused old e new
  at_content {name} {old} {now} s r = at_tagged s.begun (inr (now, text_past s.sound s.key, r))

  pub name_told : {old mid new : DeState} {entries : AccessorState} {e : DecodeError E} → AtTold tag content shape old entries mid → IsPartsRefusal (ReadsStringOnce 3 (ReadsStr (codes "string")) (Looks 3) OfText) mid e new → Refused old e new
  name_told s r = at_tag s (inl r)

  pub content_told : {name : List ℕ} {old mid new : DeState} {entries : AccessorState} {e : DecodeError E} → AtSecondKey tag content shape name old entries mid → RefusesNamedKey content entries.last entries.left mid e new → Refused old e new
  content_told {name} {old} {mid} {new} {entries} {e} s r =
      let is : entries ≡ with_value (with_key tag s.begun.before) = s.after ∙ ap with_value s.begun.after in
      let named = subst (λ (c : AccessorState). RefusesNamedKey content c.last c.left mid e new) is r in
      at_tagged s (inl named)

  pub held_told : {name : List ℕ} {old mid new : DeState} {entries : AccessorState} {e : DecodeError E} → AtHeld tag content shape name old entries mid → refuses mid e new → Refused old e new
  held_told s r = at_content s (inl r)

  -- what an accessor leaves unread is the same for one that read two keys
  two_read : (c : AccessorState) (e : DecodeError E) → LeavesUnread (with_value (with_key content (with_value (with_key tag c)))) e → LeavesUnread (record c { left = c.left - 2 }) e
  two_read c (LengthMismatch name expect value) h = (h.0, omega (arith, h.1), h.2)
  two_read c _ h = absurd h

  pub unread_told : {T : Type 0} {name text' : List ℕ} {old mid now new : DeState} {entries : AccessorState} (meaning : T → V) (v : T) (end : AccessorState) (e : DecodeError E) → AtHeld tag content shape name old entries mid
      → ReadsValue {E = E} meaning (part_of shape text') mid (Ok v) now → end ≡ with_value entries → Call (EndsItems end) now (Err e) new → Refused old e new
  unread_told {T} {name} {text'} {old} {mid} {now} {new} {entries} meaning v end e s r after h =
      let k = r s.sound in
      let q = call_told (EndsItems end) now new (Err e) k.0 h in
      let first = s.begun.begun.before in
      let is : end ≡ with_value (with_key content (with_value (with_key tag first))) =
      after ∙ ap with_value (s.after ∙ ap (λ c. with_key content c) (s.begun.after ∙ ap with_value s.begun.begun.after)) in
      let u = subst (λ (c : AccessorState). EndsItems c now.input (Err e) new.input) is q.1 in
      at_content s (inr (now, item_past refl k.0 k.1, (q.0, (omega (arith, u.0), two_read first e u.1, u.2))))
