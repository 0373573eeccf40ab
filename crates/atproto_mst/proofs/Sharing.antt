-- The changes between two trees, if shared subtrees are left out.
use Rattle.std.proofs.Common.{◌≡◌, inl, inr, List, [], ◌∷◌, ◌++◌, map, sym, ◌∙◌, subst, Result, Ok, Err, Vec, IfOk}
use Rattle.std.specs.declared.alloc.Global.{Global}
use Rattle.ipld_tree.specs.Cid.{CidParts}
use Rattle.ipld_links.specs.Reaching.{Stored}
use Rattle.atproto_mst.specs.Keys.{Entry, Rise}
use Rattle.atproto_mst.specs.Trees.{nodes_of}
use Rattle.atproto_mst.specs.Entries.{IsMst}
use Rattle.atproto_mst.specs.Walks.{most_layers}
use Rattle.atproto_mst.specs.Stops.{MstRefused}
use Rattle.atproto_mst.specs.Changes.{Changed, changes, AreChanges}
use Rattle.atproto_mst.specs.Levels.{LevelItem, an_entry, a_link, IsOfShape}
use Rattle.atproto_mst.specs.Differing.{IsRootOfEntries, NamesBind, AreChangesOf, DiffRefused}
use Rattle.atproto_mst.specs.declared.diffs.Change.{Change}
use Rattle.atproto_mst.specs.declared.error.MstError.{MstError}
use Rattle.atproto_mst.specs.declared.error.MstError.TheVariants as error
use Rattle.atproto_mst.proofs.Agreeing.{walks_agree, one_walk}
use Rattle.atproto_mst.proofs.Canonical.{mst_walked}
use Rattle.atproto_mst.proofs.Descending.{Steps, Tells, tells_trees, tells_below, told}
use Rattle.atproto_mst.proofs.Leading.{BothLed, DiffStops, both_begin, lacks_none, held, first_held, second_held, held_agrees, stored_bind}
use Rattle.atproto_mst.proofs.Merging.{no_changes}

-- ---- the walk

-- for any entries that have these roots, the levels have all changes
abbrev pub TellsOf : Stored → CidParts → CidParts → List LevelItem → List LevelItem → Type 0
TellsOf stored old new xs ys = (es fs : List Entry) → IsRootOfEntries old es → IsRootOfEntries new fs → NamesBind stored (nodes_of es ++ nodes_of fs)
    → Tells (held (nodes_of es ++ nodes_of fs)) es fs xs ys

module _ (stored : Stored) (old new : CidParts) (xs ys : List LevelItem) where
  pub led_begins : xs ≡ a_link old ∷ [] → ys ≡ a_link new ∷ [] → BothLed 1 stored old new xs ys
  led_begins is_old is_new = subst (λ l. BothLed 1 stored old new l ys) (sym is_old) (subst (λ l. BothLed 1 stored old new (a_link old ∷ []) l) (sym is_new) (both_begin stored old new))

  pub telling_begins : xs ≡ a_link old ∷ [] → ys ≡ a_link new ∷ [] → TellsOf stored old new xs ys
  telling_begins is_old is_new es fs h k bind =
      let nodes = nodes_of es ++ nodes_of fs in
      subst (λ l. Tells (held nodes) es fs l ys) (sym is_old) (subst (λ l. Tells (held nodes) es fs (a_link old ∷ []) l) (sym is_new)
      (tells_trees (held nodes) es fs old new (most_layers, mst_walked (held nodes) old es (first_held stored es fs bind old h))
      (most_layers, mst_walked (held nodes) new fs (second_held stored es fs bind new k)) h.0.rise k.0.rise))

  pub telling_goes_on : (below beside : List LevelItem) → Steps stored xs ys below beside → TellsOf stored old new xs ys → TellsOf stored old new below beside
  telling_goes_on below beside s t es fs h k bind =
      tells_below stored (held (nodes_of es ++ nodes_of fs)) (held_agrees stored es fs bind) es fs xs ys below beside s (t es fs h k bind)

  pub telling_ends : (es_left fs_left : List Entry) (cs : List Changed) → TellsOf stored old new xs ys → xs ≡ map an_entry es_left → ys ≡ map an_entry fs_left
      → (Rise es_left → Rise fs_left → AreChanges es_left fs_left cs) → AreChangesOf stored old new cs
  telling_ends es_left fs_left cs t is_old is_new h es fs k l bind =
      told (held (nodes_of es ++ nodes_of fs)) es fs es_left fs_left xs ys (t es fs k l bind) is_old is_new cs h

-- ---- equal roots, and trees that are read whole

pub none_of_equal : (stored : Stored) (old new : CidParts) → old ≡ new → AreChangesOf stored old new []
none_of_equal stored old new is es fs h k bind =
    let nodes = nodes_of es ++ nodes_of fs in
    let first = mst_walked (held nodes) old es (first_held stored es fs bind old h) in
    let second = mst_walked (held nodes) old fs (second_held stored es fs bind old (k.0, is ∙ k.1)) in
    subst (λ gs. AreChanges es gs []) (one_walk (held nodes) most_layers most_layers old es fs first second) (no_changes es)

-- entries that are stored under a root are those that it is of
module _ (stored : Stored) (es fs : List Entry) (bind : NamesBind stored (nodes_of es ++ nodes_of fs)) where
  same_entries : (root : CidParts) (gs hs : List Entry) → IsMst stored root gs → IsMst (held (nodes_of es ++ nodes_of fs)) root hs → gs ≡ hs
  same_entries root gs hs h k =
      elim (walks_agree ⊥ stored (held (nodes_of es ++ nodes_of fs)) (λ name p q at there. inl (held_agrees stored es fs bind name p q at there)) most_layers most_layers root gs hs
      (mst_walked stored root gs h) (mst_walked (held (nodes_of es ++ nodes_of fs)) root hs k)) [
        | inl same ↦ same
        | inr x ↦ absurd x
      ]

pub stored_changes : (stored : Stored) (old new : CidParts) (gs hs : List Entry) (cs : List Changed) → IsMst stored old gs → IsMst stored new hs → AreChanges gs hs cs → AreChangesOf stored old new cs
stored_changes stored old new gs hs cs g h a es fs k l bind =
    subst (λ x. AreChanges x fs cs) (same_entries stored es fs bind old gs es g (first_held stored es fs bind old k))
    (subst (λ x. AreChanges gs x cs) (same_entries stored es fs bind new hs fs h (second_held stored es fs bind new l)) a)

pub read_whole : (stored : Stored) (old new : CidParts) (r : Result (Vec Change Global) MstError)
    → IfOk r (λ v. (es fs : List Entry) × IsMst stored old es × IsMst stored new fs × AreChanges es fs (changes v.items)) → IfOk r (λ v. AreChangesOf stored old new (changes v.items))
read_whole stored old new (Ok v) (gs, hs, g, h, a) = stored_changes stored old new gs hs (changes v.items) g h a
read_whole stored old new (Err e) h = tt

-- of trees that are stored whole these are the changes
pub changes_of_stored : (stored : Stored) (old new : CidParts) (cs : List Changed) → AreChangesOf stored old new cs → (es fs : List Entry) → IsMst stored old es → IsMst stored new fs → AreChanges es fs cs
changes_of_stored stored old new cs a es fs h k = a es fs (h.valid, h.root_is) (k.valid, k.root_is) (stored_bind stored es fs h.all k.all)

-- ---- refusals

module _ (stored : Stored) (old new : CidParts) (e : MstError) (no_shape : ¬ IsOfShape e) where
  pub diff_stopped : DiffStops stored old new e → DiffRefused stored old new e
  diff_stopped (inl memory) = inr (inl (subst (MstRefused stored old) (sym memory.0) memory.1))
  diff_stopped (inr (inl shape)) = absurd (no_shape shape)
  diff_stopped (inr (inr lacks)) = inl lacks

  pub stopped_for_memory : DiffStops stored old new e → (es fs : List Entry) → IsMst stored old es → IsMst stored new fs → e ≡ error.OutOfMemory
  stopped_for_memory (inl memory) es fs h k = memory.0
  stopped_for_memory (inr (inl shape)) es fs h k = absurd (no_shape shape)
  stopped_for_memory (inr (inr (inl lacks))) es fs h k = absurd (lacks_none stored old es e h lacks)
  stopped_for_memory (inr (inr (inr lacks))) es fs h k = absurd (lacks_none stored new fs e k lacks.1)
