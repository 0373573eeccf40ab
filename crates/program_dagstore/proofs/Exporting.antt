-- How CAR files of a store are written.
use Rattle.std.proofs.Common.{◌≡◌, inl, inr, ℕ, List, [], ◌∷◌, Bool, true, false, refl, sym, ap, ◌∙◌, subst, ◌↔◌, IsTrue, Option, None, Some, Result, Ok, Err, flat_map}
use Rattle.std.specs.Io.KnownBytes.{Appends}
use Rattle.sqlite_trees.specs.declared.store.Store.{Ghosts}
use Rattle.dagcbor_core.specs.Appends.{AppendsFront}
use Rattle.dagcbor_heads.specs.Written.{Written}
use Rattle.dagcbor_core.specs.declared.error.EncodeError.TheVariants as unsent
use Rattle.ipld_tree.specs.Cid.{CidParts}
use Rattle.files_car.specs.Car.{car_bytes}
use Rattle.program_shared.specs.declared.fault.ToolError.TheVariants.{Input, Output, OutOfMemory}
use Rattle.program_parts.specs.Lines.{missing_line}
use Rattle.store_on_disk.specs.Walking.{AreBlocks, WritesFile, WriteRefused}
use Rattle.store_on_disk.specs.Trees.{WritesTree, TreeRefused}
use Rattle.store_on_disk.specs.declared.car_error.WriteCarError.{WriteCarError}
use Rattle.store_on_disk.specs.declared.car_error.WriteCarError.TheVariants as car
use Rattle.store_on_disk.specs.declared.car_error.WriteTreeError.TheVariants as tree
use Rattle.program_dagstore.specs.Files.{fault_of, Exports}
use Rattle.program_dagstore.specs.Lines.{no_block_line}
use Rattle.program_dagstore.specs.Trees.{SendsStoredTree, TreeFails, SaysTree, TellsText}
use Rattle.program_dagstore.specs.declared.fault.Fault.{Fault}

no_text : (t : List ℕ) → Some t ≡ None → ⊥
no_text t h = cc

pub not_input : Output ≡ Input → ⊥
not_input h = cc

pub wants_not_input : OutOfMemory ≡ Input → ⊥
wants_not_input h = cc

module _ (w x : Written) (before after : Option (List ℕ)) (b : w.bytes ≡ before) (a : x.bytes ≡ after) where
  appends_as : (t : List ℕ) → Appends w.bytes x.bytes t → Appends before after t
  appends_as t h = subst (λ o. Appends o after t) b (subst (λ o. Appends w.bytes o t) a h)

  front_as : (t : List ℕ) → AppendsFront w.bytes x.bytes t → AppendsFront before after t
  front_as t h = (h.0, h.1, h.2, appends_as h.0 h.3)

  module _ {S : Type 0} (g : Ghosts S) (old new : S) where
    pub exported : (roots : List (List ℕ)) → WritesFile g roots AreBlocks old w x new → Exports g roots old before (Ok true) new after
    exported roots k = (refl, record { sections = k.sections; named = k.named; is_car = k.is_car; sent = appends_as (car_bytes roots k.sections) k.wrote.0; are_so = k.are_so })

    pub not_exported : {E : Type 0} (roots : List (List ℕ)) (e : WriteCarError E) → WriteRefused g roots old w e x new → Exports g roots old before (Err (fault_of e)) new after
    not_exported roots (car.Write (unsent.Write f)) k = (not_input, record { sections = k.sections; named = k.named; sent = front_as (car_bytes roots k.sections) k.stops.0; are_so = k.are_so })
    not_exported roots (car.Write unsent.OutOfMemory) k = (wants_not_input, record { sections = k.sections; named = k.named; sent = front_as (car_bytes roots k.sections) k.stops.0; are_so = k.are_so })
    not_exported roots (car.Write (unsent.Msg m)) k = absurd (no_text (car_bytes roots k.sections) k.stops.0)
    not_exported roots (car.Store told) k = (record { sections = k.0.sections; named = k.0.named; sent = appends_as (car_bytes roots k.0.sections) k.0.wrote.0; are_so = k.0.are_so }, k.1)

    none_of : (lost : List CidParts) → (well : Bool) × (IsTrue well ↔ (lost ≡ []))
    none_of [] = (true, ((λ h. refl), (λ h. refl)))
    none_of (c ∷ lost) = (false, ((λ h. cc), (λ h. cc)))

    pub tree_said : (root : CidParts) (lost d : List CidParts) (heard said : Option (List ℕ)) (r : Result Bool Fault) → d ≡ lost → WritesTree g root old w lost x new → TellsText (flat_map missing_line d) (λ well. IsTrue well ↔ (d ≡ [])) heard r said → SaysTree g root old before heard r new after said
    tree_said root lost d heard said (Ok well) is k t = (flat_map missing_line d, inl (d, sends, refl, t.0), t.1)
      where
        sends : SendsStoredTree g root old before d new after
        sends = subst (λ l. SendsStoredTree g root old before l new after) (sym is) (record { sections = k.sections; named = k.named; is_car = k.is_car; sent = appends_as _ k.wrote.0; are_so = k.are_so })
    tree_said root lost d heard said (Err e) is k t = subst (λ f. TreeFails g root old before heard f new after said) (sym t.1) (t.2, inr (record { well = n.0; told = flat_map missing_line d; tells = inl (d, sends, refl, n.1); front = t.3 }))
      where
        sends : SendsStoredTree g root old before d new after
        sends = subst (λ l. SendsStoredTree g root old before l new after) (sym is) (record { sections = k.sections; named = k.named; is_car = k.is_car; sent = appends_as _ k.wrote.0; are_so = k.are_so })

        n : (well : Bool) × (IsTrue well ↔ (d ≡ []))
        n = none_of d

    pub tree_nothing : (E : Type 0) (root : CidParts) (heard said : Option (List ℕ)) (r : Result Bool Fault) → TreeRefused {E = E} g root old w tree.NotStored x new → TellsText no_block_line (λ well. well ≡ false) heard r said → SaysTree g root old before heard r new after said
    tree_nothing E root heard said (Ok well) k t = (no_block_line, inr ((sym a ∙ ap (λ (y : Written). y.bytes) k.0 ∙ b, k.1), refl, t.0), t.1)
    tree_nothing E root heard said (Err e) k t = subst (λ f. TreeFails g root old before heard f new after said) (sym t.1) (t.2, inr (record { well = false; told = no_block_line; tells = inr ((sym a ∙ ap (λ (y : Written). y.bytes) k.0 ∙ b, k.1), refl, refl); front = t.3 }))

    pub tree_unwritten : {E : Type 0} (root : CidParts) (heard : Option (List ℕ)) (e : WriteCarError E) → TreeRefused g root old w (tree.Unwritten e) x new → SaysTree g root old before heard (Err (fault_of e)) new after heard
    tree_unwritten root heard (car.Write (unsent.Write f)) k = (not_input, inl (refl, record { sections = k.sections; named = k.named; sent = front_as _ k.stops.0; are_so = k.are_so }))
    tree_unwritten root heard (car.Write unsent.OutOfMemory) k = (wants_not_input, inl (refl, record { sections = k.sections; named = k.named; sent = front_as _ k.stops.0; are_so = k.are_so }))
    tree_unwritten root heard (car.Write (unsent.Msg m)) k = absurd (no_text _ k.stops.0)
    tree_unwritten root heard (car.Store told) k = (
      refl,
      k.0,
      elim k.1 [
        | inl none ↦ inl (sym a ∙ ap (λ (y : Written). y.bytes) none ∙ b)
        | inr some ↦ inr (record { sections = some.sections; named = some.named; sent = appends_as _ some.wrote.0; are_so = some.are_so })
      ],
    )
