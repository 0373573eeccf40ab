-- Sections that are taken one by one.
use Rattle.std.proofs.Common.{ℕ, List, [], ◌∷◌, ◌++◌, append_assoc, append-nil, refl, sym, subst, Option, Ok, Err}
use Rattle.dagcbor_heads.specs.Reading.{Reading}
use Rattle.files_car.specs.Car.{Section}
use Rattle.files_car.specs.Sources.{TakesSectionBytes, LacksMemoryIf}
use Rattle.files_car.specs.declared.error.CarError.{CarError}
use Rattle.files_car.specs.declared.error.CarError.TheVariants.{OutOfMemory}
use Rattle.files_car.specs.Each.{SinkTakes, TakesEach}

pub each_begun : {S Stop : Type 0} (takes : SinkTakes S Stop) (extent : Option ℕ) (source : Reading) (old : S) → TakesEach takes extent source old [] extent source old
each_begun takes extent source old = (refl, refl, refl)

pub each_more : {S Stop : Type 0} (takes : SinkTakes S Stop) (ss : List Section) (s : Section) (extent rest more : Option ℕ) (source mid following : Reading) (old it new : S) → TakesEach takes extent source old ss rest mid it → TakesSectionBytes rest mid s more following → takes s it (Ok tt) new
    → TakesEach takes extent source old (ss ++ s ∷ []) more following new
each_more takes [] s extent rest more source mid following old it new h t k =
    (more, following, new, subst (λ e. TakesSectionBytes e source s more following) h.0 (subst (λ r. TakesSectionBytes rest r s more following) h.1 t), subst (λ o. takes s o (Ok tt) new) h.2 k, (refl, refl, refl))
each_more takes (x ∷ ss) s extent rest more source mid following old it new h t k =
    (h.0, h.1, h.2, h.3, h.4, each_more takes ss s h.0 rest more h.1 mid following h.2 it new h.5 t k)

-- A property that holds before the first section, and is kept by each, holds after the last.
pub each_along : {S Stop : Type 0} (takes : SinkTakes S Stop) (Holds : List Section → Option ℕ → Reading → S → Type 0)
    → ((ss : List Section) (s : Section) (extent more : Option ℕ) (source following : Reading) (old new : S) → Holds ss extent source old → TakesSectionBytes extent source s more following → takes s old (Ok tt) new → Holds (ss ++ s ∷ []) more following new)
    → (before ss : List Section) (extent rest : Option ℕ) (source mid : Reading) (old new : S) → Holds before extent source old → TakesEach takes extent source old ss rest mid new → Holds (before ++ ss) rest mid new
each_along takes Holds step before [] extent rest source mid old new h t =
    subst (λ e. Holds (before ++ []) e mid new) (sym t.0)
    (subst (λ m. Holds (before ++ []) extent m new) (sym t.1)
    (subst (Holds (before ++ []) extent source) (sym t.2)
    (subst (λ ss. Holds ss extent source old) (sym (append-nil before)) h)))
each_along takes Holds step before (s ∷ ss) extent rest source mid old new h t =
    subst (λ all. Holds all rest mid new) (append_assoc before (s ∷ []) ss)
    (each_along takes Holds step (before ++ s ∷ []) ss t.0 rest t.1 mid t.2 new (step before s extent t.0 source t.1 old t.2 h t.3 t.4) t.5)

pub lacks_alike : {E : Type 0} (T P : Type 0) (e : CarError E) → LacksMemoryIf {T = T} P (Err e) → LacksMemoryIf {T = Unit {0}} P (Err e)
lacks_alike T P OutOfMemory l = l
lacks_alike T P e l = tt
