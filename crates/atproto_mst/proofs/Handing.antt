-- What was handed over, one part after the other.
use Rattle.std.proofs.Common.{◌≡◌, List, [], ◌∷◌, ◌++◌, refl, sym, ap, ◌∙◌, subst, inl, inr}
use Rattle.std.proofs.lemmas.List.{append_assoc}
use Rattle.files_car.specs.Car.{Section}
use Rattle.ipld_links.specs.Sets.{Among}
use Rattle.atproto_mst.specs.declared.error.MstError.{MstError}
use Rattle.atproto_mst.specs.Sinks.{HandsOver, HandsOverFirst, RefusesOne}

append_none : (xs : List Section) → xs ++ [] ≡ xs
append_none [] = refl
append_none (x ∷ xs) = ap (λ t. x ∷ t) (append_none xs)

pub takes_none : {S W : Type 0} (holds : S → W → List Section → Type 0) (s : S) → HandsOver holds s [] s
takes_none holds s world before h = subst (λ xs. holds s world xs) (sym (append_none before)) h

pub takes_then : {S W : Type 0} (holds : S → W → List Section → Type 0) (old mid new : S) (a b : List Section) → HandsOver holds old a mid → HandsOver holds mid b new → HandsOver holds old (a ++ b) new
takes_then holds old mid new a b h k world before x =
    subst (λ xs. holds new world xs) (append_assoc before a b) (k world (before ++ a) (h world before x))

among_left : (s : Section) (a b : List Section) → Among s a → Among s (a ++ b)
among_left s (x ∷ xs) b (inl e) = inl e
among_left s (x ∷ xs) b (inr h) = inr (among_left s xs b h)
among_left s [] b h = absurd h

among_right : (s : Section) (a b : List Section) → Among s b → Among s (a ++ b)
among_right s [] b h = h
among_right s (x ∷ xs) b h = inr (among_right s xs b h)

pub among_mid : (s : Section) (a b d all : List Section) → a ++ (b ++ d) ≡ all → Among s b → Among s all
among_mid s a b d all e h = subst (λ xs. Among s xs) e (among_right s a (b ++ d) (among_left s b d h))

pub refuses_within : {S W : Type 0} (holds : S → W → List Section → Type 0) (refuses : W → Section → MstError → Type 0) (old mid : S) (a b d all : List Section) (e : MstError)
    → HandsOver holds old a mid → a ++ (b ++ d) ≡ all → RefusesOne holds refuses mid b e → RefusesOne holds refuses old all e
refuses_within holds refuses old mid a b d all e h same k world before x = elim (k world (before ++ a) (h world before x)) [
  | inl m ↦ inl m
  | inr r ↦ inr (r.0, among_mid r.0 a b d all same r.1, r.2)
]

-- the first of a part, after another part
pub first_within : {S W : Type 0} (holds : S → W → List Section → Type 0) (old mid new : S) (a b d all : List Section)
    → HandsOver holds old a mid → a ++ (b ++ d) ≡ all → HandsOverFirst holds mid b new → HandsOverFirst holds old all new
first_within holds old mid new a b d all h same k = (
  a ++ k.0,
  k.1 ++ d,
  sym same ∙ ap (λ x. a ++ (x ++ d)) k.2 ∙ ap (λ x. a ++ x) (append_assoc k.0 k.1 d) ∙ sym (append_assoc a k.0 (k.1 ++ d)),
  takes_then holds old mid new a k.0 h k.3,
)
