-- The names on the way of a path.
use Rattle.std.proofs.Common.{◌≡◌, ◌↔◌, ◌⊎◌, inl, inr, ℕ, ◌+◌, ◌<◌, List, [], ◌∷◌, ◌++◌, length, get_or, take, refl, sym, ap, ap₂, ◌∙◌, subst, append_assoc, add-one, take-suc}
use Rattle.ipld_tree.specs.Cid.{CidParts}
use Rattle.ipld_links.specs.Sets.{Among, members, AddsCid}
use Rattle.ipld_links.specs.Reaching.{Stored, NoneTwice}
use Rattle.ipld_links.specs.declared.cid_set.CidSet.{CidSet}
use Rattle.ipld_links.proofs.Members.{among_push, push_among}
use Rattle.ipld_paths.specs.Resolving.{LeadsOn, GoesOver, AreOnTheWay, AreOnceEach}

-- ---- the way

-- the path went over these names, and goes on from this one with these segments left
abbrev pub WentTo : Stored → CidParts → List (List ℕ) → List CidParts → CidParts → List (List ℕ) → Type 0
WentTo stored root path names name left = (more : List CidParts) → GoesOver stored name left more
    → AreOnTheWay stored root path (names ++ name ∷ more)

pub went_nowhere : (stored : Stored) (root : CidParts) (path : List (List ℕ)) → WentTo stored root path [] root path
went_nowhere stored root path more over = (more, refl, over)

pub went_on : (stored : Stored) (root name next : CidParts) (path left following : List (List ℕ)) (names after : List CidParts) → WentTo stored root path names name left → after ≡ names ++ name ∷ [] → LeadsOn stored name left next following → WentTo stored root path after next following
went_on stored root name next path left following names after went is g more over =
    subst (AreOnTheWay stored root path) (sym (append_assoc names (name ∷ []) (next ∷ more)) ∙ ap (λ ns. ns ++ next ∷ more) (sym is)) (went (next ∷ more) (following, g, over))

pub went_to_end : (stored : Stored) (root name : CidParts) (path left : List (List ℕ)) (names after : List CidParts) → WentTo stored root path names name left → after ≡ names ++ name ∷ [] → GoesOver stored name left [] → AreOnTheWay stored root path after
went_to_end stored root name path left names after went is over = subst (AreOnTheWay stored root path) (sym is) (went [] over)

-- ---- each once

-- each of these names was gathered once, and all were seen
pub record Gathered (done once : List CidParts) (seen : CidSet) : Type 0 where
  pub all : AreOnceEach done once
  pub known : (q : CidParts) → Among q (members seen) ↔ Among q done

-- a member of a list with one more at its end is that one, or was in the list before
last_or_before : (done before following : List CidParts) (name q : CidParts) → done ++ name ∷ [] ≡ before ++ q ∷ following
    → ((done ≡ before) × (name ≡ q)) ⊎ ((less : List CidParts) × (done ≡ before ++ q ∷ less))
last_or_before [] [] following name q is = let e : name ≡ q = cc is in inl (refl, e)
last_or_before [] (b ∷ []) following name q is = absurd (cc is)
last_or_before [] (b ∷ x ∷ before) following name q is = absurd (cc is)
last_or_before (d ∷ done) [] following name q is = let e : d ≡ q = cc is in inr (done, ap (λ x. x ∷ done) e)
last_or_before (d ∷ done) (b ∷ before) following name q is =
    let first : d ≡ b = cc is in
    let more : done ++ name ∷ [] ≡ before ++ q ∷ following = cc is in
    elim (last_or_before done before following name q more) [
      | inl same ↦ inl (ap₂ (λ x xs. x ∷ xs) first same.0, same.1)
      | inr less ↦ inr (less.0, ap₂ (λ x xs. x ∷ xs) first less.1)
    ]

once_push : {X : Type 0} (xs : List X) (y : X) → NoneTwice xs → (Among y xs → ⊥) → NoneTwice (xs ++ y ∷ [])
once_push [] y h none = (λ m. m, tt)
once_push (x ∷ xs) y h none = (
  λ m. elim (among_push x xs y m) [ inl n ↦ h.0 n | inr e ↦ none (inl (sym e)) ],
  once_push xs y h.1 (λ m. none (inr m)),
)

pub gathered_before : (done once : List CidParts) (seen : CidSet) (name : CidParts) → Among name (members seen) → Gathered done once seen → Gathered (done ++ name ∷ []) once seen
gathered_before done once seen name m h =
    let among = (h.known name).0 m in
    record {
      all = record {
        lists = record {
          all = λ q. (
            λ k. push_among q done name (inl ((h.all.lists.all q).0 k)),
            λ k. (h.all.lists.all q).1 (elim (among_push q done name k) [ inl a ↦ a | inr e ↦ subst (λ x. Among x done) (sym e) among ]),
          );
          once = h.all.lists.once;
        };
        order = λ before following q is fresh. elim (last_or_before done before following name q is) [
          | inl same ↦ absurd (fresh (subst (Among q) same.0 (subst (λ x. Among x done) same.1 among)))
          | inr less ↦ h.all.order before less.0 q less.1 fresh
        ];
      };
      known = λ q. (
        λ k. push_among q done name (inl ((h.known q).0 k)),
        λ k. (h.known q).1 (elim (among_push q done name k) [ inl a ↦ a | inr e ↦ subst (λ x. Among x done) (sym e) among ]),
      );
    }

pub gathered_new : (done once after : List CidParts) (seen now : CidSet) (name : CidParts) → ¬ Among name (members seen) → AddsCid name seen now → after ≡ once ++ name ∷ [] → Gathered done once seen → Gathered (done ++ name ∷ []) after now
gathered_new done once after seen now name fresh adds is h = subst (λ ns. Gathered (done ++ name ∷ []) ns now) (sym is) record {
  all = record {
    lists = record {
      all = λ q. (
        λ k. push_among q done name (elim (among_push q once name k) [ inl a ↦ inl ((h.all.lists.all q).0 a) | inr e ↦ inr e ]),
        λ k. push_among q once name (elim (among_push q done name k) [ inl a ↦ inl ((h.all.lists.all q).1 a) | inr e ↦ inr e ]),
      );
      once = once_push once name h.all.lists.once (λ m. fresh ((h.known name).1 ((h.all.lists.all name).0 m)));
    };
    order = λ before following q at first. elim (last_or_before done before following name q at) [
      | inl same ↦ (once, [], ap (λ x. once ++ x ∷ []) same.1, λ r. subst (λ l. Among r once ↔ Among r l) same.0 (h.all.lists.all r))
      | inr less ↦
          let k = h.all.order before less.0 q less.1 first in
          (k.0, k.1 ++ name ∷ [], ap (λ l. l ++ name ∷ []) k.2 ∙ append_assoc k.0 (q ∷ k.1) (name ∷ []), k.3)
    ];
  };
  known = λ q. (
    λ k. push_among q done name (elim ((adds.1 q).0 k) [ inl a ↦ inl ((h.known q).0 a) | inr e ↦ inr e ]),
    λ k. (adds.1 q).1 (elim (among_push q done name k) [ inl a ↦ inl ((h.known q).1 a) | inr e ↦ inr e ]),
  );
}

pub next_taken : (names : List CidParts) (i : ℕ) (name : CidParts) → i < length names → name ≡ get_or names i name → take i names ++ name ∷ [] ≡ take (i + 1) names
next_taken names i name within is = ap (λ y. take i names ++ y ∷ []) is ∙ sym (take-suc names i name within) ∙ ap (λ n. take n names) (sym (add-one i))
