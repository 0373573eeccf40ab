-- A text is read in one way.
use Rattle.std.proofs.Common.{◌≡◌, inl, inr, ℕ, List, [], ◌∷◌, Bool, true, false, sym, ap, ◌∙◌, subst, Result, Ok, Err, MatchResult, MatchBool}
use Rattle.json.specs.Token.{Token}
use Rattle.json.specs.Lex.{tokens}
use Rattle.json.specs.Json as json
use Rattle.json.specs.Json.{Json, Members, no_members, member}
use Rattle.ipld_tree.specs.Cid.{CidParts, cid_bytes}
use Rattle.ipld_tree.specs.Tree.{Tree, items_of, list, mapping, link, has_key, ordered_entries}
use Rattle.text_cid.proofs.Texting.{one_cid}
use Rattle.text_cid.proofs.TextFaults.{one_of_text}
use Rattle.text_dag_json.specs.Reading.{Read, read_map, has_slash, document_of, within_steps, ReadsLinkText, ReadsBytes, ReadsReservedKey, ReadsSlashed, ReadsReserved, ReadsData, ReadsElements, ReadsMembers, ReadsTokens, ReadsJson}
use Rattle.text_dag_json.specs.declared.error.DagJsonError.TheVariants.{NoCid}
use Rattle.text_dag_json.proofs.Slots.{KeyAndTree}

link_once : (s : List ℕ) (r q : Read Tree) → ReadsLinkText s r → ReadsLinkText s q → r ≡ q
link_once s (Ok t) (Ok u) h k = ap Ok (h.2 ∙ ap (λ (c : CidParts). link (cid_bytes c)) (one_cid s h.0 k.0 h.1 k.1) ∙ sym k.2)
link_once s (Ok t) (Err f) h k = absurd (k.2 h.0 h.1)
link_once s (Err e) (Ok u) h k = absurd (h.2 k.0 k.1)
link_once s (Err e) (Err f) h k = ap Err (h.1 ∙ ap NoCid (one_of_text s h.0 k.0 h.3 k.3) ∙ sym k.1)

named_once : (k : List ℕ) (j : Json) (r q : Read Tree) → ReadsReservedKey k j r → ReadsReservedKey k j q → r ≡ q
named_once k json.null r q h g = h ∙ sym g
named_once k _ r q h g = h ∙ sym g

bytes_once : (ms : Members) (r q : Read Tree) → ReadsBytes ms r → ReadsBytes ms q → r ≡ q
bytes_once no_members r q h g = h ∙ sym g
bytes_once (member k j no_members) r q h g = named_once k j r q h g
bytes_once (member k j (member l i ms)) r q h g = h ∙ sym g

slashed_once : (j : Json) (r q : Read Tree) → ReadsSlashed j r → ReadsSlashed j q → r ≡ q
slashed_once json.null r q h g = h ∙ sym g
slashed_once (json.boolean b) r q h g = h ∙ sym g
slashed_once (json.number s) r q h g = h ∙ sym g
slashed_once (json.string s) r q h g = link_once s r q h g
slashed_once (json.array js) r q h g = h ∙ sym g
slashed_once (json.object ms) r q h g = bytes_once ms r q h g

reserved_once : (ms : Members) (r q : Read Tree) → ReadsReserved ms r → ReadsReserved ms q → r ≡ q
reserved_once no_members r q h g = h ∙ sym g
reserved_once (member k j no_members) r q h g = slashed_once j r q h g
reserved_once (member k j (member l i ms)) r q h g = h ∙ sym g

either : (b : Bool) {P P' Q Q' X : Type 0} → MatchBool b P Q → MatchBool b P' Q' → (P → P' → X) → (Q → Q' → X) → X
either true h g f e = f h g
either false h g f e = e h g

outcome : {A E X : Type 0} (first : Result A E) {P P' : A → Type 0} {Q Q' : E → Type 0} → MatchResult first P Q → MatchResult first P' Q' → ((a : A) → P a → P' a → X) → ((e : E) → Q e → Q' e → X) → X
outcome (Ok a) h g f e = f a h g
outcome (Err x) h g f e = e x h g

mutual
  data_once : (j : Json) (r q : Read Tree) → ReadsData j r → ReadsData j q → r ≡ q
  data_once json.null r q h g = h ∙ sym g
  data_once (json.boolean b) r q h g = h ∙ sym g
  data_once (json.number s) r q h g = h ∙ sym g
  data_once (json.string s) r q h g = h ∙ sym g
  data_once (json.array js) r q h g = h.2 ∙ ap (read_map (λ found. list (items_of found))) (items_once js h.0 g.0 h.1 g.1) ∙ sym g.2
  data_once (json.object ms) r q h g = either (has_slash ms) h g (reserved_once ms r q)
      (λ x y. x.2 ∙ ap (read_map (λ found. mapping (ordered_entries found))) (members_once [] ms x.0 y.0 x.1 y.1) ∙ sym y.2)

  items_once : (js : json.Items) (r q : Read (List Tree)) → ReadsElements js r → ReadsElements js q → r ≡ q
  items_once json.no_items r q h g = h ∙ sym g
  items_once (json.item j js) r q h g =
      outcome h.0 h.2 (subst (λ first. MatchResult first (λ t. (more : Read (List Tree)) × ReadsElements js more × (q ≡ read_map (λ ts. t ∷ ts) more)) (λ e. q ≡ Err e)) (sym (data_once j h.0 g.0 h.1 g.1)) g.2)
      (λ t x y. x.2 ∙ ap (read_map (λ ts. t ∷ ts)) (items_once js x.0 y.0 x.1 y.1) ∙ sym y.2)
      (λ e x y. x ∙ sym y)

  members_once : (seen : List KeyAndTree) (ms : Members) (r q : Read (List KeyAndTree)) → ReadsMembers seen ms r → ReadsMembers seen ms q → r ≡ q
  members_once seen no_members r q h g = h ∙ sym g
  members_once seen (member k j ms) r q h g = either (has_key k seen) h g (λ x y. x ∙ sym y)
      (λ x y. outcome x.0 x.2 (subst (λ first. MatchResult first (λ t. ReadsMembers ((k, t) ∷ seen) ms q) (λ e. q ≡ Err e)) (sym (data_once j x.0 y.0 x.1 y.1)) y.2)
      (λ t v w. members_once ((k, t) ∷ seen) ms r q v w) (λ e v w. v ∙ sym w))

tokens_once : (ts : List Token) (r q : Read Tree) → ReadsTokens ts r → ReadsTokens ts q → r ≡ q
tokens_once ts r q h g = outcome (document_of ts) h g (λ j x y. x.2 ∙ ap within_steps (data_once j x.0 y.0 x.1 y.1) ∙ sym y.2) (λ e x y. x ∙ sym y)

pub text_once : (s : List ℕ) (r q : Read Tree) → ReadsJson s r → ReadsJson s q → r ≡ q
text_once s r q (inl h) (inl g) = h.1 ∙ sym g.1
text_once s r q (inl h) (inr g) = absurd (h.0 g.0)
text_once s r q (inr h) (inl g) = absurd (g.0 h.0)
text_once s r q (inr h) (inr g) = tokens_once (tokens s) r q h.1 g.1
