-- Requests that are answered one after the other.
use Rattle.std.proofs.Common.{◌≡◌, ℕ, List, [], ◌∷◌, ◌++◌, append-nil, refl, sym, ap, ◌∙◌, subst, Option}
use Rattle.std.proofs.KnownBytes.{Appends-trans}
use Rattle.std.proofs.lemmas.Grind.{flat_map-append}
use Rattle.std.specs.Io.KnownBytes.{Appends}
use Rattle.sqlite_trees.specs.declared.store.Store.{Ghosts}
use Rattle.program_serve.specs.Replies.{reply_text}
use Rattle.program_serve.specs.Answers.{Replies, Leaves}
use Rattle.program_serve.specs.declared.asked.Request.{Request}
use Rattle.program_serve.specs.declared.reply.Reply.{Reply}
use Rattle.program_serve.specs.declared.heard.Heard.TheVariants as heards
use Rattle.program_serve.specs.Serving.{Exchange, Exchanges, AreExchanged, answers, Hears}

pub answers_next : (held sent now : Option (List ℕ)) (xs : List Exchange) (x : Exchange) → Appends held sent (answers xs) → Appends sent now (reply_text x.reply) → Appends held now (answers (xs ++ x ∷ []))
answers_next held sent now xs x first next =
    let is : answers (xs ++ x ∷ []) ≡ answers xs ++ reply_text x.reply = flat_map-append (λ (y : Exchange). reply_text y.reply) xs (x ∷ []) ∙ ap (λ (t : List ℕ). answers xs ++ t) (append-nil (reply_text x.reply)) in
    subst (λ (t : List ℕ). Appends held now t) (sym is) (Appends-trans held sent now (answers xs) (reply_text x.reply) first next)

-- a text is written if a prefix of it is, and nothing follows the prefix
pub whole_sent : (held now : Option (List ℕ)) (front back text : List ℕ) → text ≡ front ++ back → back ≡ [] → Appends held now front → Appends held now text
whole_sent held now front back text is none sent = subst (λ (t : List ℕ). Appends held now t) (sym (is ∙ ap (λ (t : List ℕ). front ++ t) none ∙ append-nil front)) sent

module _ {S : Type 0} (g : Ghosts S) where
  pub exchanged_one : (request : Request) (block shown : List ℕ) (reply : Reply) (before after : Option (List ℕ)) (old new : S) → shown ≡ block → Hears (heards.Request request) block before after → Replies g request shown old reply new → Leaves g request shown old new
      → Exchanges g (record { request = request; block = block; reply = reply }) before old after new
  exchanged_one request block shown reply before after old new same heard replies leaves = record {
    text = heard.0;
    asked = heard.1;
    taken = heard.2;
    replies = subst (λ (t : List ℕ). Replies g request t old reply new) same replies;
    leaves = subst (λ (t : List ℕ). Leaves g request t old new) same leaves;
  }

  pub exchanged_next : (xs : List Exchange) (x : Exchange) (before left after : Option (List ℕ)) (old now new : S) → AreExchanged g xs before old left now → Exchanges g x left now after new → AreExchanged g (xs ++ x ∷ []) before old after new
  exchanged_next [] x before left after old now new h e = (after, new, subst (λ (l : Option (List ℕ)). Exchanges g x l old after new) h.0 (subst (λ (s : S). Exchanges g x left s after new) h.1 e), (refl, refl))
  exchanged_next (y ∷ ys) x before left after old now new h e = (h.0, h.1, h.2, exchanged_next ys x h.0 left after h.1 now new h.3 e)
