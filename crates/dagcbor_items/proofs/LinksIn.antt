-- Links that are whole in bytes, in their order.
use Rattle.std.proofs.Common.{◌≡◌, ℕ, List, [], ◌∷◌, ◌++◌, refl, sym, ap, ◌∙◌, subst, append_assoc}
use Rattle.dagcbor_core.specs.Head.{head}
use Rattle.ipld_tree.specs.Tree.{Tree, list, mapping, link, Items, no_items, item, Entries, no_entries, entry, links_of, items_links, entries_links}
use Rattle.ipld_tree.specs.Spelling.{item_count, entry_count, text_spelling, spelling, items_spelling, entries_spelling, IsFront, AreFronts, AreEntryFronts}
use Rattle.ipld_tree.proofs.Fronts.{item_opened, entry_opened}
use Rattle.dagcbor_items.specs.Walks.{AreLinksIn}

-- bytes before those that contain them change nothing
pub links_after : (x b c : List ℕ) (ls : List (List ℕ)) → b ≡ x ++ c → AreLinksIn c ls → AreLinksIn b ls
links_after x b c [] e h = tt
links_after x b c (l ∷ ls) e h = (x ++ h.0, h.1, h.2, e ∙ ap (λ y. x ++ y) h.3 ∙ sym (append_assoc x h.0 h.1), h.4, h.5)

-- the links of what is at the front, and then those of the rest
mutual
  pub item_links_in : (t : Tree) (b rest : List ℕ) (ls : List (List ℕ)) → IsFront b t rest → AreLinksIn rest ls → AreLinksIn b (links_of t ++ ls)
  item_links_in (list ts) b rest ls f h =
      links_after (head 4 (item_count ts)) b (items_spelling ts ++ rest) (items_links ts ++ ls) (f.is ∙ append_assoc (head 4 (item_count ts)) (items_spelling ts) rest)
      (items_links_in ts (items_spelling ts ++ rest) rest ls record { well_formed = f.well_formed; spellable = f.spellable.1; is = refl } h)
  item_links_in (mapping es) b rest ls f h =
      links_after (head 5 (entry_count es)) b (entries_spelling es ++ rest) (entries_links es ++ ls) (f.is ∙ append_assoc (head 5 (entry_count es)) (entries_spelling es) rest)
      (entries_links_in es (entries_spelling es ++ rest) rest ls record { well_formed = f.well_formed; spellable = f.spellable.1; is = refl } h)
  item_links_in (link cid) b rest ls f h = ([], b, rest, refl, f, h)
  item_links_in t b rest ls f h = links_after (spelling t) b rest ls f.is h

  pub items_links_in : (ts : Items) (b rest : List ℕ) (ls : List (List ℕ)) → AreFronts b ts rest → AreLinksIn rest ls → AreLinksIn b (items_links ts ++ ls)
  items_links_in no_items b rest ls f h = subst (λ x. AreLinksIn x ls) (sym f.is) h
  items_links_in (item t ts) b rest ls f h =
      let o = item_opened b rest t ts f in
      subst (AreLinksIn b) (sym (append_assoc (links_of t) (items_links ts) ls)) (item_links_in t b _ (items_links ts ++ ls) o.0 (items_links_in ts _ rest ls o.1 h))

  pub entries_links_in : (es : Entries) (b rest : List ℕ) (ls : List (List ℕ)) → AreEntryFronts b es rest → AreLinksIn rest ls → AreLinksIn b (entries_links es ++ ls)
  entries_links_in no_entries b rest ls f h = subst (λ x. AreLinksIn x ls) (sym f.is) h
  entries_links_in (entry k t es) b rest ls f h =
      let o = entry_opened b rest k t es f in
      links_after (text_spelling k) b o.0 ((links_of t ++ entries_links es) ++ ls) o.1.is
      (subst (AreLinksIn o.0) (sym (append_assoc (links_of t) (entries_links es) ls)) (item_links_in t o.0 _ (entries_links es ++ ls) o.2 (entries_links_in es _ rest ls o.4 h)))
