-- The parts of a data model, read one after the other.
use Rattle.std.proofs.Common.{◌≡◌, ◌≢◌, ℕ, pos, ◌+◌, ◌^◌, ◌<◌, List, [], ◌∷◌, ◌++◌, length, Option, None, Some, MatchOption, refl, sym, ap, ◌∙◌, subst, arith, append_assoc, codes, option_map, IsUtf8}
use Rattle.dagcbor_core.specs.Head.{head}
use Rattle.dagcbor_core.specs.Splits.{SplitsHead}
use Rattle.ipld_tree.specs.Cid.{CidParts, AreCidParts, IsCid, cid_bytes}
use Rattle.ipld_tree.specs.Tree.{Tree, integer, text, bytes, link, mapping, Entries, no_entries, entry, entries_of, Precedes}
use Rattle.ipld_tree.specs.Spelling.{IsFront, AreEntryFronts, entry_count, entries_spelling, text_spelling}
use Rattle.ipld_tree.proofs.Unique.{split_at_length}
use Rattle.ipld_tree.proofs.Fronts.{front_unique, map_opened, entry_opened, entry_closed}
use Rattle.dagcbor_decode.specs.Fronts.{SplitsPayload}
use Rattle.dagcbor_decode.proofs.Fronts.{plain_text, bytes_opened, bytes_passed, too_few, head_opened}
use Rattle.dag_pb.specs.Node.{LinkParts}
use Rattle.dag_pb_model.specs.Model.{optional_entry, link_model}
use Rattle.dag_pb_model.specs.Reading.{IsEntry, AreEnds, HasNoEnds, BeginsNoLinkModel}

-- a map, of its entries
pub map_closed : (n : ℕ) (b c rest : List ℕ) (es : Entries) → SplitsHead b 5 n c → n ≡ entry_count es → AreEntryFronts c es rest → IsFront b (mapping es) rest
map_closed n b c rest es h count k = record {
  well_formed = k.well_formed;
  spellable = (omega (arith, h.1, count), k.spellable);
  is = h.2 ∙ ap (λ i. head 5 i ++ c) count ∙ ap (λ x. head 5 (entry_count es) ++ x) k.is ∙ sym (append_assoc (head 5 (entry_count es)) (entries_spelling es) rest);
}

pub no_bytes_of : (m n : ℕ) (b c : List ℕ) → SplitsHead b m n c → ¬ (m ≡ 2) → ¬ ((s : List ℕ) × (rest : List ℕ) × IsFront b (bytes s) rest)
no_bytes_of m n b c h other k = other (bytes_opened m n b c k.0 k.1 h k.2).0

pub bytes_judged : {P : Type 0} (s rest : P → List ℕ) (n : ℕ) (b c : List ℕ) (r : Option P) → SplitsHead b 2 n c → MatchOption r (length c < n) (λ p. SplitsPayload c n (s p) (rest p))
    → MatchOption r (¬ ((k : List ℕ) × (x : List ℕ) × IsFront b (bytes k) x)) (λ p. IsFront b (bytes (s p)) (rest p))
bytes_judged s rest n b c None h few = λ k. too_few n c k.0 k.1 few (bytes_opened 2 n b c k.0 k.1 h k.2).1
bytes_judged s rest n b c (Some p) h k = bytes_passed n b c (s p) (rest p) h k

pub no_number_of : (m n : ℕ) (b c : List ℕ) → SplitsHead b m n c → ¬ (m ≡ 0) → ¬ ((i : ℕ) × (rest : List ℕ) × IsFront b (integer (pos i)) rest)
no_number_of m n b c h other k = other (sym (head_opened m n b c k.1 (integer (pos k.0)) h k.2).0)

-- the bytes after the tag of a link
pub link_begins : (cid b rest : List ℕ) → IsFront b (link cid) rest → (c : List ℕ) × (b ≡ 0xd8 ∷ 0x2a ∷ c) × IsCid cid × IsFront c (bytes (0x00 ∷ cid)) rest
link_begins cid b rest f = (_, f.is, f.well_formed, record { well_formed = tt; spellable = omega (arith, f.spellable); is = refl })

pub no_link_of : (b c : List ℕ) → b ≡ 0xd8 ∷ 0x2a ∷ c → ((cid rest : List ℕ) → IsCid cid → ¬ IsFront c (bytes (0x00 ∷ cid)) rest) → ¬ ((cid : List ℕ) × (rest : List ℕ) × IsFront b (link cid) rest)
no_link_of b c e none (cid, rest, f) =
    let k = link_begins cid b rest f in
    let same : ◌≡◌ {A = List ℕ} (0xd8 ∷ 0x2a ∷ c) (0xd8 ∷ 0x2a ∷ k.0) = sym e ∙ k.1 in
    let following : c ≡ k.0 = cc same in
    none cid rest k.2 (subst (λ x. IsFront x (bytes (0x00 ∷ cid)) rest) (sym following) k.3)

pub no_cid_of : (b c payload following : List ℕ) → b ≡ 0xd8 ∷ 0x2a ∷ c → IsFront c (bytes payload) following → ¬ ((cid : List ℕ) × IsCid cid × (payload ≡ 0x00 ∷ cid)) → ¬ ((cid : List ℕ) × (rest : List ℕ) × IsFront b (link cid) rest)
no_cid_of b c payload following e f none = no_link_of b c e (λ cid rest valid g. none (cid, valid, cc (front_unique c following rest (bytes payload) (bytes (0x00 ∷ cid)) f g).0))

-- ---- entries

-- each key, as it is spelled
pub hash_key : 0x64 ∷ 0x48 ∷ 0x61 ∷ 0x73 ∷ 0x68 ∷ [] ≡ text_spelling (codes "Hash")
unfolding head
hash_key = refl

pub name_key : 0x64 ∷ 0x4e ∷ 0x61 ∷ 0x6d ∷ 0x65 ∷ [] ≡ text_spelling (codes "Name")
unfolding head
name_key = refl

pub size_key : 0x65 ∷ 0x54 ∷ 0x73 ∷ 0x69 ∷ 0x7a ∷ 0x65 ∷ [] ≡ text_spelling (codes "Tsize")
unfolding head
size_key = refl

pub entry_read : (key front b c rest : List ℕ) (t : Tree) → front ≡ text_spelling key → b ≡ front ++ c → IsFront c t rest → IsEntry b key t rest
entry_read key front b c rest t is e h = (c, e ∙ ap (λ x. x ++ c) is, h)

pub after_key : (key front b c rest : List ℕ) (t : Tree) → front ≡ text_spelling key → b ≡ front ++ c → IsEntry b key t rest → IsFront c t rest
after_key key front b c rest t is e k =
    let same : front ++ c ≡ text_spelling key ++ k.0 = sym e ∙ k.1 in
    subst (λ x. IsFront x t rest) (sym (split_at_length front (text_spelling key) c k.0 (ap length is) same).1) k.2

-- bytes that do not begin with the key do not begin with its entry
pub no_key : {V : Type 0} (tree : V → Tree) (key front b : List ℕ) → front ≡ text_spelling key → ((rest : List ℕ) → b ≢ front ++ rest) → ¬ ((v : V) × (rest : List ℕ) × IsEntry b key (tree v) rest)
no_key tree key front b is none k = none k.2.0 (k.2.1 ∙ ap (λ x. x ++ k.2.0) (sym is))

pub no_value : {V : Type 0} (tree : V → Tree) (key front b c : List ℕ) → front ≡ text_spelling key → b ≡ front ++ c → ¬ ((v : V) × (rest : List ℕ) × IsFront c (tree v) rest) → ¬ ((v : V) × (rest : List ℕ) × IsEntry b key (tree v) rest)
no_value tree key front b c is e none k = none (k.0, k.1, after_key key front b c k.1 (tree k.0) is e k.2)

pub hash_judged : {P : Type 0} (cid : P → CidParts) (rest : P → List ℕ) (key front b c : List ℕ) (r : Option P) → front ≡ text_spelling key → b ≡ front ++ c
    → MatchOption r (¬ ((k : List ℕ) × (x : List ℕ) × IsFront c (link k) x)) (λ p. AreCidParts (cid p) × IsFront c (link (cid_bytes (cid p))) (rest p))
    → MatchOption r (¬ ((k : List ℕ) × (x : List ℕ) × IsEntry b key (link k) x)) (λ p. AreCidParts (cid p) × IsEntry b key (link (cid_bytes (cid p))) (rest p))
hash_judged cid rest key front b c None is e none = no_value link key front b c is e none
hash_judged cid rest key front b c (Some p) is e k = (k.0, entry_read key front b c (rest p) (link (cid_bytes (cid p))) is e k.1)

-- bytes begin with one entry of a key only
pub one_entry : (b key x y : List ℕ) (t u : Tree) → IsEntry b key t x → IsEntry b key u y → (t ≡ u) × (x ≡ y)
one_entry b key x y t u h k = front_unique h.0 x y t u h.2 (after_key key (text_spelling key) b h.0 y u refl h.1 k)

-- ---- the name and the size

pub no_size_of_both : (b s c : List ℕ) → IsEntry b (codes "Name") (text s) c → ¬ ((n : ℕ) × (rest : List ℕ) × IsEntry c (codes "Tsize") (integer (pos n)) rest) → HasNoEnds 3 b
no_size_of_both b s c h size None None rest k = omega (arith, k.0)
no_size_of_both b s c h size (Some u) None rest k = omega (arith, k.0)
no_size_of_both b s c h size None (Some n) rest k = omega (arith, k.0)
no_size_of_both b s c h size (Some u) (Some n) rest k = size (n, rest, subst (λ x. IsEntry x (codes "Tsize") (integer (pos n)) rest) (sym (one_entry b (codes "Name") c k.1.0 (text s) (text u) h k.1.1).1) k.1.2)

-- ---- links

pub first_entry : (b rest k : List ℕ) (t : Tree) (es : Entries) → AreEntryFronts b (entry k t es) rest → (d : List ℕ) × IsEntry b k t d × AreEntryFronts d es rest
first_entry b rest k t es h = let p = entry_opened b rest k t es h in (entries_spelling es ++ rest, (p.0, p.1.is, p.2), p.4)

pub entry_before : (b d rest k : List ℕ) (t : Tree) (es : Entries) → IsUtf8 k → length k < 2 ^ 64 → IsEntry b k t d → Precedes k es → AreEntryFronts d es rest → AreEntryFronts b (entry k t es) rest
entry_before b d rest k t es utf8 fits h before l = entry_closed b h.0 d rest k t es (record { well_formed = utf8; spellable = fits; is = h.1 }) h.2 before l

pub no_entry_left : (b rest : List ℕ) → b ≡ rest → AreEntryFronts b no_entries rest
no_entry_left b rest e = record { well_formed = tt; spellable = tt; is = e }

abbrev pub ends_of : Option (List ℕ) → Option ℕ → Entries
ends_of name tsize = entries_of (optional_entry (codes "Name") (option_map text name) ++ optional_entry (codes "Tsize") (option_map (λ n. integer (pos n)) tsize))

hash_utf8 : IsUtf8 (codes "Hash")
hash_utf8 = plain_text (codes "Hash") refl

name_utf8 : IsUtf8 (codes "Name")
name_utf8 = plain_text (codes "Name") refl

size_utf8 : IsUtf8 (codes "Tsize")
size_utf8 = plain_text (codes "Tsize") refl

ends_opened : (count : ℕ) (b rest : List ℕ) (name : Option (List ℕ)) (tsize : Option ℕ) → count ≡ 1 + entry_count (ends_of name tsize) → AreEntryFronts b (ends_of name tsize) rest → AreEnds count b name tsize rest
ends_opened count b rest None None n h = (omega (arith, n), h.is)
ends_opened count b rest (Some s) None n h =
    let p = first_entry b rest (codes "Name") (text s) no_entries h in
    (omega (arith, n), subst (IsEntry b (codes "Name") (text s)) p.2.is p.1)
ends_opened count b rest None (Some k) n h =
    let p = first_entry b rest (codes "Tsize") (integer (pos k)) no_entries h in
    (omega (arith, n), subst (IsEntry b (codes "Tsize") (integer (pos k))) p.2.is p.1)
ends_opened count b rest (Some s) (Some k) n h =
    let p = first_entry b rest (codes "Name") (text s) (entry (codes "Tsize") (integer (pos k)) no_entries) h in
    let q = first_entry p.0 rest (codes "Tsize") (integer (pos k)) no_entries p.2 in
    (omega (arith, n), (p.0, p.1, subst (IsEntry p.0 (codes "Tsize") (integer (pos k))) q.2.is q.1))

size_last : (b rest : List ℕ) (k : ℕ) → IsEntry b (codes "Tsize") (integer (pos k)) rest → AreEntryFronts b (entry (codes "Tsize") (integer (pos k)) no_entries) rest
size_last b rest k h = entry_before b rest rest (codes "Tsize") (integer (pos k)) no_entries size_utf8 (omega arith) h tt (no_entry_left rest rest refl)

ends_closed : (count : ℕ) (b rest : List ℕ) (name : Option (List ℕ)) (tsize : Option ℕ) → AreEnds count b name tsize rest → (count ≡ 1 + entry_count (ends_of name tsize)) × AreEntryFronts b (ends_of name tsize) rest
ends_closed count b rest None None h = (omega (arith, h.0), no_entry_left b rest h.1)
ends_closed count b rest (Some s) None h = (omega (arith, h.0), entry_before b rest rest (codes "Name") (text s) no_entries name_utf8 (omega arith) h.1 tt (no_entry_left rest rest refl))
ends_closed count b rest None (Some k) h = (omega (arith, h.0), size_last b rest k h.1)
ends_closed count b rest (Some s) (Some k) h = (omega (arith, h.0), entry_before b h.1.0 rest (codes "Name") (text s) (entry (codes "Tsize") (integer (pos k)) no_entries) name_utf8 (omega arith) h.1.1 refl (size_last h.1.0 rest k h.1.2))

hash_before : (name : Option (List ℕ)) (tsize : Option ℕ) → Precedes (codes "Hash") (ends_of name tsize)
hash_before None None = tt
hash_before None (Some k) = refl
hash_before (Some s) None = refl
hash_before (Some s) (Some k) = refl

pub link_model_opened : (m n : ℕ) (b c rest : List ℕ) (l : LinkParts) → SplitsHead b m n c → IsFront b (link_model l) rest → (m ≡ 5) × ((d : List ℕ) × IsEntry c (codes "Hash") (link (cid_bytes l.hash)) d × AreEnds n d l.name l.tsize rest)
link_model_opened m n b c rest l h f =
    let es = ends_of l.name l.tsize in
    let parts = head_opened m n b c rest (link_model l) h f in
    let five : m ≡ 5 = sym parts.0 in
    let all = map_opened b c rest n (entry (codes "Hash") (link (cid_bytes l.hash)) es) h.1 f (h.2 ∙ ap (λ k. head k n ++ c) five) in
    let p = first_entry c rest (codes "Hash") (link (cid_bytes l.hash)) es all.1 in
    let count : n ≡ 1 + entry_count es = omega (arith, all.0) in
    (five, (p.0, p.1, ends_opened n p.0 rest l.name l.tsize count p.2))

pub link_model_closed : (n : ℕ) (b c d rest : List ℕ) (hash : CidParts) (name : Option (List ℕ)) (tsize : Option ℕ) → SplitsHead b 5 n c → IsEntry c (codes "Hash") (link (cid_bytes hash)) d → AreEnds n d name tsize rest
    → IsFront b (link_model (record { hash = hash; name = name; tsize = tsize })) rest
link_model_closed n b c d rest hash name tsize h hashed e =
    let es = ends_of name tsize in
    let k = ends_closed n d rest name tsize e in
    let fronts = entry_before c d rest (codes "Hash") (link (cid_bytes hash)) es hash_utf8 (omega arith) hashed (hash_before name tsize) k.1 in
    let count : n ≡ entry_count (entry (codes "Hash") (link (cid_bytes hash)) es) = omega (arith, k.0) in
    map_closed n b c rest (entry (codes "Hash") (link (cid_bytes hash)) es) h count fronts

pub no_hash : (n : ℕ) (b c : List ℕ) → SplitsHead b 5 n c → ¬ ((cid : List ℕ) × (rest : List ℕ) × IsEntry c (codes "Hash") (link cid) rest) → BeginsNoLinkModel b
no_hash n b c h none l rest f = let k = (link_model_opened 5 n b c rest l h f).1 in none (cid_bytes l.hash, k.0, k.1)

pub no_ends : (n : ℕ) (b c d cid : List ℕ) → SplitsHead b 5 n c → IsEntry c (codes "Hash") (link cid) d → HasNoEnds n d → BeginsNoLinkModel b
no_ends n b c d cid h hashed none l rest f =
    let k = (link_model_opened 5 n b c rest l h f).1 in
    let same = one_entry c (codes "Hash") d k.0 (link cid) (link (cid_bytes l.hash)) hashed k.1 in
    none l.name l.tsize rest (subst (λ x. AreEnds n x l.name l.tsize rest) (sym same.1) k.2)
