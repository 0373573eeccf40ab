-- The item at which a path ended.
use Rattle.std.proofs.Common.{◌≡◌, inl, inr, ℕ, zero, suc, ◌+◌, List, length, sym, ◌∙◌, subst, Option, None, Some}
use Rattle.ipld_tree.specs.Cid.{CidParts}
use Rattle.ipld_tree.specs.Tree.{Tree}
use Rattle.dagcbor_decode.specs.Blocks.{IsBlock}
use Rattle.dagcbor_decode.specs.declared.kind.Kind.{Kind}
use Rattle.ipld_paths.specs.Paths.{segments}
use Rattle.ipld_paths.specs.Finding.{StandAt}
use Rattle.ipld_links.specs.Names.{IsInline}
use Rattle.ipld_links.specs.Reaching.{Stored, AreBytesOf}
use Rattle.ipld_paths.specs.Resolving.{IsReadAs, IsReadUnder, EndsAs, ResolvesIn, Resolves, GivesBetween}
use Rattle.ipld_paths.specs.Laws.{Leads, GivesItem, IsNothing, NothingIsLedTo}
use Rattle.ipld_paths.specs.declared.resolution.End.{End}
use Rattle.ipld_paths.specs.declared.resolution.End.TheVariants as ends
use Rattle.ipld_paths.specs.declared.resolution.Resolved.{Resolved}
use Rattle.ipld_paths.proofs.Reading.{read_as_one}

-- the facts if a path ended at an item
pub record EndsAtItem (stored : Stored) (root : CidParts) (path : List (List ℕ)) (r : Resolved) (place end : ℕ) : Type 0 where
  pub count : ℕ
  pub block : List ℕ
  pub found : Tree
  pub part : List ℕ
  pub read : IsReadUnder stored r.block block
  pub leads : Leads count stored root path (Some found)
  pub spelled : IsBlock part found
  pub stands : StandAt block place part
  pub ends : end ≡ place + length part

pub ended_at_item : (n : ℕ) (stored : Stored) (name : CidParts) (path : List (List ℕ)) (r : Resolved) (kind : Kind) (place end : ℕ) → ResolvesIn n stored name path r → r.end ≡ ends.Item kind place end → EndsAtItem stored name path r place end
ended_at_item zero stored name path r kind place end h is =
    let k = subst (EndsAs stored name path) is h.2 in
    record {
      count = 0;
      block = k.0;
      found = k.2;
      part = k.7.0;
      read = subst (λ q. IsReadUnder stored q k.0) (sym h.0) k.3;
      leads = (k.0, k.3, (k.1, k.4, k.5));
      spelled = k.7.1;
      stands = k.7.2;
      ends = k.7.3;
    }
ended_at_item (suc n) stored name path r kind place end h is =
    let k = ended_at_item n stored h.0 h.1 r kind place end h.3 is in
    record {
      count = suc k.count;
      block = k.block;
      found = k.found;
      part = k.part;
      read = k.read;
      leads = (h.0, h.1, h.2, k.leads);
      spelled = k.spelled;
      stands = k.stands;
      ends = k.ends;
    }

pub bytes_unique : (stored : Stored) (name : CidParts) (x y : List ℕ) → AreBytesOf stored name x → AreBytesOf stored name y → x ≡ y
bytes_unique stored name x y (inl h) (inl k) = let same : Some x ≡ Some y = sym h ∙ k in cc
bytes_unique stored name x y (inl h) (inr k) = absurd (let differ : Some x ≡ None = sym h ∙ k.0 in cc)
bytes_unique stored name x y (inr h) (inl k) = absurd (let differ : Some y ≡ None = sym k ∙ h.0 in cc)
bytes_unique stored name x y (inr h) (inr k) = sym h.2 ∙ k.2

-- no bytes are under a name that is not by the identity, if none are stored
pub none_under : (stored : Stored) (name : CidParts) → stored name ≡ None → ¬ IsInline name → (b : List ℕ) → ¬ AreBytesOf stored name b
none_under stored name none not b (inl h) = let differ : Some b ≡ None = sym h ∙ none in cc
none_under stored name none not b (inr h) = not h.1

pub read_unique : (stored : Stored) (name : CidParts) (x y : List ℕ) → IsReadUnder stored name x → IsReadUnder stored name y → x ≡ y
read_unique stored name x y h k = read_as_one name k.0 x y (subst (λ z. IsReadAs name z x) (bytes_unique stored name h.0 k.0 h.1 k.1) h.3) k.3

-- ---- the bytes of an item

-- the bytes are those between the places, of the block as which the bytes of the name are read
abbrev pub GivesPartIn : {A : Type 0} → (A → List ℕ) → CidParts → List ℕ → ℕ → ℕ → Option A → Type 0
GivesPartIn bytes_of name b place end result = (block : List ℕ) → IsReadAs name b block → GivesBetween bytes_of block place end result

part_given : {A : Type 0} (bytes_of : A → List ℕ) (stored : Stored) (root : CidParts) (path : List (List ℕ)) (r : Resolved) (kind : Kind) (place end : ℕ) → r.end ≡ ends.Item kind place end → (b : List ℕ) (result : Option A) → AreBytesOf stored r.block b → GivesPartIn bytes_of r.block b place end result → Resolves stored root path r → GivesItem bytes_of stored root path (ends.Item kind place end) result
part_given bytes_of stored root path r kind place end is b None under given h =
    let k = ended_at_item h.0 stored root path r kind place end h.1 is in
    given k.block (subst (λ z. IsReadAs r.block z k.block) (bytes_unique stored r.block k.read.0 b k.read.1 under) k.read.3) k.part k.stands k.ends
part_given bytes_of stored root path r kind place end is b (Some a) under given h =
    let k = ended_at_item h.0 stored root path r kind place end h.1 is in
    let same = given k.block (subst (λ z. IsReadAs r.block z k.block) (bytes_unique stored r.block k.read.0 b k.read.1 under) k.read.3) k.part k.stands k.ends in
    (k.count, k.found, k.leads, subst (λ p. IsBlock p k.found) (sym same) k.spelled)

pub item_given : {A : Type 0} (bytes_of : A → List ℕ) (stored : Stored) (root : CidParts) (path : List (List ℕ)) (r : Resolved) (kind : Kind) (place end : ℕ) → r.end ≡ ends.Item kind place end → (b : List ℕ) (result : Option A) → AreBytesOf stored r.block b → GivesPartIn bytes_of r.block b place end result → Resolves stored root path r → GivesItem bytes_of stored root path r.end result
item_given bytes_of stored root path r kind place end is b result under given h = subst (λ e. GivesItem bytes_of stored root path e result) (sym is) (part_given bytes_of stored root path r kind place end is b result under given h)

pub no_bytes_given : {A : Type 0} (bytes_of : A → List ℕ) (stored : Stored) (root : CidParts) (path : List (List ℕ)) (r : Resolved) (kind : Kind) (place end : ℕ) → r.end ≡ ends.Item kind place end → ((b : List ℕ) → ¬ AreBytesOf stored r.block b) → Resolves stored root path r → GivesItem {A = A} bytes_of stored root path r.end None
no_bytes_given bytes_of stored root path r kind place end is none h =
    let k = ended_at_item h.0 stored root path r kind place end h.1 is in
    absurd (none k.read.0 k.read.1)

-- ---- a path that leads to nothing

led_to_none : (stored : Stored) (name : CidParts) (path : List (List ℕ)) (end : End) → EndsAs stored name path end → IsNothing end → Leads 0 stored name path None
led_to_none stored name path (ends.NoSuchPath left) h is = (h.0, h.3, (h.1, h.2, segments left.now, h.4, h.5, h.6))
led_to_none stored name path _ h is = absurd is

none_led_to : (n : ℕ) (stored : Stored) (name : CidParts) (path : List (List ℕ)) (r : Resolved) → ResolvesIn n stored name path r → IsNothing r.end → Leads n stored name path None
none_led_to zero stored name path r h is = led_to_none stored name path r.end h.2 is
none_led_to (suc n) stored name path r h is = (h.0, h.1, h.2, none_led_to n stored h.0 h.1 r h.3 is)

pub nothing_is_led_to : NothingIsLedTo
nothing_is_led_to stored root path r h is = (h.0, none_led_to h.0 stored root path r h.1 is)
