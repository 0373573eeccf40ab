-- The root before an event: the one that it states, and the known one.
use Rattle.std.specs.Prelude.{◌≡◌, ◌≢◌, Option, None, Some}
use Rattle.ipld_tree.specs.Cid.{CidParts}
use Rattle.atproto_events.specs.declared.refusal.EventError.{EventError}
use Rattle.atproto_events.specs.declared.refusal.EventError.TheVariants.{OtherRoot, NoRoot}

-- the root is each of the two that is given, and at least one is
abbrev pub BeginsAt : (said known : Option CidParts) → CidParts → Type 0
BeginsAt (Some said) (Some known) root = (said ≡ root) × (known ≡ root)
BeginsAt (Some said) None root = said ≡ root
BeginsAt None (Some known) root = known ≡ root
BeginsAt None None root = ⊥

-- why there is no such root: the two differ; or neither is given
abbrev pub NoBegin : (said known : Option CidParts) → EventError → Type 0
NoBegin (Some said) (Some known) OtherRoot = said ≢ known
NoBegin None None NoRoot = Unit {0}
NoBegin _ _ _ = ⊥
