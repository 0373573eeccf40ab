-- Where the walk by an index ends.
use Rattle.std.proofs.Common.{◌≡◌, ◌≢◌, inl, ℕ, ◌-◌, ◌^◌, ◌<◌, List, refl, Option, None, Some, IfSome, Bor}
use Rattle.ipld_tree.specs.Cid.{CidParts}
use Rattle.ipld_paths.specs.Paths.{segments}
use Rattle.ipld_links.specs.Reaching.{Stored, AreBytesOf}
use Rattle.ipld_paths.specs.Resolving.{EndsAs, IsEndlessAfter}
use Rattle.ipld_paths.specs.declared.resolution.End.{End}
use Rattle.ipld_paths.specs.declared.resolution.End.TheVariants as ends
use Rattle.program_index.specs.Layouts.{HasIndex}
use Rattle.program_index.specs.Ways.{HoldsWay, LeavesIndex, HoldsMore}
use Rattle.program_index.proofs.Growing.{grown, LedOver, over_more}
use Rattle.program_index.proofs.Settling.{settled_of, walk_settled, walk_resolved}

none_stored : (s : Stored) (name : CidParts) → ((b : List ℕ) → ¬ AreBytesOf s name b) → s name ≡ None
none_stored s name none = by (s name) refl
  where
    by : (o : Option (List ℕ)) → s name ≡ o → s name ≡ None
    by None is = is
    by (Some b) is = absurd (none b (inl is))

both : {P Q R : List ℕ → Type 0} (known : Option (List ℕ)) → IfSome known P → IfSome known Q → ((b : List ℕ) → P b → Q b → R b) → IfSome known R
both None h k f = tt
both (Some b) h k f = f b h k

module _ (known : Option (List ℕ)) (old new : Stored) (root name : CidParts) (path : List (List ℕ)) (left : Bor (List ℕ)) (count : ℕ) (more : HoldsMore known name old new) (led : LedOver old root path count name (segments left.now)) where
  led_now : LedOver new root path count name (segments left.now)
  led_now = over_more old new root name path (segments left.now) count (grown known name old new more) led

  pub way_left : EndsAs new name (segments left.now) ends.NotHeld → IfSome known (λ b. HasIndex b × LeavesIndex b root path)
  way_left none = both known more.index (more.unlisted (none_stored new name none)) (λ b has not. (
    has,
    record {
      stored = new;
      verified = λ q x e. (more.led q x e).0;
      last = record { block = name; path = left; end = ends.NotHeld };
      led = walk_resolved new root name path (segments left.now) count (record { block = name; path = left; end = ends.NotHeld }) led_now (refl, refl, none) (λ n. tt);
      wanting = refl;
      unlisted = not;
    },
  ))

  pub way_held : (end : End) → count < 2 ^ 64 - 1 → EndsAs new name (segments left.now) end → ((n : ℕ) → IsEndlessAfter n end) → end ≢ ends.NotHeld → HoldsWay new root path × IfSome known HasIndex
  way_held end few is never held = (
    record {
      verified = λ q x e. (more.led q x e).0;
      settled = walk_settled new root name path (segments left.now) count (record { block = name; path = left; end = end }) led_now few (refl, refl, is) (settled_of end held never);
    },
    more.index,
  )
