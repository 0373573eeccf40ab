-- What earlier frames tell about repositories.
use Rattle.std.specs.Prelude.{ℕ, List, cond, Option, None, option_map, string_bytes, String}
use Rattle.std.specs.Global.{Global}
use Rattle.std.specs.BTreeMap.{BTreeMap, get_by_text}
use Rattle.std.specs.Str.{bytes_eq}
use Rattle.ipld_tree.specs.Cid.{CidParts}
use Rattle.atproto_events.specs.declared.verify.Known.{Known}
use Rattle.program_events.specs.declared.seen.Last.{Last}

-- the root of a repository's tree, and its revision
abbrev pub Root : Type 0
Root = CidParts × List ℕ

-- what is known of each repository, by its DID
abbrev pub Seen : Type 0
Seen = List ℕ → Option Root

abbrev pub nothing_seen : Seen
nothing_seen did = None

-- this is known of the repository; for all others nothing changes
abbrev pub see : Seen → List ℕ → Option Root → Seen
see seen did it other = cond (bytes_eq did other) it (seen other)

-- the root and revision that `verify_event` is given
abbrev pub root_given : Known → Root
root_given known = (known.root, known.rev.now)

abbrev pub root_kept : Last → Root
root_kept last = (last.root, string_bytes last.rev)

-- what a map says is known
abbrev pub seen_in : BTreeMap (String Global) Last → Seen
seen_in map did = option_map root_kept (get_by_text map did)
