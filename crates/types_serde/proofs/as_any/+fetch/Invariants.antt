use Rattle.std.proofs.Common.{◌+◌, ◌*◌}
use Rattle.types_serde.proofs.as_any.+fetch.Given as goal

abbrev pub decreases-fetch : goal.decreases-fetch
decreases-fetch g l = 3 * l.depth + 1

abbrev pub decreases-fetch_map_or_link : goal.decreases-fetch_map_or_link
decreases-fetch_map_or_link g l = 3 * l.depth

abbrev pub decreases-fetch_items : goal.decreases-fetch_items
decreases-fetch_items g l = 3 * l.depth + 2

abbrev pub decreases-fetch_entries : goal.decreases-fetch_entries
decreases-fetch_entries g l = 3 * l.depth + 2
