-- A whole snapshot (Web Locks, "snapshot the lock state") as JSON without spaces: the two lists of a
-- `LockManagerSnapshot`.
use Rattle.std.specs.Prelude.{ℕ, List, map, codes, decimal}
use Rattle.serde_json.specs.Data.{Data, Items, string, array, object, no_members, member}
use Rattle.serde_json.specs.View.{items_of}
use Rattle.serde_json.specs.Written.{compact_text}
use Rattle.wl_agent.specs.declared.snapshot.LockInfo.{LockInfo}
use Rattle.wl_agent.specs.declared.snapshot.Snapshot.{Snapshot}
use Rattle.wl_script_words.specs.WordPrinting.{mode_text}

abbrev pub info_data : LockInfo → Data
info_data i =
    object (member (codes "clientId") (string (decimal i.tab))
    (member (codes "mode") (string (mode_text i.mode))
    (member (codes "name") (string i.name) no_members)))

abbrev pub infos_data : List LockInfo → Items
infos_data is = items_of (map info_data is)

abbrev pub snapshot_data : Snapshot → Data
snapshot_data s =
    object (member (codes "held") (array (infos_data s.held)) (member (codes "pending") (array (infos_data s.pending)) no_members))

unfoldable pub json_text : Snapshot → List ℕ
json_text s = compact_text (snapshot_data s)
