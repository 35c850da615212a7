use Rattle.std.proofs.Common.{◌≡◌, map, take}
use Rattle.serde_json.specs.View.{view}
use Rattle.wl_script_words.specs.Snapshots.{info_data}
use Rattle.wl_script_words.proofs.snapshot_text.infos_value.Given as goal

abbrev pub invariant-loop-info : goal.invariant-loop-info
invariant-loop-info l = map view l.values.items ≡ map info_data (take l.info-index l.infos)
