-- Lemmas that the JSON of snapshots has no floats.
use Rattle.std.proofs.Common.{◌≡◌, false, ◌||◌, List, [], ◌∷◌, refl, ap, ◌∙◌}
use Rattle.serde_json.specs.Written.{has_float, items_have_float}
use Rattle.wl_agent.specs.declared.snapshot.LockInfo.{LockInfo}
use Rattle.wl_agent.specs.declared.snapshot.Snapshot.{Snapshot}
use Rattle.wl_script_words.specs.Snapshots.{infos_data, snapshot_data}

infos_no_float : (is : List LockInfo) → items_have_float (infos_data is) ≡ false
infos_no_float [] = refl
infos_no_float (i ∷ is) = infos_no_float is

pub snapshot_no_float : (s : Snapshot) → has_float (snapshot_data s) ≡ false
snapshot_no_float s =
    ap (λ b. b || (items_have_float (infos_data s.pending) || false)) (infos_no_float s.held)
    ∙ ap (λ b. b || false) (infos_no_float s.pending)
