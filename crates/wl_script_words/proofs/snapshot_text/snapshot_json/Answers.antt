use Rattle.std.proofs.Common.{ap, ◌∙◌}
use Rattle.std.proofs.lemmas.Result.{IfOk-weaker}
use Rattle.serde_json.specs.Written.{has_float, compact_text}
use Rattle.wl_script_words.specs.Snapshots.{json_text}
use Rattle.wl_script_words.proofs.NoFloats.{snapshot_no_float}
use Rattle.wl_script_words.proofs.snapshot_text.snapshot_json.Goals as goal

pub returns : goal.returns
unfolding json_text
returns c =
    let same = c.in_ok-value.ensures in
    IfOk-weaker c.to_string.result _ _
    (λ text read. read (ap has_float same ∙ snapshot_no_float c.args.snapshot.now) ∙ ap compact_text same)
    c.to_string.ensures.text
