use Rattle.std.proofs.Common.{ap, ◌∙◌, sym, is_some}
use Rattle.wl_draft.specs.Tables.{has_row}
use Rattle.wl_draft.proofs.TableLemmas.{lookup-find, has_row-find}
use Rattle.wl_agent.proofs.snapshot_parts.SnapshotParts.has.Goals as goal

pub returns : goal.returns
returns c =
    let rows = c.self.inside.came.entries in
    c.contains_key.ensures ∙ ap is_some (lookup-find rows c.args.part) ∙ sym (has_row-find rows c.args.part) ∙ ap (λ s. has_row s.came c.args.part) c.self.view_is
