-- Proof that inserting a part puts its row. If the snapshot cannot be allocated, the row is removed
-- again.
use Rattle.std.proofs.Common.{◌≡◌, List, ap, ◌∙◌}
use Rattle.std.specs.Ordering.{nat_cmp}
use Rattle.std.specs.BTreeMap.{is_at}
use Rattle.std.specs.Map.{remove_entry}
use Rattle.wl_draft.specs.Tables.{Table, put, has_row}
use Rattle.wl_draft.proofs.TableLemmas.{insert_entry-put, remove_entry-put}
use Rattle.wl_grammar.specs.declared.frame.Snapshot.{Snapshot as Part}
use Rattle.wl_grammar.specs.declared.frame.SnapshotEntry.{SnapshotEntry}
use Rattle.wl_agent.specs.SnapshotParts.{PartsState, with_part}
use Rattle.wl_agent.proofs.PartsTogether.{whole_none, whole_some}
use Rattle.wl_agent.proofs.snapshot_parts.SnapshotParts.take.Goals as goal

-- The inserted row has the entries of the part, since they are copied.
came : (part : Part) (parts : PartsState) (rows new : Table (List SnapshotEntry)) (entries : List SnapshotEntry) → new ≡ put part.part entries rows → entries ≡ part.entries → rows ≡ parts.came → new ≡ put part.part part.entries parts.came
came part parts rows new entries new_is entries_are rows_are =
    new_is ∙ ap (λ es. put part.part es rows) entries_are ∙ ap (put part.part part.entries) rows_are

pub returns-then-len-from-clause-ok : goal.returns-then-len-from-clause-ok
unfolding with_part
returns-then-len-from-clause-ok c =
    let p = c.args.part.now in
    let rows = c.self.inside.came.entries in
    let new = came p c.args.self.now rows _ _ (c.in_ok-insert.ensures.entries ∙ insert_entry-put p.part c.in_ok-entries.entries rows) c.in_ok-entries.ensures (ap (λ s. s.came) c.self.view_is) in
    ap (λ rs. record { count = p.parts; came = rs }) new

pub returns-then-len-from-clause-snapshot : goal.returns-then-len-from-clause-snapshot
returns-then-len-from-clause-snapshot c =
    let p = c.args.part.now in
    let rows = c.self.inside.came.entries in
    let new = came p c.args.self.now rows _ _ (c.in_ok-insert.ensures.entries ∙ insert_entry-put p.part c.in_ok-entries.entries rows) c.in_ok-entries.ensures (ap (λ s. s.came) c.self.view_is) in
    whole_none p c.args.self.now _ _ _ new c.len.ensures.len c.from.ensures c.if-len-from.true

pub returns-in-Ok-clause-ok : goal.returns-in-Ok-clause-ok
unfolding with_part
returns-in-Ok-clause-ok c =
    let p = c.args.part.now in
    let rows = c.self.inside.came.entries in
    let new = came p c.args.self.now rows _ _ (c.in_ok-insert.ensures.entries ∙ insert_entry-put p.part c.in_ok-entries.entries rows) c.in_ok-entries.ensures (ap (λ s. s.came) c.self.view_is) in
    ap (λ rs. record { count = p.parts; came = rs }) new

pub returns-in-Ok-clause-snapshot : goal.returns-in-Ok-clause-snapshot
returns-in-Ok-clause-snapshot c =
    let p = c.args.part.now in
    let rows = c.self.inside.came.entries in
    let new = came p c.args.self.now rows _ _ (c.in_ok-insert.ensures.entries ∙ insert_entry-put p.part c.in_ok-entries.entries rows) c.in_ok-entries.ensures (ap (λ s. s.came) c.self.view_is) in
    whole_some p c.args.self.now _ _ _ c.in-Ok.snapshot new c.len.ensures.len c.from.ensures c.if-len-from.false c.in-Ok.ensures.held c.in-Ok.ensures.pending

pub returns-in-Err-clause-err : goal.returns-in-Err-clause-err
returns-in-Err-clause-err c =
    let p = c.args.part.now in
    let rows = c.self.inside.came.entries in
    let put_row = c.in_ok-insert.ensures.entries ∙ insert_entry-put p.part c.in_ok-entries.entries rows in
    let absent = ap (λ s. has_row s.came p.part) c.self.view_is ∙ c.requires in
    ap (λ rs. record { count = c.self.inside.count; came = rs }) (c.remove.ensures.entries ∙ ap (remove_entry (is_at (nat_cmp p.part))) put_row ∙ remove_entry-put p.part c.in_ok-entries.entries rows absent) ∙ c.self.view_is
