use Rattle.std.proofs.Common.{◌≡◌, true, false}
use Rattle.wl_draft.specs.Locks.{is_grantable, row_of}
use Rattle.wl_table_index.specs.OrderNumbers.{values_in}
use Rattle.wl_table_index.specs.NameLines.{line_at}
use Rattle.wl_table_index.proofs.IndexLemmas.{grantable-known, probed-stuck}
use Rattle.wl_table.proofs.indexed_table.IndexedTableLockTable.probe.Goals as goal

pub returns-then-not-is_next-clause-grants : goal.returns-then-not-is_next-clause-grants
returns-then-not-is_next-clause-grants c =
    let e : is_grantable (values_in c.self.inside.index.held.items) (values_in c.self.inside.index.waiting.items) (row_of c.args.client c.args.number c.args.name.now c.args.mode) ≡ false = grantable-known c.self.inside.index.held.items c.self.inside.index.waiting.items (line_at c.self.inside.index.lines c.args.name.now) (row_of c.args.client c.args.number c.args.name.now c.args.mode) c.ask-place.result.1 false (c.self.invariant.index.lines c.args.name.now) c.ask-place.ensures c.if-not-is_next.true in
    rw (← c.self.view_is, e) c.new.ensures.items

pub returns-then-not-is_next-clause-ok : goal.returns-then-not-is_next-clause-ok
returns-then-not-is_next-clause-ok c =
    let e : is_grantable (values_in c.self.inside.index.held.items) (values_in c.self.inside.index.waiting.items) (row_of c.args.client c.args.number c.args.name.now c.args.mode) ≡ false = grantable-known c.self.inside.index.held.items c.self.inside.index.waiting.items (line_at c.self.inside.index.lines c.args.name.now) (row_of c.args.client c.args.number c.args.name.now c.args.mode) c.ask-place.result.1 false (c.self.invariant.index.lines c.args.name.now) c.ask-place.ensures c.if-not-is_next.true in
    rw (← c.self.view_is) (probed-stuck c.self.inside.index.held.items c.self.inside.index.waiting.items (row_of c.args.client c.args.number c.args.name.now c.args.mode) e)

pub grant_immediately-requires-clause-grantable : goal.grant_immediately-requires-clause-grantable
grant_immediately-requires-clause-grantable c =
    let e : is_grantable (values_in c.self.inside.index.held.items) (values_in c.self.inside.index.waiting.items) (row_of c.args.client c.args.number c.args.name.now c.args.mode) ≡ true = grantable-known c.self.inside.index.held.items c.self.inside.index.waiting.items (line_at c.self.inside.index.lines c.args.name.now) (row_of c.args.client c.args.number c.args.name.now c.args.mode) c.ask-place.result.1 true (c.self.invariant.index.lines c.args.name.now) c.ask-place.ensures c.if-not-is_next.false in
    rw (← c.self.view_is) e

pub returns-clause-grants : goal.returns-clause-grants
returns-clause-grants c =
    let e : is_grantable (values_in c.self.inside.index.held.items) (values_in c.self.inside.index.waiting.items) (row_of c.args.client c.args.number c.args.name.now c.args.mode) ≡ true = grantable-known c.self.inside.index.held.items c.self.inside.index.waiting.items (line_at c.self.inside.index.lines c.args.name.now) (row_of c.args.client c.args.number c.args.name.now c.args.mode) c.ask-place.result.1 true (c.self.invariant.index.lines c.args.name.now) c.ask-place.ensures c.if-not-is_next.false in
    let known : is_grantable c.args.self.now.held c.args.self.now.waiting (row_of c.args.client c.args.number c.args.name.now c.args.mode) ≡ true = rw (← c.self.view_is) e in
    rw known c.grant_immediately.ensures.grants
