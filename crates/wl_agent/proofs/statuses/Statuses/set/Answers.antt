use Rattle.std.proofs.Common.{◌≡◌, true, false, Some, sym, ap, ◌∙◌, arith}
use Rattle.wl_draft.specs.Tables.{find, put}
use Rattle.wl_draft.proofs.TableLemmas.{lookup-find}
use Rattle.wl_agent.specs.Tab.{is_live, count_of}
use Rattle.wl_agent.proofs.Rows.{weighs, byte-le, written}
use Rattle.wl_agent.proofs.Counts.{counts-put, kept-le_live, live-fits, kept-fits}
use Rattle.wl_agent.proofs.statuses.Statuses.set.Goals as goal

pub overflow_sub-self : goal.overflow_sub-self
overflow_sub-self c =
    let rows = c.self.inside.rows.entries in
    let found = sym (lookup-find rows c.args.number) ∙ sym c.in-Some.ensures.value in
    live-fits rows _ _ _ _ (Some c.in-Some.row.now) c.self.invariant found (weighs _ _ _ c.from.ensures c.is_live.ensures)

pub overflow_sub-self-in-Some : goal.overflow_sub-self-in-Some
overflow_sub-self-in-Some c =
    let rows = c.self.inside.rows.entries in
    let found = sym (lookup-find rows c.args.number) ∙ sym c.in-Some.ensures.value in
    kept-fits rows _ _ _ _ (Some c.in-Some.row.now) c.self.invariant found (weighs _ _ _ c.from-in-Some-2.ensures c.reserves_number.ensures)

pub overflow_add-self-in-Some : goal.overflow_add-self-in-Some
overflow_add-self-in-Some c =
    let few = c.requires.few in
    let at = ap (count_of is_live) c.self.view_is in
    omega (arith, byte-le _ _ c.from-in-Some-3.ensures, kept-le_live c.self.inside.rows.entries, c.self.invariant.kept_is, at, few)

pub invariant_of-self : goal.invariant_of-self
invariant_of-self c =
    let rows = c.self.inside.rows.entries in
    let s = c.args.status in
    let found = sym (lookup-find rows c.args.number) ∙ sym c.in-Some.ensures.value in
    let new = written c.args.number _ _ rows _ c.self.invariant.rise c.in-Some.ensures.value (c.get_mut.follows.holds _).0 ∙ ap (λ t. put c.args.number t rows) c.set.ensures in
    counts-put rows _ _ _ _ _ _ _ _ s (Some c.in-Some.row.now) c.self.invariant found new (weighs _ _ _ c.from.ensures c.is_live.ensures) (weighs _ _ _ c.from-in-Some-2.ensures c.reserves_number.ensures) (weighs _ _ _ c.from-in-Some.ensures c.is_live-in-Some.ensures) (weighs _ _ _ c.from-in-Some-3.ensures c.reserves_number-in-Some.ensures)

pub unreachable-requires : goal.unreachable-requires
unreachable-requires c =
    let rows = c.self.inside.rows.entries in
    let absent = sym (ap (λ rs. find rs c.args.number) c.self.view_is) ∙ sym (lookup-find rows c.args.number) ∙ sym c.in-None.ensures.value in
    let there = c.requires.there in
    let none : false ≡ true = rw absent at there in cc

pub returns : goal.returns
returns c =
    let rows = c.self.inside.rows.entries in
    written c.args.number _ _ rows _ c.self.invariant.rise c.in-Some.ensures.value (c.get_mut.follows.holds _).0 ∙ ap (λ t. put c.args.number t rows) c.set.ensures ∙ ap (put c.args.number c.args.status) c.self.view_is
