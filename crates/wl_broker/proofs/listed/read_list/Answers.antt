use Rattle.std.proofs.Common.{◌+◌, ℕ, List, [], ap, ◌∙◌, get_or, arith}
use Rattle.std.proofs.lemmas.List.{take_all}
use Rattle.wl_draft.specs.Tables.{Table, at, put}
use Rattle.wl_draft.proofs.TableLemmas.{insert_entry-put}
use Rattle.wl_broker.specs.BrokerInvariant.{missing_in}
use Rattle.wl_broker.proofs.Missing.{read_one, counted_one, missing_in-below}
use Rattle.wl_broker.proofs.listed.read_list.Goals as goal

pub loop-tab-init : goal.loop-tab-init
loop-tab-init c = (c.new-listed.ensures.empty, λ p. ap (λ (ps : Table ℕ). at 0 ps p) c.new-missing.ensures.empty)

pub overflow_add-others : goal.overflow_add-others
overflow_add-others c =
    let list = c.args.list.now in
    let i = c.loop-tab.tab-index in
    let x = get_or list i (0, 0) in
    let others = c.missing_at-others.ensures ∙ c.loop-tab.invariant.1 x.1 in
    let below = missing_in-below list i x.1 c.loop-tab-test.true in
    omega (arith, others, below, c.loop-tab-test.true)

pub loop-tab-preserved : goal.loop-tab-preserved
loop-tab-preserved c =
    let list = c.args.list.now in
    let i = c.loop-tab.tab-index in
    let x = get_or list i (0, 0) in (
      c.in_ok-insert.ensures.entries ∙ insert_entry-put x.0 x.1 c.loop-tab.listed.entries ∙ ap (λ (ps : Table ℕ). put x.0 x.1 ps) c.loop-tab.invariant.0 ∙ read_one list i (0, 0) c.requires c.loop-tab-test.true,
      λ p. ap (λ (ps : Table ℕ). at 0 ps p) (c.in_ok-insert-2.ensures.entries ∙ insert_entry-put x.1 (c.missing_at-others.result + 1) c.loop-tab.missing.entries)
          ∙ counted_one list i (0, 0) c.loop-tab.missing.entries (c.missing_at-others.result + 1) c.loop-tab-test.true c.loop-tab.invariant.1 (ap (λ (n : ℕ). n + 1) c.missing_at-others.ensures) p,
    )

pub returns-clause-listed : goal.returns-clause-listed
returns-clause-listed c = c.loop-tab.invariant.0 ∙ take_all c.loop-tab.tab-index c.args.list.now c.loop-tab-test.false

pub returns-clause-missing : goal.returns-clause-missing
returns-clause-missing c = λ p.
    c.loop-tab.invariant.1 p ∙ ap (λ (xs : List (ℕ × ℕ)). missing_in xs [] p) (take_all c.loop-tab.tab-index c.args.list.now c.loop-tab-test.false)
