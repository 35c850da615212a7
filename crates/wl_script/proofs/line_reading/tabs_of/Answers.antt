use Rattle.std.proofs.Common.{[]}
use Rattle.std.proofs.lemmas.Result.{err_from_is_err_and}
use Rattle.wl_script.proofs.Texts.{tabs_fail, tabs_go_on, tabs_are}
use Rattle.wl_script.proofs.line_reading.tabs_of.Goals as goal

pub returns-in_err-tab_of : goal.returns-in_err-tab_of
returns-in_err-tab_of c =
    let p = err_from_is_err_and c.from_residual.result c.from_residual.ensures.1 in
    rw (p.1, p.2) (tabs_fail c.in_err-tab_of.field-0.0 c.loop-word.tabs.items c.args.words.now c.loop-word.word-index (record { ref_ptr = (0, 0); now = [] }) c.loop-word-test.true c.in_err-tab_of.ensures c.loop-word.invariant)

pub loop-word-preserved : goal.loop-word-preserved
loop-word-preserved c =
    rw c.in_ok-push.ensures.items (tabs_go_on c.loop-word.tabs.items c.args.words.now c.loop-word.word-index (record { ref_ptr = (0, 0); now = [] }) c.in_ok-tab_of.field-0 c.loop-word-test.true c.in_ok-tab_of.ensures c.loop-word.invariant)

pub returns : goal.returns
returns c =
    rw c.new.ensures (tabs_are c.loop-word.tabs.items c.args.words.now c.loop-word.word-index c.loop-word-test.false c.loop-word.invariant)
