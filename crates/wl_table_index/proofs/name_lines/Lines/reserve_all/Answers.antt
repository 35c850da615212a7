use Rattle.std.proofs.Common.{◌≡◌, ◌∙◌, ◌≤◌, ◌+◌, ℕ, List, Bool, true, false, cond, refl, arith, take}
use Rattle.std.specs.Prelude.{bytes_eq}
use Rattle.std.proofs.lemmas.Grind.{text_counts}
use Rattle.wl_draft.specs.declared.row.Row.{Row}
use Rattle.wl_table_index.specs.declared.name_lines.Lines.{Lines}
use Rattle.wl_table_index.specs.NameLines.{room_at, count_named}
use Rattle.wl_table_index.proofs.NextLemmas.{text-same}
use Rattle.wl_table_index.proofs.LeanLemmas.{idle-more, idle-within, named-within}
use Rattle.wl_table_index.proofs.RoomLemmas.{named-more, count-more, count-upto}
use Rattle.wl_table_index.proofs.name_lines.Lines.reserve_all.Goals as goal

pub overflow_add-count : goal.overflow_add-count
overflow_add-count c =
    let i = c.loop-row.row-index in
    let rows = c.args.rows.now in
    let count : c.unwrap_or-count.result ≡ count_named c.row-item.result.name (take i rows) = grind (arith, text_counts, c.loop-row.invariant.counts c.row-item.result.name) in
    omega (arith, count, count-upto c.row-item.result.name rows i c.loop-row.auto.row-index-end, c.loop-row-test.true)

room-step : (old new : Lines) (rows : List Row) (i : ℕ) (n name : List ℕ) (b : Bool) → bytes_eq n name ≡ b → count_named n (take i rows) ≤ room_at old n → room_at old n ≤ room_at new n → count_named name (take i rows) + 1 ≤ room_at new name → count_named n (take i rows) + cond b 1 0 ≤ room_at new n
room-step old new rows i n name true e before kept here =
    rw (text-same n name e) here
room-step old new rows i n name false e before kept here = omega (arith, before, kept)

pub loop-row-preserved : goal.loop-row-preserved
loop-row-preserved c =
    let l = c.loop-row in
    let k = l.row-index in
    let rows = c.args.rows.now in
    let r = c.row-item.result in
    let i = l.invariant in
    let count : c.unwrap_or-count.result ≡ count_named r.name (take k rows) = grind (arith, text_counts, i.counts r.name) in
    let here : count_named r.name (take k rows) + 1 ≤ room_at c.reserve.new.self r.name = omega (arith, count, c.in_ok-reserve.ensures.room) in
    record {
      lines = λ n. c.reserve.ensures.lines n ∙ i.lines n;
      kept_lines = λ n h. c.reserve.ensures.kept_lines n (i.kept_lines n h);
      counts = λ q. grind (arith, text_counts, i.counts q, count-more q rows k r c.loop-row-test.true c.row-item.is);
      room = λ q. rw (count-more q rows k r c.loop-row-test.true c.row-item.is) (room-step l.self c.reserve.new.self rows k q r.name (bytes_eq q r.name) refl (i.room q) (c.reserve.ensures.kept q) here);
      idle = λ n e. idle-more _ _ _ _ _ (c.reserve.ensures.idle n e) (i.idle n) (named-more n c.args.rows.now c.loop-row.row-index c.row-item.result c.loop-row-test.true c.row-item.is);
    }

pub returns-in_err-reserve-clause-idle : goal.returns-in_err-reserve-clause-idle
returns-in_err-reserve-clause-idle c = λ n e.
    let rows = c.args.rows.now in
    let k = c.loop-row.row-index in
    idle-within _ _ _ (idle-more _ _ _ _ _ (c.reserve.ensures.idle n e) (c.loop-row.invariant.idle n) (named-more n rows k c.row-item.result c.loop-row-test.true c.row-item.is)) (named-within n rows (k + 1))

pub returns-in_err-insert-clause-idle : goal.returns-in_err-insert-clause-idle
returns-in_err-insert-clause-idle c = λ n e. idle-within _ _ _ (c.loop-row.invariant.idle n e) (named-within n c.args.rows.now c.loop-row.row-index)
