use Rattle.std.proofs.Common.{◌+◌, map, drop, sym, ap, ◌∙◌, subst, arith}
use Rattle.std.proofs.lemmas.List.{drop_all}
use Rattle.wl_locked.specs.Marks.{IsMarked, AreMarked, AreRefused}
use Rattle.wl_locked.proofs.Runs.{front, lanes-cons, lanes-nil, refused-later}
use Rattle.wl_locked.proofs.marking.mark_all.Goals as goal

pub loop-lane-preserved : goal.loop-lane-preserved
loop-lane-preserved g c =
    let of = g.L.ShardReceipts.kept c.args.shard in
    let xs = c.args.lanes.now in
    let l = c.loop-lane in
    let lane = c.lane-item.result in
    let steps = c.args.steps.now in
    let new = c.mark_lane.new.marks in
    let rest = drop (l.lane-index + 1) xs in
    let first = ap (map of) (front xs l.lane-index lane (omega arith) c.lane-item.is) in
    let here = subst (λ rs. IsMarked steps 0 rs l.marks new) c.kept.ensures c.in_ok-mark_lane.ensures.ok in
    record {
      lengths = here.same ∙ l.invariant.lengths;
      marked = λ out h. l.invariant.marked out (subst (λ ls. AreMarked steps ls l.marks out) (sym first) (lanes-cons steps l.marks new out (of lane) (map of rest) here h));
      refused = λ p h. l.invariant.refused p (subst (λ ls. AreRefused steps ls l.marks p) (sym first) (refused-later steps l.marks new (of lane) (map of rest) p here h));
    }

pub returns-clause-ok : goal.returns-clause-ok
returns-clause-ok g c =
    let of = g.L.ShardReceipts.kept c.args.shard in
    let xs = c.args.lanes.now in
    let l = c.loop-lane in
    let none = ap (map of) (drop_all l.lane-index xs (omega arith)) in
    l.invariant.marked l.marks (subst (λ ls. AreMarked c.args.steps.now ls l.marks l.marks) (sym none) (lanes-nil c.args.steps.now l.marks))
