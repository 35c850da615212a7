use Rattle.std.proofs.Common.{◌≡◌, ◌<◌, ◌≤◌, length, get_or, sym, rules}
use Rattle.wl_broadcast.proofs.Numbered.{is_open_here, is_open_nowhere}
use Rattle.wl_broadcast.proofs.object.is_open_at.Goals as goal

pub returns-in-Some-clause-value : goal.returns-in-Some-clause-value
returns-in-Some-clause-value c =
    let below : c.args.number < length c.args.objects.now = search rules in
    let here : c.in-Some.object.now ≡ get_or c.args.objects.now c.args.number c.in-Some.object.now = search rules in
    sym (is_open_here c.args.objects.now c.args.number c.in-Some.object.now below here)

pub returns-in-None-clause-value : goal.returns-in-None-clause-value
returns-in-None-clause-value c =
    let past : length c.args.objects.now ≤ c.args.number = search rules in
    sym (is_open_nowhere c.args.objects.now c.args.number past)
