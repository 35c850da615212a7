use Rattle.std.proofs.Common.{sym, ◌∙◌}
use Rattle.std.proofs.lemmas.Result.{IfOk-weaker}
use Rattle.wl_script.proofs.PlayLemmas.{opens_greeted, opens_alone, not_both}
use Rattle.wl_script.proofs.play.open_in.Goals as goal

pub returns-then-is_up : goal.returns-then-is_up
returns-then-is_up c =
    IfOk-weaker c.happen.result _ _
    (λ after h. opens_greeted c.args.in_parts c.args.world.world c.args.tab c.args.partition c.in_ok-world.world after c.args.out.now.items c.try_open.new.out.items c.happen.new.out.items
    (sym c.in_ok-world.ensures.opened ∙ c.if-is_opened.true) (sym c.is_up-is_up.ensures ∙ c.if-is_up.true) c.in_ok-world.ensures.plays h)
    c.happen.ensures

pub returns : goal.returns
returns c =
    opens_alone c.args.in_parts c.args.world.world c.args.tab c.args.partition c.in_ok-world.world c.args.out.now.items c.try_open.new.out.items
    (not_both c.in_ok-world.is_opened c.is_up-is_up.result _ _ c.in_ok-world.ensures.opened c.is_up-is_up.ensures c.else-is_opened.either)
    c.in_ok-world.ensures.plays
