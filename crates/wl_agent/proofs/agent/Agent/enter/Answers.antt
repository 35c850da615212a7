use Rattle.std.proofs.Common.{Bool, sym, ap, subst, arith}
use Rattle.wl_agent.specs.Tab.{TabState}
use Rattle.wl_agent.specs.AgentInvariant.{IsValidReport}
use Rattle.wl_agent.proofs.EnterSteps.{base-le, enters}
use Rattle.wl_agent.proofs.ToldReports.{enters-frames}
use Rattle.wl_agent.proofs.Spellings.{enters-spoken}
use Rattle.wl_agent.proofs.agent.Agent.enter.Goals as goal

pub begin-requires-clause-base : goal.begin-requires-clause-base
begin-requires-clause-base c = base-le c.args.generation c.args.self.now _ _ c.in_ok-report.ensures.report c.carry.ensures

pub returns-clause-ok : goal.returns-clause-ok
returns-clause-ok c = enters c.args.generation c.args.self.now _ _ _ c.in_ok-report.ensures.report c.carry.ensures c.begin.ensures

pub returns-clause-frames : goal.returns-clause-frames
returns-clause-frames c =
    enters-frames c.args.generation c.args.self.now _ _ _ (ap (λ (a : TabState). a.in_parts) c.self.view_is) c.in_ok-report.ensures.report c.in_ok-frames.ensures

pub returns-clause-spoken : goal.returns-clause-spoken
returns-clause-spoken c =
    let tellable = subst (λ (b : Bool). IsValidReport b c.in_ok-report.report) (sym (ap (λ (a : TabState). a.in_parts) c.self.view_is)) c.in_ok-report.ensures.tellable in
    enters-spoken c.args.generation c.args.self.now _ _ _ c.in_ok-report.ensures.report (omega (arith, c.requires), omega (arith, c.ranges.generation)) tellable c.in_ok-frames.ensures
