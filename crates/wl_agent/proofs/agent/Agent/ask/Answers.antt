use Rattle.std.proofs.Common.{List, ℕ, sym, ◌∙◌, subst}
use Rattle.wl_grammar.specs.Grammar.{IsLockName}
use Rattle.wl_agent.proofs.Spellings.{name-spoken}
use Rattle.wl_agent.proofs.agent.Agent.ask.Goals as goal

pub issue-requires-clause-spoken : goal.issue-requires-clause-spoken
issue-requires-clause-spoken c =
    let refused = sym c.ask_refusal.ensures ∙ c.in_default.is in
    subst (λ (name : List ℕ). IsLockName name) (sym (c.new-name.ensures ∙ c.in_ok-from_str.ensures.ok)) (name-spoken c.args.self.now c.args.name.now refused c.utf8.name)
