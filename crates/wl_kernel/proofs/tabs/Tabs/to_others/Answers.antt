use Rattle.std.proofs.Common.{ℕ, List, subst, arith, not, ◌==◌, map, filter, Option, sym, ap, ◌∙◌}
use Rattle.std.specs.List.{AllByRecursion}
use Rattle.wl_grammar.specs.declared.frame.Frame.{Frame}
use Rattle.wl_grammar.specs.Grammar.{IsTab, IsWellFormed}
use Rattle.wl_kernel.specs.declared.routes.Routed.TheVariants.{Tabs}
use Rattle.wl_kernel.specs.Kernel.{OpenedTab}
use Rattle.wl_kernel.specs.TableIndexes.{seen_in, partition_of}
use Rattle.wl_kernel.specs.Routes.{heard_of, hearers_beside}
use Rattle.wl_kernel.proofs.Routing.{all_heard}
use Rattle.wl_kernel.proofs.tabs.Tabs.to_others.Goals as goal

pub returns-clause-routed : goal.returns-clause-routed
returns-clause-routed c =
    let t = c.args.tab in
    let post : ℕ → ℕ × Frame = λ n. (n, heard_of t c.args.post) in
    ap Tabs (c.new.ensures ∙ c.in_ok-heard.ensures.heard
    ∙ ap (λ ns. map post (filter (λ n. not (n == t)) ns)) (c.members-members.ensures ∙ ap (λ (h : ℕ × List ℕ). h.1) c.in_ok-found.ensures.home)
    ∙ sym (ap (λ (o : Option OpenedTab). map post (hearers_beside c.args.self.now t o)) c.in_ok-found.ensures.row))

pub returns-clause-well_formed : goal.returns-clause-well_formed
returns-clause-well_formed c post =
    let t = c.args.tab in
    let one = c.in_ok-found.ensures.from_one (seen_in (partition_of c.args.self.now t) c.in_ok-found.found.row.now) c.in_ok-found.ensures.row in
    let own : IsTab t = (one.0, omega arith) in
    subst (AllByRecursion (λ (h : ℕ × Frame). IsWellFormed h.1)) (sym (c.new.ensures ∙ c.in_ok-heard.ensures.heard))
    (all_heard t c.args.post (filter (λ n. not (n == t)) c.members-members.result.now) own post)
