use Rattle.std.proofs.Common.{◌==◌, ℕ, Bool, map, not, sym, ap, ◌∙◌, arith}
use Rattle.wl_kernel.specs.Routes.{heard_of}
use Rattle.wl_kernel.proofs.Routing.{nobody, somebody}
use Rattle.wl_kernel.proofs.routes.heard.Goals as goal

pub returns-then-others-eq0-clause-heard : goal.returns-then-others-eq0-clause-heard
returns-then-others-eq0-clause-heard c =
    let test : ℕ → Bool = λ n. not (n == c.args.source) in
    c.new.ensures.items ∙ sym (ap (map (λ n. (n, heard_of c.args.source c.args.post)))
    (nobody test c.args.members.now c.others_of-others.result c.others_of-others.ensures (omega arith)))

pub returns-in-Err-clause-growth : goal.returns-in-Err-clause-growth
returns-in-Err-clause-growth c =
    let test : ℕ → Bool = λ n. not (n == c.args.source) in
    somebody test c.args.members.now c.others_of-others.result c.others_of-others.ensures (omega arith)
