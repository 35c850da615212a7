use Rattle.std.proofs.Common.{◌≡◌, ◌++◌, ◌==◌, map, filter, not, take}
use Rattle.wl_grammar.specs.declared.frame.Frame.TheVariants as frame
use Rattle.wl_kernel.specs.Routes.{waiting}
use Rattle.wl_kernel.proofs.routes.copies.Given as goal

-- The copies made so far, followed by the post for the last recipient found.
abbrev pub invariant-loop-member : goal.invariant-loop-member
invariant-loop-member l =
    l.heard.items ++ waiting l.post l.last ≡ map (λ n. (n, frame.Heard l.post)) (filter (λ n. not (n == l.post.source)) (take l.member-index l.members))
