-- A lemma on the gathered bytes after a tab's frame.
use Rattle.std.proofs.Common.{◌≡◌, ◌++◌, ℕ, List, Option, Some, None}
use Rattle.wl_grammar.specs.declared.frame.Frame.{Frame}
use Rattle.wl_grammar.specs.declared.frame.Frame.TheVariants as frame
use Rattle.wl_kernel.specs.declared.fault.RouteFault.{RouteFault}
use Rattle.wl_kernel.specs.declared.fault.RouteFault.TheVariants.{WrongKind}
use Rattle.wl_kernel.specs.Kernel.{KernelState}
use Rattle.wl_kernel.specs.Routes.{route_up_refusal, routed_up}
use Rattle.wl_process_rules.specs.RunningKernel.{to_broker}
use Rattle.wl_process_kernel.specs.Gathered.{left_by, gathered_after}

wrong_kind : {A : Type 0} → ◌≡◌ {A = Option RouteFault} (Some WrongKind) None → A
wrong_kind {A} is =
    let some : Option RouteFault = Some WrongKind in
    let none : Option RouteFault = None in
    let k : some ≡ none = is in cc

-- A frame that a tab may send leaves the bytes for the broker behind those that it leaves there: a post leaves none.
pub sent_behind : (t : ℕ) (f : Frame) (k : KernelState) (before after : List ℕ) → route_up_refusal t f k ≡ None → after ≡ gathered_after before (routed_up t f k) → after ≡ left_by f before ++ to_broker (routed_up t f k)
sent_behind t (frame.Command c) k before after allowed is = is
sent_behind t (frame.Report r) k before after allowed is = is
sent_behind t (frame.ReportPart r) k before after allowed is = is
sent_behind t (frame.Post p) k before after allowed is = is
sent_behind t (frame.Hello h) k before after allowed is = wrong_kind allowed
sent_behind t (frame.Answer a) k before after allowed is = wrong_kind allowed
sent_behind t (frame.Snapshot s) k before after allowed is = wrong_kind allowed
sent_behind t (frame.Heard h) k before after allowed is = wrong_kind allowed
sent_behind t (frame.Welcome w) k before after allowed is = wrong_kind allowed
sent_behind t (frame.PairWelcome w) k before after allowed is = wrong_kind allowed
sent_behind t (frame.Stamped s) k before after allowed is = wrong_kind allowed
sent_behind t (frame.Start s) k before after allowed is = wrong_kind allowed
sent_behind t (frame.Addressed a) k before after allowed is = wrong_kind allowed
sent_behind t (frame.Dead d) k before after allowed is = wrong_kind allowed
