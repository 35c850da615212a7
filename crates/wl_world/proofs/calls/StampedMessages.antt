-- A tab's frames to the broker, as the kernel routes them.
use Rattle.std.proofs.Common.{◌≡◌, ℕ, List, [], ◌∷◌, ◌++◌, map, refl, ap, ◌∙◌}
use Rattle.std.specs.List.{flat_map}
use Rattle.wl_grammar.specs.declared.frame.Upward.{Upward}
use Rattle.wl_grammar.specs.declared.frame.Upward.TheVariants as up
use Rattle.wl_agent.specs.Tab.{upward_frame}
use Rattle.wl_kernel.specs.Kernel.{KernelState}
use Rattle.wl_world_messages.specs.declared.message.Message.{Message}
use Rattle.wl_world.specs.Components.{passed_up}
use Rattle.wl_world_model.specs.Sends.{stamped}

pub upward-stamped : (k : KernelState) (t : ℕ) (u : Upward) → passed_up k t (upward_frame u) ≡ stamped k t u ∷ []
upward-stamped k t (up.Command c) = refl
upward-stamped k t (up.Report r) = refl
upward-stamped k t (up.ReportPart r) = refl

-- The kernel stamps each part of a report.
pub upwards-stamped : (k : KernelState) (t : ℕ) (us : List Upward) → flat_map (passed_up k t) (map upward_frame us) ≡ map (stamped k t) us
upwards-stamped k t [] = refl
upwards-stamped k t (u ∷ us) =
    ap (λ (ms : List Message). ms ++ flat_map (passed_up k t) (map upward_frame us)) (upward-stamped k t u)
    ∙ ap (λ (ms : List Message). stamped k t u ∷ ms) (upwards-stamped k t us)
