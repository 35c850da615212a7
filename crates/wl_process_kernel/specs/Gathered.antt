-- Frames of a tab that its reader has gathered for the broker, when the kernel forwards the tab's next frame.
use Rattle.std.specs.Prelude.{ℕ, List, [], ◌++◌}
use Rattle.wl_grammar.specs.declared.frame.Frame.{Frame}
use Rattle.wl_grammar.specs.declared.frame.Frame.TheVariants.{Post}
use Rattle.wl_grammar.specs.Grammar.{spelling}
use Rattle.wl_kernel.specs.declared.routes.Routed.{Routed}
use Rattle.wl_kernel.specs.declared.routes.Routed.TheVariants.{Broker, Tabs}

-- The gathered bytes that still wait when this frame is forwarded. Before a post all of them are written to the broker.
abbrev pub left_by : Frame → List ℕ → List ℕ
left_by (Post p) gathered = []
left_by f gathered = gathered

-- The gathered bytes after a routed frame.
abbrev pub gathered_after : List ℕ → Routed → List ℕ
gathered_after gathered (Broker f) = gathered ++ spelling f
gathered_after gathered (Tabs heard) = []
