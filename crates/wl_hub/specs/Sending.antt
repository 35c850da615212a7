-- The oldest frame for a tab is sent as bytes, or dropped.
use Rattle.std.specs.Prelude.{◌≡◌, ℕ, List, [], ◌∷◌, ◌++◌, Bool, true, ◌==◌}
use Rattle.wl_grammar.specs.declared.frame.Frame.{Frame}
use Rattle.wl_grammar.specs.declared.frame.Frame.TheVariants as frame
use Rattle.wl_grammar.specs.Grammar.{IsWellFormed, spelling}
use Rattle.wl_kernel.specs.Kernel.{KernelState, is_living}
use Rattle.wl_hub.specs.declared.sending.Output.{Output}
use Rattle.wl_hub.specs.declared.sending.Output.TheVariants.{Idle, For, Dropped}
use Rattle.wl_hub.specs.Hub.{HubState}

-- The frame belongs to no generation, or to this one.
abbrev pub is_current : ℕ → Frame → Bool
is_current g (frame.Hello h) = h.generation == g
is_current g (frame.Answer a) = a.generation == g
is_current g (frame.Snapshot s) = s.generation == g
is_current g f = true

-- Only a living tab receives frames, and none of an earlier generation.
pub record IsDue (k : KernelState) (t : ℕ) (f : Frame) : Type 0 where
  pub living : is_living k t ≡ true
  pub current : is_current k.generation f ≡ true
  pub well_formed : IsWellFormed f

-- Relates a hub, the result of `next_output`, the bytes before and after it, and the hub afterwards.
abbrev pub IsNext : HubState → Output → List ℕ → List ℕ → HubState → Type 0
IsNext h Idle before bytes after = (h.outputs ≡ []) × (bytes ≡ before) × (after ≡ h)
IsNext h (For t) before bytes after =
    (f : Frame) × (rest : List (ℕ × Frame)) × (h.outputs ≡ (t, f) ∷ rest) × IsDue h.supervised.kernel t f
    × (bytes ≡ before ++ spelling f) × (after ≡ record h { outputs = rest })
IsNext h Dropped before bytes after =
    (t : ℕ) × (f : Frame) × (rest : List (ℕ × Frame)) × (h.outputs ≡ (t, f) ∷ rest) × (IsDue h.supervised.kernel t f → ⊥)
    × (bytes ≡ before) × (after ≡ record h { outputs = rest })
