-- Length of a frame that the hub sends.
use Rattle.std.proofs.Common.{◌≡◌, ◌≤◌, ℕ, List, [], ◌++◌, length, arith, length-append, subst, sym, ap, ◌∙◌}
use Rattle.wl_grammar.specs.declared.frame.Frame.{Frame}
use Rattle.wl_grammar.specs.Grammar.{IsWellFormed, body, spelling, u32}
use Rattle.wl_grammar.proofs.BodyLength.{body_length}
use Rattle.wl_hub.specs.declared.sending.Output.{Output}
use Rattle.wl_hub.specs.declared.sending.Output.TheVariants.{Idle, For, Dropped}
use Rattle.wl_hub.specs.Hub.{HubState}
use Rattle.wl_hub.specs.Sending.{IsNext}
use Rattle.wlb_hub.specs.declared.links.TheConstants.{WLB_FRAME_BYTES}

spelling_length : (f : Frame) → IsWellFormed f → length (spelling f) ≤ WLB_FRAME_BYTES
unfolding spelling
spelling_length f h = let n = body_length f h in omega (arith, n.1, length-append (u32 (length (body f))) (body f))

is_short : (before bytes : List ℕ) → before ≡ [] → bytes ≡ before → length bytes ≤ WLB_FRAME_BYTES
is_short before bytes empty is = subst (λ (bs : List ℕ). length bs ≤ WLB_FRAME_BYTES) (sym (is ∙ empty)) (omega arith)

pub next_length : (h new : HubState) (done : Output) (before bytes : List ℕ) → before ≡ [] → IsNext h done before bytes new → length bytes ≤ WLB_FRAME_BYTES
next_length h new Idle before bytes empty (none, is, now) = is_short before bytes empty is
next_length h new Dropped before bytes empty (t, f, rest, first, due, is, now) = is_short before bytes empty is
next_length h new (For t) before bytes empty (f, rest, first, due, is, now) =
    subst (λ (bs : List ℕ). length bs ≤ WLB_FRAME_BYTES) (sym (is ∙ ap (λ (b : List ℕ). b ++ spelling f) empty)) (spelling_length f due.well_formed)
