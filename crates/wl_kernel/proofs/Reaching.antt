-- Reachability: each call of the kernel leads to a kernel that a list of calls reaches.
use Rattle.std.proofs.Common.{◌≡◌, ℕ, Bool, true, false, List, [], ◌∷◌, ◌++◌, Option, Some, None, is_some, if◌then◌else◌, refl, sym, ap, ◌∙◌, subst}
use Rattle.wl_origin.specs.Order.{Pair}
use Rattle.wl_kernel.specs.Kernel.{KernelState, no_tabs, living_tabs, open_refusal, opened, kill_refusal, killed, may_stop, stopped, start_refusal}
use Rattle.wl_kernel.specs.KernelLaws.{Call, Opens, Kills, Stops, step, after, reached}
use Rattle.wl_kernel.specs.SupervisorStates.{IsReached}
use Rattle.wl_kernel.proofs.Limits.{starts_with_all}

after-push : (calls : List Call) (call : Call) (k : KernelState) → after (calls ++ call ∷ []) k ≡ step call (after calls k)
after-push [] call k = refl
after-push (c ∷ calls) call k = after-push calls call (step c k)

one_more : (k m : KernelState) (call : Call) → step call k ≡ m → m.last ≡ k.last → IsReached k → IsReached m
one_more k m call steps last so = record {
  calls = so.calls ++ call ∷ [];
  made = sym steps ∙ ap (step call) so.made ∙ sym (after-push so.calls call (no_tabs k.last)) ∙ ap (reached (so.calls ++ call ∷ [])) (sym last);
}

allowed : {F : Type 0} (r : Option F) (k l : KernelState) → r ≡ None → (if is_some r then k else l) ≡ l
allowed None k l e = refl
allowed (Some f) k l e = cc

tested : (b : Bool) (k l : KernelState) → b ≡ true → (if b then l else k) ≡ l
tested true k l e = refl
tested false k l e = cc

pub opens_reached : (t : ℕ) (p : Pair) (k : KernelState) → open_refusal t p k ≡ None → IsReached k → IsReached (opened t p k)
opens_reached t p k due so = one_more k (opened t p k) (Opens t p) (allowed (open_refusal t p k) k (opened t p k) due) refl so

pub kills_reached : (t : ℕ) (k : KernelState) → kill_refusal t k ≡ None → IsReached k → IsReached (killed t k)
kills_reached t k due so = one_more k (killed t k) (Kills t) (allowed (kill_refusal t k) k (killed t k) due) refl so

pub starts_reached : (k : KernelState) → IsReached k → start_refusal (living_tabs k) k ≡ None
starts_reached k so = subst (λ (m : KernelState). start_refusal (living_tabs m) m ≡ None) (sym so.made) (starts_with_all k.last so.calls)

pub stops_reached : (k : KernelState) → may_stop k ≡ true → IsReached k → IsReached (stopped k)
stops_reached k may so = one_more k (stopped k) Stops (tested (may_stop k) k (stopped k) may) refl so
