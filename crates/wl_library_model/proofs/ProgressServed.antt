-- The first request of a new tab for a free lock is granted.
use Rattle.std.proofs.Common.{◌≡◌, ℕ, ◌≤◌, Bool, true, false, cond, not, List, [], ◌∷◌, ◌++◌, length, replicate, Option, Some, None, Ok, refl, sym, ap, ◌∙◌, subst}
use Rattle.std.specs.Prelude.{nat_lt}
use Rattle.std.proofs.lemmas.Bool.{le-ltb}
use Rattle.wl_origin.specs.Order.{Pair}
use Rattle.wl_limits.specs.declared.texts.TheConstants.{NAME_LIMIT}
use Rattle.wl_broker.specs.Broker.{BrokerState}
use Rattle.wl_agent.specs.declared.fault.AgentFault.TheVariants.{NotSupported, NameTooLong}
use Rattle.wl_agent.specs.Tab.{is_supported, live_refusal, ask_refusal, enter_first}
use Rattle.wl_tab.specs.Tabs.{told}
use Rattle.wl_world_model.specs.World.{empty_world, run}
use Rattle.wl_world_model.proofs.apart.RunsApart.{reached}
use Rattle.wl_library_model.specs.Library.{Library, Step, Opens, HubSends, ClientReceives, ClientAdvances, new_library, client_of, runs, step, run_steps}
use Rattle.wl_library_model.specs.Events.{events}
use Rattle.wl_library_model.specs.Promises.{IsHolding}
use Rattle.wl_library_model.specs.Library.{to_hub}
use Rattle.wl_library_model.specs.Progress.{sent_out, handled, received, IsQuiet, IsIdle, HasJoined, HasRoom, IsFree, granted, joined, NewTabsAreServed}
use Rattle.wl_library_model.proofs.Simulated.{run-sim}
use Rattle.wl_library_model.proofs.ProgressRequests.{requests-are_granted}
use Rattle.wl_library_model.proofs.ProgressJoins.{first, first-issued, new-locks, new-tabs_join}

-- The deliveries are steps

abbrev IsReached : Library → Type 0
IsReached l = (steps : List Step) × (run_steps steps new_library ≡ l)

runs-on : (xs ys : List Step) (l : Library) → run_steps (xs ++ ys) l ≡ run_steps ys (run_steps xs l)
runs-on [] ys l = refl
runs-on (x ∷ xs) ys l = runs-on xs ys (step x l)

on : (ys : List Step) (l : Library) → IsReached l → IsReached (run_steps ys l)
on ys l h = (h.0 ++ ys, runs-on h.0 ys new_library ∙ ap (run_steps ys) h.1)

on-handled : (t : ℕ) (l : Library) → IsReached l → IsReached (handled t l)
on-handled t l h = on (replicate (length (client_of l t).arrived) (ClientAdvances t)) l h

on-received : (t : ℕ) (l : Library) → IsReached l → IsReached (received t l)
on-received t l h = on (ClientReceives t (length (l.lines t).down) ∷ []) l h

on-sent : (l : Library) → IsReached l → IsReached (sent_out l)
on-sent l h = on (replicate (length l.hub.outputs) HubSends) l h

on-joined : (t : ℕ) (p : Pair) (i : Bool) (steps : List Step) → IsReached (joined t p i (run_steps steps new_library))
on-joined t p i steps =
    let l1 = run_steps (Opens t (Ok p) i ∷ []) (run_steps steps new_library) in
    let l2 = handled t (sent_out l1) in
    let l3 = received t l2 in
    on (to_hub t 2 1) (handled t l3)
    (on-handled t l3 (on-received t l2 (on-handled t (sent_out l1) (on-sent l1 (on (Opens t (Ok p) i ∷ []) (run_steps steps new_library) (steps, refl))))))

-- The new tab's request

first-numbers : (t : ℕ) (i : Bool) (g : ℕ) → live_refusal (first t i g) 2 ≡ None
unfolding told enter_first
first-numbers t true g = refl
first-numbers t false g = refl

first-asks : (t : ℕ) (i : Bool) (g : ℕ) (name : List ℕ) → is_supported name ≡ true → length name ≤ NAME_LIMIT → ask_refusal (first t i g) name ≡ None
unfolding told enter_first
first-asks t i g name s fits =
    ap (λ c. cond (not c) (Some NotSupported) (cond (nat_lt NAME_LIMIT (length name)) (Some NameTooLong) (live_refusal (first t i g) 2))) s
    ∙ (ap (λ c. cond c (Some NameTooLong) (live_refusal (first t i g) 2)) (le-ltb NAME_LIMIT (length name) fits)
    ∙ first-numbers t i g)

pub new-tabs_are-served : NewTabsAreServed
new-tabs_are-served steps t p i b c mode name n up idle up_now idle_now s fits free =
    let m = joined t p i (run_steps steps new_library) in
    let locks = new-locks (run_steps steps new_library) (run (events steps) empty_world) (run-sim steps) t p i b (reached p (events steps)) n up idle in
    let o = on-joined t p i steps in
    let r = new-tabs_join steps t p i b n up idle in
    let same = ap (or_broker c) (sym r.joined.up ∙ up_now) in
    let asks = ap (λ a. ask_refusal a name) locks ∙ first-asks t i b.generation name s fits in
    subst (IsHolding (granted t mode name m) t) (ap (λ a. length a.issued) locks ∙ ap length (first-issued t i b.generation))
    (subst (λ z. runs z t ≡ true → IsQuiet z t → IsIdle z → HasJoined z t c → HasRoom z t c → ask_refusal (client_of z t).locks name ≡ None → IsFree z t c mode name → IsHolding (granted t mode name z) t (length (client_of z t).locks.issued)) o.1
    (requests-are_granted o.0 t mode name c) r.runs r.quiet idle_now (subst (HasJoined m t) same r.joined) (subst (HasRoom m t) same r.room) asks free)
  where
    or_broker : BrokerState → Option BrokerState → BrokerState
    or_broker d None = d
    or_broker d (Some x) = x
