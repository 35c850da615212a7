-- A broker that is up is not stopped only if its generation is the last.
use Rattle.std.proofs.Common.{◌≡◌, true, false, cond, Option, None, Some, is_some, refl, sym, true≢false}
use Rattle.wl_broker.specs.Broker.{BrokerState}
use Rattle.wl_kernel.specs.Kernel.{KernelState, may_stop, stopped}
use Rattle.wl_world_messages.specs.declared.effect.Effect.TheVariants as said
use Rattle.wl_world_messages.specs.declared.effect.Refusal.TheVariants as refusal
use Rattle.wl_world_messages.specs.Refused.{refused}
use Rattle.wl_supervised_broker.specs.Changes.{stop_change}
use Rattle.wl_supervised_broker.specs.SupervisedStates.{SupervisedState, changed, after_stop}
use Rattle.wl_supervised_broker.specs.Supervising.{stop_effect}
use Rattle.wl_hub.specs.Stored.{is_stop}

last : (k : KernelState) (o : Option BrokerState) → is_some o ≡ true → is_stop (stop_effect k o) ≡ false → may_stop k ≡ false
last k None up e = absurd (true≢false (sym up))
last k (Some b) up e =
    elim (may_stop k) as (λ m. is_stop (cond m (said.Stopped k.generation) (refused refusal.GenerationsUsedUp)) ≡ false → m ≡ false) [ true ↦ (λ h. h) | false ↦ (λ _. refl) ] e

pub last_generation : (s : SupervisedState) → is_some s.broker ≡ true → is_stop (stop_effect s.kernel s.broker) ≡ false → may_stop s.kernel ≡ false
last_generation s up e = last s.kernel s.broker up e

same : (k : KernelState) (o : Option BrokerState) (s : SupervisedState) → may_stop k ≡ false → is_some o ≡ true → changed (stop_change k o) s ≡ s
same k None s m up = refl
same k (Some b) s m up = (λ i. cond (m i) (record { kernel = stopped k; broker = None }) s)

pub stays : (s : SupervisedState) → is_some s.broker ≡ true → is_stop (stop_effect s.kernel s.broker) ≡ false → after_stop s ≡ s
stays s up e = same s.kernel s.broker s (last_generation s up e) up
