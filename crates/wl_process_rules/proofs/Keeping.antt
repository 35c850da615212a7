-- Proofs of the laws of the orders.
use Rattle.std.proofs.Common.{◌≡◌, ℕ, Bool, true, false, not, ◌&&◌, eqb, List, [], ◌∷◌, ◌++◌, Some, None, Ok, refl, sym, ap, ◌∙◌, arith}
use Rattle.std.proofs.lemmas.Bool.{true≢false, eqb-true}
use Rattle.std.proofs.lemmas.Bool.Decides.{nat_tests}
use Rattle.wl_process.specs.declared.fault.ProcessFault.{ProcessFault}
use Rattle.wl_process_rules.specs.declared.broker_orders.BrokerOrders.{BrokerOrders}
use Rattle.wl_process_rules.specs.declared.broker_orders.Phase.{Phase}
use Rattle.wl_process_rules.specs.declared.broker_orders.Phase.TheVariants.{Idle, Starting, Up, Stopping, Spent, Failed}
use Rattle.wl_process_rules.specs.BrokerOrders.{no_orders, in_phase, is_news, asked, asked_in, first_of, up_as, is_there, rested, runs_as, next_phase, ending, is_stopping}
use Rattle.wl_process_rules.specs.BrokerKeeping.{Told, Asked, Stopped, IsUp, IsLost, HasEnded, Fails, Closes, told, after, Every, is_start, is_close, first_up, TellsTheFirst, only_asks, WaitsForTheEnd, leaves_up, Runs, MissesWhatRuns, MissesAllThatRuns, without_broker, FailsForGood}

-- A start

stays_started : (g : ℕ) (ts : List Told) (o : BrokerOrders) → o.started ≡ Some g → Every (λ t. not (is_start t)) ts → (after ts o).started ≡ Some g
stays_started g [] o is n = is
stays_started g (Asked ∷ ts) o is n = cc
stays_started g (Stopped ∷ ts) o is n = stays_started g ts (in_phase Stopping o) is n.1
stays_started g (IsUp h ∷ ts) o is n = stays_started g ts (up_as h o) (ap (λ s. first_of s h) is) n.1
stays_started g (IsLost b ∷ ts) o is n = stays_started g ts (in_phase (next_phase b) o) is n.1
stays_started g (HasEnded ∷ ts) o is n = stays_started g ts (in_phase (rested o.phase) o) is n.1
stays_started g (Fails f ∷ ts) o is n = stays_started g ts (in_phase (Failed f) o) is n.1
stays_started g (Closes ∷ ts) o is n = stays_started g ts (ending o) is n.1

first_started : (ts : List Told) (o : BrokerOrders) → o.started ≡ None → Every (λ t. not (is_start t)) ts → (after ts o).started ≡ first_up ts
first_started [] o is n = is
first_started (Asked ∷ ts) o is n = cc
first_started (Stopped ∷ ts) o is n = first_started ts (in_phase Stopping o) is n.1
first_started (IsUp h ∷ ts) o is n = stays_started h ts (up_as h o) (ap (λ s. first_of s h) is) n.1
first_started (IsLost b ∷ ts) o is n = first_started ts (in_phase (next_phase b) o) is n.1
first_started (HasEnded ∷ ts) o is n = first_started ts (in_phase (rested o.phase) o) is n.1
first_started (Fails f ∷ ts) o is n = first_started ts (in_phase (Failed f) o) is n.1
first_started (Closes ∷ ts) o is n = first_started ts (ending o) is n.1

none_started : (p : Phase) (o : BrokerOrders) → is_news p ≡ Ok true → (asked_in p o).started ≡ None
none_started Idle o is = refl
none_started Starting o is = cc
none_started (Up g) o is = cc
none_started Stopping o is = cc
none_started Spent o is = cc
none_started (Failed f) o is = cc

pub tells_the_first : TellsTheFirst
tells_the_first o ts news n = first_started ts (asked o) (none_started o.phase o news) n

-- A stop

stays_stopping : (ts : List Told) (o : BrokerOrders) → o.phase ≡ Stopping → Every only_asks ts → (after ts o).phase ≡ Stopping
stays_stopping [] o is n = is
stays_stopping (Asked ∷ ts) o is n = stays_stopping ts (asked o) (ap (λ p. (asked_in p o).phase) is ∙ is) n.1
stays_stopping (Stopped ∷ ts) o is n = cc
stays_stopping (IsUp h ∷ ts) o is n = cc
stays_stopping (IsLost b ∷ ts) o is n = cc
stays_stopping (HasEnded ∷ ts) o is n = cc
stays_stopping (Fails f ∷ ts) o is n = cc
stays_stopping (Closes ∷ ts) o is n = stays_stopping ts (ending o) is n.1

pub waits_for_the_end : WaitsForTheEnd
waits_for_the_end o ts n =
    let is = stays_stopping ts (in_phase Stopping o) refl n in
    (ap is_stopping is, ap (λ p. is_news (rested p)) is)

-- The end of a broker

stays_up : (g : ℕ) (ts : List Told) (o : BrokerOrders) → o.phase ≡ Up g → Every leaves_up ts → (after ts o).phase ≡ Up g
stays_up g [] o is n = is
stays_up g (Asked ∷ ts) o is n = stays_up g ts (asked o) (ap (λ p. (asked_in p o).phase) is ∙ is) n.1
stays_up g (Stopped ∷ ts) o is n = cc
stays_up g (IsUp h ∷ ts) o is n = cc
stays_up g (IsLost b ∷ ts) o is n = cc
stays_up g (HasEnded ∷ ts) o is n = stays_up g ts (in_phase (rested o.phase) o) (ap rested is) n.1
stays_up g (Fails f ∷ ts) o is n = cc
stays_up g (Closes ∷ ts) o is n = cc

asks_on : (p : Phase) (o : BrokerOrders) → o.is_ending ≡ false → (asked_in p o).is_ending ≡ false
asks_on Idle o is = is
asks_on Starting o is = is
asks_on (Up g) o is = is
asks_on Stopping o is = is
asks_on Spent o is = is
asks_on (Failed f) o is = is

goes_on : (ts : List Told) (o : BrokerOrders) → o.is_ending ≡ false → Every (λ t. not (is_close t)) ts → (after ts o).is_ending ≡ false
goes_on [] o is n = is
goes_on (Asked ∷ ts) o is n = goes_on ts (asked o) (asks_on o.phase o is) n.1
goes_on (Stopped ∷ ts) o is n = goes_on ts (in_phase Stopping o) is n.1
goes_on (IsUp h ∷ ts) o is n = goes_on ts (up_as h o) is n.1
goes_on (IsLost b ∷ ts) o is n = goes_on ts (in_phase (next_phase b) o) is n.1
goes_on (HasEnded ∷ ts) o is n = goes_on ts (in_phase (rested o.phase) o) is n.1
goes_on (Fails f ∷ ts) o is n = goes_on ts (in_phase (Failed f) o) is n.1
goes_on (Closes ∷ ts) o is n = cc

after-append : (ts us : List Told) (o : BrokerOrders) → after (ts ++ us) o ≡ after us (after ts o)
after-append [] us o = refl
after-append (t ∷ ts) us o = after-append ts us (told t o)

missed_as : (g : ℕ) (b : Bool) (p : Phase) → p ≡ Up g → b ≡ false → (runs_as g p && not b) ≡ true
missed_as g b p up on = ap (λ q. runs_as g q && not b) up ∙ ap (λ c. eqb g g && not c) on ∙ same g
  where
    same : (g : ℕ) → (eqb g g && true) ≡ true
    same g = grind (arith, nat_tests)

pub misses_all_that_runs : MissesAllThatRuns
misses_all_that_runs g ts r on =
    let end = after ts no_orders in
    let is : end.phase ≡ Up g = ap (λ xs. (after xs no_orders).phase) r.split ∙ ap (λ (x : BrokerOrders). x.phase) (after-append r.before (IsUp g ∷ r.later) no_orders) ∙ stays_up g r.later (up_as g (after r.before no_orders)) refl r.still in
    missed_as g end.is_ending end.phase is (goes_on ts no_orders refl on)

-- A broker whose end is missed ran at the start and still runs, or came up since.
pub data Missed (g : ℕ) (ts : List Told) (o : BrokerOrders) : Type 0 where
  Since : Runs g ts → Missed g ts o
  Still : Every leaves_up ts → runs_as g o.phase ≡ true → Missed g ts o

asked_runs : (g : ℕ) (p : Phase) (o : BrokerOrders) → o.phase ≡ p → runs_as g (asked_in p o).phase ≡ true → runs_as g o.phase ≡ true
asked_runs g Idle o is r = cc
asked_runs g Starting o is r = r
asked_runs g (Up h) o is r = r
asked_runs g Stopping o is r = r
asked_runs g Spent o is r = r
asked_runs g (Failed f) o is r = r

rested_runs : (g : ℕ) (p : Phase) → runs_as g (rested p) ≡ true → runs_as g p ≡ true
rested_runs g Idle r = r
rested_runs g Starting r = r
rested_runs g (Up h) r = r
rested_runs g Stopping r = cc
rested_runs g Spent r = r
rested_runs g (Failed f) r = r

next_runs : (g : ℕ) (b : Bool) → runs_as g (next_phase b) ≡ true → ⊥
next_runs g true r = cc
next_runs g false r = cc

one_more : (g : ℕ) (t : Told) (ts : List Told) → Runs g ts → Runs g (t ∷ ts)
one_more g t ts r = record { before = t ∷ r.before; later = r.later; split = ap (λ xs. t ∷ xs) r.split; still = r.still }

missed_from : (g : ℕ) (t : Told) (ts : List Told) (o : BrokerOrders) → not (is_close t) ≡ true → runs_as g (told t o).phase ≡ true → Every leaves_up ts → Missed g (t ∷ ts) o
missed_from g Asked ts o on r n = Still (refl, n) (asked_runs g o.phase o refl r)
missed_from g Stopped ts o on r n = cc
missed_from g (IsUp h) ts o on r n = Since (record { before = []; later = ts; split = ap (λ k. IsUp k ∷ ts) (eqb-true h g r); still = n })
missed_from g (IsLost b) ts o on r n = absurd (next_runs g b r)
missed_from g HasEnded ts o on r n = Still (refl, n) (rested_runs g o.phase r)
missed_from g (Fails f) ts o on r n = cc
missed_from g Closes ts o on r n = cc

missed_more : (g : ℕ) (t : Told) (ts : List Told) (o : BrokerOrders) → not (is_close t) ≡ true → Missed g ts (told t o) → Missed g (t ∷ ts) o
missed_more g t ts o on (Since r) = Since (one_more g t ts r)
missed_more g t ts o on (Still n r) = missed_from g t ts o on r n

stays_ending : (ts : List Told) (o : BrokerOrders) → o.is_ending ≡ true → (after ts o).is_ending ≡ true
stays_ending [] o is = is
stays_ending (Asked ∷ ts) o is = stays_ending ts (asked o) (asks_ending o.phase o is)
  where
    asks_ending : (p : Phase) (o : BrokerOrders) → o.is_ending ≡ true → (asked_in p o).is_ending ≡ true
    asks_ending Idle o is = is
    asks_ending Starting o is = is
    asks_ending (Up g) o is = is
    asks_ending Stopping o is = is
    asks_ending Spent o is = is
    asks_ending (Failed f) o is = is
stays_ending (Stopped ∷ ts) o is = stays_ending ts (in_phase Stopping o) is
stays_ending (IsUp h ∷ ts) o is = stays_ending ts (up_as h o) is
stays_ending (IsLost b ∷ ts) o is = stays_ending ts (in_phase (next_phase b) o) is
stays_ending (HasEnded ∷ ts) o is = stays_ending ts (in_phase (rested o.phase) o) is
stays_ending (Fails f ∷ ts) o is = stays_ending ts (in_phase (Failed f) o) is
stays_ending (Closes ∷ ts) o is = stays_ending ts (ending o) refl

-- The ending of the kernel is never revoked.
closed_none : (t : Told) (ts : List Told) (o : BrokerOrders) → (after ts (told t o)).is_ending ≡ false → not (is_close t) ≡ true
closed_none Asked ts o on = refl
closed_none Stopped ts o on = refl
closed_none (IsUp h) ts o on = refl
closed_none (IsLost b) ts o on = refl
closed_none HasEnded ts o on = refl
closed_none (Fails f) ts o on = refl
closed_none Closes ts o on = absurd (true≢false (sym (stays_ending ts (ending o) refl) ∙ on))

never_closed : (ts : List Told) (o : BrokerOrders) → (after ts o).is_ending ≡ false → Every (λ t. not (is_close t)) ts
never_closed [] o on = tt
never_closed (t ∷ ts) o on = (closed_none t ts o on, never_closed ts (told t o) on)

missed_at : (g : ℕ) (ts : List Told) (o : BrokerOrders) → runs_as g (after ts o).phase ≡ true → Every (λ t. not (is_close t)) ts → Missed g ts o
missed_at g [] o r on = Still tt r
missed_at g (t ∷ ts) o r on = missed_more g t ts o on.0 (missed_at g ts (told t o) r on.1)

parts : (b c : Bool) → (b && not c) ≡ true → (b ≡ true) × (c ≡ false)
parts true true e = cc
parts true false e = (refl, refl)
parts false c e = cc

since : (g : ℕ) (ts : List Told) → Missed g ts no_orders → Runs g ts
since g ts (Since r) = r
since g ts (Still n r) = cc

pub misses_what_runs : MissesWhatRuns
misses_what_runs g ts is =
    let end = after ts no_orders in
    let both = parts (runs_as g end.phase) end.is_ending is in
    let on = never_closed ts no_orders both.1 in
    (since g ts (missed_at g ts no_orders both.0 on), on)

-- A failure

stays_failed : (f : ProcessFault) (ts : List Told) (o : BrokerOrders) → o.phase ≡ Failed f → Every without_broker ts → (after ts o).phase ≡ Failed f
stays_failed f [] o is n = is
stays_failed f (Asked ∷ ts) o is n = stays_failed f ts (asked o) (ap (λ p. (asked_in p o).phase) is ∙ is) n.1
stays_failed f (Stopped ∷ ts) o is n = cc
stays_failed f (IsUp h ∷ ts) o is n = cc
stays_failed f (IsLost b ∷ ts) o is n = cc
stays_failed f (HasEnded ∷ ts) o is n = stays_failed f ts (in_phase (rested o.phase) o) (ap rested is) n.1
stays_failed f (Fails g ∷ ts) o is n = cc
stays_failed f (Closes ∷ ts) o is n = stays_failed f ts (ending o) is n.1

pub fails_for_good : FailsForGood
fails_for_good o f ts n =
    let is = stays_failed f ts (in_phase (Failed f) o) refl n in
    (ap is_news is, ap is_there is)
