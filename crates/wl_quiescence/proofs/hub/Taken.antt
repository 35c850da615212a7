-- The hub hands a command to the broker: what is said of the hub and its broker stays, and the whole step.
use Rattle.std.proofs.Common.{◌≡◌, ◌≢◌, ◌⊎◌, inl, inr, ⊎_elim, ℕ, ◌+◌, ◌<◌, Bool, true, false, not, ◌&&◌, ◌||◌, List, [], ◌∷◌, ◌++◌, length, Some, None, refl, sym, ap, ◌∙◌, subst}
use Rattle.std.specs.Prelude.{◌==◌, if◌then◌else◌, nat_lt, nat_le}
use Rattle.std.specs.List.{list_any}
use Rattle.std.proofs.lemmas.Bool.{cases_eq, eqb-true, or_left, not-true, false_from_ne_true}
use Rattle.wl_limits.specs.declared.tabs.TheConstants.{LAST_NUMBER}
use Rattle.wl_draft.specs.declared.row.Row.{Row}
use Rattle.wl_draft.specs.Locks.{live}
use Rattle.wl_draft.specs.Membership.{In}
use Rattle.wl_draft.proofs.Membership.{apart, either, In-head, In-append_left, In-append_right, In-append_cases, list_any-In}
use Rattle.wl_grammar.specs.declared.frame.Addressed.{Addressed}
use Rattle.wl_grammar.specs.declared.frame.Command.{Command}
use Rattle.wl_grammar.specs.declared.frame.Upward.{Upward}
use Rattle.wl_grammar.specs.declared.frame.Upward.TheVariants as up
use Rattle.wl_broker_reports.specs.ReportParts.{Told}
use Rattle.wl_broker.specs.declared.seat.TabSeat.TheVariants.{Joined}
use Rattle.wl_broker.specs.declared.dropped.Dropped.{Dropped}
use Rattle.wl_broker.specs.declared.dropped.Dropped.TheVariants.{OldGeneration, LaterGeneration, NotJoined, Recovering, OutOfTurn, DeadTab, Misplaced, TooMany}
use Rattle.wl_broker.specs.Broker.{BrokerState, Taking, Drops, Does, seat_of, manager_of, next_of, limit_of, is_joined, is_dead, is_active, is_misplaced, is_lock, with_seat, settled_at, drafted, later_answer, perform, take_command, taking}
use Rattle.wl_broker.specs.BrokerLaws.{IsListedOnce}
use Rattle.wl_broker.proofs.Activity.{is_active-settled_at, is_active-with_seat_again}
use Rattle.wl_broker.proofs.Counting.{seat_of-settled_at, Takes-seat_of_other}
use Rattle.wl_broker.proofs.Granting.{Takes-AreSettled}
use Rattle.wl_broker.proofs.Takings.{Takes, joins, keeps, repeats, performs}
use Rattle.wl_kernel.specs.Kernel.{KernelState, is_living, partition_number}
use Rattle.wl_world_messages.specs.declared.effect.Effect.TheVariants as said
use Rattle.wl_world_messages.specs.declared.effect.Reason.TheVariants as reason
use Rattle.wl_hub.specs.Early.{verdict_of, noted}
use Rattle.wl_supervised_broker.specs.Supervising.{taking_said}
use Rattle.wl_world_model.proofs.exclusion.HeldAfterSettling.{Stands, without_client-keeps, without_client-fewer}
use Rattle.wl_quiescence.proofs.rest.Invariant.{HubView, Keeping}
use Rattle.wl_quiescence.proofs.hub.Others.{HasRowsOf, Moved, takes-moved, merged-In, merged-right}
use Rattle.wl_quiescence.proofs.hub.Postponed.{last-cases}

-- Rows

stands-before : (b : BrokerState) (s p : ℕ) (c : BrokerState) (outs : List Addressed) (x : Moved b s p c outs) (q : ℕ) (r : Row) → Stands r (manager_of c q) → r.client ≢ s → Stands r (manager_of b q)
stands-before b s p c outs x q r i d =
    ⊎_elim
    (λ e.
    let j : Stands r x.locks = ⊎_elim
    (λ a. ⊎_elim (λ y. inl y) (λ y. inr (merged-In x.grants.parts y)) (In-append_cases x.locks.held x.granted (subst (In r) x.grants.behind a)))
    (λ a. inr (merged-right x.grants.parts a))
    (subst (λ z. Stands r (manager_of c z)) e i) in
    subst (λ z. Stands r (manager_of b z)) (sym e)
    (⊎_elim
    (λ a. inl (without_client-fewer s (manager_of b p).held (subst (In r) x.others.held (without_client-keeps s x.locks.held a d))))
    (λ a. inr (without_client-fewer s (manager_of b p).waiting (subst (In r) x.others.waiting (without_client-keeps s x.locks.waiting a d)))) j))
    (λ n. subst (Stands r) (x.elsewhere q n) i)
    (cases_eq q p)

pub moved-rows : (b : BrokerState) (s p : ℕ) (c : BrokerState) (outs : List Addressed) → Moved b s p c outs → is_joined (seat_of c s) ≡ true → HasRowsOf b → HasRowsOf c
moved-rows b s p c outs x joined rows q r i =
    ⊎_elim (λ e. subst (λ z. is_joined (seat_of c z) ≡ true) (sym e) joined)
    (λ d. ap is_joined (x.seats r.client d) ∙ rows q r (stands-before b s p c outs x q r i d))
    (cases_eq r.client s)

pub takes-rows : (b : BrokerState) (s p : ℕ) {u : Upward} {c : BrokerState} {outs : List Addressed} → Takes b s p u c outs → HasRowsOf b → HasRowsOf c
takes-rows b s p (joins {x = x} told passes may whole) rows =
    moved-rows b s p _ _ (takes-moved b s p (joins told passes may whole)) (ap is_joined (seat_of-settled_at b s _ p _)) rows
takes-rows b s p (keeps told passes may part) rows = rows
takes-rows b s p (repeats passes served old) rows = rows
takes-rows b s p (performs passes served next) rows =
    moved-rows b s p _ _ (takes-moved b s p (performs passes served next)) (ap is_joined (seat_of-settled_at b s _ p _)) rows

pub takes-listed : (b : BrokerState) (s p : ℕ) {u : Upward} {c : BrokerState} {outs : List Addressed} → Takes b s p u c outs → c.listed ≡ b.listed
unfolding settled_at
takes-listed b s p (joins told passes may whole) = refl
takes-listed b s p (keeps told passes may part) = refl
takes-listed b s p (repeats passes served old) = refl
takes-listed b s p (performs passes served next) = refl

-- What is said of the hub and its broker, but for the early tabs.
pub takes-keeping : (h : HubView) (b c : BrokerState) (s : ℕ) (es : List ℕ) (gs : ℕ) {u : Upward} {outs : List Addressed} → Takes b s (partition_number h.supervised.kernel s) u c outs
    → is_living h.supervised.kernel s ≡ true → IsListedOnce b
    → ((front back : List ℕ) (t : ℕ) → es ≡ front ++ t ∷ back → is_living h.supervised.kernel t ≡ true → (length front < gs) ⊎ (is_active c (partition_number h.supervised.kernel t) ≡ false))
    → Keeping h b → Keeping (record { supervised = record { kernel = h.supervised.kernel; broker = Some c }; untold = h.untold; early = es; greetings = gs }) c
takes-keeping h b c s es gs takes living once early x =
    let p = partition_number h.supervised.kernel s in
    record {
      early = early;
      listed = λ t q i.
          let o = x.listed t q (subst (In (t, q)) (takes-listed b s p takes) i) in (
            o.0,
            o.1,
            ⊎_elim (λ e. inl (subst (λ z. is_living h.supervised.kernel z ≡ true) (sym e) living))
                (λ d. ⊎_elim (λ y. inl y) (λ z. inr (⊎_elim (λ j. inl j) (λ y. inr (ap is_dead (Takes-seat_of_other b s p takes t d) ∙ y)) z)) o.2) (cases_eq t s),
          );
      joined = λ t j. ⊎_elim (λ e. inl (subst (λ z. is_living h.supervised.kernel z ≡ true) (sym e) living))
          (λ d. x.joined t (sym (ap is_joined (Takes-seat_of_other b s p takes t d)) ∙ j)) (cases_eq t s);
      settled = Takes-AreSettled b s p once takes x.settled;
      rows = takes-rows b s p takes x.rows;
    }

-- Commands

pub command-active : (b : BrokerState) (s p q : ℕ) {x : Command} {c : BrokerState} {outs : List Addressed} → Takes b s p (up.Command x) c outs → is_active c q ≡ is_active b q
command-active b s p q (joins told passes may whole) = absurd (none-some told)
  where
    none-some : {x : Told} → None ≡ Some x → ⊥
    none-some e = cc
command-active b s p q (keeps told passes may part) = absurd (none-some told)
  where
    none-some : {x : Told} → None ≡ Some x → ⊥
    none-some e = cc
command-active b s p q (repeats passes served old) = refl
command-active b s p q (performs {c = c} passes served next) =
    is_active-settled_at (with_seat s (Joined p (c.number + 1) (limit_of b s)) b) p (drafted s c.number c.operation (manager_of b p)) q
    ∙ is_active-with_seat_again b s (Joined p (c.number + 1) (limit_of b s)) q refl (or_left _ _ served.joined)

-- Only while the partition recovers is a command dropped as early.
abbrev NotEarly : Taking → Type 0
NotEarly o = o ≡ Drops Recovering → ⊥

pub active-taking : (b : BrokerState) (t p : ℕ) (x : Command) → is_active b p ≡ true → NotEarly (taking b (record { tab = t; partition = p; inner = up.Command x }))
unfolding taking take_command perform
active-taking b t p x active =
    let n = x.number in
    either NotEarly (nat_lt x.generation b.generation) (Drops OldGeneration) _ (λ _ e. cc)
    (λ _. either NotEarly (nat_lt b.generation x.generation) (Drops LaterGeneration) _ (λ _ e. cc)
    (λ _. either NotEarly (is_dead (seat_of b t)) (Drops DeadTab) _ (λ _ e. cc)
    (λ _. either NotEarly (is_misplaced b t p) (Drops Misplaced) _ (λ _ e. cc)
    (λ _. either NotEarly (not (is_joined (seat_of b t))) (Drops NotJoined) _ (λ _ e. cc)
    (λ _. either NotEarly (not (is_active b p)) (Drops Recovering) _ (λ y. apart active (not-true _ y))
    (λ _. either NotEarly (nat_lt (next_of b t) n || n == LAST_NUMBER) (Drops OutOfTurn) _ (λ _ e. cc)
    (λ _. either NotEarly (nat_lt n (next_of b t)) (Does b (later_answer b t p n x.operation ∷ [])) _ (λ _ e. cc)
    (λ _. either NotEarly (is_lock x.operation && nat_le (limit_of b t) (live (manager_of b p) t)) (Drops TooMany) _ (λ _ e. cc) (λ _ e. cc)))))))))

-- The early tabs after a command that was dropped as early.
abbrev pub noted_early : ℕ → List ℕ → ℕ → List ℕ × ℕ
noted_early s ts n = (if list_any (λ x. x == s) ts then ts else ts ++ s ∷ [], n)

-- What the verdict on a command leaves of the early tabs.
pub data IsVerdict (o : Taking) (f : ℕ → List ℕ → ℕ → List ℕ × ℕ) : Type 0 where
  early : o ≡ Drops Recovering → ((s : ℕ) (ts : List ℕ) (n : ℕ) → f s ts n ≡ noted_early s ts n) → IsVerdict o f
  other : ((s : ℕ) (ts : List ℕ) (n : ℕ) → f s ts n ≡ (ts, n)) → (o ≡ Drops Recovering → ⊥) → IsVerdict o f

pub drops-verdict : (a : Bool) (r : Dropped) → IsVerdict (Drops r) (λ s ts n. noted (verdict_of a (said.Dropped (reason.AtBroker r))) s ts n)
drops-verdict a Recovering = early refl (λ s ts n. refl)
drops-verdict a r = other (λ s ts n. refl) (λ e. cc)

pub command-verdict : (a : Bool) (t p : ℕ) (x : Command) (o : Taking) → IsVerdict o (λ s ts n. noted (verdict_of a (taking_said (record { tab = t; partition = p; inner = up.Command x }) o)) s ts n)
command-verdict a t p x (Drops r) = drops-verdict a r
command-verdict a t p x (Does c outs) = other (λ s ts n. refl) (λ e. cc)

-- Where the tabs in front were due or recover.
abbrev pub AreDue : KernelState → BrokerState → List ℕ × ℕ → Type 0
AreDue k b x = (front back : List ℕ) (t : ℕ) → x.0 ≡ front ++ t ∷ back → is_living k t ≡ true → (length front < x.1) ⊎ (is_active b (partition_number k t) ≡ false)

-- The early tabs after the verdict.
pub record NotedWell (o : Taking) (k : KernelState) (b : BrokerState) (s : ℕ) (ts : List ℕ) (x : List ℕ × ℕ) : Type 0 where
  pub stays : (t : ℕ) → In t ts → In t x.0
  pub notes : o ≡ Drops Recovering → In s x.0
  pub due : AreDue k b x

early-noted : (o : Taking) (k : KernelState) (b : BrokerState) (s : ℕ) (ts : List ℕ) (n : ℕ) → is_active b (partition_number k s) ≡ false → AreDue k b (ts, n) → NotedWell o k b s ts (noted_early s ts n)
early-noted o k b s ts n waits due = record {
  stays = λ t i. either (λ zs. In t zs) (list_any (λ x. x == s) ts) ts (ts ++ s ∷ []) (λ _. i) (λ _. In-append_left (s ∷ []) i);
  notes = λ _. either (λ zs. In s zs) (list_any (λ x. x == s) ts) ts (ts ++ s ∷ [])
      (λ y. let o = list_any-In (λ x. x == s) ts y in subst (λ z. In z ts) (eqb-true o.0 s o.2) o.1) (λ _. In-append_right ts (In-head refl));
  due = either (λ zs. AreDue k b (zs, n)) (list_any (λ x. x == s) ts) ts (ts ++ s ∷ []) (λ _. due)
      (λ _ front back t e lv. ⊎_elim (λ o. due front o.0 t o.1 lv) (λ o. inr (subst (λ z. is_active b (partition_number k z) ≡ false) (sym o.0) waits)) (last-cases ts front back t s e));
}

pub verdict-noted : (k : KernelState) (b : BrokerState) (s : ℕ) (x : Command) (f : ℕ → List ℕ → ℕ → List ℕ × ℕ) (ts : List ℕ) (n : ℕ)
    → IsVerdict (taking b (record { tab = s; partition = partition_number k s; inner = up.Command x })) f → AreDue k b (ts, n)
    → NotedWell (taking b (record { tab = s; partition = partition_number k s; inner = up.Command x })) k b s ts (f s ts n)
verdict-noted k b s x f ts n (early e g) due =
    let o = taking b (record { tab = s; partition = partition_number k s; inner = up.Command x }) in
    subst (NotedWell o k b s ts) (sym (g s ts n)) (early-noted o k b s ts n (false_from_ne_true _ (λ y. active-taking b s (partition_number k s) x y e)) due)
verdict-noted k b s x f ts n (other g d) due =
    let o = taking b (record { tab = s; partition = partition_number k s; inner = up.Command x }) in
    subst (NotedWell o k b s ts) (sym (g s ts n)) (record { stays = λ t i. i; notes = λ e. absurd (d e); due = due })
