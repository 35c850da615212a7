-- Active partitions: they are settled, and each new grant is sent once.
use Rattle.std.proofs.Common.{◌≡◌, ◌≢◌, ◌⊎◌, ⊎_elim, ℕ, ◌+◌, ◌≤◌, ◌/◌, zero, suc, Bool, true, false, cond, eqb, ltb, length, Some, None, List, [], ◌∷◌, ◌++◌, map, refl, sym, ap, ◌∙◌, subst, append-nil, arith}
use Rattle.std.specs.List.{AllByRecursion, range_with_len}
use Rattle.std.proofs.lemmas.Bool.{both_ways, cases_eq, cond_both, eqb-false}
use Rattle.wl_draft.specs.declared.row.Row.{Row}
use Rattle.wl_draft.specs.Locks.{Locks, settle, settle_if, newly_granted, newly_granted_if, without, ended, restored}
use Rattle.wl_draft.specs.Settling.{IsSettled, Merges, none, right}
use Rattle.wl_draft.proofs.Settled.{settle-IsSettled, settle-MovesGrants}
use Rattle.wl_grammar.specs.declared.frame.Operation.{Operation}
use Rattle.wl_grammar.specs.declared.frame.Operation.TheVariants.{Request, Release, Abort, Query}
use Rattle.wl_grammar.specs.declared.frame.SnapshotEntry.{SnapshotEntry}
use Rattle.wl_grammar.specs.declared.frame.Addressed.{Addressed}
use Rattle.wl_grammar.specs.declared.frame.Upward.{Upward}
use Rattle.wl_grammar.specs.declared.frame.Upward.TheVariants as up
use Rattle.wl_grammar.specs.PartCount.{part_count}
use Rattle.wl_broker_reports.specs.ReportParts.{Told, content_of, with_told, whole_of}
use Rattle.wl_broker.specs.declared.seat.TabSeat.TheVariants.{Joined, Dead}
use Rattle.wl_broker.specs.Broker.{BrokerState, started, seat_of, manager_of, partial_of, limit_of, is_active, is_dead, place_of, death_step, with_seat, settled_at, newly_at, keeping, drafted, first_answer, later_answer, snapshot_to, snapshot_part, snapshot_entries, grants_to}
use Rattle.wl_broker.specs.BrokerLaws.{IsListedOnce, LeavesAlone}
use Rattle.wl_broker.specs.Grants.{AreSettled, TakesOut, Grants, IsTo, IsOwnAnswer, to_tell, TellsGrants, TellsOfDeath}
use Rattle.wl_broker.proofs.Activity.{manager_of-settled_at, is_active-settled_at, is_active-keeping, is_active-with_seat, Takes-LeavesAlone, Buries-LeavesAlone}
use Rattle.wl_broker.proofs.Others.{drafted-SameOfOthers, restored-SameOfOthers, settled_at-cases}
use Rattle.wl_broker.proofs.SpeechLists.{AllByRecursion-range}
use Rattle.wl_broker.proofs.Takings.{Takes, joins, keeps, repeats, performs, Buries, again, stranger, ends}

-- Active partitions are settled

nothing_waits : (front back : List Row) (r : Row) → [] ≡ front ++ r ∷ back → ⊥
nothing_waits [] back r e = cc
nothing_waits (x ∷ front) back r e = cc

pub started-AreSettled : (g : ℕ) (listed : List (ℕ × ℕ)) → AreSettled (started g listed)
started-AreSettled g listed p active = λ front back r e. absurd (nothing_waits front back r e)

-- The locks of an active partition are settled.
settled_now : (b : BrokerState) (p : ℕ) (m : Locks) → is_active (settled_at b p m) p ≡ true → manager_of (settled_at b p m) p ≡ settle m
settled_now b p m active = manager_of-settled_at b p m ∙ ap (λ now. settle_if now m) (sym (is_active-settled_at b p m p) ∙ active)

settled_here : (b : BrokerState) (p : ℕ) (m : Locks) → is_active (settled_at b p m) p ≡ true → IsSettled (manager_of (settled_at b p m) p)
settled_here b p m active = subst IsSettled (sym (settled_now b p m active)) (settle-IsSettled m)

-- An unchanged partition stays settled.
settled_elsewhere : (b after : BrokerState) (p : ℕ) → LeavesAlone p b after → AreSettled b → is_active after p ≡ true → IsSettled (manager_of after p)
settled_elsewhere b after p alone h active = subst IsSettled (sym alone.manager) (h p (sym alone.active ∙ active))

Takes-settled_here : (b : BrokerState) (t p : ℕ) {u : Upward} {after : BrokerState} {outs : List Addressed} → Takes b t p u after outs → AreSettled b → is_active after p ≡ true → IsSettled (manager_of after p)
Takes-settled_here b t p (keeps told passes may part) h active = h p (sym (is_active-keeping b t _ p) ∙ active)
Takes-settled_here b t p (joins told passes may whole) h active = settled_here _ p _ active
Takes-settled_here b t p (repeats passes served old) h active = h p active
Takes-settled_here b t p (performs passes served next) h active = settled_here _ p _ active

pub Takes-AreSettled : (b : BrokerState) (t p : ℕ) {u : Upward} {after : BrokerState} {outs : List Addressed} → IsListedOnce b → Takes b t p u after outs → AreSettled b → AreSettled after
Takes-AreSettled b t p {after = after} once takes h q active =
    ⊎_elim
    (λ (e : q ≡ p). subst (λ r. IsSettled (manager_of after r)) (sym e) (Takes-settled_here b t p takes h (subst (λ r. is_active after r ≡ true) e active)))
    (λ (ne : q ≡ p → ⊥). settled_elsewhere b after q (Takes-LeavesAlone b t p q once takes ne) h active)
    (cases_eq q p)

none-some : {X : Type 0} {x : X} → None ≡ Some x → ⊥
none-some e = cc

some_same : {p q : ℕ} → Some p ≡ Some q → p ≡ q
some_same e = cc

pub Buries-AreSettled : (b : BrokerState) (t : ℕ) {after : BrokerState} {outs : List Addressed} → IsListedOnce b → Buries b t after outs → AreSettled b → AreSettled after
Buries-AreSettled b t once (again dead) h q active = h q active
Buries-AreSettled b t once (stranger alive place) h q active =
    settled_elsewhere b _ q (Buries-LeavesAlone b t q once (stranger alive place) (λ e. none-some (sym place ∙ e))) h active
Buries-AreSettled b t once (ends {p = p} alive place) h q active =
    ⊎_elim
    (λ (e : q ≡ p). subst (λ r. is_active (settled_at (with_seat t Dead b) p (ended t (manager_of b p))) r ≡ true → IsSettled (manager_of (settled_at (with_seat t Dead b) p (ended t (manager_of b p))) r)) (sym e) (settled_here (with_seat t Dead b) p (ended t (manager_of b p))) active)
    (λ (ne : q ≡ p → ⊥). settled_elsewhere b _ q (Buries-LeavesAlone b t q once (ends alive place) (λ e. ne (some_same (sym e ∙ place)))) h active)
    (cases_eq q p)

-- Deaths

ended-TakesOut : (t : ℕ) (m : Locks) → TakesOut t m (ended t m)
unfolding ended
ended-TakesOut t m = record { held = refl; waiting = refl }

pub Buries-own : (b : BrokerState) (t p : ℕ) {after : BrokerState} {outs : List Addressed} → Buries b t after outs → is_dead (seat_of b t) ≡ false → place_of b t ≡ Some p
    → (m : Locks) × TakesOut t (manager_of b p) m × ((manager_of after p ≡ m) ⊎ (manager_of after p ≡ settle m))
Buries-own b t p (again dead) alive here = absurd (both_ways _ alive dead)
Buries-own b t p (stranger living place) alive here = absurd (none-some (sym place ∙ here))
Buries-own b t p (ends {p = r} living place) alive here =
    subst (λ q. (m : Locks) × TakesOut t (manager_of b q) m × ((manager_of (settled_at (with_seat t Dead b) r (ended t (manager_of b r))) q ≡ m) ⊎ (manager_of (settled_at (with_seat t Dead b) r (ended t (manager_of b r))) q ≡ settle m)))
    (some_same (sym place ∙ here))
    (ended t (manager_of b r), ended-TakesOut t (manager_of b r), settled_at-cases (with_seat t Dead b) r (ended t (manager_of b r)))

pub burial_dead : (b : BrokerState) (t : ℕ) → is_dead (seat_of b t) ≡ true → death_step b t ≡ (b, [])
unfolding death_step
burial_dead b t e = rw e refl

pub Buries-is_active : (b : BrokerState) (t p : ℕ) {after : BrokerState} {outs : List Addressed} → Buries b t after outs → is_active b p ≡ true → is_active after p ≡ true
Buries-is_active b t p (again dead) e = e
Buries-is_active b t p (stranger alive place) e = is_active-with_seat b t Dead p refl e
Buries-is_active b t p (ends {p = r} alive place) e = is_active-settled_at _ r _ p ∙ is_active-with_seat b t Dead p refl e

-- Granted requests

settle-Grants : (m n : Locks) → n ≡ settle m → Grants m n (newly_granted m)
settle-Grants m n e =
    subst (λ (x : Locks). Grants m x (newly_granted m)) (sym e) (record { parts = (settle-MovesGrants m).parts; behind = (settle-MovesGrants m).behind })

all_wait : (rows : List Row) → Merges [] rows rows
all_wait [] = none
all_wait (r ∷ rows) = right (all_wait rows)

no-Grants : (m : Locks) → Grants m m []
no-Grants m = record { parts = all_wait m.waiting; behind = sym (append-nil m.held) }

newly_now : (b : BrokerState) (p : ℕ) (m : Locks) → is_active (settled_at b p m) p ≡ true → newly_at b p m ≡ newly_granted m
unfolding newly_at
newly_now b p m active = ap (λ now. newly_granted_if now m) (sym (is_active-settled_at b p m p) ∙ active)

-- The sender's answer

not_empty : {X : Type 0} (x : X) (xs : List X) → x ∷ xs ≢ []
not_empty x xs e = cc

some_parts : (n : ℕ) (b : Bool) → eqb n 0 ≡ b → 1 ≤ cond b 1 ((n + 63) / 64)
some_parts n true e = omega arith
some_parts n false e = let some = eqb-false n 0 e in omega arith

map_some : {X : Type 0} (f : ℕ → X) (n : ℕ) → 1 ≤ n → map f (range_with_len 0 n) ≢ []
map_some f zero some e = absurd (omega (arith, some))
map_some f (suc n) some e = cc

snapshot-own : (b : BrokerState) (t n : ℕ) (entries : List SnapshotEntry) → (snapshot_to b t n entries ≢ []) × AllByRecursion (IsTo t n) (snapshot_to b t n entries)
snapshot-own b t n entries =
    cond_both (ltb 65535 (part_count entries)) _ _ (λ outs. (outs ≢ []) × AllByRecursion (IsTo t n) outs) (λ many. (not_empty _ _, ((refl, refl), tt)))
    (λ few. (
      map_some (snapshot_part b t n entries) (part_count entries) (some_parts (length entries) (eqb (length entries) 0) refl),
      AllByRecursion-range (IsTo t n) (snapshot_part b t n entries) 0 (part_count entries) (λ k below. (refl, refl)),
    ))

first-own : (b : BrokerState) (t p n : ℕ) (o : Operation) → (first_answer b t p n o ≢ []) × AllByRecursion (IsTo t n) (first_answer b t p n o)
first-own b t p n (Request mode if_available name) = (not_empty _ _, ((refl, refl), tt))
first-own b t p n (Release number) = (not_empty _ _, ((refl, refl), tt))
first-own b t p n (Abort number) = (not_empty _ _, ((refl, refl), tt))
first-own b t p n Query = snapshot-own b t n (snapshot_entries (manager_of b p))

later-own : (b : BrokerState) (t p n : ℕ) (o : Operation) → IsTo t n (later_answer b t p n o)
later-own b t p n (Request mode if_available name) = (refl, refl)
later-own b t p n (Release number) = (refl, refl)
later-own b t p n (Abort number) = (refl, refl)
later-own b t p n Query = (refl, refl)

-- A report is not answered, and all its grants are sent.
told-own : (t : ℕ) (u : Upward) (x : Told) → content_of u ≡ Some x → IsOwnAnswer t u [] × ((rows : List Row) → to_tell t u rows ≡ rows)
told-own t (up.Command c) x e = absurd (none-some e)
told-own t (up.Report r) x e = (refl, λ rows. refl)
told-own t (up.ReportPart r) x e = (refl, λ rows. refl)

-- The laws

pub Takes-tells : (b : BrokerState) (t p : ℕ) {u : Upward} {after : BrokerState} {outs : List Addressed} → Takes b t p u after outs → is_active after p ≡ true
    → TellsGrants b (record { tab = t; partition = p; inner = u }) after outs
Takes-tells b t p (keeps {u = u} {x = x} told passes may part) active =
    record {
      own = [];
      locks = manager_of b p;
      granted = [];
      answer = (told-own t u x told).0;
      moved = record { held = refl; waiting = refl };
      newly_granted = no-Grants (manager_of b p);
      sent = sym (ap (grants_to (keeping t (with_told p x (partial_of b t)) b)) ((told-own t u x told).1 []));
    }
Takes-tells b t p (joins {u = u} {x = x} told passes may whole) active =
    let r = whole_of (with_told p x (partial_of b t)) in
    let seated = with_seat t (Joined p r.base r.limit) b in
    let m = restored t r.entries (manager_of b p) in
    record {
      own = [];
      locks = m;
      granted = newly_granted m;
      answer = (told-own t u x told).0;
      moved = restored-SameOfOthers t r.entries (manager_of b p);
      newly_granted = settle-Grants m _ (settled_now seated p m active);
      sent = ap (grants_to (settled_at seated p m)) (newly_now seated p m active ∙ sym ((told-own t u x told).1 (newly_granted m)));
    }
Takes-tells b t p (repeats {c = c} passes served old) active =
    record {
      own = later_answer b t p c.number c.operation ∷ [];
      locks = manager_of b p;
      granted = [];
      answer = (not_empty _ _, (later-own b t p c.number c.operation, tt));
      moved = record { held = refl; waiting = refl };
      newly_granted = no-Grants (manager_of b p);
      sent = refl;
    }
Takes-tells b t p (performs {c = c} passes served next) active =
    let seated = with_seat t (Joined p (c.number + 1) (limit_of b t)) b in
    let m = drafted t c.number c.operation (manager_of b p) in
    record {
      own = first_answer (settled_at seated p m) t p c.number c.operation;
      locks = m;
      granted = newly_granted m;
      answer = first-own (settled_at seated p m) t p c.number c.operation;
      moved = drafted-SameOfOthers t c.number c.operation (manager_of b p);
      newly_granted = settle-Grants m _ (settled_now seated p m active);
      sent = ap (λ rows. first_answer (settled_at seated p m) t p c.number c.operation ++ grants_to (settled_at seated p m) (without t c.number rows)) (newly_now seated p m active);
    }

pub Buries-tells : (b : BrokerState) (t p : ℕ) {after : BrokerState} {outs : List Addressed} → Buries b t after outs → is_dead (seat_of b t) ≡ false → place_of b t ≡ Some p → is_active after p ≡ true → TellsOfDeath b t p after outs
Buries-tells b t p (again dead) alive here active = absurd (both_ways _ alive dead)
Buries-tells b t p (stranger living place) alive here active = absurd (none-some (sym place ∙ here))
Buries-tells b t p (ends {p = r} living place) alive here active =
    let seated = with_seat t Dead b in
    let m = ended t (manager_of b r) in
    let same : r ≡ p = some_same (sym place ∙ here) in
    let now : is_active (settled_at seated r m) r ≡ true = subst (λ q. is_active (settled_at seated r m) q ≡ true) (sym same) active in
    subst (λ q. TellsOfDeath b t q (settled_at seated r m) (grants_to (settled_at seated r m) (newly_at seated r m))) same
    (record {
      locks = m;
      granted = newly_granted m;
      gone = ended-TakesOut t (manager_of b r);
      newly_granted = settle-Grants m _ (settled_now seated r m now);
      sent = ap (grants_to (settled_at seated r m)) (newly_now seated r m now);
    })
