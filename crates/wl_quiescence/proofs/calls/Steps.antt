-- Requests, probes, queries, aborts and releases of a client keep the invariant, if what is on its way has numbers that were
-- issued, and the broker has room for one more.
use Rattle.std.proofs.Common.{◌≡◌, ◌≢◌, inl, inr, ⊎_elim, ℕ, ◌+◌, ◌<◌, ◌≤◌, Bool, true, false, not, ◌&&◌, cond, List, [], ◌∷◌, length, Option, Some, None, is_some, refl, sym, ap, ◌∙◌, subst, arith}
use Rattle.std.specs.Prelude.{◌==◌, nat_le}
use Rattle.std.proofs.lemmas.Bool.{cases_Bool, cases_eq, eq-eqb, ne_eqb, leb-false, not-true}
use Rattle.wl_draft.proofs.Membership.{apart, either}
use Rattle.wl_draft.proofs.TableLemmas.{find-put_same, find-put_other}
use Rattle.wl_draft.specs.Tables.{Table, find, without_row}
use Rattle.wl_draft.specs.Membership.{In}
use Rattle.wl_draft.specs.declared.mode.Mode.{Mode}
use Rattle.wl_grammar.specs.declared.frame.Operation.{Operation}
use Rattle.wl_grammar.specs.declared.frame.Operation.TheVariants.{Request, Release, Abort, Query}
use Rattle.wl_broker.specs.Broker.{BrokerState, seat_of, manager_of, next_of, limit_of, is_joined, is_lock}
use Rattle.wl_agent.specs.declared.status.Status.{Status}
use Rattle.wl_agent.specs.declared.status.Status.TheVariants.{Asked, Querying}
use Rattle.wl_agent.specs.declared.fault.AgentFault.{AgentFault}
use Rattle.wl_agent.specs.SnapshotParts.{no_parts}
use Rattle.wl_agent.specs.Tab.{TabState, status_of, is_asked, reserves_number, live_numbers, live_limit, live_refusal, has_numbers, is_supported, ask_refusal, query_refusal, issue, finish, asked, queried, aborted, released}
use Rattle.wl_agent.specs.declared.fault.AgentFault.TheVariants.{NotSupported, NameTooLong, TooMany, NumbersUsedUp}
use Rattle.wl_agent.specs.Tokens.{is_pending, is_holding}
use Rattle.wl_client.specs.Client.{ClientState, call_refusal, after_command}
use Rattle.wl_world_model.specs.World.{WorldState, tab_of}
use Rattle.wl_world_model.proofs.exclusion.Invariant.{limit_in}
use Rattle.wl_library_model.specs.Library.{Library, Asks, Queries, Aborts, Releases, client_of, runs, with_line, asks, queries, step}
use Rattle.wl_library_model.proofs.Carried.{Sim}
use Rattle.wl_library_model.proofs.Moves.{uncalled, called}
use Rattle.wl_quiescence.proofs.rest.Invariant.{view, IsResting, Says, items_of, numbered_from, numbers_at}
use Rattle.wl_quiescence.proofs.rest.Steps.{line-rests}
use Rattle.wl_quiescence.proofs.rest.Hellos.{sound-locks}
use Rattle.wl_quiescence.proofs.calls.Issues.{Issued, issue-serves}

-- What the steps need to know beside the invariant

-- What is to come from a tab has numbers that its client issued.
abbrev pub NumbersBelow : Library → ℕ → Type 0
NumbersBelow l t =
    (b : BrokerState) → l.hub.supervised.broker ≡ Some b → runs l t ≡ true → (client_of l t).locks.entered ≡ b.generation →
    (k : ℕ) → In (Says k) (items_of b.generation (view l t)) → k < length (client_of l t).locks.issued

-- If a client may issue one lock more, the broker will have room for it.
abbrev pub RoomForOne : Library → ℕ → Type 0
RoomForOne l t =
    (b : BrokerState) → l.hub.supervised.broker ≡ Some b → runs l t ≡ true → is_joined (seat_of b t) ≡ true →
    live_numbers (client_of l t).locks < live_limit (client_of l t).locks.in_parts →
    (m : ℕ) → next_of b t + m ≡ length (client_of l t).locks.issued →
    length (numbered_from (client_of l t).locks (next_of b t) m (numbers_at (manager_of b (view l t).place) t)) < limit_of b t

-- The commands

find-gone : (k : ℕ) (rows : Table Status) → find (without_row k rows) k ≡ None
find-gone k [] = refl
find-gone k (r ∷ rows) = either (λ z. find z k ≡ None) (not (r.0 == k)) (r ∷ without_row k rows) (without_row k rows)
    (λ e. ap (λ z. cond z (Some r.1) (find (without_row k rows) k)) (not-true _ e) ∙ find-gone k rows) (λ _. find-gone k rows)

find-else : (k j : ℕ) (rows : Table Status) → j ≢ k → find (without_row k rows) j ≡ find rows j
find-else k j [] d = refl
find-else k j (r ∷ rows) d = either (λ z. find z j ≡ find (r ∷ rows) j) (not (r.0 == k)) (r ∷ without_row k rows) (without_row k rows)
    (λ e. ap (λ z. cond (r.0 == j) (Some r.1) z) (find-else k j rows d))
    (λ e. find-else k j rows d ∙ sym (ap (λ z. cond z (Some r.1) (find rows j)) (ne_eqb r.0 j (λ s. d (sym s ∙ same e)))))
  where
    same : not (r.0 == k) ≡ false → r.0 ≡ k
    same e = ⊎_elim (λ s. s) (λ n. apart (ap not (ne_eqb r.0 k n)) e) (cases_eq r.0 k)

pub asked-issued : (mode : Mode) (b : Bool) (name : List ℕ) (a : TabState) → Issued (Request mode b name) a (asked mode b name a)
unfolding issue
asked-issued mode b name a = record {
  issued = refl;
  entered = refl;
  acknowledged = refl;
  answered = refl;
  report = refl;
  each = λ k d. inl (find-put_other (length a.issued) Asked a.statuses k d);
  new = λ _. ap reserves_number (find-put_same (length a.issued) Asked a.statuses);
}

pub queried-issued : (a : TabState) → Issued Query a (queried a)
unfolding issue
queried-issued a = record {
  issued = refl;
  entered = refl;
  acknowledged = refl;
  answered = refl;
  report = refl;
  each = λ k d. inl (find-put_other (length a.issued) (Querying no_parts) a.statuses k d);
  new = λ e. apart e refl;
}

pub aborted-issued : (j : ℕ) (a : TabState) → Issued (Abort j) a (aborted j a)
unfolding finish
aborted-issued j a = record {
  issued = refl;
  entered = refl;
  acknowledged = refl;
  answered = refl;
  report = refl;
  each = λ k d. ⊎_elim (λ e. inr (subst (λ z. find (without_row j a.statuses) z ≡ None) (sym e) (find-gone j a.statuses), eq-eqb j k (sym e))) (λ n. inl (find-else j k a.statuses n)) (cases_eq k j);
  new = λ e. apart e refl;
}

pub released-issued : (j : ℕ) (a : TabState) → Issued (Release j) a (released j a)
unfolding finish
released-issued j a = record {
  issued = refl;
  entered = refl;
  acknowledged = refl;
  answered = refl;
  report = refl;
  each = λ k d. ⊎_elim (λ e. inr (subst (λ z. find (without_row j a.statuses) z ≡ None) (sym e) (find-gone j a.statuses), eq-eqb j k (sym e))) (λ n. inl (find-else j k a.statuses n)) (cases_eq k j);
  new = λ e. apart e refl;
}

-- A call that is not refused

command-rests : (l : Library) (w : WorldState) (t : ℕ) (F : TabState → TabState) (o : Operation) → Sim l w → (client_of l t).is_welcomed ≡ true → Issued o (client_of l t).locks (F (client_of l t).locks)
    → NumbersBelow l t → (is_lock o ≡ true → live_numbers (client_of l t).locks < live_limit (client_of l t).locks.in_parts) → (is_lock o ≡ true → RoomForOne l t)
    → IsResting l → IsResting (with_line t (record (l.lines t) { client = after_command F (client_of l t) }) l)
command-rests l w t F o s y i below few room x =
    let c = client_of l t in
    let locks = (s.lines t).client.welcomed y in
    line-rests l t (record (l.lines t) { client = after_command F c })
    (λ r. record {
      fresh = let h = x.fresh t r in record { welcome = h.welcome; past = h.past; entered = subst (λ z. z < limit_in l.hub.supervised.kernel.generation l.hub.supervised.broker) (sym i.entered) h.entered };
      serves = λ b up. issue-serves (view l t) t b o (F c.locks) i (record {
        low = subst (λ (z : TabState). z.report.base ≤ length z.issued) (sym locks) (s.good.fit.low t);
        numbered = (sound-locks t c.locks (tab_of w t) locks (s.good.sound.tabs t).state).issued;
        below = below b up r;
        room = λ j lock. room lock b up r j (few lock);
      }) (x.serving b t up r);
    }) x

-- A client that does nothing.
idle-rests : (l : Library) (t : ℕ) → IsResting l → IsResting (with_line t (record (l.lines t) { client = client_of l t }) l)
idle-rests l t x = line-rests l t (l.lines t) (λ r. record { fresh = x.fresh t r; serves = λ b up. x.serving b t up r }) x

pub not-refused : (r : Option AgentFault) (c : ClientState) → is_some (call_refusal r c) ≡ false → (c.is_welcomed ≡ true) × (is_some r ≡ false)
not-refused r c n = ⊎_elim (λ y. (y, sym (called r c y) ∙ n)) (λ y. apart (uncalled r c y) n) (cases_Bool c.is_welcomed)

few-live : (a : TabState) (more : ℕ) → is_some (live_refusal a more) ≡ false → live_numbers a < live_limit a.in_parts
few-live a more = either (λ z. is_some z ≡ false → live_numbers a < live_limit a.in_parts) (nat_le (live_limit a.in_parts) (live_numbers a)) (Some TooMany) (cond (has_numbers a more) None (Some NumbersUsedUp))
    (λ _ n. apart refl n) (λ e _. omega (arith, leb-false (live_limit a.in_parts) (live_numbers a) e))

pub few-asked : (a : TabState) (name : List ℕ) → is_some (ask_refusal a name) ≡ false → live_numbers a < live_limit a.in_parts
few-asked a name = either (λ z. is_some z ≡ false → live_numbers a < live_limit a.in_parts) (not (is_supported name)) (Some NotSupported) _
    (λ _ n. apart refl n)
    (λ _. either (λ z. is_some z ≡ false → live_numbers a < live_limit a.in_parts) _ (Some NameTooLong) (live_refusal a 2) (λ _ n. apart refl n) (λ _ n. few-live a 2 n))

pub ask-rests : (l : Library) (w : WorldState) (t : ℕ) (mode : Mode) (b : Bool) (name : List ℕ) → Sim l w → NumbersBelow l t → RoomForOne l t → IsResting l → IsResting (step (Asks t mode b name) l)
unfolding step
ask-rests l w t mode b name s below room x =
    let c = client_of l t in
    either IsResting (runs l t) (with_line t (record (l.lines t) { client = asks mode b name c }) l) l
    (λ _. either (λ (z : ClientState). IsResting (with_line t (record (l.lines t) { client = z }) l)) (is_some (call_refusal (ask_refusal c.locks name) c)) c (after_command (asked mode b name) c)
    (λ _. idle-rests l t x)
    (λ n. let h = not-refused (ask_refusal c.locks name) c n in
    command-rests l w t (asked mode b name) (Request mode b name) s h.0 (asked-issued mode b name c.locks) below (λ _. few-asked c.locks name h.1) (λ _. room) x))
    (λ _. x)

pub query-rests : (l : Library) (w : WorldState) (t : ℕ) → Sim l w → NumbersBelow l t → IsResting l → IsResting (step (Queries t) l)
unfolding step
query-rests l w t s below x =
    let c = client_of l t in
    either IsResting (runs l t) (with_line t (record (l.lines t) { client = queries c }) l) l
    (λ _. either (λ (z : ClientState). IsResting (with_line t (record (l.lines t) { client = z }) l)) (is_some (call_refusal (query_refusal c.locks) c)) c (after_command queried c)
    (λ _. idle-rests l t x)
    (λ n. command-rests l w t queried Query s (not-refused (query_refusal c.locks) c n).0 (queried-issued c.locks) below (λ e. apart e refl) (λ e. apart e refl) x))
    (λ _. x)

-- A command that ends a number, if the number's state allows it.
ending-rests : (l : Library) (w : WorldState) (t : ℕ) (F : TabState → TabState) (o : Operation) (test : Bool) → Sim l w → is_lock o ≡ false → Issued o (client_of l t).locks (F (client_of l t).locks)
    → NumbersBelow l t → IsResting l
    → IsResting (cond (runs l t) (with_line t (record (l.lines t) { client = cond (is_some (call_refusal None (client_of l t))) (client_of l t) (cond test (after_command F (client_of l t)) (client_of l t)) }) l) l)
ending-rests l w t F o test s none i below x =
    let c = client_of l t in
    either IsResting (runs l t) (with_line t (record (l.lines t) { client = cond (is_some (call_refusal None c)) c (cond test (after_command F c) c) }) l) l
    (λ _. either (λ (z : ClientState). IsResting (with_line t (record (l.lines t) { client = z }) l)) (is_some (call_refusal None c)) c (cond test (after_command F c) c)
    (λ _. idle-rests l t x)
    (λ n. either (λ (z : ClientState). IsResting (with_line t (record (l.lines t) { client = z }) l)) test (after_command F c) c
    (λ _. command-rests l w t F o s (not-refused None c n).0 i below (λ e. apart e none) (λ e. apart e none) x)
    (λ _. idle-rests l t x)))
    (λ _. x)

pub abort-rests : (l : Library) (w : WorldState) (t k : ℕ) → Sim l w → NumbersBelow l t → IsResting l → IsResting (step (Aborts t k) l)
unfolding step
abort-rests l w t k s below x =
    let a = (client_of l t).locks in ending-rests l w t (aborted k) (Abort k) (is_pending a k && is_asked (status_of a k)) s refl (aborted-issued k a) below x

pub release-rests : (l : Library) (w : WorldState) (t k : ℕ) → Sim l w → NumbersBelow l t → IsResting l → IsResting (step (Releases t k) l)
unfolding step
release-rests l w t k s below x =
    let a = (client_of l t).locks in ending-rests l w t (released k) (Release k) (is_holding a k) s refl (released-issued k a) below x
