-- What the broker sends when it takes a message or hears of a death agrees with it, for each living honest tab.
use Rattle.std.proofs.Common.{◌≡◌, ◌≢◌, ⊎_elim, inl, ℕ, ◌<◌, true, false, not, List, [], ◌++◌, Option, Some, refl, sym, ap, ◌∙◌, subst, arith}
use Rattle.std.specs.Prelude.{◌==◌}
use Rattle.std.specs.List.{list_any}
use Rattle.std.proofs.lemmas.Bool.{cases_eq, and_parts, eq-eqb, not-true, or_cases, or_left}
use Rattle.wl_draft.specs.declared.row.Row.{Row}
use Rattle.wl_draft.specs.Locks.{Locks}
use Rattle.wl_draft.specs.Membership.{In}
use Rattle.wl_draft.proofs.Membership.{apart, In-nil, In-map, In-filter, In-append_left, In-append_right}
use Rattle.wl_grammar.specs.declared.frame.Addressed.{Addressed}
use Rattle.wl_grammar.specs.declared.frame.Command.{Command}
use Rattle.wl_grammar.specs.declared.frame.Operation.TheVariants.{Query}
use Rattle.wl_grammar.specs.declared.frame.Upward.{Upward}
use Rattle.wl_grammar.specs.declared.frame.Stamped.{Stamped}
use Rattle.wl_grammar.specs.declared.frame.Frame.TheVariants as frame
use Rattle.wl_broker.specs.declared.seat.TabSeat.{TabSeat}
use Rattle.wl_broker.specs.declared.seat.TabSeat.TheVariants.{Joined, Dead}
use Rattle.wl_broker.specs.Broker.{BrokerState, Taking, Drops, Does, seat_of, next_in, next_of, manager_of, is_joined, is_lock, with_seat, settled_at, newly_at, taking}
use Rattle.wl_broker.proofs.Takings.{Takes, joins, keeps, repeats, performs, taking-Takes, Buries, again, stranger, ends, after_death, told_by_death}
use Rattle.wl_agent.specs.Tab.{TabState, status_of, operation_of, is_asked, upward_frame}
use Rattle.wl_kernel.specs.Kernel.{partition_number}
use Rattle.wl_kernel.specs.Kernel.{lives as lives_in}
use Rattle.wl_kernel.specs.Kernel.{tab_of as opened_tab}
use Rattle.wl_hub.specs.Hub.{from_broker}
use Rattle.wl_world_model.specs.World.{partition_of, tab_of}
use Rattle.wl_world_model.specs.Holdings.{IsHonest}
use Rattle.wl_world_model.proofs.exclusion.HeldAfterSettling.{without-fewer}
use Rattle.wl_world_model.proofs.exclusion.Invariant.{broker_of, broker_in, came}
use Rattle.wl_library_model.specs.Library.{Library, client_of, lives, is_taken, runs}
use Rattle.wl_quiescence.proofs.rest.Invariant.{outputs_to, view, numbers_at, IsResting}
use Rattle.wl_quiescence.proofs.rest.Broker.{after_taking}
use Rattle.wl_quiescence.proofs.client.Kept.{IsHeeding}
use Rattle.wl_quiescence.proofs.client.Frames.{client-locks, joined-entered}
use Rattle.wl_quiescence.proofs.hub.Rows.{within-In}
use Rattle.wl_quiescence.proofs.hub.Others.{Moved, takes-moved, death-moved, settled-Grants, settled-generation}
use Rattle.wl_quiescence.proofs.hub.Deaths.{buried-spares}
use Rattle.wl_quiescence.proofs.hub.Sender.{outs_of}
use Rattle.wl_quiescence.proofs.Reached.{IsReached, world_of, reached-sim, reached-once}
use Rattle.wl_quiescence.proofs.Known.{joined-welcomed}
use Rattle.wl_quiescence.proofs.OfEach.{OfEach, AreLocks}
use Rattle.wl_quiescence.proofs.heeds.Agrees.{Agrees, AreTaken, plain-agrees, moved-agrees}
use Rattle.wl_quiescence.proofs.heeds.Commands.{performs-agrees, repeats-agrees, grants-agree}

-- A lock that the broker holds of a living honest tab has a number that the broker has taken.
pub held-taken : (l : Library) → IsReached l → (c : BrokerState) (t : ℕ) → l.hub.supervised.broker ≡ Some c → runs l t ≡ true → (p : ℕ) (r : Row) → In r (manager_of c p).held → r.client ≡ t → r.number < next_of c t
held-taken l x c t up run p r i client =
    let w = world_of l x in
    let s = reached-sim l x in
    let broker : broker_of w ≡ c = ap (broker_in w.kernel.generation) (sym s.hub.broker ∙ up) in
    let known = s.good.sound.locks.known p r (inl (subst (λ (z : BrokerState). In r (manager_of z p).held) (sym broker) i)) in
    let home : p ≡ partition_number l.hub.supervised.kernel t = sym known.1 ∙ (ap (partition_of w) client ∙ ap (λ k. partition_number k t) (sym s.hub.kernel)) in
    let living : lives_in (opened_tab w.kernel t) ≡ true = ap (λ k. lives_in (opened_tab k t)) (sym s.hub.kernel) ∙ (and_parts (lives l t) (not (is_taken l t)) run).0 in
    let joined : is_joined (seat_of (broker_of w) t) ≡ true =
    ⊎_elim (λ y. y) (λ y. apart living ((s.good.sound.seats t).named y).0) (or_cases _ _ (subst (λ z. came (broker_of w) z ≡ true) client known.2)) in
    let m = manager_of c (partition_number l.hub.supervised.kernel t) in
    (reached-once l t x c up run (subst (λ (z : BrokerState). is_joined (seat_of z t) ≡ true) broker joined)).1 r.number
    (In-map (λ (r : Row). r.number) (In-filter (λ (r : Row). r.client == t) (m.held ++ m.waiting) (In-append_left m.waiting (subst (λ q. In r (manager_of c q).held) home i)) (eq-eqb r.client t client)))

-- The rows that a settling grants
pub settled-taken : (l : Library) → IsReached l → (b : BrokerState) (p : ℕ) (m : Locks) (t : ℕ) → l.hub.supervised.broker ≡ Some (settled_at b p m) → runs l t ≡ true → AreTaken (settled_at b p m) t (newly_at b p m)
settled-taken l x b p m t up run r i client =
    held-taken l x (settled_at b p m) t up run p r (subst (In r) (sym (settled-Grants b p m).behind) (In-append_right m.held i)) client

moved-taken : (l : Library) → IsReached l → (b : BrokerState) (s p : ℕ) (c : BrokerState) (outs : List Addressed) (t : ℕ) → l.hub.supervised.broker ≡ Some c → runs l t ≡ true → (x : Moved b s p c outs) → AreTaken c t x.told
moved-taken l y b s p c outs t up run x r i client =
    held-taken l y c t up run p r (subst (In r) (sym x.grants.behind) (In-append_right x.locks.held (x.among r i))) client

away-next : (s : Option TabSeat) → is_joined s ≡ false → next_in s ≡ 0
away-next (Some (Joined p n m)) e = apart refl e
away-next s e = refl

module _ (l : Library) (x : IsReached l) (resting : IsResting l) (locks : OfEach l (AreLocks l)) (heeding : IsHeeding l) (b : BrokerState) (has : l.hub.supervised.broker ≡ Some b) where
  -- What is asked is not at the broker, if its command was a query.
  query-away : (c : Command) → In (frame.Command c) l.hub.arrived → c.generation ≡ b.generation → runs l l.hub.sender ≡ true → is_joined (seat_of b l.hub.sender) ≡ true
      → c.operation ≡ Query → is_asked (status_of (client_of l l.hub.sender).locks c.number) ≡ true → In c.number (numbers_at (manager_of b (view l l.hub.sender).place) l.hub.sender) → ⊥
  query-away c i now run joined query asked j =
      let w = world_of l x in
      let sim = reached-sim l x in
      let s = l.hub.sender in
      let honest : IsHonest w s = subst (λ zs. list_any (λ u. u == s) zs ≡ false) sim.taken (not-true _ (and_parts (lives l s) (not (is_taken l s)) run).1) in
      let welcomed = joined-welcomed l w s sim b run has joined in
      let same = client-locks l w s sim welcomed in
      let lock = locks b s has run joined c.number j in
      ⊎_elim
      (λ k. let o = ((sim.good.sound.messages s).commands _ c k).2 honest in apart (sym (ap (λ (z : TabState). is_lock (operation_of z c.number)) same) ∙ lock) (ap is_lock (o.1 ∙ query)))
      (λ k. let entered : c.generation ≡ (tab_of w s).entered = now ∙ (sym (joined-entered l w s sim welcomed b run has joined) ∙ ap (λ (z : TabState). z.entered) same) in
      apart (or_left _ _ (sym (ap (λ (z : TabState). is_asked (status_of z c.number)) same) ∙ asked)) (k.settled entered).over)
      (sim.hub.arrived honest (frame.Command c) i).1

  -- The tab whose message is taken
  own-agrees : (u : Upward) (c : BrokerState) (outs : List Addressed) → Takes b l.hub.sender (view l l.hub.sender).place u c outs → In (upward_frame u) l.hub.arrived
      → (m : Library) → IsReached m → m.hub.supervised.broker ≡ Some c → runs l l.hub.sender ≡ true → runs m l.hub.sender ≡ true
      → Agrees (view l l.hub.sender) (outputs_to l.hub.sender (from_broker outs)) l.hub.sender b c
  own-agrees u c outs (joins told passes may whole) i m y up run after =
      grants-agree (view l l.hub.sender) l.hub.sender b c _ (settled-generation _ _ _) (away-next (seat_of b l.hub.sender) may.new) (settled-taken m y _ _ _ l.hub.sender up after)
  own-agrees u c outs (keeps told passes may part) i m y up run after =
      grants-agree (view l l.hub.sender) l.hub.sender b c [] refl (away-next (seat_of b l.hub.sender) may.new) (λ r j. absurd (In-nil j))
  own-agrees u c outs (repeats {c = z} passes served old) i m y up run after =
      repeats-agrees (view l l.hub.sender) l.hub.sender b z.operation z.number old (λ q a j. query-away z i passes.now run served.joined q a j)
  own-agrees u c outs (performs {c = z} passes served next) i m y up run after =
      let w = world_of l x in
      let sim = reached-sim l x in
      let s = l.hub.sender in
      let below = (reached-once l s x b has run served.joined).1 in
      performs-agrees (view l s) s b z.operation z.number next.number (λ k j. let lt = below k j in let e = next.number in omega (arith, lt, e))
      (λ r j client. settled-taken m y _ _ _ s up after r (without-fewer s z.number _ j) client)
      (joined-entered l w s sim (joined-welcomed l w s sim b run has served.joined) b run has served.joined) (heeding b s has run)

  abbrev pub stamp : Upward → Stamped
  stamp u = record { tab = l.hub.sender; partition = partition_number l.hub.supervised.kernel l.hub.sender; inner = u }

  -- Each tab, when the broker has taken or dropped a message
  pub message-agrees : (u : Upward) → In (upward_frame u) l.hub.arrived → (o : Taking) → taking b (stamp u) ≡ o
      → (m : Library) → IsReached m → m.hub.supervised.broker ≡ Some (after_taking b o) → (t : ℕ) → runs l t ≡ true → runs m t ≡ true
      → Agrees (view l t) (outputs_to t (from_broker (outs_of o))) t b (after_taking b o)
  message-agrees u i (Drops r) e m y up t run after = plain-agrees (view l t) [] t b (λ f g j. absurd (In-nil j))
  message-agrees u i (Does c outs) e m y up t run after =
      let s = l.hub.sender in
      let takes = taking-Takes b (stamp u) c outs e in
      ⊎_elim
      (λ f. subst (λ z. runs l z ≡ true → runs m z ≡ true → Agrees (view l z) (outputs_to z (from_broker outs)) z b c) (sym f) (λ r q. own-agrees u c outs takes i m y up r q) run after)
      (λ d. let moved = takes-moved b s (partition_number l.hub.supervised.kernel s) takes in
      moved-agrees (view l t) t b s (partition_number l.hub.supervised.kernel s) c outs d (resting.keeping b has).rows moved (moved-taken m y b s (partition_number l.hub.supervised.kernel s) c outs t up after moved))
      (cases_eq t s)

  -- Each other tab, when the broker has heard of a death
  pub buried-agrees : (u t : ℕ) → t ≢ u → (c : BrokerState) (outs : List Addressed) → Buries b u c outs → (m : Library) → IsReached m → m.hub.supervised.broker ≡ Some c → runs m t ≡ true
      → Agrees (view l t) (outputs_to t (from_broker outs)) t b c
  buried-agrees u t d c outs (again dead) m y up run = plain-agrees (view l t) [] t b (λ f g j. absurd (In-nil j))
  buried-agrees u t d c outs (stranger alive place) m y up run =
      let spares = buried-spares (view l t) t b u d (resting.keeping b has).rows (stranger alive place) in
      let next : next_of (with_seat u Dead b) t ≡ next_of b t = ap next_in spares.seat in
      record {
        generation = refl;
        next = omega (arith, next);
        numbers = λ k lt i. within-In _ _ spares.within i;
        answers = λ z i. absurd (In-nil i);
        snapshots = λ z i. absurd (In-nil i);
        fit = λ k ps e. tt;
      }
  buried-agrees u t d c outs (ends {p = p} alive place) m y up run =
      moved-agrees (view l t) t b u p (after_death b u p) (told_by_death b u p) d (resting.keeping b has).rows (death-moved b u p)
      (moved-taken m y b u p (after_death b u p) (told_by_death b u p) t up run (death-moved b u p))
