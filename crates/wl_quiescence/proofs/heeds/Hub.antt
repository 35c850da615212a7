-- An opening, a death, a restart, a stop and a frame that is dropped keep it that what comes down to a client agrees with the broker.
use Rattle.std.proofs.Common.{◌≡◌, ◌≢◌, ⊎_elim, ℕ, Bool, true, false, not, ◌&&◌, List, [], ◌∷◌, ◌++◌, Option, Some, None, is_some, Result, Ok, Err, refl, sym, ap, ◌∙◌, subst, arith}
use Rattle.std.specs.Prelude.{◌==◌, if◌then◌else◌}
use Rattle.std.proofs.lemmas.Bool.{cases_eq, and_parts, and_from, eqb-true, eqb-false, eq-eqb, ne_eqb, false_from_ne_true}
use Rattle.wl_draft.specs.Membership.{In}
use Rattle.wl_draft.proofs.Membership.{apart, either}
use Rattle.wl_grammar.specs.declared.frame.Frame.{Frame}
use Rattle.wl_grammar.specs.declared.frame.Frame.TheVariants as frame
use Rattle.wl_broker.specs.Broker.{BrokerState, seat_of, is_joined}
use Rattle.wl_agent.specs.SnapshotParts.{PartsState, with_part}
use Rattle.wl_kernel.specs.Kernel.{KernelState, is_opened}
use Rattle.wl_hub.specs.Hub.{HubState, page_refusal, hub_closed, hub_restarted, hub_down}
use Rattle.wl_hub.specs.Sending.{is_current}
use Rattle.wl_library_model.specs.Library.{Library, Opens, Closes, Restarts, Stops, HubSends, new_line, client_of, lives, is_taken, runs, with_line, with_hub, is_due, hub_sends_from, step}
use Rattle.wl_world_model.specs.World.{WorldState}
use Rattle.wl_world_model.proofs.exclusion.OpenedTabs.{ended-lives, ended-number}
use Rattle.wl_world_model.proofs.exclusion.OpeningAndKilling.{not_opened}
use Rattle.wl_library_model.proofs.Carried.{Sim}
use Rattle.wl_origin.specs.Order.{Pair}
use Rattle.wl_origin.specs.declared.fault.OriginFault.{OriginFault}
use Rattle.wl_kernel.specs.Kernel.{tab_in, lives as lives_in, open_refusal, may_stop, stopped}
use Rattle.wl_hub.specs.Hub.{hub_opened}
use Rattle.wl_supervised_broker.specs.SupervisedStates.{SupervisedState}
use Rattle.wl_quiescence.proofs.rest.Invariant.{View, view, view_with, outputs_to, is_answer_in, IsResting}
use Rattle.wl_quiescence.proofs.rest.Restarts.{restart-new, restart-rests}
use Rattle.wl_quiescence.proofs.calls.Opens.{OutputsOpened, dying, other-view, each-runs, no-answer, mapped-some}
use Rattle.wl_quiescence.proofs.calls.Drops.{In-before, drop-other, drop-down, drop-old}
use Rattle.wl_quiescence.proofs.client.Kept.{AllFit, Heeds, IsHeeding}
use Rattle.wl_quiescence.proofs.client.Heeds.{fit-none, fit-skip}
use Rattle.wl_quiescence.proofs.client.Queries.{AreUnheard}
use Rattle.wl_agent.specs.Tab.{status_of, operation_of, is_querying}
use Rattle.wl_grammar.specs.declared.frame.Operation.TheVariants.{Query}
use Rattle.wl_quiescence.proofs.Reached.{IsReached, world_of, reached-sim, reached-tabs, reached-current, reached-outputs, reached-queries}
use Rattle.wl_quiescence.proofs.heeds.Advances.{no-broker}
use Rattle.wl_quiescence.proofs.rest.Steps.{sent-same}
use Rattle.wl_quiescence.proofs.heeds.Calls.{alike-heeds, same-heeds}

-- No answer of the broker that is up comes.
quiet-heeds : (v : View) (t : ℕ) (b : BrokerState) → ((f : Frame) → In f v.down → is_answer_in b.generation f ≡ true → ⊥) → ((k : ℕ) → is_querying (status_of v.client.locks k) ≡ true → operation_of v.client.locks k ≡ Query)
    → (v.client.locks.entered ≡ b.generation → AreUnheard v.client.locks.statuses) → Heeds v t b
quiet-heeds v t b none queries unheard = record {
  answers = λ x i g. absurd (none (frame.Answer x) i (eq-eqb x.generation b.generation g));
  snapshots = λ x i g. absurd (none (frame.Snapshot x) i (eq-eqb x.generation b.generation g));
  fit = λ k ps e. fit-none b.generation k v.down ps (λ f i. false_from_ne_true _ (none f i));
  queries = queries;
  unheard = λ e k le q. unheard e k q;
}

-- An opening

opened-heeds : (l : Library) (w : WorldState) (t : ℕ) (p : Pair) (i : Bool) → Sim l w → OutputsOpened l → IsResting l → is_opened l.hub.supervised.kernel t ≡ false → IsHeeding l
    → IsHeeding (with_line t new_line (with_hub (hub_opened t p i l.hub) l))
opened-heeds l w t p i s outs x unopened h b u up r =
    let hub = hub_opened t p i l.hub in
    either (λ z. Heeds (view_with hub z u) u b) (u == t) new_line (l.lines u)
    (λ y. subst (λ z. Heeds (view_with hub new_line z) z b) (sym (eqb-true u t y))
    (quiet-heeds (view_with hub new_line t) t b (λ f j a. no-answer l w t p i s outs x unopened f b.generation j a) (λ k e. apart e refl) (λ _ k e. apart e refl)))
    (λ n. let d : t ≢ u = λ e. eqb-false u t n (sym e) in
    subst (λ z. Heeds z u b) (sym (other-view l w t p i s outs x unopened u d)) (h b u up (each-runs l w t p i s outs x unopened u d r)))

pub open-heeds : (l : Library) → IsReached l → (t : ℕ) (page : Result Pair OriginFault) (i : Bool) → IsResting l → IsHeeding l → IsHeeding (step (Opens t page i) l)
unfolding step
open-heeds l r t (Err f) i x h = h
open-heeds l r t (Ok p) i x h =
    either IsHeeding (is_some (page_refusal t (Ok p) l.hub)) l (with_line t new_line (with_hub (hub_opened t p i l.hub) l))
    (λ _. h)
    (λ n. opened-heeds l (world_of l r) t p i (reached-sim l r) (reached-outputs l r) x (not_opened l.hub.supervised.kernel t p (sym (mapped-some (open_refusal t p l.hub.supervised.kernel)) ∙ n)) h)

-- A death

dying-heeds : (l : Library) (t : ℕ) (fs : List Frame) → IsHeeding l → IsHeeding (with_hub (dying t l.hub fs) l)
dying-heeds l t fs h b u up r =
    let m = with_hub (dying t l.hub fs) l in
    let p = and_parts (lives m u) (not (is_taken l u)) r in
    alike-heeds (view l u) (view m u) u b refl (ended-number t l.hub.supervised.kernel.opened u) refl (h b u up (and_from (lives l u) (not (is_taken l u)) (ended-lives t l.hub.supervised.kernel.opened u p.0) p.1))

pub close-heeds : (l : Library) (t : ℕ) → IsHeeding l → IsHeeding (step (Closes t) l)
unfolding step
close-heeds l t h =
    either IsHeeding (lives l t) (with_hub (hub_closed t l.hub) l) l
    (λ _. either (λ (z : HubState). IsHeeding (with_hub z l)) (l.hub.sender == t) (dying t l.hub []) (dying t l.hub l.hub.arrived)
    (λ _. dying-heeds l t [] h) (λ _. dying-heeds l t l.hub.arrived h))
    (λ _. h)

-- The broker

pub restart-heeds : (l : Library) → IsReached l → IsResting l → IsHeeding l → IsHeeding (step Restarts l)
unfolding step
restart-heeds l r x h b t up y =
    let g = hub_restarted l.hub in
    let rests : IsResting (with_hub g l) = restart-rests l (reached-tabs l r) x in
    ⊎_elim
    (λ e. (subst (λ (z : HubState). IsHeeding (with_hub z l)) (sym e) h) b t up y)
    (λ n.
    let run : runs l t ≡ true = sym (ap (λ z. lives_in (tab_in z t) && not (is_taken l t)) n.opened) ∙ y in
    let low = (x.fresh t run).entered in
    let later = n.later in
    let generation : b.generation ≡ g.supervised.kernel.generation = ap (λ (z : BrokerState). z.generation) n.broker in
    quiet-heeds (view (with_hub g l) t) t b
    (λ f i a. apart (subst (λ (z : BrokerState). is_joined (seat_of z t) ≡ true) n.broker ((rests.serving b t up y).answers f i a)) refl)
    (λ k e. ((reached-queries l t r).queries k e).1)
    (λ e. absurd (omega (arith, low, later, generation, e))))
    (restart-new l.hub.supervised.kernel l.hub.supervised.broker l.hub b up)

stop-at : (l : Library) (k : KernelState) (o : Option BrokerState) → IsHeeding (with_hub (record l.hub { supervised = record { kernel = k; broker = o } }) l)
    → IsHeeding (with_hub (hub_down (record l.hub { supervised = record { kernel = k; broker = o } })) l)
stop-at l k None h = h
stop-at l k (Some c) h =
    either (λ (s : SupervisedState). IsHeeding (with_hub (record l.hub { supervised = s }) l)) (may_stop k) (record { kernel = stopped k; broker = None }) (record { kernel = k; broker = Some c })
    (λ _. no-broker (with_hub (record l.hub { supervised = record { kernel = stopped k; broker = None } }) l) refl) (λ _. h)

pub stop-heeds : (l : Library) → IsHeeding l → IsHeeding (step Stops l)
unfolding step
stop-heeds l h = stop-at l l.hub.supervised.kernel l.hub.supervised.broker h

-- A frame that is not due

old-answer : (g : ℕ) (f : Frame) → is_current g f ≡ false → is_answer_in g f ≡ false
old-answer g (frame.Answer x) n = n
old-answer g (frame.Snapshot x) n = n
old-answer g f n = refl

fit-drop : (g k : ℕ) (f : Frame) (front back : List Frame) (ps : PartsState) → is_current g f ≡ false → AllFit g k (front ++ f ∷ back) ps → AllFit g k (front ++ back) ps
fit-drop g k f [] back ps n a = fit-skip g k f back ps (old-answer g f n) a
fit-drop g k f (frame.Snapshot x ∷ front) back ps n a = (a.0, fit-drop g k f front back (if (x.generation == g) && (x.number == k) then with_part x ps else ps) n a.1)
fit-drop g k f (x ∷ front) back ps n a = fit-drop g k f front back ps n a

lowered-heeds : (v : View) (t : ℕ) (b : BrokerState) (f : Frame) (front back : List Frame) → v.down ≡ front ++ f ∷ back → is_current b.generation f ≡ false → Heeds v t b → Heeds (record v { down = front ++ back }) t b
lowered-heeds v t b f front back d n h = record {
  answers = λ x i. h.answers x (subst (In (frame.Answer x)) (sym d) (In-before (frame.Answer x) f front back i));
  snapshots = λ x i. h.snapshots x (subst (In (frame.Snapshot x)) (sym d) (In-before (frame.Snapshot x) f front back i));
  fit = λ k ps e. fit-drop b.generation k f front back ps n (subst (λ z. AllFit b.generation k z ps) d (h.fit k ps e));
  queries = h.queries;
  unheard = h.unheard;
}

-- The oldest frame is dropped.
drop-heeds : (l : Library) → IsReached l → (o : ℕ × Frame) (os : List (ℕ × Frame)) → l.hub.outputs ≡ o ∷ os → is_due l.hub o ≡ false → IsHeeding l → IsHeeding (with_hub (record l.hub { outputs = os }) l)
drop-heeds l r o os e n h b u up run =
    let hub : HubState = record l.hub { outputs = os } in
    ⊎_elim
    (λ q. subst (λ u. runs l u ≡ true → Heeds (view_with hub (l.lines u) u) u b) q
    (λ y. lowered-heeds (view l o.0) o.0 b o.1 ((client_of l o.0).arrived ++ (l.lines o.0).down) (outputs_to o.0 os) (drop-down l o os e)
    (ap (λ z. is_current z o.1) (reached-current l r b up) ∙ drop-old l o n y) (h b o.0 up y)) run)
    (λ d. subst (λ z. Heeds z u b) (sym (drop-other l o os e u (ne_eqb o.0 u d))) (h b u up run))
    (cases_eq o.0 u)

sends-heeds : (l : Library) → IsReached l → (os : List (ℕ × Frame)) → l.hub.outputs ≡ os → IsHeeding l → IsHeeding (hub_sends_from os l)
sends-heeds l r [] e h = h
sends-heeds l r (o ∷ os) e h =
    let m = with_hub (record l.hub { outputs = os }) l in
    either IsHeeding (is_due l.hub o) (with_line o.0 (record (l.lines o.0) { down = (l.lines o.0).down ++ o.1 ∷ [] }) m) m
    (λ _. same-heeds l _ (sent-same l o os e) h)
    (λ n. drop-heeds l r o os e n h)

pub hub_send-heeds : (l : Library) → IsReached l → IsHeeding l → IsHeeding (step HubSends l)
unfolding step
hub_send-heeds l r h = sends-heeds l r l.hub.outputs refl h
