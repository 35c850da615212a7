-- A client handles a frame of the hub: the step keeps the invariant.
use Rattle.std.proofs.Common.{◌≡◌, ◌≢◌, ⊎_elim, ℕ, ◌<◌, Bool, true, false, not, ◌&&◌, cond, List, [], ◌∷◌, ◌++◌, Option, Some, refl, sym, ap, ◌∙◌, subst, arith, append-nil}
use Rattle.std.specs.Prelude.{◌==◌, nat_lt}
use Rattle.std.specs.List.{list_any}
use Rattle.std.proofs.lemmas.Bool.{cases_Bool, cases_eq, eq-eqb, ne_eqb, eqb-true, and_parts, and_from, not-true}
use Rattle.wl_draft.specs.Membership.{In, Here, Later as Behind}
use Rattle.wl_draft.proofs.Membership.{apart, either, In-cons_cases}
use Rattle.wl_grammar.specs.declared.frame.Answer.{Answer}
use Rattle.wl_grammar.specs.declared.frame.Frame.{Frame}
use Rattle.wl_grammar.specs.declared.frame.Frame.TheVariants as frame
use Rattle.wl_grammar.specs.declared.frame.Operation.{Operation}
use Rattle.wl_grammar.specs.declared.frame.Operation.TheVariants.{Request, Release, Abort, Query}
use Rattle.wl_grammar.specs.declared.frame.Outcome.{Outcome}
use Rattle.wl_grammar.specs.declared.frame.Outcome.TheVariants.{Granted, Waiting, Gone, Taken}
use Rattle.wl_broker.specs.Broker.{BrokerState, seat_of, is_joined}
use Rattle.wl_agent.specs.declared.status.Status.{Status}
use Rattle.wl_agent.specs.declared.status.Status.TheVariants.{Asked, Held, Querying}
use Rattle.wl_agent.specs.declared.delivered.Delivered.{Delivered}
use Rattle.wl_agent.specs.declared.delivered.Delivered.TheVariants as heard
use Rattle.wl_agent.specs.declared.drop_reason.DropReason.TheVariants as unheard
use Rattle.wl_agent.specs.SnapshotParts.{PartsState, with_part, is_whole as is_whole_snapshot}
use Rattle.wl_agent.specs.Tab.{TabState, status_of, operation_of, is_issued}
use Rattle.wl_agent.specs.Delivery.{noted, after_answer, result_of_asked_lock_answer, result_of_lock_answer, result_of_end_answer, result_of_asked_query_answer, result_of_query_answer, result_of_answer, told_by_answer, has_entered, of_other, delivery}
use Rattle.wl_tab.specs.Tabs.{told}
use Rattle.wl_tab.specs.Arrivals.{arrival, told_said}
use Rattle.wl_client.specs.declared.client.Unsent.TheVariants as unsent
use Rattle.wl_client.specs.Client.{after_told, after_frame, after_first, after_welcome, is_entering, welcome_of}
use Rattle.wl_client.specs.Client.{advanced as client_advanced}
use Rattle.wl_world_model.specs.World.{WorldState, tab_of}
use Rattle.wl_world_model.specs.Holdings.{IsHonest as IsHonestIn}
use Rattle.wl_world_model.proofs.exclusion.Invariant.{SoundTab, broker_of, broker_in, limit_in}
use Rattle.wl_library_model.specs.Library.{Library, ClientAdvances, client_of, lives, is_taken, runs, with_line, step}
use Rattle.wl_library_model.specs.Simulation.{AreLocksOf}
use Rattle.wl_library_model.proofs.Awaited.{NoneTold, told-same}
use Rattle.wl_library_model.proofs.Carried.{Sim}
use Rattle.wl_quiescence.proofs.rest.Invariant.{View, view, view_with, hello, outputs_to, is_answer_in, parts_in, HasKept, Serves, IsResting}
use Rattle.wl_quiescence.proofs.rest.Steps.{HoldsOf, line-rests}
use Rattle.wl_quiescence.proofs.rest.Hellos.{sound-locks}
use Rattle.wl_quiescence.proofs.client.Kept.{Heeds, Follows, heard_view, follows-serves}
use Rattle.wl_quiescence.proofs.client.Answers.{answered_by, answered-entered, answer-serves}

-- The frames behind the first
abbrev pub behind : Library → ℕ → List Frame → List Frame
behind l t fs = fs ++ (l.lines t).down ++ outputs_to t l.hub.outputs

-- A client that handles a frame that does not make it enter a generation.
pub heard-rests : (l : Library) (t : ℕ) (f : Frame) (fs : List Frame) (c : TabState) → (client_of l t).arrived ≡ f ∷ fs → (client_of l t).is_welcomed ≡ true
    → after_frame f (record (client_of l t) { arrived = fs }) ≡ after_told (arrival f (client_of l t).locks) c (record (client_of l t) { arrived = fs })
    → is_entering (arrival f (client_of l t).locks) ≡ false → c.entered ≡ (client_of l t).locks.entered
    → ((b : BrokerState) → runs l t ≡ true → l.hub.supervised.broker ≡ Some b → (view l t).down ≡ f ∷ behind l t fs → Serves (view l t) t b → Serves (heard_view (view l t) (behind l t fs) c) t b)
    → IsResting l → IsResting (step (ClientAdvances t) l)
unfolding step
heard-rests l t f fs c a y is quiet entered serves x =
    let o = client_of l t in
    let rest = record o { arrived = fs } in
    let n = after_told (arrival f o.locks) c rest in
    let same : client_advanced o ≡ n = ap (λ zs. after_first zs o) a ∙ (ap (λ z. cond z (after_frame f rest) (after_welcome (welcome_of f) rest)) y ∙ is) in
    let down : (view l t).down ≡ f ∷ behind l t fs = ap (λ zs. zs ++ (l.lines t).down ++ outputs_to t l.hub.outputs) a in
    let none : o.unsent ++ (cond (is_entering (arrival f o.locks)) (unsent.Resend ∷ []) []) ≡ o.unsent = ap (λ z. o.unsent ++ (cond z (unsent.Resend ∷ []) [])) quiet ∙ append-nil o.unsent in
    let now : view_with l.hub (record (l.lines t) { client = n }) t ≡ heard_view (view l t) (behind l t fs) c =
    ap (λ z. record (view l t) { down = behind l t fs; client = record (view l t).client { locks = c; unsent = z } }) none in
    let holds : runs l t ≡ true → HoldsOf l.hub t (record (l.lines t) { client = n }) = λ r. record {
      fresh = let g = x.fresh t r in record {
        welcome = λ z. apart y z;
        past = λ f' k i. g.past f' k (subst (In f') (sym down) (Behind i));
        entered = subst (λ z. z < limit_in l.hub.supervised.kernel.generation l.hub.supervised.broker) (sym entered) g.entered;
      };
      serves = λ b u. subst (λ z. Serves z t b) (sym now) (serves b r u down (x.serving b t u r));
    } in
    let rests : IsResting (with_line t (record (l.lines t) { client = client_advanced o }) l) =
    subst (λ z. IsResting (with_line t (record (l.lines t) { client = z }) l)) (sym same) (line-rests l t (record (l.lines t) { client = n }) holds x) in
    either IsResting (runs l t) (with_line t (record (l.lines t) { client = client_advanced o }) l) l (λ _. rests) (λ _. x)

-- No generation is entered

abbrev pub quiet : Delivered → Bool
quiet (heard.Entered r) = false
quiet d = true

pub said-quiet : (f : Frame) (a c : TabState) (d : Delivered) → quiet d ≡ true → is_entering (told_said f a c d) ≡ false
said-quiet f a c (heard.Entered r) e = apart e refl
said-quiet f a c d e = refl

asked-quiet : (k : ℕ) (b : Bool) (o : Outcome) → quiet (result_of_asked_lock_answer k b o) ≡ true
asked-quiet k b Granted = refl
asked-quiet k b Waiting = either (λ d. quiet d ≡ true) b (heard.Dropped unheard.Odd) (heard.Waiting k) (λ _. refl) (λ _. refl)
asked-quiet k b Gone = either (λ d. quiet d ≡ true) b (heard.Null k) (heard.Dropped unheard.Odd) (λ _. refl) (λ _. refl)
asked-quiet k b Taken = refl

lock-quiet : (k : ℕ) (b : Bool) (s : Option Status) (o : Outcome) → quiet (result_of_lock_answer k b s o) ≡ true
lock-quiet k b (Some Asked) o = asked-quiet k b o
lock-quiet k b (Some Held) o = refl
lock-quiet k b s o = refl

end-quiet : (k : ℕ) (o : Outcome) → quiet (result_of_end_answer k o) ≡ true
end-quiet k Taken = refl
end-quiet k o = refl

asked_query-quiet : (k : ℕ) (o : Outcome) → quiet (result_of_asked_query_answer k o) ≡ true
asked_query-quiet k Gone = refl
asked_query-quiet k o = refl

query-quiet : (k : ℕ) (s : Option Status) (o : Outcome) → quiet (result_of_query_answer k s o) ≡ true
query-quiet k (Some (Querying ps)) o = asked_query-quiet k o
query-quiet k s o = refl

command-quiet : (k : ℕ) (c : Operation) (s : Option Status) (o : Outcome) → quiet (result_of_answer k c s o) ≡ true
command-quiet k (Request m b x) s o = lock-quiet k b s o
command-quiet k (Release j) s o = end-quiet k o
command-quiet k (Abort j) s o = end-quiet k o
command-quiet k Query s o = query-quiet k s o

pub other-quiet : (g : ℕ) (a : TabState) → quiet (of_other g a) ≡ true
other-quiet g a = either (λ d. quiet d ≡ true) (nat_lt g a.entered) (heard.Dropped unheard.OldGeneration) (heard.Dropped unheard.LaterGeneration) (λ _. refl) (λ _. refl)

answer-quiet : (x : Answer) (a : TabState) → is_entering (arrival (frame.Answer x) a) ≡ false
unfolding arrival delivery
answer-quiet x a =
    either {A = TabState × Delivered} (λ z. is_entering (told_said (frame.Answer x) a z.0 z.1) ≡ false) (has_entered x.generation a) (noted x.upto (after_answer (told_by_answer x a) a), told_by_answer x a) (a, of_other x.generation a)
    (λ _. said-quiet (frame.Answer x) a (noted x.upto (after_answer (told_by_answer x a) a)) (told_by_answer x a)
    (either (λ d. quiet d ≡ true) (is_issued a x.number) (result_of_answer x.number (operation_of a x.number) (status_of a x.number) x.outcome) (heard.Dropped unheard.Odd)
    (λ _. command-quiet x.number (operation_of a x.number) (status_of a x.number) x.outcome) (λ _. refl)))
    (λ _. said-quiet (frame.Answer x) a a (of_other x.generation a) (other-quiet x.generation a))

-- The locks of an honest tab's client

module _ (l : Library) (w : WorldState) (t : ℕ) (s : Sim l w) (y : (client_of l t).is_welcomed ≡ true) where
  pub client-locks : AreLocksOf (client_of l t).locks (tab_of w t)
  client-locks = (s.lines t).client.welcomed y

  pub client-sound : SoundTab t (client_of l t).locks
  client-sound = sound-locks t (client_of l t).locks (tab_of w t) client-locks (s.good.sound.tabs t).state

  pub client-none : NoneTold (client_of l t).locks.statuses
  client-none = subst (λ z. NoneTold z.statuses) (sym client-locks) (s.good.fit.untold t)

  -- An honest tab that has joined has entered the generation.
  pub joined-entered : (b : BrokerState) → runs l t ≡ true → l.hub.supervised.broker ≡ Some b → is_joined (seat_of b t) ≡ true → (client_of l t).locks.entered ≡ b.generation
  joined-entered b r up j =
      let broker : broker_of w ≡ b = ap (broker_in w.kernel.generation) (sym s.hub.broker ∙ up) in
      let honest : IsHonestIn w t = subst (λ zs. list_any (λ u. u == t) zs ≡ false) s.taken (not-true _ (and_parts (lives l t) (not (is_taken l t)) r).1) in
      ap (λ (z : TabState). z.entered) client-locks
      ∙ ((s.good.sound.seats t).joined honest (subst (λ (z : BrokerState). is_joined (seat_of z t) ≡ true) (sym broker) j)
      ∙ (sym s.good.sound.current ∙ ap (λ z. z.generation) broker))

  -- A frame of a generation that the tab has not entered is not of the broker that is up, if that needs a tab that has joined.
  pub other-generation : (b : BrokerState) → runs l t ≡ true → l.hub.supervised.broker ≡ Some b → (g : ℕ) → has_entered g (client_of l t).locks ≡ false → (g ≡ b.generation → is_joined (seat_of b t) ≡ true) → (g == b.generation) ≡ false
  other-generation b r up g n j = ne_eqb g b.generation (λ e.
      let o = joined-entered b r up (j e) in
      let broker : broker_of w ≡ b = ap (broker_in w.kernel.generation) (sym s.hub.broker ∙ up) in
      let k : b.generation ≡ w.kernel.generation = sym (ap (λ z. z.generation) broker) ∙ s.good.sound.current in
      let pos : 0 < w.kernel.generation = s.good.sound.positive in
      apart (and_from (g == (client_of l t).locks.entered) (not ((client_of l t).locks.entered == 0)) (eq-eqb g (client_of l t).locks.entered (e ∙ sym o)) (ap not (ne_eqb (client_of l t).locks.entered 0 (λ z. omega (arith, z, o, k, pos))))) n)

-- An answer

-- The tab takes no answer of a generation that it has not entered.
pub answer-other : (x : Answer) (a : TabState) → has_entered x.generation a ≡ false → NoneTold a.statuses → told (delivery (frame.Answer x) a).0 ≡ a
unfolding delivery
answer-other x a n none = ap (λ z. let o : TabState × Delivered = cond z (noted x.upto (after_answer (told_by_answer x a) a), told_by_answer x a) (a, of_other x.generation a) in told o.0) n ∙ told-same a none

pub answer-own : (x : Answer) (a : TabState) → has_entered x.generation a ≡ true → told (delivery (frame.Answer x) a).0 ≡ answered_by x a
unfolding delivery
answer-own x a y = ap (λ z. let o : TabState × Delivered = cond z (noted x.upto (after_answer (told_by_answer x a) a), told_by_answer x a) (a, of_other x.generation a) in told o.0) y

-- Nothing is changed but that the frame is handled, which is no hello and no answer of the broker that is up.
parts-skip : (g k : ℕ) (f : Frame) (fs : List Frame) (ps : PartsState) → is_answer_in g f ≡ false → parts_in g k (f ∷ fs) ps ≡ parts_in g k fs ps
parts-skip g k (frame.Snapshot x) fs ps n = ap (λ z. parts_in g k fs (cond (z && (x.number == k)) (with_part x ps) ps)) n
parts-skip g k f fs ps n = refl

unheard-follows : (v : View) (t : ℕ) (b : BrokerState) (f : Frame) (rest : List Frame) → v.down ≡ f ∷ rest → is_answer_in b.generation f ≡ false → HasKept v t b v.client.locks → Follows v t b rest v.client.locks
unheard-follows v t b f rest e n k = record {
  issued = refl;
  low = k.acknowledged;
  asked = λ j y. y;
  queried = λ j y. y;
  waited = λ j y. y;
  answered = λ j _ _ o. (o.0, ⊎_elim (λ i. absurd (apart (ap (is_answer_in b.generation) (sym i) ∙ eq-eqb o.0.generation b.generation o.2) n)) (λ i. i) (In-cons_cases (subst (In (frame.Answer o.0)) e o.1)), o.2, o.3, o.4);
  snapshot = λ j _ _ o. (
    o.0,
    o.1,
    (o.2.0, ⊎_elim (λ i. absurd (apart (ap (is_answer_in b.generation) (sym i) ∙ eq-eqb o.2.0.generation b.generation o.2.2) n)) (λ i. i) (In-cons_cases (subst (In (frame.Snapshot o.2.0)) e o.2.1)), o.2.2, o.2.3),
    ap is_whole_snapshot (sym (ap (λ z. parts_in b.generation j z o.0) e ∙ parts-skip b.generation j f rest o.0 n)) ∙ o.3,
  );
  alive = λ j _ y. y;
}

pub unheard-serves : (v : View) (t : ℕ) (b : BrokerState) (f : Frame) (rest : List Frame) → v.down ≡ f ∷ rest → (hello b.generation ≡ f → ⊥) → is_answer_in b.generation f ≡ false → Serves v t b → Serves (heard_view v rest v.client.locks) t b
unheard-serves v t b f rest e d n s = follows-serves v t b f rest v.client.locks e d refl (λ j. unheard-follows v t b f rest e n (s.kept j)) (λ _ _. refl) s

-- The tab has entered another generation than the broker's.
pub old-serves : (v : View) (t : ℕ) (b : BrokerState) (f : Frame) (rest : List Frame) (c : TabState) → v.down ≡ f ∷ rest → (hello b.generation ≡ f → ⊥) → c.entered ≡ v.client.locks.entered → v.client.locks.entered ≢ b.generation
    → (is_joined (seat_of b t) ≡ true → v.client.locks.entered ≡ b.generation) → Serves v t b → Serves (heard_view v rest c) t b
old-serves v t b f rest c e d same n j s = follows-serves v t b f rest c e d same (λ x. absurd (n (j x))) (λ x _. absurd (n x)) s

-- The client handles an answer.
pub answer-rests : (l : Library) (w : WorldState) (t : ℕ) (x : Answer) (fs : List Frame) → Sim l w → (client_of l t).arrived ≡ frame.Answer x ∷ fs → (client_of l t).is_welcomed ≡ true
    → ((b : BrokerState) → runs l t ≡ true → l.hub.supervised.broker ≡ Some b → Heeds (view l t) t b) → IsResting l → IsResting (step (ClientAdvances t) l)
answer-rests l w t x fs s a y heeds rest =
    let o = (client_of l t).locks in
    let none = client-none l w t s y in
    let sound = client-sound l w t s y in
    ⊎_elim
    (λ e.
    let h = and_parts (x.generation == o.entered) (not (o.entered == 0)) e in
    let same : x.generation ≡ o.entered = eqb-true x.generation o.entered h.0 in
    let now : (answered_by x o).entered ≡ o.entered = answered-entered x o sound.rises in
    heard-rests l t (frame.Answer x) fs (answered_by x o) a y (ap (λ z. after_told (arrival (frame.Answer x) o) z (record (client_of l t) { arrived = fs })) (answer-own x o e)) (answer-quiet x o) now
    (λ b r up down v. ⊎_elim
    (λ g. answer-serves (view l t) t b x (behind l t fs) down (same ∙ g) sound none (heeds b r up) v)
    (λ d. old-serves (view l t) t b (frame.Answer x) (behind l t fs) (answered_by x o) down (no-hello b.generation x) now d (joined-entered l w t s y b r up) v)
    (cases_eq o.entered b.generation))
    rest)
    (λ e.
    heard-rests l t (frame.Answer x) fs o a y (ap (λ z. after_told (arrival (frame.Answer x) o) z (record (client_of l t) { arrived = fs })) (answer-other x o e none)) (answer-quiet x o) refl
    (λ b r up down v. unheard-serves (view l t) t b (frame.Answer x) (behind l t fs) down (no-hello b.generation x)
    (other-generation l w t s y b r up x.generation e (λ g. v.answers (frame.Answer x) (subst (In (frame.Answer x)) (sym down) Here) (eq-eqb x.generation b.generation g)))
    v)
    rest)
    (cases_Bool (has_entered x.generation o))
  where
    no-hello : (g : ℕ) (z : Answer) → hello g ≡ frame.Answer z → ⊥
    no-hello g z e = cc
