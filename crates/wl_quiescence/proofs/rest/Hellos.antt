-- A client handles the hello of the broker that is up: the step keeps the invariant.
use Rattle.std.proofs.Common.{◌≡◌, inr, ⊎_elim, ℕ, suc, ◌<◌, true, false, not, cond, List, [], ◌∷◌, ◌++◌, Some, None, is_some, sym, ap, ◌∙◌, subst, arith}
use Rattle.std.specs.Prelude.{◌==◌}
use Rattle.std.specs.List.{list_any}
use Rattle.std.proofs.lemmas.Bool.{ne_eqb, and_parts, not-true, false_from_ne_true}
use Rattle.wl_draft.specs.Membership.{In, Later as Behind}
use Rattle.wl_draft.proofs.Membership.{apart, either}
use Rattle.wl_grammar.specs.declared.frame.Frame.{Frame}
use Rattle.wl_broker.specs.Broker.{BrokerState, seat_of, is_joined}
use Rattle.wl_agent.specs.Tab.{TabState, is_report_due}
use Rattle.wl_agent.specs.declared.delivered.Delivered.{Delivered}
use Rattle.wl_tab.specs.Tabs.{told}
use Rattle.wl_client.specs.declared.client.Unsent.TheVariants as unsent
use Rattle.wl_client.specs.Client.{ClientState, call_refusal, after_frame, after_delivery, after_first, after_welcome}
use Rattle.wl_client.specs.Client.{advanced as client_advanced}
use Rattle.wl_world_model.specs.World.{WorldState, tab_of}
use Rattle.wl_world_model.specs.Holdings.{IsHonest as IsHonestIn}
use Rattle.wl_world_model.proofs.exclusion.Invariant.{SoundTab, broker_of, broker_in, limit_in}
use Rattle.wl_library_model.specs.Library.{Library, ClientAdvances, Resends, resends, client_of, lives, is_taken, runs, with_line, step}
use Rattle.wl_library_model.specs.Simulation.{AreLocksOf}
use Rattle.wl_library_model.proofs.Carried.{Sim}
use Rattle.wl_quiescence.proofs.rest.Invariant.{View, Serves, IsReported, IsResting, bare, view, view_with, hello, outputs_to}
use Rattle.wl_quiescence.proofs.rest.Hello.{Hears, hears-new, again-arrives, resend-serves, delivery-hello}
use Rattle.wl_quiescence.proofs.rest.Entering.{enter-reported}
use Rattle.wl_quiescence.proofs.rest.Steps.{HoldsOf, line-rests}

-- The client has the locks of a sound tab.
pub sound-locks : (t : ℕ) (c a : TabState) → AreLocksOf c a → SoundTab t a → SoundTab t c
sound-locks t c a e s = subst (SoundTab t) (sym e) (record {
  issued = s.issued;
  lock = s.lock;
  unended = s.unended;
  ends = s.ends;
  told = s.told;
  first = s.first;
  own = s.own;
  rises = s.rises;
})

-- What the client of a tab that has not joined is, when it has entered.
pub enters-serves : (v : View) (t : ℕ) (b : BrokerState) (c : ClientState) (rest : List Frame) → v.down ≡ hello b.generation ∷ rest → c.is_welcomed ≡ true → 0 < b.generation
    → c.locks.entered < b.generation → is_joined (seat_of b t) ≡ false → SoundTab t c.locks → Serves v t b
    → Serves (record v { down = rest; client = bare (after_delivery (hello b.generation) c) }) t b
enters-serves v t b c rest d y pos lt away sound s =
    let g = b.generation in
    let n = after_delivery (hello g) c in
    let now : View = record v { down = rest; client = bare n } in
    let h : Hears g c n = hears-new g c pos lt in
    let due : is_report_due n.locks ≡ true = ⊎_elim (λ same. absurd (let e : c.locks.entered ≡ g = sym (ap (λ (z : TabState). z.entered) same) ∙ h.entered in omega (arith, lt, e))) (λ x. x) h.again in
    record {
      welcomed = λ w. apart y w;
      enters = λ e. absurd (e h.entered);
      answers = λ f i a. s.answers f (subst (In f) (sym d) (Behind i)) a;
      reaches = λ _. inr (inr (again-arrives now t b c.unsent h.unsent (inr due)));
      reported = λ _ _. subst (λ (z : TabState × Delivered). IsReported (told z.0)) (sym (delivery-hello g c.locks lt)) (enter-reported t g c.locks sound);
      kept = λ j. apart j away;
    }

-- The client enters the generation of the broker that is up.
pub enter-rests : (l : Library) (w : WorldState) (t : ℕ) (b : BrokerState) (fs : List Frame) → Sim l w → l.hub.supervised.broker ≡ Some b → (client_of l t).arrived ≡ hello b.generation ∷ fs
    → (client_of l t).is_welcomed ≡ true → (client_of l t).locks.entered < b.generation → IsResting l → IsResting (step (ClientAdvances t) l)
unfolding step
enter-rests l w t b fs s up a y lt x =
    let c = client_of l t in
    let g = b.generation in
    let pos : 0 < g = omega (arith, lt) in
    let c' = record c { arrived = fs } in
    let n = after_delivery (hello g) c' in
    let same : client_advanced c ≡ n =
    ap (λ zs. after_first zs c) a ∙ (ap (λ z. cond z (after_frame (hello g) c') (after_welcome None c')) y
    ∙ ap (λ z. cond z (record c' { unsent = c.unsent ++ unsent.Resend ∷ [] }) n) (ne_eqb g c.locks.entered (λ e. omega (arith, lt, e)))) in
    let m = with_line t (record (l.lines t) { client = client_advanced c }) l in
    let rest = fs ++ (l.lines t).down ++ outputs_to t l.hub.outputs in
    let down : (view l t).down ≡ hello g ∷ rest = ap (λ zs. zs ++ (l.lines t).down ++ outputs_to t l.hub.outputs) a in
    let broker : broker_of w ≡ b = ap (broker_in w.kernel.generation) (sym s.hub.broker ∙ up) in
    let locks = (s.lines t).client.welcomed y in
    let honest : runs l t ≡ true → IsHonestIn w t = λ r. subst (λ zs. list_any (λ u. u == t) zs ≡ false) s.taken (not-true _ (and_parts (lives l t) (not (is_taken l t)) r).1) in
    let away : runs l t ≡ true → is_joined (seat_of b t) ≡ false = λ r. false_from_ne_true _ (λ j.
    let e : (tab_of w t).entered ≡ w.kernel.generation = (s.good.sound.seats t).joined (honest r) (subst (λ (z : BrokerState). is_joined (seat_of z t) ≡ true) (sym broker) j) in
    let k : b.generation ≡ w.kernel.generation = sym (ap (λ z. z.generation) broker) ∙ s.good.sound.current in
    let o : c.locks.entered ≡ (tab_of w t).entered = ap (λ (z : TabState). z.entered) locks in
    omega (arith, lt, e, k, o)) in
    let new : runs l t ≡ true → HoldsOf l.hub t (record (l.lines t) { client = n }) = λ r. record {
      fresh = let f = x.fresh t r in record {
        welcome = λ z. apart y z;
        past = λ f' k i. f.past f' k (subst (In f') (sym down) (Behind i));
        entered =
            let e : n.locks.entered ≡ g = (hears-new g c' pos lt).entered in
            let k : g ≡ w.kernel.generation = sym (ap (λ z. z.generation) broker) ∙ s.good.sound.current in
            let o : l.hub.supervised.kernel.generation ≡ w.kernel.generation = ap (λ z. z.generation) s.hub.kernel in
            let top : limit_in l.hub.supervised.kernel.generation l.hub.supervised.broker ≡ suc l.hub.supervised.kernel.generation = ap (limit_in l.hub.supervised.kernel.generation) up in
            omega (arith, e, k, o, top);
      };
      serves = λ b' up'. subst (Serves (view_with l.hub (record (l.lines t) { client = n }) t) t) (same-broker b b' (sym up ∙ up'))
          (enters-serves (view l t) t b c' rest down y pos lt (away r) (sound-locks t c.locks (tab_of w t) locks (s.good.sound.tabs t).state) (x.serving b t up r));
    } in
    let rests : IsResting m = subst (λ z. IsResting (with_line t (record (l.lines t) { client = z }) l)) (sym same) (line-rests l t (record (l.lines t) { client = n }) new x) in
    either IsResting (runs l t) m l (λ _. rests) (λ _. x)
  where
    same-broker : (b c : BrokerState) → Some b ≡ Some c → b ≡ c
    same-broker b c e = cc

-- Resends

-- The client is to send again all that is due.
resend-line : (l : Library) (w : WorldState) (t : ℕ) → Sim l w → IsResting l → IsResting (with_line t (record (l.lines t) { client = record (client_of l t) { unsent = (client_of l t).unsent ++ unsent.Resend ∷ [] } }) l)
resend-line l w t s x =
    line-rests l t (record (l.lines t) { client = record (client_of l t) { unsent = (client_of l t).unsent ++ unsent.Resend ∷ [] } })
    (λ r. record {
      fresh = let f = x.fresh t r in record { welcome = f.welcome; past = f.past; entered = f.entered };
      serves = λ b up.
          let k : (broker_of w).generation ≡ w.kernel.generation = s.good.sound.current in
          let o : (broker_of w).generation ≡ b.generation = ap (λ (z : BrokerState). z.generation) (ap (broker_in w.kernel.generation) (sym s.hub.broker ∙ up)) in
          let pos = s.good.sound.positive in
          resend-serves (view l t) t b (omega (arith, k, o, pos)) (x.serving b t up r);
    }) x

pub resend-rests : (l : Library) (w : WorldState) (t : ℕ) → Sim l w → IsResting l → IsResting (step (Resends t) l)
unfolding step
resend-rests l w t s x =
    let c = client_of l t in
    either IsResting (runs l t) (with_line t (record (l.lines t) { client = resends c }) l) l
    (λ _. either (λ (z : ClientState). IsResting (with_line t (record (l.lines t) { client = z }) l)) (is_some (call_refusal None c)) c (record c { unsent = c.unsent ++ unsent.Resend ∷ [] })
    (λ _. line-rests l t (l.lines t) (λ r. record { fresh = x.fresh t r; serves = λ b up. x.serving b t up r }) x)
    (λ _. resend-line l w t s x))
    (λ _. x)
