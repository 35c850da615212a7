-- The hub drops a frame that is not due: the step keeps the invariant.
use Rattle.std.proofs.Common.{◌≡◌, inl, inr, ⊎_elim, ℕ, Bool, true, false, not, ◌&&◌, cond, List, [], ◌∷◌, ◌++◌, map, filter, Some, None, refl, sym, ap, ◌∙◌, subst}
use Rattle.std.specs.Prelude.{◌==◌, if◌then◌else◌}
use Rattle.std.proofs.lemmas.Bool.{cases_eq, and_parts, eq-eqb, ne_eqb}
use Rattle.wl_draft.specs.Membership.{In, Later}
use Rattle.wl_draft.proofs.Membership.{apart, either, In-append_left, In-append_right, In-append_cases, In-cons_cases}
use Rattle.wl_grammar.specs.declared.frame.Frame.{Frame}
use Rattle.wl_grammar.specs.declared.frame.Frame.TheVariants as frame
use Rattle.wl_broker.specs.Broker.{BrokerState}
use Rattle.wl_agent.specs.SnapshotParts.{PartsState, with_part, is_whole as is_whole_snapshot}
use Rattle.wl_client.specs.Client.{welcome_of}
use Rattle.wl_kernel.specs.Kernel.{is_living}
use Rattle.wl_hub.specs.Hub.{HubState}
use Rattle.wl_hub.specs.Sending.{is_current}
use Rattle.wl_world_model.specs.World.{WorldState}
use Rattle.wl_world_model.proofs.exclusion.Invariant.{broker_in, limit_in}
use Rattle.wl_library_model.specs.Library.{Library, HubSends, client_of, lives, is_taken, runs, with_hub, with_line, is_due, hub_sends_from, step}
use Rattle.wl_library_model.proofs.Carried.{Sim}
use Rattle.wl_quiescence.proofs.hub.Moves.{parts-append}
use Rattle.wl_quiescence.proofs.rest.Invariant.{View, Fresh, Serves, IsResting, Greets, SendsAgain, hello, parts_in, view, view_with, outputs_to}
use Rattle.wl_quiescence.proofs.rest.Steps.{to-other, rests-same, sent-same}

-- A frame of the generation `g` stays when another is left out.
In-stays : (g : ℕ) (x f : Frame) (front back : List Frame) → is_current g x ≡ true → is_current g f ≡ false → In x (front ++ f ∷ back) → In x (front ++ back)
In-stays g x f front back c n i =
    ⊎_elim (λ j. In-append_left back j)
    (λ j. ⊎_elim (λ e. apart (ap (is_current g) (sym e) ∙ c) n) (λ k. In-append_right front k) (In-cons_cases j))
    (In-append_cases front (f ∷ back) i)

pub In-before : (x f : Frame) (front back : List Frame) → In x (front ++ back) → In x (front ++ f ∷ back)
In-before x f front back i = ⊎_elim (λ j. In-append_left (f ∷ back) j) (λ j. In-append_right front (Later j)) (In-append_cases front back i)

-- A snapshot's parts are those of its generation.
parts-skip : (g k : ℕ) (f : Frame) (fs : List Frame) (ps : PartsState) → is_current g f ≡ false → parts_in g k (f ∷ fs) ps ≡ parts_in g k fs ps
parts-skip g k (frame.Snapshot x) fs ps n = ap (λ z. parts_in g k fs (if z && (x.number == k) then with_part x ps else ps)) n
parts-skip g k (frame.Command x) fs ps n = refl
parts-skip g k (frame.Report x) fs ps n = refl
parts-skip g k (frame.ReportPart x) fs ps n = refl
parts-skip g k (frame.Post x) fs ps n = refl
parts-skip g k (frame.Hello x) fs ps n = refl
parts-skip g k (frame.Answer x) fs ps n = refl
parts-skip g k (frame.Heard x) fs ps n = refl
parts-skip g k (frame.Welcome x) fs ps n = refl
parts-skip g k (frame.PairWelcome x) fs ps n = refl
parts-skip g k (frame.Stamped x) fs ps n = refl
parts-skip g k (frame.Start x) fs ps n = refl
parts-skip g k (frame.Addressed x) fs ps n = refl
parts-skip g k (frame.Dead x) fs ps n = refl

parts-stay : (g k : ℕ) (f : Frame) (front back : List Frame) (ps : PartsState) → is_current g f ≡ false → parts_in g k (front ++ f ∷ back) ps ≡ parts_in g k (front ++ back) ps
parts-stay g k f front back ps n =
    parts-append g k front (f ∷ back) ps ∙ (parts-skip g k f back (parts_in g k front ps) n ∙ sym (parts-append g k front back ps))

-- A welcome is of no generation.
welcome-current : (g : ℕ) (f : Frame) (x : ℕ × Bool) → welcome_of f ≡ Some x → is_current g f ≡ true
welcome-current g (frame.Welcome w) x e = refl
welcome-current g (frame.PairWelcome w) x e = refl
welcome-current g (frame.Hello w) x e = absurd (none-some x e)
  where
    none-some : (x : ℕ × Bool) → None ≡ Some x → ⊥
    none-some x e = cc
welcome-current g (frame.Answer w) x e = absurd (none-some x e)
  where
    none-some : (x : ℕ × Bool) → None ≡ Some x → ⊥
    none-some x e = cc
welcome-current g (frame.Snapshot w) x e = absurd (none-some x e)
  where
    none-some : (x : ℕ × Bool) → None ≡ Some x → ⊥
    none-some x e = cc
welcome-current g (frame.Command w) x e = refl
welcome-current g (frame.Report w) x e = refl
welcome-current g (frame.ReportPart w) x e = refl
welcome-current g (frame.Post w) x e = refl
welcome-current g (frame.Heard w) x e = refl
welcome-current g (frame.Stamped w) x e = refl
welcome-current g (frame.Start w) x e = refl
welcome-current g (frame.Addressed w) x e = refl
welcome-current g (frame.Dead w) x e = refl

abbrev lowered : View → List Frame → View
lowered v fs = record v { down = fs }

fresh-lowered : (v : View) (g bound : ℕ) (f : Frame) (front back : List Frame) → v.down ≡ front ++ f ∷ back → is_current g f ≡ false → Fresh v bound → Fresh (lowered v (front ++ back)) bound
fresh-lowered v g bound f front back d n h = record {
  welcome = λ w. let o = h.welcome w in first front o.0 o.1 o.2 (sym d ∙ o.3) o.4;
  past = λ x k i a. h.past x k (subst (In x) (sym d) (In-before x f front back i)) a;
  entered = h.entered;
}
  where
    head-same : (x y : Frame) (xs ys : List Frame) → x ∷ xs ≡ y ∷ ys → x ≡ y
    head-same x y xs ys e = cc

    first : (front : List Frame) (x : Frame) (xs : List Frame) (y : ℕ × Bool) → front ++ f ∷ back ≡ x ∷ xs → welcome_of x ≡ Some y
        → (z : Frame) × (zs : List Frame) × (y : ℕ × Bool) × (front ++ back ≡ z ∷ zs) × (welcome_of z ≡ Some y)
    first [] x xs y e w = apart (ap (is_current g) (head-same f x back xs e) ∙ welcome-current g x y w) n
    first (z ∷ zs) x xs y e w = (z, zs ++ back, y, refl, ap welcome_of (head-same z x (zs ++ f ∷ back) xs e) ∙ w)

serves-lowered : (v : View) (t : ℕ) (b : BrokerState) (f : Frame) (front back : List Frame) → v.down ≡ front ++ f ∷ back → is_current b.generation f ≡ false → Serves v t b → Serves (lowered v (front ++ back)) t b
serves-lowered v t b f front back d n s =
    let g = b.generation in
    let stays : (x : Frame) → is_current g x ≡ true → In x v.down → In x (front ++ back) = λ x c i. In-stays g x f front back c n (subst (In x) d i) in
    let greets : Greets g v → Greets g (lowered v (front ++ back)) = stays (hello g) (eq-eqb g g refl) in
    let again : SendsAgain v t b → SendsAgain (lowered v (front ++ back)) t b = ⊎_elim (λ h. inl (greets h)) (λ h. inr h) in
    record {
      welcomed = λ w. greets (s.welcomed w);
      enters = λ e. greets (s.enters e);
      answers = λ x i a. s.answers x (subst (In x) (sym d) (In-before x f front back i)) a;
      reaches = λ e. ⊎_elim (λ h. inl (greets h)) (λ h. inr h) (s.reaches e);
      reported = s.reported;
      kept = λ j. let k = s.kept j in record {
        acknowledged = k.acknowledged;
        issued = k.issued;
        queried = k.queried;
        awaited = λ m lt w. ⊎_elim inl (λ o. inr (⊎_elim
            (λ a. inl (a.0, stays (frame.Answer a.0) (eq-eqb a.0.generation g a.2) a.1, a.2, a.3, a.4))
            (λ o. inr (⊎_elim
            (λ a. inl (
              a.0,
              a.1,
              (a.2.0, stays (frame.Snapshot a.2.0) (eq-eqb a.2.0.generation g a.2.2) a.2.1, a.2.2, a.2.3),
              ap (λ z. is_whole_snapshot z) (sym (ap (λ z. parts_in g m z a.0) d ∙ parts-stay g m f front back a.0 n)) ∙ a.3,
            ))
            (λ o. inr (⊎_elim (λ h. inl (again h)) (λ i. inr i) o)) o)) o)) (k.awaited m lt w);
        stands = k.stands;
        own = k.own;
        room = k.room;
      };
    }

-- The hub without its first output, which is for one tab.
pub drop-other : (l : Library) (o : ℕ × Frame) (os : List (ℕ × Frame)) → l.hub.outputs ≡ o ∷ os → (u : ℕ) → (o.0 == u) ≡ false → view_with (record l.hub { outputs = os }) (l.lines u) u ≡ view l u
drop-other l o os e u d = ap (λ z. record (view l u) { down = (client_of l u).arrived ++ (l.lines u).down ++ z }) (to-other o os u d ∙ ap (outputs_to u) (sym e))

pub drop-down : (l : Library) (o : ℕ × Frame) (os : List (ℕ × Frame)) → l.hub.outputs ≡ o ∷ os → (view l o.0).down ≡ ((client_of l o.0).arrived ++ (l.lines o.0).down) ++ o.1 ∷ outputs_to o.0 os
drop-down l o os e =
    ap (λ z. (client_of l o.0).arrived ++ (l.lines o.0).down ++ outputs_to o.0 z) e
    ∙ ap (λ b. (client_of l o.0).arrived ++ (l.lines o.0).down ++ map (λ (x : ℕ × Frame). x.1) (cond b (o ∷ filter (λ (x : ℕ × Frame). x.0 == o.0) os) (filter (λ (x : ℕ × Frame). x.0 == o.0) os))) (eq-eqb o.0 o.0 refl)

-- A frame for a living tab is of another generation, if it is not due.
pub drop-old : (l : Library) (o : ℕ × Frame) → is_due l.hub o ≡ false → runs l o.0 ≡ true → is_current l.hub.supervised.kernel.generation o.1 ≡ false
drop-old l o n r = either-false (is_living l.hub.supervised.kernel o.0) (is_current l.hub.supervised.kernel.generation o.1) (and_parts (lives l o.0) (not (is_taken l o.0)) r).0 n
  where
    either-false : (a b : Bool) → a ≡ true → (a && b) ≡ false → b ≡ false
    either-false true b e f = f
    either-false false b e f = apart e refl

-- The frame that is left out was due for nobody, or of another generation.
dropped-at : (l : Library) (w : WorldState) (o : ℕ × Frame) (os : List (ℕ × Frame)) → Sim l w → l.hub.outputs ≡ o ∷ os → is_due l.hub o ≡ false → IsResting l → IsResting (with_hub (record l.hub { outputs = os }) l)
dropped-at l w o os s e n x =
    let h : HubState = record l.hub { outputs = os } in
    let g = l.hub.supervised.kernel.generation in
    let front : ℕ → List Frame = λ u. (client_of l u).arrived ++ (l.lines u).down in
    let other : (u : ℕ) → (o.0 == u) ≡ false → view_with h (l.lines u) u ≡ view l u = drop-other l o os e in
    let old : runs l o.0 ≡ true → is_current g o.1 ≡ false = drop-old l o n in
    let down : (view l o.0).down ≡ front o.0 ++ o.1 ∷ outputs_to o.0 os = drop-down l o os e in
    let new : view_with h (l.lines o.0) o.0 ≡ lowered (view l o.0) (front o.0 ++ outputs_to o.0 os) = refl in
    record {
      fresh = λ u r. ⊎_elim
          (λ q. subst (λ u. runs l u ≡ true → Fresh (view_with h (l.lines u) u) (limit_in g l.hub.supervised.broker)) q
          (λ r. subst (λ z. Fresh z (limit_in g l.hub.supervised.broker)) (sym new) (fresh-lowered (view l o.0) g (limit_in g l.hub.supervised.broker) o.1 (front o.0) (outputs_to o.0 os) down (old r) (x.fresh o.0 r))) r)
          (λ d. subst (λ z. Fresh z (limit_in g l.hub.supervised.broker)) (sym (other u (ne_eqb o.0 u d))) (x.fresh u r))
          (cases_eq o.0 u);
      keeping = λ b up. x.keeping b up;
      serving = λ b u up r. ⊎_elim
          (λ q. subst (λ u. runs l u ≡ true → Serves (view_with h (l.lines u) u) u b) q
          (λ r. subst (λ z. Serves z o.0 b) (sym new) (serves-lowered (view l o.0) o.0 b o.1 (front o.0) (outputs_to o.0 os) down (ap (λ z. is_current z o.1) (current b up) ∙ old r) (x.serving b o.0 up r))) r)
          (λ d. subst (λ z. Serves z u b) (sym (other u (ne_eqb o.0 u d))) (x.serving b u up r))
          (cases_eq o.0 u);
    }
  where
    current : (b : BrokerState) → l.hub.supervised.broker ≡ Some b → b.generation ≡ l.hub.supervised.kernel.generation
    current b up =
        sym (ap (λ (z : BrokerState). z.generation) (ap (broker_in w.kernel.generation) (sym s.hub.broker ∙ up)))
        ∙ (s.good.sound.current ∙ sym (ap (λ z. z.generation) s.hub.kernel))

-- The oldest frame is sent or dropped.
sends-from : (l : Library) (w : WorldState) (os : List (ℕ × Frame)) → Sim l w → l.hub.outputs ≡ os → IsResting l → IsResting (hub_sends_from os l)
sends-from l w [] s e x = x
sends-from l w (o ∷ os) s e x =
    let m = with_hub (record l.hub { outputs = os }) l in
    either IsResting (is_due l.hub o) (with_line o.0 (record (l.lines o.0) { down = (l.lines o.0).down ++ o.1 ∷ [] }) m) m
    (λ _. rests-same l _ (sent-same l o os e) x)
    (λ n. dropped-at l w o os s e n x)

pub hub_send-rests : (l : Library) (w : WorldState) → Sim l w → IsResting l → IsResting (step HubSends l)
unfolding step
hub_send-rests l w s x = sends-from l w l.hub.outputs s refl x
