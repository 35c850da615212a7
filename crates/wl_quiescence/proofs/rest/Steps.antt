-- Steps that keep the invariant because they change nothing that it reads.
use Rattle.std.proofs.Common.{◌≡◌, ℕ, ◌<◌, Bool, true, false, not, ◌&&◌, cond, List, [], ◌∷◌, ◌++◌, map, filter, take, drop, Option, Some, None, refl, sym, ap, ap₂, ◌∙◌, subst, append_assoc}
use Rattle.std.specs.Prelude.{◌==◌, if◌then◌else◌}
use Rattle.std.proofs.lemmas.List.{take-append-drop}
use Rattle.std.proofs.lemmas.Bool.{and_parts, and_from, not-true, not_from_false, eqb-true, eqb-false, eq-eqb, ne_eqb}
use Rattle.wl_draft.proofs.Membership.{apart, either}
use Rattle.wl_grammar.specs.declared.frame.Frame.{Frame}
use Rattle.wl_broker.specs.Broker.{BrokerState}
use Rattle.wl_world_model.proofs.exclusion.Invariant.{limit_in}
use Rattle.wl_client.specs.Client.{ClientState, channel_refusal, with_channels, after_close, after_welcome, after_delivery, after_frame, after_first}
use Rattle.wl_client.specs.Client.{advanced as client_advanced}
use Rattle.wl_client.specs.declared.client.Unsent.TheVariants as unsent
use Rattle.wl_draft.specs.Membership.{In, Later as Behind}
use Rattle.wl_quiescence.proofs.rest.Hello.{again-serves}
use Rattle.wl_client.specs.declared.fault.ChannelCallFault.{ChannelCallFault}
use Rattle.wl_broadcast.specs.Channels.{ChannelState, open_refusal, opened, read_at, is_open_at, closed_at}
use Rattle.wl_tab.specs.TabChannels.{number_refusal}
use Rattle.wl_world_model.specs.World.{taken_over}
use Rattle.wl_world_model.proofs.exclusion.Corrupting.{honest-before}
use Rattle.wl_tab.specs.declared.channels.ChannelRefusal.TheVariants.{Fault}
use Rattle.std.specs.Prelude.{option_map}
use Rattle.wl_hub.specs.Hub.{HubState}
use Rattle.wl_library_model.specs.Library.{ClientAdvances, ClientReceives, ClosesChannel, Forges, HubReceives, Library, Line, OpensChannel, Reads, TakesEvent, TakesOver, calls, client_fed, client_of, hub_fed, is_taken, lives, new_library, runs, step, takes_event, unless, with_hub, with_line}
use Rattle.wl_quiescence.proofs.rest.Invariant.{hello, bare, view_with, view, hub_view, outputs_to, down_with, arrived_of, Fresh, Serves, Keeping, IsResting}

-- No broker, and no tab.
pub new-rests : IsResting new_library
new-rests = record { fresh = λ t y. apart y refl; keeping = λ b e. absurd (none-some b e); serving = λ b t e y. apart y refl }
  where
    none-some : (b : BrokerState) → None ≡ Some b → ⊥
    none-some b e = cc

-- The same tabs run, and all that the invariant reads is the same.
pub record LooksSame (l m : Library) : Type 0 where
  pub hub : hub_view m.hub ≡ hub_view l.hub
  pub running : (t : ℕ) → runs m t ≡ true → runs l t ≡ true
  pub views : (t : ℕ) → runs m t ≡ true → view m t ≡ view l t

pub rests-same : (l m : Library) → LooksSame l m → IsResting l → IsResting m
rests-same l m s x =
    let back = sym s.hub in
    let broker = ap (λ z. z.supervised.broker) s.hub in
    record {
      fresh = λ t y.
          subst (λ z. Fresh z (limit_in m.hub.supervised.kernel.generation m.hub.supervised.broker)) (sym (s.views t y))
          (subst (λ z. Fresh (view l t) (limit_in z.supervised.kernel.generation z.supervised.broker)) back (x.fresh t (s.running t y)));
      keeping = λ b up. subst (λ z. Keeping z b) back (x.keeping b (sym broker ∙ up));
      serving = λ b t up y. subst (λ z. Serves z t b) (sym (s.views t y)) (x.serving b t (sym broker ∙ up) (s.running t y));
    }

same : (l : Library) → LooksSame l l
same l = record { hub = refl; running = λ t y. y; views = λ t y. refl }

-- One line

-- The line is replaced by one that looks the same.
line-same : (l : Library) (t : ℕ) (y : Line) → view_with l.hub y t ≡ view l t → LooksSame l (with_line t y l)
line-same l t y e = record {
  hub = refl;
  running = λ u r. r;
  views = λ u r. either (λ z. view_with l.hub z u ≡ view l u) (u == t) y (l.lines u)
      (λ v. let s = eqb-true u t v in subst (λ z. view_with l.hub y z ≡ view l z) (sym s) e) (λ _. refl);
}

if-same : (l m : Library) (b : Bool) → LooksSame l m → LooksSame l (if b then m else l)
if-same l m b s = either (LooksSame l) b m l (λ _. s) (λ _. same l)

-- A call that changes channels and events alone.
call-same : (l : Library) (t : ℕ) (call : ClientState → ClientState) → (bare (call (client_of l t)) ≡ bare (client_of l t)) → ((call (client_of l t)).arrived ≡ (client_of l t).arrived) → LooksSame l (calls t call l)
call-same l t call e a =
    if-same l (with_line t (record (l.lines t) { client = call (client_of l t) }) l) (runs l t)
    (line-same l t (record (l.lines t) { client = call (client_of l t) })
    (ap₂ (λ c zs. record (view l t) { client = c; down = zs ++ (l.lines t).down ++ outputs_to t l.hub.outputs }) e a))

-- The hub sends

to-tab : (o : ℕ × Frame) (os : List (ℕ × Frame)) (t : ℕ) (fs : List Frame) → o.0 ≡ t → (fs ++ o.1 ∷ []) ++ outputs_to t os ≡ fs ++ outputs_to t (o ∷ os)
to-tab o os t fs e =
    append_assoc fs (o.1 ∷ []) (outputs_to t os)
    ∙ ap (λ b. fs ++ map (λ (x : ℕ × Frame). x.1) (cond b (o ∷ filter (λ (x : ℕ × Frame). x.0 == t) os) (filter (λ (x : ℕ × Frame). x.0 == t) os))) (sym (eq-eqb o.0 t e))

pub to-other : (o : ℕ × Frame) (os : List (ℕ × Frame)) (t : ℕ) → (o.0 == t) ≡ false → outputs_to t os ≡ outputs_to t (o ∷ os)
to-other o os t e = ap (λ b. map (λ (x : ℕ × Frame). x.1) (cond b (o ∷ filter (λ (x : ℕ × Frame). x.0 == t) os) (filter (λ (x : ℕ × Frame). x.0 == t) os))) (sym e)

-- A frame that joins those on its way to its tab.
pub sent-same : (l : Library) (o : ℕ × Frame) (os : List (ℕ × Frame)) → l.hub.outputs ≡ o ∷ os
    → LooksSame l (with_line o.0 (record (l.lines o.0) { down = (l.lines o.0).down ++ o.1 ∷ [] }) (with_hub (record l.hub { outputs = os }) l))
sent-same l o os e =
    let x = l.lines o.0 in
    let h = record l.hub { outputs = os } in
    record {
      hub = refl;
      running = λ u r. r;
      views = λ u r. either (λ z. view_with h z u ≡ view l u) (u == o.0) (record x { down = x.down ++ o.1 ∷ [] }) (l.lines u)
          (λ v. let s : o.0 ≡ u = sym (eqb-true u o.0 v) in
          subst (λ z. view_with h (record z { down = z.down ++ o.1 ∷ [] }) u ≡ view l u) (ap l.lines (sym s))
          (ap (λ z. record (view l u) { down = z }) (ap (λ z. z ++ outputs_to u os) (sym (append_assoc (client_of l u).arrived (l.lines u).down (o.1 ∷ []))) ∙ (to-tab o os u ((client_of l u).arrived ++ (l.lines u).down) s ∙ ap (λ z. down_with (record l.hub { outputs = z }) (l.lines u) u) (sym e)))))
          (λ v. ap (λ z. record (view l u) { down = (client_of l u).arrived ++ (l.lines u).down ++ z }) (to-other o os u (ne_eqb o.0 u (λ s. eqb-false u o.0 v (sym s))) ∙ ap (outputs_to u) (sym e)));
    }

-- The hub receives

receives-same : (l : Library) (t n : ℕ) (fs : List Frame) → l.hub.arrived ≡ fs → LooksSame l (hub_fed t n fs l)
receives-same l t n (f ∷ fs) e = same l
receives-same l t n [] e =
    let x = l.lines t in
    let h = record l.hub { sender = t; arrived = take n x.up } in
    let none : (u : ℕ) → arrived_of l.hub u ≡ [] = λ u. either (λ z. z ≡ []) (l.hub.sender == u) l.hub.arrived [] (λ _. e) (λ _. refl) in
    record {
      hub = refl;
      running = λ u r. r;
      views = λ u r. either (λ z. view_with h z u ≡ view l u) (u == t) (record x { up = drop n x.up }) (l.lines u)
          (λ v. let s : t ≡ u = sym (eqb-true u t v) in
          subst (λ z. view_with h (record (l.lines z) { up = drop n (l.lines z).up }) u ≡ view l u) (sym s)
          (ap (λ z. record (view l u) { up = z })
          (ap (λ b. (if b then take n (l.lines t).up else []) ++ drop n (l.lines u).up) (eq-eqb t u s)
          ∙ (ap (λ z. take n (l.lines z).up ++ drop n (l.lines u).up) s ∙ (take-append-drop n (l.lines u).up ∙ sym (ap (λ z. z ++ (l.lines u).up) (none u)))))))
          (λ v. ap (λ z. record (view l u) { up = z ++ (l.lines u).up }) (ap (λ b. if b then take n x.up else []) (ne_eqb t u (λ s. eqb-false u t v (sym s))) ∙ sym (none u)));
    }

-- A client receives

client-same : (l : Library) (t n : ℕ) (fs : List Frame) → (client_of l t).arrived ≡ fs → view_with l.hub (client_fed n fs (l.lines t)) t ≡ view l t
client-same l t n (f ∷ fs) e = refl
client-same l t n [] e =
    ap (λ z. record (view l t) { down = z ++ outputs_to t l.hub.outputs }) (take-append-drop n (l.lines t).down ∙ sym (ap (λ z. z ++ (l.lines t).down) e))

-- The steps

pub take_event-same : (l : Library) (t : ℕ) → LooksSame l (step (TakesEvent t) l)
unfolding step
take_event-same l t = call-same l t takes_event refl refl

pub take_event-rests : (l : Library) (t : ℕ) → IsResting l → IsResting (step (TakesEvent t) l)
take_event-rests l t x = rests-same l (step (TakesEvent t) l) (take_event-same l t) x

pub open_channel-same : (l : Library) (t : ℕ) (name : List ℕ) → LooksSame l (step (OpensChannel t name) l)
unfolding step
open_channel-same l t name = unless-same l t (channel_refusal (option_map Fault (open_refusal name (client_of l t).channels)) (client_of l t)) (opened name (client_of l t).channels)
  where
    unless-same : (l : Library) (t : ℕ) (o : Option ChannelCallFault) (cs : ChannelState) → LooksSame l (calls t (λ c. unless o c (with_channels cs c)) l)
    unless-same l t None cs = call-same l t (λ c. with_channels cs c) refl refl
    unless-same l t (Some f) cs = call-same l t (λ c. c) refl refl

pub open_channel-rests : (l : Library) (t : ℕ) (name : List ℕ) → IsResting l → IsResting (step (OpensChannel t name) l)
open_channel-rests l t name x = rests-same l (step (OpensChannel t name) l) (open_channel-same l t name) x

pub hub_receive-same : (l : Library) (t n : ℕ) → LooksSame l (step (HubReceives t n) l)
unfolding step
hub_receive-same l t n = if-same l (hub_fed t n l.hub.arrived l) (lives l t) (receives-same l t n l.hub.arrived refl)

pub hub_receive-rests : (l : Library) (t n : ℕ) → IsResting l → IsResting (step (HubReceives t n) l)
hub_receive-rests l t n x = rests-same l (step (HubReceives t n) l) (hub_receive-same l t n) x

pub client_receive-same : (l : Library) (t n : ℕ) → LooksSame l (step (ClientReceives t n) l)
unfolding step
client_receive-same l t n =
    if-same l (with_line t (client_fed n (client_of l t).arrived (l.lines t)) l) (runs l t)
    (line-same l t (client_fed n (client_of l t).arrived (l.lines t)) (client-same l t n (client_of l t).arrived refl))

pub client_receive-rests : (l : Library) (t n : ℕ) → IsResting l → IsResting (step (ClientReceives t n) l)
client_receive-rests l t n x = rests-same l (step (ClientReceives t n) l) (client_receive-same l t n) x

pub read-same : (l : Library) (t k : ℕ) → LooksSame l (step (Reads t k) l)
unfolding step
read-same l t k = unless-same l t (channel_refusal (number_refusal k (client_of l t).channels) (client_of l t)) (read_at k (client_of l t).channels)
  where
    unless-same : (l : Library) (t : ℕ) (o : Option ChannelCallFault) (cs : ChannelState) → LooksSame l (calls t (λ c. unless o c (with_channels cs c)) l)
    unless-same l t None cs = call-same l t (λ c. with_channels cs c) refl refl
    unless-same l t (Some f) cs = call-same l t (λ c. c) refl refl

pub read-rests : (l : Library) (t k : ℕ) → IsResting l → IsResting (step (Reads t k) l)
read-rests l t k x = rests-same l (step (Reads t k) l) (read-same l t k) x

pub close_channel-same : (l : Library) (t k : ℕ) → LooksSame l (step (ClosesChannel t k) l)
unfolding step
close_channel-same l t k =
    let c = client_of l t in
    let b = c.is_welcomed && is_open_at c.channels.objects k in
    call-same l t (after_close k)
    (either (λ z. bare z ≡ bare c) b (with_channels (closed_at k c.channels) c) c (λ _. refl) (λ _. refl))
    (either (λ (z : ClientState). z.arrived ≡ c.arrived) b (with_channels (closed_at k c.channels) c) c (λ _. refl) (λ _. refl))

pub close_channel-rests : (l : Library) (t k : ℕ) → IsResting l → IsResting (step (ClosesChannel t k) l)
close_channel-rests l t k x = rests-same l (step (ClosesChannel t k) l) (close_channel-same l t k) x

-- A tab that was taken over is no longer spoken of.
pub take_over-same : (l : Library) (t : ℕ) → LooksSame l (step (TakesOver t) l)
unfolding step
take_over-same l t =
    if-same l (record l { taken = taken_over t l.taken }) (lives l t)
    (record {
      hub = refl;
      running = λ u r. let h = and_parts (lives l u) _ r in and_from (lives l u) _ h.0 (not_from_false _ (honest-before t u l.taken (not-true _ h.1)));
      views = λ u r. refl;
    })

pub take_over-rests : (l : Library) (t : ℕ) → IsResting l → IsResting (step (TakesOver t) l)
take_over-rests l t x = rests-same l (step (TakesOver t) l) (take_over-same l t) x

-- A step of one client

-- The line of one tab is replaced, and what is said of the tab holds of the new line.
pub record HoldsOf (h : HubState) (t : ℕ) (y : Line) : Type 0 where
  pub fresh : Fresh (view_with h y t) (limit_in h.supervised.kernel.generation h.supervised.broker)
  pub serves : (b : BrokerState) → h.supervised.broker ≡ Some b → Serves (view_with h y t) t b

pub line-rests : (l : Library) (t : ℕ) (y : Line) → (runs l t ≡ true → HoldsOf l.hub t y) → IsResting l → IsResting (with_line t y l)
line-rests l t y new x = record {
  fresh = λ u r. (each u r).fresh;
  keeping = λ b up. x.keeping b up;
  serving = λ b u up r. (each u r).serves b up;
}
  where
    each : (u : ℕ) → runs l u ≡ true → HoldsOf l.hub u (if u == t then y else l.lines u)
    each u r = either (HoldsOf l.hub u) (u == t) y (l.lines u)
        (λ v. let s = eqb-true u t v in subst (λ z. runs l z ≡ true → HoldsOf l.hub z y) (sym s) new r)
        (λ _. record { fresh = x.fresh u r; serves = λ b up. x.serving b u up r })

-- The client handles a repeated hello of the broker that is up.
pub again-rests : (l : Library) (t : ℕ) (b : BrokerState) (fs : List Frame) → l.hub.supervised.broker ≡ Some b → (client_of l t).arrived ≡ hello b.generation ∷ fs
    → (client_of l t).is_welcomed ≡ true → (client_of l t).locks.entered ≡ b.generation → 0 < b.generation
    → IsResting l → IsResting (step (ClientAdvances t) l)
unfolding step
again-rests l t b fs up a y e pos x =
    let c = client_of l t in
    let d = after_frame (hello b.generation) (record c { arrived = fs }) in
    let n = record c { arrived = fs; unsent = c.unsent ++ unsent.Resend ∷ [] } in
    let same : client_advanced c ≡ n =
    ap (λ zs. after_first zs c) a ∙ (ap (λ z. cond z d (after_welcome None (record c { arrived = fs }))) y
    ∙ ap (λ z. cond z n (after_delivery (hello b.generation) (record c { arrived = fs }))) (eq-eqb b.generation c.locks.entered (sym e))) in
    let m = with_line t (record (l.lines t) { client = client_advanced c }) l in
    let down : (view l t).down ≡ hello b.generation ∷ (fs ++ (l.lines t).down ++ outputs_to t l.hub.outputs) = ap (λ zs. zs ++ (l.lines t).down ++ outputs_to t l.hub.outputs) a in
    let rest : IsResting m = subst (λ z. IsResting (with_line t (record (l.lines t) { client = z }) l)) (sym same)
    (line-rests l t (record (l.lines t) { client = n })
    (λ r. record {
      fresh = let f = x.fresh t r in record {
        welcome = λ w. apart y w;
        past = λ f' g i. f.past f' g (subst (In f') (sym down) (Behind i));
        entered = f.entered;
      };
      serves = λ b' up'. subst (Serves (view_with l.hub (record (l.lines t) { client = n }) t) t) (same-broker b b' (sym up ∙ up'))
          (again-serves (view l t) t b (fs ++ (l.lines t).down ++ outputs_to t l.hub.outputs) down y e pos (x.serving b t up r));
    }) x) in
    either IsResting (runs l t) m l (λ _. rest) (λ _. x)
  where
    same-broker : (b c : BrokerState) → Some b ≡ Some c → b ≡ c
    same-broker b c e = cc

-- A frame is forged by a tab that is not spoken of.
pub forge-rests : (l : Library) (t : ℕ) (f : Frame) → IsResting l → IsResting (step (Forges t f) l)
unfolding step
forge-rests l t f x =
    let y = record (l.lines t) { up = (l.lines t).up ++ f ∷ [] } in
    either IsResting (is_taken l t && lives l t) (with_line t y l) l
    (λ v. line-rests l t y (λ r. apart (and_parts (is_taken l t) (lives l t) v).0 (not-true _ (and_parts (lives l t) (not (is_taken l t)) r).1)) x)
    (λ _. x)
