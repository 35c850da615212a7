-- Proof that a partition's part of a world depends on the partition's own events alone, for one event and for whole lists.
use Rattle.std.proofs.Common.{◌≡◌, ℕ, Bool, true, false, List, [], ◌∷◌, filter, Option, Some, None, refl, sym, ap, ◌∙◌, subst}
use Rattle.wl_origin.specs.Order.{Pair}
use Rattle.wl_broker.specs.Broker.{BrokerState}
use Rattle.wl_kernel.specs.Kernel.{is_of}
use Rattle.wl_kernel.specs.Routes.{frame_of}
use Rattle.wl_world_messages.specs.declared.message.Message.{Message}
use Rattle.wl_world_messages.specs.declared.message.Message.TheVariants.{Up, Down, Across}
use Rattle.wl_world_messages.specs.Messages.{is_sent}
use Rattle.wl_draft.proofs.Membership.{In-nil, by_test}
use Rattle.wl_world_messages.proofs.Same.{is_sent-In}
use Rattle.wl_world_model.specs.declared.event.Event.{Event}
use Rattle.wl_world_model.specs.declared.event.Event.TheVariants as event
use Rattle.wl_world_model.specs.World.{WorldState, empty_world, StepResult, if_allowed, arrives, step_result, after_event, run}
use Rattle.wl_world_model.specs.Apart.{is_in, mail, tab_at, up_for, world_for, part, IsAlone, stops_now, starts_now, is_own_open, when, kept, followed_by, projected, happens_if, DroppedLeavesAlone, KeptDoesAlike, RunsApartForAll}
use Rattle.wl_world_model.proofs.exclusion.ActsWithinAGeneration.{after}
use Rattle.wl_world_model.proofs.apart.Cuts.{filter-twice}
use Rattle.wl_world_model.proofs.apart.CutMail.{mail-is_sent}
use Rattle.wl_world_model.proofs.apart.CutKernel.{in-part}
use Rattle.wl_world_model.proofs.apart.ToldApart.{opened, Posted, Orderly, TabAct, does, does-Orderly, own-does, out-does}
use Rattle.wl_world_model.proofs.apart.ActsBySight.{asking, asks-does, querying, queries-does, aborting, aborts-does, releasing, releases-does, resending, resends-does, hearing, hears-does, opening, opens_channel-does, posting, posts-does, reading, reads-does, closing, closes-does, taking_in, takes_in-does, forging, forges-does}
use Rattle.wl_world_model.proofs.apart.CutEvents.{allowed-Orderly, allowed-own, allowed-out, up-Orderly, own-up, out-up, tells-Orderly, own-tells, out-tells, greets-Orderly, own-greets, out-greets, corrupts-Orderly, own-corrupts, out-corrupts, stops-Orderly, own-stops, out-stops, starts-Orderly, own-starts, out-starts}
use Rattle.wl_world_model.proofs.apart.CutOpening.{kills-Orderly, own-kills, out-kills, opens-Orderly, own-opens, out-opens}

-- One event

-- The world after an event keeps the invariant, and its part is that after the projected event.
record Law (p : Pair) (w : WorldState) (kept : Option Event) (next : WorldState) : Type 0 where
  orderly : Orderly p next
  apart : part p next ≡ happens_if kept (part p w)

-- An event that the projection keeps if a test holds.
decided : (p : Pair) (w : WorldState) (b : Bool) (e : Event) (z : WorldState) → Orderly p z
    → (b ≡ true → part p z ≡ after_event (part p w) e) → (b ≡ false → part p z ≡ part p w) → Law p w (when b e) z
decided p w b e z h y n = record { orderly = h; apart = by_test (λ c. part p z ≡ happens_if (when c e) (part p w)) b y n }

-- An act of a tab.
acted : (p : Pair) (w : WorldState) (t : ℕ) (d : TabAct t) (F : WorldState → StepResult) → ((v : WorldState) → F v ≡ does t d v) → Orderly p w
    → Orderly p (after w (F w)) × (is_in p w.kernel t ≡ true → part p (after w (F w)) ≡ after (part p w) (F (part p w))) × (is_in p w.kernel t ≡ false → part p (after w (F w)) ≡ part p w)
acted p w t d F s h = (
  subst (λ z. Orderly p (after w z)) (sym (s w)) (does-Orderly p w t h d),
  (λ e. ap (λ z. part p (after w z)) (s w) ∙ own-does p w t h d e ∙ ap (after (part p w)) (sym (s (part p w)))),
  (λ e. ap (λ z. part p (after w z)) (s w) ∙ out-does p w t h d e),
)

came : (p : Pair) (w : WorldState) (m : Message) → Posted (opened w.kernel) (is_in p w.kernel) m → Orderly p w
    → Orderly p (after w (arrives w m)) × (is_in p w.kernel (tab_at m) ≡ true → part p (after w (arrives w m)) ≡ after (part p w) (arrives (part p w) m))
    × (is_in p w.kernel (tab_at m) ≡ false → part p (after w (arrives w m)) ≡ part p w)
came p w (Up x) i h = (up-Orderly p w x w.broker i h.broker h, (λ e. own-up p w x w.broker e i h.broker), (λ e. out-up p w x w.broker refl e i h.broker))
came p w (Down v x) i h = acted p w x.tab (hearing x.tab (frame_of x.inner)) (λ w. arrives w (Down v x)) (λ w. hears-does w x.tab (frame_of x.inner)) h
came p w (Across t x) i h = acted p w t (taking_in t x) (λ w. arrives w (Across t x)) (λ w. takes_in-does w t x) h

delivered : (p : Pair) (w : WorldState) (m : Message) → Orderly p w → Law p w (kept p w (event.Deliver m)) (after_event w (event.Deliver m))
unfolding after_event step_result
delivered p w m h =
    let f = is_in p w.kernel in
    let F : StepResult = if_allowed (is_sent m w.bag) w (arrives w m) in
    let posted = λ (s : is_sent m w.bag ≡ true). h.bag m (is_sent-In m w.bag s) in
    decided p w (f (tab_at m)) (event.Deliver m) (after w F)
    (allowed-Orderly p w (is_sent m w.bag) (arrives w m) h (λ s. (came p w m (posted s) h).0))
    (λ y. allowed-own p w (is_sent m (mail f w.bag)) (is_sent m w.bag) (arrives (part p w) m) (arrives w m) (mail-is_sent f m w.bag y) (λ s. (came p w m (posted s) h).1 y))
    (λ n. allowed-out p w (is_sent m w.bag) (arrives w m) (λ s. (came p w m (posted s) h).2 n))

tab_event : (p : Pair) (w : WorldState) (t : ℕ) (e : Event) (d : TabAct t) → ((v : WorldState) → step_result v e ≡ does t d v) → Orderly p w → Law p w (when (is_in p w.kernel t) e) (after_event w e)
unfolding after_event
tab_event p w t e d s h =
    let a = acted p w t d (λ v. step_result v e) s h in
    decided p w (is_in p w.kernel t) e (after_event w e) a.0 a.1 a.2

law : (p : Pair) (w : WorldState) (e : Event) → Orderly p w → Law p w (kept p w e) (after_event w e)
unfolding after_event step_result
law p w (event.Open t q) h = decided p w (is_own_open p w t q) (event.Open t q) _ (opens-Orderly p false w t q h) (λ y. own-opens p false w t q y h) (λ n. out-opens p false w t q n h)
law p w (event.OpenTwo t q) h = decided p w (is_own_open p w t q) (event.OpenTwo t q) _ (opens-Orderly p true w t q h) (λ y. own-opens p true w t q y h) (λ n. out-opens p true w t q n h)
law p w (event.Ask t mode name) h = tab_event p w t (event.Ask t mode name) (asking t mode false name) (λ v. asks-does v t mode false name) h
law p w (event.Probe t mode name) h = tab_event p w t (event.Probe t mode name) (asking t mode true name) (λ v. asks-does v t mode true name) h
law p w (event.Query t) h = tab_event p w t (event.Query t) (querying t) (λ v. queries-does v t) h
law p w (event.Abort t k) h = tab_event p w t (event.Abort t k) (aborting t k) (λ v. aborts-does v t k) h
law p w (event.Release t k) h = tab_event p w t (event.Release t k) (releasing t k) (λ v. releases-does v t k) h
law p w (event.Resend t) h = tab_event p w t (event.Resend t) (resending t) (λ v. resends-does v t) h
law p w (event.Channel t name) h = tab_event p w t (event.Channel t name) (opening t name) (λ v. opens_channel-does v t name) h
law p w (event.Post t k bytes) h = tab_event p w t (event.Post t k bytes) (posting t k bytes) (λ v. posts-does v t k bytes) h
law p w (event.Read t k) h = tab_event p w t (event.Read t k) (reading t k) (λ v. reads-does v t k) h
law p w (event.Close t k) h = tab_event p w t (event.Close t k) (closing t k) (λ v. closes-does v t k) h
law p w (event.Deliver m) h = delivered p w m h
law p w (event.Kill t) h = decided p w (is_in p w.kernel t) (event.Kill t) _ (kills-Orderly p w t h) (λ y. own-kills p w t y) (λ n. out-kills p w t n h)
law p w (event.Tell t) h =
    decided p w (is_in p w.kernel t) (event.Tell t) _ (tells-Orderly p w t w.broker h.broker h) (λ y. own-tells p w t w.broker y h.broker) (λ n. out-tells p w t w.broker refl n h.broker)
law p w event.Stop h =
    decided p w (stops_now w w.broker) event.Stop _ (stops-Orderly p w w.broker h) (λ y. own-stops p w w.broker) (λ n. ap (part p) (out-stops w w.broker n))
law p w (event.Start ts) h =
    record {
      orderly = starts-Orderly p w ts w.broker h;
      apart = by_test (λ b. part p (after_event w (event.Start ts)) ≡ happens_if (when b (event.Start (filter (is_in p w.kernel) ts))) (part p w)) (starts_now w ts w.broker)
          (λ y. own-starts p w ts w.broker y h) (λ n. ap (part p) (out-starts w ts w.broker n));
    }
law p w (event.Hello t) h =
    decided p w (is_in p w.kernel t) (event.Hello t) _ (greets-Orderly p w t w.broker h) (λ y. own-greets p w t w.broker y) (λ n. out-greets p w t w.broker n)
law p w (event.Corrupt t) h =
    decided p w (is_in p w.kernel t) (event.Corrupt t) _ (corrupts-Orderly p w t h) (λ y. own-corrupts p w t y) (λ n. out-corrupts p w t n)
law p w (event.Forge t x) h = tab_event p w t (event.Forge t x) (forging t x) (λ v. forges-does v t x) h

-- Whole lists

empty-Orderly : (p : Pair) → Orderly p empty_world
empty-Orderly p = record {
  kernel = tt;
  tabs = λ x i. absurd (In-nil i);
  tabs_rise = tt;
  channels = λ x i. absurd (In-nil i);
  channels_rise = tt;
  corrupt = λ u i. absurd (In-nil i);
  broker = tt;
  bag = λ m i. absurd (In-nil i);
}

run-Orderly : (p : Pair) (es : List Event) (w : WorldState) → Orderly p w → Orderly p (run es w)
run-Orderly p [] w h = h
run-Orderly p (e ∷ es) w h = run-Orderly p es (after_event w e) (law p w e h).orderly

run-followed : (k : Option Event) (es : List Event) (v : WorldState) → run (followed_by k es) v ≡ run es (happens_if k v)
run-followed None es v = refl
run-followed (Some e) es v = refl

run-part : (p : Pair) (es : List Event) (w : WorldState) → Orderly p w → part p (run es w) ≡ run (projected p w es) (part p w)
run-part p [] w h = refl
run-part p (e ∷ es) w h =
    run-part p es (after_event w e) (law p w e h).orderly
    ∙ ap (run (projected p (after_event w e) es)) (law p w e h).apart
    ∙ sym (run-followed (kept p w e) (projected p (after_event w e) es) (part p w))

-- The part of a part

up-twice : (f : ℕ → Bool) (v : Option BrokerState) → up_for f (up_for f v) ≡ up_for f v
up-twice f None = refl
up-twice f (Some b) = λ i. Some (record {
  generation = b.generation;
  listed = filter-twice (λ x. f x.0) b.listed i;
  seats = filter-twice (λ x. f x.0) b.seats i;
  managers = filter-twice (λ x. f x.0) b.managers i;
  partial = filter-twice (λ x. f x.0) b.partial i;
})

part-twice : (p : Pair) (w : WorldState) → Orderly p w → part p (part p w) ≡ part p w
part-twice p w h =
    let f = is_in p w.kernel in
    ap (λ g. world_for g p (part p w)) (λ i t. in-part p w.kernel t h.kernel i)
    ∙ (λ i. record {
      tabs = filter-twice (λ x. f x.0) w.tabs i;
      channels = filter-twice (λ x. f x.0) w.channels i;
      kernel = record w.kernel { opened = filter-twice (is_of p) w.kernel.opened i };
      broker = up-twice f w.broker i;
      bag = filter-twice (λ m. f (tab_at m)) w.bag i;
      corrupt = filter-twice f w.corrupt i;
    })

-- The clauses of the law

pub reached : (p : Pair) (events : List Event) → Orderly p (run events empty_world)
reached p events = run-Orderly p events empty_world (empty-Orderly p)

pub dropped-leaves_alone : DroppedLeavesAlone
dropped-leaves_alone p events e n =
    let w = run events empty_world in
    (law p w e (reached p events)).apart ∙ ap (λ k. happens_if k (part p w)) n

pub kept-does_alike : KeptDoesAlike
kept-does_alike p events e d v k alone agrees =
    let w = run events empty_world in
    let l = law p w e (reached p events) in
    let s : part p (after_event w e) ≡ after_event v d = l.apart ∙ ap (λ k. happens_if k (part p w)) k ∙ ap (λ z. after_event z d) (sym agrees ∙ alone) in
    let twice = part-twice p (after_event w e) l.orderly in
    (subst (IsAlone p) s twice, ap (part p) (sym s) ∙ twice)

pub runs-apart : RunsApartForAll
runs-apart events p = run-part p events empty_world (empty-Orderly p)
