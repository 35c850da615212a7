-- Invariant that separates one partition's tabs from the others, and the acts of a tab that keep it.
use Rattle.std.proofs.Common.{◌≡◌, ⊎_elim, ℕ, Bool, true, false, List, map, Option, Some, None, is_some, refl, sym, ap, ap₂, ◌∙◌, subst, arith}
use Rattle.std.specs.Prelude.{◌==◌}
use Rattle.std.proofs.lemmas.Bool.{eqb-true}
use Rattle.wl_draft.specs.Tables.{Rises}
use Rattle.wl_draft.proofs.RisingTables.{Rises-put, put-cases}
use Rattle.wl_origin.specs.Order.{Pair, pair_eq}
use Rattle.wl_origin.proofs.OrderLemmas.{pair_eq-decides}
use Rattle.wl_broker.specs.Broker.{BrokerState, Taking, Drops, Does}
use Rattle.wl_broadcast.specs.Channels.{ChannelState}
use Rattle.wl_agent.specs.Tab.{TabState}
use Rattle.wl_kernel.specs.Kernel.{KernelState, OpenedTab, tab_of as opened_tab, is_living, is_of, number_beside, partition_number}
use Rattle.wl_kernel.specs.TableIndexes.{AreTabs}
use Rattle.wl_kernel.specs.Routes.{hearers}
use Rattle.wl_world_messages.specs.declared.message.Message.{Message}
use Rattle.wl_world_messages.specs.declared.message.Message.TheVariants.{Up, Down, Across}
use Rattle.wl_world_messages.specs.Messages.{sent_all}
use Rattle.wl_draft.specs.Membership.{In}
use Rattle.wl_draft.proofs.Membership.{apart, either, In-map_cases, by_test}
use Rattle.wl_world_messages.proofs.Same.{sent_all-cases}
use Rattle.wl_tab.specs.Tabs.{tab_in, channels_in}
use Rattle.wl_world_model.specs.World.{WorldState, tab_of, channels_of, lives, is_corrupt, partition_of, StepResult, unchanged, if_allowed, acts, becomes, from_broker}
use Rattle.wl_world_model.proofs.AtBroker.{follows}
use Rattle.wl_world_model.specs.Apart.{was_opened_in, is_in, mail, tab_at, broker_for, up_for, part}
use Rattle.wl_world_model.proofs.exclusion.CoverExcludes.{living_opened}
use Rattle.wl_world_model.proofs.exclusion.ActsWithinAGeneration.{after}
use Rattle.wl_world_model.proofs.apart.Cuts.{any-filter, find-only, only-insert_sorted, only-put_out}
use Rattle.wl_world_model.proofs.apart.CutMail.{mail-sent_all, sends-in, sends-out, mail-outs}
use Rattle.wl_world_model.proofs.apart.CutKernel.{found, finds, side, own-number, own-living, own-hearers, hearers-side, hearers-opened, first-of}
use Rattle.wl_world_model.proofs.apart.OnePartition.{Mates, Fits, FitsTaking}
use Rattle.wl_world_model.proofs.apart.CutBroker.{taking_for, UnseenFrom}

-- The invariant

unfoldable pub opened : KernelState → ℕ → Bool
opened k t = is_some (opened_tab k t)

-- The tab of a message was opened. Its stamp names its partition, and the source of a post is in the
-- partition of its recipient.
abbrev pub Posted : (g f : ℕ → Bool) → Message → Type 0
Posted g f (Up s) = Mates g f s.tab s.partition
Posted g f (Down v x) = g x.tab ≡ true
Posted g f (Across t x) = Mates g f t x.source

abbrev pub FitsUp : (g f : ℕ → Bool) → Option BrokerState → Type 0
FitsUp g f None = Unit {0}
FitsUp g f (Some b) = Fits g f b

pub record OrderlyFor (g f : ℕ → Bool) (w : WorldState) : Type 0 where
  pub kernel : AreTabs w.kernel.opened
  pub tabs : (x : ℕ × TabState) → In x w.tabs → g x.0 ≡ true
  pub tabs_rise : Rises 0 w.tabs
  pub channels : (x : ℕ × ChannelState) → In x w.channels → g x.0 ≡ true
  pub channels_rise : Rises 0 w.channels
  pub corrupt : (u : ℕ) → In u w.corrupt → g u ≡ true
  pub broker : FitsUp g f w.broker
  pub bag : (m : Message) → In m w.bag → Posted g f m

-- The world keeps the invariant for this partition.
abbrev pub Orderly : Pair → WorldState → Type 0
Orderly p w = OrderlyFor (opened w.kernel) (is_in p w.kernel) w

-- Opened tabs

pub opened-tab : (k : KernelState) (t : ℕ) → opened k t ≡ true → (o : OpenedTab) × (opened_tab k t ≡ Some o)
unfolding opened
opened-tab k t = go (opened_tab k t) refl
  where
    go : (x : Option OpenedTab) → opened_tab k t ≡ x → is_some x ≡ true → (o : OpenedTab) × (opened_tab k t ≡ Some o)
    go None s e = apart e refl
    go (Some o) s e = (o, s)

pub listed-opened : (k : KernelState) (o : OpenedTab) → AreTabs k.opened → In o k.opened → opened k o.tab ≡ true
unfolding opened
listed-opened k o a i = ap is_some (finds k.opened o a i)

pub in-opened : (p : Pair) (k : KernelState) (t : ℕ) → is_in p k t ≡ true → opened k t ≡ true
unfolding opened is_in
in-opened p k t = go (opened_tab k t)
  where
    go : (x : Option OpenedTab) → was_opened_in p x ≡ true → is_some x ≡ true
    go None e = apart e refl
    go (Some o) e = refl

pub living-opened : (k : KernelState) (t : ℕ) → is_living k t ≡ true → opened k t ≡ true
unfolding opened
living-opened k t e = living_opened (opened_tab k t) e

-- A tab and the first tab of its partition belong together.
pub number-Mates : (p : Pair) (k : KernelState) (t : ℕ) → AreTabs k.opened → opened k t ≡ true → Mates (opened k) (is_in p k) t (partition_number k t)
unfolding is_in
number-Mates p k t a e =
    let o = opened-tab k t e in
    let f = found k.opened t o.0 o.1 in
    let own : is_of o.0.partition o.0 ≡ true = (pair_eq-decides o.0.partition o.0.partition).1 refl in
    let x = first-of 0 o.0.partition k.opened o.0 f.0 own in
    let n : partition_number k t ≡ x.0.tab = ap (number_beside k.opened) o.1 ∙ x.3 in
    let q : x.0.partition ≡ o.0.partition = (pair_eq-decides x.0.partition o.0.partition).0 x.2 in
    record {
      left = e;
      right = ap (opened k) n ∙ listed-opened k x.0 a x.1;
      alike = ap (was_opened_in p) o.1 ∙ ap (λ z. pair_eq z p) (sym q) ∙ sym (side p k x.0 a x.1) ∙ sym (ap (is_in p k) n);
    }

-- Acts of a tab

-- The facts on which a tab's acts depend.
pub record Seen : Type 0 where
  pub living : Bool
  pub corrupt : Bool
  pub number : ℕ
  pub tab : TabState
  pub channels : ChannelState
  pub hearers : List ℕ

abbrev pub seen : WorldState → ℕ → Seen
seen w t = record { living = lives w t; corrupt = is_corrupt w t; number = partition_of w t; tab = tab_of w t; channels = channels_of w t; hearers = hearers t w.kernel }

pub data Change : Type 0 where
  OfLocks : (tab : TabState) → Change
  OfChannels : (channels : ChannelState) → Change
  OfNothing : Change

abbrev pub changes : WorldState → ℕ → Change → List Message → StepResult
changes w t (OfLocks a) ms = acts w t a ms
changes w t (OfChannels c) ms = becomes w t c ms
changes w t OfNothing ms = record { world = w; sends = ms }

-- The message carries the tab's own stamp, or goes to one of its hearers.
abbrev pub IsFrom : ℕ → Seen → Message → Type 0
IsFrom t s (Up x) = (x.tab ≡ t) × (x.partition ≡ s.number)
IsFrom t s (Down v x) = ⊥
IsFrom t s (Across u x) = In u s.hearers × (x.source ≡ t)

-- An act of a tab: whether it may act, its change, and the messages that it sends.
pub record TabAct (t : ℕ) : Type 0 where
  pub may : Seen → Bool
  pub change : Seen → Change
  pub sends : Seen → List Message
  pub living : (s : Seen) → may s ≡ true → s.living ≡ true
  pub from : (s : Seen) (m : Message) → In m (sends s) → IsFrom t s m

abbrev pub does_at : (t : ℕ) → TabAct t → Seen → WorldState → StepResult
does_at t d s w = if_allowed (d.may s) w (changes w t (d.change s) (d.sends s))

abbrev pub does : (t : ℕ) → TabAct t → WorldState → StepResult
does t d w = does_at t d (seen w t) w

from-side : (p : Pair) (w : WorldState) (t : ℕ) (m : Message) → AreTabs w.kernel.opened → IsFrom t (seen w t) m → is_in p w.kernel (tab_at m) ≡ is_in p w.kernel t
from-side p w t (Up x) a i = ap (is_in p w.kernel) i.0
from-side p w t (Down v x) a i = absurd i
from-side p w t (Across u x) a i = hearers-side p w.kernel t u a i.0

from-Posted : (p : Pair) (w : WorldState) (t : ℕ) (m : Message) → AreTabs w.kernel.opened → opened w.kernel t ≡ true → IsFrom t (seen w t) m → Posted (opened w.kernel) (is_in p w.kernel) m
from-Posted p w t (Up x) a e i =
    subst (λ z. Mates (opened w.kernel) (is_in p w.kernel) z x.partition) (sym i.0)
    (subst (λ z. Mates (opened w.kernel) (is_in p w.kernel) t z) (sym i.1) (number-Mates p w.kernel t a e))
from-Posted p w t (Down v x) a e i = absurd i
from-Posted p w t (Across u x) a e i =
    let o = hearers-opened w.kernel t u i.0 in
    record {
      left = ap (opened w.kernel) (sym o.2) ∙ listed-opened w.kernel o.0 a o.1;
      right = ap (opened w.kernel) i.1 ∙ e;
      alike = hearers-side p w.kernel t u a i.0 ∙ ap (is_in p w.kernel) (sym i.1);
    }

module _ (p : Pair) (w : WorldState) (t : ℕ) (h : Orderly p w) where
  changes-Orderly : (c : Change) (ms : List Message) → opened w.kernel t ≡ true → ((m : Message) → In m ms → IsFrom t (seen w t) m) → Orderly p (after w (changes w t c ms))
  unfolding acts becomes
  changes-Orderly (OfLocks a) ms e i = record {
    kernel = h.kernel;
    tabs = λ x j. ⊎_elim (λ s. ap (λ z. opened w.kernel z.0) s ∙ e) (λ l. h.tabs x l) (put-cases t a w.tabs j);
    tabs_rise = Rises-put 0 t a w.tabs (omega arith) h.tabs_rise;
    channels = h.channels;
    channels_rise = h.channels_rise;
    corrupt = h.corrupt;
    broker = h.broker;
    bag = λ m j. ⊎_elim (λ l. h.bag m l) (λ l. from-Posted p w t m h.kernel e (i m l)) (sent_all-cases ms w.bag j);
  }
  changes-Orderly (OfChannels c) ms e i = record {
    kernel = h.kernel;
    tabs = h.tabs;
    tabs_rise = h.tabs_rise;
    channels = λ x j. ⊎_elim (λ s. ap (λ z. opened w.kernel z.0) s ∙ e) (λ l. h.channels x l) (put-cases t c w.channels j);
    channels_rise = Rises-put 0 t c w.channels (omega arith) h.channels_rise;
    corrupt = h.corrupt;
    broker = h.broker;
    bag = λ m j. ⊎_elim (λ l. h.bag m l) (λ l. from-Posted p w t m h.kernel e (i m l)) (sent_all-cases ms w.bag j);
  }
  changes-Orderly OfNothing ms e i = record {
    kernel = h.kernel;
    tabs = h.tabs;
    tabs_rise = h.tabs_rise;
    channels = h.channels;
    channels_rise = h.channels_rise;
    corrupt = h.corrupt;
    broker = h.broker;
    bag = λ m j. ⊎_elim (λ l. h.bag m l) (λ l. from-Posted p w t m h.kernel e (i m l)) (sent_all-cases ms w.bag j);
  }

  pub does-Orderly : (d : TabAct t) → Orderly p (after w (does t d w))
  does-Orderly d =
      let s = seen w t in
      either (λ x. Orderly p (after w x)) (d.may s) (changes w t (d.change s) (d.sends s)) (unchanged w)
      (λ e. changes-Orderly (d.change s) (d.sends s) (living-opened w.kernel t (d.living s e)) (d.from s))
      (λ _. h)

  own-changes : (c : Change) (ms : List Message) → is_in p w.kernel t ≡ true → ((m : Message) → In m ms → IsFrom t (seen w t) m)
      → part p (after w (changes w t c ms)) ≡ after (part p w) (changes (part p w) t c ms)
  unfolding acts becomes
  own-changes (OfLocks a) ms e i =
      let f = is_in p w.kernel in
      ap₂ (λ z y. record (part p w) { tabs = z; bag = y }) (only-insert_sorted f t a 0 w.tabs e h.tabs_rise) (sends-in f ms w.bag (λ m j. from-side p w t m h.kernel (i m j) ∙ e))
  own-changes (OfChannels c) ms e i =
      let f = is_in p w.kernel in
      ap₂ (λ z y. record (part p w) { channels = z; bag = y }) (only-insert_sorted f t c 0 w.channels e h.channels_rise) (sends-in f ms w.bag (λ m j. from-side p w t m h.kernel (i m j) ∙ e))
  own-changes OfNothing ms e i =
      let f = is_in p w.kernel in
      ap (λ y. record (part p w) { bag = y }) (sends-in f ms w.bag (λ m j. from-side p w t m h.kernel (i m j) ∙ e))

  out-changes : (c : Change) (ms : List Message) → is_in p w.kernel t ≡ false → ((m : Message) → In m ms → IsFrom t (seen w t) m)
      → part p (after w (changes w t c ms)) ≡ part p w
  unfolding acts becomes
  out-changes (OfLocks a) ms e i =
      let f = is_in p w.kernel in
      ap₂ (λ z y. record (part p w) { tabs = z; bag = y }) (only-put_out f t a w.tabs e) (sends-out f ms w.bag (λ m j. from-side p w t m h.kernel (i m j) ∙ e))
  out-changes (OfChannels c) ms e i =
      let f = is_in p w.kernel in
      ap₂ (λ z y. record (part p w) { channels = z; bag = y }) (only-put_out f t c w.channels e) (sends-out f ms w.bag (λ m j. from-side p w t m h.kernel (i m j) ∙ e))
  out-changes OfNothing ms e i =
      let f = is_in p w.kernel in
      ap (λ y. record (part p w) { bag = y }) (sends-out f ms w.bag (λ m j. from-side p w t m h.kernel (i m j) ∙ e))

  own-seen : is_in p w.kernel t ≡ true → seen (part p w) t ≡ seen w t
  own-seen e = λ i. record {
    living = own-living p w.kernel t e i;
    corrupt = any-filter (λ u. u == t) (is_in p w.kernel) (λ u s. ap (is_in p w.kernel) (eqb-true u t s) ∙ e) w.corrupt i;
    number = own-number p w.kernel t e i;
    tab = tab_in t (find-only (is_in p w.kernel) t w.tabs e i);
    channels = channels_in t (find-only (is_in p w.kernel) t w.channels e i);
    hearers = own-hearers p w.kernel t e i;
  }

  pub own-does : (d : TabAct t) → is_in p w.kernel t ≡ true → part p (after w (does t d w)) ≡ after (part p w) (does t d (part p w))
  own-does d e =
      let s = seen w t in
      by_test (λ v. part p (after w (if_allowed v w (changes w t (d.change s) (d.sends s)))) ≡ after (part p w) (if_allowed v (part p w) (changes (part p w) t (d.change s) (d.sends s))))
      (d.may s) (λ _. own-changes (d.change s) (d.sends s) e (d.from s)) (λ _. refl)
      ∙ ap (λ z. after (part p w) (does_at t d z (part p w))) (sym (own-seen e))

  pub out-does : (d : TabAct t) → is_in p w.kernel t ≡ false → part p (after w (does t d w)) ≡ part p w
  out-does d e =
      let s = seen w t in
      either (λ x. part p (after w x) ≡ part p w) (d.may s) (changes w t (d.change s) (d.sends s)) (unchanged w)
      (λ _. out-changes (d.change s) (d.sends s) e (d.from s)) (λ _. refl)

-- Acts of the broker

pub follows-Orderly : (p : Pair) (w : WorldState) (x : Taking) → FitsTaking (opened w.kernel) (is_in p w.kernel) x → Orderly p w → Orderly p (after w (follows w x))
follows-Orderly p w (Drops r) i h = h
follows-Orderly p w (Does b outs) i h = record {
  kernel = h.kernel;
  tabs = h.tabs;
  tabs_rise = h.tabs_rise;
  channels = h.channels;
  channels_rise = h.channels_rise;
  corrupt = h.corrupt;
  broker = i.0;
  bag = λ m j. ⊎_elim
      (λ l. h.bag m l)
      (λ l. let o = In-map_cases from_broker outs l in subst (Posted (opened w.kernel) (is_in p w.kernel)) (sym o.2) (i.1 o.0 o.1))
      (sent_all-cases _ w.bag j);
}

pub own-follows : (p : Pair) (w : WorldState) (x : Taking) → part p (after w (follows w x)) ≡ after (part p w) (follows (part p w) (taking_for (is_in p w.kernel) x))
own-follows p w (Drops r) = refl
own-follows p w (Does b outs) =
    let f = is_in p w.kernel in
    ap (λ z. record (part p w) { broker = Some (broker_for f b); bag = z }) (mail-sent_all f _ w.bag ∙ ap (λ z. sent_all z (mail f w.bag)) (mail-outs f outs))

pub out-follows : (p : Pair) (w : WorldState) (b : BrokerState) (x : Taking) → w.broker ≡ Some b → UnseenFrom (is_in p w.kernel) (broker_for (is_in p w.kernel) b) x → part p (after w (follows w x)) ≡ part p w
out-follows p w b (Drops r) e u = refl
out-follows p w b (Does c outs) e u =
    let f = is_in p w.kernel in
    ap₂ (λ s z. record (part p w) { broker = s; bag = z }) (ap Some u.0 ∙ sym (ap (up_for f) e))
    (mail-sent_all f _ w.bag ∙ ap (λ z. sent_all z (mail f w.bag)) (mail-outs f outs ∙ ap (map from_broker) u.1))
