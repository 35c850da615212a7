-- Messages that a tab sends on an arrival: its report if it has entered a generation, else nothing.
use Rattle.std.proofs.Common.{◌≡◌, ℕ, List, [], Bool, true, false, Option, refl, sym, ap, ◌∙◌}
use Rattle.wl_draft.specs.Tables.{Table, find, put}
use Rattle.wl_draft.proofs.TableLemmas.{find-put_same}
use Rattle.wl_grammar.specs.declared.frame.Frame.{Frame}
use Rattle.wl_broadcast.specs.Channels.{ChannelState}
use Rattle.wl_agent.specs.declared.delivered.Delivered.{Delivered}
use Rattle.wl_agent.specs.declared.delivered.Delivered.TheVariants as d
use Rattle.wl_agent.specs.Tab.{TabState}
use Rattle.wl_agent.specs.Delivery.{delivery}
use Rattle.wl_grammar.specs.declared.frame.Heard.{Heard}
use Rattle.wl_world_messages.specs.declared.effect.Effect.{Effect}
use Rattle.wl_world_messages.specs.declared.message.Message.{Message}
use Rattle.wl_world_messages.specs.declared.message.Message.TheVariants.{Across}
use Rattle.wl_world_messages.specs.Messages.{is_sent}
use Rattle.wl_tab.specs.Tabs.{tab_in, told}
use Rattle.wl_tab.specs.Arrivals.{told_said, arrival}
use Rattle.wl_supervised_broker.specs.SupervisedStates.{SupervisedState}
use Rattle.wl_world_model.specs.World.{WorldState, StepResult, lives, acts, becomes, takes_frame, arrives, if_allowed}
use Rattle.wl_world_model.specs.Sends.{report_if_entered}
use Rattle.wl_world.specs.Components.{world_of, report_if_said}

said-reported : (f : Frame) (a b : TabState) (o : Delivered) (w : WorldState) (t : ℕ) → report_if_said w.kernel t (told b) (told_said f a b o) ≡ report_if_entered w.kernel t b o
unfolding told
said-reported f a b (d.Entered r) w t = refl
said-reported f a b (d.Granted k) w t = refl
said-reported f a b (d.Waiting k) w t = refl
said-reported f a b (d.Null k) w t = refl
said-reported f a b (d.Lost k) w t = refl
said-reported f a b (d.Taken k) w t = refl
said-reported f a b (d.Part k) w t = refl
said-reported f a b (d.Whole k) w t = refl
said-reported f a b (d.Dropped u) w t = refl

pub hears-sends : (ts : Table TabState) (cs : Table ChannelState) (s : SupervisedState) (bag : List Message) (corrupt : List ℕ) (w : WorldState) → world_of ts cs s bag corrupt ≡ w → (t : ℕ) (f g : Frame) (us : Table TabState) (x : Effect) → lives w t ≡ true → g ≡ f → us ≡ put t (told (delivery g (tab_in t (find ts t))).0) ts → x ≡ arrival g (tab_in t (find ts t)) → report_if_said s.kernel t (tab_in t (find us t)) x ≡ (if_allowed (lives w t) w (takes_frame w t f)).sends
unfolding acts arrival
hears-sends ts cs s bag corrupt w v t f g us x live same e said =
    let a = tab_in t (find ts t) in
    let b = delivery g a in
    ap (λ (z : Table TabState). report_if_said s.kernel t (tab_in t (find z t)) x) e
    ∙ ap (λ (o : Option TabState). report_if_said s.kernel t (tab_in t o) x) (find-put_same t (told b.0) ts)
    ∙ ap (λ (y : Effect). report_if_said s.kernel t (told b.0) y) said
    ∙ said-reported g a b.0 b.1 (world_of ts cs s bag corrupt) t
    ∙ ap (λ (h : Frame). (takes_frame (world_of ts cs s bag corrupt) t h).sends) same
    ∙ ap (λ (z : WorldState). (takes_frame z t f).sends) v
    ∙ ap (λ (l : Bool). (if_allowed l w (takes_frame w t f)).sends) (sym live)

allowed-silent : (b : Bool) (w : WorldState) (d : StepResult) → d.sends ≡ [] → (if_allowed b w d).sends ≡ []
allowed-silent true w d e = e
allowed-silent false w d e = refl

pub across-silent : (w : WorldState) (m : Message) (t : ℕ) (x : Heard) → m ≡ Across t x → (if_allowed (is_sent m w.bag) w (arrives w m)).sends ≡ []
unfolding becomes
across-silent w m t x e =
    ap (λ (n : Message). (if_allowed (is_sent n w.bag) w (arrives w n)).sends) e
    ∙ allowed-silent (is_sent (Across t x) w.bag) w _ (allowed-silent (lives w t) w _ refl)
