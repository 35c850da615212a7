-- Acts of a tab at each event, as functions of the facts on which they depend (`Seen`).
use Rattle.std.proofs.Common.{◌≡◌, ⊎_elim, ℕ, Bool, true, cond, not, ◌&&◌, List, [], ◌∷◌, ◌++◌, length, map, is_some, refl, sym, ap, subst}
use Rattle.std.specs.Prelude.{◌==◌}
use Rattle.std.proofs.lemmas.Bool.{and_parts}
use Rattle.wl_draft.specs.declared.mode.Mode.{Mode}
use Rattle.wl_grammar.specs.declared.frame.Frame.{Frame}
use Rattle.wl_grammar.specs.declared.frame.Frame.TheVariants as frame
use Rattle.wl_grammar.specs.declared.frame.Heard.{Heard}
use Rattle.wl_grammar.specs.declared.frame.Upward.{Upward}
use Rattle.wl_grammar.specs.declared.frame.Upward.TheVariants as up
use Rattle.wl_broadcast.specs.Channels.{open_refusal as channel_refusal, opened as channel_opened, post_refusal, posted, is_own as is_own_channel, read_at, closed_at, after_hearing}
use Rattle.wl_agent.specs.declared.delivered.Delivered.{Delivered}
use Rattle.wl_agent.specs.declared.delivered.Delivered.TheVariants.{Entered}
use Rattle.wl_agent.specs.Tab.{TabState, report_bodies, status_of, operation_of, is_asked, ask_refusal, query_refusal, asked, queried, aborted, released, due, is_report_due}
use Rattle.wl_agent.specs.Tokens.{is_pending, is_holding}
use Rattle.wl_agent.specs.Delivery.{delivery}
use Rattle.wl_world_messages.specs.declared.message.Message.{Message}
use Rattle.wl_world_messages.specs.declared.message.Message.TheVariants.{Up}
use Rattle.wl_draft.specs.Membership.{In}
use Rattle.wl_draft.proofs.Membership.{either, In-nil, In-one, In-append_cases, In-map_cases}
use Rattle.wl_tab.specs.Tabs.{told}
use Rattle.wl_world_model.specs.declared.event.Forged.{Forged}
use Rattle.wl_world_model.specs.declared.event.Forged.TheVariants as forged
use Rattle.wl_world_model.specs.World.{WorldState, if_allowed, acts, lives, tab_of, channels_of, partition_of, asks, queries, aborts, releases, resends, opens_channel, posts, reads, closes, becomes, takes_frame, forges, post_of}
use Rattle.wl_world_model.specs.Sends.{across, report_if_entered}
use Rattle.wl_world_model.proofs.apart.ToldApart.{Seen, OfLocks, OfChannels, OfNothing, IsFrom, TabAct, does}

first : (x y : Bool) → (x && y) ≡ true → x ≡ true
first x y e = (and_parts x y e).0

silent : (t : ℕ) (s : Seen) (m : Message) → In m [] → IsFrom t s m
silent t s m i = absurd (In-nil i)

-- Locks

-- The message with the tab's stamp.
abbrev said : ℕ → ℕ → Upward → Message
said t q x = Up (record { tab = t; partition = q; inner = x })

abbrev command_said : ℕ → ℕ → TabState → ℕ → Message
command_said t q a k = said t q (up.Command (record { generation = a.entered; number = k; operation = operation_of a k }))

-- The tab issues its next command.
abbrev issuing : (t : ℕ) (may : Seen → Bool) (next : TabState → TabState) → ((s : Seen) → may s ≡ true → s.living ≡ true) → TabAct t
issuing t may next living = record {
  may = may;
  change = λ s. OfLocks (next s.tab);
  sends = λ s. cond ((next s.tab).entered == 0) [] (command_said t s.number (next s.tab) (length s.tab.issued) ∷ []);
  living = living;
  from = λ s m. either (λ zs. In m zs → IsFrom t s m) ((next s.tab).entered == 0) [] (command_said t s.number (next s.tab) (length s.tab.issued) ∷ [])
      (λ _ i. silent t s m i)
      (λ _ i. subst (IsFrom t s) (sym (In-one i)) (refl, refl));
}

pub asking : (t : ℕ) (mode : Mode) (if_available : Bool) (name : List ℕ) → TabAct t
asking t mode if_available name =
    issuing t (λ s. s.living && not (is_some (ask_refusal s.tab name))) (asked mode if_available name) (λ s e. first s.living (not (is_some (ask_refusal s.tab name))) e)

pub asks-does : (w : WorldState) (t : ℕ) (mode : Mode) (if_available : Bool) (name : List ℕ) → asks w t mode if_available name ≡ does t (asking t mode if_available name) w
unfolding asking
asks-does w t mode if_available name = refl

pub querying : (t : ℕ) → TabAct t
querying t = issuing t (λ s. s.living && not (is_some (query_refusal s.tab))) queried (λ s e. first s.living (not (is_some (query_refusal s.tab))) e)

pub queries-does : (w : WorldState) (t : ℕ) → queries w t ≡ does t (querying t) w
unfolding querying
queries-does w t = refl

pub aborting : (t k : ℕ) → TabAct t
aborting t k =
    issuing t (λ s. s.living && is_pending s.tab k && is_asked (status_of s.tab k)) (aborted k)
    (λ s e. first s.living (is_pending s.tab k) (first (s.living && is_pending s.tab k) (is_asked (status_of s.tab k)) e))

pub aborts-does : (w : WorldState) (t k : ℕ) → aborts w t k ≡ does t (aborting t k) w
unfolding aborting
aborts-does w t k = refl

pub releasing : (t k : ℕ) → TabAct t
releasing t k = issuing t (λ s. s.living && is_holding s.tab k) (released k) (λ s e. first s.living (is_holding s.tab k) e)

pub releases-does : (w : WorldState) (t k : ℕ) → releases w t k ≡ does t (releasing t k) w
unfolding releasing
releases-does w t k = refl

abbrev reports_said : ℕ → ℕ → TabState → List Message
reports_said t q a = map (said t q) (report_bodies a.in_parts a.report)

reports-from : (t : ℕ) (s : Seen) (a : TabState) (m : Message) → In m (reports_said t s.number a) → IsFrom t s m
reports-from t s a m i = subst (IsFrom t s) (sym (In-map_cases (said t s.number) (report_bodies a.in_parts a.report) i).2) (refl, refl)

abbrev all_said : ℕ → Seen → List Message
all_said t s = cond (is_report_due s.tab) (reports_said t s.number s.tab) [] ++ map (command_said t s.number s.tab) (due s.tab)

all-from : (t : ℕ) (s : Seen) (m : Message) → In m (all_said t s) → IsFrom t s m
all-from t s m i = ⊎_elim
    (either (λ zs. In m zs → IsFrom t s m) (is_report_due s.tab) (reports_said t s.number s.tab) []
    (λ _ j. reports-from t s s.tab m j)
    (λ _ j. silent t s m j))
    (λ j. subst (IsFrom t s) (sym (In-map_cases (command_said t s.number s.tab) (due s.tab) j).2) (refl, refl))
    (In-append_cases (cond (is_report_due s.tab) (reports_said t s.number s.tab) []) (map (command_said t s.number s.tab) (due s.tab)) i)

pub resending : (t : ℕ) → TabAct t
resending t = record {
  may = λ s. s.living;
  change = λ s. OfNothing;
  sends = λ s. all_said t s;
  living = λ s e. e;
  from = all-from t;
}

pub resends-does : (w : WorldState) (t : ℕ) → resends w t ≡ does t (resending t) w
unfolding resending
resends-does w t = refl

-- The report that a living tab sends after taking a frame.
abbrev report_told : ℕ → ℕ → TabState → Delivered → List Message
report_told t q a (Entered reports) = reports_said t q a
report_told t q a d = []

told-same : (w : WorldState) (t : ℕ) (a : TabState) (d : Delivered) → report_if_entered w.kernel t a d ≡ report_told t (partition_of w t) a d
told-same w t a (Entered reports) = refl
told-same w t a _ = refl

told-from : (t : ℕ) (s : Seen) (a : TabState) (d : Delivered) (m : Message) → In m (report_told t s.number a d) → IsFrom t s m
told-from t s a (Entered reports) m i = reports-from t s a m i
told-from t s a _ m i = silent t s m i

pub hearing : (t : ℕ) → Frame → TabAct t
hearing t f = record {
  may = λ s. s.living;
  change = λ s. OfLocks (told (delivery f s.tab).0);
  sends = λ s. report_told t s.number (delivery f s.tab).0 (delivery f s.tab).1;
  living = λ s e. e;
  from = λ s. told-from t s (delivery f s.tab).0 (delivery f s.tab).1;
}

pub hears-does : (w : WorldState) (t : ℕ) (f : Frame) → if_allowed (lives w t) w (takes_frame w t f) ≡ does t (hearing t f) w
unfolding hearing
hears-does w t f =
    ap (λ ms. if_allowed (lives w t) w (acts w t (told (delivery f (tab_of w t)).0) ms)) (told-same w t (delivery f (tab_of w t)).0 (delivery f (tab_of w t)).1)

-- Channels

pub opening : (t : ℕ) (name : List ℕ) → TabAct t
opening t name = record {
  may = λ s. s.living && not (is_some (channel_refusal name s.channels));
  change = λ s. OfChannels (channel_opened name s.channels);
  sends = λ s. [];
  living = λ s e. first s.living (not (is_some (channel_refusal name s.channels))) e;
  from = silent t;
}

pub opens_channel-does : (w : WorldState) (t : ℕ) (name : List ℕ) → opens_channel w t name ≡ does t (opening t name) w
unfolding opening
opens_channel-does w t name = refl

pub posting : (t k : ℕ) (bytes : List ℕ) → TabAct t
posting t k bytes = record {
  may = λ s. s.living && not (is_some (post_refusal t k bytes s.channels));
  change = λ s. OfChannels (posted k bytes s.channels);
  sends = λ s. map (across t (post_of k bytes s.channels)) s.hearers;
  living = λ s e. first s.living (not (is_some (post_refusal t k bytes s.channels))) e;
  from = λ s m i. let o = In-map_cases (across t (post_of k bytes s.channels)) s.hearers i in subst (IsFrom t s) (sym o.2) (o.1, refl);
}

pub posts-does : (w : WorldState) (t k : ℕ) (bytes : List ℕ) → posts w t k bytes ≡ does t (posting t k bytes) w
unfolding posting
posts-does w t k bytes = refl

pub reading : (t k : ℕ) → TabAct t
reading t k = record {
  may = λ s. s.living && is_own_channel s.channels t k;
  change = λ s. OfChannels (read_at k s.channels);
  sends = λ s. [];
  living = λ s e. first s.living (is_own_channel s.channels t k) e;
  from = silent t;
}

pub reads-does : (w : WorldState) (t k : ℕ) → reads w t k ≡ does t (reading t k) w
unfolding reading
reads-does w t k = refl

pub closing : (t k : ℕ) → TabAct t
closing t k = record {
  may = λ s. s.living && is_own_channel s.channels t k;
  change = λ s. OfChannels (closed_at k s.channels);
  sends = λ s. [];
  living = λ s e. first s.living (is_own_channel s.channels t k) e;
  from = silent t;
}

pub closes-does : (w : WorldState) (t k : ℕ) → closes w t k ≡ does t (closing t k) w
unfolding closing
closes-does w t k = refl

-- Another tab's post arrives.
pub taking_in : (t : ℕ) → Heard → TabAct t
taking_in t x = record {
  may = λ s. s.living;
  change = λ s. OfChannels (after_hearing (frame.Heard x) s.channels);
  sends = λ s. [];
  living = λ s e. e;
  from = silent t;
}

pub takes_in-does : (w : WorldState) (t : ℕ) (x : Heard) → if_allowed (lives w t) w (becomes w t (after_hearing (frame.Heard x) (channels_of w t)) []) ≡ does t (taking_in t x) w
unfolding taking_in
takes_in-does w t x = refl

-- Forging

abbrev forged_said : ℕ → Seen → Forged → List Message
forged_said t s (forged.Upward u) = said t s.number u ∷ []
forged_said t s (forged.Post p) = map (across t p) s.hearers

forged-from : (t : ℕ) (s : Seen) (x : Forged) (m : Message) → In m (forged_said t s x) → IsFrom t s m
forged-from t s (forged.Upward u) m i = subst (IsFrom t s) (sym (In-one i)) (refl, refl)
forged-from t s (forged.Post p) m i = let o = In-map_cases (across t p) s.hearers i in subst (IsFrom t s) (sym o.2) (o.1, refl)

pub forging : (t : ℕ) → Forged → TabAct t
forging t x = record {
  may = λ s. s.corrupt && s.living;
  change = λ s. OfNothing;
  sends = λ s. forged_said t s x;
  living = λ s e. (and_parts s.corrupt s.living e).1;
  from = λ s. forged-from t s x;
}

pub forges-does : (w : WorldState) (t : ℕ) (x : Forged) → forges w t x ≡ does t (forging t x) w
unfolding forging
forges-does w t (forged.Upward u) = refl
forges-does w t (forged.Post p) = refl
