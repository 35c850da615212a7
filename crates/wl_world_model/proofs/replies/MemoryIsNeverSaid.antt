-- No reply gives out of memory as its reason.
use Rattle.std.proofs.Common.{◌≡◌, ℕ, List, [], ◌∷◌, Bool, false, cond, length, Option, Some, None, refl}
use Rattle.std.specs.Prelude.{option_map, ◌+◌, ◌==◌, ◌&&◌, ◌||◌, not, nat_lt, nat_le}
use Rattle.wl_draft.specs.Locks.{live}
use Rattle.wl_draft.specs.Tables.{has_row}
use Rattle.wl_agent.specs.Tokens.{is_pending, is_holding}
use Rattle.wl_world_messages.specs.Messages.{is_sent}
use Rattle.wl_limits.specs.declared.texts.TheConstants.{DATA_LIMIT, NAME_LIMIT}
use Rattle.wl_origin.specs.Order.{Pair}
use Rattle.wl_draft.proofs.Membership.{either}
use Rattle.wl_grammar.specs.declared.frame.Operation.{Operation}
use Rattle.wl_grammar.specs.declared.frame.Operation.TheVariants.{Request, Release, Abort, Query}
use Rattle.wl_grammar.specs.declared.frame.Outcome.{Outcome}
use Rattle.wl_grammar.specs.declared.frame.Outcome.TheVariants as outcome
use Rattle.wl_grammar.specs.declared.frame.Answer.{Answer}
use Rattle.wl_grammar.specs.declared.frame.Snapshot.{Snapshot as Part}
use Rattle.wl_grammar.specs.declared.frame.Frame.{Frame}
use Rattle.wl_grammar.specs.declared.frame.Frame.TheVariants as frame
use Rattle.wl_grammar.specs.declared.frame.Addressed.{Addressed}
use Rattle.wl_grammar.specs.declared.frame.Stamped.{Stamped}
use Rattle.wl_grammar.specs.declared.frame.Upward.{Upward}
use Rattle.wl_grammar.specs.declared.frame.Upward.TheVariants as up
use Rattle.wl_broker_reports.specs.ReportParts.{Told, at_once, in_part, has_held, all_below, fits, has_part, is_whole, with_told}
use Rattle.wl_grammar.specs.Generation.{generation_of}
use Rattle.wl_broker.specs.Broker.{BrokerState, Does, join, join_if, take_report_part, perform, take_command, take_inner, taking, seat_of, is_joined, is_dead, is_misplaced, is_listed, listed_at, partial_of, is_active, next_of, is_lock, limit_of, manager_of}
use Rattle.wl_broadcast.specs.declared.letter.Letter.{Letter}
use Rattle.wl_broadcast.specs.declared.fault.ChannelFault.{ChannelFault}
use Rattle.wl_broadcast.specs.Channels.{ChannelState, open_refusal as channel_refusal, is_old, is_own as is_own_channel, first_of, inbox_at, post_limit, channel_limit, open_count}
use Rattle.wl_agent.specs.declared.fault.AgentFault.{AgentFault}
use Rattle.wl_agent.specs.declared.drop_reason.DropReason.{DropReason}
use Rattle.wl_agent.specs.declared.delivered.Delivered.{Delivered}
use Rattle.wl_agent.specs.declared.status.Status.{Status}
use Rattle.wl_agent.specs.declared.status.Status.TheVariants.{Asked, Held, Querying}
use Rattle.wl_agent.specs.SnapshotParts.{PartsState, with_part, is_whole as all_came, fits as fits_in}
use Rattle.wl_agent.specs.Tab.{TabState, status_of, live_refusal, ask_refusal, operation_of, is_supported, live_limit, live_numbers, has_numbers, is_issued, is_query, is_asked}
use Rattle.wl_agent.specs.Delivery.{result_of_asked_lock_answer, result_of_lock_answer, result_of_end_answer, result_of_asked_query_answer, result_of_query_answer, result_of_answer, told_by_answer, parts_refusal, asking_refusal, part_refusal, parts_of, told_unless, told_by_come, told_by_part, of_other, delivery, has_entered, noted, after_answer, after_part}
use Rattle.wl_kernel.specs.declared.fault.OpenFault.{OpenFault}
use Rattle.wl_kernel.specs.declared.fault.StartFault.{StartFault}
use Rattle.wl_kernel.specs.Kernel.{KernelState, open_refusal, absence, start_refusal, is_opened, living_tabs, living_of, living_limit, partition_limit, list_limit, rises, stranger, missing, may_stop}
use Rattle.wl_kernel.specs.Routes.{frame_of}
use Rattle.wl_world_messages.specs.declared.effect.Effect.{Effect}
use Rattle.wl_world_messages.specs.declared.effect.Effect.TheVariants as said
use Rattle.wl_world_messages.specs.declared.effect.Refusal.TheVariants as refusal
use Rattle.wl_world_messages.specs.Refused.{refused_or}
use Rattle.wl_world_messages.specs.declared.message.Message.{Message}
use Rattle.wl_world_messages.specs.declared.message.Message.TheVariants.{Up, Down, Across}
use Rattle.wl_tab.specs.Arrivals.{told_said, arrival}
use Rattle.wl_supervised_broker.specs.Supervising.{up_or, stop_effect, start_effect, taken_said, taking_said, message_effect}
use Rattle.wl_world_model.specs.declared.event.Event.{Event}
use Rattle.wl_world_model.specs.declared.event.Event.TheVariants as event
use Rattle.wl_world_model.specs.World.{WorldState, tab_of, channels_of, lives, is_corrupt}
use Rattle.wl_world_model.specs.Sends.{forgery, resent}
use Rattle.wl_world_model.specs.Replies.{issued_next, some_resent, read_letter, some_forged, delivering, said_of, reply_of}
use Rattle.wl_world_model.specs.Refusals.{says_memory, MemoryIsNeverSaid}
use Rattle.wl_limits.specs.declared.tabs.TheConstants.{LAST_NUMBER}

-- The reply `of x` does not say out of memory.
record Never {X : Type 0} (of : X → Effect) (x : X) : Type 0 where
  is : says_memory (of x) ≡ false

abbrev itself : Effect → Effect
itself s = s

now : {X : Type 0} {of : X → Effect} {x : X} → says_memory (of x) ≡ false → Never of x
now e = record { is = e }

-- A choice between two such replies is such a reply.
by_test : {X : Type 0} (of : X → Effect) (b : Bool) {x y : X} → Never of x → Never of y → Never of (cond b x y)
by_test of b {x} {y} hx hy = either (Never of) b x y (λ _. hx) (λ _. hy)

one_of : (b : Bool) {s u : Effect} → Never itself s → Never itself u → Never itself (cond b s u)
one_of b hs hu = by_test itself b hs hu

-- Refusals

abbrev or_open : Effect → Option OpenFault → Effect
or_open s o = refused_or (option_map refusal.Open o) s

opening-never : (t : ℕ) (p : Pair) (k : KernelState) (s : Effect) → Never itself s → Never (or_open s) (open_refusal t p k)
opening-never t p k s h =
    by_test (or_open s) (t == 0 || is_opened k t) (now refl)
    (by_test (or_open s) (nat_le living_limit (length (living_tabs k))) (now refl)
    (by_test (or_open s) (nat_le partition_limit (length (living_of k p))) (now refl) (now h.is)))

abbrev or_start : Effect → Option StartFault → Effect
or_start s o = refused_or (option_map refusal.Start o) s

absence-never : (a m : Option ℕ) (s : Effect) → Never itself s → Never (or_start s) (absence a m)
absence-never (Some t) m s h = now refl
absence-never None (Some t) s h = now refl
absence-never None None s h = now h.is

starting-never : (k : KernelState) (ts : List ℕ) (b : Option BrokerState) → Never itself (start_effect k ts b)
starting-never k ts (Some b) = now refl
starting-never k ts None =
    let s = said.Started k.generation in
    let all : Never (or_start s) (start_refusal ts k) = by_test (or_start s) (nat_lt list_limit (length ts)) (now refl) (by_test (or_start s) (rises ts) (absence-never (stranger k ts) (missing k ts) s (now refl)) (now refl)) in
    now all.is

abbrev or_ask : Effect → Option AgentFault → Effect
or_ask s o = refused_or (option_map refusal.Ask o) s

live-never : (a : TabState) (n : ℕ) (s : Effect) → Never itself s → Never (or_ask s) (live_refusal a n)
live-never a n s h = by_test (or_ask s) (nat_le (live_limit a.in_parts) (live_numbers a)) (now refl) (by_test (or_ask s) (has_numbers a n) (now h.is) (now refl))

ask-never : (a : TabState) (name : List ℕ) (s : Effect) → Never itself s → Never (or_ask s) (ask_refusal a name)
ask-never a name s h = by_test (or_ask s) (not (is_supported name)) (now refl) (by_test (or_ask s) (nat_lt NAME_LIMIT (length name)) (now refl) (live-never a 2 s h))

abbrev or_channel : Effect → Option ChannelFault → Effect
or_channel s o = refused_or (option_map refusal.Channel o) s

channel-never : (name : List ℕ) (c : ChannelState) (s : Effect) → Never itself s → Never (or_channel s) (channel_refusal name c)
channel-never name c s h = by_test (or_channel s) (nat_lt NAME_LIMIT (length name)) (now refl) (by_test (or_channel s) (nat_le channel_limit (open_count c)) (now refl) (now h.is))

up-never : (b : Option BrokerState) (s : Effect) → Never itself s → Never itself (up_or b s)
up-never None s h = now refl
up-never (Some b) s h = h

stopping-never : (k : KernelState) (b : Option BrokerState) → Never itself (stop_effect k b)
stopping-never k None = now refl
stopping-never k (Some b) = one_of (may_stop k) (now refl) (now refl)

resent-never : (ms : List Message) → Never itself (some_resent ms)
resent-never [] = now refl
resent-never (m ∷ ms) = now refl

forged-never : (ms : List Message) → Never itself (some_forged ms)
forged-never [] = now refl
forged-never (m ∷ ms) = now refl

read-never : (l : Option Letter) → Never itself (read_letter l)
read-never None = now refl
read-never (Some l) = now refl

-- Messages and deaths at the broker

taken-never : (b : BrokerState) (t : ℕ) (u : Upward) → Never itself (taken_said b t u)
taken-never b t (up.Command c) = now refl
taken-never b t (up.Report r) = now refl
taken-never b t (up.ReportPart r) = one_of (is_joined (seat_of b t)) (now refl) (now refl)

does-never : (s : Stamped) (b : BrokerState) (outs : List Addressed) → Never (taking_said s) (Does b outs)
does-never s b outs = now (taken-never b s.tab s.inner).is

told-never : (s : Stamped) (b : BrokerState) (t p : ℕ) (x : Told) → Never (taking_said s) (take_report_part b t p x)
unfolding take_report_part join_if join
told-never s b t p x =
    let of = taking_said s in
    by_test of (is_joined (seat_of b t)) (now refl)
    (by_test of (not (is_listed (listed_at t b.listed)) && has_held x.entries) (now refl)
    (by_test of (not (all_below x.base x.entries && fits x (partial_of b t))) (now refl)
    (by_test of (has_part x (partial_of b t)) (now refl)
    (by_test of (is_whole (with_told p x (partial_of b t))) (does-never s _ _) (does-never s _ _)))))

command-never : (s : Stamped) (b : BrokerState) (t p n : ℕ) (o : Operation) → Never (taking_said s) (take_command b t p n o)
unfolding take_command perform
command-never s b t p n o =
    let of = taking_said s in
    by_test of (not (is_joined (seat_of b t))) (now refl)
    (by_test of (not (is_active b p)) (now refl)
    (by_test of (nat_lt (next_of b t) n || n == LAST_NUMBER) (now refl)
    (by_test of (nat_lt n (next_of b t)) (does-never s _ _)
    (by_test of (is_lock o && nat_le (limit_of b t) (live (manager_of b p) t)) (now refl) (does-never s _ _)))))

inner-never : (s : Stamped) (b : BrokerState) (t p : ℕ) (u : Upward) → Never (taking_said s) (take_inner b t p u)
inner-never s b t p (up.Command c) = command-never s b t p c.number c.operation
inner-never s b t p (up.Report r) = told-never s b t p (at_once r)
inner-never s b t p (up.ReportPart r) = told-never s b t p (in_part r)

taking-never : (s : Stamped) (b : BrokerState) → Never (taking_said s) (taking b s)
unfolding taking
taking-never s b =
    let of = taking_said s in
    by_test of (nat_lt (generation_of s.inner) b.generation) (now refl)
    (by_test of (nat_lt b.generation (generation_of s.inner)) (now refl)
    (by_test of (is_dead (seat_of b s.tab)) (now refl)
    (by_test of (is_misplaced b s.tab s.partition) (now refl) (inner-never s b s.tab s.partition s.inner))))

brought-never : (s : Stamped) (b : Option BrokerState) → Never itself (message_effect s b)
brought-never s None = now refl
brought-never s (Some b) = now (taking-never s b).is

-- Arrivals at a tab

module _ (f : Frame) (a b : TabState) where
  other-never : (g : ℕ) → Never (told_said f a b) (of_other g a)
  other-never g = by_test (told_said f a b) (nat_lt g a.entered) (now refl) (now refl)

  asked-never : (k : ℕ) (i : Bool) (o : Outcome) → Never (told_said f a b) (result_of_asked_lock_answer k i o)
  asked-never k i outcome.Granted = now refl
  asked-never k i outcome.Waiting = by_test (told_said f a b) i (now refl) (now refl)
  asked-never k i outcome.Gone = by_test (told_said f a b) i (now refl) (now refl)
  asked-never k i outcome.Taken = now refl

  lock-never : (k : ℕ) (i : Bool) (s : Option Status) (o : Outcome) → Never (told_said f a b) (result_of_lock_answer k i s o)
  lock-never k i (Some Asked) o = asked-never k i o
  lock-never k i (Some Held) o = now refl
  lock-never k i s o = now refl

  end-never : (k : ℕ) (o : Outcome) → Never (told_said f a b) (result_of_end_answer k o)
  end-never k outcome.Taken = now refl
  end-never k o = now refl

  gone-never : (k : ℕ) (o : Outcome) → Never (told_said f a b) (result_of_asked_query_answer k o)
  gone-never k outcome.Gone = now refl
  gone-never k o = now refl

  query-never : (k : ℕ) (s : Option Status) (o : Outcome) → Never (told_said f a b) (result_of_query_answer k s o)
  query-never k (Some (Querying parts)) o = gone-never k o
  query-never k s o = now refl

  answered-never : (k : ℕ) (c : Operation) (s : Option Status) (o : Outcome) → Never (told_said f a b) (result_of_answer k c s o)
  answered-never k (Request mode i name) s o = lock-never k i s o
  answered-never k (Release n) s o = end-never k o
  answered-never k (Abort n) s o = end-never k o
  answered-never k Query s o = query-never k s o

  answer-never : (x : Answer) (c : TabState) → Never (told_said f a b) (told_by_answer x c)
  answer-never x c = by_test (told_said f a b) (is_issued c x.number) (answered-never x.number (operation_of c x.number) (status_of c x.number) x.outcome) (now refl)

  come-never : (x : Part) (parts : PartsState) → Never (told_said f a b) (told_by_come x parts)
  come-never x parts = by_test (told_said f a b) (all_came (with_part x parts)) (now refl) (now refl)

  abbrev said_unless : Delivered → Option DropReason → Effect
  said_unless d u = told_said f a b (told_unless u d)

  parts-never : (x : Part) (parts : PartsState) (d : Delivered) → Never (told_said f a b) d → Never (said_unless d) (parts_refusal x parts)
  parts-never x parts d h = by_test (said_unless d) (fits_in x parts) (now h.is) (by_test (said_unless d) (has_row parts.came x.part) (now refl) (now refl))

  asking-never : (x : Part) (s : Option Status) (d : Delivered) → Never (told_said f a b) d → Never (said_unless d) (asking_refusal x s)
  asking-never x (Some (Querying parts)) d h = parts-never x parts d h
  asking-never x s d h = now refl

  part_refusal-never : (x : Part) (c : TabState) (d : Delivered) → Never (told_said f a b) d → Never (said_unless d) (part_refusal x c)
  part_refusal-never x c d h = by_test (said_unless d) (is_issued c x.number && is_query (operation_of c x.number)) (asking-never x (status_of c x.number) d h) (now refl)

  part-never : (x : Part) (c : TabState) → Never (told_said f a b) (told_by_part x c)
  part-never x c = let parts = parts_of (status_of c x.number) in now (part_refusal-never x c (told_by_come x parts) (come-never x parts)).is

-- The reply to a frame, from the tab's new state and the delivery result.
abbrev arrived : Frame → TabState → TabState × Delivered → Effect
arrived f a d = told_said f a d.0 d.1

delivery-never : (f : Frame) (a : TabState) → Never (arrived f a) (delivery f a)
unfolding delivery
delivery-never (frame.Hello x) a = by_test (arrived (frame.Hello x) a) (nat_lt a.entered x.generation) (now refl) (now refl)
delivery-never (frame.Answer x) a = by_test (arrived (frame.Answer x) a) (has_entered x.generation a) (now (answer-never (frame.Answer x) a (noted x.upto (after_answer (told_by_answer x a) a)) x a).is) (now (other-never (frame.Answer x) a a x.generation).is)
delivery-never (frame.Snapshot x) a = by_test (arrived (frame.Snapshot x) a) (has_entered x.generation a) (now (part-never (frame.Snapshot x) a (noted (x.number + 1) (after_part x a)) x a).is) (now (other-never (frame.Snapshot x) a a x.generation).is)
delivery-never f a = now refl

arrival-never : (f : Frame) (a : TabState) → Never itself (arrival f a)
unfolding arrival
arrival-never f a = now (delivery-never f a).is

-- Events

delivering-never : (w : WorldState) (m : Message) → Never itself (delivering w m)
delivering-never w (Up s) = brought-never s w.broker
delivering-never w (Down v x) = one_of (lives w x.tab) (arrival-never (frame_of x.inner) (tab_of w x.tab)) (now refl)
delivering-never w (Across t x) = one_of (lives w t) (one_of (is_old (channels_of w t) x.source x.number) (now refl) (now refl)) (now refl)

said-never : (w : WorldState) (e : Event) → Never itself (said_of w e)
unfolding said_of
said-never w (event.Open t p) = now (opening-never t p w.kernel (said.Opened t p) (now refl)).is
said-never w (event.OpenTwo t p) = now (opening-never t p w.kernel (said.OpenedTwo t p) (now refl)).is
said-never w (event.Ask t mode name) = one_of (lives w t) (now (ask-never (tab_of w t) name (issued_next w t) (now refl)).is) (now refl)
said-never w (event.Probe t mode name) = one_of (lives w t) (now (ask-never (tab_of w t) name (issued_next w t) (now refl)).is) (now refl)
said-never w (event.Query t) = one_of (lives w t) (now (live-never (tab_of w t) 1 (issued_next w t) (now refl)).is) (now refl)
said-never w (event.Abort t k) = one_of (lives w t) (one_of (is_pending (tab_of w t) k) (one_of (is_asked (status_of (tab_of w t) k)) (now refl) (now refl)) (now refl)) (now refl)
said-never w (event.Release t k) = one_of (lives w t) (one_of (is_holding (tab_of w t) k) (now refl) (now refl)) (now refl)
said-never w (event.Resend t) = one_of (lives w t) (resent-never (resent w.kernel t (tab_of w t))) (now refl)
said-never w (event.Channel t name) = one_of (lives w t) (now (channel-never name (channels_of w t) (said.ChannelOpened (length (channels_of w t).objects)) (now refl)).is) (now refl)
said-never w (event.Post t k bytes) = one_of (lives w t) (one_of (nat_lt k (length (channels_of w t).objects)) (one_of (is_own_channel (channels_of w t) t k) (one_of (nat_lt DATA_LIMIT (length bytes)) (now refl) (one_of (nat_le post_limit (channels_of w t).posts) (now refl) (now refl))) (now refl)) (now refl)) (now refl)
said-never w (event.Read t k) = one_of (lives w t) (one_of (nat_lt k (length (channels_of w t).objects)) (one_of (is_own_channel (channels_of w t) t k) (read-never (first_of (inbox_at (channels_of w t).objects k))) (now refl)) (now refl)) (now refl)
said-never w (event.Close t k) = one_of (lives w t) (one_of (nat_lt k (length (channels_of w t).objects)) (now refl) (now refl)) (now refl)
said-never w (event.Deliver m) = one_of (is_sent m w.bag) (delivering-never w m) (now refl)
said-never w (event.Kill t) = one_of (lives w t) (now refl) (now refl)
said-never w (event.Tell t) = one_of (not (is_opened w.kernel t)) (now refl) (one_of (lives w t) (now refl) (up-never w.broker (said.Told t) (now refl)))
said-never w event.Stop = stopping-never w.kernel w.broker
said-never w (event.Start ts) = starting-never w.kernel ts w.broker
said-never w (event.Hello t) = one_of (lives w t) (up-never w.broker said.Greeted (now refl)) (now refl)
said-never w (event.Corrupt t) = one_of (lives w t) (now refl) (now refl)
said-never w (event.Forge t x) = one_of (lives w t) (one_of (is_corrupt w t) (forged-never (forgery w.kernel t x)) (now refl)) (now refl)

pub memory-is_never_said : MemoryIsNeverSaid
unfolding reply_of
memory-is_never_said w e = (said-never w e).is
