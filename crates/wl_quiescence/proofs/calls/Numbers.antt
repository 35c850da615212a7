-- What a client has still to send are commands that it issued, so that all that is to come from an honest tab was issued.
use Rattle.std.proofs.Common.{◌≡◌, ◌⊎◌, ⊎_elim, ℕ, zero, suc, ◌+◌, ◌<◌, Bool, true, false, not, ◌&&◌, cond, List, [], ◌∷◌, ◌++◌, length, length-append, map, filter, Option, Some, None, is_some, refl, sym, ap, ◌∙◌, subst, arith}
use Rattle.std.specs.Prelude.{◌==◌, nat_lt, if◌then◌else◌, option_map}
use Rattle.std.specs.List.{list_any, range_with_len}
use Rattle.std.proofs.lemmas.Bool.{cases_Bool, and_parts, eqb-true, not-true}
use Rattle.wl_draft.specs.Membership.{In, Later}
use Rattle.wl_draft.proofs.Membership.{apart, either, In-nil, In-one, In-append_cases, In-map_cases, In-filter_cases, In-cons_cases}
use Rattle.wl_draft.specs.declared.mode.Mode.{Mode}
use Rattle.wl_grammar.specs.declared.frame.Frame.{Frame}
use Rattle.wl_grammar.specs.declared.frame.Frame.TheVariants as frame
use Rattle.wl_grammar.specs.declared.frame.Operation.{Operation}
use Rattle.wl_grammar.specs.declared.frame.Command.{Command}
use Rattle.wl_grammar.specs.declared.frame.Snapshot.{Snapshot as Part}
use Rattle.wl_broker.specs.Broker.{BrokerState}
use Rattle.wl_broker_reports.specs.ReportParts.{at_once, in_part}
use Rattle.wl_agent.specs.declared.delivered.Delivered.{Delivered}
use Rattle.wl_agent.specs.declared.delivered.Delivered.TheVariants as heard
use Rattle.wl_agent.specs.declared.fault.AgentFault.{AgentFault}
use Rattle.wl_agent.specs.Tab.{TabState, is_asked, status_of, ask_refusal, query_refusal, asked, queried, aborted, released, issue, finish, ended, enter, enter_first, enter_later, due, is_due, numbers_of}
use Rattle.wl_agent.specs.Tokens.{is_pending, is_holding}
use Rattle.wl_agent.specs.Delivery.{noted, becomes as becomes_status, after_answer, after_part, told_by_answer, part_refusal, parts_of, with_part_come, has_entered, delivery}
use Rattle.wl_tab.specs.Tabs.{told}
use Rattle.wl_tab.specs.Arrivals.{arrival}
use Rattle.wl_client.specs.declared.client.Unsent.{Unsent}
use Rattle.wl_client.specs.declared.client.Unsent.TheVariants as unsent
use Rattle.wl_client.specs.Client.{ClientState, call_refusal, channel_refusal, after_command, after_post, after_close, with_channels, is_entering, is_hello_of, after_told, after_delivery, after_frame, after_welcome, welcome_of, after_first}
use Rattle.wl_client.specs.Client.{advanced as client_advanced}
use Rattle.wl_client.specs.Sending.{after_item}
use Rattle.wl_broadcast.specs.Channels.{open_refusal, opened, read_at, is_open_at, closed_at}
use Rattle.wl_tab.specs.TabChannels.{number_refusal, posting_refusal}
use Rattle.wl_tab.specs.declared.channels.ChannelRefusal.TheVariants.{Fault}
use Rattle.wl_hub.specs.Hub.{page_refusal, page_opened, hub_closed}
use Rattle.wl_world_model.specs.World.{WorldState, tab_of, taken_over}
use Rattle.wl_world_model.specs.Holdings.{IsHonest as IsHonestIn}
use Rattle.wl_world_model.proofs.exclusion.Invariant.{broker_of, broker_in}
use Rattle.wl_library_model.specs.Library.{Library, Line, Step, Opens, Closes, Restarts, Stops, HubReceives, HubAdvances, HubSends, Asks, Queries, Aborts, Releases, Resends, OpensChannel, Posts, Reads, ClosesChannel, TakesEvent, ClientReceives, ClientAdvances, ClientSends, TakesOver, Forges, new_library, new_line, client_of, lives, is_taken, runs, with_line, with_hub, calls, hub_fed, is_due as is_due_output, hub_sends_from, asks, queries, aborts, releases, resends, opens_channel, posts, reads, takes_event, client_fed, sending, sending_report, sending_due, sending_item, step, run_steps}
use Rattle.wl_library_model.specs.Simulation.{GoesUp, IsOnItsWayUp}
use Rattle.wl_library_model.proofs.Carried.{Sim}
use Rattle.wl_library_model.proofs.Moves.{uncalled}
use Rattle.wl_quiescence.proofs.rest.Invariant.{view, Says, Tells, Again, Nothing, item_of, item_of_unsent, unsent_items, items_of, arrived_of}
use Rattle.wl_quiescence.proofs.calls.Steps.{NumbersBelow}

-- A client's own commands

pub record OwnNumbers (c : ClientState) : Type 0 where
  pub due : (k : ℕ) → In k c.due → k < length c.locks.issued
  pub unsent : (k : ℕ) → In (unsent.Command k) c.unsent → k < length c.locks.issued
  pub newborn : c.is_welcomed ≡ false → c.locks.issued ≡ []

abbrev pub AllOwn : Library → Type 0
AllOwn l = (t : ℕ) → OwnNumbers (client_of l t)

new-own : AllOwn new_library
new-own t = record { due = λ k i. absurd (In-nil i); unsent = λ k i. absurd (In-nil i); newborn = λ _. refl }

-- One line

line-own : (l : Library) (t : ℕ) (y : Line) → OwnNumbers y.client → AllOwn l → AllOwn (with_line t y l)
line-own l t y o a u = either (λ (z : Line). OwnNumbers z.client) (u == t) y (l.lines u) (λ _. o) (λ _. a u)

call-own : (l : Library) (t : ℕ) (f : ClientState → ClientState) → OwnNumbers (f (client_of l t)) → AllOwn l → AllOwn (calls t f l)
call-own l t f o a = either AllOwn (runs l t) (with_line t (record (l.lines t) { client = f (client_of l t) }) l) l (λ _. line-own l t _ o a) (λ _. a)

-- The locks and what is unsent, if the rest is left alone.
abbrev with_unsent : ClientState → List Unsent → ClientState
with_unsent c us = record c { unsent = us }

resend-own : (c : ClientState) → OwnNumbers c → OwnNumbers (with_unsent c (c.unsent ++ unsent.Resend ∷ []))
resend-own c o = record {
  due = o.due;
  unsent = λ k i. ⊎_elim (o.unsent k) (λ j. absurd (other k (In-one j))) (In-append_cases c.unsent (unsent.Resend ∷ []) i);
  newborn = o.newborn;
}
  where
    other : (k : ℕ) → unsent.Command k ≡ unsent.Resend → ⊥
    other k e = cc

command-own : (c : ClientState) (F : TabState → TabState) (p : Operation) → c.is_welcomed ≡ true → (F c.locks).issued ≡ c.locks.issued ++ p ∷ [] → OwnNumbers c → OwnNumbers (after_command F c)
command-own c F p y e o =
    let longer : length (F c.locks).issued ≡ length c.locks.issued + 1 = ap length e ∙ length-append c.locks.issued (p ∷ []) in
    record {
      due = λ k i. let lt = o.due k i in omega (arith, longer, lt);
      unsent = λ k i. ⊎_elim (λ j. let lt = o.unsent k j in omega (arith, longer, lt)) (λ j. let s = same k (length c.locks.issued) (In-one j) in omega (arith, longer, s))
          (In-append_cases c.unsent (unsent.Command (length c.locks.issued) ∷ []) i);
      newborn = λ n. apart y n;
    }
  where
    same : (k j : ℕ) → unsent.Command k ≡ unsent.Command j → k ≡ j
    same k j e = cc

welcomed-if : (r : Option AgentFault) (c : ClientState) → is_some (call_refusal r c) ≡ false → c.is_welcomed ≡ true
welcomed-if r c n = ⊎_elim (λ y. y) (λ y. apart (uncalled r c y) n) (cases_Bool c.is_welcomed)

ask-own : (c : ClientState) (mode : Mode) (b : Bool) (name : List ℕ) → OwnNumbers c → OwnNumbers (asks mode b name c)
unfolding issue
ask-own c mode b name o = either OwnNumbers (is_some (call_refusal (ask_refusal c.locks name) c)) c (after_command (asked mode b name) c) (λ _. o) (λ n. command-own c (asked mode b name) _ (welcomed-if _ c n) refl o)

query-own : (c : ClientState) → OwnNumbers c → OwnNumbers (queries c)
unfolding issue
query-own c o = either OwnNumbers (is_some (call_refusal (query_refusal c.locks) c)) c (after_command queried c) (λ _. o) (λ n. command-own c queried _ (welcomed-if _ c n) refl o)

abort-own : (c : ClientState) (k : ℕ) → OwnNumbers c → OwnNumbers (aborts k c)
unfolding finish
abort-own c k o =
    let d = cond (is_pending c.locks k && is_asked (status_of c.locks k)) (after_command (aborted k) c) c in
    either OwnNumbers (is_some (call_refusal None c)) c d (λ _. o)
    (λ n. either OwnNumbers (is_pending c.locks k && is_asked (status_of c.locks k)) (after_command (aborted k) c) c (λ _. command-own c (aborted k) _ (welcomed-if None c n) refl o) (λ _. o))

release-own : (c : ClientState) (k : ℕ) → OwnNumbers c → OwnNumbers (releases k c)
unfolding finish
release-own c k o =
    let d = cond (is_holding c.locks k) (after_command (released k) c) c in
    either OwnNumbers (is_some (call_refusal None c)) c d (λ _. o)
    (λ n. either OwnNumbers (is_holding c.locks k) (after_command (released k) c) c (λ _. command-own c (released k) _ (welcomed-if None c n) refl o) (λ _. o))

post-own : (c : ClientState) (k : ℕ) (bytes : List ℕ) → OwnNumbers c → OwnNumbers (after_post k bytes c)
post-own c k bytes o = record {
  due = o.due;
  unsent = λ j i. ⊎_elim (o.unsent j) (λ i. absurd (other j _ (In-one i))) (In-append_cases c.unsent (unsent.Post _ ∷ []) i);
  newborn = o.newborn;
}
  where
    other : (k : ℕ) (f : Frame) → unsent.Command k ≡ unsent.Post f → ⊥
    other k f e = cc

same-own : (c d : ClientState) → d.is_welcomed ≡ c.is_welcomed → d.locks ≡ c.locks → d.due ≡ c.due → d.unsent ≡ c.unsent → OwnNumbers c → OwnNumbers d
same-own c d y l e u o = record {
  due = λ k i. subst (λ (z : TabState). k < length z.issued) (sym l) (o.due k (subst (In k) e i));
  unsent = λ k i. subst (λ (z : TabState). k < length z.issued) (sym l) (o.unsent k (subst (In (unsent.Command k)) u i));
  newborn = λ n. ap (λ (z : TabState). z.issued) l ∙ o.newborn (sym y ∙ n);
}

-- Frames of the hub

enter-issued : (g : ℕ) (a : TabState) → (enter g a).issued ≡ a.issued
unfolding enter_first enter_later
enter-issued g a = either (λ z. z.issued ≡ a.issued) (a.entered == 0) (enter_first g a) (enter_later g a) (λ _. refl) (λ _. refl)

answer-issued : (d : Delivered) (a : TabState) → (after_answer d a).issued ≡ a.issued
unfolding becomes_status ended
answer-issued (heard.Granted k) a = refl
answer-issued (heard.Null k) a = refl
answer-issued (heard.Lost k) a = refl
answer-issued d a = refl

part-issued : (x : Part) (a : TabState) → (after_part x a).issued ≡ a.issued
unfolding becomes_status
part-issued x a =
    either (λ z. z.issued ≡ a.issued) (is_some (part_refusal x a)) a (becomes_status x.number (with_part_come x (parts_of (status_of a x.number))) a) (λ _. refl) (λ _. refl)

noted-issued : (upto : ℕ) (a : TabState) → (noted upto a).issued ≡ a.issued
unfolding noted
noted-issued upto a = refl

delivery-issued : (f : Frame) (a : TabState) → (delivery f a).0.issued ≡ a.issued
unfolding delivery
delivery-issued (frame.Hello x) a =
    either {A = TabState × Delivered} (λ o. o.0.issued ≡ a.issued) (nat_lt a.entered x.generation) _ _ (λ _. enter-issued x.generation a) (λ _. refl)
delivery-issued (frame.Answer x) a =
    either {A = TabState × Delivered} (λ o. o.0.issued ≡ a.issued) (has_entered x.generation a) _ _
    (λ _. noted-issued x.upto (after_answer (told_by_answer x a) a) ∙ answer-issued (told_by_answer x a) a) (λ _. refl)
delivery-issued (frame.Snapshot x) a =
    either {A = TabState × Delivered} (λ o. o.0.issued ≡ a.issued) (has_entered x.generation a) _ _
    (λ _. noted-issued (x.number + 1) (after_part x a) ∙ part-issued x a) (λ _. refl)
delivery-issued f a = refl

told-issued : (a : TabState) → (told a).issued ≡ a.issued
unfolding told
told-issued a = refl

pub heard-issued : (f : Frame) (a : TabState) → (told (delivery f a).0).issued ≡ a.issued
heard-issued f a = told-issued (delivery f a).0 ∙ delivery-issued f a

told-own : (f : Frame) (c : ClientState) → c.is_welcomed ≡ true → OwnNumbers c → OwnNumbers (after_told (arrival f c.locks) (told (delivery f c.locks).0) c)
told-own f c y o =
    let same = heard-issued f c.locks in
    record {
      due = λ k i. subst (λ z. k < length z) (sym same) (o.due k i);
      unsent = λ k i. subst (λ z. k < length z) (sym same) (⊎_elim (o.unsent k) (λ j. absurd (none k (is_entering (arrival f c.locks)) j)) (In-append_cases c.unsent (if is_entering (arrival f c.locks) then unsent.Resend ∷ [] else []) i));
      newborn = λ n. apart y n;
    }
  where
    other : (k : ℕ) → unsent.Command k ≡ unsent.Resend → ⊥
    other k e = cc

    none : (k : ℕ) (b : Bool) → In (unsent.Command k) (if b then unsent.Resend ∷ [] else []) → ⊥
    none k true i = other k (In-one i)
    none k false i = In-nil i

delivery-own : (f : Frame) (c : ClientState) → c.is_welcomed ≡ true → OwnNumbers c → OwnNumbers (after_delivery f c)
delivery-own (frame.Heard h) c y o = record { due = o.due; unsent = o.unsent; newborn = o.newborn }
delivery-own (frame.Hello h) c y o = told-own (frame.Hello h) c y o
delivery-own (frame.Answer h) c y o = told-own (frame.Answer h) c y o
delivery-own (frame.Snapshot h) c y o = told-own (frame.Snapshot h) c y o
delivery-own (frame.Command h) c y o = told-own (frame.Command h) c y o
delivery-own (frame.Report h) c y o = told-own (frame.Report h) c y o
delivery-own (frame.ReportPart h) c y o = told-own (frame.ReportPart h) c y o
delivery-own (frame.Post h) c y o = told-own (frame.Post h) c y o
delivery-own (frame.Welcome h) c y o = told-own (frame.Welcome h) c y o
delivery-own (frame.PairWelcome h) c y o = told-own (frame.PairWelcome h) c y o
delivery-own (frame.Stamped h) c y o = told-own (frame.Stamped h) c y o
delivery-own (frame.Start h) c y o = told-own (frame.Start h) c y o
delivery-own (frame.Addressed h) c y o = told-own (frame.Addressed h) c y o
delivery-own (frame.Dead h) c y o = told-own (frame.Dead h) c y o

welcome-own : (x : Option (ℕ × Bool)) (c : ClientState) → c.is_welcomed ≡ false → OwnNumbers c → OwnNumbers (after_welcome x c)
welcome-own None c n o = o
welcome-own (Some w) c n o = record {
  due = λ k i. subst (λ z. k < length z) (o.newborn n) (o.due k i);
  unsent = λ k i. subst (λ z. k < length z) (o.newborn n) (o.unsent k i);
  newborn = λ _. refl;
}

first-own : (fs : List Frame) (c : ClientState) → OwnNumbers c → OwnNumbers (after_first fs c)
first-own [] c o = o
first-own (f ∷ fs) c o =
    let d = record c { arrived = fs } in
    let p : OwnNumbers d = record { due = o.due; unsent = o.unsent; newborn = o.newborn } in
    either OwnNumbers c.is_welcomed (after_frame f d) (after_welcome (welcome_of f) d)
    (λ y. either OwnNumbers (is_hello_of c.locks.entered f) (record d { unsent = d.unsent ++ unsent.Resend ∷ [] }) (after_delivery f d) (λ _. resend-own d p) (λ _. delivery-own f d y p))
    (λ n. welcome-own (welcome_of f) d n p)

-- Frames for the hub

range-below : (j n k : ℕ) → In k (range_with_len j n) → k < j + n
range-below j zero k i = absurd (In-nil i)
range-below j (suc n) k i = ⊎_elim (λ e. omega (arith, e)) (λ h. let lt = range-below (j + 1) n k h in omega (arith, lt)) (In-cons_cases i)

due-below : (a : TabState) (k : ℕ) → In k (due a) → k < length a.issued
unfolding due
due-below a k = either (λ z. In k z → k < length a.issued) (a.entered == 0) [] (filter (is_due a) (numbers_of a)) (λ _ i. absurd (In-nil i))
    (λ _ i. let lt = range-below 0 (length a.issued) k (In-filter_cases (is_due a) (numbers_of a) i).0 in omega (arith, lt))

item-own : (u : Unsent) (us : List Unsent) (c : ClientState) → c.unsent ≡ u ∷ us → OwnNumbers c → OwnNumbers (after_item u us c)
item-own unsent.Resend us c e o = record { due = due-below c.locks; unsent = λ k i. o.unsent k (subst (In (unsent.Command k)) (sym e) (Later i)); newborn = o.newborn }
item-own (unsent.Command j) us c e o = record { due = o.due; unsent = λ k i. o.unsent k (subst (In (unsent.Command k)) (sym e) (Later i)); newborn = o.newborn }
item-own (unsent.Post f) us c e o = record { due = o.due; unsent = λ k i. o.unsent k (subst (In (unsent.Command k)) (sym e) (Later i)); newborn = o.newborn }

unsent-own : (us : List Unsent) (c : ClientState) → c.unsent ≡ us → OwnNumbers c → OwnNumbers (sending_item us c).client
unsent-own [] c e o = o
unsent-own (u ∷ us) c e o = item-own u us c e o

due-own : (ks : List ℕ) (c : ClientState) → c.due ≡ ks → OwnNumbers c → OwnNumbers (sending_due ks c).client
due-own [] c e o = unsent-own c.unsent c refl o
due-own (j ∷ ks) c e o = record { due = λ k i. o.due k (subst (In k) (sym e) (Later i)); unsent = o.unsent; newborn = o.newborn }

report-own : (fs : List Frame) (c : ClientState) → OwnNumbers c → OwnNumbers (sending_report fs c).client
report-own [] c o = due-own c.due c refl o
report-own (f ∷ fs) c o = record { due = o.due; unsent = o.unsent; newborn = o.newborn }

-- The steps

fed-own : (n : ℕ) (fs : List Frame) (x : Line) → OwnNumbers x.client → OwnNumbers (client_fed n fs x).client
fed-own n [] x o = record { due = o.due; unsent = o.unsent; newborn = o.newborn }
fed-own n (f ∷ fs) x o = o

hub_fed-own : (l : Library) (t n : ℕ) (fs : List Frame) → AllOwn l → AllOwn (hub_fed t n fs l)
hub_fed-own l t n [] a = line-own l t _ (a t) a
hub_fed-own l t n (f ∷ fs) a = a

sends-own : (l : Library) (os : List (ℕ × Frame)) → AllOwn l → AllOwn (hub_sends_from os l)
sends-own l [] a = a
sends-own l (o ∷ os) a = either AllOwn (is_due_output l.hub o) _ (with_hub (record l.hub { outputs = os }) l) (λ _. line-own l o.0 _ (a o.0) a) (λ _. a)

pub step-own : (l : Library) (x : Step) → AllOwn l → AllOwn (step x l)
unfolding step
step-own l (Opens t page is_pair) a = either AllOwn (is_some (page_refusal t page l.hub)) l (with_line t new_line (with_hub (page_opened t page is_pair l.hub) l)) (λ _. a)
    (λ _. line-own (with_hub (page_opened t page is_pair l.hub) l) t new_line (new-own t) a)
step-own l (Closes t) a = either AllOwn (lives l t) (with_hub (hub_closed t l.hub) l) l (λ _. a) (λ _. a)
step-own l Restarts a = a
step-own l Stops a = a
step-own l (HubReceives t n) a = either AllOwn (lives l t) (hub_fed t n l.hub.arrived l) l (λ _. hub_fed-own l t n l.hub.arrived a) (λ _. a)
step-own l HubAdvances a = a
step-own l HubSends a = sends-own l l.hub.outputs a
step-own l (Asks t mode b name) a = call-own l t (asks mode b name) (ask-own (client_of l t) mode b name (a t)) a
step-own l (Queries t) a = call-own l t queries (query-own (client_of l t) (a t)) a
step-own l (Aborts t k) a = call-own l t (aborts k) (abort-own (client_of l t) k (a t)) a
step-own l (Releases t k) a = call-own l t (releases k) (release-own (client_of l t) k (a t)) a
step-own l (Resends t) a =
    let c = client_of l t in
    call-own l t resends (either OwnNumbers (is_some (call_refusal None c)) c (record c { unsent = c.unsent ++ unsent.Resend ∷ [] }) (λ _. a t) (λ _. resend-own c (a t))) a
step-own l (OpensChannel t name) a =
    let c = client_of l t in
    call-own l t (opens_channel name) (either OwnNumbers (is_some (channel_refusal (option_map Fault (open_refusal name c.channels)) c)) c (with_channels (opened name c.channels) c) (λ _. a t)
    (λ _. same-own c (with_channels (opened name c.channels) c) refl refl refl refl (a t))) a
step-own l (Posts t k bytes) a =
    let c = client_of l t in
    call-own l t (posts k bytes) (either OwnNumbers (is_some (channel_refusal (posting_refusal k bytes c.channels) c)) c (after_post k bytes c) (λ _. a t) (λ _. post-own c k bytes (a t))) a
step-own l (Reads t k) a =
    let c = client_of l t in
    call-own l t (reads k) (either OwnNumbers (is_some (channel_refusal (number_refusal k c.channels) c)) c (with_channels (read_at k c.channels) c) (λ _. a t)
    (λ _. same-own c (with_channels (read_at k c.channels) c) refl refl refl refl (a t))) a
step-own l (ClosesChannel t k) a =
    let c = client_of l t in
    call-own l t (after_close k) (either OwnNumbers (c.is_welcomed && is_open_at c.channels.objects k) (with_channels (closed_at k c.channels) c) c
    (λ _. same-own c (with_channels (closed_at k c.channels) c) refl refl refl refl (a t)) (λ _. a t)) a
step-own l (TakesEvent t) a = call-own l t takes_event (same-own (client_of l t) (takes_event (client_of l t)) refl refl refl refl (a t)) a
step-own l (ClientReceives t n) a = either AllOwn (runs l t) (with_line t (client_fed n (client_of l t).arrived (l.lines t)) l) l (λ _. line-own l t _ (fed-own n (client_of l t).arrived (l.lines t) (a t)) a) (λ _. a)
step-own l (ClientAdvances t) a = call-own l t client_advanced (first-own (client_of l t).arrived (client_of l t) (a t)) a
step-own l (ClientSends t) a = either AllOwn (runs l t) (with_line t (record (l.lines t) { client = (sending (client_of l t)).client; up = _ }) l) l
    (λ _. line-own l t _ (report-own (client_of l t).report (client_of l t) (a t)) a) (λ _. a)
step-own l (TakesOver t) a = either AllOwn (lives l t) (record l { taken = taken_over t l.taken }) l (λ _. a) (λ _. a)
step-own l (Forges t f) a = either AllOwn (is_taken l t && lives l t) (with_line t (record (l.lines t) { up = (l.lines t).up ++ f ∷ [] }) l) l (λ _. line-own l t _ (a t) a) (λ _. a)

steps-own : (xs : List Step) (l : Library) → AllOwn l → AllOwn (run_steps xs l)
steps-own [] l a = a
steps-own (x ∷ xs) l a = steps-own xs (step x l) (step-own l x a)

-- Of every run.
pub run-own : (steps : List Step) → AllOwn (run_steps steps new_library)
run-own steps = steps-own steps new_library new-own

-- All that is to come

not_nothing : (k : ℕ) → Says k ≡ Nothing → ⊥
not_nothing k e = cc

-- A frame that is an item with a number is a command of the generation.
frame-says : (g k : ℕ) (f : Frame) → Says k ≡ item_of g f → (c : Command) × (f ≡ frame.Command c) × (c.generation ≡ g) × (c.number ≡ k)
frame-says g k (frame.Command c) e = by c (cases_Bool (c.generation == g)) e
  where
    same : (j : ℕ) → Says k ≡ Says j → j ≡ k
    same j e = cc

    none : Says k ≡ Nothing → ⊥
    none e = cc

    by : (c : Command) → ((c.generation == g) ≡ true) ⊎ ((c.generation == g) ≡ false) → Says k ≡ item_of g (frame.Command c) → (d : Command) × (frame.Command c ≡ frame.Command d) × (d.generation ≡ g) × (d.number ≡ k)
    by c o e = ⊎_elim
        (λ y. (c, refl, eqb-true c.generation g y, same c.number (e ∙ ap (λ z. cond z (Says c.number) Nothing) y)))
        (λ n. absurd (none (e ∙ ap (λ z. cond z (Says c.number) Nothing) n))) o
frame-says g k (frame.Report r) e = absurd (tells k (r.generation == g) e)
  where
    tells : (k : ℕ) (b : Bool) → Says k ≡ (if b then Tells (at_once r) else Nothing) → ⊥
    tells k true e = cc
    tells k false e = cc
frame-says g k (frame.ReportPart r) e = absurd (tells k (r.generation == g) e)
  where
    tells : (k : ℕ) (b : Bool) → Says k ≡ (if b then Tells (in_part r) else Nothing) → ⊥
    tells k true e = cc
    tells k false e = cc
frame-says g k (frame.Post h) e = absurd (not_nothing k e)
frame-says g k (frame.Hello h) e = absurd (not_nothing k e)
frame-says g k (frame.Answer h) e = absurd (not_nothing k e)
frame-says g k (frame.Snapshot h) e = absurd (not_nothing k e)
frame-says g k (frame.Heard h) e = absurd (not_nothing k e)
frame-says g k (frame.Welcome h) e = absurd (not_nothing k e)
frame-says g k (frame.PairWelcome h) e = absurd (not_nothing k e)
frame-says g k (frame.Stamped h) e = absurd (not_nothing k e)
frame-says g k (frame.Start h) e = absurd (not_nothing k e)
frame-says g k (frame.Addressed h) e = absurd (not_nothing k e)
frame-says g k (frame.Dead h) e = absurd (not_nothing k e)

unsent-says : (k : ℕ) (u : Unsent) → Says k ≡ item_of_unsent u → u ≡ unsent.Command k
unsent-says k unsent.Resend e = absurd (other k e)
  where
    other : (k : ℕ) → Says k ≡ Again → ⊥
    other k e = cc
unsent-says k (unsent.Command j) e = cc
unsent-says k (unsent.Post f) e = absurd (not_nothing k e)

module _ (l : Library) (w : WorldState) (t : ℕ) (s : Sim l w) (own : OwnNumbers (client_of l t)) (b : BrokerState) (up : l.hub.supervised.broker ≡ Some b) (r : runs l t ≡ true)
    (e : (client_of l t).locks.entered ≡ b.generation) where
  honest : IsHonestIn w t
  honest = subst (λ zs. list_any (λ u. u == t) zs ≡ false) s.taken (not-true _ (and_parts (lives l t) (not (is_taken l t)) r).1)

  positive : 0 < b.generation
  positive =
      let k : (broker_of w).generation ≡ w.kernel.generation = s.good.sound.current in
      let o : (broker_of w).generation ≡ b.generation = ap (λ (z : BrokerState). z.generation) (ap (broker_in w.kernel.generation) (sym s.hub.broker ∙ up)) in
      let pos = s.good.sound.positive in omega (arith, k, o, pos)

  welcomed : (client_of l t).is_welcomed ≡ true
  welcomed = ⊎_elim (λ y. y) (λ n. let z = (s.lines t).client.unentered n in let pos = positive in absurd (omega (arith, z, pos, e))) (cases_Bool (client_of l t).is_welcomed)

  -- A command on its way was issued.
  way-below : (f : Frame) (k : ℕ) → Says k ≡ item_of b.generation f → IsOnItsWayUp w t f → k < length (client_of l t).locks.issued
  way-below f k i o =
      let c = frame-says b.generation k f i in
      let locks = (s.lines t).client.welcomed welcomed in
      let g : GoesUp w t (frame.Command c.0) = subst (GoesUp w t) c.1 o.1 in
      let now : c.0.generation ≡ (tab_of w t).entered = c.2 ∙ (sym e ∙ ap (λ (z : TabState). z.entered) locks) in
      let below : c.0.number < length (tab_of w t).issued = ⊎_elim
      (λ j. (((s.good.sound.messages t).commands _ c.0 j).2 honest).0)
      (λ x. let lt = (x.settled now).reported in let le = s.good.fit.low t in omega (arith, lt, le)) g in
      subst (λ z. z < length (client_of l t).locks.issued) c.3 (subst (λ (z : TabState). c.0.number < length z.issued) (sym locks) below)

  arrived-way : (f : Frame) → In f (arrived_of l.hub t) → IsOnItsWayUp w t f
  arrived-way f = either (λ z. In f z → IsOnItsWayUp w t f) (l.hub.sender == t) l.hub.arrived []
      (λ y i. let same = eqb-true l.hub.sender t y in subst (λ z. IsHonestIn w z → IsOnItsWayUp w z f) same (λ h. s.hub.arrived h f i) honest)
      (λ _ i. absurd (In-nil i))

  frame-way : (f : Frame) → In f ((view l t).up ++ (view l t).client.report) → IsOnItsWayUp w t f
  frame-way f i = ⊎_elim
      (λ j. ⊎_elim (arrived-way f) (λ a. (s.lines t).up honest f a) (In-append_cases (arrived_of l.hub t) (l.lines t).up j))
      (λ j. (s.lines t).report honest f j)
      (In-append_cases ((view l t).up) (view l t).client.report i)

  pub items-below : (k : ℕ) → In (Says k) (items_of b.generation (view l t)) → k < length (client_of l t).locks.issued
  items-below k i = ⊎_elim
      (λ j. let o = In-map_cases (item_of b.generation) ((view l t).up ++ (view l t).client.report) j in way-below o.0 k o.2 (frame-way o.0 o.1))
      (λ j. ⊎_elim
      (λ a. let o = In-map_cases Says (client_of l t).due a in own.due k (subst (λ z. In z (client_of l t).due) (sym (same k o.0 o.2)) o.1))
      (λ a. let o = In-map_cases item_of_unsent (client_of l t).unsent a in own.unsent k (subst (λ z. In z (client_of l t).unsent) (unsent-says k o.0 o.2) o.1))
      (In-append_cases (map Says (client_of l t).due) (map item_of_unsent (client_of l t).unsent) j))
      (In-append_cases (map (item_of b.generation) ((view l t).up ++ (view l t).client.report)) (unsent_items (client_of l t)) i)
    where
      same : (k j : ℕ) → Says k ≡ Says j → k ≡ j
      same k j e = cc

pub numbers-below : (l : Library) (w : WorldState) (t : ℕ) → Sim l w → OwnNumbers (client_of l t) → NumbersBelow l t
numbers-below l w t s own b up r e k i = items-below l w t s own b up r e k i
