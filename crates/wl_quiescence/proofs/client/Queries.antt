-- Only a query is queried, and no part of it comes before its tab has entered a generation.
use Rattle.std.proofs.Common.{◌≡◌, ◌≢◌, ℕ, zero, suc, ◌+◌, ◌<◌, ◌≤◌, le_refl, get_or, filter, arith, Bool, true, false, not, ◌&&◌, List, [], ◌∷◌, ◌++◌, length, Option, Some, None, is_some, refl, sym, ap, ◌∙◌}
use Rattle.std.specs.Prelude.{◌==◌, option_map, take, drop, if◌then◌else◌}
use Rattle.wl_draft.proofs.Membership.{apart, either}
use Rattle.wl_grammar.specs.declared.frame.Frame.{Frame}
use Rattle.wl_grammar.specs.declared.frame.Frame.TheVariants as frame
use Rattle.wl_agent.specs.Tab.{TabState, born, issue, finish, ended, enter, enter_first, enter_later, report_of, carried, unless_asked, is_asked_probe, operation_of, is_querying, asked, queried, aborted, released, ask_refusal, query_refusal, status_of, is_asked}
use Rattle.wl_agent.specs.Tokens.{is_pending, is_holding}
use Rattle.wl_agent.specs.Delivery.{delivery, noted, becomes, after_answer, after_part, told_by_answer, part_refusal, asking_refusal, parts_of, with_part_come, has_entered}
use Rattle.wl_tab.specs.Tabs.{told, is_told}
use Rattle.wl_tab.specs.TabChannels.{number_refusal, posting_refusal}
use Rattle.wl_broadcast.specs.Channels.{open_refusal, opened, read_at, closed_at, is_open_at}
use Rattle.wl_tab.specs.declared.channels.ChannelRefusal.TheVariants.{Fault}
use Rattle.wl_client.specs.declared.client.Unsent.{Unsent}
use Rattle.wl_client.specs.declared.client.Unsent.TheVariants as unsent
use Rattle.wl_client.specs.Client.{ClientState, call_refusal, channel_refusal, with_channels, after_command, after_abort, after_release, after_post, after_close, welcome_of, after_welcome, is_hello_of, after_delivery, after_frame, after_first}
use Rattle.wl_client.specs.Client.{advanced as client_advanced}
use Rattle.wl_hub.specs.Hub.{page_refusal, page_opened, hub_closed}
use Rattle.wl_library_model.specs.Library.{Library, Line, Step, Opens, Closes, Restarts, Stops, HubReceives, HubAdvances, HubSends, Asks, Queries, Aborts, Releases, Resends, OpensChannel, Posts, Reads, ClosesChannel, TakesEvent, ClientReceives, ClientAdvances, ClientSends, TakesOver, Forges, new_library, new_line, client_of, lives, is_taken, runs, with_line, with_hub, hub_fed, is_due, hub_sends_from, calls, unless, asks, queries, aborts, releases, resends, opens_channel, posts, reads, takes_event, client_fed, sending_item, sending_due, sending_report, sending, followed_by, step, run_steps}
use Rattle.wl_world_model.specs.World.{taken_over}
use Rattle.wl_limits.specs.declared.tabs.TheConstants.{COMMAND_LIMIT}
use Rattle.std.specs.Prelude.{nat_lt}
use Rattle.std.proofs.lemmas.List.{length-append}
use Rattle.std.proofs.lemmas.Bool.{eqb-true, eq-eqb, not-true, and_parts}
use Rattle.wl_draft.specs.Tables.{Table, find, put, Rises}
use Rattle.wl_draft.proofs.RisingTables.{Rises-put, Rises-filter, find-In}
use Rattle.wl_draft.proofs.Membership.{In-map_cases}
use Rattle.wl_grammar.specs.declared.frame.Snapshot.{Snapshot as Part}
use Rattle.wl_grammar.specs.declared.frame.Operation.{Operation}
use Rattle.wl_grammar.specs.declared.frame.Operation.TheVariants.{Request, Release, Abort, Query}
use Rattle.wl_agent.specs.declared.status.Status.{Status}
use Rattle.wl_agent.specs.declared.status.Status.TheVariants.{Asked, Held, Querying, Whole, Lost}
use Rattle.wl_agent.specs.declared.delivered.Delivered.{Delivered}
use Rattle.wl_agent.specs.declared.delivered.Delivered.TheVariants as heard
use Rattle.wl_agent.specs.declared.drop_reason.DropReason.TheVariants as unheard
use Rattle.wl_agent.specs.SnapshotParts.{no_parts}
use Rattle.wl_world_model.proofs.Tables.{each_found}
use Rattle.wl_world_model.proofs.exclusion.HeardNumbers.{find-filter, carried-rises}

-- The numbers that are queried are of queries, from after the report.
abbrev IsQueryOf : List Operation → ℕ → ℕ → Type 0
IsQueryOf issued base k = (k < length issued) × (get_or issued k Query ≡ Query) × (base ≤ k)

pub record AreQueries (a : TabState) : Type 0 where
  pub rises : Rises 0 a.statuses
  pub low : a.report.base ≤ length a.issued
  pub queries : (k : ℕ) → is_querying (status_of a k) ≡ true → (k < length a.issued) × (operation_of a k ≡ Query) × (a.report.base ≤ k)
  -- No part comes before the tab has entered a generation.
  pub fresh : a.entered ≡ 0 → (k : ℕ) → is_querying (status_of a k) ≡ true → status_of a k ≡ Some (Querying no_parts)

get-left : (xs ys : List Operation) (i : ℕ) → i < length xs → get_or (xs ++ ys) i Query ≡ get_or xs i Query
get-left [] ys i lt = absurd (omega (arith, lt))
get-left (x ∷ xs) ys zero lt = refl
get-left (x ∷ xs) ys (suc i) lt = get-left xs ys i (omega (arith, lt))

get-last : (xs : List Operation) (o : Operation) → get_or (xs ++ o ∷ []) (length xs) Query ≡ o
get-last [] o = refl
get-last (x ∷ xs) o = get-last xs o

querying-some : (o : Option Status) → is_querying o ≡ true → (s : Status) × (o ≡ Some s)
querying-some None e = apart e refl
querying-some (Some s) e = (s, refl)

-- A status that is queried in the first table is so in the second.
abbrev Fewer : Table Status → Table Status → Type 0
Fewer new old = (k : ℕ) → is_querying (find new k) ≡ true → is_querying (find old k) ≡ true

-- No part of a query came.
abbrev pub AreUnheard : Table Status → Type 0
AreUnheard rows = (k : ℕ) → is_querying (find rows k) ≡ true → find rows k ≡ Some (Querying no_parts)

filter-fewer : (test : ℕ × Status → Bool) (rows : Table Status) → Rises 0 rows → Fewer (filter test rows) rows
filter-fewer test rows r k e =
    let o = querying-some (find (filter test rows) k) e in
    ap is_querying ((find-filter test rows r k o.0 o.1).0 ∙ sym o.1) ∙ e

-- A query of the table after a filter has its parts from before.
filter-parts : (test : ℕ × Status → Bool) (rows : Table Status) → Rises 0 rows → AreUnheard rows → AreUnheard (filter test rows)
filter-parts test rows r f k e =
    let o = querying-some (find (filter test rows) k) e in
    let old = (find-filter test rows r k o.0 o.1).0 in
    o.1 ∙ (sym old ∙ f k (ap is_querying (old ∙ sym o.1) ∙ e))

put-parts : (n : ℕ) (s : Status) (rows : Table Status) → (is_querying (Some s) ≡ true → Some s ≡ Some (Querying no_parts)) → AreUnheard rows → AreUnheard (put n s rows)
put-parts n s rows g f = each_found (λ k o. is_querying o ≡ true → o ≡ Some (Querying no_parts)) n s rows g (λ k d e. f k e)

put-fewer : (n : ℕ) (s : Status) (rows : Table Status) → (is_querying (Some s) ≡ true → is_querying (find rows n) ≡ true) → Fewer (put n s rows) rows
put-fewer n s rows f = each_found (λ k o. is_querying o ≡ true → is_querying (find rows k) ≡ true) n s rows f (λ k d e. e)

unless-none : (s : Status) → is_querying (Some (unless_asked s)) ≡ true → ⊥
unless-none Asked e = apart e refl
unless-none Held e = apart e refl
unless-none (Querying ps) e = apart e refl
unless-none (Whole z) e = apart e refl
unless-none Lost e = apart e refl

carried-none : (issued : List Operation) (rows : Table Status) (k : ℕ) → is_querying (find (carried issued rows) k) ≡ true → ⊥
carried-none issued rows k e =
    let o = querying-some (find (carried issued rows) k) e in
    let m = In-map_cases (λ row. (row.0, unless_asked row.1)) (filter (λ row. not (is_asked_probe issued row)) rows) (find-In (carried issued rows) k o.0 o.1) in
    let same : o.0 ≡ unless_asked m.0.1 = ap (λ z. z.1) m.2 in
    unless-none m.0.1 (ap (λ z. is_querying (Some z)) (sym same) ∙ (ap is_querying (sym o.1) ∙ e))

-- More commands
more-queries : (a : TabState) (o : Operation) (k : ℕ) → IsQueryOf a.issued a.report.base k → IsQueryOf (a.issued ++ o ∷ []) a.report.base k
more-queries a o k h = (let lt = h.0 in omega (arith, length-append a.issued (o ∷ []), lt), get-left a.issued (o ∷ []) k h.0 ∙ h.1, h.2)

more-low : (a : TabState) (o : Operation) → a.report.base ≤ length a.issued → a.report.base ≤ length (a.issued ++ o ∷ [])
more-low a o le = omega (arith, length-append a.issued (o ∷ []), le)

issue-queries : (o : Operation) (s : Status) (a : TabState) → (is_querying (Some s) ≡ true → (o ≡ Query) × (Some s ≡ Some (Querying no_parts))) → AreQueries a → AreQueries (issue o s a)
unfolding issue
issue-queries o s a f h = record {
  rises = Rises-put 0 (length a.issued) s a.statuses (omega arith) h.rises;
  low = more-low a o h.low;
  queries = each_found (λ k z. is_querying z ≡ true → IsQueryOf (a.issued ++ o ∷ []) a.report.base k) (length a.issued) s a.statuses
      (λ e. (omega (arith, length-append a.issued (o ∷ [])), get-last a.issued o ∙ (f e).0, h.low))
      (λ k d e. more-queries a o k (h.queries k e));
  fresh = λ z. put-parts (length a.issued) s a.statuses (λ e. (f e).1) (h.fresh z);
}

finish-queries : (o : Operation) (n : ℕ) (a : TabState) → AreQueries a → AreQueries (finish o n a)
unfolding finish
finish-queries o n a h = record {
  rises = Rises-filter (λ row. not (row.0 == n)) 0 a.statuses h.rises;
  low = more-low a o h.low;
  queries = λ k e. more-queries a o k (h.queries k (filter-fewer (λ row. not (row.0 == n)) a.statuses h.rises k e));
  fresh = λ z. filter-parts (λ row. not (row.0 == n)) a.statuses h.rises (h.fresh z);
}

-- Frames
becomes-queries : (n : ℕ) (s : Status) (a : TabState) → (is_querying (Some s) ≡ true → is_querying (status_of a n) ≡ true) → (a.entered ≡ 0 → is_querying (Some s) ≡ false) → AreQueries a → AreQueries (becomes n s a)
unfolding becomes
becomes-queries n s a f g h = record {
  rises = Rises-put 0 n s a.statuses (omega arith) h.rises;
  low = h.low;
  queries = λ k e. h.queries k (put-fewer n s a.statuses f k e);
  fresh = λ z. put-parts n s a.statuses (λ e. apart e (g z)) (h.fresh z);
}

ended-queries : (n : ℕ) (a : TabState) → AreQueries a → AreQueries (ended n a)
unfolding ended
ended-queries n a h = record {
  rises = Rises-filter (λ row. not (row.0 == n)) 0 a.statuses h.rises;
  low = h.low;
  queries = λ k e. h.queries k (filter-fewer (λ row. not (row.0 == n)) a.statuses h.rises k e);
  fresh = λ z. filter-parts (λ row. not (row.0 == n)) a.statuses h.rises (h.fresh z);
}

noted-queries : (n : ℕ) (a : TabState) → AreQueries a → AreQueries (noted n a)
unfolding noted
noted-queries n a h = record { rises = h.rises; low = h.low; queries = h.queries; fresh = h.fresh }

told-queries : (a : TabState) → AreQueries a → AreQueries (told a)
unfolding told
told-queries a h = record {
  rises = Rises-filter (λ row. not (is_told row.1)) 0 a.statuses h.rises;
  low = h.low;
  queries = λ k e. h.queries k (filter-fewer (λ row. not (is_told row.1)) a.statuses h.rises k e);
  fresh = λ z. filter-parts (λ row. not (is_told row.1)) a.statuses h.rises (h.fresh z);
}

answer-queries : (d : Delivered) (a : TabState) → AreQueries a → AreQueries (after_answer d a)
answer-queries (heard.Granted k) a h = becomes-queries k Held a (λ e. apart e refl) (λ _. refl) h
answer-queries (heard.Null k) a h = ended-queries k a h
answer-queries (heard.Lost k) a h = becomes-queries k Lost a (λ e. apart e refl) (λ _. refl) h
answer-queries d a h = h

asking-querying : (x : Part) (s : Option Status) → is_some (asking_refusal x s) ≡ false → is_querying s ≡ true
asking-querying x (Some (Querying ps)) e = refl
asking-querying x s e = apart refl e

refused-querying : (x : Part) (a : TabState) → is_some (part_refusal x a) ≡ false → is_querying (status_of a x.number) ≡ true
refused-querying x a =
    either (λ z. is_some z ≡ false → is_querying (status_of a x.number) ≡ true) _ (asking_refusal x (status_of a x.number)) (Some unheard.Odd) (λ _. asking-querying x (status_of a x.number)) (λ _ e. apart refl e)

part-queries : (x : Part) (a : TabState) → a.entered ≢ 0 → AreQueries a → AreQueries (after_part x a)
part-queries x a d h =
    either AreQueries (is_some (part_refusal x a)) a (becomes x.number (with_part_come x (parts_of (status_of a x.number))) a)
    (λ _. h) (λ n. becomes-queries x.number (with_part_come x (parts_of (status_of a x.number))) a (λ _. refused-querying x a n) (λ z. absurd (d z)) h)

enter-queries : (g : ℕ) (a : TabState) → AreQueries a → AreQueries (enter g a)
unfolding enter_first enter_later report_of
enter-queries g a h = either AreQueries (a.entered == 0) (enter_first g a) (enter_later g a)
    (λ y. record { rises = h.rises; low = omega arith; queries = λ k e. let q = h.queries k e in (q.0, q.1, omega arith); fresh = λ _. h.fresh (eqb-true a.entered 0 y) })
    (λ _. record {
      rises = carried-rises a.issued a.statuses h.rises;
      low = le_refl (length a.issued);
      queries = λ k e. absurd (carried-none a.issued a.statuses k e);
      fresh = λ _ k e. absurd (carried-none a.issued a.statuses k e);
    })

-- No part of a query came before the tab enters the generation.
pub enter-unheard : (g : ℕ) (a : TabState) → AreQueries a → AreUnheard (told (enter g a)).statuses
unfolding enter_first enter_later report_of told
enter-unheard g a h =
    either (λ (z : TabState). AreUnheard (told z).statuses) (a.entered == 0) (enter_first g a) (enter_later g a)
    (λ y. filter-parts (λ row. not (is_told row.1)) a.statuses h.rises (h.fresh (eqb-true a.entered 0 y)))
    (λ _. filter-parts (λ row. not (is_told row.1)) (carried a.issued a.statuses) (carried-rises a.issued a.statuses h.rises) (λ k e. absurd (carried-none a.issued a.statuses k e)))

has-entered : (g : ℕ) (a : TabState) → has_entered g a ≡ true → a.entered ≢ 0
has-entered g a y e = apart (eq-eqb a.entered 0 e) (not-true _ (and_parts (g == a.entered) (not (a.entered == 0)) y).1)

delivery-queries : (f : Frame) (a : TabState) → AreQueries a → AreQueries (delivery f a).0
unfolding delivery
delivery-queries (frame.Hello x) a h = either {A = TabState × Delivered} (λ z. AreQueries z.0) (nat_lt a.entered x.generation) _ _ (λ _. enter-queries x.generation a h) (λ _. h)
delivery-queries (frame.Answer x) a h = either {A = TabState × Delivered} (λ z. AreQueries z.0) (has_entered x.generation a) _ _ (λ _. noted-queries x.upto (after_answer (told_by_answer x a) a) (answer-queries (told_by_answer x a) a h)) (λ _. h)
delivery-queries (frame.Snapshot x) a h = either {A = TabState × Delivered} (λ z. AreQueries z.0) (has_entered x.generation a) _ _ (λ y. noted-queries (x.number + 1) (after_part x a) (part-queries x a (has-entered x.generation a y) h)) (λ _. h)
delivery-queries f a h = h

-- Clients

abbrev pub HasQueries : ClientState → Type 0
HasQueries c = AreQueries c.locks

abbrev pub AllQueries : Library → Type 0
AllQueries l = (t : ℕ) → HasQueries (client_of l t)

unless-kept : {F : Type 0} (o : Option F) (c d : ClientState) → HasQueries c → HasQueries d → HasQueries (unless o c d)
unless-kept None c d p q = q
unless-kept (Some f) c d p q = p

heard-kept : (f : Frame) (c : ClientState) → HasQueries c → HasQueries (after_delivery f c)
heard-kept (frame.Heard h) c p = p
heard-kept f c p = told-queries (delivery f c.locks).0 (delivery-queries f c.locks p)

frame-kept : (f : Frame) (c : ClientState) → HasQueries c → HasQueries (after_frame f c)
frame-kept f c p = either HasQueries (is_hello_of c.locks.entered f) (record c { unsent = c.unsent ++ unsent.Resend ∷ [] }) (after_delivery f c) (λ _. p) (λ _. heard-kept f c p)

born-queries : (i : Bool) (t n : ℕ) → AreQueries (born i t n)
born-queries i t n = record { rises = tt; low = omega arith; queries = λ k e. apart e refl; fresh = λ _ k e. apart e refl }

welcome-kept : (o : Option (ℕ × Bool)) (c : ClientState) → HasQueries c → HasQueries (after_welcome o c)
welcome-kept None c p = p
welcome-kept (Some w) c p = born-queries w.1 w.0 COMMAND_LIMIT

first-kept : (fs : List Frame) (c : ClientState) → HasQueries c → HasQueries (after_first fs c)
first-kept [] c p = p
first-kept (f ∷ fs) c p =
    either HasQueries c.is_welcomed (after_frame f (record c { arrived = fs })) (after_welcome (welcome_of f) (record c { arrived = fs }))
    (λ _. frame-kept f (record c { arrived = fs }) p) (λ _. welcome-kept (welcome_of f) (record c { arrived = fs }) p)

item-kept : (us : List Unsent) (c : ClientState) → HasQueries c → HasQueries (sending_item us c).client
item-kept [] c p = p
item-kept (unsent.Resend ∷ us) c p = p
item-kept (unsent.Command k ∷ us) c p = p
item-kept (unsent.Post g ∷ us) c p = p

due-kept : (ks : List ℕ) (c : ClientState) → HasQueries c → HasQueries (sending_due ks c).client
due-kept [] c p = item-kept c.unsent c p
due-kept (k ∷ ks) c p = p

report-kept : (fs : List Frame) (c : ClientState) → HasQueries c → HasQueries (sending_report fs c).client
report-kept [] c p = due-kept c.due c p
report-kept (f ∷ fs) c p = p

-- Lines

line-kept : (t : ℕ) (y : Line) (l : Library) → HasQueries y.client → AllQueries l → AllQueries (with_line t y l)
line-kept t y l p h u = either (λ (z : Line). HasQueries z.client) (u == t) y (l.lines u) (λ _. p) (λ _. h u)

if-kept : (b : Bool) (l m : Library) → AllQueries l → AllQueries m → AllQueries (if b then m else l)
if-kept b l m p q = either AllQueries b m l (λ _. q) (λ _. p)

call-kept : (t : ℕ) (call : ClientState → ClientState) (l : Library) → ((c : ClientState) → HasQueries c → HasQueries (call c)) → AllQueries l → AllQueries (calls t call l)
call-kept t call l f h = if-kept (runs l t) l (with_line t (record (l.lines t) { client = call (client_of l t) }) l) h (line-kept t (record (l.lines t) { client = call (client_of l t) }) l (f (client_of l t) (h t)) h)

fed-kept : (n : ℕ) (fs : List Frame) (x : Line) → HasQueries x.client → HasQueries (client_fed n fs x).client
fed-kept n [] x p = p
fed-kept n (f ∷ fs) x p = p

hub_fed-kept : (t n : ℕ) (fs : List Frame) (l : Library) → AllQueries l → AllQueries (hub_fed t n fs l)
hub_fed-kept t n [] l h = line-kept t (record (l.lines t) { up = drop n (l.lines t).up }) (with_hub (record l.hub { sender = t; arrived = take n (l.lines t).up }) l) (h t) h
hub_fed-kept t n (f ∷ fs) l h = h

sends-kept : (os : List (ℕ × Frame)) (l : Library) → AllQueries l → AllQueries (hub_sends_from os l)
sends-kept [] l h = h
sends-kept (o ∷ os) l h =
    let m = with_hub (record l.hub { outputs = os }) l in
    let y = record (l.lines o.0) { down = (l.lines o.0).down ++ o.1 ∷ [] } in
    either AllQueries (is_due l.hub o) (with_line o.0 y m) m (λ _. line-kept o.0 y m (h o.0) h) (λ _. h)

-- Steps

pub step-kept : (x : Step) (l : Library) → AllQueries l → AllQueries (step x l)
unfolding step
step-kept (Opens t page is_pair) l h =
    either AllQueries (is_some (page_refusal t page l.hub)) l (with_line t new_line (with_hub (page_opened t page is_pair l.hub) l))
    (λ _. h) (λ _. line-kept t new_line (with_hub (page_opened t page is_pair l.hub) l) (born-queries false 0 COMMAND_LIMIT) h)
step-kept (Closes t) l h = if-kept (lives l t) l (with_hub (hub_closed t l.hub) l) h h
step-kept Restarts l h = h
step-kept Stops l h = h
step-kept (HubReceives t n) l h = if-kept (lives l t) l (hub_fed t n l.hub.arrived l) h (hub_fed-kept t n l.hub.arrived l h)
step-kept HubAdvances l h = h
step-kept HubSends l h = sends-kept l.hub.outputs l h
step-kept (Asks t mode if_available name) l h =
    call-kept t (asks mode if_available name) l (λ c p. unless-kept (call_refusal (ask_refusal c.locks name) c) c (after_command (asked mode if_available name) c) p (issue-queries (Request mode if_available name) Asked c.locks (λ e. apart e refl) p)) h
step-kept (Queries t) l h = call-kept t queries l (λ c p. unless-kept (call_refusal (query_refusal c.locks) c) c (after_command queried c) p (issue-queries Query (Querying no_parts) c.locks (λ _. (refl, refl)) p)) h
step-kept (Aborts t k) l h =
    call-kept t (aborts k) l (λ c p. unless-kept (call_refusal None c) c (after_abort k c) p
    (either HasQueries (is_pending c.locks k && is_asked (status_of c.locks k)) (after_command (aborted k) c) c (λ _. finish-queries (Abort k) k c.locks p) (λ _. p))) h
step-kept (Releases t k) l h =
    call-kept t (releases k) l (λ c p. unless-kept (call_refusal None c) c (after_release k c) p
    (either HasQueries (is_holding c.locks k) (after_command (released k) c) c (λ _. finish-queries (Release k) k c.locks p) (λ _. p))) h
step-kept (Resends t) l h = call-kept t resends l (λ c p. unless-kept (call_refusal None c) c (record c { unsent = c.unsent ++ unsent.Resend ∷ [] }) p p) h
step-kept (OpensChannel t name) l h = call-kept t (opens_channel name) l (λ c p. unless-kept (channel_refusal (option_map Fault (open_refusal name c.channels)) c) c (with_channels (opened name c.channels) c) p p) h
step-kept (Posts t k bytes) l h = call-kept t (posts k bytes) l (λ c p. unless-kept (channel_refusal (posting_refusal k bytes c.channels) c) c (after_post k bytes c) p p) h
step-kept (Reads t k) l h = call-kept t (reads k) l (λ c p. unless-kept (channel_refusal (number_refusal k c.channels) c) c (with_channels (read_at k c.channels) c) p p) h
step-kept (ClosesChannel t k) l h = call-kept t (after_close k) l (λ c p. either HasQueries (c.is_welcomed && is_open_at c.channels.objects k) (with_channels (closed_at k c.channels) c) c (λ _. p) (λ _. p)) h
step-kept (TakesEvent t) l h = call-kept t takes_event l (λ c p. p) h
step-kept (ClientReceives t n) l h =
    if-kept (runs l t) l (with_line t (client_fed n (client_of l t).arrived (l.lines t)) l) h
    (line-kept t (client_fed n (client_of l t).arrived (l.lines t)) l (fed-kept n (client_of l t).arrived (l.lines t) (h t)) h)
step-kept (ClientAdvances t) l h = call-kept t client_advanced l (λ c p. first-kept c.arrived c p) h
step-kept (ClientSends t) l h =
    let y = record (l.lines t) { client = (sending (client_of l t)).client; up = followed_by (l.lines t).up (sending (client_of l t)).frame } in
    if-kept (runs l t) l (with_line t y l) h (line-kept t y l (report-kept (client_of l t).report (client_of l t) (h t)) h)
step-kept (TakesOver t) l h = if-kept (lives l t) l (record l { taken = taken_over t l.taken }) h h
step-kept (Forges t f) l h =
    let y = record (l.lines t) { up = (l.lines t).up ++ f ∷ [] } in
    if-kept (is_taken l t && lives l t) l (with_line t y l) h (line-kept t y l (h t) h)

-- After any steps of the library
pub steps-kept : (steps : List Step) (l : Library) → AllQueries l → AllQueries (run_steps steps l)
steps-kept [] l h = h
steps-kept (x ∷ xs) l h = steps-kept xs (step x l) (step-kept x l h)

pub new-kept : AllQueries new_library
new-kept t = born-queries false 0 COMMAND_LIMIT
