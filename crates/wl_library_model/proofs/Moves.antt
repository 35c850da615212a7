-- Events that change one tab, and calls of its client.
use Rattle.std.proofs.Common.{◌≡◌, inl, inr, ⊎_elim, ℕ, ◌<◌, ◌≤◌, Bool, true, false, cond, not, ◌&&◌, List, [], ◌∷◌, ◌++◌, length, length-append, get_or, Option, Some, None, option_map, is_some, refl, sym, ap, ap₂, ◌∙◌, subst, arith}
use Rattle.std.specs.Prelude.{◌==◌}
use Rattle.std.proofs.lemmas.Bool.{cases_eq, cases_lt, and_parts, eqb-true, eqb-false}
use Rattle.std.proofs.lemmas.List.{get_or_append_left}
use Rattle.wl_draft.specs.Membership.{In, Here}
use Rattle.wl_draft.specs.Tables.{Rises}
use Rattle.wl_draft.specs.declared.mode.Mode.{Mode}
use Rattle.wl_draft.proofs.Membership.{apart, either, by_test, In-one, In-append_cases}
use Rattle.wl_draft.proofs.TableLemmas.{find-put_same, find-put_other}
use Rattle.wl_grammar.specs.declared.frame.Frame.{Frame}
use Rattle.wl_grammar.specs.declared.frame.Operation.{Operation}
use Rattle.wl_grammar.specs.declared.frame.Operation.TheVariants.{Request, Release, Abort, Query}
use Rattle.wl_grammar.specs.declared.frame.Upward.TheVariants as up
use Rattle.wl_agent.specs.declared.fault.AgentFault.{AgentFault}
use Rattle.wl_agent.specs.declared.status.Status.TheVariants.{Asked, Querying}
use Rattle.wl_agent.specs.SnapshotParts.{no_parts}
use Rattle.wl_agent.specs.Tab.{TabState, report_bodies, status_of, is_asked, issue, finish, asked, queried, aborted, released, ask_refusal, query_refusal}
use Rattle.wl_agent.specs.Tokens.{is_pending, is_holding}
use Rattle.wl_tab.specs.Tabs.{tab_in}
use Rattle.wl_client.specs.declared.client.Unsent.TheVariants as unsent
use Rattle.wl_client.specs.declared.fault.CallFault.TheVariants.{NotWelcomed, Agent}
use Rattle.wl_client.specs.Client.{ClientState, call_refusal, after_command}
use Rattle.wl_hub.specs.Hub.{HubState}
use Rattle.wl_world_messages.specs.declared.message.Message.{Message}
use Rattle.wl_world_messages.proofs.Same.{sent_all-adds}
use Rattle.wl_world_model.specs.declared.event.Event.{Event}
use Rattle.wl_world_model.specs.declared.event.Event.TheVariants as event
use Rattle.wl_world_model.specs.World.{WorldState, tab_of, lives, StepResult, if_allowed, acts, issues_command, asks, queries, aborts, releases, step_result, after_event, run}
use Rattle.wl_world_model.specs.Sends.{stamped, command_message, issued_messages}
use Rattle.wl_world_model.specs.Holdings.{asking}
use Rattle.wl_world_model.proofs.exclusion.Invariant.{was_opened}
use Rattle.wl_world_model.proofs.exclusion.ActsWithinAGeneration.{after}
use Rattle.wl_library_model.specs.Library.{Library, Line, with_line, client_of, runs, calls}
use Rattle.wl_library_model.specs.Library.{asks as client_asks, queries as client_queries, aborts as client_aborts, releases as client_releases}
use Rattle.wl_library_model.specs.Events.{call_events}
use Rattle.wl_library_model.specs.Simulation.{AreLocksOf, IsLineOf, IsHubOf}
use Rattle.wl_library_model.proofs.Later.{GoesOn, Later, later-on, later-same, issue-goes, finish-goes}
use Rattle.wl_library_model.proofs.Happens.{Good, happens-on, happens-good}
use Rattle.wl_library_model.proofs.Carried.{Sim, Known, settled-later, stays-up, each_other, down-later, up-later, line-later, known-later}
use Rattle.wl_library_model.proofs.Links.{line-sim, runs-opened}

-- The tab becomes `y`, and nothing else changes beside channels and messages.
pub record Moved (w v : WorldState) (t : ℕ) (y : TabState) : Type 0 where
  pub later : Later w v
  pub good : Good v
  pub kernel : v.kernel ≡ w.kernel
  pub broker : v.broker ≡ w.broker
  pub corrupt : v.corrupt ≡ w.corrupt
  pub tab : tab_of v t ≡ y
  pub others : (u : ℕ) → (u ≡ t → ⊥) → tab_of v u ≡ tab_of w u

pub moved-none : (w : WorldState) (t : ℕ) → Good w → Moved w w t (tab_of w t)
moved-none w t g = record { later = later-same w; good = g; kernel = refl; broker = refl; corrupt = refl; tab = refl; others = λ u d. refl }

pub moved-on : (u v w : WorldState) (t : ℕ) (x y : TabState) → Moved u v t x → Moved v w t y → Moved u w t y
moved-on u v w t x y p q = record {
  later = later-on u v w p.later q.later;
  good = q.good;
  kernel = q.kernel ∙ p.kernel;
  broker = q.broker ∙ p.broker;
  corrupt = q.corrupt ∙ p.corrupt;
  tab = q.tab;
  others = λ n d. q.others n d ∙ p.others n d;
}

-- Kernel, broker and the tabs that were taken over are the same after an event of a tab.
pub record Beside (w v : WorldState) : Type 0 where
  pub kernel : v.kernel ≡ w.kernel
  pub broker : v.broker ≡ w.broker
  pub corrupt : v.corrupt ≡ w.corrupt

acts-beside : (w : WorldState) (t : ℕ) (y : TabState) (ms : List Message) → Beside w (after w (acts w t y ms))
unfolding acts
acts-beside w t y ms = record { kernel = refl; broker = refl; corrupt = refl }

acts-tab : (w : WorldState) (t : ℕ) (y : TabState) (ms : List Message) → tab_of (after w (acts w t y ms)) t ≡ y
unfolding acts
acts-tab w t y ms = ap (tab_in t) (find-put_same t y w.tabs)

acts-other : (w : WorldState) (t : ℕ) (y : TabState) (ms : List Message) (u : ℕ) → (u ≡ t → ⊥) → tab_of (after w (acts w t y ms)) u ≡ tab_of w u
unfolding acts
acts-other w t y ms u d = ap (tab_in u) (find-put_other t y w.tabs u d)

pub acts-bag : (w : WorldState) (t : ℕ) (y : TabState) (ms : List Message) (m : Message) → In m ms → In m (after w (acts w t y ms)).bag
unfolding acts
acts-bag w t y ms m i = sent_all-adds ms w.bag i

pub acts-moved : (w : WorldState) (t : ℕ) (y : TabState) (ms : List Message) (e : Event) → Good w → after_event w e ≡ after w (acts w t y ms) → Moved w (after_event w e) t y
acts-moved w t y ms e g is =
    let b = acts-beside w t y ms in
    record {
      later = (happens-on w e g.sound g.fit).later;
      good = happens-good w e g;
      kernel = ap (λ v. v.kernel) is ∙ b.kernel;
      broker = ap (λ v. v.broker) is ∙ b.broker;
      corrupt = ap (λ v. v.corrupt) is ∙ b.corrupt;
      tab = ap (λ v. tab_of v t) is ∙ acts-tab w t y ms;
      others = λ u d. ap (λ v. tab_of v u) is ∙ acts-other w t y ms u d;
    }

pub hub-later : (w v : WorldState) (h : HubState) → Good w → Later w v → v.kernel ≡ w.kernel → v.broker ≡ w.broker → IsHubOf w h → IsHubOf v h
hub-later w v h g x k b i = record {
  kernel = i.kernel ∙ sym k;
  broker = i.broker ∙ sym b;
  outputs = λ t f j. down-later w v x t f (i.outputs t f j);
  arrived = λ y f j. up-later w v g x h.sender f (i.arrived (x.honest h.sender y) f j);
  early = λ t j. (x.opened t (i.early t j)).0;
}

-- The library after such an event, with the tab's line.
pub moved-sim : (l : Library) (w v : WorldState) (t : ℕ) (a : TabState) (y : Line) → Sim l w → Moved w v t a → IsLineOf v t y → Known v t (tab_of v t) → Sim (with_line t y l) v
moved-sim l w v t a y s m i k = record {
  good = m.good;
  hub = hub-later w v l.hub s.good m.later m.kernel m.broker s.hub;
  lines = each_other (IsLineOf v) t y l.lines i (λ u e. line-later w v s.good m.later u (l.lines u) (m.others u (eqb-false u t e)) (s.lines u));
  taken = s.taken ∙ sym m.corrupt;
  known = λ u. ⊎_elim
      (λ e. subst (λ z. Known v z (tab_of v z)) (sym e) k)
      (λ d. known-later w v s.good m.later u (m.others u d) (s.known u))
      (cases_eq u t);
}

-- Calls

pub call-sim : (l : Library) (w : WorldState) (t : ℕ) (f : ClientState → ClientState) (e : Event) → Sim l w
    → ((client_of l t).is_welcomed ≡ false → f (client_of l t) ≡ client_of l t)
    → (runs l t ≡ true → (client_of l t).is_welcomed ≡ true → Sim (with_line t (record (l.lines t) { client = f (client_of l t) }) l) (after_event w e))
    → Sim (calls t f l) (run (call_events l t e) w)
call-sim l w t f e s unwelcomed happens =
    let c = client_of l t in
    by_test (λ b. Sim (cond b (with_line t (record (l.lines t) { client = f c }) l) l) (run (cond (b && c.is_welcomed) (e ∷ []) []) w)) (runs l t)
    (λ r. by_test (λ b. Sim (with_line t (record (l.lines t) { client = f c }) l) (run (cond b (e ∷ []) []) w)) c.is_welcomed
    (λ y. happens r y)
    (λ n. subst (λ z. Sim (with_line t (record (l.lines t) { client = z }) l) w) (sym (unwelcomed n)) (line-sim l w t (l.lines t) s (s.lines t))))
    (λ _. s)

-- Commands

-- The state with another count of acknowledged commands.
abbrev pub marked : ℕ → Bool → TabState → TabState
marked n b a = record a { acknowledged = n; answered = b }

pub locks-from : (c a : TabState) (n : ℕ) (b : Bool) → c ≡ marked n b a → AreLocksOf c a
locks-from c a n b e = e ∙ ap₂ (λ m d. marked m d a) (sym (ap (λ z. z.acknowledged) e)) (sym (ap (λ z. z.answered) e))

-- A command that a tab issues: `F` is its effect, and `o` the operation.
pub record Issues (F : TabState → TabState) (o : Operation) (a : TabState) : Type 0 where
  pub goes : GoesOn a (F a)
  pub issued : (F a).issued ≡ a.issued ++ o ∷ []
  pub entered : (F a).entered ≡ a.entered
  pub report : (F a).report ≡ a.report
  pub in_parts : (F a).in_parts ≡ a.in_parts
  pub blind : (n : ℕ) (b : Bool) → F (marked n b a) ≡ marked n b (F a)

asked-issues : (mode : Mode) (b : Bool) (name : List ℕ) (a : TabState) → Issues (asked mode b name) (Request mode b name) a
unfolding issue
asked-issues mode b name a = record { goes = issue-goes (Request mode b name) Asked a; issued = refl; entered = refl; report = refl; in_parts = refl; blind = λ n d. refl }

queried-issues : (a : TabState) → Issues queried Query a
unfolding issue
queried-issues a = record { goes = issue-goes Query (Querying no_parts) a; issued = refl; entered = refl; report = refl; in_parts = refl; blind = λ n d. refl }

aborted-issues : (k : ℕ) (a : TabState) → Rises 0 a.statuses → Issues (aborted k) (Abort k) a
unfolding finish
aborted-issues k a r = record { goes = finish-goes (Abort k) k a r; issued = refl; entered = refl; report = refl; in_parts = refl; blind = λ n d. refl }

released-issues : (k : ℕ) (a : TabState) → Rises 0 a.statuses → Issues (released k) (Release k) a
unfolding finish
released-issues k a r = record { goes = finish-goes (Release k) k a r; issued = refl; entered = refl; report = refl; in_parts = refl; blind = λ n d. refl }

old-operation : (F : TabState → TabState) (o : Operation) (a : TabState) (n : ℕ) → Issues F o a → n < length a.issued → get_or (F a).issued n Query ≡ get_or a.issued n Query
old-operation F o a n y m = ap (λ z. get_or z n Query) y.issued ∙ get_or_append_left a.issued (o ∷ []) Query n m

last-number : (F : TabState → TabState) (o : Operation) (a : TabState) (n : ℕ) → Issues F o a → length a.issued ≤ n → n < length (F a).issued → length a.issued ≡ n
last-number F o a n y m l = let q : n < length (a.issued ++ o ∷ []) = subst (λ z. n < length z) y.issued l in omega (arith, length-append a.issued (o ∷ []))

-- The new command is in the bag once the tab has entered a generation.
issued-known : (w v : WorldState) (t : ℕ) (F : TabState → TabState) (o : Operation) → Good w → Later w v → was_opened w t ≡ true → Issues F o (tab_of w t) → Known w t (tab_of w t)
    → (0 < (F (tab_of w t)).entered → In (command_message w.kernel t (F (tab_of w t)) (length (tab_of w t).issued)) v.bag) → v.kernel ≡ w.kernel → Known v t (F (tab_of w t))
issued-known w v t F o g x opened y k sent kernel =
    let a = tab_of w t in
    record {
      commands = λ lt n l. let lt' = subst (λ z. 0 < z) y.entered lt in ⊎_elim
          (λ m. ⊎_elim
          (λ i. inl (subst (λ z. In (stamped v.kernel t (up.Command (record { generation = z; number = n; operation = get_or (F a).issued n Query }))) v.bag) (sym y.entered)
          (subst (λ z. In (stamped v.kernel t (up.Command (record { generation = a.entered; number = n; operation = z }))) v.bag) (sym (old-operation F o a n y m)) (stays-up w v x t opened _ i))))
          (λ r. inr (settled-later a (F a) n y.goes (g.fit.low t) y.entered r))
          (k.commands lt' n m))
          (λ m. inl (subst (λ z. In (command_message z t (F a) n) v.bag) (sym kernel) (subst (λ z. In (command_message w.kernel t (F a) z) v.bag) (last-number F o a n y m l) (sent lt))))
          (cases_lt n (length a.issued));
      report = λ lt u i. stays-up w v x t opened u (k.report (subst (λ z. 0 < z) y.entered lt) u (subst (λ z. In u (report_bodies a.in_parts z)) y.report (subst (λ z. In u (report_bodies z (F a).report)) y.in_parts i)));
    }

-- The client's line after the command.
issued-line : (w v : WorldState) (t : ℕ) (F : TabState → TabState) (x : Line) → Good w → Later w v → x.client.is_welcomed ≡ true → ((n : ℕ) (b : Bool) → F (marked n b (tab_of w t)) ≡ marked n b (F (tab_of w t))) → tab_of v t ≡ F (tab_of w t) → IsLineOf w t x
    → IsLineOf v t (record x { client = after_command F x.client })
issued-line w v t F x g later y blind tab i =
    let c = x.client.locks in
    record {
      client = record {
        welcomed = λ _. subst (AreLocksOf (F c)) (sym tab) (locks-from (F c) (F (tab_of w t)) c.acknowledged c.answered (ap F (i.client.welcomed y) ∙ blind c.acknowledged c.answered));
        unwelcomed = λ n. apart y n;
        unentered = λ n. apart y n;
      };
      down = λ f j. down-later w v later t f (i.down f j);
      came = λ f j. down-later w v later t f (i.came f j);
      up = λ h f j. up-later w v g later t f (i.up (later.honest t h) f j);
      report = λ h f j. up-later w v g later t f (i.report (later.honest t h) f j);
      posts = λ h f j. ⊎_elim
          (λ a. up-later w v g later t f (i.posts (later.honest t h) f a))
          (λ a. absurd (other f (length c.issued) (In-one a)))
          (In-append_cases x.client.unsent (unsent.Command (length c.issued) ∷ []) j);
    }
  where
    other : (f : Frame) (k : ℕ) → unsent.Post f ≡ unsent.Command k → ⊥
    other f k e = cc

-- A command that the world allows and the client does not refuse.
command-sim : (l : Library) (w : WorldState) (t : ℕ) (F : TabState → TabState) (o : Operation) (e : Event) → Sim l w → runs l t ≡ true → (client_of l t).is_welcomed ≡ true → Issues F o (tab_of w t)
    → after_event w e ≡ after w (issues_command w t (F (tab_of w t))) → Sim (with_line t (record (l.lines t) { client = after_command F (client_of l t) }) l) (after_event w e)
command-sim l w t F o e s r y i is =
    let a = tab_of w t in
    let v = after_event w e in
    let m = acts-moved w t (F a) (issued_messages w.kernel t (F a) (length a.issued)) e s.good is in
    let opened = runs-opened l w t s r in
    moved-sim l w v t (F a) (record (l.lines t) { client = after_command F (client_of l t) }) s m
    (issued-line w v t F (l.lines t) s.good m.later y i.blind m.tab (s.lines t))
    (subst (Known v t) (sym m.tab) (issued-known w v t F o s.good m.later opened i (s.known t)
    (λ lt. subst (λ z. In (command_message w.kernel t (F a) (length a.issued)) z.bag) (sym is)
    (acts-bag w t (F a) (issued_messages w.kernel t (F a) (length a.issued)) _ (sends (F a) (command_message w.kernel t (F a) (length a.issued)) lt)))
    m.kernel))
  where
    sends : (b : TabState) (m : Message) → 0 < b.entered → In m (cond (b.entered == 0) [] (m ∷ []))
    sends b m lt = either (In m) (b.entered == 0) [] (m ∷ []) (λ e. absurd (let z : b.entered ≡ 0 = eqb-true b.entered 0 e in let l : 0 < b.entered = lt in omega arith)) (λ _. Here)

mapped-some : (o : Option AgentFault) → is_some (option_map Agent o) ≡ is_some o
mapped-some None = refl
mapped-some (Some f) = refl

pub called : (r : Option AgentFault) (c : ClientState) → c.is_welcomed ≡ true → is_some (call_refusal r c) ≡ is_some r
called r c y = ap (λ z. is_some (cond z (option_map Agent r) (Some NotWelcomed))) y ∙ mapped-some r

pub uncalled : (r : Option AgentFault) (c : ClientState) → c.is_welcomed ≡ false → is_some (call_refusal r c) ≡ true
uncalled r c n = ap (λ z. is_some (cond z (option_map Agent r) (Some NotWelcomed))) n

-- The client issues the command unless it refuses it, and the world allows it in the same case.
guarded-sim : (l : Library) (w : WorldState) (t : ℕ) (F : TabState → TabState) (o : Operation) (e : Event) (b : Bool) → Sim l w → runs l t ≡ true → (client_of l t).is_welcomed ≡ true → Issues F o (tab_of w t)
    → after_event w e ≡ after w (if_allowed b w (issues_command w t (F (tab_of w t))))
    → Sim (with_line t (record (l.lines t) { client = cond b (after_command F (client_of l t)) (client_of l t) }) l) (after_event w e)
guarded-sim l w t F o e true s r y i is = command-sim l w t F o e s r y i is
guarded-sim l w t F o e false s r y i is = subst (Sim (with_line t (l.lines t) l)) (sym is) (line-sim l w t (l.lines t) s (s.lines t))

flipped : {X : Type 0} (b : Bool) (x y : X) → cond b x y ≡ cond (not b) y x
flipped true x y = refl
flipped false x y = refl

live : (l : Library) (w : WorldState) (t : ℕ) → Sim l w → runs l t ≡ true → lives w t ≡ true
live l w t s r = subst (λ k. lives (record w { kernel = k }) t ≡ true) s.hub.kernel (and_parts _ _ r).0

-- With the tab living, only the second test counts.
second : (l : Library) (w : WorldState) (t : ℕ) (b : Bool) (d : StepResult) → Sim l w → runs l t ≡ true → after w (if_allowed (lives w t && b) w d) ≡ after w (if_allowed b w d)
second l w t b d s r = ap (λ z. after w (if_allowed (z && b) w d)) (live l w t s r)

-- A command with a refusal that looks at the tab's locks.
refusing-sim : (l : Library) (w : WorldState) (t : ℕ) (F : TabState → TabState) (o : Operation) (e : Event) (R : TabState → Option AgentFault) → Sim l w → ((n : ℕ) (b : Bool) → R (marked n b (tab_of w t)) ≡ R (tab_of w t)) → Issues F o (tab_of w t)
    → after_event w e ≡ after w (if_allowed (lives w t && not (is_some (R (tab_of w t)))) w (issues_command w t (F (tab_of w t))))
    → Sim (calls t (λ c. cond (is_some (call_refusal (R c.locks) c)) c (after_command F c)) l) (run (call_events l t e) w)
refusing-sim l w t F o e R s blind i is =
    let c = client_of l t in
    call-sim l w t (λ c. cond (is_some (call_refusal (R c.locks) c)) c (after_command F c)) e s
    (λ n. ap (λ z. cond z c (after_command F c)) (uncalled (R c.locks) c n))
    (λ r y. let same = called (R c.locks) c y ∙ ap is_some (ap R ((s.lines t).client.welcomed y) ∙ blind c.locks.acknowledged c.locks.answered) in
    subst (λ z. Sim (with_line t (record (l.lines t) { client = z }) l) (after_event w e)) (sym (flipped _ c (after_command F c)))
    (subst (λ z. Sim (with_line t (record (l.lines t) { client = cond (not z) (after_command F c) c }) l) (after_event w e)) (sym same)
    (guarded-sim l w t F o e (not (is_some (R (tab_of w t)))) s r y i (is ∙ second l w t _ _ s r))))

ask-is : (w : WorldState) (t : ℕ) (mode : Mode) (b : Bool) (name : List ℕ) → after_event w (asking t mode b name) ≡ after w (asks w t mode b name)
unfolding after_event step_result
ask-is w t mode true name = refl
ask-is w t mode false name = refl

query-is : (w : WorldState) (t : ℕ) → after_event w (event.Query t) ≡ after w (queries w t)
unfolding after_event step_result
query-is w t = refl

abort-is : (w : WorldState) (t k : ℕ) → after_event w (event.Abort t k) ≡ after w (aborts w t k)
unfolding after_event step_result
abort-is w t k = refl

release-is : (w : WorldState) (t k : ℕ) → after_event w (event.Release t k) ≡ after w (releases w t k)
unfolding after_event step_result
release-is w t k = refl

pub ask-sim : (l : Library) (w : WorldState) (t : ℕ) (mode : Mode) (b : Bool) (name : List ℕ) → Sim l w → Sim (calls t (client_asks mode b name) l) (run (call_events l t (asking t mode b name)) w)
ask-sim l w t mode b name s =
    refusing-sim l w t (asked mode b name) (Request mode b name) (asking t mode b name) (λ a. ask_refusal a name) s (λ n d. refl) (asked-issues mode b name (tab_of w t)) (ask-is w t mode b name)

pub query-sim : (l : Library) (w : WorldState) (t : ℕ) → Sim l w → Sim (calls t client_queries l) (run (call_events l t (event.Query t)) w)
query-sim l w t s = refusing-sim l w t queried Query (event.Query t) query_refusal s (λ n d. refl) (queried-issues (tab_of w t)) (query-is w t)

-- A command for a number in a state that allows it.
ending-sim : (l : Library) (w : WorldState) (t : ℕ) (F : TabState → TabState) (o : Operation) (e : Event) (T : TabState → Bool) → Sim l w → ((n : ℕ) (b : Bool) → T (marked n b (tab_of w t)) ≡ T (tab_of w t)) → Issues F o (tab_of w t)
    → after_event w e ≡ after w (if_allowed (lives w t && T (tab_of w t)) w (issues_command w t (F (tab_of w t))))
    → Sim (calls t (λ c. cond (is_some (call_refusal None c)) c (cond (T c.locks) (after_command F c) c)) l) (run (call_events l t e) w)
ending-sim l w t F o e T s blind i is =
    let c = client_of l t in
    call-sim l w t (λ c. cond (is_some (call_refusal None c)) c (cond (T c.locks) (after_command F c) c)) e s
    (λ n. ap (λ z. cond z c (cond (T c.locks) (after_command F c) c)) (uncalled None c n))
    (λ r y. subst (λ z. Sim (with_line t (record (l.lines t) { client = cond z c (cond (T c.locks) (after_command F c) c) }) l) (after_event w e)) (sym (called None c y))
    (subst (λ z. Sim (with_line t (record (l.lines t) { client = cond z (after_command F c) c }) l) (after_event w e)) (sym (ap T ((s.lines t).client.welcomed y) ∙ blind c.locks.acknowledged c.locks.answered))
    (guarded-sim l w t F o e (T (tab_of w t)) s r y i (is ∙ second l w t _ _ s r))))

abort-allowed : (w : WorldState) (t k : ℕ) → after w (aborts w t k) ≡ after w (if_allowed (lives w t && (is_pending (tab_of w t) k && is_asked (status_of (tab_of w t) k))) w (issues_command w t (aborted k (tab_of w t))))
abort-allowed w t k = ap (λ b. after w (if_allowed b w (issues_command w t (aborted k (tab_of w t))))) (grouped (lives w t) _ _)
  where
    grouped : (x y z : Bool) → (x && y && z) ≡ (x && (y && z))
    grouped true y z = refl
    grouped false y z = refl

pub abort-sim : (l : Library) (w : WorldState) (t k : ℕ) → Sim l w → Sim (calls t (client_aborts k) l) (run (call_events l t (event.Abort t k)) w)
abort-sim l w t k s =
    ending-sim l w t (aborted k) (Abort k) (event.Abort t k) (λ a. is_pending a k && is_asked (status_of a k)) s (λ n d. refl) (aborted-issues k (tab_of w t) (s.good.sound.tabs t).state.rises) (abort-is w t k ∙ abort-allowed w t k)

pub release-sim : (l : Library) (w : WorldState) (t k : ℕ) → Sim l w → Sim (calls t (client_releases k) l) (run (call_events l t (event.Release t k)) w)
release-sim l w t k s =
    ending-sim l w t (released k) (Release k) (event.Release t k) (λ a. is_holding a k) s (λ n d. refl) (released-issues k (tab_of w t) (s.good.sound.tabs t).state.rises) (release-is w t k)
