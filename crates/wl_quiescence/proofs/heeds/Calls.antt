-- The steps of one client keep it that what comes down to it agrees with the broker.
use Rattle.std.proofs.Common.{◌≡◌, ◌≢◌, ◌⊎◌, inl, inr, ⊎_elim, ℕ, ◌≤◌, Bool, true, false, ◌&&◌, cond, List, [], ◌∷◌, ◌++◌, length, Option, Some, None, is_some, refl, sym, ap, ◌∙◌, subst, arith}
use Rattle.std.specs.Prelude.{◌==◌}
use Rattle.std.proofs.lemmas.Bool.{cases_Bool, cases_eq, eqb-true, eq-eqb}
use Rattle.wl_draft.specs.Membership.{In}
use Rattle.wl_draft.specs.Tables.{find, put}
use Rattle.wl_draft.proofs.Membership.{apart, either}
use Rattle.wl_draft.proofs.TableLemmas.{find-put_same, find-put_other}
use Rattle.wl_draft.proofs.RisingTables.{find-without}
use Rattle.wl_draft.specs.declared.mode.Mode.{Mode}
use Rattle.wl_grammar.specs.declared.frame.Frame.{Frame}
use Rattle.wl_grammar.specs.declared.frame.Frame.TheVariants as frame
use Rattle.wl_grammar.specs.declared.frame.Operation.{Operation}
use Rattle.wl_grammar.specs.declared.frame.Operation.TheVariants.{Request, Release, Abort, Query}
use Rattle.wl_broker.specs.Broker.{BrokerState, next_of}
use Rattle.wl_agent.specs.declared.status.Status.{Status}
use Rattle.wl_agent.specs.declared.status.Status.TheVariants.{Asked, Querying}
use Rattle.wl_agent.specs.SnapshotParts.{no_parts}
use Rattle.wl_agent.specs.Tab.{TabState, issue, finish, asked, queried, aborted, released, ask_refusal, query_refusal, status_of, operation_of, is_asked, is_querying}
use Rattle.wl_agent.specs.Tokens.{is_pending, is_holding}
use Rattle.wl_client.specs.declared.client.Unsent.{Unsent}
use Rattle.wl_client.specs.declared.client.Unsent.TheVariants as unsent
use Rattle.wl_client.specs.Client.{ClientState, call_refusal, channel_refusal, after_command, after_post, after_first, welcome_of}
use Rattle.wl_client.specs.Client.{advanced as client_advanced}
use Rattle.wl_tab.specs.TabChannels.{posting_refusal}
use Rattle.wl_library_model.specs.Library.{Library, Line, Asks, Queries, Aborts, Releases, Resends, Posts, ClientAdvances, ClientSends, Forges, client_of, lives, is_taken, runs, with_line, asks, queries, resends, posts, sending_item, sending_due, sending_report, sending, followed_by, step}
use Rattle.wl_quiescence.proofs.rest.Invariant.{View, view, view_with, outputs_to, is_answer_in, Serves, IsResting}
use Rattle.wl_quiescence.proofs.rest.Steps.{LooksSame}
use Rattle.wl_quiescence.proofs.client.Kept.{Heeds, IsHeeding}
use Rattle.wl_quiescence.proofs.client.Others.{first-down}
use Rattle.wl_quiescence.proofs.client.Queries.{AreQueries}
use Rattle.wl_quiescence.proofs.client.HeedsOn.{advance-heeds, welcome-heeds}
use Rattle.wl_quiescence.proofs.Reached.{IsReached, world_of, reached-sim, reached-queries}
use Rattle.wl_quiescence.proofs.heeds.Agrees.{fit-away}

-- Views that are alike

-- What is said of what comes down reads the frames down, the place and the locks.
pub alike-heeds : (v w : View) (t : ℕ) (b : BrokerState) → w.down ≡ v.down → w.place ≡ v.place → w.client.locks ≡ v.client.locks → Heeds v t b → Heeds w t b
alike-heeds v w t b down place locks h =
    let o = subst (λ z. Heeds (record w { client = record w.client { locks = z } }) t b) (sym locks)
    (subst (λ z. Heeds (record w { place = z; client = record w.client { locks = v.client.locks } }) t b) (sym place)
    (subst (λ z. Heeds (record w { down = z; place = v.place; client = record w.client { locks = v.client.locks } }) t b) (sym down)
    (record { answers = h.answers; snapshots = h.snapshots; fit = h.fit; queries = h.queries; unheard = h.unheard }))) in
    record { answers = o.answers; snapshots = o.snapshots; fit = o.fit; queries = o.queries; unheard = o.unheard }

pub same-heeds : (l m : Library) → LooksSame l m → IsHeeding l → IsHeeding m
same-heeds l m s h b t up r = subst (λ z. Heeds z t b) (sym (s.views t r)) (h b t (sym (ap (λ z. z.supervised.broker) s.hub) ∙ up) (s.running t r))

-- The line of one tab is replaced, and what is said of the tab holds of the new line.
pub line-heeds : (l : Library) (t : ℕ) (y : Line) → (runs l t ≡ true → (b : BrokerState) → l.hub.supervised.broker ≡ Some b → Heeds (view_with l.hub y t) t b) → IsHeeding l → IsHeeding (with_line t y l)
line-heeds l t y new h b u up r =
    either (λ z. Heeds (view_with l.hub z u) u b) (u == t) y (l.lines u)
    (λ v. let s = eqb-true u t v in subst (λ z. runs l z ≡ true → Heeds (view_with l.hub y z) z b) (sym s) (λ q. new q b up) r)
    (λ _. h b u up r)

-- The client and the frames up may change, but not the locks and the frames that came.
pub client-heeds : (l : Library) (t : ℕ) (c : ClientState) (us : List Frame) → c.locks ≡ (client_of l t).locks → c.arrived ≡ (client_of l t).arrived → IsHeeding l
    → IsHeeding (with_line t (record (l.lines t) { client = c; up = us }) l)
client-heeds l t c us locks came h =
    line-heeds l t (record (l.lines t) { client = c; up = us })
    (λ r b up. alike-heeds (view l t) (view_with l.hub (record (l.lines t) { client = c; up = us }) t) t b (ap (λ z. z ++ (l.lines t).down ++ outputs_to t l.hub.outputs) came) refl locks (h b t up r)) h

-- The library afterwards is that of a run.
abbrev pub Heeding : Library → Type 0
Heeding m = IsReached m → IsHeeding m

line-queries : (l : Library) (t : ℕ) (y : Line) → IsReached (with_line t y l) → AreQueries y.client.locks
line-queries l t y r = subst (λ b. AreQueries (cond b y (l.lines t)).client.locks) (eq-eqb t t refl) (reached-queries (with_line t y l) t r)

-- Commands

-- The locks after a command
record Commands (a c : TabState) : Type 0 where
  entered : c.entered ≡ a.entered
  queried : (k : ℕ) → is_querying (status_of c k) ≡ true → (status_of c k ≡ status_of a k) ⊎ ((k ≡ length a.issued) × (status_of c k ≡ Some (Querying no_parts)))
  asked_before : (k : ℕ) → k ≢ length a.issued → is_asked (status_of c k) ≡ true → is_asked (status_of a k) ≡ true

issue-commands : (o : Operation) (s : Status) (a : TabState) → (is_querying (Some s) ≡ true → Some s ≡ Some (Querying no_parts)) → Commands a (issue o s a)
unfolding issue
issue-commands o s a g =
    let n = length a.issued in
    let here = find-put_same n s a.statuses in
    record {
      entered = refl;
      queried = λ k e. ⊎_elim
          (λ f. inr (f, subst (λ z. find (put n s a.statuses) z ≡ Some (Querying no_parts)) (sym f) (here ∙ g (ap is_querying (sym here) ∙ (ap (λ z. is_querying (find (put n s a.statuses) z)) (sym f) ∙ e)))))
          (λ d. inl (find-put_other n s a.statuses k d)) (cases_eq k n);
      asked_before = λ k d e. ap is_asked (sym (find-put_other n s a.statuses k d)) ∙ e;
    }

finish-commands : (o : Operation) (n : ℕ) (a : TabState) → Commands a (finish o n a)
unfolding finish
finish-commands o n a = record {
  entered = refl;
  queried = λ k e. inl (subst (λ z. is_querying z ≡ true → z ≡ find a.statuses k) (sym (find-without n k a.statuses))
      (either (λ (z : Option Status). is_querying z ≡ true → z ≡ find a.statuses k) (n == k) None (find a.statuses k) (λ _ q. apart q refl) (λ _ _. refl)) e);
  asked_before = λ k d e. subst (λ z. is_asked z ≡ true → is_asked (find a.statuses k) ≡ true) (sym (find-without n k a.statuses))
      (either (λ (z : Option Status). is_asked z ≡ true → is_asked (find a.statuses k) ≡ true) (n == k) None (find a.statuses k) (λ _ q. apart q refl) (λ _ q. q)) e;
}

commanded-heeds : (v : View) (t : ℕ) (b : BrokerState) (c : TabState) → Commands v.client.locks c → ((k : ℕ) → is_querying (status_of c k) ≡ true → operation_of c k ≡ Query) → Serves v t b → Heeds v t b
    → Heeds (record v { client = record v.client { locks = c } }) t b
commanded-heeds v t b c z queries serves h =
    let low : (f : Frame) → In f v.down → is_answer_in b.generation f ≡ true → next_of b t ≤ length v.client.locks.issued = λ f i y. (serves.kept (serves.answers f i y)).issued in
    record {
      answers = λ x i g.
          let o = h.answers x i g in
          let lt = o.1 in
          let le = low (frame.Answer x) i (eq-eqb x.generation b.generation g) in
          (o.0, o.1, λ gone e. o.2 gone (z.asked_before x.number (λ f. omega (arith, lt, le, f)) e));
      snapshots = h.snapshots;
      fit = λ k ps e. ⊎_elim
          (λ s. h.fit k ps (sym s ∙ e))
          (λ s. fit-away b.generation k v.down ps (λ x i g f. let lt = h.snapshots x i g in let le = low (frame.Snapshot x) i (eq-eqb x.generation b.generation g) in let n = s.0 in omega (arith, lt, le, f, n)))
          (z.queried k (ap is_querying e));
      queries = queries;
      unheard = λ e k le q. ⊎_elim (λ s. s ∙ h.unheard (sym z.entered ∙ e) k le (ap is_querying (sym s) ∙ q)) (λ s. s.1) (z.queried k q);
    }

-- The steps

module _ (l : Library) (t : ℕ) (resting : IsResting l) (h : IsHeeding l) where
  abbrev c : ClientState
  c = client_of l t

  abbrev with_client : ClientState → Library
  with_client d = with_line t (record (l.lines t) { client = d }) l

  idle : Heeding (with_client c)
  idle r = client-heeds l t c (l.lines t).up refl refl h

  command-line : (F : TabState → TabState) → Commands c.locks (F c.locks) → Heeding (with_client (after_command F c))
  command-line F z r =
      let q = line-queries l t (record (l.lines t) { client = after_command F c }) r in
      line-heeds l t (record (l.lines t) { client = after_command F c })
      (λ run b up. alike-heeds (record (view l t) { client = record (view l t).client { locks = F c.locks } }) (view_with l.hub (record (l.lines t) { client = after_command F c }) t) t b refl refl refl
      (commanded-heeds (view l t) t b (F c.locks) z (λ k e. (q.queries k e).1) (resting.serving b t up run) (h b t up run))) h

  pub ask-heeds : (mode : Mode) (b : Bool) (name : List ℕ) → Heeding (step (Asks t mode b name) l)
  unfolding step
  ask-heeds mode b name =
      either Heeding (runs l t) (with_client (asks mode b name c)) l
      (λ _. either (λ (z : ClientState). Heeding (with_client z)) (is_some (call_refusal (ask_refusal c.locks name) c)) c (after_command (asked mode b name) c)
      (λ _. idle) (λ _. command-line (asked mode b name) (issue-commands (Request mode b name) Asked c.locks (λ e. apart e refl))))
      (λ _ _. h)

  pub query-heeds : Heeding (step (Queries t) l)
  unfolding step
  query-heeds =
      either Heeding (runs l t) (with_client (queries c)) l
      (λ _. either (λ (z : ClientState). Heeding (with_client z)) (is_some (call_refusal (query_refusal c.locks) c)) c (after_command queried c)
      (λ _. idle) (λ _. command-line queried (issue-commands Query (Querying no_parts) c.locks (λ _. refl))))
      (λ _ _. h)

  ending-heeds : (F : TabState → TabState) (test : Bool) → Commands c.locks (F c.locks) → Heeding (cond (runs l t) (with_client (cond (is_some (call_refusal None c)) c (cond test (after_command F c) c))) l)
  ending-heeds F test z =
      either Heeding (runs l t) (with_client (cond (is_some (call_refusal None c)) c (cond test (after_command F c) c))) l
      (λ _. either (λ (z : ClientState). Heeding (with_client z)) (is_some (call_refusal None c)) c (cond test (after_command F c) c)
      (λ _. idle) (λ _. either (λ (z : ClientState). Heeding (with_client z)) test (after_command F c) c (λ _. command-line F z) (λ _. idle)))
      (λ _ _. h)

  pub abort-heeds : (k : ℕ) → Heeding (step (Aborts t k) l)
  unfolding step
  abort-heeds k = ending-heeds (aborted k) (is_pending c.locks k && is_asked (status_of c.locks k)) (finish-commands (Abort k) k c.locks)

  pub release-heeds : (k : ℕ) → Heeding (step (Releases t k) l)
  unfolding step
  release-heeds k = ending-heeds (released k) (is_holding c.locks k) (finish-commands (Release k) k c.locks)

  pub post-heeds : (k : ℕ) (bytes : List ℕ) → IsHeeding (step (Posts t k bytes) l)
  unfolding step
  post-heeds k bytes =
      either IsHeeding (runs l t) (with_client (posts k bytes c)) l
      (λ _. either (λ (z : ClientState). IsHeeding (with_client z)) (is_some (channel_refusal (posting_refusal k bytes c.channels) c)) c (after_post k bytes c)
      (λ _. client-heeds l t c (l.lines t).up refl refl h) (λ _. client-heeds l t (after_post k bytes c) (l.lines t).up refl refl h))
      (λ _. h)

  pub resend-heeds : IsHeeding (step (Resends t) l)
  unfolding step
  resend-heeds =
      let d = record c { unsent = c.unsent ++ unsent.Resend ∷ [] } in
      either IsHeeding (runs l t) (with_client (resends c)) l
      (λ _. either (λ (z : ClientState). IsHeeding (with_client z)) (is_some (call_refusal None c)) c d
      (λ _. client-heeds l t c (l.lines t).up refl refl h) (λ _. client-heeds l t d (l.lines t).up refl refl h))
      (λ _. h)

  -- A tab that was taken over is not spoken of.
  pub forge-heeds : (f : Frame) → IsHeeding (step (Forges t f) l)
  unfolding step
  forge-heeds f =
      let us = (l.lines t).up ++ f ∷ [] in
      either IsHeeding (is_taken l t && lives l t) (with_line t (record (l.lines t) { up = us }) l) l (λ _. client-heeds l t c us refl refl h) (λ _. h)

  -- What is sent

  abbrev Alike : ClientState → ClientState → Type 0
  Alike d e = (d.locks ≡ e.locks) × (d.arrived ≡ e.arrived)

  item-alike : (us : List Unsent) (d : ClientState) → Alike (sending_item us d).client d
  item-alike [] d = (refl, refl)
  item-alike (unsent.Resend ∷ us) d = (refl, refl)
  item-alike (unsent.Command k ∷ us) d = (refl, refl)
  item-alike (unsent.Post f ∷ us) d = (refl, refl)

  due-alike : (ks : List ℕ) (d : ClientState) → Alike (sending_due ks d).client d
  due-alike [] d = item-alike d.unsent d
  due-alike (k ∷ ks) d = (refl, refl)

  report-alike : (fs : List Frame) (d : ClientState) → Alike (sending_report fs d).client d
  report-alike [] d = due-alike d.due d
  report-alike (f ∷ fs) d = (refl, refl)

  pub send-heeds : IsHeeding (step (ClientSends t) l)
  unfolding step
  send-heeds =
      let o = report-alike c.report c in
      let us = followed_by (l.lines t).up (sending c).frame in
      either IsHeeding (runs l t) (with_line t (record (l.lines t) { client = (sending c).client; up = us }) l) l (λ _. client-heeds l t (sending c).client us o.0 o.1 h) (λ _. h)

  -- A frame is handled

  pub client_advance-heeds : IsReached l → Heeding (step (ClientAdvances t) l)
  unfolding step
  client_advance-heeds x =
      either Heeding (runs l t) (with_client (client_advanced c)) l
      (λ _ r. line-heeds l t (record (l.lines t) { client = client_advanced c })
      (λ run b up. handled run b up (line-queries l t (record (l.lines t) { client = client_advanced c }) r) (cases_Bool c.is_welcomed)) h)
      (λ _ _. h)
    where
      head-same : (f g : Frame) (fs gs : List Frame) → f ∷ fs ≡ g ∷ gs → f ≡ g
      head-same f g fs gs e = cc

      welcomes : runs l t ≡ true → (b : BrokerState) → l.hub.supervised.broker ≡ Some b → c.is_welcomed ≡ false → (fs : List Frame) → c.arrived ≡ fs
          → Heeds (view_with l.hub (record (l.lines t) { client = client_advanced c }) t) t b
      welcomes run b up n [] a = subst (λ z. Heeds (view_with l.hub (record (l.lines t) { client = z }) t) t b) (sym (ap (λ zs. after_first zs c) a)) (h b t up run)
      welcomes run b up n (f ∷ fs) a =
          let k = (resting.fresh t run).welcome n in
          welcome-heeds l (world_of l x) t (reached-sim l x) resting b run up (reached-queries l t x) (h b t up run) f fs k.2 a n
          (ap welcome_of (head-same f k.0 _ k.1 (sym (first-down l t f fs a) ∙ k.3)) ∙ k.4)

      handled : runs l t ≡ true → (b : BrokerState) → l.hub.supervised.broker ≡ Some b → AreQueries (client_advanced c).locks → (c.is_welcomed ≡ true) ⊎ (c.is_welcomed ≡ false)
          → Heeds (view_with l.hub (record (l.lines t) { client = client_advanced c }) t) t b
      handled run b up q o =
          ⊎_elim
          (λ y. advance-heeds l (world_of l x) t (reached-sim l x) resting b run up (reached-queries l t x) (h b t up run) (λ k e. (q.queries k e).1) y)
          (λ n. welcomes run b up n c.arrived refl) o
