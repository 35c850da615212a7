-- Acts of one tab within its generation keep a world sound.
use Rattle.std.proofs.Common.{◌≡◌, ◌≢◌, ◌⊎◌, inl, inr, ⊎_elim, ℕ, ◌+◌, ◌<◌, ◌≤◌, Bool, true, false, cond, not, ◌&&◌, List, [], ◌∷◌, ◌++◌, length, length-append, map, filter, get_or, Some, is_some, refl, sym, ap, ◌∙◌, subst, arith, lt_of_lt_of_le, le_refl}
use Rattle.std.specs.Prelude.{◌==◌}
use Rattle.std.proofs.lemmas.Bool.{and_parts, eqb-false, not-true}
use Rattle.std.proofs.lemmas.List.{get_or_append_left, get_or_push}
use Rattle.wl_draft.specs.declared.mode.Mode.{Mode}
use Rattle.wl_draft.specs.declared.row.Row.{Row}
use Rattle.wl_draft.specs.Tables.{Table, find, put, Rises, without_row}
use Rattle.wl_draft.specs.Locks.{held_of, waiting_of}
use Rattle.wl_draft.proofs.RisingTables.{Rises-put, Rises-filter}
use Rattle.wl_grammar.specs.declared.frame.Operation.{Operation}
use Rattle.wl_grammar.specs.declared.frame.Operation.TheVariants.{Request, Release, Abort, Query}
use Rattle.wl_broker.specs.Broker.{is_lock}
use Rattle.wl_agent.specs.declared.status.Status.{Status}
use Rattle.wl_agent.specs.declared.status.Status.TheVariants.{Asked, Querying}
use Rattle.wl_agent.specs.SnapshotParts.{no_parts}
use Rattle.wl_agent.specs.Tab.{TabState, report_bodies, status_of, operation_of, numbers_of, is_asked, is_held, issue, finish, asked, queried, aborted, released, ask_refusal, query_refusal, due, is_due, is_report_due}
use Rattle.wl_agent.specs.Tokens.{is_pending, is_holding}
use Rattle.wl_kernel.specs.Routes.{hearers}
use Rattle.wl_world_messages.specs.declared.message.Message.{Message}
use Rattle.wl_world_messages.specs.Messages.{sent_all}
use Rattle.wl_draft.specs.Membership.{In}
use Rattle.wl_draft.proofs.Membership.{apart, either, In-nil, In-append_cases, In-one, In-map_cases, In-filter_cases}
use Rattle.wl_world_messages.proofs.Same.{sent_all-keeps, sent_all-cases}
use Rattle.wl_tab.specs.Tabs.{tab_in}
use Rattle.wl_world_model.specs.declared.event.Forged.{Forged}
use Rattle.wl_world_model.specs.declared.event.Forged.TheVariants as forged
use Rattle.wl_world_model.specs.World.{WorldState, tab_of, lives, partition_of, StepResult, unchanged, if_allowed, acts, issues_command, asks, queries, aborts, releases, resends, is_corrupt, forges}
use Rattle.wl_world_model.specs.Sends.{across, command_message, forgery, report_messages, resent, stamped}
use Rattle.wl_world_model.specs.Holdings.{IsHonest}
use Rattle.wl_world_model.proofs.Tables.{each_found}
use Rattle.wl_world_model.proofs.exclusion.Invariant.{Sound, SoundTab, was_opened, Alive, HasGrant, IsKnown, Ends, lock}
use Rattle.wl_world_model.proofs.exclusion.ToldParts.{In-range}
use Rattle.wl_world_model.proofs.exclusion.CoverExcludes.{living_opened, asked_alive, held_alive}
use Rattle.wl_world_model.proofs.exclusion.GrownTabs.{tab_at, Grows, row-grows, FromTab, said-body, GrownTab, same-tab, grown-sound}
use Rattle.wl_world_model.proofs.exclusion.HeardNumbers.{LiveCommand, without_row-fewer, Fewer-held, filtered-fewer}

-- The world after a deed, with its messages in the bag.
abbrev pub after : WorldState → StepResult → WorldState
after w d = record d.world { bag = sent_all d.sends w.bag }

pub allowed-sound : (w : WorldState) (b : Bool) (d : StepResult) → Sound w → (b ≡ true → Sound (after w d)) → Sound (after w (if_allowed b w d))
allowed-sound w b d s f = either (λ x. Sound (after w x)) b d (unchanged w) f (λ _. s)

-- A property holds of every tab if it holds of the replaced tab and of all others.
pub each_tab : (P : ℕ → TabState → Type 0) (t : ℕ) (y : TabState) (ts : Table TabState) → P t y → ((u : ℕ) → t ≢ u → P u (tab_at ts u)) → (u : ℕ) → P u (tab_at (put t y ts) u)
each_tab P t y ts now elsewhere u = each_found (λ j o. P j (tab_in j o)) t y ts now elsewhere u

pub Grows-same : (xs ys : List Operation) → ys ≡ xs → Grows xs ys
Grows-same xs ys e = subst (Grows xs) (sym e) (le_refl (length xs), λ k lt. refl)

pub Grows-push : (xs : List Operation) (c : Operation) → Grows xs (xs ++ c ∷ [])
Grows-push xs c = (omega (arith, length-append xs (c ∷ [])), λ k lt. get_or_append_left xs (c ∷ []) Query k lt)

-- A world stays sound when an opened tab goes on within its generation and sends messages.
pub grows-sound : (w : WorldState) (t : ℕ) (y : TabState) (ms : List Message) → Sound w → was_opened w t ≡ true → GrownTab w t y → ((m : Message) → In m ms → FromTab (IsHonest w t) t (partition_of w t) y m)
    → Sound (after w (acts w t y ms))
unfolding acts
grows-sound w t y ms s o grown sends = grown-sound w s (put t y w.tabs) (sent_all ms w.bag) (each_tab (GrownTab w) t y w.tabs grown (λ u n. same-tab w s u)) (λ m i. sent_all-keeps ms w.bag i)
    (λ m i. ⊎_elim (λ a. inl a) (λ b. inr (t, o, each_tab (λ u z. t ≡ u → FromTab (IsHonest w t) t (partition_of w t) z m) t y w.tabs (λ _. sends m b) (λ u n e. absurd (n e)) t refl)) (sent_all-cases ms w.bag i))

-- One more command

abbrev extended : Operation → Table Status → TabState → TabState
extended c rows x = record x { issued = x.issued ++ c ∷ []; statuses = rows }

abbrev EndsBy : Operation → ℕ → Type 0
EndsBy c j = (Release j ≡ c) ⊎ (Abort j ≡ c)

module _ (t : ℕ) (x : TabState) (sx : SoundTab t x) (c : Operation) (rows : Table Status)
    (rises : Rises 0 rows)
    (ender : (j : ℕ) → EndsBy c j → j < length x.issued)
    (live : (j : ℕ) → Alive (find rows j) → ((j ≡ length x.issued) × (is_lock c ≡ true) × (EndsBy c j → ⊥)) ⊎ (Alive (status_of x j) × (EndsBy c j → ⊥))) where
  longer : length (x.issued ++ c ∷ []) ≡ length x.issued + 1
  longer = length-append x.issued (c ∷ [])

  ender-cases : (j : ℕ) → Ends (x.issued ++ c ∷ []) j → Ends x.issued j ⊎ EndsBy c j
  ender-cases j (inl i) = ⊎_elim (λ a. inl (inl a)) (λ b. inr (inl (In-one b))) (In-append_cases x.issued (c ∷ []) i)
  ender-cases j (inr i) = ⊎_elim (λ a. inl (inr a)) (λ b. inr (inr (In-one b))) (In-append_cases x.issued (c ∷ []) i)

  extended-issued : (j : ℕ) → Alive (find rows j) → j < length (x.issued ++ c ∷ [])
  extended-issued j a = ⊎_elim
      (λ e. let n : j ≡ length x.issued = e.0 in omega (arith, longer))
      (λ o. let lt : j < length x.issued = sx.issued j o.0 in omega (arith, longer))
      (live j a)

  extended-lock : (j : ℕ) → Alive (find rows j) → is_lock (operation_of (extended c rows x) j) ≡ true
  extended-lock j a = ⊎_elim
      (λ e. ap is_lock (get_or_push x.issued c Query j (sym e.0)) ∙ e.1)
      (λ o. ap is_lock (get_or_append_left x.issued (c ∷ []) Query j (sx.issued j o.0)) ∙ sx.lock j o.0)
      (live j a)

  extended-unended : (j : ℕ) → Alive (find rows j) → Ends (x.issued ++ c ∷ []) j → ⊥
  extended-unended j a i = ⊎_elim
      (λ e. ⊎_elim (λ o. let lt : j < length x.issued = sx.ends j o in let n : j ≡ length x.issued = e.0 in omega arith) (λ o. e.2 o) (ender-cases j i))
      (λ e. ⊎_elim (λ o. sx.unended j e.0 o) (λ o. e.1 o) (ender-cases j i))
      (live j a)

  extended-ends : (j : ℕ) → Ends (x.issued ++ c ∷ []) j → j < length (x.issued ++ c ∷ [])
  extended-ends j i = ⊎_elim
      (λ o. let lt : j < length x.issued = sx.ends j o in omega (arith, longer))
      (λ o. let lt : j < length x.issued = ender j o in omega (arith, longer))
      (ender-cases j i)

  extended-told : (r : Row) → In r (held_of t x.report.entries) ⊎ In r (waiting_of t x.report.entries) → IsKnown t (extended c rows x) r
  extended-told r i = let o = sx.told r i in (o.0 ∙ sym (row-grows t r.number x (extended c rows x) (Grows-push x.issued c) o.1), lt_of_lt_of_le o.1 (Grows-push x.issued c).0)

  extended-sound : SoundTab t (extended c rows x)
  extended-sound = record { issued = extended-issued; lock = extended-lock; unended = extended-unended; ends = extended-ends; told = extended-told; first = sx.first; own = sx.own; rises = rises }

  extended-alive : (j : ℕ) → Alive (find rows j) → Alive (status_of x j) ⊎ (length x.issued ≤ j)
  extended-alive j a = ⊎_elim (λ e. inr (let n : j ≡ length x.issued = e.0 in omega arith)) (λ o. inl o.0) (live j a)

command-said : (w : WorldState) (t : ℕ) (y : TabState) (n : ℕ) → n < length y.issued → FromTab (IsHonest w t) t (partition_of w t) y (command_message w.kernel t y n)
command-said w t y n lt = (refl, refl, λ _. (lt, refl))

pub issued-sends : (w : WorldState) (t : ℕ) (y : TabState) (n : ℕ) → n < length y.issued → (m : Message) → In m (cond (y.entered == 0) [] (command_message w.kernel t y n ∷ [])) → FromTab (IsHonest w t) t (partition_of w t) y m
issued-sends w t y n lt m i =
    either (λ zs. In m zs → FromTab (IsHonest w t) t (partition_of w t) y m) (y.entered == 0) [] (command_message w.kernel t y n ∷ [])
    (λ _ j. absurd (In-nil j))
    (λ _ j. subst (FromTab (IsHonest w t) t (partition_of w t) y) (sym (In-one j)) (command-said w t y n lt))
    i

-- A world stays sound when a tab issues command `c` and gets the statuses `rows`.
extends-sound : (w : WorldState) (t : ℕ) → Sound w → lives w t ≡ true → (c : Operation) (rows : Table Status)
    → Rises 0 rows
    → ((j : ℕ) → EndsBy c j → j < length (tab_of w t).issued)
    → ((j : ℕ) → Alive (find rows j) → ((j ≡ length (tab_of w t).issued) × (is_lock c ≡ true) × (EndsBy c j → ⊥)) ⊎ (Alive (status_of (tab_of w t) j) × (EndsBy c j → ⊥)))
    → ((j : ℕ) → is_held (find rows j) ≡ true → is_held (status_of (tab_of w t) j) ≡ true)
    → Sound (after w (issues_command w t (extended c rows (tab_of w t))))
extends-sound w t s l c rows rises ender live held =
    let x = tab_of w t in
    grows-sound w t (extended c rows x) _ s (living_opened _ l)
    (record {
      entered = refl;
      report = refl;
      in_parts = λ _. refl;
      more = Grows-push x.issued c;
      sound = extended-sound t x (s.tabs t).state c rows rises ender live;
      unopened = λ e. apart (living_opened _ l) e;
      alive = extended-alive t x (s.tabs t).state c rows rises ender live;
      held = λ j h. inl (held j h);
    })
    (issued-sends w t (extended c rows x) (length x.issued) (omega (arith, length-append x.issued (c ∷ []))))

-- A world stays sound when a tab issues a command that ends no other.
issue-sound : (w : WorldState) (t : ℕ) → Sound w → lives w t ≡ true → (c : Operation) (st : Status) → ((j : ℕ) → EndsBy c j → ⊥) → (Alive (Some st) → is_lock c ≡ true) → is_held (Some st) ≡ false
    → Sound (after w (issues_command w t (issue c st (tab_of w t))))
unfolding issue
issue-sound w t s l c st none is unheld =
    let x = tab_of w t in
    extends-sound w t s l c (put (length x.issued) st x.statuses)
    (Rises-put 0 (length x.issued) st x.statuses (omega arith) (s.tabs t).state.rises)
    (λ j e. absurd (none j e))
    (each_found (λ j o. Alive o → ((j ≡ length x.issued) × (is_lock c ≡ true) × (EndsBy c j → ⊥)) ⊎ (Alive (status_of x j) × (EndsBy c j → ⊥))) (length x.issued) st x.statuses
    (λ a. inl (refl, is a, none (length x.issued))) (λ j n a. inr (a, none j)))
    (each_found (λ j o. is_held o ≡ true → is_held (status_of x j) ≡ true) (length x.issued) st x.statuses (λ h. apart h unheld) (λ j n h. h))

request-ends_none : (mode : Mode) (if_available : Bool) (name : List ℕ) (j : ℕ) → EndsBy (Request mode if_available name) j → ⊥
request-ends_none mode b name j e = ⊎_elim (λ a. cc) (λ a. cc) e

query-ends_none : (j : ℕ) → EndsBy Query j → ⊥
query-ends_none j e = ⊎_elim (λ a. cc) (λ a. cc) e

pub asks-sound : (w : WorldState) (t : ℕ) (mode : Mode) (if_available : Bool) (name : List ℕ) → Sound w → Sound (after w (asks w t mode if_available name))
asks-sound w t mode b name s =
    allowed-sound w (lives w t && not (is_some (ask_refusal (tab_of w t) name))) (issues_command w t (asked mode b name (tab_of w t))) s
    (λ g. issue-sound w t s (and_parts _ _ g).0 (Request mode b name) Asked (request-ends_none mode b name) (λ _. refl) refl)

pub queries-sound : (w : WorldState) (t : ℕ) → Sound w → Sound (after w (queries w t))
queries-sound w t s =
    allowed-sound w (lives w t && not (is_some (query_refusal (tab_of w t)))) (issues_command w t (queried (tab_of w t))) s
    (λ g. issue-sound w t s (and_parts _ _ g).0 Query (Querying no_parts) query-ends_none (λ a. apart a refl) refl)

-- A world stays sound when a tab issues a command that ends a live number.
finish-sound : (w : WorldState) (t k : ℕ) → Sound w → lives w t ≡ true → Alive (status_of (tab_of w t) k) → (c : Operation) → ((j : ℕ) → EndsBy c j → j ≡ k)
    → Sound (after w (issues_command w t (finish c k (tab_of w t))))
unfolding finish
finish-sound w t k s l a c only =
    let x = tab_of w t in
    let r : Rises 0 x.statuses = (s.tabs t).state.rises in
    extends-sound w t s l c (without_row k x.statuses)
    (Rises-filter (λ row. not (row.0 == k)) 0 x.statuses r)
    (λ j e. subst (λ z. z < length x.issued) (sym (only j e)) ((s.tabs t).state.issued k a))
    (λ j b. let o = without_row-fewer k x.statuses r j b in inr (o.0, λ e. o.1 (only j e)))
    (λ j h. Fewer-held (without_row k x.statuses) x.statuses (filtered-fewer (λ row. not (row.0 == k)) x.statuses r) j h)

abort-ends : (k j : ℕ) → EndsBy (Abort k) j → j ≡ k
abort-ends k j e = ⊎_elim (λ a. cc) (λ a. cc) e

release-ends : (k j : ℕ) → EndsBy (Release k) j → j ≡ k
release-ends k j e = ⊎_elim (λ a. cc) (λ a. cc) e

pub aborts-sound : (w : WorldState) (t k : ℕ) → Sound w → Sound (after w (aborts w t k))
aborts-sound w t k s =
    allowed-sound w (lives w t && is_pending (tab_of w t) k && is_asked (status_of (tab_of w t) k)) (issues_command w t (aborted k (tab_of w t))) s
    (λ g. finish-sound w t k s (and_parts _ _ (and_parts _ _ g).0).0 (asked_alive (status_of (tab_of w t) k) (and_parts _ _ g).1) (Abort k) (abort-ends k))

pub releases-sound : (w : WorldState) (t k : ℕ) → Sound w → Sound (after w (releases w t k))
releases-sound w t k s =
    allowed-sound w (lives w t && is_holding (tab_of w t) k) (issues_command w t (released k (tab_of w t))) s
    (λ g. finish-sound w t k s (and_parts _ _ g).0 (held_alive _ (and_parts _ _ g).1) (Release k) (release-ends k))

-- Sending again

pub In-numbers : (x : TabState) (k : ℕ) → In k (numbers_of x) → k < length x.issued
In-numbers x k i = let lt : k < 0 + length x.issued = In-range 0 (length x.issued) k i in omega arith

due-said : (w : WorldState) (t : ℕ) (x : TabState) (m : Message) → In m (map (command_message w.kernel t x) (due x)) → FromTab (IsHonest w t) t (partition_of w t) x m
unfolding due
due-said w t x m i =
    let o = In-map_cases (command_message w.kernel t x) (cond (x.entered == 0) [] (filter (is_due x) (numbers_of x))) i in
    either (λ zs. In o.0 zs → FromTab (IsHonest w t) t (partition_of w t) x m) (x.entered == 0) [] (filter (is_due x) (numbers_of x))
    (λ _ j. absurd (In-nil j))
    (λ _ j. subst (FromTab (IsHonest w t) t (partition_of w t) x) (sym o.2) (command-said w t x o.0 (In-numbers x o.0 (In-filter_cases (is_due x) (numbers_of x) j).0)))
    o.1

pub reports-said : (w : WorldState) (t : ℕ) (x : TabState) (m : Message) → 0 < x.entered → In m (report_messages w.kernel t x) → FromTab (IsHonest w t) t (partition_of w t) x m
reports-said w t x m pos i =
    let o = In-map_cases (stamped w.kernel t) (report_bodies x.in_parts x.report) i in
    subst (FromTab (IsHonest w t) t (partition_of w t) x) (sym o.2) (refl, refl, λ _. said-body x o.0 pos o.1)

report-said : (w : WorldState) (t : ℕ) (x : TabState) (m : Message) → In m (cond (is_report_due x) (report_messages w.kernel t x) []) → FromTab (IsHonest w t) t (partition_of w t) x m
report-said w t x m i =
    either (λ zs. In m zs → FromTab (IsHonest w t) t (partition_of w t) x m) (is_report_due x) (report_messages w.kernel t x) []
    (λ d j. let n : x.entered ≢ 0 = eqb-false x.entered 0 (not-true _ (and_parts _ _ d).0) in reports-said w t x m (omega arith) j)
    (λ _ j. absurd (In-nil j))
    i

pub resent-said : (w : WorldState) (t : ℕ) (x : TabState) (m : Message) → In m (resent w.kernel t x) → FromTab (IsHonest w t) t (partition_of w t) x m
resent-said w t x m i = ⊎_elim (λ a. report-said w t x m a) (λ a. due-said w t x m a) (In-append_cases _ (map (command_message w.kernel t x) (due x)) i)

-- A world stays sound when an opened tab sends messages without changing its state.
sends-sound : (w : WorldState) (t : ℕ) (ms : List Message) → Sound w → was_opened w t ≡ true → ((m : Message) → In m ms → FromTab (IsHonest w t) t (partition_of w t) (tab_of w t) m) → Sound (record w { bag = sent_all ms w.bag })
sends-sound w t ms s o from =
    grown-sound w s w.tabs (sent_all ms w.bag) (same-tab w s) (λ m i. sent_all-keeps ms w.bag i) (λ m i. ⊎_elim (λ a. inl a) (λ b. inr (t, o, from m b)) (sent_all-cases ms w.bag i))

pub resends-sound : (w : WorldState) (t : ℕ) → Sound w → Sound (after w (resends w t))
resends-sound w t s =
    allowed-sound w (lives w t) (record { world = w; sends = resent w.kernel t (tab_of w t) }) s
    (λ l. sends-sound w t (resent w.kernel t (tab_of w t)) s (living_opened _ l) (resent-said w t (tab_of w t)))

-- Arrivals

kept-sound : (t : ℕ) (x y : TabState) (G : ℕ → Type 0) → SoundTab t x → LiveCommand x y G → SoundTab t y
kept-sound t x y G sx c = record {
  issued = λ k a. subst (λ zs. k < length zs) (sym c.issued) (sx.issued k (c.alive k a));
  lock = λ k a. subst (λ zs. is_lock (get_or zs k Query) ≡ true) (sym c.issued) (sx.lock k (c.alive k a));
  unended = λ k a i. sx.unended k (c.alive k a) (subst (λ zs. Ends zs k) c.issued i);
  ends = λ k i. subst (λ zs. k < length zs) (sym c.issued) (sx.ends k (subst (λ zs. Ends zs k) c.issued i));
  told = λ r i.
      let o = sx.told r (subst (λ z. In r (held_of t z.entries) ⊎ In r (waiting_of t z.entries)) c.report i) in
      (subst (λ zs. r ≡ lock t r.number (get_or zs r.number Query)) (sym c.issued) o.0, subst (λ zs. r.number < length zs) (sym c.issued) o.1);
  first = λ e. ap (λ z. z.entries) c.report ∙ sx.first (sym c.entered ∙ e);
  own = ap (λ z. z.generation) c.report ∙ sx.own ∙ sym c.entered;
  rises = c.rises;
}

-- A world stays sound when a tab takes a frame of its generation and sends nothing.
pub heard-sound : (w : WorldState) (t : ℕ) (y : TabState) (G : ℕ → Type 0) → Sound w → lives w t ≡ true → LiveCommand (tab_of w t) y G → ((k : ℕ) → G k → HasGrant w.bag t (tab_of w t).entered k) → Sound (after w (acts w t y []))
heard-sound w t y G s l c grant =
    grows-sound w t y [] s (living_opened _ l)
    (record {
      entered = c.entered;
      report = c.report;
      in_parts = λ _. c.in_parts;
      more = Grows-same _ _ c.issued;
      sound = kept-sound t (tab_of w t) y G (s.tabs t).state c;
      unopened = λ e. apart (living_opened _ l) e;
      alive = λ k a. inl (c.alive k a);
      held = λ k h. ⊎_elim (λ a. inl a) (λ g. inr (grant k g)) (c.held k h);
    })
    (λ m i. absurd (In-nil i))

-- Forging

-- A forged message satisfies `FromTab`, since its tab is not honest.
pub forgery-said : (w : WorldState) (t : ℕ) (x : Forged) → is_corrupt w t ≡ true → (m : Message) → In m (forgery w.kernel t x) → FromTab (IsHonest w t) t (partition_of w t) (tab_of w t) m
forgery-said w t (forged.Upward x) c m i = subst (FromTab (IsHonest w t) t (partition_of w t) (tab_of w t)) (sym (In-one i)) (refl, refl, λ h. apart c h)
forgery-said w t (forged.Post p) c m i = let o = In-map_cases (across t p) (hearers t w.kernel) i in subst (FromTab (IsHonest w t) t (partition_of w t) (tab_of w t)) (sym o.2) tt

pub forges-sound : (w : WorldState) (t : ℕ) (x : Forged) → Sound w → Sound (after w (forges w t x))
forges-sound w t x s =
    allowed-sound w (is_corrupt w t && lives w t) (record { world = w; sends = forgery w.kernel t x }) s
    (λ l. sends-sound w t (forgery w.kernel t x) s (living_opened _ (and_parts _ _ l).1) (forgery-said w t x (and_parts _ _ l).0))
