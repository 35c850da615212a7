-- After every list of steps, the channels of a client are what the calls on them make.
use Rattle.std.proofs.Common.{◌≡◌, ◌≢◌, inl, inr, ⊎_elim, ℕ, Bool, true, false, cond, ◌&&◌, List, [], ◌∷◌, ◌++◌, append-nil, append_assoc, Option, Some, None, option_map, is_some, Result, Ok, Err, refl, sym, ap, ◌∙◌, subst}
use Rattle.std.specs.Prelude.{◌==◌}
use Rattle.std.proofs.lemmas.Bool.{cases_Bool, and_parts, eqb-true, eq-eqb, not-true}
use Rattle.wl_draft.specs.Membership.{In, Here}
use Rattle.wl_draft.proofs.Membership.{apart, either, by_test}
use Rattle.wl_grammar.specs.declared.frame.Frame.{Frame}
use Rattle.wl_grammar.specs.declared.frame.Frame.TheVariants as frame
use Rattle.wl_origin.specs.Order.{Pair}
use Rattle.wl_origin.specs.declared.fault.OriginFault.{OriginFault}
use Rattle.wl_broadcast.specs.Channels.{no_channels, opened}
use Rattle.wl_broadcast.specs.Heard.{Call, HearsOthers, after}
use Rattle.wl_broadcast.specs.Heard.{Opens as OpensOne, Posts as PostsOn, Reads as ReadsFrom, Closes as ClosesOne}
use Rattle.wl_broadcast.proofs.Gained.{closed_takes_nothing}
use Rattle.wl_broadcast.proofs.Rising.{takes_rising}
use Rattle.wl_kernel.specs.declared.fault.OpenFault.{OpenFault}
use Rattle.wl_kernel.specs.Kernel.{KernelState, is_opened, open_refusal as tab_refusal}
use Rattle.wl_client.specs.declared.client.Unsent.TheVariants as unsent
use Rattle.wl_client.specs.declared.fault.CallFault.{CallFault}
use Rattle.wl_grammar.specs.declared.frame.Heard.{Heard}
use Rattle.wl_client.specs.Client.{ClientState, call_refusal, after_command, after_abort, after_release, is_hello_of, after_delivery, after_frame, after_welcome, welcome_of, after_first}
use Rattle.wl_client.specs.Client.{advanced as client_advanced}
use Rattle.wl_hub.specs.declared.fault.OpenRefusal.TheVariants.{Tab}
use Rattle.wl_hub.specs.Hub.{page_refusal, page_opened}
use Rattle.wl_agent.specs.Tab.{status_of, is_asked, ask_refusal, query_refusal, asked, queried, aborted, released}
use Rattle.wl_agent.specs.Tokens.{is_pending, is_holding}
use Rattle.wl_world_model.specs.World.{WorldState, empty_world, run, lives, taken_over}
use Rattle.wl_world_model.proofs.exclusion.OpeningAndKilling.{not_opened}
use Rattle.wl_library_model.specs.Library.{Library, Line, Step, Opens, Closes, Restarts, Stops, HubReceives, HubAdvances, HubSends, Asks, Queries, Aborts, Releases, Resends, OpensChannel, Posts, Reads, ClosesChannel, TakesEvent, ClientReceives, ClientAdvances, ClientSends, TakesOver, Forges, new_library, new_line, with_line, with_hub, client_of, runs, unless, asks, queries, aborts, releases, resends, takes_event, hub_fed, hub_sends_from, is_due, client_fed, sending, followed_by, step, run_steps}
use Rattle.wl_library_model.specs.Library.{lives as lives_in, is_taken}
use Rattle.wl_library_model.specs.Events.{events_of}
use Rattle.wl_library_model.specs.Simulation.{ComesDown, IsOnItsWayDown}
use Rattle.wl_library_model.specs.Channels.{called_by, heard_by, handled_by, channel_calls_of, channel_calls_from, channel_calls, ChannelsAreCalls, HeardRising, HeardTillClosed}
use Rattle.wl_library_model.proofs.Happens.{run-later}
use Rattle.wl_library_model.proofs.Carried.{Sim}
use Rattle.wl_library_model.proofs.Links.{runs-opened}
use Rattle.wl_library_model.proofs.Simulated.{step-sim, empty-sim}
use Rattle.wl_library_model.proofs.ChannelSteps.{Told, Moves, moved-told, Stays, LineStays, stays-moves, line-stays, call-stays, unless-stays, choice-stays, report-stays, opens-moves, posts-moves, reads-moves, closes-moves}

-- The tab stays opened.
still-opened : (l : Library) (w : WorldState) (x : Step) (t : ℕ) → Sim l w → is_opened l.hub.supervised.kernel t ≡ true → is_opened (step x l).hub.supervised.kernel t ≡ true
still-opened l w x t s o =
    let v = run (events_of l x) w in
    let z = step-sim l w x s in
    subst (λ k. is_opened k t ≡ true) (sym z.hub.kernel) ((run-later (events_of l x) w s.good).opened t (subst (λ k. is_opened k t ≡ true) s.hub.kernel o)).0

-- A step after which the client has moved by its calls.
told-by : (l : Library) (w : WorldState) (x : Step) (t : ℕ) (cs ds : List Call) → Sim l w → Moves (client_of l t) (client_of (step x l) t) t ds → Told (client_of l t) l.hub.supervised.kernel t cs
    → Told (client_of (step x l) t) (step x l).hub.supervised.kernel t (cs ++ ds)
told-by l w x t cs ds s m o = moved-told (client_of l t) (client_of (step x l) t) l.hub.supervised.kernel (step x l).hub.supervised.kernel t cs ds (still-opened l w x t s) m o

told-stays : (l : Library) (w : WorldState) (x : Step) (t : ℕ) (cs : List Call) → Sim l w → LineStays l t (step x l) → Told (client_of l t) l.hub.supervised.kernel t cs
    → Told (client_of (step x l) t) (step x l).hub.supervised.kernel t (cs ++ [])
told-stays l w x t cs s y o = told-by l w x t cs [] s (stays-moves (client_of l t) (client_of (step x l) t) t y) o

-- Steps that change no channel

fed-stays : (l : Library) (t u n : ℕ) (fs : List Frame) → LineStays l t (hub_fed u n fs l)
fed-stays l t u n [] = line-stays l t u _ (refl, refl)
fed-stays l t u n (f ∷ fs) = (refl, refl)

sent-stays : (l : Library) (t : ℕ) (os : List (ℕ × Frame)) → LineStays l t (hub_sends_from os l)
sent-stays l t [] = (refl, refl)
sent-stays l t (o ∷ os) =
    let x = l.lines o.0 in
    let m = with_hub (record l.hub { outputs = os }) l in
    either (LineStays l t) (is_due l.hub o) (with_line o.0 (record x { down = x.down ++ o.1 ∷ [] }) m) m
    (λ _. line-stays l t o.0 _ (refl, refl))
    (λ _. (refl, refl))

client_fed-stays : (n : ℕ) (fs : List Frame) (x : Line) → Stays x.client (client_fed n fs x).client
client_fed-stays n [] x = (refl, refl)
client_fed-stays n (f ∷ fs) x = (refl, refl)

if-stays : (l m : Library) (t : ℕ) (b : Bool) → LineStays l t m → LineStays l t (cond b m l)
if-stays l m t b y = either (LineStays l t) b m l (λ _. y) (λ _. (refl, refl))

command-stays : (c : ClientState) (r : Option CallFault) (d : ClientState) → Stays c d → Stays c (unless r c d)
command-stays c r d y = unless-stays r c d y

-- Openings

opened-told : (l : Library) (w : WorldState) (t u : ℕ) (page : Result Pair OriginFault) (i : Bool) (cs : List Call) → Sim l w → Told (client_of l t) l.hub.supervised.kernel t cs
    → Told (client_of (step (Opens u page i) l) t) (step (Opens u page i) l).hub.supervised.kernel t (cs ++ [])
unfolding step
opened-told l w t u (Err f) i cs s o = told-stays l w (Opens u (Err f) i) t cs s (refl, refl) o
opened-told l w t u (Ok p) i cs s o = ⊎_elim
    (λ e. ⊎_elim
    (λ y. told-stays l w (Opens u (Ok p) i) t cs s (if-stays' y) o)
    (λ n. told-new e n)
    (cases_Bool (is_some (page_refusal u (Ok p) l.hub))))
    (λ d. told-stays l w (Opens u (Ok p) i) t cs s (elsewhere d) o)
    (cases_Bool (t == u))
  where
    if-stays' : is_some (page_refusal u (Ok p) l.hub) ≡ true → LineStays l t (step (Opens u (Ok p) i) l)
    if-stays' y = either (LineStays l t) (is_some (page_refusal u (Ok p) l.hub)) l (with_line u new_line (with_hub (page_opened u (Ok p) i l.hub) l)) (λ _. (refl, refl)) (λ n. apart y n)

    elsewhere : (t == u) ≡ false → LineStays l t (step (Opens u (Ok p) i) l)
    elsewhere d = either (LineStays l t) (is_some (page_refusal u (Ok p) l.hub)) l (with_line u new_line (with_hub (page_opened u (Ok p) i l.hub) l)) (λ _. (refl, refl))
        (λ _. either (λ (z : Line). Stays (client_of l t) z.client) (t == u) new_line (l.lines t) (λ e. apart e d) (λ _. (refl, refl)))

    -- The tab was not opened before, so its client has made no call.
    none-yet : t ≡ u → is_some (page_refusal u (Ok p) l.hub) ≡ false → cs ≡ []
    none-yet e n = ⊎_elim
        (λ y. apart (o.opened y) (subst (λ m. is_opened l.hub.supervised.kernel m ≡ false) (sym e) (not_opened l.hub.supervised.kernel u p (sym (some-mapped (open_refusal_of u)) ∙ n))))
        (λ y. o.unwelcomed y)
        (cases_Bool (client_of l t).is_welcomed)
      where
        open_refusal_of : ℕ → Option OpenFault
        open_refusal_of m = tab_refusal m p l.hub.supervised.kernel

        some-mapped : (r : Option OpenFault) → is_some (option_map Tab r) ≡ is_some r
        some-mapped None = refl
        some-mapped (Some f) = refl

    told-new : (t == u) ≡ true → is_some (page_refusal u (Ok p) l.hub) ≡ false → Told (client_of (step (Opens u (Ok p) i) l) t) (step (Opens u (Ok p) i) l).hub.supervised.kernel t (cs ++ [])
    told-new e n =
        let none = none-yet (eqb-true t u e) n in
        subst (λ (z : Library). Told (client_of z t) z.hub.supervised.kernel t (cs ++ [])) (sym (ap (λ b. cond b l (with_line u new_line (with_hub (page_opened u (Ok p) i l.hub) l))) n))
        (subst (λ b. Told (cond b new_line (l.lines t)).client (page_opened u (Ok p) i l.hub).supervised.kernel t (cs ++ [])) (sym e)
        (record { welcomed = λ y. apart y refl; opened = λ y. apart y refl; unwelcomed = λ _. ap (λ zs. zs ++ []) none; others = subst (HearsOthers t) (sym (ap (λ zs. zs ++ []) none)) tt }))

-- Frames of the hub

-- The client after a frame, once it was welcomed.
heard-moves : (c : ClientState) (fs : List Frame) (f : Frame) (t : ℕ) → c.is_welcomed ≡ true → ((h : Heard) → f ≡ frame.Heard h → h.source ≢ t) → Moves c (after_frame f (record c { arrived = fs })) t (heard_by f)
heard-moves c fs (frame.Heard h) t y other = record { welcomed = refl; channels = λ _. refl; unwelcomed = λ n. apart y n; others = (other h refl, tt) }
heard-moves c fs f t y other =
    either (λ z. Moves c z t []) (is_hello_of c.locks.entered f) (record c { arrived = fs; unsent = c.unsent ++ unsent.Resend ∷ [] }) (after_delivery f (record c { arrived = fs }))
    (λ _. stays-moves c _ t (refl, refl))
    (λ _. stays-moves c _ t (refl, refl))

-- The client after its welcome has no channels, and has made no call on any.
welcomed-told : (w : WorldState) (c : ClientState) (fs : List Frame) (n : ℕ) (b : Bool) (m : KernelState) (t : ℕ) (cs : List Call) → is_opened m t ≡ true → c.is_welcomed ≡ false → n ≡ t → cs ≡ []
    → Told (after_welcome (Some (n, b)) (record c { arrived = fs })) m t (cs ++ [])
welcomed-told w c fs n b m t cs opened u e none = record {
  welcomed = λ _. ap no_channels e ∙ ap (λ zs. after (zs ++ []) (no_channels t)) (sym none);
  opened = λ _. opened;
  unwelcomed = λ z. apart refl z;
  others = subst (λ zs. HearsOthers t (zs ++ [])) (sym none) tt;
}

welcome-told : (w : WorldState) (c : ClientState) (fs : List Frame) (f : Frame) (k m : KernelState) (t : ℕ) (cs : List Call) → is_opened m t ≡ true → lives w t ≡ true → c.is_welcomed ≡ false → IsOnItsWayDown w t f → Told c k t cs
    → Told (after_welcome (welcome_of f) (record c { arrived = fs })) m t (cs ++ [])
welcome-told w c fs f k m t cs opened alive n (inl dead) o = apart alive (not-true _ (and_parts _ _ dead).1)
welcome-told w c fs (frame.Welcome a) k m t cs opened alive n (inr d) o = welcomed-told w c fs a.tab false m t cs opened n d.1 (o.unwelcomed n)
welcome-told w c fs (frame.PairWelcome a) k m t cs opened alive n (inr d) o = welcomed-told w c fs a.tab true m t cs opened n d.1 (o.unwelcomed n)
welcome-told w c fs f k m t cs opened alive n (inr d) o = moved-told c (record c { arrived = fs }) k m t cs [] (λ _. opened) (stays-moves c (record c { arrived = fs }) t (refl, refl)) o

handled-told : (w : WorldState) (c : ClientState) (fs : List Frame) (k m : KernelState) (t : ℕ) (cs : List Call) → c.arrived ≡ fs → is_opened m t ≡ true → lives w t ≡ true → ((f : Frame) → In f c.arrived → IsOnItsWayDown w t f) → Told c k t cs
    → Told (after_first fs c) m t (cs ++ handled_by c fs)
handled-told w c [] k m t cs e opened alive came o = moved-told c c k m t cs [] (λ _. opened) (stays-moves c c t (refl, refl)) o
handled-told w c (f ∷ fs) k m t cs e opened alive came o =
    let mine = came f (subst (In f) (sym e) Here) in
    by_test (λ b. c.is_welcomed ≡ b → Told (cond b (after_frame f (record c { arrived = fs })) (after_welcome (welcome_of f) (record c { arrived = fs }))) m t (cs ++ cond b (heard_by f) [])) c.is_welcomed
    (λ _ y. moved-told c (after_frame f (record c { arrived = fs })) k m t cs (heard_by f) (λ _. opened) (heard-moves c fs f t y (others mine)) o)
    (λ _ n. welcome-told w c fs f k m t cs opened alive n mine o)
    refl
  where
    others : IsOnItsWayDown w t f → (h : Heard) → f ≡ frame.Heard h → h.source ≢ t
    others (inl dead) h same = apart alive (not-true _ (and_parts _ _ dead).1)
    others (inr d) h same = subst (ComesDown w t) same d

advanced-told : (l : Library) (w : WorldState) (t u : ℕ) (cs : List Call) → Sim l w → Told (client_of l t) l.hub.supervised.kernel t cs
    → Told (client_of (step (ClientAdvances u) l) t) (step (ClientAdvances u) l).hub.supervised.kernel t (cs ++ channel_calls_of t l (ClientAdvances u))
unfolding step
advanced-told l w t u cs s o = ⊎_elim
    (λ e. subst (λ n. Told (client_of (step (ClientAdvances n) l) t) (step (ClientAdvances n) l).hub.supervised.kernel t (cs ++ channel_calls_of t l (ClientAdvances n))) (sym (eqb-true u t e)) here)
    (λ n. subst (λ b. Told (client_of (step (ClientAdvances u) l) t) (step (ClientAdvances u) l).hub.supervised.kernel t (cs ++ cond (b && runs l u) (handled_by (client_of l u) (client_of l u).arrived) [])) (sym n)
    (told-stays l w (ClientAdvances u) t cs s (elsewhere n) o))
    (cases_Bool (u == t))
  where
    elsewhere : (u == t) ≡ false → LineStays l t (step (ClientAdvances u) l)
    elsewhere n = either (LineStays l t) (runs l u) (with_line u (record (l.lines u) { client = client_advanced (client_of l u) }) l) l
        (λ _. either (λ (z : Line). Stays (client_of l t) z.client) (t == u) (record (l.lines u) { client = client_advanced (client_of l u) }) (l.lines t) (λ e. apart (eq-eqb u t (sym (eqb-true t u e))) n) (λ _. (refl, refl)))
        (λ _. (refl, refl))

    at-line : (y : Line) → client_of (with_line t y l) t ≡ y.client
    at-line y = ap (λ b. (cond b y (l.lines t)).client) (eq-eqb t t refl)

    here : Told (client_of (step (ClientAdvances t) l) t) (step (ClientAdvances t) l).hub.supervised.kernel t (cs ++ channel_calls_of t l (ClientAdvances t))
    here =
        let c = client_of l t in
        subst (λ b. Told (client_of (step (ClientAdvances t) l) t) (step (ClientAdvances t) l).hub.supervised.kernel t (cs ++ cond (b && runs l t) (handled_by c c.arrived) [])) (sym (eq-eqb t t refl))
        (by_test (λ b. Told (client_of (cond b (with_line t (record (l.lines t) { client = client_advanced c }) l) l) t) (cond b (with_line t (record (l.lines t) { client = client_advanced c }) l) l).hub.supervised.kernel t (cs ++ cond b (handled_by c c.arrived) [])) (runs l t)
        (λ r. let alive : lives w t ≡ true = subst (λ k. lives (record w { kernel = k }) t ≡ true) s.hub.kernel (and_parts _ _ r).0 in
        let opened : is_opened l.hub.supervised.kernel t ≡ true = subst (λ k. is_opened k t ≡ true) (sym s.hub.kernel) (runs-opened l w t s r) in
        subst (λ z. Told z l.hub.supervised.kernel t (cs ++ handled_by c c.arrived)) (sym (at-line (record (l.lines t) { client = client_advanced c })))
        (handled-told w c c.arrived l.hub.supervised.kernel l.hub.supervised.kernel t cs refl opened alive (s.lines t).came o))
        (λ _. moved-told c c l.hub.supervised.kernel l.hub.supervised.kernel t cs [] (λ y. y) (stays-moves c c t (refl, refl)) o))

-- Steps

told-step : (l : Library) (w : WorldState) (x : Step) (t : ℕ) (cs : List Call) → Sim l w → Told (client_of l t) l.hub.supervised.kernel t cs
    → Told (client_of (step x l) t) (step x l).hub.supervised.kernel t (cs ++ channel_calls_of t l x)
unfolding step
told-step l w (Opens u page i) t cs s o = opened-told l w t u page i cs s o
told-step l w (Closes u) t cs s o = told-stays l w (Closes u) t cs s (either (LineStays l t) (lives_in l u) _ l (λ _. (refl, refl)) (λ _. (refl, refl))) o
told-step l w Restarts t cs s o = told-stays l w Restarts t cs s (refl, refl) o
told-step l w Stops t cs s o = told-stays l w Stops t cs s (refl, refl) o
told-step l w (HubReceives u n) t cs s o = told-stays l w (HubReceives u n) t cs s (either (LineStays l t) (lives_in l u) (hub_fed u n l.hub.arrived l) l (λ _. fed-stays l t u n l.hub.arrived) (λ _. (refl, refl))) o
told-step l w HubAdvances t cs s o = told-stays l w HubAdvances t cs s (refl, refl) o
told-step l w HubSends t cs s o = told-stays l w HubSends t cs s (sent-stays l t l.hub.outputs) o
told-step l w (Asks u mode b name) t cs s o = told-stays l w (Asks u mode b name) t cs s (call-stays l t u (asks mode b name) (unless-stays (call_refusal (ask_refusal (client_of l u).locks name) (client_of l u)) (client_of l u) (after_command (asked mode b name) (client_of l u)) (refl, refl))) o
told-step l w (Queries u) t cs s o = told-stays l w (Queries u) t cs s (call-stays l t u queries (unless-stays (call_refusal (query_refusal (client_of l u).locks) (client_of l u)) (client_of l u) (after_command queried (client_of l u)) (refl, refl))) o
told-step l w (Aborts u k) t cs s o =
    let c = client_of l u in
    told-stays l w (Aborts u k) t cs s (call-stays l t u (aborts k) (unless-stays (call_refusal None c) c (after_abort k c) (choice-stays (is_pending c.locks k && is_asked (status_of c.locks k)) c (after_command (aborted k) c) (refl, refl)))) o
told-step l w (Releases u k) t cs s o =
    let c = client_of l u in
    told-stays l w (Releases u k) t cs s (call-stays l t u (releases k) (unless-stays (call_refusal None c) c (after_release k c) (choice-stays (is_holding c.locks k) c (after_command (released k) c) (refl, refl)))) o
told-step l w (Resends u) t cs s o =
    let c = client_of l u in
    told-stays l w (Resends u) t cs s (call-stays l t u resends (unless-stays (call_refusal None c) c (record c { unsent = c.unsent ++ unsent.Resend ∷ [] }) (refl, refl))) o
told-step l w (OpensChannel u name) t cs s o = told-by l w (OpensChannel u name) t cs (called_by t u l (OpensOne name)) s (opens-moves l t u name) o
told-step l w (Posts u k bytes) t cs s o = told-by l w (Posts u k bytes) t cs (called_by t u l (PostsOn k bytes)) s (posts-moves l t u k bytes) o
told-step l w (Reads u k) t cs s o = told-by l w (Reads u k) t cs (called_by t u l (ReadsFrom k)) s (reads-moves l t u k) o
told-step l w (ClosesChannel u k) t cs s o = told-by l w (ClosesChannel u k) t cs (called_by t u l (ClosesOne k)) s (closes-moves l t u k) o
told-step l w (TakesEvent u) t cs s o = told-stays l w (TakesEvent u) t cs s (call-stays l t u takes_event (refl, refl)) o
told-step l w (ClientReceives u n) t cs s o = told-stays l w (ClientReceives u n) t cs s (either (LineStays l t) (runs l u) (with_line u (client_fed n (client_of l u).arrived (l.lines u)) l) l (λ _. line-stays l t u (client_fed n (client_of l u).arrived (l.lines u)) (client_fed-stays n (client_of l u).arrived (l.lines u))) (λ _. (refl, refl))) o
told-step l w (ClientAdvances u) t cs s o = advanced-told l w t u cs s o
told-step l w (ClientSends u) t cs s o =
    let z = sending (client_of l u) in
    told-stays l w (ClientSends u) t cs s (either (LineStays l t) (runs l u) (with_line u (record (l.lines u) { client = z.client; up = followed_by (l.lines u).up z.frame }) l) l (λ _. line-stays l t u (record (l.lines u) { client = z.client; up = followed_by (l.lines u).up z.frame }) (report-stays (client_of l u).report (client_of l u))) (λ _. (refl, refl))) o
told-step l w (TakesOver u) t cs s o = told-stays l w (TakesOver u) t cs s (either (LineStays l t) (lives_in l u) (record l { taken = taken_over u l.taken }) l (λ _. (refl, refl)) (λ _. (refl, refl))) o
told-step l w (Forges u f) t cs s o = told-stays l w (Forges u f) t cs s (either (LineStays l t) (is_taken l u && lives_in l u) (with_line u (record (l.lines u) { up = (l.lines u).up ++ f ∷ [] }) l) l (λ _. line-stays l t u (record (l.lines u) { up = (l.lines u).up ++ f ∷ [] }) (refl, refl)) (λ _. (refl, refl))) o

told-steps : (xs : List Step) (l : Library) (w : WorldState) (t : ℕ) (cs : List Call) → Sim l w → Told (client_of l t) l.hub.supervised.kernel t cs
    → Told (client_of (run_steps xs l) t) (run_steps xs l).hub.supervised.kernel t (cs ++ channel_calls_from t l xs)
told-steps [] l w t cs s o = subst (Told (client_of l t) l.hub.supervised.kernel t) (sym (append-nil cs)) o
told-steps (x ∷ xs) l w t cs s o =
    subst (Told (client_of (run_steps xs (step x l)) t) (run_steps xs (step x l)).hub.supervised.kernel t) (append_assoc cs (channel_calls_of t l x) (channel_calls_from t (step x l) xs))
    (told-steps xs (step x l) (run (events_of l x) w) t (cs ++ channel_calls_of t l x) (step-sim l w x s) (told-step l w x t cs s o))

told : (steps : List Step) (t : ℕ) → Told (client_of (run_steps steps new_library) t) (run_steps steps new_library).hub.supervised.kernel t (channel_calls t steps)
told steps t = told-steps steps new_library empty_world t [] empty-sim (record { welcomed = λ y. apart y refl; opened = λ y. apart y refl; unwelcomed = λ _. refl; others = tt })

pub channels-are_calls : ChannelsAreCalls
channels-are_calls steps t y = let o = told steps t in record { channels = o.welcomed y; others = o.others }

pub heard-rising : HeardRising
heard-rising steps t k source = takes_rising t k source (channel_calls t steps) (told steps t).others

pub heard-till_closed : HeardTillClosed
heard-till_closed before later t k lt closed =
    let l = run_steps before new_library in closed_takes_nothing (client_of l t).channels k (channel_calls_from t l later) lt closed
