-- If no tab of a partition opens while a post of the partition is on its way, the channels of its tabs are the world's.
use Rattle.std.proofs.Common.{◌≡◌, ◌⊎◌, inl, inr, ⊎_elim, ℕ, Bool, true, false, cond, not, ◌&&◌, List, [], ◌∷◌, ◌++◌, append-nil, append_assoc, Option, Some, None, option_map, is_some, Ok, Err, refl, sym, ap, ◌∙◌, subst}
use Rattle.std.specs.Prelude.{⊤}
use Rattle.std.specs.Prelude.{◌==◌}
use Rattle.std.specs.List.{list_any}
use Rattle.std.proofs.lemmas.Bool.{cases_Bool, and_parts, and_from}
use Rattle.wl_origin.specs.Order.{Pair, pair_eq}
use Rattle.wl_origin.specs.declared.fault.OriginFault.{OriginFault}
use Rattle.wl_origin.proofs.OrderLemmas.{pair_eq-decides}
use Rattle.wl_draft.specs.Membership.{In}
use Rattle.wl_draft.proofs.Membership.{apart, either, In-nil, In-map}
use Rattle.wl_grammar.specs.declared.frame.Post.{Post}
use Rattle.wl_grammar.specs.declared.frame.Heard.{Heard}
use Rattle.wl_grammar.specs.declared.frame.Frame.{Frame}
use Rattle.wl_grammar.specs.declared.frame.Frame.TheVariants as frame
use Rattle.wl_broadcast.specs.Channels.{no_channels, post_refusal, posted, post_frame, name_at}
use Rattle.wl_broadcast.specs.Heard.{after}
use Rattle.wl_kernel.specs.Kernel.{KernelState, is_opened, is_living}
use Rattle.wl_kernel.specs.Routes.{hearers, heard_post, heard_of, route_up_refusal, tab_refusal}
use Rattle.wl_kernel.specs.declared.fault.RouteFault.TheVariants.{NoTab, DeadTab}
use Rattle.wl_tab.specs.declared.channels.ChannelRefusal.{ChannelRefusal}
use Rattle.wl_tab.specs.TabChannels.{posting_refusal}
use Rattle.wl_client.specs.declared.client.Unsent.TheVariants as unsent
use Rattle.wl_client.specs.declared.fault.ChannelCallFault.TheVariants as call
use Rattle.wl_client.specs.Faults.{of_channel}
use Rattle.wl_client.specs.Client.{ClientState, channel_refusal}
use Rattle.wl_hub.specs.Early.{greeted_next}
use Rattle.wl_hub.specs.Hub.{HubState, page_refusal, hub_closed, hub_opened}
use Rattle.wl_world_messages.specs.declared.message.Message.TheVariants.{Across}
use Rattle.wl_world_messages.proofs.Same.{sent_all-adds}
use Rattle.wl_world_model.specs.declared.event.Event.{Event}
use Rattle.wl_world_model.specs.declared.event.Event.TheVariants as event
use Rattle.wl_world_model.specs.declared.event.Forged.TheVariants as forged
use Rattle.wl_world_model.specs.World.{WorldState, empty_world, channels_of, lives, is_corrupt, if_allowed, post_of, becomes, step_result, after_event, run}
use Rattle.wl_world_model.specs.Sends.{across, to_hearers}
use Rattle.wl_world_model.specs.Holdings.{IsHonest}
use Rattle.wl_world_model.specs.Apart.{is_in}
use Rattle.wl_kernel.specs.TableIndexes.{AreTabs}
use Rattle.wl_world_model.proofs.exclusion.ActsWithinAGeneration.{after as after_deed}
use Rattle.wl_world_model.proofs.apart.CutKernel.{hearers-side, hearers-opened}
use Rattle.wl_world_model.proofs.apart.ToldApart.{listed-opened, in-opened}
use Rattle.wl_world_model.proofs.apart.ToldApart.{opened as opened_at}
use Rattle.wl_world_model.proofs.apart.RunsApart.{reached}
use Rattle.wl_world_model.proofs.heard.ChannelSteps.{Owned}
use Rattle.wl_library_model.specs.Library.{Library, Step, Opens, Closes, HubAdvances, HubSends, Posts, Forges, new_library, new_line, with_line, with_hub, client_of, is_taken, runs, step, run_steps}
use Rattle.wl_library_model.specs.Library.{lives as lives_in}
use Rattle.wl_library_model.specs.Events.{forging, frame_events, first_events, greeting_events, telling_events, advance_events, call_events, events_of, events_from}
use Rattle.wl_library_model.specs.Channels.{channel_calls, channel_calls_of, channel_calls_from}
use Rattle.wl_library_model.specs.Timely.{IsPosting, OpensApartNow, OpensApart, ChannelsAreRuns}
use Rattle.wl_library_model.proofs.Later.{Later}
use Rattle.wl_library_model.proofs.Happens.{run-later}
use Rattle.wl_library_model.proofs.Carried.{Sim}
use Rattle.wl_library_model.proofs.Links.{runs-opened}
use Rattle.wl_library_model.proofs.Simulated.{step-sim, run-append, empty-sim}
use Rattle.wl_library_model.proofs.ChannelSteps.{after-append, posting-is}
use Rattle.wl_library_model.proofs.ChannelRuns.{channels-are_calls}
use Rattle.wl_library_model.proofs.Traces.{IsOther, IsNoPost, Has, Special, step-parts}
use Rattle.wl_library_model.proofs.TimelyKernels.{FewerOf, SameSide, Shrinks, hearers-fewer, same-side, same-shrinks, killed-side, killed-shrinks, opened-side, opened-shrinks}
use Rattle.wl_library_model.proofs.TimelyWorlds.{run-owned, empty-owned}
use Rattle.wl_library_model.proofs.TimelySteps.{step-channels, IsInside, step-keeps}

module _ (p : Pair) where
  -- Posts that were sent

  -- The world has sent the post to all who would hear it.
  abbrev Sent : WorldState → ℕ → Frame → Type 0
  Sent w s (frame.Post x) = (u : ℕ) → In u (hearers s w.kernel) → In (Across u (heard_post s x)) w.bag
  Sent w s f = ⊤

  abbrev PostIn : WorldState → ℕ → Frame → Type 0
  PostIn w s f = IsHonest w s → is_in p w.kernel s ≡ true → Sent w s f

  abbrev HeardIn : WorldState → ℕ → Frame → Type 0
  HeardIn w t (frame.Heard h) = (is_opened w.kernel t ≡ true) × (is_in p w.kernel t ≡ true → In (Across t h) w.bag)
  HeardIn w t f = ⊤

  plain-post : (w : WorldState) (s : ℕ) (f : Frame) → IsNoPost f → PostIn w s f
  plain-post w s (frame.Post x) n = absurd n
  plain-post w s f n = λ h i. tt

  plain-heard : (w : WorldState) (t : ℕ) (f : Frame) → IsOther f → HeardIn w t f
  plain-heard w t (frame.Heard h) o = absurd o
  plain-heard w t f o = tt

  abbrev Traced : WorldState → Library → Type 0
  Traced w l = Has (PostIn w) (HeardIn w) (plain-post w) (plain-heard w) l

  -- Later worlds

  sent-later : (w v : WorldState) (s : ℕ) (f : Frame) → Later w v → ((u : ℕ) → In u (hearers s v.kernel) → In u (hearers s w.kernel)) → Sent w s f → Sent v s f
  sent-later w v s (frame.Post x) later g o = λ u i. later.bag _ (o u (g u i))
  sent-later w v s f later g o = tt

  post-later : (w v : WorldState) (s : ℕ) (f : Frame) → Later w v → Shrinks p w.kernel v.kernel → PostIn w s f → PostIn v s f
  post-later w v s f later x o h i = let j = x.before s i in sent-later w v s f later (λ u k. hearers-fewer p w.kernel v.kernel s u j i x.fewer k) (o (later.honest s h) j)

  heard-later : (w v : WorldState) (t : ℕ) (f : Frame) → Later w v → SameSide p w.kernel v.kernel → HeardIn w t f → HeardIn v t f
  heard-later w v t (frame.Heard h) later x o = ((later.opened t o.0).0, λ i. later.bag _ (o.1 (sym (x t o.0) ∙ i)))
  heard-later w v t f later x o = tt

  -- The frames on their way, in a later world in which each post may still be on its way.
  lifts : (w v : WorldState) (l : Library) → Later w v → SameSide p w.kernel v.kernel
      → ((s : ℕ) (f : Frame) → In (unsent.Post f) (client_of l s).unsent → PostIn w s f → PostIn v s f)
      → ((s : ℕ) (f : Frame) → In f (l.lines s).up → PostIn w s f → PostIn v s f)
      → ((f : Frame) → In f l.hub.arrived → PostIn w l.hub.sender f → PostIn v l.hub.sender f)
      → Traced w l → Traced v l
  lifts w v l later side a b c y = record {
    lines = λ s. let z = y.lines s in record {
      posts = λ f i. a s f i (z.posts f i);
      report = z.report;
      up = λ f i. b s f i (z.up f i);
      down = λ f i. heard-later w v s f later side (z.down f i);
      came = λ f i. heard-later w v s f later side (z.came f i);
    };
    hub = record { outs = λ t f i. heard-later w v t f later side (y.hub.outs t f i); arrived = λ f i. c f i (y.hub.arrived f i) };
  }

  shrinks-lifts : (w v : WorldState) (l : Library) → Later w v → SameSide p w.kernel v.kernel → Shrinks p w.kernel v.kernel → Traced w l → Traced v l
  shrinks-lifts w v l later side x y = lifts w v l later side (λ s f i o. post-later w v s f later x o) (λ s f i o. post-later w v s f later x o) (λ f i o. post-later w v l.hub.sender f later x o) y

  -- A tab of the partition opens, and no post is on its way.
  opening-lifts : (l : Library) (w v : WorldState) → Sim l w → Later w v → SameSide p w.kernel v.kernel → ((s : ℕ) → is_in p l.hub.supervised.kernel s ≡ true → IsPosting l s → ⊥) → Traced w l → Traced v l
  opening-lifts l w v s later side none y =
      lifts w v l later side
      (λ t f i o. quiet t f (λ h. ((s.lines t).posts h f i).0) (λ q. inl (f, i)))
      (λ t f i o. quiet t f (λ h. ((s.lines t).up h f i).0) (λ q. coming t f i q))
      (λ f i o. quiet l.hub.sender f (λ h. (s.hub.arrived h f i).0) (λ q. waiting f i q))
      y
    where
      quiet : (t : ℕ) (f : Frame) → (IsHonest w t → is_opened w.kernel t ≡ true) → ((x : Post) × (f ≡ frame.Post x) → IsPosting l t) → PostIn v t f
      quiet t (frame.Post x) o way = λ h i. absurd (none t (subst (λ k. is_in p k t ≡ true) (sym s.hub.kernel) (sym (side t (o (later.honest t h))) ∙ i)) (way (x, refl)))
      quiet t f o way = λ h i. tt

      coming : (t : ℕ) (f : Frame) → In f (l.lines t).up → (x : Post) × (f ≡ frame.Post x) → IsPosting l t
      coming t f i q = inr (inl (q.0, subst (λ z. In z (l.lines t).up) q.1 i))

      waiting : (f : Frame) → In f l.hub.arrived → (x : Post) × (f ≡ frame.Post x) → IsPosting l l.hub.sender
      waiting f i q = inr (inr (q.0, refl, subst (λ z. In z l.hub.arrived) q.1 i))

  -- Posts in the world

  forge-sends : (w : WorldState) (s n : ℕ) (q : Post) → is_corrupt w s ≡ true → lives w s ≡ true → In n (hearers s w.kernel) → In (Across n (heard_post s q)) (after_event w (event.Forge s (forged.Post q))).bag
  unfolding after_event step_result
  forge-sends w s n q c l i =
      subst (λ b. In (Across n (heard_post s q)) (after_deed w (if_allowed b w (record { world = w; sends = to_hearers w.kernel s q }))).bag) (sym (and_from _ _ c l))
      (sent_all-adds (to_hearers w.kernel s q) w.bag (In-map (across s q) i))

  post-sends : (w : WorldState) (u k n : ℕ) (bytes : List ℕ) → lives w u ≡ true → is_some (post_refusal u k bytes (channels_of w u)) ≡ false → In n (hearers u w.kernel)
      → In (Across n (heard_post u (post_of k bytes (channels_of w u)))) (after_event w (event.Post u k bytes)).bag
  unfolding after_event step_result becomes
  post-sends w u k n bytes l r i =
      let c = channels_of w u in
      subst (λ b. In (Across n (heard_post u (post_of k bytes c))) (after_deed w (if_allowed b w (becomes w u (posted k bytes c) (to_hearers w.kernel u (post_of k bytes c))))).bag) (sym (and_from _ _ l (ap not r)))
      (sent_all-adds (to_hearers w.kernel u (post_of k bytes c)) w.bag (In-map (across u (post_of k bytes c)) i))

  -- The hub handles its oldest frame now.
  now-first : (l : Library) → (is_some l.hub.supervised.broker ≡ false) ⊎ ((l.hub.untold ≡ []) × (greeted_next l.hub.greetings l.hub.early ≡ None)) → advance_events l ≡ first_events l l.hub.arrived
  now-first l (inl n) = ap (λ b. cond b (telling_events l l.hub.untold) (first_events l l.hub.arrived)) n
  now-first l (inr o) =
      either (λ es. es ≡ first_events l l.hub.arrived) (is_some l.hub.supervised.broker) (telling_events l l.hub.untold) (first_events l l.hub.arrived)
      (λ _. ap (telling_events l) o.0 ∙ ap (greeting_events l) o.1)
      (λ _. refl)

  -- A post that the hub does not refuse is of a living tab.
  routed-living : (k : KernelState) (s : ℕ) → is_some (tab_refusal k s) ≡ false → is_living k s ≡ true
  routed-living k s =
      either (λ o. is_some o ≡ false → is_living k s ≡ true) (is_opened k s) (cond (is_living k s) None (Some DeadTab)) (Some NoTab)
      (λ _. either (λ o. is_some o ≡ false → is_living k s ≡ true) (is_living k s) None (Some DeadTab) (λ y _. y) (λ _ e. apart refl e))
      (λ _ e. apart refl e)

  opened-same : (k : KernelState) (t : ℕ) → opened_at k t ≡ is_opened k t
  unfolding opened_at
  opened-same k t = refl

  -- The whole, after the steps so far.
  record State (past : List Step) (l : Library) (es : List Event) (w : WorldState) : Type 0 where
    is : l ≡ run_steps past new_library
    world : w ≡ run es empty_world
    sim : Sim l w
    owned : Owned w
    traced : Traced w l
    fit : (t : ℕ) → (is_opened w.kernel t ≡ false) ⊎ (is_in p w.kernel t ≡ true) → channels_of w t ≡ after (channel_calls t past) (no_channels t)

  -- One step

  module _ (past : List Step) (l : Library) (es : List Event) (w : WorldState) (x : Step) (y : State past l es w) (apart_now : OpensApartNow p l x) where
    abbrev m : Library
    m = step x l

    abbrev v : WorldState
    v = run (events_of l x) w

    sim : Sim m v
    sim = step-sim l w x y.sim

    later : Later w v
    later = run-later (events_of l x) w y.sim.good

    kernel : l.hub.supervised.kernel ≡ w.kernel
    kernel = y.sim.hub.kernel

    kernel_after : m.hub.supervised.kernel ≡ v.kernel
    kernel_after = sim.hub.kernel

    inside-side : IsInside x → SameSide p l.hub.supervised.kernel m.hub.supervised.kernel
    inside-side i = same-side p l.hub.supervised.kernel m.hub.supervised.kernel (step-keeps l x i)

    inside-shrinks : IsInside x → Shrinks p l.hub.supervised.kernel m.hub.supervised.kernel
    inside-shrinks i = same-shrinks p l.hub.supervised.kernel m.hub.supervised.kernel (step-keeps l x i)

    to-worlds : (P : KernelState → KernelState → Type 0) → P l.hub.supervised.kernel m.hub.supervised.kernel → P w.kernel v.kernel
    to-worlds P a = subst (λ k. P k v.kernel) kernel (subst (P l.hub.supervised.kernel) kernel_after a)

    -- The client's channels before the step.
    own-channels : (u : ℕ) → (client_of l u).is_welcomed ≡ true → is_in p w.kernel u ≡ true → channels_of w u ≡ (client_of l u).channels
    own-channels u wel i =
        y.fit u (inr i)
        ∙ sym (ap (λ z. (client_of z u).channels) y.is ∙ (channels-are_calls past u (subst (λ z. (client_of z u).is_welcomed ≡ true) y.is wel)).channels)

    -- Posts that arrive at a client that runs were sent to it.
    arrived-sent : (t : ℕ) → (is_opened w.kernel t ≡ false) ⊎ (is_in p w.kernel t ≡ true) → runs l t ≡ true → (h : Heard) → In (frame.Heard h) (client_of l t).arrived → In (Across t h) w.bag
    arrived-sent t o r h i = ⊎_elim
        (λ n. apart (runs-opened l w t y.sim r) n)
        (λ j. ((y.traced.lines t).came (frame.Heard h) i).1 j)
        o

    -- The channels after the step.
    fits-on : SameSide p w.kernel v.kernel → (t : ℕ) → (is_opened v.kernel t ≡ false) ⊎ (is_in p v.kernel t ≡ true) → channels_of v t ≡ after (channel_calls t (past ++ x ∷ [])) (no_channels t)
    fits-on side t o =
        let before = before-side t o in
        step-channels l w x t y.sim y.owned (λ r. arrived-sent t before r)
        ∙ (ap (after (channel_calls_of t l x)) (y.fit t before)
        ∙ (sym (after-append (channel_calls t past) (channel_calls_of t l x) (no_channels t))
        ∙ ap (λ cs. after cs (no_channels t)) (ap (λ z. channel_calls t past ++ channel_calls_of t z x) y.is ∙ sym (calls-push t past x new_library))))
      where
        before-side : (t : ℕ) → (is_opened v.kernel t ≡ false) ⊎ (is_in p v.kernel t ≡ true) → (is_opened w.kernel t ≡ false) ⊎ (is_in p w.kernel t ≡ true)
        before-side t o = ⊎_elim
            (λ yes. ⊎_elim (λ n. apart (later.opened t yes).0 n) (λ i. inr (sym (side t yes) ∙ i)) o)
            (λ no. inl no)
            (cases_Bool (is_opened w.kernel t))

        calls-push : (t : ℕ) (past : List Step) (x : Step) (l : Library) → channel_calls_from t l (past ++ x ∷ []) ≡ channel_calls_from t l past ++ channel_calls_of t (run_steps past l) x
        calls-push t [] x l = append-nil (channel_calls_of t l x)
        calls-push t (z ∷ zs) x l = ap (λ cs. channel_calls_of t l z ++ cs) (calls-push t zs x (step z l)) ∙ sym (append_assoc (channel_calls_of t l z) (channel_calls_from t (step z l) zs) (channel_calls_of t (run_steps zs (step z l)) x))

    push-steps : (past : List Step) (x : Step) (l : Library) → run_steps (past ++ x ∷ []) l ≡ step x (run_steps past l)
    push-steps [] x l = refl
    push-steps (z ∷ zs) x l = push-steps zs x (step z l)

    next-state : SameSide p w.kernel v.kernel → Traced v m → State (past ++ x ∷ []) m (es ++ events_of l x) v
    next-state side tr = record {
      is = ap (step x) y.is ∙ sym (push-steps past x new_library);
      world = ap (run (events_of l x)) y.world ∙ sym (run-append es (events_of l x) empty_world);
      sim = sim;
      owned = run-owned (events_of l x) w y.owned;
      traced = tr;
      fit = fits-on side;
    }

  -- Each frame after a step is plain, or a post that the world has.
  abbrev Says : WorldState → Library → Step → Type 0
  Says v l x = Special (PostIn v) (HeardIn v) (plain-post v) (plain-heard v) l x

  module _ (past : List Step) (l : Library) (es : List Event) (w : WorldState) (y : State past l es w) where
    abbrev k : KernelState
    k = l.hub.supervised.kernel

    tabs : AreTabs k.opened
    tabs = subst (λ (z : KernelState). AreTabs z.opened) (sym y.sim.hub.kernel) (subst (λ (z : WorldState). AreTabs z.kernel.opened) (sym y.world) (reached p es).kernel)

    in-was_opened : (t : ℕ) → is_in p k t ≡ true → is_opened w.kernel t ≡ true
    in-was_opened t i = subst (λ z. is_opened z t ≡ true) y.sim.hub.kernel (sym (opened-same k t) ∙ in-opened p k t i)

    hearer-opened : (s n : ℕ) → In n (hearers s k) → is_opened w.kernel n ≡ true
    hearer-opened s n i =
        let o = hearers-opened k s n i in
        subst (λ z. is_opened z n ≡ true) y.sim.hub.kernel (sym (opened-same k n) ∙ subst (λ z. opened_at k z ≡ true) o.2 (listed-opened k o.0 tabs o.1))

    -- The hub hands a post on.
    module _ (q : Post) (fs : List Frame) (e : l.hub.arrived ≡ frame.Post q ∷ fs) (now : (is_some l.hub.supervised.broker ≡ false) ⊎ ((l.hub.untold ≡ []) × (greeted_next l.hub.greetings l.hub.early ≡ None)))
        (no : is_some (route_up_refusal l.hub.sender (frame.Post q) l.hub.supervised.kernel) ≡ false) (n : ℕ) (i : In n (hearers l.hub.sender l.hub.supervised.kernel)) where
      abbrev s : ℕ
      s = l.hub.sender

      abbrev v1 : WorldState
      v1 = run (events_of l HubAdvances) w

      later1 : Later w v1
      later1 = later past l es w HubAdvances y tt

      side1 : SameSide p w.kernel v1.kernel
      side1 = to-worlds past l es w HubAdvances y tt (SameSide p) (inside-side past l es w HubAdvances y tt tt)

      opened1 : is_opened w.kernel n ≡ true
      opened1 = hearer-opened s n i

      source-in : is_in p v1.kernel n ≡ true → is_in p k s ≡ true
      source-in j = sym (hearers-side p k s n tabs i) ∙ subst (λ z. is_in p z n ≡ true) (sym y.sim.hub.kernel) (sym (side1 n opened1) ∙ j)

      honest-sent : is_taken l s ≡ false → PostIn v1 s (frame.Post q) → is_in p v1.kernel n ≡ true → In (Across n (heard_post s q)) v1.bag
      unfolding step
      honest-sent h o j =
          let si = source-in j in
          let siv : is_in p v1.kernel s ≡ true = side1 s (in-was_opened s si) ∙ subst (λ z. is_in p z s ≡ true) y.sim.hub.kernel si in
          let z = sim past l es w HubAdvances y tt in
          o (subst (λ zs. list_any (λ u. u == s) zs ≡ false) z.taken h) siv n
          (hearers-fewer p v1.kernel k s n siv si
          (subst (λ (g : KernelState). FewerOf p k.opened g.opened) z.hub.kernel (subst (λ os. FewerOf p k.opened os) (sym (step-keeps l HubAdvances tt)) (λ t r. r))) i)

      forged-sent : is_taken l s ≡ true → In (Across n (heard_post s q)) v1.bag
      unfolding events_of
      forged-sent t =
          let same : advance_events l ≡ event.Forge s (forged.Post q) ∷ [] =
          now-first l now
          ∙ (ap (first_events l) e
          ∙ (ap (λ b. cond b [] (frame_events (is_taken l s) k s (frame.Post q))) no
          ∙ ap (λ b. forging b s (forged.Post q)) t)) in
          subst (λ zs. In (Across n (heard_post s q)) (run zs w).bag) (sym same)
          (forge-sends w s n q (subst (λ zs. list_any (λ u. u == s) zs ≡ true) y.sim.taken t) (subst (λ z. is_living z s ≡ true) y.sim.hub.kernel (routed-living k s no)) (subst (λ z. In n (hearers s z)) y.sim.hub.kernel i))

      routed-in : PostIn v1 s (frame.Post q) → HeardIn v1 n (heard_of s q)
      routed-in o = ((later1.opened n opened1).0, λ j. ⊎_elim (λ t. forged-sent t) (λ h. honest-sent h o j) (cases_Bool (is_taken l s)))

    -- A client posts.
    module _ (u j : ℕ) (bytes : List ℕ) (r : runs l u ≡ true) (no : is_some (channel_refusal (posting_refusal j bytes (client_of l u).channels) (client_of l u)) ≡ false) where
      abbrev c : ClientState
      c = client_of l u

      abbrev v2 : WorldState
      v2 = run (events_of l (Posts u j bytes)) w

      welcomed2 : c.is_welcomed ≡ true
      welcomed2 = ⊎_elim (λ a. a) (λ a. apart (ap (λ b. is_some (cond b (option_map of_channel (posting_refusal j bytes c.channels)) (Some call.NotWelcomed))) a) no) (cases_Bool c.is_welcomed)

      unrefused2 : is_some (posting_refusal j bytes c.channels) ≡ false
      unrefused2 = sym (mapped (posting_refusal j bytes c.channels)) ∙ (sym (ap (λ b. is_some (cond b (option_map of_channel (posting_refusal j bytes c.channels)) (Some call.NotWelcomed))) welcomed2) ∙ no)
        where
          mapped : (o : Option ChannelRefusal) → is_some (option_map of_channel o) ≡ is_some o
          mapped None = refl
          mapped (Some f) = refl

      events2 : call_events l u (event.Post u j bytes) ≡ event.Post u j bytes ∷ []
      events2 = ap (λ b. cond b (event.Post u j bytes ∷ []) []) (and_from _ _ r welcomed2)

      was-in : is_in p v2.kernel u ≡ true → is_in p w.kernel u ≡ true
      was-in i = sym (to-worlds past l es w (Posts u j bytes) y tt (SameSide p) (inside-side past l es w (Posts u j bytes) y tt tt) u (runs-opened l w u y.sim r)) ∙ i

      made-in : PostIn v2 u (post_frame c.channels.posts (name_at c.channels.objects j) bytes)
      unfolding events_of
      made-in h i n q =
          let iw = was-in i in
          let d = own-channels past l es w (Posts u j bytes) y tt u welcomed2 iw in
          let shrinks = to-worlds past l es w (Posts u j bytes) y tt (Shrinks p) (inside-shrinks past l es w (Posts u j bytes) y tt tt) in
          let tab : (channels_of w u).tab ≡ u = y.owned.own u in
          let allowed : is_some (post_refusal u j bytes (channels_of w u)) ≡ false =
          ap (λ z. is_some (post_refusal z j bytes (channels_of w u))) (sym tab)
          ∙ (ap (λ z. is_some (post_refusal z.tab j bytes z)) d ∙ (sym (posting-is j bytes c.channels) ∙ unrefused2)) in
          subst (λ zs. In (Across n (heard_post u (record { number = c.channels.posts; channel = name_at c.channels.objects j; bytes = bytes }))) (run zs w).bag) (sym events2)
          (subst (λ z. In (Across n (heard_post u (post_of j bytes z))) (after_event w (event.Post u j bytes)).bag) d
          (post-sends w u j n bytes (subst (λ z. is_living z u ≡ true) y.sim.hub.kernel (and_parts _ _ r).0) allowed (hearers-fewer p w.kernel v2.kernel u n iw i shrinks.fewer q)))

    -- A tab that was taken over forges.
    forged-in : (t : ℕ) (f : Frame) → (is_taken l t && lives_in l t) ≡ true → PostIn (run (events_of l (Forges t f)) w) t f
    unfolding events_of
    forged-in t f b = λ h. apart (subst (λ zs. list_any (λ u. u == t) zs ≡ true) y.sim.taken (and_parts _ _ b).0) h

    says : (x : Step) → Says (run (events_of l x) w) l x
    says x = record {
      routes = λ same q fs e now o no n i.
          subst (λ z. HeardIn (run (events_of l z) w) n (heard_of l.hub.sender q)) (sym same)
          (routed-in q fs e now no n i (subst (λ z. PostIn (run (events_of l z) w) l.hub.sender (frame.Post q)) same o));
      makes = λ u j bytes same r no. subst (λ z. PostIn (run (events_of l z) w) u (post_frame (client_of l u).channels.posts (name_at (client_of l u).channels.objects j) bytes)) (sym same) (made-in u j bytes r no);
      forges = λ t f same b. subst (λ z. PostIn (run (events_of l z) w) t f) (sym same) (forged-in t f b);
    }

    -- The state after a step that opens no tab of the partition, and after one that does.
    goes-on : (x : Step) (a : OpensApartNow p l x) → SameSide p w.kernel (run (events_of l x) w).kernel → Shrinks p w.kernel (run (events_of l x) w).kernel → State (past ++ x ∷ []) (step x l) (es ++ events_of l x) (run (events_of l x) w)
    goes-on x a side shrinks =
        next-state past l es w x y a side
        (step-parts (PostIn (run (events_of l x) w)) (HeardIn (run (events_of l x) w)) (plain-post (run (events_of l x) w)) (plain-heard (run (events_of l x) w)) l x (says x)
        (shrinks-lifts w (run (events_of l x) w) l (later past l es w x y a) side shrinks y.traced))

    inside-on : (x : Step) (a : OpensApartNow p l x) → IsInside x → State (past ++ x ∷ []) (step x l) (es ++ events_of l x) (run (events_of l x) w)
    inside-on x a i =
        goes-on x a
        (to-worlds past l es w x y a (SameSide p) (inside-side past l es w x y a i))
        (to-worlds past l es w x y a (Shrinks p) (inside-shrinks past l es w x y a i))

    opens-side : (t : ℕ) (q : Pair) (i : Bool) → SameSide p k (step (Opens t (Ok q) i) l).hub.supervised.kernel
    unfolding step
    opens-side t q i =
        either (λ (z : Library). SameSide p k z.hub.supervised.kernel) (is_some (page_refusal t (Ok q) l.hub)) l (with_line t new_line (with_hub (hub_opened t q i l.hub) l))
        (λ _. same-side p k k refl)
        (λ _. opened-side p q t k)

    opens-shrinks : (t : ℕ) (q : Pair) (i : Bool) → (q ≡ p → ⊥) → Shrinks p k (step (Opens t (Ok q) i) l).hub.supervised.kernel
    unfolding step
    opens-shrinks t q i d =
        either (λ (z : Library). Shrinks p k z.hub.supervised.kernel) (is_some (page_refusal t (Ok q) l.hub)) l (with_line t new_line (with_hub (hub_opened t q i l.hub) l))
        (λ _. same-shrinks p k k refl)
        (λ _. opened-shrinks p q t k d)

    closes-both : (t : ℕ) → SameSide p k (step (Closes t) l).hub.supervised.kernel × Shrinks p k (step (Closes t) l).hub.supervised.kernel
    unfolding step
    closes-both t =
        either (λ (z : Library). SameSide p k z.hub.supervised.kernel × Shrinks p k z.hub.supervised.kernel) (lives_in l t) (with_hub (hub_closed t l.hub) l) l
        (λ _. either (λ (z : HubState). SameSide p k z.supervised.kernel × Shrinks p k z.supervised.kernel) (l.hub.sender == t) _ _ (λ _. (killed-side p t k, killed-shrinks p t k)) (λ _. (killed-side p t k, killed-shrinks p t k)))
        (λ _. (same-side p k k refl, same-shrinks p k k refl))

    refused-both : (t : ℕ) (f : OriginFault) (i : Bool) → SameSide p k (step (Opens t (Err f) i) l).hub.supervised.kernel × Shrinks p k (step (Opens t (Err f) i) l).hub.supervised.kernel
    unfolding step
    refused-both t f i = (same-side p k k refl, same-shrinks p k k refl)

    opening-on : (t : ℕ) (q : Pair) (i : Bool) (a : OpensApartNow p l (Opens t (Ok q) i)) → q ≡ p → State (past ++ Opens t (Ok q) i ∷ []) (step (Opens t (Ok q) i) l) (es ++ events_of l (Opens t (Ok q) i)) (run (events_of l (Opens t (Ok q) i)) w)
    opening-on t q i a e =
        let x = Opens t (Ok q) i in
        let v = run (events_of l x) w in
        let side = to-worlds past l es w x y a (SameSide p) (opens-side t q i) in
        next-state past l es w x y a side
        (step-parts (PostIn v) (HeardIn v) (plain-post v) (plain-heard v) l x (says x) (opening-lifts l w v y.sim (later past l es w x y a) side (a e) y.traced))

    state-step : (x : Step) → OpensApartNow p l x → State (past ++ x ∷ []) (step x l) (es ++ events_of l x) (run (events_of l x) w)
    state-step (Opens t (Err f) i) a = goes-on (Opens t (Err f) i) a (to-worlds past l es w (Opens t (Err f) i) y a (SameSide p) (refused-both t f i).0) (to-worlds past l es w (Opens t (Err f) i) y a (Shrinks p) (refused-both t f i).1)
    state-step (Opens t (Ok q) i) a = ⊎_elim
        (λ same. opening-on t q i a ((pair_eq-decides q p).0 same))
        (λ other. goes-on (Opens t (Ok q) i) a (to-worlds past l es w (Opens t (Ok q) i) y a (SameSide p) (opens-side t q i)) (to-worlds past l es w (Opens t (Ok q) i) y a (Shrinks p) (opens-shrinks t q i (λ e. apart ((pair_eq-decides q p).1 e) other))))
        (cases_Bool (pair_eq q p))
    state-step (Closes t) a = goes-on (Closes t) a (to-worlds past l es w (Closes t) y a (SameSide p) (closes-both t).0) (to-worlds past l es w (Closes t) y a (Shrinks p) (closes-both t).1)
    state-step x a = inside-on x a tt

  -- Lists of steps

  empty-state : State [] new_library [] empty_world
  empty-state = record {
    is = refl;
    world = refl;
    sim = empty-sim;
    owned = empty-owned;
    traced = record {
      lines = λ s. record { posts = λ f i. absurd (In-nil i); report = λ f i. absurd (In-nil i); up = λ f i. absurd (In-nil i); down = λ f i. absurd (In-nil i); came = λ f i. absurd (In-nil i) };
      hub = record { outs = λ t f i. absurd (In-nil i); arrived = λ f i. absurd (In-nil i) };
    };
    fit = λ t o. refl;
  }

  ends : (xs past : List Step) (l : Library) (es : List Event) (w : WorldState) → State past l es w → OpensApart p l xs → (t : ℕ) → is_in p (run_steps xs l).hub.supervised.kernel t ≡ true → (client_of (run_steps xs l) t).is_welcomed ≡ true
      → (client_of (run_steps xs l) t).channels ≡ channels_of (run (events_from l xs) w) t
  ends [] past l es w y a t i wel = sym (own-channels past l es w HubSends y tt t wel (subst (λ z. is_in p z t ≡ true) y.sim.hub.kernel i))
  ends (x ∷ xs) past l es w y a t i wel =
      subst (λ z. (client_of (run_steps xs (step x l)) t).channels ≡ channels_of z t) (sym (run-append (events_of l x) (events_from (step x l) xs) w))
      (ends xs (past ++ x ∷ []) (step x l) (es ++ events_of l x) (run (events_of l x) w) (state-step past l es w y x a.0) a.1 t i wel)

pub channels-are_runs : ChannelsAreRuns
channels-are_runs steps p a t i wel = ends p steps [] new_library [] empty_world (empty-state p) a t i wel
