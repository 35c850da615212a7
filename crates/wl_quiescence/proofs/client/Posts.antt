-- The posts that a client has still to send are posts.
use Rattle.std.proofs.Common.{◌≡◌, ⊎_elim, ℕ, Bool, ◌&&◌, cond, List, [], ◌∷◌, ◌++◌, length, Option, Some, None, is_some, refl, sym, subst}
use Rattle.std.specs.Prelude.{◌==◌, option_map, take, drop, if◌then◌else◌}
use Rattle.wl_draft.specs.Membership.{In, Later as Behind}
use Rattle.wl_draft.proofs.Membership.{either, In-nil, In-one, In-append_cases}
use Rattle.wl_grammar.specs.declared.frame.Frame.{Frame}
use Rattle.wl_grammar.specs.declared.frame.Frame.TheVariants as frame
use Rattle.wl_grammar.specs.declared.frame.Post.{Post}
use Rattle.wl_agent.specs.Tab.{TabState, asked, queried, aborted, released, ask_refusal, query_refusal, status_of, is_asked}
use Rattle.wl_agent.specs.Tokens.{is_pending, is_holding}
use Rattle.wl_agent.specs.Delivery.{delivery}
use Rattle.wl_tab.specs.Tabs.{told}
use Rattle.wl_tab.specs.Arrivals.{arrival}
use Rattle.wl_tab.specs.TabChannels.{number_refusal, posting_refusal}
use Rattle.wl_broadcast.specs.Channels.{open_refusal, opened, read_at, closed_at, is_open_at}
use Rattle.wl_tab.specs.declared.channels.ChannelRefusal.TheVariants.{Fault}
use Rattle.wl_world_messages.specs.declared.effect.Effect.{Effect}
use Rattle.wl_client.specs.declared.client.Unsent.{Unsent}
use Rattle.wl_client.specs.declared.client.Unsent.TheVariants as unsent
use Rattle.wl_client.specs.Client.{ClientState, call_refusal, channel_refusal, with_channels, after_command, after_abort, after_release, after_post, after_close, welcome_of, after_welcome, is_entering, is_hello_of, after_told, after_delivery, after_frame, after_first}
use Rattle.wl_client.specs.Client.{advanced as client_advanced}
use Rattle.wl_hub.specs.Hub.{page_refusal, page_opened, hub_closed}
use Rattle.wl_library_model.specs.Library.{Library, Line, Step, Opens, Closes, Restarts, Stops, HubReceives, HubAdvances, HubSends, Asks, Queries, Aborts, Releases, Resends, OpensChannel, Posts, Reads, ClosesChannel, TakesEvent, ClientReceives, ClientAdvances, ClientSends, TakesOver, Forges, new_library, new_line, client_of, lives, is_taken, runs, with_line, with_hub, hub_fed, is_due, hub_sends_from, calls, unless, asks, queries, aborts, releases, resends, opens_channel, posts, reads, takes_event, client_fed, sending_item, sending_due, sending_report, sending, followed_by, step, run_steps}
use Rattle.wl_world_model.specs.World.{taken_over}
use Rattle.wl_quiescence.proofs.client.Sends.{ArePosts}

abbrev pub AllPosts : Library → Type 0
AllPosts l = (t : ℕ) → ArePosts (client_of l t)

-- Clients

-- Another item at the end
more : (c d : ClientState) (us : List Unsent) → d.unsent ≡ c.unsent ++ us → ((f : Frame) → In (unsent.Post f) us → (x : Post) × (f ≡ frame.Post x)) → ArePosts c → ArePosts d
more c d us e h p f i = ⊎_elim (λ j. p f j) (λ j. h f j) (In-append_cases c.unsent us (subst (In (unsent.Post f)) e i))

no-command : (f : Frame) (k : ℕ) → In (unsent.Post f) (unsent.Command k ∷ []) → (x : Post) × (f ≡ frame.Post x)
no-command f k i = absurd (go f k (In-one i))
  where
    go : (f : Frame) (k : ℕ) → unsent.Post f ≡ unsent.Command k → ⊥
    go f k e = cc

no-resend : (f : Frame) → In (unsent.Post f) (unsent.Resend ∷ []) → (x : Post) × (f ≡ frame.Post x)
no-resend f i = absurd (go f (In-one i))
  where
    go : (f : Frame) → unsent.Post f ≡ unsent.Resend → ⊥
    go f e = cc

post-frame : (f g : Frame) → unsent.Post f ≡ unsent.Post g → f ≡ g
post-frame f g e = cc

command-posts : (issues : TabState → TabState) (c : ClientState) → ArePosts c → ArePosts (after_command issues c)
command-posts issues c p = more c (after_command issues c) (unsent.Command (length c.locks.issued) ∷ []) refl (λ f i. no-command f (length c.locks.issued) i) p

resend-posts : (c : ClientState) → ArePosts c → ArePosts (record c { unsent = c.unsent ++ unsent.Resend ∷ [] })
resend-posts c p = more c (record c { unsent = c.unsent ++ unsent.Resend ∷ [] }) (unsent.Resend ∷ []) refl no-resend p

unless-posts : {F : Type 0} (o : Option F) (c d : ClientState) → ArePosts c → ArePosts d → ArePosts (unless o c d)
unless-posts None c d p q = q
unless-posts (Some f) c d p q = p

post-posts : (k : ℕ) (bytes : List ℕ) (c : ClientState) → ArePosts c → ArePosts (after_post k bytes c)
post-posts k bytes c p = more c (after_post k bytes c) _ refl (λ f i. (_, post-frame f _ (In-one i))) p

told-posts : (e : Effect) (a : TabState) (c : ClientState) → ArePosts c → ArePosts (after_told e a c)
told-posts e a c p = more c (after_told e a c) (cond (is_entering e) (unsent.Resend ∷ []) []) refl
    (λ f. either (λ us. In (unsent.Post f) us → (x : Post) × (f ≡ frame.Post x)) (is_entering e) (unsent.Resend ∷ []) [] (λ _ i. no-resend f i) (λ _ i. absurd (In-nil i))) p

delivery-posts : (f : Frame) (c : ClientState) → ArePosts c → ArePosts (after_delivery f c)
delivery-posts (frame.Heard h) c p = p
delivery-posts f c p = told-posts (arrival f c.locks) (told (delivery f c.locks).0) c p

frame-posts : (f : Frame) (c : ClientState) → ArePosts c → ArePosts (after_frame f c)
frame-posts f c p = either ArePosts (is_hello_of c.locks.entered f) (record c { unsent = c.unsent ++ unsent.Resend ∷ [] }) (after_delivery f c) (λ _. resend-posts c p) (λ _. delivery-posts f c p)

welcome-posts : (o : Option (ℕ × Bool)) (c : ClientState) → ArePosts c → ArePosts (after_welcome o c)
welcome-posts None c p = p
welcome-posts (Some w) c p = p

first-posts : (fs : List Frame) (c : ClientState) → ArePosts c → ArePosts (after_first fs c)
first-posts [] c p = p
first-posts (f ∷ fs) c p =
    either ArePosts c.is_welcomed (after_frame f (record c { arrived = fs })) (after_welcome (welcome_of f) (record c { arrived = fs }))
    (λ _. frame-posts f (record c { arrived = fs }) p) (λ _. welcome-posts (welcome_of f) (record c { arrived = fs }) p)

item-posts : (us : List Unsent) (c : ClientState) → c.unsent ≡ us → ArePosts c → ArePosts (sending_item us c).client
item-posts [] c e p = p
item-posts (unsent.Resend ∷ us) c e p = λ f i. p f (subst (In (unsent.Post f)) (sym e) (Behind i))
item-posts (unsent.Command k ∷ us) c e p = λ f i. p f (subst (In (unsent.Post f)) (sym e) (Behind i))
item-posts (unsent.Post g ∷ us) c e p = λ f i. p f (subst (In (unsent.Post f)) (sym e) (Behind i))

due-posts : (ks : List ℕ) (c : ClientState) → ArePosts c → ArePosts (sending_due ks c).client
due-posts [] c p = item-posts c.unsent c refl p
due-posts (k ∷ ks) c p = p

report-posts : (fs : List Frame) (c : ClientState) → ArePosts c → ArePosts (sending_report fs c).client
report-posts [] c p = due-posts c.due c p
report-posts (f ∷ fs) c p = p

-- Lines

line-posts : (t : ℕ) (y : Line) (l : Library) → ArePosts y.client → AllPosts l → AllPosts (with_line t y l)
line-posts t y l p h u = either (λ (z : Line). ArePosts z.client) (u == t) y (l.lines u) (λ _. p) (λ _. h u)

if-posts : (b : Bool) (l m : Library) → AllPosts l → AllPosts m → AllPosts (if b then m else l)
if-posts b l m p q = either AllPosts b m l (λ _. q) (λ _. p)

call-posts : (t : ℕ) (call : ClientState → ClientState) (l : Library) → ((c : ClientState) → ArePosts c → ArePosts (call c)) → AllPosts l → AllPosts (calls t call l)
call-posts t call l f h = if-posts (runs l t) l (with_line t (record (l.lines t) { client = call (client_of l t) }) l) h (line-posts t (record (l.lines t) { client = call (client_of l t) }) l (f (client_of l t) (h t)) h)

fed-posts : (n : ℕ) (fs : List Frame) (x : Line) → ArePosts x.client → ArePosts (client_fed n fs x).client
fed-posts n [] x p = p
fed-posts n (f ∷ fs) x p = p

hub_fed-posts : (t n : ℕ) (fs : List Frame) (l : Library) → AllPosts l → AllPosts (hub_fed t n fs l)
hub_fed-posts t n [] l h = line-posts t (record (l.lines t) { up = drop n (l.lines t).up }) (with_hub (record l.hub { sender = t; arrived = take n (l.lines t).up }) l) (h t) h
hub_fed-posts t n (f ∷ fs) l h = h

sends-posts : (os : List (ℕ × Frame)) (l : Library) → AllPosts l → AllPosts (hub_sends_from os l)
sends-posts [] l h = h
sends-posts (o ∷ os) l h =
    let m = with_hub (record l.hub { outputs = os }) l in
    let y = record (l.lines o.0) { down = (l.lines o.0).down ++ o.1 ∷ [] } in
    either AllPosts (is_due l.hub o) (with_line o.0 y m) m (λ _. line-posts o.0 y m (h o.0) h) (λ _. h)

-- Steps

pub step-posts : (x : Step) (l : Library) → AllPosts l → AllPosts (step x l)
unfolding step
step-posts (Opens t page is_pair) l h =
    either AllPosts (is_some (page_refusal t page l.hub)) l (with_line t new_line (with_hub (page_opened t page is_pair l.hub) l))
    (λ _. h) (λ _. line-posts t new_line (with_hub (page_opened t page is_pair l.hub) l) (λ f i. absurd (In-nil i)) h)
step-posts (Closes t) l h = if-posts (lives l t) l (with_hub (hub_closed t l.hub) l) h h
step-posts Restarts l h = h
step-posts Stops l h = h
step-posts (HubReceives t n) l h = if-posts (lives l t) l (hub_fed t n l.hub.arrived l) h (hub_fed-posts t n l.hub.arrived l h)
step-posts HubAdvances l h = h
step-posts HubSends l h = sends-posts l.hub.outputs l h
step-posts (Asks t mode if_available name) l h =
    call-posts t (asks mode if_available name) l (λ c p. unless-posts (call_refusal (ask_refusal c.locks name) c) c (after_command (asked mode if_available name) c) p (command-posts (asked mode if_available name) c p)) h
step-posts (Queries t) l h = call-posts t queries l (λ c p. unless-posts (call_refusal (query_refusal c.locks) c) c (after_command queried c) p (command-posts queried c p)) h
step-posts (Aborts t k) l h =
    call-posts t (aborts k) l (λ c p. unless-posts (call_refusal None c) c (after_abort k c) p
    (either ArePosts (is_pending c.locks k && is_asked (status_of c.locks k)) (after_command (aborted k) c) c (λ _. command-posts (aborted k) c p) (λ _. p))) h
step-posts (Releases t k) l h =
    call-posts t (releases k) l (λ c p. unless-posts (call_refusal None c) c (after_release k c) p
    (either ArePosts (is_holding c.locks k) (after_command (released k) c) c (λ _. command-posts (released k) c p) (λ _. p))) h
step-posts (Resends t) l h = call-posts t resends l (λ c p. unless-posts (call_refusal None c) c (record c { unsent = c.unsent ++ unsent.Resend ∷ [] }) p (resend-posts c p)) h
step-posts (OpensChannel t name) l h = call-posts t (opens_channel name) l (λ c p. unless-posts (channel_refusal (option_map Fault (open_refusal name c.channels)) c) c (with_channels (opened name c.channels) c) p p) h
step-posts (Posts t k bytes) l h = call-posts t (posts k bytes) l (λ c p. unless-posts (channel_refusal (posting_refusal k bytes c.channels) c) c (after_post k bytes c) p (post-posts k bytes c p)) h
step-posts (Reads t k) l h = call-posts t (reads k) l (λ c p. unless-posts (channel_refusal (number_refusal k c.channels) c) c (with_channels (read_at k c.channels) c) p p) h
step-posts (ClosesChannel t k) l h = call-posts t (after_close k) l (λ c p. either ArePosts (c.is_welcomed && is_open_at c.channels.objects k) (with_channels (closed_at k c.channels) c) c (λ _. p) (λ _. p)) h
step-posts (TakesEvent t) l h = call-posts t takes_event l (λ c p. p) h
step-posts (ClientReceives t n) l h =
    if-posts (runs l t) l (with_line t (client_fed n (client_of l t).arrived (l.lines t)) l) h
    (line-posts t (client_fed n (client_of l t).arrived (l.lines t)) l (fed-posts n (client_of l t).arrived (l.lines t) (h t)) h)
step-posts (ClientAdvances t) l h = call-posts t client_advanced l (λ c p. first-posts c.arrived c p) h
step-posts (ClientSends t) l h =
    let y = record (l.lines t) { client = (sending (client_of l t)).client; up = followed_by (l.lines t).up (sending (client_of l t)).frame } in
    if-posts (runs l t) l (with_line t y l) h (line-posts t y l (report-posts (client_of l t).report (client_of l t) (h t)) h)
step-posts (TakesOver t) l h = if-posts (lives l t) l (record l { taken = taken_over t l.taken }) h h
step-posts (Forges t f) l h =
    let y = record (l.lines t) { up = (l.lines t).up ++ f ∷ [] } in
    if-posts (is_taken l t && lives l t) l (with_line t y l) h (line-posts t y l (h t) h)

-- After any steps of the library
pub steps-posts : (steps : List Step) (l : Library) → AllPosts l → AllPosts (run_steps steps l)
steps-posts [] l h = h
steps-posts (x ∷ xs) l h = steps-posts xs (step x l) (step-posts x l h)

pub new-posts : AllPosts new_library
new-posts t f i = absurd (In-nil i)
