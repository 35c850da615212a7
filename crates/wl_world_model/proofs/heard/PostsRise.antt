-- Posts that an object takes, over every list of events: they were posted to it, numbers rise,
-- and none come after its close.
use Rattle.std.proofs.Common.{◌≡◌, ◌≢◌, ⊎_elim, ℕ, zero, suc, ◌<◌, true, false, List, [], ◌∷◌, ◌++◌, length, drop, Some, is_some, refl, sym, ap, ap₂, ◌∙◌, subst, append_assoc, append-nil, arith}
use Rattle.std.specs.List.{AllByRecursion}
use Rattle.wl_origin.specs.Order.{Pair, paired}
use Rattle.url.specs.declared.host.Host.TheVariants.{Domain}
use Rattle.wl_origin.proofs.OrderLemmas.{pair_eq-decides}
use Rattle.wl_grammar.specs.declared.frame.Heard.{Heard}
use Rattle.wl_broadcast.specs.declared.letter.Letter.{Letter}
use Rattle.wl_broadcast.specs.Channels.{ChannelState, Object, opened, open_refusal, post_refusal, posted, heard, is_old, is_own, read_at, closed_at, name_at, inbox_at, is_open_at}
use Rattle.wl_broadcast.specs.Heard.{Call, Opens, Posts, Hears, Reads, Closes, takes, takes_in, of_source, RisesFrom, HearsOthers, IsPostFor as IsLetterFor}
use Rattle.wl_broadcast.proofs.Numbered.{is_open_at-suc}
use Rattle.wl_broadcast.proofs.Gained.{step_stays, nothing_itself, nothing_opened, nothing_read, nothing_closed, adds_posted, adds_heard, takes_posts, closed_takes_nothing}
use Rattle.wl_broadcast.proofs.Rising.{takes_rising}
use Rattle.wl_world_messages.specs.declared.message.Message.{Message}
use Rattle.wl_world_messages.specs.declared.message.Message.TheVariants.{Across}
use Rattle.wl_draft.specs.Membership.{In}
use Rattle.wl_draft.proofs.Membership.{apart, either, In-nil, In-cons_cases, In-append_cases}
use Rattle.wl_world_messages.proofs.Same.{sent_all-keeps, sent_all-cases}
use Rattle.wl_world_model.specs.declared.event.Event.{Event}
use Rattle.wl_world_model.specs.declared.event.Event.TheVariants as event
use Rattle.wl_world_model.specs.World.{WorldState, empty_world, channels_of, step_result, after_event, run, post_of}
use Rattle.wl_world_model.specs.Sends.{across}
use Rattle.wl_world_model.specs.Holdings.{IsHonest, partition_in, partition_at}
use Rattle.wl_world_model.specs.Apart.{was_opened_in, is_in}
use Rattle.wl_world_model.specs.Heard.{objects_of, takes_at, taken_in, may_post, WasPosted, IsPostFor, HeardRisingForAll, HeardPostsForAll}
use Rattle.wl_world_model.proofs.apart.CutKernel.{in-found, hearers-others}
use Rattle.wl_world_model.proofs.apart.ToldApart.{opened-tab}
use Rattle.wl_world_model.proofs.apart.RunsApart.{reached}
use Rattle.wl_world_model.proofs.honest.StaysHonest.{run-honest}
use Rattle.wl_world_model.proofs.heard.ChannelSteps.{Caused, IsSentBy, Kind, quiet, calls, kind, Owned, Calling, stays, called, calling, happens-owned}

-- Runs

pub run-append : (es fs : List Event) (w : WorldState) → run (es ++ fs) w ≡ run fs (run es w)
run-append [] fs w = refl
run-append (e ∷ es) fs w = run-append es fs (after_event w e)

owned : (es : List Event) (w : WorldState) → Owned w → Owned (run es w)
owned [] w h = h
owned (e ∷ es) w h = owned es (after_event w e) (happens-owned w e h)

pub empty-owned : Owned empty_world
empty-owned = record { own = λ t. refl; unopened = λ t n. refl }

pub run-owned : (events : List Event) → Owned (run events empty_world)
run-owned events = owned events empty_world empty-owned

bag-grows : (es : List Event) (w : WorldState) (m : Message) → In m w.bag → In m (run es w).bag
unfolding after_event
bag-grows [] w m i = i
bag-grows (e ∷ es) w m i = bag-grows es (after_event w e) m (sent_all-keeps (step_result w e).sends w.bag i)

-- Posts in the bag

posted-later : (events more : List Event) (t j n : ℕ) (name bytes : List ℕ) → WasPosted events t j n name bytes → WasPosted (events ++ more) t j n name bytes
posted-later events more t j n name bytes p = record {
  before = p.before;
  later = p.later ++ more;
  split = ap (λ z. z ++ more) p.split ∙ append_assoc p.before (event.Post t j bytes ∷ p.later) more;
  accepted = p.accepted;
  named = p.named;
  numbered = p.numbered;
}

-- The source of the post made it on one of its channel objects.
abbrev IsMade : List Event → Heard → Type 0
IsMade events x = (object : ℕ) × WasPosted events x.source object x.number x.channel x.bytes

-- A post sent to a tab comes from another tab. If that tab is honest, it made the post.
record Sent (events : List Event) (t : ℕ) (x : Heard) : Type 0 where
  made : IsHonest (run events empty_world) x.source → IsMade events x
  another : x.source ≢ t

-- A tab that is honest after more events was honest before them.
honest-till : (events more : List Event) (u : ℕ) → IsHonest (run (events ++ more) empty_world) u → IsHonest (run events empty_world) u
honest-till events more u h = run-honest more (run events empty_world) u (subst (λ z. IsHonest z u) (run-append events more empty_world) h)

sent-later : (events more : List Event) (t : ℕ) (x : Heard) → Sent events t x → Sent (events ++ more) t x
sent-later events more t x s = record {
  made = λ h. let o = s.made (honest-till events more x.source h) in (o.0, posted-later events more x.source o.0 x.number x.channel x.bytes o.1);
  another = s.another;
}

abbrev AllSent : List Event → WorldState → Type 0
AllSent events w = (t : ℕ) (x : Heard) → In (Across t x) w.bag → Sent events t x

-- A post that an event sends was made by that event.
new-sent : (done : List Event) (e : Event) (t : ℕ) (x : Heard) → (d : WorldState) → d ≡ run done empty_world → (u : ℕ) (call : Call) → Caused d u e call → IsSentBy d u call (Across t x) → Sent (done ++ e ∷ []) t x
new-sent done e t x d r u (Posts j bytes) cause sent =
    let at : Across t x ≡ across u (post_of j bytes (channels_of d u)) sent.0 = sent.2 in
    let same = across-same t x sent.0 (record { source = u; number = (channels_of d u).posts; channel = name_at (objects_of d u) j; bytes = bytes }) at in
    subst (λ z. Sent (done ++ e ∷ []) t z) (sym same.1)
    (record {
      made = λ _. (
        j,
        record {
          before = done;
          later = [];
          split = ap (λ z. done ++ z ∷ []) cause.0;
          accepted = subst (λ z. may_post z u j bytes ≡ true) r cause.1;
          named = ap (λ z. name_at (objects_of z u) j) (sym r);
          numbered = ap (λ z. (channels_of z u).posts) (sym r);
        },
      );
      another = λ s. hearers-others d.kernel u sent.0 sent.1 (sym same.0 ∙ sym s);
    })
  where
    across-same : (t : ℕ) (x : Heard) (n : ℕ) (y : Heard) → Across t x ≡ Across n y → (t ≡ n) × (x ≡ y)
    across-same t x n y e = (cc, cc)
new-sent done e t x d r u (Opens name) cause sent = absurd sent
new-sent done e t x d r u (Hears h) cause sent = absurd sent
new-sent done e t x d r u (Reads k) cause sent = absurd sent
new-sent done e t x d r u (Closes k) cause sent = absurd sent

step-sent : (done : List Event) (e : Event) (w : WorldState) → w ≡ run done empty_world → Owned w → AllSent done w → AllSent (done ++ e ∷ []) (after_event w e)
unfolding after_event
step-sent done e w r own h t x i = ⊎_elim
    (λ j. sent-later done (e ∷ []) t x (h t x j))
    (λ j. go (kind w e own) j)
    (sent_all-cases (step_result w e).sends w.bag i)
  where
    go : Kind w e (step_result w e) → In (Across t x) (step_result w e).sends → Sent (done ++ e ∷ []) t x
    go (quiet s none) j =
        let o = none (Across t x) j in
        record {
          made = λ h. apart o.0 (subst (λ z. IsHonest z x.source) (sym r) (honest-till done (e ∷ []) x.source h));
          another = o.1;
        }
    go (calls u call live s cause sent) j = new-sent done e t x w r u call cause (sent (Across t x) j)

all-sent : (done es : List Event) → AllSent done (run done empty_world) → AllSent (done ++ es) (run (done ++ es) empty_world)
all-sent done [] h = subst (λ z. AllSent z (run z empty_world)) (sym (append-nil done)) h
all-sent done (e ∷ es) h =
    let w = run done empty_world in
    subst (λ z. AllSent z (run z empty_world)) (append_assoc done (e ∷ []) es)
    (all-sent (done ++ e ∷ []) es (subst (AllSent (done ++ e ∷ [])) (sym (run-append done (e ∷ []) empty_world)) (step-sent done e w refl (run-owned done) h)))

run-sent : (events : List Event) → AllSent events (run events empty_world)
run-sent events = all-sent [] events (λ t x i. absurd (In-nil i))

abbrev nobody : Pair
nobody = paired ([], Domain [], 0)

-- A post sent to a tab comes from its partition.
sent-partition : (events : List Event) (t : ℕ) (x : Heard) → In (Across t x) (run events empty_world).bag → partition_at (run events empty_world) x.source ≡ partition_at (run events empty_world) t
unfolding is_in
sent-partition events t x i =
    let w = run events empty_world in
    let o = opened-tab w.kernel t ((reached nobody events).bag (Across t x) i).left in
    let p = o.0.partition in
    let m = (reached p events).bag (Across t x) i in
    let own : is_in p w.kernel t ≡ true = ap (was_opened_in p) o.1 ∙ (pair_eq-decides p p).1 refl in
    let f = in-found p w.kernel x.source (sym m.alike ∙ own) in
    ap partition_in f.1 ∙ ap Some f.2 ∙ sym (ap partition_in o.1)

-- Posts that an object takes

abbrev TookOpen : ChannelState → ℕ → Letter → ChannelState → Type 0
TookOpen c k l d = In l (drop (length (inbox_at c.objects k)) (inbox_at d.objects k)) → is_open_at c.objects k ≡ true

never : (c : ChannelState) (k : ℕ) (l : Letter) (d : ChannelState) → drop (length (inbox_at c.objects k)) (inbox_at d.objects k) ≡ [] → TookOpen c k l d
never c k l d e i = absurd (In-nil (subst (In l) e i))

-- Only an open object takes a post.
took-open : (c : ChannelState) (k : ℕ) (call : Call) (l : Letter) → In l (takes k call c) → is_open_at c.objects k ≡ true
took-open c k (Opens name) l = either (TookOpen c k l) (is_some (open_refusal name c)) c (opened name c) (λ _. never c k l c (nothing_itself k c)) (λ _. never c k l (opened name c) (nothing_opened k name c))
took-open c k (Posts j bytes) l =
    either (TookOpen c k l) (is_some (post_refusal c.tab j bytes c)) c (posted j bytes c) (λ _. never c k l c (nothing_itself k c))
    (λ _ i. ⊎_elim (λ e. never c k l (posted j bytes c) e i) (λ t. t.1.is_open) (adds_posted k j bytes c))
took-open c k (Hears h) l =
    either (TookOpen c k l) (is_old c h.source h.number) c (heard h c) (λ _. never c k l c (nothing_itself k c))
    (λ _ i. ⊎_elim (λ e. never c k l (heard h c) e i) (λ t. t.1.is_open) (adds_heard k h c))
took-open c k (Reads j) l = either (TookOpen c k l) (is_own c c.tab j) (read_at j c) c (λ _. never c k l (read_at j c) (nothing_read k j c)) (λ _. never c k l c (nothing_itself k c))
took-open c k (Closes j) l = either (TookOpen c k l) (is_own c c.tab j) (closed_at j c) c (λ _. never c k l (closed_at j c) (nothing_closed k j c)) (λ _. never c k l c (nothing_itself k c))

pub open-there : (os : List Object) (k : ℕ) → is_open_at os k ≡ true → k < length os
open-there [] k e = apart e refl
open-there (o ∷ os) zero e = omega arith
open-there (o ∷ os) (suc k) e = let l = open-there os k (sym (is_open_at-suc o os k) ∙ e) in omega arith

-- An object keeps its name.
abbrev Keeps : List Event → WorldState → ℕ → ℕ → Type 0
Keeps es w t k = k < length (objects_of w t) → name_at (objects_of (run es w) t) k ≡ name_at (objects_of w t) k

keeps-next : (e : Event) (es : List Event) (w : WorldState) (t k : ℕ) → Calling t w e → Keeps es (after_event w e) t k → Keeps (e ∷ es) w t k
keeps-next e es w t k (stays s) rest l = rest (subst (λ z. k < length z.objects) (sym s) l) ∙ ap (λ z. name_at z.objects k) s
keeps-next e es w t k (called call s cause) rest l =
    let d = step_stays (channels_of w t) k call l in
    rest (subst (λ z. k < length z.objects) (sym s) d.there) ∙ ap (λ z. name_at z.objects k) s ∙ d.name

run-name : (es : List Event) (w : WorldState) (t k : ℕ) → Owned w → Keeps es w t k
run-name [] w t k own l = refl
run-name (e ∷ es) w t k own l = keeps-next e es w t k (calling t w e own) (run-name es (after_event w e) t k (happens-owned w e own)) l

all-in : {X : Type 0} (P : X → Type 0) (xs : List X) (x : X) → AllByRecursion P xs → In x xs → P x
all-in P [] x h i = absurd (In-nil i)
all-in P (y ∷ ys) x h i = ⊎_elim (λ e. subst P (sym e) h.0) (λ l. all-in P ys x h.1 l) (In-cons_cases i)

module _ (done : List Event) (e : Event) (es : List Event) (t k : ℕ) where
  abbrev w : WorldState
  w = run done empty_world

  abbrev c : ChannelState
  c = channels_of w t

  abbrev whole : List Event
  whole = done ++ e ∷ es

  final-name : k < length c.objects → name_at (objects_of (run whole empty_world) t) k ≡ name_at c.objects k
  final-name l = ap (λ z. name_at (objects_of z t) k) (run-append done (e ∷ es) empty_world) ∙ run-name (e ∷ es) w t k (run-owned done) l

  took-call : (call : Call) (l : Letter) → IsHonest (run whole empty_world) l.source → Caused w t e call → In l (takes k call c) → IsPostFor whole t k l
  took-call call l h cause i = go call cause (all-in (IsLetterFor k call c) (takes k call c) l (takes_posts c k call) i) (final-name (open-there c.objects k (took-open c k call l i)))
    where
      go : (call : Call) → Caused w t e call → IsLetterFor k call c l → name_at (objects_of (run whole empty_world) t) k ≡ name_at c.objects k → IsPostFor whole t k l
      go (Posts j bytes) cause letter name =
          subst (IsPostFor whole t k) (sym (letter.0 ∙ ap (λ z. record { source = z; number = c.posts; bytes = bytes }) ((run-owned done).own t)))
          (record {
            object = j;
            posted = record {
              before = done;
              later = es;
              split = ap (λ z. done ++ z ∷ es) cause.0;
              accepted = cause.1;
              named = letter.1 ∙ sym name;
              numbered = refl;
            };
            partition = refl;
            another = λ s. letter.2 s.1;
          })
      go (Hears x) cause letter name =
          let s = run-sent done t x cause in
          let o = s.made (honest-till done (e ∷ es) x.source (subst (IsHonest (run whole empty_world)) (ap (λ (z : Letter). z.source) letter.0) h)) in
          subst (IsPostFor whole t k) (sym letter.0)
          (record {
            object = o.0;
            posted = subst (λ z. WasPosted whole x.source o.0 x.number z x.bytes) (letter.1 ∙ sym name) (posted-later done (e ∷ es) x.source o.0 x.number x.channel x.bytes o.1);
            partition = sent-partition whole t x (subst (λ z. In (Across t x) z.bag) (sym (run-append done (e ∷ es) empty_world)) (bag-grows (e ∷ es) w (Across t x) cause));
            another = λ q. s.another q.0;
          })
      go (Opens name) cause letter name' = absurd letter
      go (Reads j) cause letter name' = absurd letter
      go (Closes j) cause letter name' = absurd letter

  took-here : (l : Letter) → IsHonest (run whole empty_world) l.source → Calling t w e → In l (takes_at t k w e) → IsPostFor whole t k l
  took-here l h (stays s) i = absurd (In-nil (subst (In l) (ap (λ z. drop (length (inbox_at c.objects k)) (inbox_at z.objects k)) s ∙ nothing_itself k c) i))
  took-here l h (called call s cause) i = took-call call l h cause (subst (λ z. In l (drop (length (inbox_at c.objects k)) (inbox_at z.objects k))) s i)

took-in : (done es : List Event) (t k : ℕ) (l : Letter) → IsHonest (run (done ++ es) empty_world) l.source → In l (taken_in t k es (run done empty_world)) → IsPostFor (done ++ es) t k l
took-in done [] t k l h i = absurd (In-nil i)
took-in done (e ∷ es) t k l h i =
    let w = run done empty_world in
    ⊎_elim
    (λ j. took-here done e es t k l h (calling t w e (run-owned done)) j)
    (λ j. subst (λ z. IsPostFor z t k l) (append_assoc done (e ∷ []) es)
    (took-in (done ++ e ∷ []) es t k l (subst (λ z. IsHonest (run z empty_world) l.source) (sym (append_assoc done (e ∷ []) es)) h) (subst (λ z. In l (taken_in t k es z)) (sym (run-append done (e ∷ []) empty_world)) j)))
    (In-append_cases (takes_at t k w e) (taken_in t k es (after_event w e)) i)

-- Calls on a tab's channels

abbrev CalledIn : ℕ → List Event → WorldState → Type 0
CalledIn t es w = (calls : List Call) × HearsOthers t calls × ((k : ℕ) → taken_in t k es w ≡ takes_in k calls (channels_of w t))

called-next : (done : List Event) (e : Event) (es : List Event) (t : ℕ) → Calling t (run done empty_world) e → CalledIn t es (after_event (run done empty_world) e) → CalledIn t (e ∷ es) (run done empty_world)
called-next done e es t (stays s) rest =
    let c = channels_of (run done empty_world) t in (
      rest.0,
      rest.1,
      λ k. ap₂ ◌++◌ (ap (λ z. drop (length (inbox_at c.objects k)) (inbox_at z.objects k)) s ∙ nothing_itself k c) (rest.2 k ∙ ap (takes_in k rest.0) s),
    )
called-next done e es t (called call s cause) rest =
    let c = channels_of (run done empty_world) t in (
      call ∷ rest.0,
      others call cause,
      λ k. ap₂ ◌++◌ (ap (λ z. drop (length (inbox_at c.objects k)) (inbox_at z.objects k)) s) (rest.2 k ∙ ap (takes_in k rest.0) s),
    )
  where
    others : (call : Call) → Caused (run done empty_world) t e call → HearsOthers t (call ∷ rest.0)
    others (Opens name) cause = rest.1
    others (Posts j bytes) cause = rest.1
    others (Hears x) cause = ((run-sent done t x cause).another, rest.1)
    others (Reads j) cause = rest.1
    others (Closes j) cause = rest.1

called-in : (done es : List Event) (t : ℕ) → CalledIn t es (run done empty_world)
called-in done [] t = ([], tt, λ k. refl)
called-in done (e ∷ es) t =
    called-next done e es t (calling t (run done empty_world) e (run-owned done))
    (subst (CalledIn t es) (run-append done (e ∷ []) empty_world) (called-in (done ++ e ∷ []) es t))

-- The laws

pub heard-rising : HeardRisingForAll
heard-rising events t k source =
    let a = called-in [] events t in
    subst (λ z. RisesFrom 0 (of_source source z)) (sym (a.2 k)) (takes_rising t k source a.0 a.1)

pub heard-posts : HeardPostsForAll
heard-posts events t k l h i = took-in [] events t k l h i

-- A closed object takes no posts.
pub taken-closed : (before later : List Event) (t k : ℕ) → let w = run before empty_world in k < length (objects_of w t) → is_open_at (objects_of w t) k ≡ false → taken_in t k later w ≡ []
taken-closed before later t k there closed =
    let a = called-in before later t in
    a.2 k ∙ closed_takes_nothing (channels_of (run before empty_world) t) k a.0 there closed
