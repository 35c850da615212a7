-- The channels of a client follow from the calls on them.
use Rattle.std.proofs.Common.{◌≡◌, ⊎_elim, ℕ, zero, suc, ◌<◌, Bool, true, false, cond, not, ◌&&◌, List, [], ◌∷◌, ◌++◌, length, Option, Some, None, option_map, is_some, refl, sym, ap, ap₂, ◌∙◌, subst, arith}
use Rattle.std.specs.Prelude.{◌==◌, nat_lt, nat_le}
use Rattle.std.proofs.lemmas.Bool.{cases_Bool, eqb-true, eq-eqb, lt-ltb}
use Rattle.wl_draft.proofs.Membership.{apart, either, by_test}
use Rattle.wl_grammar.specs.declared.frame.Frame.{Frame}
use Rattle.wl_broadcast.specs.declared.fault.ChannelFault.{ChannelFault}
use Rattle.wl_broadcast.specs.declared.fault.ChannelFault.TheVariants.{DataTooLong, PostsUsedUp, ForeignChannel}
use Rattle.wl_broadcast.specs.Channels.{ChannelState, Object, no_channels, is_open_at, is_own, post_limit, open_refusal, post_refusal, opened, posted, read_at, closed_at}
use Rattle.wl_broadcast.specs.Heard.{Call, HearsOthers, after}
use Rattle.wl_broadcast.specs.Heard.{step as channel_step}
use Rattle.wl_broadcast.specs.Heard.{Opens as OpensOne, Posts as PostsOn, Hears, Reads as ReadsFrom, Closes as ClosesOne}
use Rattle.wl_broadcast.proofs.Numbered.{is_open_at-suc}
use Rattle.wl_limits.specs.declared.texts.TheConstants.{DATA_LIMIT}
use Rattle.wl_kernel.specs.Kernel.{KernelState, is_opened}
use Rattle.wl_tab.specs.declared.channels.ChannelRefusal.{ChannelRefusal}
use Rattle.wl_tab.specs.declared.channels.ChannelRefusal.TheVariants.{NoChannel, Closed, Fault}
use Rattle.wl_tab.specs.TabChannels.{number_refusal, refusal_or, posting_refusal}
use Rattle.wl_client.specs.declared.client.Unsent.{Unsent}
use Rattle.wl_client.specs.declared.client.Unsent.TheVariants as unsent
use Rattle.wl_client.specs.declared.fault.ChannelCallFault.TheVariants as call
use Rattle.wl_client.specs.Faults.{of_channel}
use Rattle.wl_client.specs.Client.{ClientState, channel_refusal, with_channels, after_post, after_close}
use Rattle.wl_library_model.specs.Library.{Library, Line, with_line, client_of, runs, unless, opens_channel, posts, reads, calls, sending_item, sending_due, sending_report}
use Rattle.wl_library_model.specs.Channels.{called_by}

-- Lists of calls

pub after-append : (cs ds : List Call) (c : ChannelState) → after (cs ++ ds) c ≡ after ds (after cs c)
after-append [] ds c = refl
after-append (x ∷ cs) ds c = after-append cs ds (channel_step x c)

pub others-append : (t : ℕ) (cs ds : List Call) → HearsOthers t cs → HearsOthers t ds → HearsOthers t (cs ++ ds)
others-append t [] ds p q = q
others-append t (Hears h ∷ cs) ds p q = (p.0, others-append t cs ds p.1 q)
others-append t (x ∷ cs) ds p q = others-append t cs ds p q

-- A client, and all calls on its channels so far
pub record Told (c : ClientState) (k : KernelState) (t : ℕ) (cs : List Call) : Type 0 where
  pub welcomed : c.is_welcomed ≡ true → c.channels ≡ after cs (no_channels t)
  pub opened : c.is_welcomed ≡ true → is_opened k t ≡ true
  pub unwelcomed : c.is_welcomed ≡ false → cs ≡ []
  pub others : HearsOthers t cs

-- The client becomes `d` by these calls.
pub record Moves (c d : ClientState) (t : ℕ) (ds : List Call) : Type 0 where
  pub welcomed : d.is_welcomed ≡ c.is_welcomed
  pub channels : c.is_welcomed ≡ true → d.channels ≡ after ds c.channels
  pub unwelcomed : c.is_welcomed ≡ false → ds ≡ []
  pub others : HearsOthers t ds

pub moved-told : (c d : ClientState) (k m : KernelState) (t : ℕ) (cs ds : List Call) → (is_opened k t ≡ true → is_opened m t ≡ true) → Moves c d t ds → Told c k t cs → Told d m t (cs ++ ds)
moved-told c d k m t cs ds more v o = record {
  welcomed = λ y. let z = sym v.welcomed ∙ y in v.channels z ∙ (ap (after ds) (o.welcomed z) ∙ sym (after-append cs ds (no_channels t)));
  opened = λ y. more (o.opened (sym v.welcomed ∙ y));
  unwelcomed = λ n. let z = sym v.welcomed ∙ n in ap₂ ◌++◌ (o.unwelcomed z) (v.unwelcomed z);
  others = others-append t cs ds o.others v.others;
}

-- The channels stay the same.
abbrev pub Stays : ClientState → ClientState → Type 0
Stays c d = (d.is_welcomed ≡ c.is_welcomed) × (d.channels ≡ c.channels)

pub stays-moves : (c d : ClientState) (t : ℕ) → Stays c d → Moves c d t []
stays-moves c d t s = record { welcomed = s.0; channels = λ _. s.1; unwelcomed = λ _. refl; others = tt }

-- Lines

abbrev pub LineStays : Library → ℕ → Library → Type 0
LineStays l t m = Stays (client_of l t) (client_of m t)

pub line-stays : (l : Library) (t u : ℕ) (y : Line) → Stays (client_of l u) y.client → LineStays l t (with_line u y l)
line-stays l t u y s = either (λ (z : Line). Stays (client_of l t) z.client) (t == u) y (l.lines t) (λ e. subst (λ n. Stays (client_of l n) y.client) (sym (eqb-true t u e)) s) (λ _. (refl, refl))

pub call-stays : (l : Library) (t u : ℕ) (f : ClientState → ClientState) → Stays (client_of l u) (f (client_of l u)) → LineStays l t (calls u f l)
call-stays l t u f s = either (LineStays l t) (runs l u) (with_line u (record (l.lines u) { client = f (client_of l u) }) l) l (λ _. line-stays l t u (record (l.lines u) { client = f (client_of l u) }) s) (λ _. (refl, refl))

pub unless-stays : {F : Type 0} → (r : Option F) (c d : ClientState) → Stays c d → Stays c (unless r c d)
unless-stays r c d s = either (Stays c) (is_some r) c d (λ _. (refl, refl)) (λ _. s)

pub choice-stays : (b : Bool) (c d : ClientState) → Stays c d → Stays c (cond b d c)
choice-stays b c d s = either (Stays c) b d c (λ _. s) (λ _. (refl, refl))

item-stays : (us : List Unsent) (c : ClientState) → Stays c (sending_item us c).client
item-stays [] c = (refl, refl)
item-stays (unsent.Resend ∷ us) c = (refl, refl)
item-stays (unsent.Command k ∷ us) c = (refl, refl)
item-stays (unsent.Post f ∷ us) c = (refl, refl)

due-stays : (ks : List ℕ) (c : ClientState) → Stays c (sending_due ks c).client
due-stays [] c = item-stays c.unsent c
due-stays (k ∷ ks) c = (refl, refl)

pub report-stays : (fs : List Frame) (c : ClientState) → Stays c (sending_report fs c).client
report-stays [] c = due-stays c.due c
report-stays (f ∷ fs) c = (refl, refl)

-- Calls on channels

-- A call by another tab's client, or by this one's.
called : (l : Library) (t u : ℕ) (f : ClientState → ClientState) (x : Call) → HearsOthers t (x ∷ [])
    → ((client_of l u).is_welcomed ≡ false → f (client_of l u) ≡ client_of l u)
    → ((f (client_of l u)).is_welcomed ≡ (client_of l u).is_welcomed) → ((client_of l u).is_welcomed ≡ true → (f (client_of l u)).channels ≡ channel_step x (client_of l u).channels)
    → Moves (client_of l t) (client_of (calls u f l) t) t (called_by t u l x)
called l t u f x others un wel chan = ⊎_elim
    (λ e. subst (λ n. Moves (client_of l t) (client_of (calls u f l) t) t (cond (n && (runs l u && (client_of l u).is_welcomed)) (x ∷ []) [])) (sym e)
    (subst (λ n. Moves (client_of l n) (client_of (calls u f l) n) t (cond (runs l u && (client_of l u).is_welcomed) (x ∷ []) [])) (eqb-true u t e) here))
    (λ n. subst (λ b. Moves (client_of l t) (client_of (calls u f l) t) t (cond (b && (runs l u && (client_of l u).is_welcomed)) (x ∷ []) [])) (sym n) (stays-moves _ _ t (elsewhere n)))
    (cases_Bool (u == t))
  where
    at-line : (y : Line) → client_of (with_line u y l) u ≡ y.client
    at-line y = ap (λ b. (cond b y (l.lines u)).client) (eq-eqb u u refl)

    here : Moves (client_of l u) (client_of (calls u f l) u) t (cond (runs l u && (client_of l u).is_welcomed) (x ∷ []) [])
    here = by_test (λ b. Moves (client_of l u) (client_of (cond b (with_line u (record (l.lines u) { client = f (client_of l u) }) l) l) u) t (cond (b && (client_of l u).is_welcomed) (x ∷ []) [])) (runs l u)
        (λ _. subst (λ z. Moves (client_of l u) z t (cond (client_of l u).is_welcomed (x ∷ []) [])) (sym (at-line (record (l.lines u) { client = f (client_of l u) })))
        (⊎_elim
        (λ y. subst (λ b. Moves (client_of l u) (f (client_of l u)) t (cond b (x ∷ []) [])) (sym y) (record { welcomed = wel; channels = chan; unwelcomed = λ n. apart y n; others = others }))
        (λ n. subst (λ b. Moves (client_of l u) (f (client_of l u)) t (cond b (x ∷ []) [])) (sym n) (stays-moves (client_of l u) (f (client_of l u)) t (wel, ap (λ c. c.channels) (un n))))
        (cases_Bool (client_of l u).is_welcomed)))
        (λ _. stays-moves (client_of l u) (client_of l u) t (refl, refl))

    elsewhere : (u == t) ≡ false → LineStays l t (calls u f l)
    elsewhere n = either (LineStays l t) (runs l u) (with_line u (record (l.lines u) { client = f (client_of l u) }) l) l
        (λ _. either (λ (z : Line). Stays (client_of l t) z.client) (t == u) (record (l.lines u) { client = f (client_of l u) }) (l.lines t) (λ e. apart (eq-eqb u t (sym (eqb-true t u e))) n) (λ _. (refl, refl)))
        (λ _. (refl, refl))

-- Only an open object has a place.
open-below : (os : List Object) (k : ℕ) → is_open_at os k ≡ true → k < length os
open-below [] k y = apart y refl
open-below (o ∷ os) zero y = omega arith
open-below (o ∷ os) (suc k) y = let lt = open-below os k (sym (is_open_at-suc o os k) ∙ y) in omega arith

mapped : (r : Option ChannelRefusal) (c : ClientState) → c.is_welcomed ≡ true → is_some (channel_refusal r c) ≡ is_some r
mapped r c y = ap (λ z. is_some (cond z (option_map of_channel r) (Some call.NotWelcomed))) y ∙ go r
  where
    go : (r : Option ChannelRefusal) → is_some (option_map of_channel r) ≡ is_some r
    go None = refl
    go (Some e) = refl

unmapped : (r : Option ChannelRefusal) (c d : ClientState) → c.is_welcomed ≡ false → unless (channel_refusal r c) c d ≡ c
unmapped r c d n = ap (λ z. cond (is_some (cond z (option_map of_channel r) (Some call.NotWelcomed))) c d) n

faulted : (r : Option ChannelFault) → is_some (option_map Fault r) ≡ is_some r
faulted None = refl
faulted (Some e) = refl

own-is : (c : ChannelState) (k : ℕ) → is_own c c.tab k ≡ is_open_at c.objects k
own-is c k = ap (λ z. z && is_open_at c.objects k) (eq-eqb c.tab c.tab refl)

number-is : (k : ℕ) (c : ChannelState) → is_some (number_refusal k c) ≡ not (is_open_at c.objects k)
number-is k c = ⊎_elim
    (λ y. ap (λ z. is_some (cond z (cond (is_open_at c.objects k) None (Some Closed)) (Some NoChannel))) (lt-ltb k (length c.objects) (open-below c.objects k y)) ∙ (ap (λ z. is_some (cond z None (Some Closed))) y ∙ ap not (sym y)))
    (λ n. either (λ z. is_some z ≡ not (is_open_at c.objects k)) (nat_lt k (length c.objects)) (cond (is_open_at c.objects k) None (Some Closed)) (Some NoChannel)
    (λ _. ap (λ z. is_some (cond z None (Some Closed))) n ∙ ap not (sym n)) (λ _. ap not (sym n)))
    (cases_Bool (is_open_at c.objects k))

pub posting-is : (k : ℕ) (bytes : List ℕ) (c : ChannelState) → is_some (posting_refusal k bytes c) ≡ is_some (post_refusal c.tab k bytes c)
posting-is k bytes c = ⊎_elim
    (λ y. or-later (number_refusal k c) (number-is k c ∙ ap not y) ∙ faulted (post_refusal c.tab k bytes c))
    (λ n. or-first (number_refusal k c) (number-is k c ∙ ap not n) ∙ sym (foreign n))
    (cases_Bool (is_open_at c.objects k))
  where
    or-later : (r : Option ChannelRefusal) → is_some r ≡ false → is_some (refusal_or r (option_map Fault (post_refusal c.tab k bytes c))) ≡ is_some (option_map Fault (post_refusal c.tab k bytes c))
    or-later None e = refl
    or-later (Some r) e = apart refl e

    or-first : (r : Option ChannelRefusal) → is_some r ≡ true → is_some (refusal_or r (option_map Fault (post_refusal c.tab k bytes c))) ≡ true
    or-first None e = apart e refl
    or-first (Some r) e = refl

    foreign : is_open_at c.objects k ≡ false → is_some (post_refusal c.tab k bytes c) ≡ true
    foreign n = either (λ z. is_some z ≡ true) (nat_lt DATA_LIMIT (length bytes)) (Some DataTooLong) (cond (nat_le post_limit c.posts) (Some PostsUsedUp) (cond (is_own c c.tab k) None (Some ForeignChannel)))
        (λ _. refl)
        (λ _. either (λ z. is_some z ≡ true) (nat_le post_limit c.posts) (Some PostsUsedUp) (cond (is_own c c.tab k) None (Some ForeignChannel)) (λ _. refl) (λ _. ap (λ z. is_some (cond z None (Some ForeignChannel))) (own-is c k ∙ n)))

-- The client's channels after a call that it may refuse.
unless-channels : (r : Option ChannelRefusal) (c d : ClientState) → c.is_welcomed ≡ true → (unless (channel_refusal r c) c d).channels ≡ cond (is_some r) c.channels d.channels
unless-channels r c d y = ap (λ z. (cond z c d).channels) (mapped r c y) ∙ go (is_some r)
  where
    go : (b : Bool) → (cond b c d).channels ≡ cond b c.channels d.channels
    go true = refl
    go false = refl

unless-welcomed : (r : Option ChannelRefusal) (c d : ClientState) → d.is_welcomed ≡ c.is_welcomed → (unless (channel_refusal r c) c d).is_welcomed ≡ c.is_welcomed
unless-welcomed r c d e = either (λ (z : ClientState). z.is_welcomed ≡ c.is_welcomed) (is_some (channel_refusal r c)) c d (λ _. refl) (λ _. e)

flipped : {X : Type 0} (b : Bool) (x y : X) → cond (not b) x y ≡ cond b y x
flipped true x y = refl
flipped false x y = refl

pub opens-moves : (l : Library) (t u : ℕ) (name : List ℕ) → Moves (client_of l t) (client_of (calls u (opens_channel name) l) t) t (called_by t u l (OpensOne name))
opens-moves l t u name =
    let c = client_of l u in
    let d = with_channels (opened name c.channels) c in
    called l t u (opens_channel name) (OpensOne name) tt (unmapped (option_map Fault (open_refusal name c.channels)) c d) (unless-welcomed (option_map Fault (open_refusal name c.channels)) c d refl)
    (λ y. unless-channels (option_map Fault (open_refusal name c.channels)) c d y ∙ ap (λ z. cond z c.channels (opened name c.channels)) (faulted (open_refusal name c.channels)))

pub posts-moves : (l : Library) (t u k : ℕ) (bytes : List ℕ) → Moves (client_of l t) (client_of (calls u (posts k bytes) l) t) t (called_by t u l (PostsOn k bytes))
posts-moves l t u k bytes =
    let c = client_of l u in
    let r = posting_refusal k bytes c.channels in
    called l t u (posts k bytes) (PostsOn k bytes) tt (unmapped r c (after_post k bytes c)) (unless-welcomed r c (after_post k bytes c) refl)
    (λ y. unless-channels r c (after_post k bytes c) y ∙ ap (λ z. cond z c.channels (posted k bytes c.channels)) (posting-is k bytes c.channels))

pub reads-moves : (l : Library) (t u k : ℕ) → Moves (client_of l t) (client_of (calls u (reads k) l) t) t (called_by t u l (ReadsFrom k))
reads-moves l t u k =
    let c = client_of l u in
    let r = number_refusal k c.channels in
    let d = with_channels (read_at k c.channels) c in
    called l t u (reads k) (ReadsFrom k) tt (unmapped r c d) (unless-welcomed r c d refl)
    (λ y. unless-channels r c d y ∙ (ap (λ z. cond z c.channels (read_at k c.channels)) (number-is k c.channels) ∙ (flipped (is_open_at c.channels.objects k) c.channels (read_at k c.channels) ∙ ap (λ z. cond z (read_at k c.channels) c.channels) (sym (own-is c.channels k)))))

pub closes-moves : (l : Library) (t u k : ℕ) → Moves (client_of l t) (client_of (calls u (after_close k) l) t) t (called_by t u l (ClosesOne k))
closes-moves l t u k =
    let c = client_of l u in
    let d = with_channels (closed_at k c.channels) c in
    called l t u (after_close k) (ClosesOne k) tt
    (λ n. ap (λ z. cond (z && is_open_at c.channels.objects k) d c) n)
    (either (λ (z : ClientState). z.is_welcomed ≡ c.is_welcomed) (c.is_welcomed && is_open_at c.channels.objects k) d c (λ _. refl) (λ _. refl))
    (λ y. ap (λ z. (cond (z && is_open_at c.channels.objects k) d c).channels) y ∙ (chosen (is_open_at c.channels.objects k) c d ∙ ap (λ z. cond z (closed_at k c.channels) c.channels) (sym (own-is c.channels k))))
  where
    chosen : (b : Bool) (c d : ClientState) → (cond b d c).channels ≡ cond b d.channels c.channels
    chosen true c d = refl
    chosen false c d = refl
