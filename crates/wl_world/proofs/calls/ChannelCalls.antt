-- Calls on a tab's channels change its row as the definition changes the world.
use Rattle.std.proofs.Common.{◌≡◌, ℕ, zero, suc, arith, is_some, ◌∷◌, Bool, true, false, ◌&&◌, cond, length, ltb, leb, List, [], map, Option, Some, None, option_map, refl, sym, ap, ◌∙◌, subst, ⊎_elim}
use Rattle.std.proofs.lemmas.Bool.{cases_eq, eq-eqb, ltb-false, le-ltb}
use Rattle.wl_draft.specs.Tables.{Table, find, put}
use Rattle.wl_draft.proofs.TableLemmas.{find-put_same, find-put_other}
use Rattle.wl_grammar.specs.declared.frame.Heard.{Heard}
use Rattle.wl_grammar.specs.declared.frame.Frame.TheVariants as frame
use Rattle.wl_broadcast.specs.declared.fault.ChannelFault.TheVariants as fault
use Rattle.wl_broadcast.specs.Channels.{Object, ChannelState, after_hearing, heard, is_old, is_open_at, is_own, post_refusal, posted, read_at, post_limit, name_at}
use Rattle.wl_broadcast.proofs.Numbered.{is_open_at-suc}
use Rattle.wl_kernel.specs.Routes.{hearers}
use Rattle.wl_world_messages.specs.declared.effect.Effect.{Effect}
use Rattle.wl_world_messages.specs.declared.effect.Effect.TheVariants as said
use Rattle.wl_world_messages.specs.declared.effect.Refusal.TheVariants as refusal
use Rattle.wl_world_messages.specs.Refused.{refused}
use Rattle.wl_tab.specs.declared.channels.ChannelRefusal.{ChannelRefusal}
use Rattle.wl_tab.specs.declared.channels.ChannelRefusal.TheVariants as why
use Rattle.wl_tab.specs.Tabs.{channels_in}
use Rattle.wl_tab.specs.TabChannels.{number_refusal, posting_refusal, refusal_or}
use Rattle.wl_world_model.specs.World.{WorldState, channels_of, lives, becomes, posts, reads, unchanged, post_of}
use Rattle.wl_world_model.specs.Sends.{across}
use Rattle.wl_world_model.specs.Replies.{posting, reached}
use Rattle.wl_world.specs.Components.{OwnRows, of_posting}
use Rattle.wl_world_model.proofs.replies.RefusedEvents.{open_beyond}

-- Each tab's channels carry its number

pub OwnRows-put : (t : ℕ) (c : ChannelState) (rows : Table ChannelState) → c.tab ≡ t → OwnRows rows → OwnRows (put t c rows)
OwnRows-put t c rows e own u =
    ⊎_elim
    (λ same. subst (λ (v : ℕ). (channels_in v (find (put t c rows) v)).tab ≡ v) (sym same) (ap (λ o. (channels_in t o).tab) (find-put_same t c rows) ∙ e))
    (λ other. ap (λ o. (channels_in u o).tab) (find-put_other t c rows u other) ∙ own u)
    (cases_eq u t)

pub after_hearing-tab : (h : Heard) (c : ChannelState) → (after_hearing (frame.Heard h) c).tab ≡ c.tab
after_hearing-tab h c = elim (is_old c h.source h.number) as (λ b. (cond b c (heard h c)).tab ≡ c.tab) [ true ↦ refl | false ↦ refl ]

-- An open object in a tab's channels is its own.
pub own-open : (c : ChannelState) (t k : ℕ) → c.tab ≡ t → is_own c t k ≡ is_open_at c.objects k
own-open c t k e = ap (λ b. b && is_open_at c.objects k) (eq-eqb t c.tab (sym e))

-- Posting: no such number, closed, too long, used up

abbrev refusal_by : (l o d p : Bool) → Option ChannelRefusal
refusal_by l o d p =
    cond l (cond o (cond d (Some (why.Fault fault.DataTooLong)) (cond p (Some (why.Fault fault.PostsUsedUp)) None)) (Some why.Closed)) (Some why.NoChannel)

abbrev said_by : (l o d p : Bool) → Effect → Effect
said_by l o d p s =
    cond l (cond o (cond d (refused (refusal.Channel fault.DataTooLong)) (cond p (refused (refusal.Channel fault.PostsUsedUp)) s)) (refused refusal.InvalidState)) (refused refusal.NoChannel)

refused-by : (l o d p : Bool) (s : Effect) (e : ChannelRefusal) → refusal_by l o d p ≡ Some e → said_by l o d p s ≡ refused (of_posting e)
refused-by true true true p s e h = let k : why.Fault fault.DataTooLong ≡ e = cc in ap (λ x. refused (of_posting x)) k
refused-by true true false true s e h = let k : why.Fault fault.PostsUsedUp ≡ e = cc in ap (λ x. refused (of_posting x)) k
refused-by true true false false s e h = cc
refused-by true false d p s e h = let k : why.Closed ≡ e = cc in ap (λ x. refused (of_posting x)) k
refused-by false o d p s e h = let k : why.NoChannel ≡ e = cc in ap (λ x. refused (of_posting x)) k

allowed-by : (l o d p : Bool) → refusal_by l o d p ≡ None → (l ≡ true) × (o ≡ true) × (d ≡ false) × (p ≡ false)
allowed-by true true true p h = cc
allowed-by true true false true h = cc
allowed-by true true false false h = (refl, refl, refl, refl)
allowed-by true false d p h = cc
allowed-by false o d p h = cc

post_shape : (l o d p own : Bool) → own ≡ o → refusal_or (cond l (cond o None (Some why.Closed)) (Some why.NoChannel)) (option_map why.Fault (cond d (Some fault.DataTooLong) (cond p (Some fault.PostsUsedUp) (cond own None (Some fault.ForeignChannel))))) ≡ refusal_by l o d p
post_shape true true true p own e = refl
post_shape true true false true own e = refl
post_shape true true false false own e = rw e refl
post_shape true false d p own e = refl
post_shape false o d p own e = refl

posting-by : (k : ℕ) (bytes : List ℕ) (c : ChannelState) → posting_refusal k bytes c ≡ refusal_by (ltb k (length c.objects)) (is_open_at c.objects k) (ltb 16384 (length bytes)) (leb post_limit c.posts)
posting-by k bytes c = post_shape (ltb k (length c.objects)) (is_open_at c.objects k) (ltb 16384 (length bytes)) (leb post_limit c.posts) (is_own c c.tab k) (own-open c c.tab k refl)

posting-said : (w : WorldState) (t k : ℕ) (bytes : List ℕ) → lives w t ≡ true → (channels_of w t).tab ≡ t → posting w t k bytes ≡ said_by (ltb k (length (channels_of w t).objects)) (is_open_at (channels_of w t).objects k) (ltb 16384 (length bytes)) (leb post_limit (channels_of w t).posts) (said.Posted t (channels_of w t).posts bytes (reached (Some k) (name_at (channels_of w t).objects k) (channels_of w t).objects))
posting-said w t k bytes live own = rw (live, own-open (channels_of w t) t k own) refl

pub posting-refused : (w : WorldState) (t k : ℕ) (bytes : List ℕ) (e : ChannelRefusal) → lives w t ≡ true → (channels_of w t).tab ≡ t → posting_refusal k bytes (channels_of w t) ≡ Some e → posting w t k bytes ≡ refused (of_posting e)
posting-refused w t k bytes e live own h =
    let c = channels_of w t in
    posting-said w t k bytes live own ∙ refused-by (ltb k (length c.objects)) (is_open_at c.objects k) (ltb 16384 (length bytes)) (leb post_limit c.posts) (said.Posted t c.posts bytes (reached (Some k) (name_at c.objects k) c.objects)) e (sym (posting-by k bytes c) ∙ h)

said-allowed : (l o d p : Bool) (s : Effect) → (l ≡ true) × (o ≡ true) × (d ≡ false) × (p ≡ false) → said_by l o d p s ≡ s
said-allowed l o d p s h = rw (h.0, h.1, h.2, h.3) refl

pub posting-done : (w : WorldState) (t k : ℕ) (bytes : List ℕ) → lives w t ≡ true → (channels_of w t).tab ≡ t → posting_refusal k bytes (channels_of w t) ≡ None → posting w t k bytes ≡ said.Posted t (channels_of w t).posts bytes (reached (Some k) (name_at (channels_of w t).objects k) (channels_of w t).objects)
posting-done w t k bytes live own h =
    let c = channels_of w t in
    let may = allowed-by (ltb k (length c.objects)) (is_open_at c.objects k) (ltb 16384 (length bytes)) (leb post_limit c.posts) (sym (posting-by k bytes c) ∙ h) in
    posting-said w t k bytes live own ∙ said-allowed (ltb k (length c.objects)) (is_open_at c.objects k) (ltb 16384 (length bytes)) (leb post_limit c.posts) (said.Posted t c.posts bytes (reached (Some k) (name_at c.objects k) c.objects)) may

-- If no refusal applies, the definition of the channels accepts the post.
may_post : (l o d p own : Bool) → own ≡ o → refusal_by l o d p ≡ None → is_some (cond d (Some fault.DataTooLong) (cond p (Some fault.PostsUsedUp) (cond own None (Some fault.ForeignChannel)))) ≡ false
may_post true true true p own e h = cc
may_post true true false true own e h = cc
may_post true true false false own e h = rw e refl
may_post true false d p own e h = cc
may_post false o d p own e h = cc

may_not : (o d p own : Bool) → o ≡ false → own ≡ o → is_some (cond d (Some fault.DataTooLong) (cond p (Some fault.PostsUsedUp) (cond own None (Some fault.ForeignChannel)))) ≡ true
may_not o true p own f e = refl
may_not o false true own f e = refl
may_not o false false own f e = rw (e, f) refl

may_not_post : (l o d p own : Bool) (r : ChannelRefusal) → own ≡ o → (l ≡ false → o ≡ false) → refusal_by l o d p ≡ Some r → is_some (cond d (Some fault.DataTooLong) (cond p (Some fault.PostsUsedUp) (cond own None (Some fault.ForeignChannel)))) ≡ true
may_not_post true true true p own r e b h = refl
may_not_post true true false true own r e b h = refl
may_not_post true true false false own r e b h = cc
may_not_post true false d p own r e b h = may_not false d p own refl e
may_not_post false o d p own r e b h = may_not o d p own (b refl) e

pub posts-refused : (w : WorldState) (t k : ℕ) (bytes : List ℕ) (e : ChannelRefusal) → lives w t ≡ true → (channels_of w t).tab ≡ t → posting_refusal k bytes (channels_of w t) ≡ Some e → posts w t k bytes ≡ unchanged w
posts-refused w t k bytes e live own h =
    let c = channels_of w t in
    let some : is_some (post_refusal t k bytes c) ≡ true = may_not_post (ltb k (length c.objects)) (is_open_at c.objects k) (ltb 16384 (length bytes)) (leb post_limit c.posts) (is_own c t k) e (own-open c t k own) (open_beyond c.objects k) (sym (posting-by k bytes c) ∙ h) in
    rw (live, some) refl

pub posts-done : (w : WorldState) (t k : ℕ) (bytes : List ℕ) → lives w t ≡ true → (channels_of w t).tab ≡ t → posting_refusal k bytes (channels_of w t) ≡ None → posts w t k bytes ≡ becomes w t (posted k bytes (channels_of w t)) (map (across t (post_of k bytes (channels_of w t))) (hearers t w.kernel))
posts-done w t k bytes live own h =
    let c = channels_of w t in
    let none : is_some (post_refusal t k bytes c) ≡ false = may_post (ltb k (length c.objects)) (is_open_at c.objects k) (ltb 16384 (length bytes)) (leb post_limit c.posts) (is_own c t k) (own-open c t k own) (sym (posting-by k bytes c) ∙ h) in
    rw (live, none) refl

-- Reading

number_allowed : (l o : Bool) → cond l (cond o None (Some why.Closed)) (Some why.NoChannel) ≡ None → (l ≡ true) × (o ≡ true)
number_allowed true true h = (refl, refl)
number_allowed true false h = cc
number_allowed false o h = cc

number_not_open : (l o : Bool) (e : ChannelRefusal) → (l ≡ false → o ≡ false) → cond l (cond o None (Some why.Closed)) (Some why.NoChannel) ≡ Some e → o ≡ false
number_not_open true true e b h = cc
number_not_open true false e b h = refl
number_not_open false o e b h = b refl

pub reads-done : (w : WorldState) (t k : ℕ) → lives w t ≡ true → (channels_of w t).tab ≡ t → number_refusal k (channels_of w t) ≡ None → reads w t k ≡ becomes w t (read_at k (channels_of w t)) []
reads-done w t k live own h =
    let c = channels_of w t in
    let yes : is_own c t k ≡ true = own-open c t k own ∙ (number_allowed (ltb k (length c.objects)) (is_open_at c.objects k) h).1 in
    rw (live, yes) refl

pub reads-refused : (w : WorldState) (t k : ℕ) (e : ChannelRefusal) → lives w t ≡ true → (channels_of w t).tab ≡ t → number_refusal k (channels_of w t) ≡ Some e → reads w t k ≡ unchanged w
reads-refused w t k e live own h =
    let c = channels_of w t in
    let no : is_own c t k ≡ false = own-open c t k own ∙ number_not_open (ltb k (length c.objects)) (is_open_at c.objects k) e (open_beyond c.objects k) h in
    rw (live, no) refl
