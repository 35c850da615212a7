-- Commands of a tab change its row as the definition changes the world.
use Rattle.std.proofs.Common.{◌≡◌, ℕ, List, length, Bool, true, false, ◌&&◌, cond, Some, None, refl, sym, ap, ◌∙◌, subst}
use Rattle.wl_draft.specs.declared.mode.Mode.{Mode}
use Rattle.wl_draft.specs.Tables.{Table, find, put}
use Rattle.wl_draft.proofs.TableLemmas.{find-put_same}
use Rattle.wl_broadcast.specs.Channels.{ChannelState}
use Rattle.wl_agent.specs.Tab.{TabState, asked, queried, aborted, released, ask_refusal, query_refusal, status_of, is_asked}
use Rattle.wl_agent.specs.Tokens.{is_pending, is_holding}
use Rattle.wl_world_messages.specs.declared.message.Message.{Message}
use Rattle.wl_tab.specs.declared.locks.AbortResult.TheVariants as a
use Rattle.wl_tab.specs.Tabs.{tab_in}
use Rattle.wl_tab.specs.TabTokens.{abortion}
use Rattle.wl_supervised_broker.specs.SupervisedStates.{SupervisedState}
use Rattle.wl_world_model.specs.World.{WorldState, StepResult, tab_of, lives, acts, issues_command, asks, queries, aborts, releases, resends, if_allowed}
use Rattle.wl_world_model.specs.Sends.{issued_messages, resent}
use Rattle.wl_world_model.specs.Replies.{resending, some_resent}
use Rattle.wl_world.specs.Components.{world_of}

-- A new command

pub issue-sends : (ts : Table TabState) (cs : Table ChannelState) (s : SupervisedState) (bag : List Message) (corrupt : List ℕ) (t : ℕ) (x : TabState) (us : Table TabState) (n : ℕ) → us ≡ put t x ts → n ≡ length (tab_in t (find ts t)).issued → issued_messages s.kernel t (tab_in t (find us t)) n ≡ (issues_command (world_of ts cs s bag corrupt) t x).sends
unfolding acts
issue-sends ts cs s bag corrupt t x us n e l =
    ap (λ z. issued_messages s.kernel t (tab_in t (find z t)) n) e
    ∙ ap (λ o. issued_messages s.kernel t (tab_in t o) n) (find-put_same t x ts)
    ∙ ap (λ m. issued_messages s.kernel t x m) l

-- Requests and probes

pub asks-done : (w : WorldState) (t : ℕ) (m : Mode) (f : Bool) (name : List ℕ) → lives w t ≡ true → ask_refusal (tab_of w t) name ≡ None → asks w t m f name ≡ issues_command w t (asked m f name (tab_of w t))
asks-done w t m f name live r = rw (live, r) refl

-- Queries

pub queries-done : (w : WorldState) (t : ℕ) → lives w t ≡ true → query_refusal (tab_of w t) ≡ None → queries w t ≡ issues_command w t (queried (tab_of w t))
queries-done w t live r = rw (live, r) refl

-- Aborts

-- An abort issues a command only if its number is pending and asked.
issued_by : (p q : Bool) (l n : ℕ) → cond p (cond q (a.Issued l) a.Held) a.Nothing ≡ a.Issued n → (p ≡ true) × (q ≡ true) × (l ≡ n)
issued_by true true l n e = (refl, refl, cc)
issued_by true false l n e = cc
issued_by false q l n e = cc

pub abort-issued : (k n : ℕ) (x : TabState) → abortion k x ≡ a.Issued n → (is_pending x k ≡ true) × (is_asked (status_of x k) ≡ true) × (length x.issued ≡ n)
abort-issued k n x e = issued_by (is_pending x k) (is_asked (status_of x k)) (length x.issued) n e

pub aborts-done : (w : WorldState) (t k : ℕ) → lives w t ≡ true → is_pending (tab_of w t) k ≡ true → is_asked (status_of (tab_of w t) k) ≡ true → aborts w t k ≡ issues_command w t (aborted k (tab_of w t))
aborts-done w t k live p q = rw (live, p, q) refl

-- Releases

pub releases-done : (w : WorldState) (t k : ℕ) → lives w t ≡ true → is_holding (tab_of w t) k ≡ true → releases w t k ≡ issues_command w t (released k (tab_of w t))
releases-done w t k live p = rw (live, p) refl

release_by : (p : Bool) (l n : ℕ) → Some n ≡ cond p (Some l) None → (p ≡ true) × (l ≡ n)
release_by true l n e = (refl, cc)
release_by false l n e = cc

pub release-issued : (k n : ℕ) (x : TabState) → Some n ≡ cond (is_holding x k) (Some (length x.issued)) None → (is_holding x k ≡ true) × (length x.issued ≡ n)
release-issued k n x e = release_by (is_holding x k) (length x.issued) n e

-- Resending

pub resends-sends : (w : WorldState) (t : ℕ) → lives w t ≡ true → (resends w t).sends ≡ resent w.kernel t (tab_of w t)
resends-sends w t live = rw live refl

pub resends-same : (w : WorldState) (t : ℕ) → (resends w t).world ≡ w
resends-same w t = elim (lives w t) as (λ b. (if_allowed b w (record { world = w; sends = resent w.kernel t (tab_of w t) })).world ≡ w) [ true ↦ refl | false ↦ refl ]

pub resending-done : (w : WorldState) (t : ℕ) → lives w t ≡ true → resending w t ≡ some_resent (resent w.kernel t (tab_of w t))
resending-done w t live = rw live refl

-- Messages sent, over the parts of the world

pub asked-sends : (ts : Table TabState) (cs : Table ChannelState) (s : SupervisedState) (bag : List Message) (corrupt : List ℕ) (w : WorldState) → world_of ts cs s bag corrupt ≡ w → (t : ℕ) (m : Mode) (f : Bool) (name : List ℕ) (us : Table TabState) (n : ℕ) → lives w t ≡ true → us ≡ put t (asked m f name (tab_in t (find ts t))) ts → ask_refusal (tab_in t (find ts t)) name ≡ None → n ≡ length (tab_in t (find ts t)).issued → issued_messages s.kernel t (tab_in t (find us t)) n ≡ (asks w t m f name).sends
asked-sends ts cs s bag corrupt w v t m f name us n live e none l =
    subst (λ (z : WorldState). lives z t ≡ true → issued_messages s.kernel t (tab_in t (find us t)) n ≡ (asks z t m f name).sends) v
    (λ alive. issue-sends ts cs s bag corrupt t _ us n e l ∙ ap (λ (d : StepResult). d.sends) (sym (asks-done (world_of ts cs s bag corrupt) t m f name alive none)))
    live

pub queried-sends : (ts : Table TabState) (cs : Table ChannelState) (s : SupervisedState) (bag : List Message) (corrupt : List ℕ) (w : WorldState) → world_of ts cs s bag corrupt ≡ w → (t : ℕ) (us : Table TabState) (n : ℕ) → lives w t ≡ true → us ≡ put t (queried (tab_in t (find ts t))) ts → query_refusal (tab_in t (find ts t)) ≡ None → n ≡ length (tab_in t (find ts t)).issued → issued_messages s.kernel t (tab_in t (find us t)) n ≡ (queries w t).sends
queried-sends ts cs s bag corrupt w v t us n live e none l =
    subst (λ (z : WorldState). lives z t ≡ true → issued_messages s.kernel t (tab_in t (find us t)) n ≡ (queries z t).sends) v
    (λ alive. issue-sends ts cs s bag corrupt t _ us n e l ∙ ap (λ (d : StepResult). d.sends) (sym (queries-done (world_of ts cs s bag corrupt) t alive none)))
    live

both_true : (p q : Bool) (us ts vs : Table TabState) → p ≡ true → q ≡ true → us ≡ cond (p && q) vs ts → us ≡ vs
both_true p q us ts vs e f h = rw (e, f) at h

pub aborted-sends : (ts : Table TabState) (cs : Table ChannelState) (s : SupervisedState) (bag : List Message) (corrupt : List ℕ) (w : WorldState) → world_of ts cs s bag corrupt ≡ w → (t k : ℕ) (us : Table TabState) (n : ℕ) → lives w t ≡ true → us ≡ cond (is_pending (tab_in t (find ts t)) k && is_asked (status_of (tab_in t (find ts t)) k)) (put t (aborted k (tab_in t (find ts t))) ts) ts → abortion k (tab_in t (find ts t)) ≡ a.Issued n → issued_messages s.kernel t (tab_in t (find us t)) n ≡ (aborts w t k).sends
aborted-sends ts cs s bag corrupt w v t k us n live e said =
    let x = tab_in t (find ts t) in
    let p = abort-issued k n x said in
    subst (λ (z : WorldState). lives z t ≡ true → issued_messages s.kernel t (tab_in t (find us t)) n ≡ (aborts z t k).sends) v
    (λ alive. issue-sends ts cs s bag corrupt t _ us n (both_true _ _ us ts _ p.0 p.1 e) (sym p.2) ∙ ap (λ (d : StepResult). d.sends) (sym (aborts-done (world_of ts cs s bag corrupt) t k alive p.0 p.1)))
    live

one_true : (p : Bool) (us ts vs : Table TabState) → p ≡ true → us ≡ cond p vs ts → us ≡ vs
one_true p us ts vs e h = rw e at h

pub released-sends : (ts : Table TabState) (cs : Table ChannelState) (s : SupervisedState) (bag : List Message) (corrupt : List ℕ) (w : WorldState) → world_of ts cs s bag corrupt ≡ w → (t k : ℕ) (us : Table TabState) (n : ℕ) → lives w t ≡ true → us ≡ cond (is_holding (tab_in t (find ts t)) k) (put t (released k (tab_in t (find ts t))) ts) ts → Some n ≡ cond (is_holding (tab_in t (find ts t)) k) (Some (length (tab_in t (find ts t)).issued)) None → issued_messages s.kernel t (tab_in t (find us t)) n ≡ (releases w t k).sends
released-sends ts cs s bag corrupt w v t k us n live e next =
    let x = tab_in t (find ts t) in
    let p = release-issued k n x next in
    subst (λ (z : WorldState). lives z t ≡ true → issued_messages s.kernel t (tab_in t (find us t)) n ≡ (releases z t k).sends) v
    (λ alive. issue-sends ts cs s bag corrupt t _ us n (one_true _ us ts _ p.0 e) (sym p.1) ∙ ap (λ (d : StepResult). d.sends) (sym (releases-done (world_of ts cs s bag corrupt) t k alive p.0)))
    live
