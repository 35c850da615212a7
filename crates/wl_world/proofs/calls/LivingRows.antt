-- Each living tab has its rows after every event.
use Rattle.std.proofs.Common.{◌≡◌, ℕ, Bool, true, false, cond, List, Option, Some, None, Result, Ok, Err, OnOk, OnErr, is_some, refl, sym, ap, ◌∙◌, subst}
use Rattle.wl_origin.specs.Order.{Pair}
use Rattle.wl_draft.specs.Tables.{Table, find, put}
use Rattle.wl_draft.proofs.Membership.{either}
use Rattle.wl_draft.proofs.TableLemmas.{find-put_same}
use Rattle.wl_broker.specs.Broker.{BrokerState}
use Rattle.wl_broadcast.specs.Channels.{ChannelState, no_channels}
use Rattle.wl_agent.specs.Tab.{TabState}
use Rattle.wl_kernel.specs.Kernel.{KernelState, lives as lives_in, is_living, open_refusal, opened, killed}
use Rattle.wl_supervised_broker.specs.Changes.{Change, stop_change}
use Rattle.wl_supervised_broker.specs.SupervisedStates.{SupervisedState, with_kernel, changed, after_stop}
use Rattle.wl_world_messages.specs.declared.message.Message.{Message}
use Rattle.wl_world_model.specs.World.{WorldState, lives}
use Rattle.wl_world.specs.Components.{OwnRows, HasRows, IsRowed, world_of}
use Rattle.wl_world_model.proofs.Tables.{each_found}
use Rattle.wl_world.proofs.calls.ChannelCalls.{OwnRows-put}
use Rattle.wl_world_model.proofs.exclusion.OpenedTabs.{each_opened, ended-lives}
use Rattle.wl_world_model.proofs.exclusion.OpeningAndKilling.{not_opened}

-- Storing a row

has-put : {X : Type 0} (k : KernelState) (t : ℕ) (x : X) (rows : Table X) → HasRows k rows → HasRows k (put t x rows)
has-put k t x rows has = each_found (λ u o. is_living k u ≡ true → is_some o ≡ true) t x rows (λ _. refl) (λ u d. has u)

pub tabs-put : (k : KernelState) (t : ℕ) (a : TabState) (ts us : Table TabState) (cs : Table ChannelState) → us ≡ put t a ts → IsRowed k ts cs → IsRowed k us cs
tabs-put k t a ts us cs is r = record { tabs = subst (HasRows k) (sym is) (has-put k t a ts r.tabs); channels = r.channels; own = r.own }

-- The invariant holds for new tab rows at the same numbers.
pub tabs-kept : (k : KernelState) (ts us : Table TabState) (cs : Table ChannelState) → ((t : ℕ) → is_some (find us t) ≡ is_some (find ts t)) → IsRowed k ts cs → IsRowed k us cs
tabs-kept k ts us cs is r = record { tabs = λ t l. is t ∙ r.tabs t l; channels = r.channels; own = r.own }

pub tabs-same : (k : KernelState) (ts us : Table TabState) (cs : Table ChannelState) → us ≡ ts → IsRowed k ts cs → IsRowed k us cs
tabs-same k ts us cs is r = record { tabs = subst (HasRows k) (sym is) r.tabs; channels = r.channels; own = r.own }

pub tabs-after : {X E : Type 0} (r : Result X E) (k : KernelState) (t : ℕ) (a : TabState) (ts us : Table TabState) (cs : Table ChannelState) → OnOk r (us ≡ put t a ts) → OnErr r (us ≡ ts) → IsRowed k ts cs → IsRowed k us cs
tabs-after (Ok x) k t a ts us cs ok err r = tabs-put k t a ts us cs ok r
tabs-after (Err x) k t a ts us cs ok err r = tabs-same k ts us cs err r

pub tabs-after_if : (b : Bool) (k : KernelState) (t : ℕ) (a : TabState) (ts us : Table TabState) (cs : Table ChannelState) → us ≡ cond b (put t a ts) ts → IsRowed k ts cs → IsRowed k us cs
tabs-after_if true k t a ts us cs is r = tabs-put k t a ts us cs is r
tabs-after_if false k t a ts us cs is r = tabs-same k ts us cs is r

pub channels-put : (k : KernelState) (t : ℕ) (c : ChannelState) (ts : Table TabState) (cs ds : Table ChannelState) → ds ≡ put t c cs → c.tab ≡ t → IsRowed k ts cs → IsRowed k ts ds
channels-put k t c ts cs ds is e r = record {
  tabs = r.tabs;
  channels = subst (HasRows k) (sym is) (has-put k t c cs r.channels);
  own = subst OwnRows (sym is) (OwnRows-put t c cs e r.own);
}

pub channels-same : (k : KernelState) (ts : Table TabState) (cs ds : Table ChannelState) → ds ≡ cs → IsRowed k ts cs → IsRowed k ts ds
channels-same k ts cs ds is r = record { tabs = r.tabs; channels = subst (HasRows k) (sym is) r.channels; own = subst OwnRows (sym is) r.own }

pub channels-after : {X E : Type 0} (r : Result X E) (k : KernelState) (t : ℕ) (c : ChannelState) (ts : Table TabState) (cs ds : Table ChannelState) → OnOk r (ds ≡ put t c cs) → OnErr r (ds ≡ cs) → c.tab ≡ t → IsRowed k ts cs → IsRowed k ts ds
channels-after (Ok x) k t c ts cs ds ok err e r = channels-put k t c ts cs ds ok e r
channels-after (Err x) k t c ts cs ds ok err e r = channels-same k ts cs ds err r

pub channels-after_if : (b : Bool) (k : KernelState) (t : ℕ) (c : ChannelState) (ts : Table TabState) (cs ds : Table ChannelState) → ds ≡ cond b (put t c cs) cs → c.tab ≡ t → IsRowed k ts cs → IsRowed k ts ds
channels-after_if true k t c ts cs ds is e r = channels-put k t c ts cs ds is e r
channels-after_if false k t c ts cs ds is e r = channels-same k ts cs ds is r

-- Changes of the supervisor

-- The invariant holds if no further tab lives.
fewer-rowed : (k m : KernelState) (ts : Table TabState) (cs : Table ChannelState) → ((u : ℕ) → is_living m u ≡ true → is_living k u ≡ true) → IsRowed k ts cs → IsRowed m ts cs
fewer-rowed k m ts cs lived r = record { tabs = λ u l. r.tabs u (lived u l); channels = λ u l. r.channels u (lived u l); own = r.own }

pub kernel-rowed : (k m : KernelState) (ts : Table TabState) (cs : Table ChannelState) → m ≡ k → IsRowed k ts cs → IsRowed m ts cs
kernel-rowed k m ts cs is r = subst (λ z. IsRowed z ts cs) (sym is) r

-- An opened tab has its rows.
opened-rowed : (k : KernelState) (t : ℕ) (p : Pair) (a : TabState) (ts : Table TabState) (cs : Table ChannelState) → open_refusal t p k ≡ None → IsRowed k ts cs → IsRowed (opened t p k) (put t a ts) (put t (no_channels t) cs)
opened-rowed k t p a ts cs none r =
    let un = not_opened k t p (ap is_some none) in
    record {
      tabs = each_opened (λ u o q. lives_in o ≡ true → is_some (find (put t a ts) u) ≡ true) k t p un (λ q l. ap is_some (find-put_same t a ts)) (λ u d l. has-put k t a ts r.tabs u l);
      channels = each_opened (λ u o q. lives_in o ≡ true → is_some (find (put t (no_channels t) cs) u) ≡ true) k t p un (λ q l. ap is_some (find-put_same t (no_channels t) cs)) (λ u d l. has-put k t (no_channels t) cs r.channels u l);
      own = OwnRows-put t (no_channels t) cs refl r.own;
    }

pub opens-rowed : (s n : SupervisedState) (t : ℕ) (p : Pair) (a : TabState) (ts us : Table TabState) (cs ds : Table ChannelState) → n ≡ with_kernel (opened t p s.kernel) s → open_refusal t p s.kernel ≡ None → us ≡ put t a ts → ds ≡ put t (no_channels t) cs → IsRowed s.kernel ts cs → IsRowed n.kernel us ds
opens-rowed s n t p a ts us cs ds is none tabs channels r =
    kernel-rowed (opened t p s.kernel) n.kernel us ds (ap (λ (z : SupervisedState). z.kernel) is)
    (subst (λ z. IsRowed (opened t p s.kernel) z ds) (sym tabs)
    (subst (λ z. IsRowed (opened t p s.kernel) (put t a ts) z) (sym channels)
    (opened-rowed s.kernel t p a ts cs none r)))

pub kills-rowed : (s n : SupervisedState) (t : ℕ) (ts : Table TabState) (cs : Table ChannelState) → n ≡ with_kernel (cond (is_living s.kernel t) (killed t s.kernel) s.kernel) s → IsRowed s.kernel ts cs → IsRowed n.kernel ts cs
kills-rowed s n t ts cs is r =
    let k = s.kernel in
    let m = cond (is_living k t) (killed t k) k in
    kernel-rowed m n.kernel ts cs (ap (λ (z : SupervisedState). z.kernel) is)
    (fewer-rowed k m ts cs (λ u. either (λ z. is_living z u ≡ true → is_living k u ≡ true) (is_living k t) (killed t k) k (λ _ l. ended-lives t k.opened u l) (λ _ l. l)) r)

-- Stops leave every living tab alive.
change-living : (c : Change) (s : SupervisedState) → ((u : ℕ) → is_living c.kernel u ≡ is_living s.kernel u) → (u : ℕ) → is_living (changed c s).kernel u ≡ is_living s.kernel u
change-living c s same u = elim c.happens as (λ h. is_living (cond h (record { kernel = c.kernel; broker = c.broker }) s).kernel u ≡ is_living s.kernel u) [ true ↦ same u | false ↦ refl ]

stop-kernel : (k : KernelState) (o : Option BrokerState) (u : ℕ) → is_living (stop_change k o).kernel u ≡ is_living k u
stop-kernel k None u = refl
stop-kernel k (Some b) u = refl

stop-living : (s : SupervisedState) (u : ℕ) → is_living (after_stop s).kernel u ≡ is_living s.kernel u
stop-living s = change-living (stop_change s.kernel s.broker) s (stop-kernel s.kernel s.broker)

kept-rowed : (s m n : SupervisedState) (tabs : Table TabState) (cs : Table ChannelState) → ((u : ℕ) → is_living m.kernel u ≡ is_living s.kernel u) → n ≡ m → IsRowed s.kernel tabs cs → IsRowed n.kernel tabs cs
kept-rowed s m n tabs cs same is r = fewer-rowed s.kernel n.kernel tabs cs (λ u l. sym (same u) ∙ subst (λ z. is_living z.kernel u ≡ true) is l) r

pub stops-rowed : (s n : SupervisedState) (tabs : Table TabState) (cs : Table ChannelState) → n ≡ after_stop s → IsRowed s.kernel tabs cs → IsRowed n.kernel tabs cs
stops-rowed s n tabs cs = kept-rowed s (after_stop s) n tabs cs (stop-living s)

-- Rows of a living tab

module _ (ts : Table TabState) (cs : Table ChannelState) (s : SupervisedState) (bag : List Message) (corrupt : List ℕ) (w : WorldState) (v : world_of ts cs s bag corrupt ≡ w) (t : ℕ) (live : lives w t ≡ true) (r : IsRowed s.kernel ts cs) where
  pub tab-there : is_some (find ts t) ≡ true
  tab-there = r.tabs t (ap (λ z. lives z t) v ∙ live)

  pub channels-there : is_some (find cs t) ≡ true
  channels-there = r.channels t (ap (λ z. lives z t) v ∙ live)
