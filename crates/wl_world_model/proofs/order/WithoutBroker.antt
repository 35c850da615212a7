-- Events at which no broker starts, stops or sends.
use Rattle.std.proofs.Common.{◌≡◌, Some, None, ap, ⊎_elim, ℕ, ◌+◌, ◌<◌, ◌≤◌, Bool, true, not, ◌&&◌, List, [], ◌∷◌, ◌++◌, length, length-append, map, is_some, refl, sym, ◌∙◌, subst, arith, le_refl}
use Rattle.std.specs.Prelude.{◌==◌, nat_lt}
use Rattle.std.proofs.lemmas.Bool.{not-true, and_parts}
use Rattle.wl_origin.specs.Order.{Pair}
use Rattle.wl_draft.specs.declared.mode.Mode.{Mode}
use Rattle.wl_draft.specs.Tables.{Table, put}
use Rattle.wl_grammar.specs.declared.frame.Operation.{Operation}
use Rattle.wl_grammar.specs.declared.frame.Report.{Report}
use Rattle.wl_grammar.specs.declared.frame.Upward.{Upward}
use Rattle.wl_grammar.specs.declared.frame.Upward.TheVariants as up
use Rattle.wl_grammar.specs.declared.frame.Downward.{Downward}
use Rattle.wl_grammar.specs.declared.frame.Downward.TheVariants as down
use Rattle.wl_broadcast.specs.Channels.{ChannelState, open_refusal as channel_refusal, opened as channel_opened, post_refusal, posted, is_own as is_own_channel, read_at, closed_at}
use Rattle.wl_broker_reports.specs.ReportParts.{Told, at_once, in_part, content_of}
use Rattle.wl_broker.specs.Broker.{hello_to}
use Rattle.wl_agent.specs.declared.delivered.Delivered.{Delivered}
use Rattle.wl_agent.specs.declared.delivered.Delivered.TheVariants as heard
use Rattle.wl_agent.specs.Tab.{TabState, born, report_bodies, issue, finish, asked, queried, aborted, released, enter, enter_first, enter_later, report_of}
use Rattle.wl_agent.specs.Delivery.{has_entered, delivery}
use Rattle.wl_kernel.specs.Kernel.{open_refusal, opened, killed}
use Rattle.wl_kernel.specs.Routes.{hearers, frame_of}
use Rattle.wl_world_messages.specs.declared.message.Sender.TheVariants.{Kernel}
use Rattle.wl_world_messages.specs.declared.message.Message.{Message}
use Rattle.wl_world_messages.specs.declared.message.Message.TheVariants.{Up, Down, Across}
use Rattle.wl_world_messages.specs.Messages.{sent_all}
use Rattle.wl_draft.specs.Membership.{In}
use Rattle.wl_draft.proofs.Membership.{apart, either, In-nil, In-one, In-map_cases}
use Rattle.wl_world_messages.proofs.Same.{sent_all-keeps, sent_all-cases}
use Rattle.wl_limits.specs.declared.tabs.TheConstants.{COMMAND_LIMIT}
use Rattle.wl_tab.specs.Tabs.{told}
use Rattle.wl_world_model.specs.declared.event.Forged.{Forged}
use Rattle.wl_world_model.specs.World.{WorldState, tab_of, partition_of, StepResult, unchanged, if_allowed, acts, issues_command, asks, queries, aborts, releases, resends, becomes, takes_frame, with_kernel, with_rows, opens_as, kills, lives, channels_of, opens_channel, posts, reads, closes, is_corrupt, taken_over, corrupts, forges, post_of}
use Rattle.wl_world_model.specs.Sends.{across, forgery, report_if_entered, resent, stamped}
use Rattle.wl_world_model.specs.Holdings.{IsHonest}
use Rattle.wl_world_model.proofs.exclusion.Invariant.{Sound, SoundTab, was_opened, HasGrant, up_message}
use Rattle.wl_world_model.proofs.exclusion.ToldParts.{body-told}
use Rattle.wl_world_model.proofs.exclusion.GrownTabs.{tab_at, Grows, SaidBy, FromTab}
use Rattle.wl_world_model.proofs.exclusion.HeardNumbers.{noted-kept, answer-kept, part-kept}
use Rattle.wl_world_model.proofs.exclusion.ActsWithinAGeneration.{after, each_tab, Grows-same, Grows-push, resent-said, issued-sends, forgery-said}
use Rattle.wl_world_model.proofs.exclusion.OpenedTabs.{each_opened, ended-opened, ended-number}
use Rattle.wl_world_model.proofs.exclusion.OpeningAndKilling.{not_opened}
use Rattle.wl_world_model.proofs.exclusion.Corrupting.{honest-before}
use Rattle.wl_world_model.proofs.own.AskedByEvents.{delivery-issued, told-issued}

-- The base of an honest tab's report is at most the number of commands that the tab has issued.
pub record Based (w : WorldState) : Type 0 where
  pub own : (t : ℕ) → (tab_of w t).report.base ≤ length (tab_of w t).issued
  pub said : (t p : ℕ) (u : Upward) (x : Told) → content_of u ≡ Some x → In (up_message t p u) w.bag → IsHonest w t → x.base ≤ length (tab_of w t).issued

pub record Quiet (w v : WorldState) : Type 0 where
  pub broker : v.broker ≡ w.broker
  pub stable : (t : ℕ) → was_opened w t ≡ true → (was_opened v t ≡ true) × (partition_of v t ≡ partition_of w t)
  pub issued : (t : ℕ) → Grows (tab_of w t).issued (tab_of v t).issued
  pub keeps : (m : Message) → In m w.bag → In m v.bag
  pub grants : (t g n : ℕ) → HasGrant v.bag t g n → HasGrant w.bag t g n
  pub honest : (t : ℕ) → IsHonest v t → IsHonest w t
  pub based : Based v

pub quiet-none : (w : WorldState) → Based w → Quiet w w
quiet-none w b = record { broker = refl; stable = λ t o. (o, refl); issued = λ t. Grows-same _ _ refl; keeps = λ m i. i; grants = λ t g n h. h; honest = λ t h. h; based = b }

pub quiet-allowed : (w : WorldState) (c : Bool) (d : StepResult) → Based w → (c ≡ true → Quiet w (after w d)) → Quiet w (after w (if_allowed c w d))
quiet-allowed w c d b f = either (λ x. Quiet w (after w x)) c d (unchanged w) f (λ _. quiet-none w b)

-- A tab acts

abbrev FineUp : TabState → Upward → Type 0
FineUp y (up.Command c) = Unit {0}
FineUp y (up.Report r) = r.base ≤ length y.issued
FineUp y (up.ReportPart r) = r.base ≤ length y.issued

abbrev Fine : Type 0 → ℕ → TabState → Message → Type 0
Fine H t y (Up s) = (s.tab ≡ t) × (H → FineUp y s.inner)
Fine H t y (Down s x) = ⊥
Fine H t y (Across u x) = Unit {0}

fine-body : (y : TabState) (u : Upward) (i : Bool) (r : Report) → In u (report_bodies i r) → r.base ≤ length y.issued → FineUp y u
fine-body y (up.Command c) i r j le = tt
fine-body y (up.Report x) i r j le = subst (λ z. z ≤ length y.issued) (sym (body-told i r (up.Report x) (at_once x) j refl).1.base) le
fine-body y (up.ReportPart x) i r j le = subst (λ z. z ≤ length y.issued) (sym (body-told i r (up.ReportPart x) (in_part x) j refl).1.base) le

fine-told : (y : TabState) (u : Upward) (x : Told) → content_of u ≡ Some x → FineUp y u → x.base ≤ length y.issued
fine-told y (up.Command c) x e f = absurd (none-some x e)
  where
    none-some : (x : Told) → None ≡ Some x → ⊥
    none-some x e = cc
fine-told y (up.Report r) x e f = subst (λ z. z ≤ length y.issued) (same-base (at_once r) x e) f
  where
    same-base : (x z : Told) → Some x ≡ Some z → x.base ≡ z.base
    same-base x z e = cc
fine-told y (up.ReportPart r) x e f = subst (λ z. z ≤ length y.issued) (same-base (in_part r) x e) f
  where
    same-base : (x z : Told) → Some x ≡ Some z → x.base ≡ z.base
    same-base x z e = cc

fine-up : (y : TabState) (x : Upward) → y.report.base ≤ length y.issued → SaidBy y x → FineUp y x
fine-up y (up.Command c) le f = tt
fine-up y (up.Report r) le f = fine-body y (up.Report r) y.in_parts y.report f.1 le
fine-up y (up.ReportPart r) le f = fine-body y (up.ReportPart r) y.in_parts y.report f.1 le

fine-from : (H : Type 0) (t p : ℕ) (y : TabState) (m : Message) → y.report.base ≤ length y.issued → FromTab H t p y m → Fine H t y m
fine-from H t p y (Up s) le f = (f.0, λ h. fine-up y s.inner le (f.2 h))
fine-from H t p y (Down s x) le f = f
fine-from H t p y (Across u x) le f = f

acts-quiet : (w : WorldState) (t : ℕ) (y : TabState) (ms : List Message) → Based w → Grows (tab_of w t).issued y.issued → y.report.base ≤ length y.issued → ((m : Message) → In m ms → Fine (IsHonest w t) t y m) → Quiet w (after w (acts w t y ms))
unfolding acts
acts-quiet w t y ms b more base fine = record {
  broker = refl;
  stable = λ u o. (o, refl);
  issued = each_tab (λ u z. Grows (tab_of w u).issued z.issued) t y w.tabs more (λ u n. Grows-same _ _ refl);
  keeps = λ m i. sent_all-keeps ms w.bag i;
  grants = λ u g n h. (h.0, h.1, ⊎_elim (λ a. a) (λ a. absurd (fine _ a)) (sent_all-cases ms w.bag h.2), h.3, h.4, h.5);
  honest = λ u h. h;
  based = record {
    own = each_tab (λ u z. z.report.base ≤ length z.issued) t y w.tabs base (λ u n. b.own u);
    said = λ u p v x is i h. ⊎_elim
        (λ a. let le : x.base ≤ length (tab_of w u).issued = b.said u p v x is a h in let gr : length (tab_of w u).issued ≤ length (tab_at (put t y w.tabs) u).issued = (each_tab (λ v z. Grows (tab_of w v).issued z.issued) t y w.tabs more (λ v n. Grows-same _ _ refl) u).0 in omega arith)
        (λ a. let f = fine _ a in each_tab (λ n z. n ≡ t → IsHonest w n → x.base ≤ length z.issued) t y w.tabs (λ _ h. fine-told y v x is (f.1 h)) (λ m n e _. absurd (n (sym e))) u f.0 h)
        (sent_all-cases ms w.bag i);
  };
}

longer : (xs : List Operation) (c : Operation) (n : ℕ) → n ≤ length xs → n ≤ length (xs ++ c ∷ [])
longer xs c n le = omega (arith, length-append xs (c ∷ []))

issues-quiet : (w : WorldState) (t : ℕ) (y : TabState) (c : Operation) → Based w → y.issued ≡ (tab_of w t).issued ++ c ∷ [] → y.report ≡ (tab_of w t).report → Quiet w (after w (issues_command w t y))
issues-quiet w t y c b is same =
    let base : y.report.base ≤ length y.issued = subst (λ zs. y.report.base ≤ length zs) (sym is) (subst (λ z. z.base ≤ length ((tab_of w t).issued ++ c ∷ [])) (sym same) (longer (tab_of w t).issued c _ (b.own t))) in
    let lt : length (tab_of w t).issued < length y.issued = subst (λ zs. length (tab_of w t).issued < length zs) (sym is) (omega (arith, length-append (tab_of w t).issued (c ∷ []))) in
    acts-quiet w t y _ b (subst (Grows (tab_of w t).issued) (sym is) (Grows-push (tab_of w t).issued c)) base
    (λ m i. fine-from (IsHonest w t) t (partition_of w t) y m base (issued-sends w t y (length (tab_of w t).issued) lt m i))

pub asks-quiet : (w : WorldState) (t : ℕ) (mode : Mode) (f : Bool) (name : List ℕ) → Based w → Quiet w (after w (asks w t mode f name))
unfolding issue
asks-quiet w t mode f name b = quiet-allowed w _ (issues_command w t (asked mode f name (tab_of w t))) b (λ _. issues-quiet w t (asked mode f name (tab_of w t)) _ b refl refl)

pub queries-quiet : (w : WorldState) (t : ℕ) → Based w → Quiet w (after w (queries w t))
unfolding issue
queries-quiet w t b = quiet-allowed w _ (issues_command w t (queried (tab_of w t))) b (λ _. issues-quiet w t (queried (tab_of w t)) _ b refl refl)

pub aborts-quiet : (w : WorldState) (t k : ℕ) → Based w → Quiet w (after w (aborts w t k))
unfolding finish
aborts-quiet w t k b = quiet-allowed w _ (issues_command w t (aborted k (tab_of w t))) b (λ _. issues-quiet w t (aborted k (tab_of w t)) _ b refl refl)

pub releases-quiet : (w : WorldState) (t k : ℕ) → Based w → Quiet w (after w (releases w t k))
unfolding finish
releases-quiet w t k b = quiet-allowed w _ (issues_command w t (released k (tab_of w t))) b (λ _. issues-quiet w t (released k (tab_of w t)) _ b refl refl)

-- A tab that sends messages without changing its state is quiet.
sends-quiet : (w : WorldState) (t : ℕ) (ms : List Message) → Based w → ((m : Message) → In m ms → Fine (IsHonest w t) t (tab_of w t) m) → Quiet w (record w { bag = sent_all ms w.bag })
sends-quiet w t ms b fine = record {
  broker = refl;
  stable = λ u o. (o, refl);
  issued = λ u. Grows-same _ _ refl;
  keeps = λ m i. sent_all-keeps ms w.bag i;
  grants = λ u g n h. (h.0, h.1, ⊎_elim (λ a. a) (λ a. absurd (fine _ a)) (sent_all-cases ms w.bag h.2), h.3, h.4, h.5);
  honest = λ u h. h;
  based = record {
    own = b.own;
    said = λ u p v x is i h. ⊎_elim
        (λ a. b.said u p v x is a h)
        (λ a. let f = fine _ a in subst (λ n. IsHonest w n → x.base ≤ length (tab_of w n).issued) (sym f.0) (λ y. fine-told (tab_of w t) v x is (f.1 y)) h)
        (sent_all-cases ms w.bag i);
  };
}

pub resends-quiet : (w : WorldState) (t : ℕ) → Based w → Quiet w (after w (resends w t))
resends-quiet w t b =
    quiet-allowed w (lives w t) (record { world = w; sends = resent w.kernel t (tab_of w t) }) b
    (λ _. sends-quiet w t (resent w.kernel t (tab_of w t)) b (λ m i. fine-from (IsHonest w t) t (partition_of w t) (tab_of w t) m (b.own t) (resent-said w t (tab_of w t) m i)))

-- A message arrives at a tab

entered-sends : (w : WorldState) (t : ℕ) (y : TabState) (d : Delivered) (m : Message) → In m (report_if_entered w.kernel t y d) → (u : Upward) × In u (report_bodies y.in_parts y.report) × (m ≡ stamped w.kernel t u)
entered-sends w t y (heard.Entered reports) m i = In-map_cases (stamped w.kernel t) (report_bodies y.in_parts y.report) i
entered-sends w t y d m i = absurd (In-nil i)

enter-based : (g : ℕ) (x : TabState) → (enter g x).report.base ≤ length x.issued
unfolding enter_first enter_later report_of
enter-based g x = either (λ z. z.report.base ≤ length x.issued) (x.entered == 0) (enter_first g x) (enter_later g x) (λ _. omega arith) (λ _. le_refl (length x.issued))

delivery-based : (t : ℕ) (x : TabState) → SoundTab t x → x.report.base ≤ length x.issued → (m : Downward) → (delivery (frame_of m) x).0.report.base ≤ length x.issued
unfolding delivery
delivery-based t x s le (down.Hello h) =
    either {A = TabState × Delivered} (λ o. o.0.report.base ≤ length x.issued) (nat_lt x.entered h.generation) _ _ (λ _. enter-based h.generation x) (λ _. le)
delivery-based t x s le (down.Answer m) =
    either {A = TabState × Delivered} (λ o. o.0.report.base ≤ length x.issued) (has_entered m.generation x) _ _ (λ _. subst (λ z. z.base ≤ length x.issued) (sym (noted-kept m.upto x _ _ (answer-kept m x s.rises)).report) le) (λ _. le)
delivery-based t x s le (down.Snapshot m) =
    either {A = TabState × Delivered} (λ o. o.0.report.base ≤ length x.issued) (has_entered m.generation x) _ _ (λ _. subst (λ z. z.base ≤ length x.issued) (sym (noted-kept (m.number + 1) x _ _ (part-kept m x (λ k. ⊥) s.rises)).report) le) (λ _. le)

told-report : (x : TabState) → (told x).report ≡ x.report
unfolding told
told-report x = refl

pub hears-quiet : (w : WorldState) → ((t : ℕ) → SoundTab t (tab_of w t)) → (t : ℕ) (m : Downward) → Based w → Quiet w (after w (takes_frame w t (frame_of m)))
hears-quiet w s t m b =
    let x = tab_of w t in
    let a = delivery (frame_of m) x in
    let is = told-issued a.0 ∙ delivery-issued t x (s t) m in
    let le = delivery-based t x (s t) (b.own t) m in
    let base = subst (λ zs. a.0.report.base ≤ length zs) (sym is) le in
    acts-quiet w t (told a.0) (report_if_entered w.kernel t a.0 a.1) b (Grows-same _ _ is) (subst (λ z. z.base ≤ length (told a.0).issued) (sym (told-report a.0)) base)
    (λ y i. let o = entered-sends w t a.0 a.1 y i in subst (Fine (IsHonest w t) t (told a.0)) (sym o.2) (refl, λ _. fine-body (told a.0) o.0 a.0.in_parts a.0.report o.1 (subst (λ z. z.base ≤ length (told a.0).issued) (told-report a.0) (subst (λ z. z.base ≤ length (told a.0).issued) (sym (told-report a.0)) base))))

-- Channels, the kernel and hellos

-- The frame is not an answer.
abbrev pub IsOtherDown : Downward → Type 0
IsOtherDown (down.Hello h) = Unit {0}
IsOtherDown (down.Answer x) = ⊥
IsOtherDown (down.Snapshot x) = Unit {0}

abbrev pub IsOther : Message → Type 0
IsOther (Up s) = ⊥
IsOther (Down s x) = IsOtherDown x.inner
IsOther (Across t x) = Unit {0}

bag-quiet : (w : WorldState) (cs : Table ChannelState) (ms : List Message) → Based w → ((m : Message) → In m ms → IsOther m) → Quiet w (record w { channels = cs; bag = sent_all ms w.bag })
bag-quiet w cs ms b other = record {
  broker = refl;
  stable = λ u o. (o, refl);
  issued = λ u. Grows-same _ _ refl;
  keeps = λ m i. sent_all-keeps ms w.bag i;
  grants = λ u g n h. (h.0, h.1, ⊎_elim (λ a. a) (λ a. absurd (other _ a)) (sent_all-cases ms w.bag h.2), h.3, h.4, h.5);
  honest = λ u h. h;
  based = record { own = b.own; said = λ u p v x is i h. ⊎_elim (λ a. b.said u p v x is a h) (λ a. absurd (other _ a)) (sent_all-cases ms w.bag i) };
}

pub becomes-quiet : (w : WorldState) (t : ℕ) (c : ChannelState) (ms : List Message) → Based w → ((m : Message) → In m ms → IsOther m) → Quiet w (after w (becomes w t c ms))
unfolding becomes
becomes-quiet w t c ms b other = bag-quiet w (put t c w.channels) ms b other

pub hello-quiet : (w : WorldState) (t g : ℕ) → Based w → Quiet w (record w { bag = sent_all (Down Kernel (hello_to g t) ∷ []) w.bag })
hello-quiet w t g b = bag-quiet w w.channels (Down Kernel (hello_to g t) ∷ []) b (λ m i. subst IsOther (sym (In-one i)) tt)

pub opens-quiet : (i : Bool) (w : WorldState) (t : ℕ) (p : Pair) → Sound w → Based w → Quiet w (after w (opens_as i w t p))
opens-quiet i w t p s b =
    quiet-allowed w (not (is_some (open_refusal t p w.kernel))) (with_kernel (opened t p w.kernel) (with_rows i t w)) b
    (λ n. let un = not_opened w.kernel t p (not-true _ n) in
    let y = born i t COMMAND_LIMIT in record {
      broker = refl;
      stable = each_opened (λ u o q. was_opened w u ≡ true → (is_some o ≡ true) × (q ≡ partition_of w u)) w.kernel t p un (λ q o. apart o un) (λ u d o. (o, refl));
      issued = each_tab (λ u z. Grows (tab_of w u).issued z.issued) t y w.tabs (Grows-same _ _ (sym (ap (λ z. z.issued) ((s.tabs t).unopened un).1))) (λ u n. Grows-same _ _ refl);
      keeps = λ m i. i;
      grants = λ u g k h. h;
      honest = λ u h. h;
      based = record {
        own = each_tab (λ u z. z.report.base ≤ length z.issued) t y w.tabs (omega arith) (λ u n. b.own u);
        said = each_tab (λ u z. (q : ℕ) (v : Upward) (x : Told) → content_of v ≡ Some x → In (up_message u q v) w.bag → IsHonest w u → x.base ≤ length z.issued) t y w.tabs (λ q v x is i h. apart ((s.messages t).reports q v x is i).0 un) (λ u n. b.said u);
      };
    })

pub kills-quiet : (w : WorldState) (t : ℕ) → Based w → Quiet w (after w (kills w t))
kills-quiet w t b =
    quiet-allowed w _ (with_kernel (killed t w.kernel) w) b
    (λ _. record {
      broker = refl;
      stable = λ u o. (ended-opened t w.kernel.opened u ∙ o, ended-number t w.kernel.opened u);
      issued = λ u. Grows-same _ _ refl;
      keeps = λ m i. i;
      grants = λ u g k h. h;
      honest = λ u h. h;
      based = record { own = b.own; said = b.said };
    })

pub opens_channel-quiet : (w : WorldState) (t : ℕ) (name : List ℕ) → Based w → Quiet w (after w (opens_channel w t name))
opens_channel-quiet w t name b =
    let c = channels_of w t in
    quiet-allowed w (lives w t && not (is_some (channel_refusal name c))) (becomes w t (channel_opened name c) []) b
    (λ _. becomes-quiet w t (channel_opened name c) [] b (λ m i. absurd (In-nil i)))

pub posts-quiet : (w : WorldState) (t k : ℕ) (bytes : List ℕ) → Based w → Quiet w (after w (posts w t k bytes))
posts-quiet w t k bytes b =
    let c = channels_of w t in
    quiet-allowed w (lives w t && not (is_some (post_refusal t k bytes c))) (becomes w t (posted k bytes c) (map (across t (post_of k bytes c)) (hearers t w.kernel))) b
    (λ _. becomes-quiet w t (posted k bytes c) (map (across t (post_of k bytes c)) (hearers t w.kernel)) b
    (λ m i. let o = In-map_cases (across t (post_of k bytes c)) (hearers t w.kernel) i in subst IsOther (sym o.2) tt))

pub reads-quiet : (w : WorldState) (t k : ℕ) → Based w → Quiet w (after w (reads w t k))
reads-quiet w t k b =
    let c = channels_of w t in
    quiet-allowed w (lives w t && is_own_channel c t k) (becomes w t (read_at k c) []) b (λ _. becomes-quiet w t (read_at k c) [] b (λ m i. absurd (In-nil i)))

pub closes-quiet : (w : WorldState) (t k : ℕ) → Based w → Quiet w (after w (closes w t k))
closes-quiet w t k b =
    let c = channels_of w t in
    quiet-allowed w (lives w t && is_own_channel c t k) (becomes w t (closed_at k c) []) b (λ _. becomes-quiet w t (closed_at k c) [] b (λ m i. absurd (In-nil i)))

-- Tabs that are taken over

pub corrupts-quiet : (w : WorldState) (t : ℕ) → Based w → Quiet w (after w (corrupts w t))
corrupts-quiet w t b =
    quiet-allowed w (lives w t) (unchanged (record w { corrupt = taken_over t w.corrupt })) b
    (λ _. record {
      broker = refl;
      stable = λ u o. (o, refl);
      issued = λ u. Grows-same _ _ refl;
      keeps = λ m i. i;
      grants = λ u g n h. h;
      honest = λ u h. honest-before t u w.corrupt h;
      based = record { own = b.own; said = λ u p v x is i h. b.said u p v x is i (honest-before t u w.corrupt h) };
    })

pub forges-quiet : (w : WorldState) (t : ℕ) (x : Forged) → Based w → Quiet w (after w (forges w t x))
forges-quiet w t x b =
    quiet-allowed w (is_corrupt w t && lives w t) (record { world = w; sends = forgery w.kernel t x }) b
    (λ l. sends-quiet w t (forgery w.kernel t x) b (λ m i. fine-from (IsHonest w t) t (partition_of w t) (tab_of w t) m (b.own t) (forgery-said w t x (and_parts _ _ l).0 m i)))
