-- Every event leads to a later world: messages stay in the bag, and tabs stay opened or dead.
use Rattle.std.proofs.Common.{◌≡◌, ⊎_elim, ℕ, ◌+◌, ◌<◌, ◌≤◌, Bool, true, false, not, ◌&&◌, List, [], ◌∷◌, length, length-append, map, is_some, refl, sym, ap, ◌∙◌, subst, arith, le_refl}
use Rattle.std.specs.Prelude.{◌==◌, nat_lt}
use Rattle.std.proofs.lemmas.Bool.{cases_Bool, and_parts, and_from, not-true, ltb-true}
use Rattle.wl_origin.specs.Order.{Pair}
use Rattle.wl_draft.specs.Tables.{Rises}
use Rattle.wl_draft.specs.Membership.{In}
use Rattle.wl_draft.proofs.Membership.{apart, either, In-nil}
use Rattle.wl_draft.proofs.RisingTables.{Rises-filter}
use Rattle.wl_grammar.specs.declared.frame.Operation.{Operation}
use Rattle.wl_grammar.specs.declared.frame.Downward.{Downward}
use Rattle.wl_grammar.specs.declared.frame.Downward.TheVariants as down
use Rattle.wl_broker.specs.Broker.{BrokerState, next_of}
use Rattle.wl_broadcast.specs.Channels.{ChannelState}
use Rattle.wl_agent.specs.declared.delivered.Delivered.{Delivered}
use Rattle.wl_agent.specs.declared.status.Status.{Status}
use Rattle.wl_agent.specs.Tab.{TabState, born, status_of, issue, finish, enter_first, enter_later, enter, report_of}
use Rattle.wl_agent.specs.Delivery.{noted, has_entered, told_by_answer, after_answer, after_part, delivery}
use Rattle.wl_kernel.specs.Kernel.{tab_in, open_refusal, opened, ended, killed, lives as lives_in}
use Rattle.wl_kernel.specs.Routes.{frame_of}
use Rattle.wl_supervised_broker.specs.Changes.{is_dead}
use Rattle.wl_limits.specs.declared.tabs.TheConstants.{COMMAND_LIMIT}
use Rattle.wl_tab.specs.Tabs.{is_told, told}
use Rattle.wl_world_messages.specs.declared.message.Message.{Message}
use Rattle.wl_world_messages.specs.Messages.{sent_all}
use Rattle.wl_world_messages.proofs.Same.{sent_all-keeps}
use Rattle.wl_world_model.specs.World.{WorldState, tab_of, lives, partition_of, StepResult, unchanged, if_allowed, acts, issues_command, becomes, with_rows, with_kernel, opens_as, kills, taken_over, corrupts}
use Rattle.wl_world_model.specs.Holdings.{IsHonest}
use Rattle.wl_world_model.proofs.Tables.{each_found}
use Rattle.wl_world_model.proofs.exclusion.Invariant.{Sound, broker_of, has_joined, was_opened}
use Rattle.wl_world_model.proofs.exclusion.ActsWithinAGeneration.{after, each_tab}
use Rattle.wl_world_model.proofs.exclusion.Corrupting.{honest-before}
use Rattle.wl_world_model.proofs.exclusion.HeardNumbers.{answer-kept, part-kept, carried-rises}
use Rattle.wl_world_model.proofs.exclusion.OpenedTabs.{each_opened, ended-opened, ended-lives, ended-number}
use Rattle.wl_world_model.proofs.exclusion.OpeningAndKilling.{not_opened}
use Rattle.wl_library_model.specs.Simulation.{is_awaited}
use Rattle.wl_library_model.proofs.Awaited.{Fewer, NoneTold, filtered-fewer, carried-fewer, answer-fewer, part-fewer, none_told-put, none_told-filter}

-- A tab issues commands, takes answers, or enters a later generation.
pub record GoesOn (a b : TabState) : Type 0 where
  pub in_parts : b.in_parts ≡ a.in_parts
  pub entered : a.entered ≤ b.entered
  pub issued : length a.issued ≤ length b.issued
  pub report : b.entered ≡ a.entered → b.report ≡ a.report
  pub awaited : (k : ℕ) → k < length a.issued → is_awaited (status_of b k) ≡ true → is_awaited (status_of a k) ≡ true

pub goes-same : (a : TabState) → GoesOn a a
goes-same a = record { in_parts = refl; entered = le_refl a.entered; issued = le_refl (length a.issued); report = λ _. refl; awaited = λ k lt e. e }

pub goes-on : (a b c : TabState) → GoesOn a b → GoesOn b c → GoesOn a c
goes-on a b c x y =
    let p : a.entered ≤ b.entered = x.entered in
    let q : b.entered ≤ c.entered = y.entered in
    let m : length a.issued ≤ length b.issued = x.issued in
    let n : length b.issued ≤ length c.issued = y.issued in
    record {
      in_parts = y.in_parts ∙ x.in_parts;
      entered = omega arith;
      issued = omega arith;
      report = λ e. let f : c.entered ≡ a.entered = e in y.report (omega arith) ∙ x.report (omega arith);
      awaited = λ k lt e. let l : k < length a.issued = lt in x.awaited k lt (y.awaited k (omega arith) e);
    }

-- A later world.
pub record Later (w v : WorldState) : Type 0 where
  pub bag : (m : Message) → In m w.bag → In m v.bag
  pub opened : (t : ℕ) → was_opened w t ≡ true → (was_opened v t ≡ true) × (partition_of v t ≡ partition_of w t)
  pub dead : (t : ℕ) → is_dead w.kernel t ≡ true → is_dead v.kernel t ≡ true
  pub honest : (t : ℕ) → IsHonest v t → IsHonest w t
  pub tabs : (t : ℕ) → was_opened w t ≡ true → GoesOn (tab_of w t) (tab_of v t)

pub later-on : (u v w : WorldState) → Later u v → Later v w → Later u w
later-on u v w x y = record {
  bag = λ m i. y.bag m (x.bag m i);
  opened = λ t o. let p = x.opened t o in let q = y.opened t p.0 in (q.0, q.1 ∙ p.1);
  dead = λ t d. y.dead t (x.dead t d);
  honest = λ t h. x.honest t (y.honest t h);
  tabs = λ t o. goes-on (tab_of u t) (tab_of v t) (tab_of w t) (x.tabs t o) (y.tabs t (x.opened t o).0);
}

-- The broker has counted each command below the base of an honest tab's report once the tab has joined.
abbrev pub SeatsFit : WorldState → BrokerState → Type 0
SeatsFit w b = (t : ℕ) → IsHonest w t → has_joined b t ≡ true → (tab_of w t).report.base ≤ next_of b t

-- Beside soundness, each world that the library reaches has this.
pub record Fit (w : WorldState) : Type 0 where
  pub untold : (t : ℕ) → NoneTold (tab_of w t).statuses
  pub low : (t : ℕ) → (tab_of w t).report.base ≤ length (tab_of w t).issued
  pub seats : SeatsFit w (broker_of w)

pub record On (w v : WorldState) : Type 0 where
  pub later : Later w v
  pub fit : Fit v

pub later-same : (w : WorldState) → Later w w
later-same w = record { bag = λ m i. i; opened = λ t o. (o, refl); dead = λ t d. d; honest = λ t h. h; tabs = λ t o. goes-same (tab_of w t) }

pub on-none : (w : WorldState) → Fit w → On w w
on-none w f = record { later = later-same w; fit = f }

pub on-allowed : (w : WorldState) (b : Bool) (d : StepResult) → Fit w → (b ≡ true → On w (after w d)) → On w (after w (if_allowed b w d))
on-allowed w b d f g = either (λ x. On w (after w x)) b d (unchanged w) g (λ _. on-none w f)

-- Deeds of tabs

pub on-acts : (w : WorldState) (t : ℕ) (y : TabState) (ms : List Message) → Fit w → GoesOn (tab_of w t) y → NoneTold y.statuses → y.report.base ≤ length y.issued
    → (IsHonest w t → has_joined (broker_of w) t ≡ true → y.report.base ≤ next_of (broker_of w) t) → On w (after w (acts w t y ms))
unfolding acts
on-acts w t y ms f g none low seat = record {
  later = record {
    bag = λ m i. sent_all-keeps ms w.bag i;
    opened = λ u o. (o, refl);
    dead = λ u d. d;
    honest = λ u h. h;
    tabs = λ u o. each_tab (λ v z. GoesOn (tab_of w v) z) t y w.tabs g (λ v n. goes-same (tab_of w v)) u;
  };
  fit = record {
    untold = each_tab (λ u z. NoneTold z.statuses) t y w.tabs none (λ u n. f.untold u);
    low = each_tab (λ u z. z.report.base ≤ length z.issued) t y w.tabs low (λ u n. f.low u);
    seats = each_tab (λ u z. IsHonest w u → has_joined (broker_of w) u ≡ true → z.report.base ≤ next_of (broker_of w) u) t y w.tabs seat (λ u n. f.seats u);
  };
}

pub on-becomes : (w : WorldState) (t : ℕ) (c : ChannelState) (ms : List Message) → Fit w → On w (after w (becomes w t c ms))
unfolding becomes
on-becomes w t c ms f = record {
  later = record { bag = λ m i. sent_all-keeps ms w.bag i; opened = λ u o. (o, refl); dead = λ u d. d; honest = λ u h. h; tabs = λ u o. goes-same (tab_of w u) };
  fit = record { untold = f.untold; low = f.low; seats = f.seats };
}

pub on-sends : (w : WorldState) (ms : List Message) → Fit w → On w (record w { bag = sent_all ms w.bag })
on-sends w ms f = record {
  later = record { bag = λ m i. sent_all-keeps ms w.bag i; opened = λ u o. (o, refl); dead = λ u d. d; honest = λ u h. h; tabs = λ u o. goes-same (tab_of w u) };
  fit = record { untold = f.untold; low = f.low; seats = f.seats };
}

-- Commands

pub issue-goes : (c : Operation) (s : Status) (x : TabState) → GoesOn x (issue c s x)
unfolding issue
issue-goes c s x = record {
  in_parts = refl;
  entered = le_refl x.entered;
  issued = omega (arith, length-append x.issued (c ∷ []));
  report = λ _. refl;
  awaited = each_found (λ j o. j < length x.issued → is_awaited o ≡ true → is_awaited (status_of x j) ≡ true) (length x.issued) s x.statuses (λ lt _. absurd (omega arith)) (λ j n lt e. e);
}

pub finish-goes : (c : Operation) (k : ℕ) (x : TabState) → Rises 0 x.statuses → GoesOn x (finish c k x)
unfolding finish
finish-goes c k x r = record {
  in_parts = refl;
  entered = le_refl x.entered;
  issued = omega (arith, length-append x.issued (c ∷ []));
  report = λ _. refl;
  awaited = λ j lt e. filtered-fewer (λ row. not (row.0 == k)) x.statuses r j e;
}

pub on-issue : (w : WorldState) (t : ℕ) (c : Operation) (s : Status) → is_told s ≡ false → Fit w → On w (after w (issues_command w t (issue c s (tab_of w t))))
unfolding issue
on-issue w t c s e f =
    let x = tab_of w t in
    let low : x.report.base ≤ length x.issued = f.low t in
    on-acts w t (issue c s x) _ f (issue-goes c s x) (none_told-put (length x.issued) s x.statuses e (f.untold t)) (omega (arith, length-append x.issued (c ∷ []))) (f.seats t)

pub on-finish : (w : WorldState) (t k : ℕ) (c : Operation) → Sound w → Fit w → On w (after w (issues_command w t (finish c k (tab_of w t))))
unfolding finish
on-finish w t k c s f =
    let x = tab_of w t in
    let low : x.report.base ≤ length x.issued = f.low t in
    on-acts w t (finish c k x) _ f (finish-goes c k x (s.tabs t).state.rises) (none_told-filter (λ row. not (row.0 == k)) x.statuses (f.untold t)) (omega (arith, length-append x.issued (c ∷ []))) (f.seats t)

-- Frames that arrive

-- The tab afterwards, with rows that rise and a report below its commands.
pub record Heard (x y : TabState) : Type 0 where
  pub goes : GoesOn x y
  pub rises : Rises 0 y.statuses
  pub low : y.report.base ≤ length y.issued
  pub same : y.entered ≡ x.entered → y.report ≡ x.report

heard-none : (x : TabState) → Rises 0 x.statuses → x.report.base ≤ length x.issued → Heard x x
heard-none x r low = record { goes = goes-same x; rises = r; low = low; same = λ _. refl }

first-heard : (g : ℕ) (x : TabState) → x.entered < g → Rises 0 x.statuses → Heard x (enter_first g x)
unfolding enter_first
first-heard g x lt r =
    let no : g ≡ x.entered → ⊥ = (λ e. let f : g ≡ x.entered = e in let l : x.entered < g = lt in omega arith) in
    record {
      goes = record { in_parts = refl; entered = omega arith; issued = le_refl (length x.issued); report = λ e. absurd (no e); awaited = λ k l e. e };
      rises = r;
      low = omega arith;
      same = λ e. absurd (no e);
    }

later-heard : (g : ℕ) (x : TabState) → x.entered < g → Rises 0 x.statuses → Heard x (enter_later g x)
unfolding enter_later report_of
later-heard g x lt r =
    let no : g ≡ x.entered → ⊥ = (λ e. let f : g ≡ x.entered = e in let l : x.entered < g = lt in omega arith) in
    record {
      goes = record { in_parts = refl; entered = omega arith; issued = le_refl (length x.issued); report = λ e. absurd (no e); awaited = λ k l e. carried-fewer x.issued x.statuses r k e };
      rises = carried-rises x.issued x.statuses r;
      low = le_refl (length x.issued);
      same = λ e. absurd (no e);
    }

enter-heard : (g : ℕ) (x : TabState) → x.entered < g → Rises 0 x.statuses → Heard x (enter g x)
enter-heard g x lt r = either (Heard x) (x.entered == 0) (enter_first g x) (enter_later g x) (λ _. first-heard g x lt r) (λ _. later-heard g x lt r)

noted-heard : (upto : ℕ) (x y : TabState) → Rises 0 y.statuses → y.entered ≡ x.entered → y.report ≡ x.report → y.in_parts ≡ x.in_parts → y.issued ≡ x.issued → Fewer y.statuses x.statuses → x.report.base ≤ length x.issued → Heard x (noted upto y)
unfolding noted
noted-heard upto x y r e p i is f low = record {
  goes = record {
    in_parts = i;
    entered = subst (λ z. x.entered ≤ z) (sym e) (le_refl x.entered);
    issued = subst (λ z. length x.issued ≤ length z) (sym is) (le_refl (length x.issued));
    report = λ _. p;
    awaited = λ k l a. f k a;
  };
  rises = r;
  low = subst (λ z. z.base ≤ length y.issued) (sym p) (subst (λ z. x.report.base ≤ length z) (sym is) low);
  same = λ _. p;
}

pub delivery-heard : (x : TabState) → Rises 0 x.statuses → x.report.base ≤ length x.issued → (m : Downward) → Heard x (delivery (frame_of m) x).0
unfolding delivery
delivery-heard x r low (down.Hello h) =
    either {A = TabState × Delivered} (λ o. Heard x o.0) (nat_lt x.entered h.generation) _ _ (λ lt. enter-heard h.generation x (ltb-true _ _ lt) r) (λ _. heard-none x r low)
delivery-heard x r low (down.Answer m) =
    let k = answer-kept m x r in
    either {A = TabState × Delivered} (λ o. Heard x o.0) (has_entered m.generation x) _ _
    (λ _. noted-heard m.upto x (after_answer (told_by_answer m x) x) k.rises k.entered k.report k.in_parts k.issued (answer-fewer (told_by_answer m x) x r) low)
    (λ _. heard-none x r low)
delivery-heard x r low (down.Snapshot m) =
    let k = part-kept m x (λ j. ⊥) r in
    either {A = TabState × Delivered} (λ o. Heard x o.0) (has_entered m.generation x) _ _
    (λ _. noted-heard (m.number + 1) x (after_part m x) k.rises k.entered k.report k.in_parts k.issued (part-fewer m x) low)
    (λ _. heard-none x r low)

pub told-heard : (x y : TabState) → Heard x y → Heard x (told y)
unfolding told
told-heard x y h =
    let g = h.goes in
    record {
      goes = record { in_parts = g.in_parts; entered = g.entered; issued = g.issued; report = g.report; awaited = λ k l e. g.awaited k l (filtered-fewer (λ row. not (is_told row.1)) y.statuses h.rises k e) };
      rises = Rises-told y h.rises;
      low = h.low;
      same = h.same;
    }
  where
    Rises-told : (y : TabState) → Rises 0 y.statuses → Rises 0 (told y).statuses
    Rises-told y r = Rises-filter (λ row. not (is_told row.1)) 0 y.statuses r

-- The kernel

pub on-opens : (i : Bool) (w : WorldState) (t : ℕ) (p : Pair) → Fit w → On w (after w (opens_as i w t p))
on-opens i w t p f =
    on-allowed w (not (is_some (open_refusal t p w.kernel))) (with_kernel (opened t p w.kernel) (with_rows i t w)) f
    (λ n. let un = not_opened w.kernel t p (not-true _ n) in
    let y = born i t COMMAND_LIMIT in record {
      later = record {
        bag = λ m j. j;
        opened = each_opened (λ u o q. was_opened w u ≡ true → (is_some o ≡ true) × (q ≡ partition_of w u)) w.kernel t p un (λ q o. apart o un) (λ u d o. (o, refl));
        dead = each_opened (λ u o q. is_dead w.kernel u ≡ true → (is_some o && not (lives_in o)) ≡ true) w.kernel t p un (λ q d. apart (and_parts _ _ d).0 un) (λ u d e. e);
        honest = λ u h. h;
        tabs = each_tab (λ u z. was_opened w u ≡ true → GoesOn (tab_of w u) z) t y w.tabs (λ o. apart o un) (λ u d o. goes-same (tab_of w u));
      };
      fit = record {
        untold = each_tab (λ u z. NoneTold z.statuses) t y w.tabs (λ row j. absurd (In-nil j)) (λ u d. f.untold u);
        low = each_tab (λ u z. z.report.base ≤ length z.issued) t y w.tabs (omega arith) (λ u d. f.low u);
        seats = each_tab (λ u z. IsHonest w u → has_joined (broker_of w) u ≡ true → z.report.base ≤ next_of (broker_of w) u) t y w.tabs (λ h j. omega arith) (λ u d. f.seats u);
      };
    })

pub on-kills : (w : WorldState) (t : ℕ) → Fit w → On w (after w (kills w t))
on-kills w t f =
    let os = w.kernel.opened in
    on-allowed w (lives w t) (with_kernel (killed t w.kernel) w) f
    (λ _. record {
      later = record {
        bag = λ m i. i;
        opened = λ u o. (ended-opened t os u ∙ o, ended-number t os u);
        dead = λ u d. let o = and_parts _ _ d in and_from _ _ (ended-opened t os u ∙ o.0) (still-dead u (not-true _ o.1));
        honest = λ u h. h;
        tabs = λ u o. goes-same (tab_of w u);
      };
      fit = record { untold = f.untold; low = f.low; seats = f.seats };
    })
  where
    still-dead : (u : ℕ) → lives w u ≡ false → not (lives_in (tab_in (map (ended t) w.kernel.opened) u)) ≡ true
    still-dead u e = ⊎_elim (λ a. apart (ended-lives t w.kernel.opened u a) e) (λ a. ap not a) (cases_Bool (lives_in (tab_in (map (ended t) w.kernel.opened) u)))

pub on-corrupts : (w : WorldState) (t : ℕ) → Fit w → On w (after w (corrupts w t))
on-corrupts w t f =
    on-allowed w (lives w t) (unchanged (record w { corrupt = taken_over t w.corrupt })) f
    (λ _. record {
      later = record { bag = λ m i. i; opened = λ u o. (o, refl); dead = λ u d. d; honest = λ u h. honest-before t u w.corrupt h; tabs = λ u o. goes-same (tab_of w u) };
      fit = record { untold = f.untold; low = f.low; seats = λ u h. f.seats u (honest-before t u w.corrupt h) };
    })
