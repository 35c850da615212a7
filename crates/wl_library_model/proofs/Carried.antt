-- Frames and clients that fit a world also fit each later world.
use Rattle.std.proofs.Common.{◌≡◌, ◌⊎◌, inl, inr, ⊎_elim, ℕ, ◌<◌, ◌≤◌, true, false, cond, length, sym, ap, ◌∙◌, subst, arith}
use Rattle.std.specs.Prelude.{◌==◌}
use Rattle.std.proofs.lemmas.Bool.{cases_Bool, false_from_ne_true, eqb-true}
use Rattle.wl_draft.specs.Membership.{In}
use Rattle.wl_draft.proofs.Membership.{apart, either}
use Rattle.wl_grammar.specs.declared.frame.Frame.{Frame}
use Rattle.wl_grammar.specs.declared.frame.Frame.TheVariants as frame
use Rattle.wl_grammar.specs.declared.frame.Command.{Command}
use Rattle.wl_grammar.specs.declared.frame.Answer.{Answer}
use Rattle.wl_grammar.specs.declared.frame.Upward.{Upward}
use Rattle.wl_agent.specs.Tab.{TabState, report_bodies, is_due}
use Rattle.wl_world_model.specs.World.{WorldState, tab_of}
use Rattle.wl_world_model.specs.Sends.{stamped, command_message}
use Rattle.wl_world_model.proofs.exclusion.Invariant.{was_opened, up_message}
use Rattle.wl_library_model.specs.Library.{Library, Line}
use Rattle.wl_library_model.specs.Simulation.{IsSettled, IsRepeat, IsRepeated, GoesUp, ComesDown, IsOnItsWayDown, IsOnItsWayUp, IsClientOf, IsLineOf, IsHubOf}
use Rattle.wl_library_model.proofs.Later.{GoesOn, Later}
use Rattle.wl_library_model.proofs.Happens.{Good}

-- Repeats

pub settled-later : (a b : TabState) (k : ℕ) → GoesOn a b → a.report.base ≤ length a.issued → b.entered ≡ a.entered → IsSettled a k → IsSettled b k
settled-later a b k g low e s =
    let lt : k < a.report.base = s.reported in
    let le : a.report.base ≤ length a.issued = low in
    record {
      reported = subst (λ z. k < z.base) (sym (g.report e)) s.reported;
      over = false_from_ne_true _ (λ y. apart (g.awaited k (omega arith) y) s.over);
    }

repeat-later : (a b : TabState) (c : Command) → GoesOn a b → a.report.base ≤ length a.issued → IsRepeat a c → IsRepeat b c
repeat-later a b c g low r =
    let p : c.generation ≤ a.entered = r.past in
    let q : a.entered ≤ b.entered = g.entered in
    record {
      past = omega arith;
      settled = λ e. let f : c.generation ≡ b.entered = e in settled-later a b c.number g low (omega arith) (r.settled (omega arith));
    }

repeated-later : (a b : TabState) (x : Answer) → GoesOn a b → IsRepeated a x → IsRepeated b x
repeated-later a b x g r =
    let p : x.generation ≤ a.entered = r.past in
    let q : a.entered ≤ b.entered = g.entered in
    let m : length a.issued ≤ length b.issued = g.issued in
    record {
      past = omega arith;
      issued = λ e. let f : x.generation ≡ b.entered = e in let lt : x.number < length a.issued = r.issued (omega arith) in omega arith;
      over = λ e. let f : x.generation ≡ b.entered = e in false_from_ne_true _ (λ y. apart (g.awaited x.number (r.issued (omega arith)) y) (r.over (omega arith)));
    }

-- Frames

pub stays-up : (w v : WorldState) → Later w v → (t : ℕ) → was_opened w t ≡ true → (u : Upward) → In (stamped w.kernel t u) w.bag → In (stamped v.kernel t u) v.bag
stays-up w v x t o u i = subst (λ p. In (up_message t p u) v.bag) (sym (x.opened t o).1) (x.bag _ i)

goes_up-later : (w v : WorldState) → Later w v → (t : ℕ) → was_opened w t ≡ true → (tab_of w t).report.base ≤ length (tab_of w t).issued → (f : Frame) → GoesUp w t f → GoesUp v t f
goes_up-later w v x t o low (frame.Command c) g = ⊎_elim (λ i. inl (stays-up w v x t o _ i)) (λ r. inr (repeat-later (tab_of w t) (tab_of v t) c (x.tabs t o) low r)) g
goes_up-later w v x t o low (frame.Report r) g = stays-up w v x t o _ g
goes_up-later w v x t o low (frame.ReportPart r) g = stays-up w v x t o _ g
goes_up-later w v x t o low (frame.Post p) g = g
goes_up-later w v x t o low f g = absurd g

comes_down-later : (w v : WorldState) → Later w v → (t : ℕ) (f : Frame) → ComesDown w t f → ComesDown v t f
comes_down-later w v x t (frame.Hello h) c = ⊎_elim (λ i. inl (x.bag _ i)) (λ i. inr (x.bag _ i)) c
comes_down-later w v x t (frame.Answer a) c = ⊎_elim (λ i. inl (x.bag _ i)) (λ r. inr ((x.opened t r.0).0, repeated-later (tab_of w t) (tab_of v t) a (x.tabs t r.0) r.1)) c
comes_down-later w v x t (frame.Snapshot a) c = x.bag _ c
comes_down-later w v x t (frame.Heard h) c = c
comes_down-later w v x t (frame.Welcome a) c = ((x.opened t c.0).0, c.1, (x.tabs t c.0).in_parts ∙ c.2)
comes_down-later w v x t (frame.PairWelcome a) c = ((x.opened t c.0).0, c.1, (x.tabs t c.0).in_parts ∙ c.2)
comes_down-later w v x t f c = absurd c

pub down-later : (w v : WorldState) → Later w v → (t : ℕ) (f : Frame) → IsOnItsWayDown w t f → IsOnItsWayDown v t f
down-later w v x t f o = ⊎_elim (λ d. inl (x.dead t d)) (λ c. inr (comes_down-later w v x t f c)) o

pub up-later : (w v : WorldState) → Good w → Later w v → (t : ℕ) (f : Frame) → IsOnItsWayUp w t f → IsOnItsWayUp v t f
up-later w v g x t f o = ((x.opened t o.0).0, goes_up-later w v x t o.0 (g.fit.low t) f o.1)

-- The line of a tab that the events do not change.
pub line-later : (w v : WorldState) → Good w → Later w v → (t : ℕ) (y : Line) → tab_of v t ≡ tab_of w t → IsLineOf w t y → IsLineOf v t y
line-later w v g x t y same i = record {
  client = subst (IsClientOf y.client t) (sym same) i.client;
  down = λ f j. down-later w v x t f (i.down f j);
  came = λ f j. down-later w v x t f (i.came f j);
  up = λ h f j. up-later w v g x t f (i.up (x.honest t h) f j);
  report = λ h f j. up-later w v g x t f (i.report (x.honest t h) f j);
  posts = λ h f j. up-later w v g x t f (i.posts (x.honest t h) f j);
}

-- Lines

pub each_line : (P : ℕ → Line → Type 0) (t : ℕ) (y : Line) (lines : ℕ → Line) → P t y → ((u : ℕ) → P u (lines u)) → (u : ℕ) → P u (cond (u == t) y (lines u))
each_line P t y lines now all u = either (P u) (u == t) y (lines u) (λ e. subst (λ z. P z y) (sym (eqb-true u t e)) now) (λ _. all u)

pub each_other : (P : ℕ → Line → Type 0) (t : ℕ) (y : Line) (lines : ℕ → Line) → P t y → ((u : ℕ) → (u == t) ≡ false → P u (lines u)) → (u : ℕ) → P u (cond (u == t) y (lines u))
each_other P t y lines now others u = either (P u) (u == t) y (lines u) (λ e. subst (λ z. P z y) (sym (eqb-true u t e)) now) (λ e. others u e)

-- Frames sent by an honest tab

-- Once the tab has entered a generation, its report and each of its commands that is not settled are in the bag.
pub record Known (w : WorldState) (t : ℕ) (a : TabState) : Type 0 where
  pub commands : 0 < a.entered → (k : ℕ) → k < length a.issued → In (command_message w.kernel t a k) w.bag ⊎ IsSettled a k
  pub report : 0 < a.entered → (u : Upward) → In u (report_bodies a.in_parts a.report) → In (stamped w.kernel t u) w.bag

-- The same between the entering and the sending of the commands that are due.
pub record HalfKnown (w : WorldState) (t : ℕ) (a : TabState) : Type 0 where
  pub commands : 0 < a.entered → (k : ℕ) → k < length a.issued → (is_due a k ≡ true) ⊎ (In (command_message w.kernel t a k) w.bag ⊎ IsSettled a k)
  pub report : 0 < a.entered → (u : Upward) → In u (report_bodies a.in_parts a.report) → In (stamped w.kernel t u) w.bag

not_entered : (w : WorldState) → Good w → (t : ℕ) → was_opened w t ≡ false → 0 < (tab_of w t).entered → ⊥
not_entered w g t n lt =
    let b = (g.sound.tabs t).unopened n in
    let z : (tab_of w t).entered ≡ 0 = ap (λ y. y.entered) b.1 in
    let l : 0 < (tab_of w t).entered = lt in omega arith

pub known-later : (w v : WorldState) → Good w → Later w v → (t : ℕ) → tab_of v t ≡ tab_of w t → Known w t (tab_of w t) → Known v t (tab_of v t)
known-later w v g x t same k = subst (Known v t) (sym same) (record {
  commands = λ lt n l. ⊎_elim
      (λ o. ⊎_elim (λ i. inl (stays-up w v x t o _ i)) (λ s. inr s) (k.commands lt n l))
      (λ o. absurd (not_entered w g t o lt))
      (cases_Bool (was_opened w t));
  report = λ lt u i. ⊎_elim (λ o. stays-up w v x t o u (k.report lt u i)) (λ o. absurd (not_entered w g t o lt)) (cases_Bool (was_opened w t));
})

pub half-later : (w v : WorldState) → Good w → Later w v → (t : ℕ) → tab_of v t ≡ tab_of w t → HalfKnown w t (tab_of w t) → HalfKnown v t (tab_of v t)
half-later w v g x t same k = subst (HalfKnown v t) (sym same) (record {
  commands = λ lt n l. ⊎_elim
      (λ o. ⊎_elim (λ d. inl d) (λ r. inr (⊎_elim (λ i. inl (stays-up w v x t o _ i)) (λ s. inr s) r)) (k.commands lt n l))
      (λ o. absurd (not_entered w g t o lt))
      (cases_Bool (was_opened w t));
  report = λ lt u i. ⊎_elim (λ o. stays-up w v x t o u (k.report lt u i)) (λ o. absurd (not_entered w g t o lt)) (cases_Bool (was_opened w t));
})

pub half-known : (w : WorldState) (t : ℕ) (a : TabState) → Known w t a → HalfKnown w t a
half-known w t a k = record { commands = λ lt n l. inr (k.commands lt n l); report = k.report }

-- The library and its world

pub record Sim (l : Library) (w : WorldState) : Type 0 where
  pub good : Good w
  pub hub : IsHubOf w l.hub
  pub lines : (t : ℕ) → IsLineOf w t (l.lines t)
  pub taken : l.taken ≡ w.corrupt
  pub known : (t : ℕ) → Known w t (tab_of w t)
