use Rattle.std.proofs.Common.{◌≡◌, ◌≢◌, ⊎_elim, ℕ, ◌==◌, Bool, true, false, ◌||◌, List, [], ◌∷◌, map, Some, refl, sym, subst, arith}
use Rattle.std.proofs.lemmas.Bool.{cases_eq, ne_eqb}
use Rattle.wl_draft.proofs.Membership.{apart, either, In-nil}
use Rattle.std.specs.List.{list_any}
use Rattle.wl_kernel.specs.Kernel.{OpenedTab, tab_in, lives as lives_in}
use Rattle.wl_draft.specs.Locks.{is_grantable, newly_granted, settle, queued, probed, released, aborted, ended, restored}
use Rattle.wl_broker_reports.specs.ReportParts.{with_told}
use Rattle.wl_broker.specs.Broker.{is_active, place_of, is_misplaced, settled_at, newly_at, join, join_if, take_report_part, perform, take_command, taking, death_step}
use Rattle.wl_agent.specs.SnapshotParts.{with_part, snapshot_of}
use Rattle.wl_agent.specs.Tab.{issue, ended as ended_number, finish, report_of, enter_first, enter_later, report_bodies, due}
use Rattle.wl_agent.specs.Delivery.{noted, becomes as becomes_status, delivery}
use Rattle.wl_tab.specs.Arrivals.{arrival}
use Rattle.wl_tab.specs.Tabs.{told}
use Rattle.wl_world_model.specs.WorldExamples.{p}
use Rattle.wl_library_model.specs.Library.{Library, new_library, run_steps, lives, step}
use Rattle.wl_quiescence.specs.Quiescence.{IsStill, LivesIn, rested}
use Rattle.wl_quiescence.proofs.Assembly.{law-served, law-beside, law-held_up, law-nobody}
use Rattle.wl_quiescence.proofs.quiescence.law_quiescence.Goals as goal

or_no : (a b : Bool) → a ≡ false → (a || b) ≡ false → b ≡ false
or_no true b n e = apart refl n
or_no false b n e = e

no_tab : (os : List OpenedTab) (t : ℕ) → list_any (λ n. n == t) (map (λ o. o.tab) os) ≡ false → lives_in (tab_in os t) ≡ false
no_tab [] t e = refl
no_tab (o ∷ os) t e = either (λ x. lives_in x ≡ false) (o.tab == t) (Some o) (tab_in os t)
    (λ y. apart (rw y refl) e) (λ n. no_tab os t (or_no (o.tab == t) (list_any (λ n. n == t) (map (λ o. o.tab) os)) n e))

two_only : (os : List OpenedTab) (t : ℕ) → map (λ o. o.tab) os ≡ 1 ∷ 2 ∷ [] → 1 ≢ t → 2 ≢ t → lives_in (tab_in os t) ≡ false
two_only os t e a b =
    no_tab os t (subst (λ ns. list_any (λ n. n == t) ns ≡ false) (sym e) (rw (ne_eqb 1 t a) (rw (ne_eqb 2 t b) refl)))

abbrev at_rest : Library
at_rest = run_steps rested new_library

still-1 : IsStill at_rest 1
unfolding is_grantable newly_granted settle queued probed released aborted ended restored is_active place_of is_misplaced settled_at newly_at join join_if with_told take_report_part perform take_command taking death_step with_part snapshot_of issue ended_number finish report_of enter_first enter_later report_bodies due noted becomes_status delivery arrival told step
still-1 = record { quiet = record { report = refl; due = refl; unsent = refl; up = refl }; down = refl; came = refl }

still-2 : IsStill at_rest 2
unfolding is_grantable newly_granted settle queued probed released aborted ended restored is_active place_of is_misplaced settled_at newly_at join join_if with_told take_report_part perform take_command taking death_step with_part snapshot_of issue ended_number finish report_of enter_first enter_later report_bodies due noted becomes_status delivery arrival told step
still-2 = record { quiet = record { report = refl; due = refl; unsent = refl; up = refl }; down = refl; came = refl }

-- No other tab was opened.
others : (t : ℕ) → 1 ≢ t → 2 ≢ t → lives at_rest t ≡ true → ⊥
unfolding is_grantable newly_granted settle queued probed released aborted ended restored is_active place_of is_misplaced settled_at newly_at join join_if with_told take_report_part perform take_command taking death_step with_part snapshot_of issue ended_number finish report_of enter_first enter_later report_bodies due noted becomes_status delivery arrival told step
others t a b e = apart e (two_only at_rest.hub.supervised.kernel.opened t refl a b)

all-still : (t : ℕ) → LivesIn p at_rest t → IsStill at_rest t
all-still t h =
    ⊎_elim (λ e. subst (IsStill at_rest) e still-1)
    (λ a. ⊎_elim (λ e. subst (IsStill at_rest) e still-2) (λ b. absurd (others t a b h.living)) (cases_eq 2 t))
    (cases_eq 1 t)

-- The laws are of the invariant; the example is computed.
pub returns : goal.returns
unfolding is_grantable newly_granted settle queued probed released aborted ended restored is_active place_of is_misplaced settled_at newly_at join join_if with_told take_report_part perform take_command taking death_step with_part snapshot_of issue ended_number finish report_of enter_first enter_later report_bodies due noted becomes_status delivery arrival told step
returns c = record {
  served = law-served;
  beside = law-beside;
  held_up = law-held_up;
  nobody_waits = law-nobody;
  met = (
    refl,
    record {
      told = λ t h i. In-nil i;
      greeted = λ front back t h e. omega arith;
      handled = λ h. refl;
      sent = λ t f h i. In-nil i;
      tabs = λ t h _. all-still t h;
    },
    λ t h. refl,
    record { living = refl; place = refl },
    record { living = refl; place = refl },
    refl,
    refl,
  );
}
