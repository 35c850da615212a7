-- In all worlds a tab has issued no more commands than it may.
use Rattle.std.proofs.Common.{◌≡◌, ℕ, ◌+◌, ◌≤◌, Bool, true, false, not, cond, List, [], ◌∷◌, length, filter, Option, Some, refl, sym, ap, ◌∙◌, subst, le_refl, arith}
use Rattle.std.proofs.lemmas.Bool.{not-false}
use Rattle.std.specs.List.{AllByRecursion}
use Rattle.std.proofs.lemmas.List.Sums.{length-filter}
use Rattle.wl_draft.proofs.Membership.{either}
use Rattle.wl_draft.specs.Tables.{Table}
use Rattle.wl_draft.proofs.RisingTables.{Rises-filter}
use Rattle.wl_grammar.specs.declared.frame.Operation.{Operation}
use Rattle.wl_limits.specs.declared.tabs.TheConstants.{COMMAND_LIMIT}
use Rattle.wl_agent.specs.declared.status.Status.{Status}
use Rattle.wl_agent.specs.declared.status.Status.TheVariants.{Asked, Held, Querying, Whole, Lost}
use Rattle.wl_agent.specs.Tab.{TabState, count_of, live_limit, reserves_number, is_live}
use Rattle.wl_agent.specs.AgentLaws.{Hears}
use Rattle.wl_agent.specs.AgentInvariant.{Stands, RowsFit}
use Rattle.wl_agent.proofs.Limits.{Tidy, tidy_step, tidy_born}
use Rattle.wl_tab.specs.Tabs.{is_told, told}
use Rattle.wl_world_model.specs.World.{WorldState, empty_world, tab_of, run}
use Rattle.wl_world_model.specs.declared.event.Event.{Event}
use Rattle.wl_quiescence.proofs.facts.Tabs.{KeptByTab, run-tabs}

-- The rows of queries that were told are not live.
abbrev stays : ℕ × Status → Bool
stays r = not (is_told r.1)

kept-filter : (test : ℕ × Status → Bool) → ((r : ℕ × Status) → stays r ≡ false → test r ≡ false) → (rows : Table Status) → filter test (filter stays rows) ≡ filter test rows
kept-filter test f [] = refl
kept-filter test f (r ∷ rows) =
    let h = kept-filter test f rows in
    either (λ zs. filter test zs ≡ filter test (r ∷ rows)) (stays r) (r ∷ filter stays rows) (filter stays rows)
    (λ _. ap (λ zs. cond (test r) (r ∷ zs) zs) h)
    (λ n. h ∙ sym (ap (λ b. cond b (r ∷ filter test rows) (filter test rows)) (f r n)))

kept-count : (test : Option Status → Bool) → ((s : Status) → is_told s ≡ true → test (Some s) ≡ false) → (rows : Table Status) → count_of test (filter stays rows) ≡ count_of test rows
kept-count test f rows =
    let p = λ (r : ℕ × Status). test (Some r.1) in
    sym (length-filter p (filter stays rows)) ∙ (ap length (kept-filter p (λ r n. f r.1 (not-false _ n)) rows) ∙ length-filter p rows)

kept-rows : (issued : List Operation) (rows : Table Status) → RowsFit issued rows → RowsFit issued (filter stays rows)
kept-rows issued [] x = tt
kept-rows issued (r ∷ rows) x = either (λ zs. AllByRecursion (Stands issued) zs) (stays r) (r ∷ filter stays rows) (filter stays rows)
    (λ _. (x.0, kept-rows issued rows x.1)) (λ _. kept-rows issued rows x.1)

not-reserved : (s : Status) → is_told s ≡ true → reserves_number (Some s) ≡ false
not-reserved Asked e = cc
not-reserved Held e = cc
not-reserved (Querying ps) e = cc
not-reserved (Whole s) e = refl
not-reserved Lost e = refl

not-live : (s : Status) → is_told s ≡ true → is_live (Some s) ≡ false
not-live Asked e = cc
not-live Held e = cc
not-live (Querying ps) e = cc
not-live (Whole s) e = refl
not-live Lost e = refl

pub tidy-told : (a : TabState) → Tidy COMMAND_LIMIT a → Tidy COMMAND_LIMIT (told a)
unfolding told
tidy-told a t =
    let live = kept-count is_live not-live a.statuses in
    let kept = kept-count reserves_number not-reserved a.statuses in
    let x = t.1 in (
      t.0,
      record {
        limit = x.limit;
        numbers = subst (λ n. length a.issued + n ≤ a.numbers) (sym kept) x.numbers;
        has_room = subst (λ n. length a.issued + n ≤ COMMAND_LIMIT) (sym kept) x.has_room;
        few = subst (λ n. n ≤ live_limit a.in_parts) (sym live) x.few;
        rise = Rises-filter stays 0 a.statuses x.rise;
        rows = kept-rows a.issued a.statuses x.rows;
        acknowledged = x.acknowledged;
      },
    )

tidy-kept : (w : WorldState) → KeptByTab w (λ t a. Tidy COMMAND_LIMIT a)
tidy-kept w = record { born = λ i t n. tidy_born i t COMMAND_LIMIT (le_refl 1000000); calls = λ t lv x h. tidy_step COMMAND_LIMIT x (tab_of w t) h; hears = λ t lv f h. tidy-told _ (tidy_step COMMAND_LIMIT (Hears f) (tab_of w t) h) }

pub run-tidy : (es : List Event) (t : ℕ) → Tidy COMMAND_LIMIT (tab_of (run es empty_world) t)
run-tidy es t = run-tabs (λ t a. Tidy COMMAND_LIMIT a) tidy-kept es t

pub issued-few : (es : List Event) (t : ℕ) → length (tab_of (run es empty_world) t).issued ≤ COMMAND_LIMIT
issued-few es t = let x = run-tidy es t in let a = x.0 in let b = x.1.numbers in omega (arith, a, b)
