-- Contents of the report that a tab makes on entering a generation.
use Rattle.std.proofs.Common.{◌≡◌, ⊎_elim, ℕ, zero, suc, ◌+◌, ◌<◌, ◌≤◌, true, not, List, length, map, filter, sym, ap, ◌∙◌, subst, arith}
use Rattle.std.specs.List.{range_with_len}
use Rattle.std.proofs.lemmas.Bool.{or_left, cases_eq}
use Rattle.wl_draft.specs.declared.row.Row.{Row}
use Rattle.wl_draft.specs.declared.row.Entry.{Entry}
use Rattle.wl_draft.specs.Locks.{row_of, held_of, waiting_of}
use Rattle.wl_agent.specs.Tab.{TabState, status_of, numbers_of, is_held, entry_of, is_reported}
use Rattle.wl_draft.specs.Membership.{In, Here, Later}
use Rattle.wl_draft.proofs.Membership.{In-map, In-map_cases, In-filter, In-filter_cases}
use Rattle.wl_world_model.proofs.exclusion.Invariant.{row_at, IsKnown}
use Rattle.wl_world_model.proofs.exclusion.ActsWithinAGeneration.{In-numbers}

-- The entries of a tab's report.
abbrev pub reported_entries : TabState → List Entry
reported_entries x = map (entry_of x) (filter (is_reported x) (numbers_of x))

abbrev entry_row : ℕ → Entry → Row
entry_row t e = row_of t e.number e.name e.mode

-- Each report entry agrees with the tab's issued commands.
known-entry : (t : ℕ) (x : TabState) (r : Row) (e : Entry) → In e (reported_entries x) → r ≡ entry_row t e → IsKnown t x r × (e.number ≡ r.number) × (e.held ≡ is_held (status_of x r.number))
known-entry t x r e i same =
    let o = In-map_cases (entry_of x) (filter (is_reported x) (numbers_of x)) i in
    let is : r ≡ row_at t x o.0 = same ∙ ap (entry_row t) o.2 in
    let number : r.number ≡ o.0 = ap (λ z. z.number) is in
    let lt = In-numbers x o.0 (In-filter_cases (is_reported x) (numbers_of x) o.1).0 in (
      (is ∙ ap (row_at t x) (sym number), subst (λ z. z < length x.issued) (sym number) lt),
      ap (λ z. z.number) o.2 ∙ sym number,
      ap (λ z. z.held) o.2 ∙ ap (λ z. is_held (status_of x z)) (sym number),
    )

pub report-held : (t : ℕ) (x : TabState) (r : Row) → In r (held_of t (reported_entries x)) → IsKnown t x r × (is_held (status_of x r.number) ≡ true)
report-held t x r i =
    let o = In-map_cases (entry_row t) (filter (λ e. e.held) (reported_entries x)) i in
    let f = In-filter_cases (λ e. e.held) (reported_entries x) o.1 in
    let k = known-entry t x r o.0 f.0 o.2 in
    (k.0, sym k.2 ∙ f.1)

pub report-waits : (t : ℕ) (x : TabState) (r : Row) → In r (waiting_of t (reported_entries x)) → IsKnown t x r
report-waits t x r i =
    let o = In-map_cases (entry_row t) (filter (λ e. not e.held) (reported_entries x)) i in
    (known-entry t x r o.0 (In-filter_cases (λ e. not e.held) (reported_entries x) o.1).0 o.2).0

In-range_at : (from n k : ℕ) → from ≤ k → k < from + n → In k (range_with_len from n)
In-range_at from zero k le lt = absurd (omega arith)
In-range_at from (suc n) k le lt = ⊎_elim
    (λ e. subst (λ z. In z (range_with_len from (suc n))) e Here)
    (λ d. let more : from + 1 ≤ k = omega arith in Later (In-range_at (from + 1) n k more (omega arith)))
    (cases_eq from k)

pub report-has : (t : ℕ) (x : TabState) (k : ℕ) → k < length x.issued → is_held (status_of x k) ≡ true → In (row_at t x k) (held_of t (reported_entries x))
report-has t x k lt h =
    let i : In k (numbers_of x) = In-range_at 0 (length x.issued) k (omega arith) (omega arith) in
    let p : is_reported x k ≡ true = or_left (is_held (status_of x k)) _ h in
    In-map (entry_row t) (In-filter (λ e. e.held) (reported_entries x) (In-map (entry_of x) (In-filter (is_reported x) (numbers_of x) i p)) h)
