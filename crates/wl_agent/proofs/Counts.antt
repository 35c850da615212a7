-- Counts that are stored with the statuses.
use Rattle.std.proofs.Common.{◌≡◌, ℕ, ◌+◌, ◌-◌, ◌≤◌, Bool, true, false, ◌||◌, Option, Some, None, refl, sym, ap, ◌∙◌, subst, arith}
use Rattle.wl_draft.specs.Tables.{Table, find, put, without_row}
use Rattle.wl_draft.proofs.RisingTables.{Rises-put, Rises-filter}
use Rattle.wl_agent.specs.declared.status.Status.{Status}
use Rattle.wl_agent.specs.Tab.{is_live, reserves_number, is_querying, count_of}
use Rattle.wl_agent.specs.AgentInvariant.{IsCounted}
use Rattle.wl_agent.proofs.Rows.{weight, passing-without, passing-put, passing-le}

keeping_is_live : (s : Status) (b c : Bool) → reserves_number (Some s) ≡ b → is_querying (Some s) ≡ c → b ≡ true → (b || c) ≡ true
keeping_is_live s true c e f h = refl
keeping_is_live s false c e f h = cc

-- Each number that reserves another is live.
pub kept-le_live : (rows : Table Status) → count_of reserves_number rows ≤ count_of is_live rows
kept-le_live rows = passing-le reserves_number is_live (λ s. keeping_is_live s _ _ refl refl) rows

-- Removing a row

pub live-fits : (rows : Table Status) (live kept l k : ℕ) (o : Option Status) → IsCounted rows live kept → find rows k ≡ o → l ≡ weight is_live o → l ≤ live
live-fits rows live kept l k o c found l_is =
    let at : l ≡ weight is_live (find rows k) = l_is ∙ ap (weight is_live) (sym found) in
    omega (arith, passing-without is_live refl k 0 rows c.rise, at, c.live_is)

pub kept-fits : (rows : Table Status) (live kept m k : ℕ) (o : Option Status) → IsCounted rows live kept → find rows k ≡ o → m ≡ weight reserves_number o → m ≤ kept
kept-fits rows live kept m k o c found m_is =
    let at : m ≡ weight reserves_number (find rows k) = m_is ∙ ap (weight reserves_number) (sym found) in
    omega (arith, passing-without reserves_number refl k 0 rows c.rise, at, c.kept_is)

pub counts-without : (rows rest : Table Status) (live kept l m k : ℕ) (o : Option Status) → IsCounted rows live kept → find rows k ≡ o → rest ≡ without_row k rows → l ≡ weight is_live o → m ≡ weight reserves_number o → IsCounted rest (live - l) (kept - m)
counts-without rows rest live kept l m k o c found rest_is l_is m_is =
    let l_at : l ≡ weight is_live (find rows k) = l_is ∙ ap (weight is_live) (sym found) in
    let m_at : m ≡ weight reserves_number (find rows k) = m_is ∙ ap (weight reserves_number) (sym found) in
    let P : Table Status → Type 0 = λ rs. IsCounted rs (live - l) (kept - m) in
    subst P (sym rest_is) (record {
      rise = Rises-filter _ 0 rows c.rise;
      live_is = omega (arith, passing-without is_live refl k 0 rows c.rise, l_at, c.live_is);
      kept_is = omega (arith, passing-without reserves_number refl k 0 rows c.rise, m_at, c.kept_is);
    })

-- Putting a row, with or without an old one

pub counts-put : (rows new : Table Status) (live kept l m l' m' k : ℕ) (s : Status) (o : Option Status) → IsCounted rows live kept → find rows k ≡ o → new ≡ put k s rows → l ≡ weight is_live o → m ≡ weight reserves_number o → l' ≡ weight is_live (Some s) → m' ≡ weight reserves_number (Some s) → IsCounted new (live - l + l') (kept - m + m')
counts-put rows new live kept l m l' m' k s o c found new_is l_is m_is l'_is m'_is =
    let l_at : l ≡ weight is_live (find rows k) = l_is ∙ ap (weight is_live) (sym found) in
    let m_at : m ≡ weight reserves_number (find rows k) = m_is ∙ ap (weight reserves_number) (sym found) in
    let P : Table Status → Type 0 = λ rs. IsCounted rs (live - l + l') (kept - m + m') in
    subst P (sym new_is) (record {
      rise = Rises-put 0 k s rows (omega arith) c.rise;
      live_is = omega (arith, passing-put is_live refl k 0 s rows c.rise, passing-without is_live refl k 0 rows c.rise, l_at, l'_is, c.live_is);
      kept_is = omega (arith, passing-put reserves_number refl k 0 s rows c.rise, passing-without reserves_number refl k 0 rows c.rise, m_at, m'_is, c.kept_is);
    })

-- Putting a row of a number that had none adds its weight to the counts.
pub counts-insert : (rows new : Table Status) (live kept l m k : ℕ) (s : Status) → IsCounted rows live kept → find rows k ≡ None → new ≡ put k s rows → l ≡ weight is_live (Some s) → m ≡ weight reserves_number (Some s) → IsCounted new (live + l) (kept + m)
counts-insert rows new live kept l m k s c absent new_is l_is m_is =
    let l_at : weight is_live (find rows k) ≡ 0 = ap (weight is_live) absent in
    let m_at : weight reserves_number (find rows k) ≡ 0 = ap (weight reserves_number) absent in
    let P : Table Status → Type 0 = λ rs. IsCounted rs (live + l) (kept + m) in
    subst P (sym new_is) (record {
      rise = Rises-put 0 k s rows (omega arith) c.rise;
      live_is = omega (arith, passing-put is_live refl k 0 s rows c.rise, l_at, l_is, c.live_is);
      kept_is = omega (arith, passing-put reserves_number refl k 0 s rows c.rise, m_at, m_is, c.kept_is);
    })
