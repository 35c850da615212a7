-- Counts of the statuses when a part of a query's answer arrives.
use Rattle.std.proofs.Common.{◌≡◌, ℕ, ◌+◌, ◌-◌, ◌≤◌, Bool, true, false, Some, refl, sym, ap, ◌∙◌, subst, arith}
use mir.Val.{bool_byte}
use Rattle.wl_draft.specs.Tables.{Table, find, put}
use Rattle.wl_draft.proofs.RisingTables.{Rises-put}
use Rattle.wl_grammar.specs.declared.frame.Snapshot.{Snapshot as Part}
use Rattle.wl_agent.specs.declared.status.Status.{Status}
use Rattle.wl_agent.specs.declared.status.Status.TheVariants.{Asked, Held, Querying, Whole, Lost}
use Rattle.wl_agent.specs.SnapshotParts.{PartsState, with_part, is_whole}
use Rattle.wl_agent.specs.Tab.{is_live, reserves_number, is_querying}
use Rattle.wl_agent.specs.Delivery.{parts_of, with_part_come}
use Rattle.wl_agent.specs.AgentInvariant.{IsCounted}
use Rattle.wl_agent.proofs.Rows.{weight, passing-without, passing-put}

querying_weighs : (s : Status) → is_querying (Some s) ≡ true → (weight is_live (Some s) ≡ 1) × (weight reserves_number (Some s) ≡ 0)
querying_weighs Asked e = cc
querying_weighs Held e = cc
querying_weighs (Querying parts) e = (refl, refl)
querying_weighs (Whole snapshot) e = cc
querying_weighs Lost e = cc

come_weighs : (x : Part) (parts : PartsState) (b : Bool) → is_whole (with_part x parts) ≡ b → (weight is_live (Some (with_part_come x parts)) + bool_byte b ≡ 1) × (weight reserves_number (Some (with_part_come x parts)) ≡ 0)
come_weighs x parts true e = rw e (refl, refl)
come_weighs x parts false e = rw e (refl, refl)

-- An asked query is live.
pub asking-live : (rows : Table Status) (live kept k n : ℕ) (s : Status) (b : Bool) → IsCounted rows live kept → find rows k ≡ Some s → is_querying (Some s) ≡ true → n ≡ bool_byte b → n ≤ live
asking-live rows live kept k n s b c found asked n_is =
    let w : weight is_live (find rows k) ≡ 1 = ap (weight is_live) found ∙ (querying_weighs s asked).0 in
    omega (arith, passing-without is_live refl k 0 rows c.rise, w, c.live_is, byte_small b, n_is)
  where
    byte_small : (b : Bool) → bool_byte b ≤ 1
    byte_small true = omega arith
    byte_small false = omega arith

-- When a part arrives, the query stays live unless it was the last missing part.
pub counts-part : (rows new : Table Status) (live kept k n : ℕ) (x : Part) (s : Status) (b : Bool) → IsCounted rows live kept → find rows k ≡ Some s → is_querying (Some s) ≡ true → new ≡ put k (with_part_come x (parts_of (Some s))) rows → is_whole (with_part x (parts_of (Some s))) ≡ b → n ≡ bool_byte b → IsCounted new (live - n) kept
counts-part rows new live kept k n x s b c found asked new_is whole_is n_is =
    let old = querying_weighs s asked in
    let l_at : weight is_live (find rows k) ≡ 1 = ap (weight is_live) found ∙ old.0 in
    let m_at : weight reserves_number (find rows k) ≡ 0 = ap (weight reserves_number) found ∙ old.1 in
    let come = come_weighs x (parts_of (Some s)) b whole_is in
    let t = with_part_come x (parts_of (Some s)) in
    let P : Table Status → Type 0 = λ rs. IsCounted rs (live - n) kept in
    subst P (sym new_is) (record {
      rise = Rises-put 0 k t rows (omega arith) c.rise;
      live_is = omega (arith, passing-put is_live refl k 0 t rows c.rise, l_at, come.0, n_is, c.live_is);
      kept_is = omega (arith, passing-put reserves_number refl k 0 t rows c.rise, m_at, come.1, c.kept_is);
    })
