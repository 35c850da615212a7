-- Parts of a snapshot, joined one after another.
use Rattle.std.proofs.Common.{◌≡◌, ◌≢◌, ℕ, Bool, true, false, cond, List, [], ◌∷◌, ◌++◌, map, Some, None, refl, ap, ◌∙◌, sym, length}
use Rattle.std.proofs.lemmas.Bool.{eq-eqb, ne_eqb}
use Rattle.std.specs.List.{flat_map}
use Rattle.wl_draft.specs.Tables.{Table, put}
use Rattle.wl_grammar.specs.declared.frame.SnapshotEntry.{SnapshotEntry}
use Rattle.wl_grammar.specs.declared.frame.Snapshot.{Snapshot as Part}
use Rattle.wl_agent.specs.declared.snapshot.LockInfo.{LockInfo}
use Rattle.wl_agent.specs.declared.snapshot.Snapshot.{Snapshot}
use Rattle.wl_agent.specs.SnapshotParts.{PartsState, with_part, is_whole, whole_of, snapshot_of, all_entries, held_in, pending_in}

-- Joining the values of the rows is joining the rows.
flat_values_as : {X : Type 0} (p : ℕ × List X) (ps : Table (List X)) → flat_map (λ es. es) (map (λ row. row.1) ps) ≡ flat_map (λ row. row.1) ps → flat_map (λ es. es) (map (λ row. row.1) (p ∷ ps)) ≡ flat_map (λ row. row.1) (p ∷ ps)
flat_values_as p ps below = ap (λ rest. p.1 ++ rest) below

pub flat_values : {X : Type 0} (ps : Table (List X)) → flat_map (λ es. es) (map (λ row. row.1) ps) ≡ flat_map (λ row. row.1) ps
flat_values [] = refl
flat_values (p ∷ ps) = flat_values_as p ps (flat_values ps)

-- Nothing is gathered before the first part.
pub gathers : (gather : List SnapshotEntry → List LockInfo) (none : List LockInfo) (left values : List (List SnapshotEntry)) (rows : Table (List SnapshotEntry)) → none ≡ [] → left ≡ values → values ≡ map (λ row. row.1) rows → none ++ gather (flat_map (λ es. es) left) ≡ gather (all_entries rows)
gathers gather none left values rows none_is left_is values_are =
    ap (λ xs. xs ++ gather (flat_map (λ es. es) left)) none_is ∙ ap (λ es. gather (flat_map (λ l. l) es)) (left_is ∙ values_are) ∙ ap gather (flat_values rows)

-- The snapshot is whole or `None`, depending on the test whether a part is missing.
either_whole : (x : Part) (parts : PartsState) (b : Bool) → is_whole (with_part x parts) ≡ b → whole_of (with_part x parts) ≡ cond b (Some (snapshot_of (with_part x parts))) None
either_whole x parts b e = rw e refl

pub whole_none : (x : Part) (parts : PartsState) (rows : Table (List SnapshotEntry)) (n m : ℕ) → rows ≡ put x.part x.entries parts.came → n ≡ length rows → m ≡ x.parts → n ≢ m → None ≡ whole_of (with_part x parts)
unfolding with_part
whole_none x parts rows n m rows_are n_is m_is other =
    sym (either_whole x parts false (ne_eqb _ _ (λ e. other (n_is ∙ ap length rows_are ∙ e ∙ sym m_is))))

snapshot_is : (s : Snapshot) (held pending : List LockInfo) → s.held ≡ held → s.pending ≡ pending → s ≡ record { held = held; pending = pending }
snapshot_is s held pending e f = rw (← e, ← f) refl

pub whole_some : (x : Part) (parts : PartsState) (rows : Table (List SnapshotEntry)) (n m : ℕ) (s : Snapshot) → rows ≡ put x.part x.entries parts.came → n ≡ length rows → m ≡ x.parts → n ≡ m → s.held ≡ held_in (all_entries rows) → s.pending ≡ pending_in (all_entries rows) → Some s ≡ whole_of (with_part x parts)
unfolding with_part snapshot_of
whole_some x parts rows n m s rows_are n_is m_is same held pending =
    ap Some (snapshot_is s _ _ (held ∙ ap (λ rs. held_in (all_entries rs)) rows_are) (pending ∙ ap (λ rs. pending_in (all_entries rs)) rows_are)) ∙ sym (either_whole x parts true (eq-eqb _ _ (sym (n_is ∙ ap length rows_are) ∙ same ∙ m_is)))
