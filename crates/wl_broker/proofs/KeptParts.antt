-- Invariant of the parts that a broker keeps, and lemmas on the broker's fields.
use Rattle.std.proofs.Common.{◌≡◌, ⊎_elim, ℕ, Bool, true, false, not, ◌&&◌, List, [], Some, None, refl, sym, ap, ◌∙◌, subst, arith}
use Rattle.std.proofs.lemmas.Bool.{cases_eq, eq-eqb, ne_eqb, cond-true, cond-false}
use Rattle.wl_draft.specs.declared.row.Entry.{Entry}
use Rattle.wl_draft.specs.Tables.{Table, find, put}
use Rattle.wl_draft.proofs.TableLemmas.{find-put_other}
use Rattle.wl_draft.proofs.RisingTables.{Rises-put, Rises-without, find-without, without_none}
use Rattle.wl_broker_reports.specs.declared.heading.PartHeader.{PartHeader}
use Rattle.wl_broker_reports.specs.ReportParts.{Partial, all_below, fits, has_part, is_whole, whole_of, without_partial}
use Rattle.wl_broker_reports.specs.PartialReports.{told, is_kept}
use Rattle.wl_broker_reports.proofs.KeptParts.{there-kept}
use Rattle.wl_broker.specs.declared.seat.TabSeat.{TabSeat}
use Rattle.wl_broker.specs.Broker.{BrokerState, partial_of, join, keeping, join_if, Does}
use Rattle.wl_broker.specs.BrokerInvariant.{PartitionState, broker_of, AwaitsParts}

-- No part is kept of a tab that has arrived

-- When a tab arrives, the parts of its report are discarded.
pub AwaitsParts-seat : {seats : Table TabSeat} {partial : Table Partial} (t : ℕ) (s : TabSeat) → AwaitsParts seats partial → AwaitsParts (put t s seats) (without_partial t partial)
AwaitsParts-seat {seats} {partial} t s k =
    record {
      rise = Rises-without t 0 partial k.rise;
      not_come = λ u x e.
          ⊎_elim (λ (same : u ≡ t). find-without t u partial ∙ cond-true _ _ _ (eq-eqb t u (sym same)))
          (λ (ne : u ≡ t → ⊥). find-without t u partial ∙ cond-false _ _ _ (ne_eqb t u (λ same. ne (sym same))) ∙ k.not_come u x (sym (find-put_other t s seats u ne) ∙ e))
          (cases_eq u t);
    }

-- A new seat of a tab that has arrived keeps the invariant.
pub AwaitsParts-again : {seats : Table TabSeat} {partial : Table Partial} (t : ℕ) (s old : TabSeat) → AwaitsParts seats partial → find seats t ≡ Some old → AwaitsParts (put t s seats) partial
AwaitsParts-again {seats} {partial} t s old k e =
    subst (λ ks. AwaitsParts (put t s seats) ks) (without_none t partial (k.not_come t old e)) (AwaitsParts-seat t s k)

none-some : {X : Type 0} {x : X} → None ≡ Some x → ⊥
none-some e = cc

-- Keeping a part of a tab that has not arrived keeps the invariant.
pub AwaitsParts-kept : {seats : Table TabSeat} {partial : Table Partial} (t : ℕ) (x : Partial) → AwaitsParts seats partial → find seats t ≡ None → AwaitsParts seats (put t x partial)
AwaitsParts-kept {seats} {partial} t x k new =
    record {
      rise = Rises-put 0 t x partial (omega arith) k.rise;
      not_come = λ u s e.
          ⊎_elim (λ (same : u ≡ t). absurd (none-some (sym (subst (λ v. find seats v ≡ None) (sym same) new) ∙ e)))
          (λ (ne : u ≡ t → ⊥). find-put_other t x partial u ne ∙ k.not_come u s e)
          (cases_eq u t);
    }

pub awaits_as : {seats seats' : Table TabSeat} {partial partial' : Table Partial} → seats' ≡ seats → partial' ≡ partial → AwaitsParts seats partial → AwaitsParts seats' partial'
awaits_as {seats} {seats'} {partial} {partial'} s p k =
    subst (λ ss. AwaitsParts ss partial') (sym s) (subst (λ ks. AwaitsParts seats ks) (sym p) k)

-- Tests whether the tab joins

pub joins_whole : (b : BrokerState) (t p : ℕ) (k : Partial) → is_whole k ≡ true → join_if b t p k ≡ join b t p (whole_of k)
unfolding join_if
joins_whole b t p k e = rw e refl

pub keeps_part : (b : BrokerState) (t p : ℕ) (k : Partial) → is_whole k ≡ false → join_if b t p k ≡ Does (keeping t k b) []
unfolding join_if
keeps_part b t p k e = rw e refl

-- Kept parts in the broker's fields

pub partial_seen : (g : ℕ) (listed : List (ℕ × ℕ)) (seats : Table TabSeat) (partitions : Table PartitionState) (partial : Table Partial) (b : BrokerState) (t : ℕ) → broker_of g listed seats partitions partial ≡ b → partial_of b t ≡ find partial t
partial_seen g listed seats partitions partial b t v = ap (λ (x : BrokerState). partial_of x t) (sym v)

pub bad_seen : (g : ℕ) (listed : List (ℕ × ℕ)) (seats : Table TabSeat) (partitions : Table PartitionState) (partial : Table Partial) (b : BrokerState) (t : ℕ) (h : PartHeader) (entries : List Entry) (r : Bool) → broker_of g listed seats partitions partial ≡ b → r ≡ not (all_below h.base entries && fits (told h entries) (find partial t)) → not (all_below h.base entries && fits (told h entries) (partial_of b t)) ≡ r
bad_seen g listed seats partitions partial b t h entries r v e = rw (← v) (sym e)

pub there_seen : (g : ℕ) (listed : List (ℕ × ℕ)) (seats : Table TabSeat) (partitions : Table PartitionState) (partial : Table Partial) (b : BrokerState) (t : ℕ) (h : PartHeader) (entries : List Entry) (r : Bool) → broker_of g listed seats partitions partial ≡ b → r ≡ is_kept h.part (find partial t) → has_part (told h entries) (partial_of b t) ≡ r
there_seen g listed seats partitions partial b t h entries r v e =
    ap (λ (x : BrokerState). has_part (told h entries) (partial_of x t)) (sym v) ∙ there-kept (told h entries) (find partial t) ∙ sym e

pub below_passed : (x y : Bool) → not (x && y) ≡ false → x ≡ true
below_passed true y e = refl
below_passed false y e = cc

pub fits_passed : (x y : Bool) → not (x && y) ≡ false → y ≡ true
fits_passed true true e = refl
fits_passed true false e = cc
fits_passed false y e = cc
