-- Invariant of the broker when a tab's seat and a partition change.
use Rattle.std.proofs.Common.{◌≡◌, ◌≢◌, ◌⊎◌, ⊎_elim, ℕ, ◌+◌, ◌≤◌, Bool, true, false, eqb, List, [], Option, Some, None, IsSome, is_some, refl, sym, ap, ◌∙◌, subst, arith}
use Rattle.std.proofs.lemmas.Bool.{cases_eq, eqb-true, eq-eqb, ne_eqb, lt-ltb, cond_both, cond-true, cond-false, not-false}
use Rattle.wl_draft.specs.declared.row.Entry.{Entry}
use Rattle.wl_draft.specs.declared.row.Standing.TheVariants.{Absent}
use Rattle.wl_draft.specs.Tables.{Table, at, find, put}
use Rattle.wl_draft.specs.Locks.{newly_granted, settle, settle_if, standing, ended, restored}
use Rattle.wl_draft.proofs.TableLemmas.{find-put, find-put_same, find-put_other}
use Rattle.wl_draft.proofs.RisingTables.{Rises-put}
use Rattle.wl_grammar.specs.Grammar.{TabsRiseFrom}
use Rattle.wl_grammar.specs.declared.frame.Operation.{Operation}
use Rattle.wl_grammar.specs.declared.frame.Operation.TheVariants.{Query}
use Rattle.wl_broker_reports.specs.ReportParts.{Partial, all_below}
use Rattle.wl_broker.specs.declared.seat.TabSeat.{TabSeat}
use Rattle.wl_broker.specs.declared.seat.TabSeat.TheVariants.{Joined, Dead}
use Rattle.wl_broker.specs.Broker.{has_arrived, listed_at, elsewhere, drafted}
use Rattle.wl_broker.specs.BrokerInvariant.{PartitionState, state_of, no_partition, all_arrived, taken_in, was_taken, AllRows, IsPartition, IsConsistent, Had, broker_of}
use Rattle.wl_broker.proofs.PartitionRows.{at-find, at_none, find_there, put_same}
use Rattle.wl_broker.proofs.SettledLocks.{settle_same}
use Rattle.wl_broker.proofs.Arrivals.{all_come-again, all_come-elsewhere, is_within}
use Rattle.wl_broker.proofs.TakenRows.{AllRows-put, AllRows-settle_if, AllRows-drafted, AllRows-restored, AllRows-ended, new_pair}

-- One change of a seat and of a partition

-- The change leaves this partition as it is.
pub record IsApart (listed : List (ℕ × ℕ)) (seats : Table TabSeat) (t : ℕ) (s : TabSeat) (q : ℕ) : Type 0 where
  pub active : all_arrived listed (put t s seats) q ≡ all_arrived listed seats q
  pub taken : taken_in (find seats t) q ≤ taken_in (Some s) q

IsPartition-put : {listed : List (ℕ × ℕ)} {seats : Table TabSeat} {t : ℕ} {s : TabSeat} {q : ℕ} {st : PartitionState} → IsApart listed seats t s q → IsPartition listed seats q st → IsPartition listed (put t s seats) q st
IsPartition-put {listed} {seats} {t} {s} {q} {st} a h =
    record { active = h.active ∙ sym a.active; numbers = AllRows-put seats t s q st.locks a.taken h.numbers }

seated_after : {X : Type 0} (p q : ℕ) (x : X) (ps : Table X) → IsSome (find ps q) → IsSome (find (put p x ps) q)
seated_after p q x ps h =
    rw find-put (cond_both (eqb p q) (Some x) (find ps q) (λ o. IsSome o) (λ _. refl) (λ _. h))

some_inj : {X : Type 0} {x y : X} → Some x ≡ Some y → x ≡ y
some_inj e = cc

-- A row that was put is the row found.
put_here : {X : Type 0} (p q : ℕ) (x y : X) (ps : Table X) → q ≡ p → find (put p x ps) q ≡ Some y → x ≡ y
put_here p q x y ps same e =
    some_inj (sym (subst (λ j. find (put p x ps) j ≡ Some x) (sym same) (find-put_same p x ps)) ∙ e)

-- A new seat in no partition keeps the invariant.
pub IsConsistent-seat : {listed : List (ℕ × ℕ)} {seats : Table TabSeat} {partitions : Table PartitionState} (t : ℕ) (s : TabSeat) → IsConsistent listed seats partitions → ((q : ℕ) → IsApart listed seats t s q) → ((q n l : ℕ) → s ≡ Joined q n l → ⊥) → IsConsistent listed (put t s seats) partitions
IsConsistent-seat {listed} {seats} {partitions} t s k apart gone =
    record {
      listed_once = k.listed_once;
      rise = k.rise;
      each = λ q st e. IsPartition-put (apart q) (k.each q st e);
      seated = λ u q n l e.
          ⊎_elim (λ (same : u ≡ t). absurd (gone q n l (put_here t u s (Joined q n l) seats same e)))
          (λ (ne : u ≡ t → ⊥). k.seated u q n l (sym (find-put_other t s seats u ne) ∙ e)) (cases_eq u t);
    }

-- A new seat in this partition or in none keeps the invariant.
pub IsConsistent-put : {listed : List (ℕ × ℕ)} {seats : Table TabSeat} {partitions : Table PartitionState} (t : ℕ) (s : TabSeat) (p : ℕ) (st : PartitionState) → IsConsistent listed seats partitions → ((q : ℕ) → q ≢ p → IsApart listed seats t s q) → ((q n l : ℕ) → s ≡ Joined q n l → q ≡ p) → IsPartition listed (put t s seats) p st → IsConsistent listed (put t s seats) (put p st partitions)
IsConsistent-put {listed} {seats} {partitions} t s p st k apart place here =
    record {
      listed_once = k.listed_once;
      rise = Rises-put 0 p st partitions (omega arith) k.rise;
      each = λ q x e.
          ⊎_elim (λ (same : q ≡ p). subst (λ j. IsPartition listed (put t s seats) j x) (sym same) (subst (λ y. IsPartition listed (put t s seats) p y) (put_here p q st x partitions same e) here))
          (λ (ne : q ≡ p → ⊥). IsPartition-put (apart q ne) (k.each q x (sym (find-put_other p st partitions q ne) ∙ e))) (cases_eq q p);
      seated = λ u q n l e.
          ⊎_elim (λ (same : u ≡ t). subst (λ j. IsSome (find (put p st partitions) j)) (sym (place q n l (put_here t u s (Joined q n l) seats same e))) (ap is_some (find-put_same p st partitions)))
          (λ (ne : u ≡ t → ⊥). seated_after p q st partitions (k.seated u q n l (sym (find-put_other t s seats u ne) ∙ e))) (cases_eq u t);
    }

-- Row of a partition

rows_as : {listed : List (ℕ × ℕ)} {seats : Table TabSeat} {partitions : Table PartitionState} (p : ℕ) (o : Option PartitionState) → IsConsistent listed seats partitions → find partitions p ≡ o → AllRows (was_taken seats p) (at no_partition partitions p).locks
rows_as {partitions = partitions} p None k e = rw at_none (refl, refl)
rows_as {partitions = partitions} p (Some st) k e = rw (at-find no_partition st p partitions e) (k.each p st e).numbers

pub IsConsistent-rows : {listed : List (ℕ × ℕ)} {seats : Table TabSeat} {partitions : Table PartitionState} (p : ℕ) → IsConsistent listed seats partitions → AllRows (was_taken seats p) (at no_partition partitions p).locks
IsConsistent-rows {partitions = partitions} p k = rows_as p (find partitions p) k refl

active_as : {listed : List (ℕ × ℕ)} {seats : Table TabSeat} {partitions : Table PartitionState} (p : ℕ) (o : Option PartitionState) → IsConsistent listed seats partitions → find partitions p ≡ o → IsSome o → (at no_partition partitions p).is_active ≡ all_arrived listed seats p
active_as p None k e some = cc
active_as {partitions = partitions} p (Some st) k e some = rw (at-find no_partition st p partitions e) (k.each p st e).active

-- If a tab has joined in a partition, the partition's row states whether it is active.
pub IsConsistent-active : {listed : List (ℕ × ℕ)} {seats : Table TabSeat} {partitions : Table PartitionState} (t p n l : ℕ) → IsConsistent listed seats partitions → find seats t ≡ Some (Joined p n l) → (at no_partition partitions p).is_active ≡ all_arrived listed seats p
IsConsistent-active {partitions = partitions} t p n l k e = active_as p (find partitions p) k refl (k.seated t p n l e)

taken_here : (p n l : ℕ) → taken_in (Some (Joined p n l)) p ≡ n
taken_here p n l = cond-true _ _ _ (eq-eqb p p refl)

taken_there : (p q n l : ℕ) → q ≢ p → taken_in (Some (Joined p n l)) q ≡ 0
taken_there p q n l ne = cond-false _ _ _ (ne_eqb p q (λ e. ne (sym e)))

-- The next command of a tab has a new pair.
pub IsConsistent-new : {listed : List (ℕ × ℕ)} {seats : Table TabSeat} {partitions : Table PartitionState} (t p n l : ℕ) → IsConsistent listed seats partitions → find seats t ≡ Some (Joined p n l) → standing (at no_partition partitions p).locks t n ≡ Absent
IsConsistent-new {seats = seats} t p n l k e =
    new_pair seats p t n _ (IsConsistent-rows p k) (let here : taken_in (find seats t) p ≡ n = ap (λ o. taken_in o p) e ∙ taken_here p n l in omega arith)

-- A tab joins

-- No command of a tab without a seat has been taken.
untaken : (o : Option TabSeat) (q n : ℕ) → o ≡ None → taken_in o q ≤ n
untaken o q n e = rw e (omega arith)

unlisted_elsewhere : (o : Option ℕ) (p q : ℕ) → elsewhere o p ≡ false → q ≢ p → is_within o q ≡ false
unlisted_elsewhere None p q e ne = refl
unlisted_elsewhere (Some r) p q e ne = ne_eqb r q (λ same. ne (sym same ∙ eqb-true r p (not-false _ e)))

pub IsConsistent-join : {listed : List (ℕ × ℕ)} {seats : Table TabSeat} {partitions : Table PartitionState} (t p base l : ℕ) (entries : List Entry) (b : Bool) → IsConsistent listed seats partitions → find seats t ≡ None → elsewhere (listed_at t listed) p ≡ false → all_below base entries ≡ true → b ≡ all_arrived listed (put t (Joined p base l) seats) p → IsConsistent listed (put t (Joined p base l) seats) (put p (state_of (settle_if b (restored t entries (at no_partition partitions p).locks)) b) partitions)
IsConsistent-join {listed} {seats} {partitions} t p base l entries b k new at_home below active =
    let seat = Joined p base l in
    let next = put t seat seats in
    IsConsistent-put t seat p _ k
    (λ q ne. record {
      active = all_come-elsewhere listed seats t seat q k.listed_once (unlisted_elsewhere (listed_at t listed) p q at_home ne);
      taken = untaken _ q _ new;
    })
    (λ q n l e. cc)
    (record {
      active = active;
      numbers =
          AllRows-settle_if (was_taken next p) b _
          (AllRows-restored (was_taken next p) t base entries _ (λ n name mode h. rw (find-put_same t seat seats, taken_here p base l) (lt-ltb n base h)) below
          (AllRows-put seats t seat p _ (untaken _ p _ new) (IsConsistent-rows p k)));
    })

-- A command is taken

pub IsConsistent-command : {listed : List (ℕ × ℕ)} {seats : Table TabSeat} {partitions : Table PartitionState} (t p n l : ℕ) (o : Operation) → IsConsistent listed seats partitions → find seats t ≡ Some (Joined p n l) → all_arrived listed seats p ≡ true → IsConsistent listed (put t (Joined p (n + 1) l) seats) (put p (state_of (settle (drafted t n o (at no_partition partitions p).locks)) true) partitions)
IsConsistent-command {listed} {seats} {partitions} t p n l o k e active =
    let seat = Joined p (n + 1) l in
    let next = put t seat seats in
    let came : has_arrived (find seats t) ≡ true = ap has_arrived e in
    let here : taken_in (find seats t) p ≡ n = ap (λ s. taken_in s p) e ∙ taken_here p n l in
    IsConsistent-put t seat p _ k
    (λ q ne. record {
      active = all_come-again listed seats t seat q came;
      taken = let there : taken_in (find seats t) q ≡ 0 = ap (λ s. taken_in s q) e ∙ taken_there p q n l ne in omega arith;
    })
    (λ q m l e. cc)
    (record {
      active = sym (all_come-again listed seats t seat p came ∙ active);
      numbers =
          AllRows-settle_if (was_taken next p) true _
          (AllRows-drafted (was_taken next p) t n o _ (λ name mode. rw (find-put_same t seat seats, taken_here p (n + 1) l) (lt-ltb n (n + 1) (omega arith)))
          (AllRows-put seats t seat p _ (omega (arith, here, taken_here p (n + 1) l)) (IsConsistent-rows p k)));
    })

-- A tab dies

abbrev HadPlace : List (ℕ × ℕ) → Table TabSeat → ℕ → ℕ → Type 0
HadPlace listed seats t p = ((n l : ℕ) × (find seats t ≡ Some (Joined p n l))) ⊎ ((find seats t ≡ None) × (listed_at t listed ≡ Some p))

apart_dead : (listed : List (ℕ × ℕ)) (seats : Table TabSeat) (t p q : ℕ) → TabsRiseFrom 1 listed → HadPlace listed seats t p → q ≢ p → IsApart listed seats t Dead q
apart_dead listed seats t p q r had ne =
    ⊎_elim
    (λ (h : (n l : ℕ) × (find seats t ≡ Some (Joined p n l))). record {
      active = all_come-again listed seats t Dead q (ap has_arrived h.2);
      taken = let there : taken_in (find seats t) q ≡ 0 = ap (λ s. taken_in s q) h.2 ∙ taken_there p q h.0 h.1 ne in omega arith;
    })
    (λ (h : (find seats t ≡ None) × (listed_at t listed ≡ Some p)). record {
      active = all_come-elsewhere listed seats t Dead q r (ap (λ o. is_within o q) h.1 ∙ ne_eqb p q (λ e. ne (sym e)));
      taken = untaken _ q _ h.0;
    })
    had

pub IsConsistent-dead : {listed : List (ℕ × ℕ)} {seats : Table TabSeat} {partitions : Table PartitionState} (partial : Table Partial) (g t p : ℕ) (b : Bool) → IsConsistent listed seats partitions → Had (broker_of g listed seats partitions partial) t p → b ≡ all_arrived listed (put t Dead seats) p → IsConsistent listed (put t Dead seats) (put p (state_of (settle_if b (ended t (at no_partition partitions p).locks)) b) partitions)
IsConsistent-dead {listed} {seats} {partitions} partial g t p b k had active =
    IsConsistent-put t Dead p _ k (λ q ne. apart_dead listed seats t p q k.listed_once had ne) (λ q n l e. cc)
    (record {
      active = active;
      numbers = AllRows-settle_if (was_taken (put t Dead seats) p) b _ (AllRows-ended seats t p Dead _ (IsConsistent-rows p k));
    })

-- The death of a tab without a partition keeps the invariant.
pub IsConsistent-unknown : {listed : List (ℕ × ℕ)} {seats : Table TabSeat} {partitions : Table PartitionState} (t : ℕ) → IsConsistent listed seats partitions → find seats t ≡ None → listed_at t listed ≡ None → IsConsistent listed (put t Dead seats) partitions
IsConsistent-unknown {listed} {seats} t k e unlisted =
    IsConsistent-seat t Dead k
    (λ q. record {
      active = all_come-elsewhere listed seats t Dead q k.listed_once (ap (λ o. is_within o q) unlisted);
      taken = untaken _ q _ e;
    })
    (λ q n l same. cc)

-- A query

row_itself : (s : PartitionState) → s.is_active ≡ true → newly_granted s.locks ≡ [] → state_of (settle s.locks) true ≡ s
row_itself s active still = rw (settle_same s.locks still, ← active) refl

pub IsConsistent-query : {listed : List (ℕ × ℕ)} {seats : Table TabSeat} {partitions : Table PartitionState} (t p n l : ℕ) → IsConsistent listed seats partitions → find seats t ≡ Some (Joined p n l) → all_arrived listed seats p ≡ true → newly_granted (at no_partition partitions p).locks ≡ [] → IsConsistent listed (put t (Joined p (n + 1) l) seats) partitions
IsConsistent-query {listed} {seats} {partitions} t p n l k e active still =
    let row = at no_partition partitions p in
    let itself = row_itself row (IsConsistent-active t p n l k e ∙ active) still in
    let same = ap (λ s. put p s partitions) itself ∙ put_same 0 p row partitions k.rise (find_there no_partition p partitions (find partitions p) refl (k.seated t p n l e)) in
    subst (λ ps. IsConsistent listed (put t (Joined p (n + 1) l) seats) ps) same (IsConsistent-command t p n l Query k e active)
