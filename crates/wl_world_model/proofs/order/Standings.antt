-- Rows of lock managers after each command, and the broker's answers about them.
use Rattle.std.proofs.Common.{◌≡◌, ◌≢◌, ◌⊎◌, inl, inr, ⊎_elim, ℕ, ◌+◌, ◌<◌, Bool, true, false, cond, not, ◌&&◌, ◌||◌, Some, None, List, [], ◌∷◌, ◌++◌, filter, refl, sym, ap, ap₂, ◌∙◌, subst}
use Rattle.std.specs.Prelude.{◌==◌, nat_lt}
use Rattle.std.proofs.Math.Bool.{or-false, or-true}
use Rattle.std.proofs.lemmas.Bool.{and_from, eq-eqb, ne_eqb, eqb-false, ltb-true, not-true}
use Rattle.wl_draft.specs.declared.row.Row.{Row}
use Rattle.wl_draft.specs.declared.row.Entry.{Entry}
use Rattle.wl_draft.specs.declared.row.Standing.TheVariants as standing
use Rattle.wl_draft.specs.Locks.{Locks, is_grantable, has_pair, is_pair, row_of, rows_of, held_of, waiting_of, without_client, queued, probed, released, aborted, ended, restored, newly_granted_if, settle_if, standing as standing_of}
use Rattle.wl_grammar.specs.declared.frame.Operation.{Operation}
use Rattle.wl_grammar.specs.declared.frame.Operation.TheVariants.{Request, Release, Abort, Query}
use Rattle.wl_grammar.specs.declared.frame.Outcome.TheVariants.{Granted}
use Rattle.wl_broker_reports.specs.ReportParts.{Whole, all_below}
use Rattle.wl_broker.specs.declared.seat.TabSeat.TheVariants.{Joined, Dead}
use Rattle.wl_broker.specs.Broker.{BrokerState, manager_of, is_joined, is_dead, is_lock, drafted, outcome_of, answer_to, first_answer}
use Rattle.wl_draft.specs.Membership.{In, Here, Later}
use Rattle.wl_draft.proofs.Membership.{apart, either, In-nil, In-cons_cases, In-head, In-append_right, In-append_cases, In-one, In-map_cases, In-filter_cases, list_all-In}
use Rattle.wl_world_model.specs.Orders.{Dies, Reports, Commands, Item, has_death, has_report, commands_of, next_of, limit_of, granted_if, probe_grants}
use Rattle.wl_world_model.proofs.exclusion.HeldAfterSettling.{Stands, settle-keeps, settle-newly_granted, newly-waited, without-fewer}
use Rattle.wl_world_model.proofs.order.OneMoreItem.{item, has_report-push, has_death-push}
use Rattle.wl_world_model.proofs.order.RunsOfCommands.{next_of-reports, next_of-commands, limit_of-reports, limit_of-commands}
use Rattle.wl_world_model.proofs.order.BrokerIsPicked.{seat_by}

-- Settling, if the partition is active

pub newly-held : (m : Locks) (c : Bool) (r : Row) → In r (newly_granted_if c m) → In r (settle_if c m).held
newly-held m true r i = settle-newly_granted m i
newly-held m false r i = absurd (In-nil i)

pub newly-stood : (m : Locks) (c : Bool) (r : Row) → In r (newly_granted_if c m) → Stands r m
newly-stood m true r i = inr (newly-waited m i)
newly-stood m false r i = absurd (In-nil i)

pub stays-held : (m : Locks) (c : Bool) (r : Row) → In r m.held → In r (settle_if c m).held
stays-held m true r i = settle-keeps m i
stays-held m false r i = i

-- Rows

row-below : (t base : ℕ) (entries : List Entry) (test : Entry → Bool) (r : Row) → all_below base entries ≡ true → In r (rows_of t (filter test entries)) → (r.client ≡ t) × (r.number < base)
row-below t base entries test r h i =
    let o = In-map_cases (λ (e : Entry). row_of t e.number e.name e.mode) (filter test entries) i in
    let lt = ltb-true o.0.number base (list_all-In (λ e. nat_lt e.number base) entries h (In-filter_cases test entries o.1).0) in
    (ap (λ (z : Row). z.client) o.2, subst (λ z. z < base) (sym (ap (λ (z : Row). z.number) o.2)) lt)

pub rows-below : (t base : ℕ) (entries : List Entry) (r : Row) → all_below base entries ≡ true → In r (held_of t entries) ⊎ In r (waiting_of t entries) → (r.client ≡ t) × (r.number < base)
rows-below t base entries r h (inl i) = row-below t base entries (λ e. e.held) r h i
rows-below t base entries r h (inr i) = row-below t base entries (λ e. not e.held) r h i

pub restored-stands : (m : Locks) (t : ℕ) (entries : List Entry) (r : Row) → Stands r (restored t entries m) → Stands r m ⊎ (In r (held_of t entries) ⊎ In r (waiting_of t entries))
unfolding restored
restored-stands m t entries r (inl i) = ⊎_elim (λ a. inl (inl a)) (λ a. inr (inl a)) (In-append_cases m.held (held_of t entries) i)
restored-stands m t entries r (inr i) = ⊎_elim (λ a. inl (inr a)) (λ a. inr (inr a)) (In-append_cases m.waiting (waiting_of t entries) i)

queued-stands : (m : Locks) (y r : Row) → Stands r (queued y m) → Stands r m ⊎ (r ≡ y)
unfolding queued
queued-stands m y r (inl i) = inl (inl i)
queued-stands m y r (inr i) = ⊎_elim (λ a. inl (inr a)) (λ a. inr (In-one a)) (In-append_cases m.waiting (y ∷ []) i)

probed-stands : (m : Locks) (y r : Row) → Stands r (probed y m) → Stands r m ⊎ (r ≡ y)
unfolding probed
probed-stands m y r = either (λ z. Stands r z → Stands r m ⊎ (r ≡ y)) (is_grantable m.held m.waiting y) (record { held = m.held ++ y ∷ []; waiting = m.waiting }) m
    (λ _. ⊎_elim (λ i. ⊎_elim (λ a. inl (inl a)) (λ a. inr (In-one a)) (In-append_cases m.held (y ∷ []) i)) (λ i. inl (inr i)))
    (λ _ i. inl i)

released-stands : (m : Locks) (t k : ℕ) (r : Row) → Stands r (released t k m) → Stands r m
unfolding released
released-stands m t k r (inl i) = inl (without-fewer t k m.held i)
released-stands m t k r (inr i) = inr i

aborted-stands : (m : Locks) (t k : ℕ) (r : Row) → Stands r (aborted t k m) → Stands r m
unfolding aborted
aborted-stands m t k r (inl i) = inl (without-fewer t k m.held i)
aborted-stands m t k r (inr i) = inr (without-fewer t k m.waiting i)

-- After a tab's end, all rows belong to other tabs.
pub ended-stands : (m : Locks) (t : ℕ) (r : Row) → Stands r (ended t m) → Stands r m × (r.client ≢ t)
unfolding ended
ended-stands m t r (inl i) = let o = In-filter_cases (λ x. not (x.client == t)) m.held i in (inl o.0, eqb-false r.client t (not-true _ o.1))
ended-stands m t r (inr i) = let o = In-filter_cases (λ x. not (x.client == t)) m.waiting i in (inr o.0, eqb-false r.client t (not-true _ o.1))

-- After a command, each row is an old one or the row of the command's own lock.
pub drafted-stands : (m : Locks) (t n : ℕ) (c : Operation) (r : Row) → Stands r (drafted t n c m) → Stands r m ⊎ ((is_lock c ≡ true) × (r.client ≡ t) × (r.number ≡ n))
drafted-stands m t n (Request mode if_available name) r i =
    let y = row_of t n name mode in
    let own : Stands r m ⊎ (r ≡ y) → Stands r m ⊎ ((true ≡ true) × (r.client ≡ t) × (r.number ≡ n)) = λ o. ⊎_elim (λ a. inl a) (λ s. inr (refl, ap (λ (z : Row). z.client) s, ap (λ (z : Row). z.number) s)) o in
    either (λ z. Stands r z → Stands r m ⊎ ((true ≡ true) × (r.client ≡ t) × (r.number ≡ n))) if_available (probed y m) (queued y m)
    (λ _ j. own (probed-stands m y r j)) (λ _ j. own (queued-stands m y r j)) i
drafted-stands m t n (Release k) r i = inl (released-stands m t k r i)
drafted-stands m t n (Abort k) r i = inl (aborted-stands m t k r i)
drafted-stands m t n Query r i = inl i

-- A lock that a probe grants is held afterwards.
pub probe-held : (m : Locks) (t n : ℕ) (c : Operation) (r : Row) → In r (probe_grants m t (Commands n c)) → (is_lock c ≡ true) × (r.client ≡ t) × (r.number ≡ n) × In r (drafted t n c m).held
unfolding probed
probe-held m t n (Request mode if_available name) r i = go if_available (is_grantable m.held m.waiting (row_of t n name mode)) (row_of t n name mode) refl refl i
  where
    go : (b c : Bool) (y : Row) → y.client ≡ t → y.number ≡ n → In r (granted_if (b && c) y) → (true ≡ true) × (r.client ≡ t) × (r.number ≡ n) × In r (cond b (cond c (record { held = m.held ++ y ∷ []; waiting = m.waiting }) m) (queued y m)).held
    go true true y a d j = (refl, ap (λ (z : Row). z.client) (In-one j) ∙ a, ap (λ (z : Row). z.number) (In-one j) ∙ d, In-append_right m.held (In-head (In-one j)))
    go true false y a d j = absurd (In-nil j)
    go false c y a d j = absurd (In-nil j)
probe-held m t n (Release k) r i = absurd (In-nil i)
probe-held m t n (Abort k) r i = absurd (In-nil i)
probe-held m t n Query r i = absurd (In-nil i)

-- The end of a tab without rows changes nothing.
filter-none : (t : ℕ) (rows : List Row) → ((r : Row) → In r rows → r.client ≢ t) → without_client t rows ≡ rows
filter-none t [] h = refl
filter-none t (r ∷ rs) h = ap₂ (λ b zs. cond (not b) (r ∷ zs) zs) (ne_eqb r.client t (h r Here)) (filter-none t rs (λ x i. h x (Later i)))

pub ended-none : (m : Locks) (t : ℕ) → ((r : Row) → Stands r m → r.client ≢ t) → ended t m ≡ m
unfolding ended
ended-none m t h = λ i. record { held = filter-none t m.held (λ r j. h r (inl j)) i; waiting = filter-none t m.waiting (λ r j. h r (inr j)) i }

-- Answers

pub has_pair-from : (t n : ℕ) (rows : List Row) (r : Row) → In r rows → r.client ≡ t → r.number ≡ n → has_pair t n rows ≡ true
has_pair-from t n [] r i a b = absurd (In-nil i)
has_pair-from t n (x ∷ rs) r i a b = ⊎_elim
    (λ e. or-first (is_pair t n x) (has_pair t n rs) (and_from _ _ (eq-eqb x.client t (ap (λ (z : Row). z.client) (sym e) ∙ a)) (eq-eqb x.number n (ap (λ (z : Row). z.number) (sym e) ∙ b))))
    (λ j. or-second (is_pair t n x) (has_pair t n rs) (has_pair-from t n rs r j a b))
    (In-cons_cases i)
  where
    or-first : (c d : Bool) → c ≡ true → (c || d) ≡ true
    or-first true d e = refl
    or-first false d e = apart e refl

    or-second : (c d : Bool) → d ≡ true → (c || d) ≡ true
    or-second true d e = refl
    or-second false d e = e

granted-choice : (x y : Bool) → outcome_of (cond x standing.Held (cond y standing.Waiting standing.Absent)) ≡ Granted → x ≡ true
granted-choice true y h = refl
granted-choice false true h = cc
granted-choice false false h = cc

pub standing-granted : (m : Locks) (t n : ℕ) → outcome_of (standing_of m t n) ≡ Granted → has_pair t n m.held ≡ true
standing-granted m t n h = granted-choice (has_pair t n m.held) (has_pair t n m.waiting) h

pub first-lock : (b : BrokerState) (t p n : ℕ) (c : Operation) → is_lock c ≡ true → has_pair t n (manager_of b p).held ≡ true → first_answer b t p n c ≡ answer_to b t n Granted ∷ []
first-lock b t p n (Request mode if_available name) l h = ap (λ x. answer_to b t n (outcome_of (cond x standing.Held (cond (has_pair t n (manager_of b p).waiting) standing.Waiting standing.Absent))) ∷ []) h
first-lock b t p n (Release k) l h = apart l refl
first-lock b t p n (Abort k) l h = apart l refl
first-lock b t p n Query l h = apart l refl

-- TabSeats

seat-joined : (d e : Bool) (q n l : ℕ) → is_joined (cond d (Some Dead) (cond e (Some (Joined q n l)) None)) ≡ true → (d ≡ false) × (e ≡ true)
seat-joined true e q n l j = apart j refl
seat-joined false true q n l j = (refl, refl)
seat-joined false false q n l j = apart j refl

-- A joined tab has a report and no death in the list, and these determine its seat.
pub joined-facts : (q : ℕ) (mine : List Item) → is_joined (seat_by q mine) ≡ true → (has_death mine ≡ false) × (has_report mine ≡ true) × (seat_by q mine ≡ Some (Joined q (next_of mine) (limit_of mine)))
joined-facts q mine j =
    let o = seat-joined (has_death mine) (has_report mine) q (next_of mine) (limit_of mine) j in
    (o.0, o.1, ap₂ (λ d e. cond d (Some Dead) (cond e (Some (Joined q (next_of mine) (limit_of mine))) None)) o.0 o.1)

seat-fresh : (d e : Bool) (q n l : ℕ) → is_joined (cond d (Some Dead) (cond e (Some (Joined q n l)) None)) ≡ false → is_dead (cond d (Some Dead) (cond e (Some (Joined q n l)) None)) ≡ false → (d ≡ false) × (e ≡ false)
seat-fresh true e q n l j x = apart refl x
seat-fresh false true q n l j x = apart refl j
seat-fresh false false q n l j x = (refl, refl)

pub fresh-facts : (q : ℕ) (mine : List Item) → is_joined (seat_by q mine) ≡ false → is_dead (seat_by q mine) ≡ false → (has_death mine ≡ false) × (has_report mine ≡ false)
fresh-facts q mine j x = seat-fresh (has_death mine) (has_report mine) q (next_of mine) (limit_of mine) j x

dead-same : (d e : Bool) (q n l : ℕ) → is_dead (cond d (Some Dead) (cond e (Some (Joined q n l)) None)) ≡ d
dead-same true e q n l = refl
dead-same false true q n l = refl
dead-same false false q n l = refl

pub dead-facts : (q : ℕ) (mine : List Item) → is_dead (seat_by q mine) ≡ has_death mine
dead-facts q mine = dead-same (has_death mine) (has_report mine) q (next_of mine) (limit_of mine)

pub seat_by-reports : (q t p : ℕ) (mine : List Item) (r : Whole) → has_death mine ≡ false → has_report mine ≡ false → commands_of mine ≡ [] → seat_by q (mine ++ item t p (Reports r) ∷ []) ≡ Some (Joined q r.base r.limit)
seat_by-reports q t p mine r d f e =
    let i = item t p (Reports r) in
    ap₂ (λ x y. cond x (Some Dead) (cond y (Some (Joined q (next_of (mine ++ i ∷ [])) (limit_of (mine ++ i ∷ [])))) None)) (has_death-push mine i ∙ (or-false (has_death mine) ∙ d)) (has_report-push mine i ∙ or-true (has_report mine))
    ∙ ap₂ (λ n l. Some (Joined q n l)) (next_of-reports mine t p r f e) (limit_of-reports mine t p r f)

pub seat_by-commands : (q t p n : ℕ) (c : Operation) (mine : List Item) → has_death mine ≡ false → has_report mine ≡ true → seat_by q (mine ++ item t p (Commands n c) ∷ []) ≡ Some (Joined q (next_of mine + 1) (limit_of mine))
seat_by-commands q t p n c mine d f =
    let i = item t p (Commands n c) in
    ap₂ (λ x y. cond x (Some Dead) (cond y (Some (Joined q (next_of (mine ++ i ∷ [])) (limit_of (mine ++ i ∷ [])))) None)) (has_death-push mine i ∙ (or-false (has_death mine) ∙ d)) (has_report-push mine i ∙ (or-false (has_report mine) ∙ f))
    ∙ ap₂ (λ m l. Some (Joined q m l)) (next_of-commands mine t p n c) (limit_of-commands mine t p n c)

pub seat_by-dies : (q t p : ℕ) (mine : List Item) → seat_by q (mine ++ item t p Dies ∷ []) ≡ Some Dead
seat_by-dies q t p mine =
    let i = item t p Dies in
    ap (λ x. cond x (Some Dead) (cond (has_report (mine ++ i ∷ [])) (Some (Joined q (next_of (mine ++ i ∷ [])) (limit_of (mine ++ i ∷ [])))) None)) (has_death-push mine i ∙ or-true (has_death mine))

pub joined-same : (p q m n h l : ℕ) → Some (Joined p m h) ≡ Some (Joined q n l) → (p ≡ q) × (m ≡ n)
joined-same p q m n h l e = (cc, cc)
