-- Steps of the definition, in terms of the broker's fields.
use Rattle.std.proofs.Common.{◌≡◌, ◌≢◌, ℕ, ◌+◌, Bool, true, false, List, [], ◌∷◌, ◌++◌, map, Some, None, IsSome, refl, sym, ap, ◌∙◌, append-nil}
use Rattle.wl_draft.specs.declared.row.Row.{Row}
use Rattle.wl_draft.specs.declared.row.Grant.{Grant}
use Rattle.wl_draft.specs.Tables.{Table, at, find, put, Rises}
use Rattle.wl_draft.specs.Locks.{Locks, settle, settle_if, newly_granted, newly_granted_if, grants, without, ended, restored}
use Rattle.wl_draft.proofs.TableLemmas.{find-put_same}
use Rattle.wl_draft.proofs.RisingTables.{without_none}
use Rattle.wl_grammar.specs.declared.frame.Operation.{Operation}
use Rattle.wl_grammar.specs.declared.frame.Operation.TheVariants.{Request, Release, Abort, Query}
use Rattle.wl_grammar.specs.declared.frame.Outcome.TheVariants.{Granted}
use Rattle.wl_grammar.specs.declared.frame.Addressed.{Addressed}
use Rattle.wl_broker_reports.specs.ReportParts.{Partial, Whole, without_partial}
use Rattle.wl_broker.specs.declared.seat.TabSeat.{TabSeat}
use Rattle.wl_broker.specs.declared.seat.TabSeat.TheVariants.{Joined, Dead}
use Rattle.wl_broker.specs.Broker.{BrokerState, seat_of, limit_of, limit_in, is_dead, listed_at, place_of, death_step, Does, is_active, settled_at, newly_at, join, perform, drafted, first_answer, later_answer, answer_to, grants_to, has_arrived, next_in, buried_at, with_seat, manager_of, snapshot_to, snapshot_entries, answer_of, outcome_at, snapshot_of, snapshot_entry_of}
use Rattle.wl_broker.specs.BrokerInvariant.{PartitionState, state_of, no_partition, all_arrived, grant_of, broker_of}
use Rattle.wl_broker.proofs.PartitionRows.{put-map_values, at-map_values, find_there, put_same}
use Rattle.wl_broker.proofs.Arrivals.{all_come-again}
use Rattle.wl_broker.proofs.SettledLocks.{settle_same}

pub is_active-fields : (g : ℕ) (listed : List (ℕ × ℕ)) (seats : Table TabSeat) (partitions : Table PartitionState) (partial : Table Partial) (p : ℕ) → is_active (broker_of g listed seats partitions partial) p ≡ all_arrived listed seats p
unfolding is_active
is_active-fields g listed seats partitions partial p = refl

pub manager_of-fields : (g : ℕ) (listed : List (ℕ × ℕ)) (seats : Table TabSeat) (partitions : Table PartitionState) (partial : Table Partial) (p : ℕ) → manager_of (broker_of g listed seats partitions partial) p ≡ (at no_partition partitions p).locks
manager_of-fields g listed seats partitions partial p = at-map_values (λ (s : PartitionState). s.locks) no_partition p partitions

-- The frames of the grants are the frames of the granted rows.
grants_are : (g : ℕ) (seats : Table TabSeat) (rows : List Row) → map (grant_of g seats) (grants rows) ≡ map (λ r. answer_of g (next_in (find seats r.client)) r.client r.number Granted) rows
grants_are g seats [] = refl
grants_are g seats (r ∷ rs) = ap (λ xs. grant_of g seats (record { client = r.client; number = r.number }) ∷ xs) (grants_are g seats rs)

pub join_does : (g : ℕ) (listed : List (ℕ × ℕ)) (seats : Table TabSeat) (partitions : Table PartitionState) (partial : Table Partial) (t p : ℕ) (r : Whole) (b : Bool) (granted : List Grant) (outs : List Addressed) (seats' : Table TabSeat) (partitions' : Table PartitionState) (partial' : Table Partial) → seats' ≡ put t (Joined p r.base r.limit) seats → b ≡ all_arrived listed seats' p → granted ≡ grants (newly_granted_if b (restored t r.entries (at no_partition partitions p).locks)) → partitions' ≡ put p (state_of (settle_if b (restored t r.entries (at no_partition partitions p).locks)) b) partitions → partial' ≡ without_partial t partial → outs ≡ [] ++ map (grant_of g seats') granted → join (broker_of g listed seats partitions partial) t p r ≡ Does (broker_of g listed seats' partitions' partial') outs
unfolding join settled_at newly_at is_active
join_does g listed seats partitions partial t p r b granted outs seats' partitions' partial' s a gr ps ks os =
    rw (os, gr, grants_are, ps, put-map_values (λ (s : PartitionState). s.locks) p _ partitions, manager_of-fields g listed seats partitions partial p, a, s, ks) refl

pub bury_does : (g : ℕ) (listed : List (ℕ × ℕ)) (seats : Table TabSeat) (partitions : Table PartitionState) (partial : Table Partial) (t p : ℕ) (b : Bool) (granted : List Grant) (outs : List Addressed) (seats' : Table TabSeat) (partitions' : Table PartitionState) (partial' : Table Partial) → seats' ≡ put t Dead seats → b ≡ all_arrived listed seats' p → granted ≡ grants (newly_granted_if b (ended t (at no_partition partitions p).locks)) → partitions' ≡ put p (state_of (settle_if b (ended t (at no_partition partitions p).locks)) b) partitions → partial' ≡ without_partial t partial → outs ≡ [] ++ map (grant_of g seats') granted → buried_at (with_seat t Dead (broker_of g listed seats partitions partial)) t (Some p) ≡ (broker_of g listed seats' partitions' partial', outs)
unfolding settled_at newly_at is_active
bury_does g listed seats partitions partial t p b granted outs seats' partitions' partial' s a gr ps ks os =
    rw (os, gr, grants_are, ps, put-map_values (λ (s : PartitionState). s.locks) p _ partitions, manager_of-fields g listed seats partitions partial p, a, s, ks) refl

-- Commands

first_is : (b : BrokerState) (t p n : ℕ) (o : Operation) → o ≢ Query → first_answer b t p n o ≡ answer_to b t n (outcome_at (manager_of b p) t n o) ∷ []
first_is b t p n (Request mode if_available name) other = refl
first_is b t p n (Release number) other = refl
first_is b t p n (Abort number) other = refl
first_is b t p n Query other = absurd (other refl)

pub later_is : (b : BrokerState) (t p n : ℕ) (o : Operation) → later_answer b t p n o ≡ answer_to b t n (outcome_at (manager_of b p) t n o)
later_is b t p n (Request mode if_available name) = refl
later_is b t p n (Release number) = refl
later_is b t p n (Abort number) = refl
later_is b t p n Query = refl

settled_active : (b : BrokerState) (p : ℕ) (m : Locks) → is_active b p ≡ true → settled_at b p m ≡ record b { managers = put p (settle m) b.managers }
unfolding settled_at
settled_active b p m active = rw active refl

-- If no part is kept of a tab, discarding its parts changes nothing.
kept_none : (t : ℕ) (b : BrokerState) (seats : Table TabSeat) (managers : Table Locks) → find b.partial t ≡ None → record b { seats = seats; managers = managers; partial = without_partial t b.partial } ≡ record b { seats = seats; managers = managers }
kept_none t b seats managers none = ap (λ ks. record b { seats = seats; managers = managers; partial = ks }) (without_none t b.partial none)

newly_active : (b : BrokerState) (p : ℕ) (m : Locks) → is_active b p ≡ true → newly_at b p m ≡ newly_granted m
unfolding newly_at
newly_active b p m active = rw active refl

-- The effect of a command other than a query, in an active partition, if no part of the tab's
-- report is kept.
performs : (b after : BrokerState) (t p n l : ℕ) (o : Operation) (outs : List Addressed) → o ≢ Query → limit_of b t ≡ l → find b.partial t ≡ None → is_active (with_seat t (Joined p (n + 1) l) b) p ≡ true → after ≡ record b { seats = put t (Joined p (n + 1) l) b.seats; managers = put p (settle (drafted t n o (manager_of b p))) b.managers } → outs ≡ answer_to after t n (outcome_at (manager_of after p) t n o) ∷ [] ++ grants_to after (without t n (newly_granted (drafted t n o (manager_of b p)))) → perform b t p n o ≡ Does after outs
unfolding perform
performs b after t p n l o outs other limit none active e os =
    let m = drafted t n o (manager_of b p) in
    let seated = with_seat t (Joined p (n + 1) l) b in
    let settled : settled_at seated p m ≡ after = settled_active seated p m active ∙ kept_none t b (put t (Joined p (n + 1) l) b.seats) (put p (settle m) b.managers) none ∙ sym e in
    rw (limit, settled, newly_active seated p m active, first_is after t p n o other, os) refl

pub change_does : (g : ℕ) (listed : List (ℕ × ℕ)) (seats : Table TabSeat) (partitions : Table PartitionState) (partial : Table Partial) (t p n l : ℕ) (o : Operation) (granted : List Grant) (outs : List Addressed) (seats' : Table TabSeat) (partitions' : Table PartitionState) → o ≢ Query → find seats t ≡ Some (Joined p n l) → find partial t ≡ None → all_arrived listed seats p ≡ true → seats' ≡ put t (Joined p (n + 1) l) seats → granted ≡ grants (without t n (newly_granted (drafted t n o (at no_partition partitions p).locks))) → partitions' ≡ put p (state_of (settle (drafted t n o (at no_partition partitions p).locks)) true) partitions → outs ≡ ([] ++ answer_of g (n + 1) t n (outcome_at (at no_partition partitions' p).locks t n o) ∷ []) ++ map (grant_of g seats') granted → perform (broker_of g listed seats partitions partial) t p n o ≡ Does (broker_of g listed seats' partitions' partial) outs
unfolding is_active
change_does g listed seats partitions partial t p n l o granted outs seats' partitions' other e none active s gr ps os =
    performs (broker_of g listed seats partitions partial) (broker_of g listed seats' partitions' partial) t p n l o outs other (ap limit_in e) none
    (is_active-fields g listed (put t (Joined p (n + 1) l) seats) partitions partial p ∙ all_come-again listed seats t (Joined p (n + 1) l) p (ap has_arrived e) ∙ active)
    (rw (ps, put-map_values (λ (s : PartitionState). s.locks) p _ partitions, manager_of-fields g listed seats partitions partial p, s) refl)
    (let next : next_in (find seats' t) ≡ n + 1 = ap (λ ss. next_in (find ss t)) s ∙ ap next_in (find-put_same t (Joined p (n + 1) l) seats) in
    rw (manager_of-fields g listed seats' partitions' partial p, manager_of-fields g listed seats partitions partial p, next, os, gr, grants_are) refl)

-- The effect of a query.
queries : (b after : BrokerState) (t p n l : ℕ) (outs : List Addressed) → limit_of b t ≡ l → find b.partial t ≡ None → is_active (with_seat t (Joined p (n + 1) l) b) p ≡ true → newly_granted (manager_of b p) ≡ [] → after ≡ record b { seats = put t (Joined p (n + 1) l) b.seats; managers = put p (settle (manager_of b p)) b.managers } → outs ≡ snapshot_to after t n (snapshot_entries (manager_of after p)) → perform b t p n Query ≡ Does after outs
unfolding perform
queries b after t p n l outs limit none active still e os =
    let m = manager_of b p in
    let seated = with_seat t (Joined p (n + 1) l) b in
    let settled : settled_at seated p m ≡ after = settled_active seated p m active ∙ kept_none t b (put t (Joined p (n + 1) l) b.seats) (put p (settle m) b.managers) none ∙ sym e in
    let nobody : newly_at seated p m ≡ [] = newly_active seated p m active ∙ still in
    rw (limit, settled, nobody) (ap (Does after) (append-nil (first_answer after t p n Query) ∙ sym os))

pub query_does : (g : ℕ) (listed : List (ℕ × ℕ)) (seats : Table TabSeat) (partitions : Table PartitionState) (partial : Table Partial) (t p n l : ℕ) (held waiting : List Row) (outs : List Addressed) (seats' : Table TabSeat) → Rises 0 partitions → IsSome (find partitions p) → find seats t ≡ Some (Joined p n l) → find partial t ≡ None → all_arrived listed seats p ≡ true → newly_granted (at no_partition partitions p).locks ≡ [] → held ≡ (at no_partition partitions p).locks.held → waiting ≡ (at no_partition partitions p).locks.waiting → seats' ≡ put t (Joined p (n + 1) l) seats → outs ≡ snapshot_of g (n + 1) t n (map (snapshot_entry_of true) held ++ map (snapshot_entry_of false) waiting) → perform (broker_of g listed seats partitions partial) t p n Query ≡ Does (broker_of g listed seats' partitions partial) outs
unfolding is_active
query_does g listed seats partitions partial t p n l held waiting outs seats' rise there e none active still hs ws s os =
    let m = manager_of-fields g listed seats partitions partial p in
    let row = at no_partition partitions p in
    let same = put_same 0 p row partitions rise (find_there no_partition p partitions (find partitions p) refl there) in
    queries (broker_of g listed seats partitions partial) (broker_of g listed seats' partitions partial) t p n l outs (ap limit_in e) none
    (is_active-fields g listed (put t (Joined p (n + 1) l) seats) partitions partial p ∙ all_come-again listed seats t (Joined p (n + 1) l) p (ap has_arrived e) ∙ active)
    (ap newly_granted m ∙ still)
    (rw (m, settle_same row.locks still, ← put-map_values (λ (s : PartitionState). s.locks) p row partitions, same, s) refl)
    (let next : next_in (find seats' t) ≡ n + 1 = ap (λ ss. next_in (find ss t)) s ∙ ap next_in (find-put_same t (Joined p (n + 1) l) seats) in
    rw (manager_of-fields g listed seats' partitions partial p, next, os, hs, ws) refl)

-- Deaths

pub burial_again : (b : BrokerState) (t : ℕ) → seat_of b t ≡ Some Dead → death_step b t ≡ (b, [])
unfolding death_step
burial_again b t e = rw (ap is_dead e) refl

pub burial_joined : (b : BrokerState) (t p n l : ℕ) → seat_of b t ≡ Some (Joined p n l) → death_step b t ≡ buried_at (with_seat t Dead b) t (Some p)
unfolding death_step place_of
burial_joined b t p n l e = rw e refl

pub burial_listed : (b : BrokerState) (t p : ℕ) → seat_of b t ≡ None → listed_at t b.listed ≡ Some p → death_step b t ≡ buried_at (with_seat t Dead b) t (Some p)
unfolding death_step place_of
burial_listed b t p e l = rw (e, l) refl

pub burial_stranger : (b : BrokerState) (t : ℕ) → seat_of b t ≡ None → listed_at t b.listed ≡ None → death_step b t ≡ (with_seat t Dead b, [])
unfolding death_step place_of
burial_stranger b t e l = rw (e, l) refl

pub stranger_buried : (g : ℕ) (listed : List (ℕ × ℕ)) (seats : Table TabSeat) (partitions : Table PartitionState) (partial : Table Partial) (t : ℕ) (seats' : Table TabSeat) (partial' : Table Partial) → seats' ≡ put t Dead seats → partial' ≡ without_partial t partial → ◌≡◌ {A = BrokerState × List Addressed} (with_seat t Dead (broker_of g listed seats partitions partial), []) (broker_of g listed seats' partitions partial', [])
stranger_buried g listed seats partitions partial t seats' partial' s ks = rw (s, ks) refl
