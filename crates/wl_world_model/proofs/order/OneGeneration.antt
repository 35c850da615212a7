-- The broker's frames name its generation, which never changes.
use Rattle.std.proofs.Common.{◌≡◌, ⊎_elim, ℕ, ◌+◌, not, ◌&&◌, ◌||◌, Option, Some, None, List, [], ◌∷◌, map, refl, sym, ◌∙◌, subst}
use Rattle.std.specs.Prelude.{◌==◌, nat_lt, nat_le}
use Rattle.std.specs.List.{range_with_len}
use Rattle.wl_draft.specs.declared.row.Row.{Row}
use Rattle.wl_draft.specs.Locks.{live, without, restored, ended}
use Rattle.wl_grammar.specs.declared.frame.Operation.{Operation}
use Rattle.wl_grammar.specs.declared.frame.Operation.TheVariants.{Request, Release, Abort, Query}
use Rattle.wl_grammar.specs.declared.frame.Outcome.TheVariants.{Granted, Gone}
use Rattle.wl_grammar.specs.declared.frame.SnapshotEntry.{SnapshotEntry}
use Rattle.wl_grammar.specs.declared.frame.Stamped.{Stamped}
use Rattle.wl_grammar.specs.declared.frame.Addressed.{Addressed}
use Rattle.wl_grammar.specs.declared.frame.Upward.{Upward}
use Rattle.wl_grammar.specs.declared.frame.Upward.TheVariants as up
use Rattle.wl_grammar.specs.declared.frame.Downward.{Downward}
use Rattle.wl_grammar.specs.declared.frame.Downward.TheVariants as down
use Rattle.wl_broker_reports.specs.ReportParts.{has_held, all_below, Told, Whole, at_once, in_part, fits, has_part, with_told, is_whole, whole_of}
use Rattle.wl_broker.specs.declared.seat.TabSeat.TheVariants.{Joined, Dead}
use Rattle.wl_broker.specs.declared.dropped.Dropped.TheVariants.{OldGeneration, LaterGeneration, NotJoined, Recovering, OutOfTurn, DeadTab, AlreadyJoined, HeldByNewcomer, BadReport, Misplaced, TooMany, PartTwice}
use Rattle.wl_grammar.specs.Generation.{generation_of}
use Rattle.wl_broker.specs.Broker.{BrokerState, seat_of, manager_of, is_joined, is_dead, next_of, is_active, with_seat, settled_at, newly_at, answer_to, grants_to, snapshot_entries, snapshot_part, snapshot_to, first_answer, later_answer, listed_at, is_listed, is_lock, limit_of, is_misplaced, place_of, drafted, Taking, Drops, Does, partial_of, keeping, join, join_if, perform, take_report_part, take_command, take_inner, taking, buried_at, death_step}
use Rattle.wl_draft.specs.Membership.{In}
use Rattle.wl_draft.proofs.Membership.{either, In-nil, In-one, In-append_cases, In-map_cases}
use Rattle.wl_world_model.proofs.order.TakenIsPicked.{settled-fields}
use Rattle.wl_limits.specs.declared.tabs.TheConstants.{LAST_NUMBER}
use Rattle.wl_grammar.specs.PartCount.{part_count}

abbrev pub AnswerDown : ℕ → Downward → Type 0
AnswerDown g (down.Hello h) = ⊥
AnswerDown g (down.Answer x) = x.generation ≡ g
AnswerDown g (down.Snapshot x) = Unit {0}

abbrev Of : ℕ → Addressed → Type 0
Of g a = AnswerDown g a.inner

abbrev pub Speaks : BrokerState → Taking → Type 0
Speaks b (Drops r) = Unit {0}
Speaks b (Does z outs) = (z.generation ≡ b.generation) × ((a : Addressed) → In a outs → AnswerDown b.generation a.inner)

grants-of : (g : ℕ) (z : BrokerState) (rows : List Row) → z.generation ≡ g → (a : Addressed) → In a (grants_to z rows) → Of g a
grants-of g z rows e a i = let o = In-map_cases (λ (r : Row). answer_to z r.client r.number Granted) rows i in subst (Of g) (sym o.2) e

snapshot-of : (g : ℕ) (z : BrokerState) (t n : ℕ) (entries : List SnapshotEntry) → z.generation ≡ g → (a : Addressed) → In a (snapshot_to z t n entries) → Of g a
snapshot-of g z t n entries e a i =
    either (λ zs. In a zs → Of g a) (nat_lt 65535 (part_count entries)) (answer_to z t n Gone ∷ []) (map (snapshot_part z t n entries) (range_with_len 0 (part_count entries)))
    (λ _ j. subst (Of g) (sym (In-one j)) e)
    (λ _ j. let o = In-map_cases (snapshot_part z t n entries) (range_with_len 0 (part_count entries)) j in subst (Of g) (sym o.2) tt)
    i

first-of : (g : ℕ) (z : BrokerState) (t p n : ℕ) (c : Operation) → z.generation ≡ g → (a : Addressed) → In a (first_answer z t p n c) → Of g a
first-of g z t p n (Request mode if_available name) e a i = subst (Of g) (sym (In-one i)) e
first-of g z t p n (Release k) e a i = subst (Of g) (sym (In-one i)) e
first-of g z t p n (Abort k) e a i = subst (Of g) (sym (In-one i)) e
first-of g z t p n Query e a i = snapshot-of g z t n (snapshot_entries (manager_of z p)) e a i

later-of : (b : BrokerState) (t p n : ℕ) (c : Operation) → Of b.generation (later_answer b t p n c)
later-of b t p n (Request mode if_available name) = refl
later-of b t p n (Release k) = refl
later-of b t p n (Abort k) = refl
later-of b t p n Query = refl

join-speaks : (b : BrokerState) (t p : ℕ) (r : Whole) → Speaks b (join b t p r)
unfolding join
join-speaks b t p r =
    let z = with_seat t (Joined p r.base r.limit) b in
    let m = restored t r.entries (manager_of b p) in
    let e = (settled-fields z p m).1 in
    (e, λ a i. grants-of b.generation (settled_at z p m) (newly_at z p m) e a i)

perform-speaks : (b : BrokerState) (t p n : ℕ) (c : Operation) → Speaks b (perform b t p n c)
unfolding perform
perform-speaks b t p n c =
    let z = with_seat t (Joined p (n + 1) (limit_of b t)) b in
    let m = drafted t n c (manager_of b p) in
    let e = (settled-fields z p m).1 in
    (e, λ a i. ⊎_elim (λ j. first-of b.generation (settled_at z p m) t p n c e a j) (λ j. grants-of b.generation (settled_at z p m) (without t n (newly_at z p m)) e a j) (In-append_cases (first_answer (settled_at z p m) t p n c) _ i))

told-speaks : (b : BrokerState) (t p : ℕ) (x : Told) → Speaks b (take_report_part b t p x)
unfolding take_report_part join_if
told-speaks b t p x =
    either (Speaks b) (is_joined (seat_of b t)) (Drops AlreadyJoined) _ (λ _. tt)
    (λ _. either (Speaks b) (not (is_listed (listed_at t b.listed)) && has_held x.entries) (Drops HeldByNewcomer) _ (λ _. tt)
    (λ _. either (Speaks b) (not (all_below x.base x.entries && fits x (partial_of b t))) (Drops BadReport) _ (λ _. tt)
    (λ _. either (Speaks b) (has_part x (partial_of b t)) (Drops PartTwice) _ (λ _. tt)
    (λ _. either (Speaks b) (is_whole (with_told p x (partial_of b t))) (join b t p (whole_of (with_told p x (partial_of b t)))) (Does (keeping t (with_told p x (partial_of b t)) b) [])
    (λ _. join-speaks b t p (whole_of (with_told p x (partial_of b t))))
    (λ _. (refl, λ a i. absurd (In-nil i)))))))

inner-speaks : (b : BrokerState) (t p : ℕ) (u : Upward) → Speaks b (take_inner b t p u)
unfolding take_command
inner-speaks b t p (up.Report r) = told-speaks b t p (at_once r)
inner-speaks b t p (up.ReportPart r) = told-speaks b t p (in_part r)
inner-speaks b t p (up.Command x) =
    let n = x.number in
    let c = x.operation in
    either (Speaks b) (not (is_joined (seat_of b t))) (Drops NotJoined) _ (λ _. tt)
    (λ _. either (Speaks b) (not (is_active b p)) (Drops Recovering) _ (λ _. tt)
    (λ _. either (Speaks b) (nat_lt (next_of b t) n || n == LAST_NUMBER) (Drops OutOfTurn) _ (λ _. tt)
    (λ _. either (Speaks b) (nat_lt n (next_of b t)) (Does b (later_answer b t p n c ∷ [])) _
    (λ _. (refl, λ a i. subst (Of b.generation) (sym (In-one i)) (later-of b t p n c)))
    (λ _. either (Speaks b) (is_lock c && nat_le (limit_of b t) (live (manager_of b p) t)) (Drops TooMany) (perform b t p n c) (λ _. tt) (λ _. perform-speaks b t p n c)))))

pub taking-speaks : (b : BrokerState) (x : Stamped) → Speaks b (taking b x)
unfolding taking
taking-speaks b x =
    either (Speaks b) (nat_lt (generation_of x.inner) b.generation) (Drops OldGeneration) _ (λ _. tt)
    (λ _. either (Speaks b) (nat_lt b.generation (generation_of x.inner)) (Drops LaterGeneration) _ (λ _. tt)
    (λ _. either (Speaks b) (is_dead (seat_of b x.tab)) (Drops DeadTab) _ (λ _. tt)
    (λ _. either (Speaks b) (is_misplaced b x.tab x.partition) (Drops Misplaced) (take_inner b x.tab x.partition x.inner) (λ _. tt) (λ _. inner-speaks b x.tab x.partition x.inner))))

buried-speaks : (b z : BrokerState) (t : ℕ) (q : Option ℕ) → z.generation ≡ b.generation → Speaks b (Does (buried_at z t q).0 (buried_at z t q).1)
buried-speaks b z t None e = (e, λ a i. absurd (In-nil i))
buried-speaks b z t (Some p) e =
    let m = ended t (manager_of z p) in
    let f = (settled-fields z p m).1 ∙ e in
    (f, λ a i. grants-of b.generation (settled_at z p m) (newly_at z p m) f a i)

pub burial-speaks : (b : BrokerState) (t : ℕ) → Speaks b (Does (death_step b t).0 (death_step b t).1)
unfolding death_step
burial-speaks b t =
    either {A = BrokerState × List Addressed} (λ o. Speaks b (Does o.0 o.1)) (is_dead (seat_of b t)) (b, []) (buried_at (with_seat t Dead b) t (place_of b t))
    (λ _. (refl, λ a i. absurd (In-nil i)))
    (λ _. buried-speaks b (with_seat t Dead b) t (place_of b t) refl)
