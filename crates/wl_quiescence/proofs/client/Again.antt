-- A client prepares its report and all that is due: what is to come from it is enough.
use Rattle.std.proofs.Common.{◌≡◌, ◌≢◌, ◌⊎◌, inl, inr, ⊎_elim, ℕ, zero, suc, ◌+◌, ◌*◌, ◌/◌, ◌<◌, ◌≤◌, Bool, true, false, ◌||◌, cond, List, [], ◌∷◌, ◌++◌, length, map, Option, Some, None, is_some, refl, sym, ap, ◌∙◌, subst, arith}
use Rattle.std.specs.Prelude.{◌==◌, ⊤, nat_lt, if◌then◌else◌}
use Rattle.std.specs.List.{range_with_len}
use Rattle.std.proofs.lemmas.Bool.{cases_Bool, cases_eq, eq-eqb, ne_eqb, eqb-true, or_left, or_right, or_cases, eqb-false, ltb-true, ltb-false}
use Rattle.std.proofs.Math.Nat.{lt-div-mul-add}
use Rattle.wl_draft.proofs.RisingTables.{find_below}
use Rattle.wl_draft.specs.declared.row.Entry.{Entry}
use Rattle.wl_draft.specs.Tables.{Table, has_row, Rises}
use Rattle.wl_draft.specs.Membership.{In, Here, Later as Behind}
use Rattle.wl_draft.proofs.Membership.{apart, either}
use Rattle.wl_draft.proofs.TableLemmas.{has_row-put, has_row-find}
use Rattle.wl_grammar.specs.declared.frame.Report.{Report}
use Rattle.wl_grammar.specs.declared.frame.Upward.TheVariants as up
use Rattle.wl_grammar.specs.PartCount.{part_count}
use Rattle.wl_broker_reports.specs.ReportParts.{Partial, Told, at_once, in_part, came_in, has_part, with_told, is_whole}
use Rattle.wl_agent.specs.Tab.{TabState, part_of, report_bodies, upward_frame, report_frames, is_report_due, due}
use Rattle.wl_world_model.proofs.exclusion.ToldParts.{HasParts, IsPartOf, part_total, with_told-HasParts}
use Rattle.wl_quiescence.proofs.rest.Invariant.{Seen, Away, At, Item, Tells, Says, Again, Nothing, item_of, after_item, after_items}
use Rattle.wl_quiescence.proofs.rest.Items.{items-append, due-reaches}

-- The parts of a report, as items

abbrev pub piece : Bool → Report → ℕ → Told
piece in_parts r k = if in_parts then in_part (part_of r k) else record (at_once r) { part = k }

abbrev pub pieces : Bool → Report → List ℕ → List Item
pieces in_parts r ns = map (λ k. Tells (piece in_parts r k)) ns

abbrev pub tells : Bool → Report → List Item
tells in_parts r = pieces in_parts r (range_with_len 0 (part_total in_parts r))

tell-parts : (g : ℕ) (r : Report) (ns : List ℕ) → r.generation ≡ g → map (item_of g) (map upward_frame (map (λ k. up.ReportPart (part_of r k)) ns)) ≡ pieces true r ns
tell-parts g r [] e = refl
tell-parts g r (n ∷ ns) e =
    ap (λ z. cond z (Tells (in_part (part_of r n))) Nothing ∷ map (item_of g) (map upward_frame (map (λ k. up.ReportPart (part_of r k)) ns))) (eq-eqb r.generation g e)
    ∙ ap (λ z. Tells (in_part (part_of r n)) ∷ z) (tell-parts g r ns e)

report-items : (g : ℕ) (in_parts : Bool) (r : Report) → r.generation ≡ g → map (item_of g) (map upward_frame (report_bodies in_parts r)) ≡ tells in_parts r
unfolding report_bodies
report-items g true r e = tell-parts g r (range_with_len 0 (part_count r.entries)) e
report-items g false r e = ap (λ z. cond z (Tells (at_once r)) Nothing ∷ []) (eq-eqb r.generation g e)

piece-of : (in_parts : Bool) (r : Report) (k : ℕ) → k < part_total in_parts r → IsPartOf in_parts r (piece in_parts r k)
piece-of true r k lt = record { base = refl; parts = refl; within = lt; entries = refl }
piece-of false r k lt = record { base = refl; parts = refl; within = lt; entries = refl }

piece-part : (in_parts : Bool) (r : Report) (k : ℕ) → (piece in_parts r k).part ≡ k
piece-part true r k = refl
piece-part false r k = refl

total-positive : (in_parts : Bool) (r : Report) → 0 < part_total in_parts r
total-positive true r = go (part_count r.entries) (enough r.entries)
  where
    few : (n q : ℕ) → n + 63 < q * 64 + 64 → q ≡ 0 → n ≢ 0 → ⊥
    few n q h e d = let m : n ≡ 0 = omega (arith, h, e) in d m

    enough : (es : List Entry) → part_count es ≢ 0
    enough es =
        either (λ q. q ≢ 0) (length es == 0) 1 ((length es + 63) / 64)
        (λ _ e. absurd (omega (arith, e)))
        (λ n e. let d = eqb-false (length es) 0 n in let h = lt-div-mul-add {a = length es + 63} {b = 64} (omega arith) in few (length es) ((length es + 63) / 64) h e d)

    go : (n : ℕ) → n ≢ 0 → 0 < n
    go n d = omega (arith, d)
total-positive false r = omega arith

-- Joining

-- The parts that are kept are some of the report's, and not all.
abbrev pub IsPending : Bool → Report → Option Partial → Type 0
IsPending in_parts r o = (k : Partial) → o ≡ Some k → HasParts in_parts r k × (is_whole k ≡ false)

some-same : {X : Type 0} (x y : X) → Some x ≡ Some y → x ≡ y
some-same x y e = cc

-- A rising table that has a row for each number has that many rows.
full-length : {X : Type 0} (rows : Table X) (a n : ℕ) → Rises a rows → ((j : ℕ) → a ≤ j → j < n → has_row rows j ≡ true) → n ≤ a + length rows
full-length [] a n r f = ⊎_elim (λ y. apart (f a (omega arith) (ltb-true a n y)) refl) (λ y. let le = ltb-false a n y in omega (arith, le)) (cases_Bool (nat_lt a n))
full-length (row ∷ rows) a n r f =
    let ih : n ≤ row.0 + 1 + length rows = full-length rows (row.0 + 1) n r.1 (λ j le lt.
    let d : (row.0 == j) ≡ false = ne_eqb row.0 j (λ e. let s : row.0 ≡ j = e in omega (arith, s, le)) in
    ap (λ b. b || has_row rows j) (sym d) ∙ f j (omega (arith, r.0, le)) lt) in
    ⊎_elim
    (λ y. let lt = ltb-true a n y in
    ⊎_elim
    (λ e. let s : row.0 ≡ a = eqb-true row.0 a e in omega (arith, ih, s))
    (λ h. let o : a ≤ row.0 = r.0 in let none = find_below a (row.0 + 1) rows r.1 (omega (arith, o)) in apart (sym (has_row-find rows a) ∙ h) (ap is_some none))
    (or_cases (row.0 == a) (has_row rows a) (f a (omega arith) lt)))
    (λ y. let le = ltb-false a n y in omega (arith, le))
    (cases_Bool (nat_lt a n))

few-length : {X : Type 0} (rows : Table X) (a n : ℕ) → Rises a rows → ((m : ℕ) (x : X) → In (m, x) rows → m < n) → a ≤ n → a + length rows ≤ n
few-length [] a n r f le = omega arith
few-length (row ∷ rows) a n r f le =
    let lt : row.0 < n = f row.0 row.1 Here in
    let ih : row.0 + 1 + length rows ≤ n = few-length rows (row.0 + 1) n r.1 (λ m x i. f m x (Behind i)) (omega arith) in
    omega (arith, r.0)

-- Parts that come after the tab has joined change nothing.
tells-still : (p : ℕ) (d : Bool) (n : ℕ) (i : Bool) (r : Report) (ns : List ℕ) (m : ℕ) → after_items p d n (pieces i r ns) (At m) ≡ At m
tells-still p d n i r [] m = refl
tells-still p d n i r (k ∷ ns) m = tells-still p d n i r ns m

-- All parts from `from` on end with the tab's having joined, if those before are kept.
module _ (p : ℕ) (d : Bool) (n : ℕ) (i : Bool) (r : Report) where
  abbrev Joins : ℕ → ℕ → Seen → Type 0
  Joins from len s = after_items p d n (pieces i r (range_with_len from len)) s ≡ At r.base

  all-kept : (o : Option Partial) → IsPending i r o → ((j : ℕ) → j < part_total i r → has_row (came_in o) j ≡ true) → ⊥
  all-kept None k f = apart (f 0 (total-positive i r)) refl
  all-kept (Some k) q f =
      let h = (q k refl).0 in
      let more : part_total i r ≤ 0 + length k.came = full-length k.came 0 (part_total i r) h.rise (λ j _ lt. f j lt) in
      let less : 0 + length k.came ≤ part_total i r = few-length k.came 0 (part_total i r) h.rise (λ m x j. (h.each m x j).0) (omega arith) in
      apart (eq-eqb (length k.came) k.parts (omega (arith, more, less, h.parts))) (q k refl).1

  told-row : (x : Told) (o : Option Partial) → has_part x o ≡ true → has_row (came_in o) x.part ≡ true
  told-row x None e = apart e refl
  told-row x (Some k) e = e

  with-row : (x : Told) (o : Option Partial) (j : ℕ) → (j ≡ x.part) ⊎ (has_row (came_in o) j ≡ true) → has_row (with_told p x o).came j ≡ true
  unfolding with_told
  with-row x o j e =
      has_row-put x.part x.entries (came_in o) j
      ∙ ⊎_elim (λ s. or_left _ _ (eq-eqb x.part j (sym s))) (λ h. or_right (x.part == j) _ h) e

  joins-from : (len from : ℕ) (o : Option Partial) → from + len ≡ part_total i r → IsPending i r o → ((j : ℕ) → j < from → has_row (came_in o) j ≡ true) → Joins from len (Away o)
  joins-from zero from o e k f = absurd (all-kept o k (λ j lt. f j (omega arith)))
  joins-from (suc len) from o e k f =
      let x = piece i r from in
      let is : IsPartOf i r x = piece-of i r from (omega arith) in
      let part : x.part ≡ from = piece-part i r from in
      let below : (o' : Option Partial) → has_row (came_in o') from ≡ true → ((j : ℕ) → j < from → has_row (came_in o') j ≡ true) → (j : ℕ) → j < from + 1 → has_row (came_in o') j ≡ true =
      (λ o' a g j lt. ⊎_elim (λ s. subst (λ z. has_row (came_in o') z ≡ true) (sym s) a) (λ y. g j (omega (arith, lt, y))) (cases_eq j from)) in
      either (λ s. after_items p d n (pieces i r (range_with_len (from + 1) len)) s ≡ At r.base) (has_part x o) (Away o) (cond (is_whole (with_told p x o)) (At x.base) (Away (Some (with_told p x o))))
      (λ h. joins-from len (from + 1) o (omega arith) k (below o (subst (λ z. has_row (came_in o) z ≡ true) part (told-row x o h)) f))
      (λ _. either (λ s. after_items p d n (pieces i r (range_with_len (from + 1) len)) s ≡ At r.base) (is_whole (with_told p x o)) (At x.base) (Away (Some (with_told p x o)))
      (λ _. tells-still p d n i r (range_with_len (from + 1) len) x.base ∙ ap (λ z. At z) is.base)
      (λ w. joins-from len (from + 1) (Some (with_told p x o)) (omega arith)
      (λ z s. subst (λ y. HasParts i r y × (is_whole y ≡ false)) (some-same (with_told p x o) z s) (with_told-HasParts i r p x o is (λ y t. (k y t).0), w))
      (below (Some (with_told p x o)) (with-row x o from (inl (sym part))) (λ j lt. with-row x o j (inr (f j lt))))))

  tells-joins : (o : Option Partial) → IsPending i r o → after_items p d n (tells i r) (Away o) ≡ At r.base
  tells-joins o k = joins-from (part_total i r) 0 o (omega arith) k (λ j lt. absurd (omega arith))

-- What the broker will have

-- A tab that has still to join, and whose report and what is due behind it are enough.
pub record CanJoin (a : TabState) (o : Option Partial) : Type 0 where
  pub due : is_report_due a ≡ true
  pub acknowledged : a.acknowledged ≡ a.report.base
  pub low : a.report.base ≤ length a.issued
  pub pending : IsPending a.in_parts a.report o

abbrev pub Reaching : TabState → Seen → Type 0
Reaching a (At m) = (a.acknowledged ≤ m) × (m ≤ length a.issued)
Reaching a (Away o) = CanJoin a o

-- An item of the tab: one of its commands, or of its report.
abbrev pub Fine : TabState → Item → Type 0
Fine a (Says k) = k < length a.issued
Fine a (Tells x) = IsPartOf a.in_parts a.report x
Fine a Again = ⊥
Fine a Nothing = ⊤

item-reaching : (p : ℕ) (a : TabState) (i : Item) (s : Seen) → Fine a i → Reaching a s → Reaching a (after_item p (is_report_due a) (length a.issued) i s)
item-reaching p a (Says k) (At m) f r =
    either (λ z. Reaching a (At z)) (k == m) (m + 1) m
    (λ e. let same : k ≡ m = eqb-true k m e in let lt : k < length a.issued = f in let le : a.acknowledged ≤ m = r.0 in (omega arith, omega arith))
    (λ _. r)
item-reaching p a (Says k) (Away o) f r = r
item-reaching p a (Tells x) (At m) f r = r
item-reaching p a (Tells x) (Away o) f r =
    let c : CanJoin a o = r in
    either (Reaching a) (has_part x o) (Away o) _
    (λ _. r)
    (λ _. either (Reaching a) (is_whole (with_told p x o)) (At x.base) (Away (Some (with_told p x o)))
    (λ _. let same : x.base ≡ a.report.base = f.base in (omega (arith, same, c.acknowledged), omega (arith, same, c.low)))
    (λ w. record {
      due = c.due;
      acknowledged = c.acknowledged;
      low = c.low;
      pending = λ z s. subst (λ y. HasParts a.in_parts a.report y × (is_whole y ≡ false)) (some-same (with_told p x o) z s) (with_told-HasParts a.in_parts a.report p x o f (λ y t. (c.pending y t).0), w);
    }))
item-reaching p a Again s f r = absurd f
item-reaching p a Nothing s f r = r

pub items-reaching : (p : ℕ) (a : TabState) (xs : List Item) (s : Seen) → ((i : Item) → In i xs → Fine a i) → Reaching a s → Reaching a (after_items p (is_report_due a) (length a.issued) xs s)
items-reaching p a [] s f r = r
items-reaching p a (x ∷ xs) s f r = items-reaching p a xs (after_item p (is_report_due a) (length a.issued) x s) (λ i j. f i (Behind j)) (item-reaching p a x s (f x Here) r)

pub again-reaching : (p : ℕ) (a : TabState) (s : Seen) → Reaching a s → after_item p (is_report_due a) (length a.issued) Again s ≡ At (length a.issued)
again-reaching p a (At m) r = refl
again-reaching p a (Away o) r = let c : CanJoin a o = r in ap (λ z. let y : Seen = cond z (At (length a.issued)) (Away o) in y) c.due

-- The report, if it is due, and what is due behind it.
abbrev pub sent_again : ℕ → TabState → List Item
sent_again g a = map (item_of g) (if is_report_due a then report_frames a else []) ++ map Says (due a)

-- Once the tab has joined with at least what its client knows of.
from-at : (p : ℕ) (g : ℕ) (a : TabState) (m : ℕ) (ts : List Item) (s : Seen) → (a.entered == 0) ≡ false → a.acknowledged ≤ m → m ≤ length a.issued → after_items p (is_report_due a) (length a.issued) ts s ≡ At m
    → after_items p (is_report_due a) (length a.issued) (ts ++ map Says (due a)) s ≡ At (length a.issued)
from-at p g a m ts s e low le h =
    items-append p (is_report_due a) (length a.issued) ts (map Says (due a)) s
    ∙ (ap (after_items p (is_report_due a) (length a.issued) (map Says (due a))) h ∙ due-reaches p (is_report_due a) a m e low le)

pub sent-reaching : (p : ℕ) (g : ℕ) (a : TabState) (s : Seen) → (a.entered == 0) ≡ false → a.report.generation ≡ g → Reaching a s → after_items p (is_report_due a) (length a.issued) (sent_again g a) s ≡ At (length a.issued)
sent-reaching p g a (At m) e own r =
    from-at p g a m (map (item_of g) (if is_report_due a then report_frames a else [])) (At m) e r.0 r.1
    (either (λ fs. after_items p (is_report_due a) (length a.issued) (map (item_of g) fs) (At m) ≡ At m) (is_report_due a) (report_frames a) []
    (λ _. ap (λ z. after_items p (is_report_due a) (length a.issued) z (At m)) (report-items g a.in_parts a.report own)
    ∙ tells-still p (is_report_due a) (length a.issued) a.in_parts a.report (range_with_len 0 (part_total a.in_parts a.report)) m)
    (λ _. refl))
sent-reaching p g a (Away o) e own r =
    let c : CanJoin a o = r in
    from-at p g a a.report.base (map (item_of g) (if is_report_due a then report_frames a else [])) (Away o) e (omega (arith, c.acknowledged)) c.low
    (either (λ fs. after_items p (is_report_due a) (length a.issued) (map (item_of g) fs) (Away o) ≡ At a.report.base) (is_report_due a) (report_frames a) []
    (λ _. ap (λ z. after_items p (is_report_due a) (length a.issued) z (Away o)) (report-items g a.in_parts a.report own)
    ∙ tells-joins p (is_report_due a) (length a.issued) a.in_parts a.report o c.pending)
    (λ n. apart c.due n))

-- All that is sent again stands in place of the request for it.
pub again-list : (p : ℕ) (d : Bool) (n : ℕ) (fs rs ds us : List Item) (s : Seen) → after_items p d n (rs ++ ds) (after_items p d n fs s) ≡ At n → after_item p d n Again (after_items p d n fs s) ≡ At n
    → after_items p d n (fs ++ Again ∷ us) s ≡ At n → after_items p d n ((fs ++ rs) ++ (ds ++ us)) s ≡ At n
again-list p d n fs rs ds us s now was all =
    let F : List Item → Seen → Seen = after_items p d n in
    items-append p d n (fs ++ rs) (ds ++ us) s
    ∙ (items-append p d n ds us (F (fs ++ rs) s)
    ∙ (ap (λ z. F us (F ds z)) (items-append p d n fs rs s)
    ∙ (ap (F us) (sym (items-append p d n rs ds (F fs s)) ∙ (now ∙ sym was))
    ∙ (sym (items-append p d n fs (Again ∷ us) s) ∙ all))))
