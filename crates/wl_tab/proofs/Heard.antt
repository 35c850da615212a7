-- Effect and reply of a delivery at a tab with stored tokens.
use Rattle.std.proofs.Common.{◌≡◌, ℕ, ◌+◌, Bool, true, false, not, cond, eqb, ltb, List, [], ◌∷◌, map, get_or, Option, Some, None, is_some, refl, sym, ap, ◌∙◌, subst}
use Rattle.std.specs.List.{cons_option}
use Rattle.wl_draft.specs.Tables.{Table, find, put, Rises}
use Rattle.wl_draft.proofs.TableLemmas.{find-put_same}
use Rattle.wl_draft.proofs.Membership.{either}
use Rattle.wl_draft.proofs.RisingTables.{Rises-filter}
use Rattle.wl_grammar.specs.declared.frame.Operation.{Operation}
use Rattle.wl_grammar.specs.declared.frame.Operation.TheVariants.{Query}
use Rattle.wl_grammar.specs.declared.frame.Answer.{Answer}
use Rattle.wl_grammar.specs.declared.frame.Snapshot.{Snapshot as Part}
use Rattle.wl_grammar.specs.declared.frame.Frame.{Frame}
use Rattle.wl_grammar.specs.declared.frame.Frame.TheVariants as frame
use Rattle.wl_agent.specs.declared.delivered.Delivered.{Delivered}
use Rattle.wl_agent.specs.declared.delivered.Delivered.TheVariants as told_as
use Rattle.wl_agent.specs.declared.drop_reason.DropReason.{DropReason}
use Rattle.wl_agent.specs.declared.drop_reason.DropReason.TheVariants as unheard
use Rattle.wl_agent.specs.declared.snapshot.Snapshot.{Snapshot}
use Rattle.wl_agent.specs.declared.status.Status.{Status}
use Rattle.wl_agent.specs.declared.status.Status.TheVariants.{Asked, Held, Querying, Whole, Lost}
use Rattle.wl_agent.specs.SnapshotParts.{with_part, is_whole, snapshot_of}
use Rattle.wl_agent.specs.Tab.{report_frames, TabState, status_of, is_probe, is_asked_probe, is_querying, enter, enter_first, enter_later, ended}
use Rattle.wl_agent.specs.Delivery.{delivery, noted, becomes, has_entered, of_other, told_by_answer, told_by_part, told_unless, after_answer, after_part, part_refusal, parts_of, with_part_come}
use Rattle.wl_agent.specs.AgentInvariant.{RowsFit, Stands}
use Rattle.wl_agent.proofs.Rows.{AllRows-filter}
use Rattle.wl_tab.specs.declared.locks.live_command.LiveCommand.{LiveCommand}
use Rattle.wl_world_messages.specs.declared.effect.Ended.{Ended}
use Rattle.wl_world_messages.specs.declared.effect.Ended.TheVariants as end
use Rattle.wl_world_messages.specs.declared.effect.Effect.TheVariants as said
use Rattle.wl_tab.specs.Tabs.{is_told, told}
use Rattle.wl_tab.specs.Arrivals.{arrival, said_of_told, told_said, snapshot_in, generation_in, ended_in, ended_by_entering}
use Rattle.wl_tab.specs.TabTokens.{token_for, kept_for, kept_of, IsKept, whole_said, NoneTold, ended_by, ended_kept, has_snapshot, entered_by, ended_before}
use Rattle.wl_tab.specs.Telling.{Run, told_run}
use Rattle.wl_tab.proofs.Advancing.{advance-rises, advance-fits, AllMove, run_with, last_whole, whole_or, untold, run-advanced}
use Rattle.wl_tab.proofs.Arriving.{Advances, delivered-advances, AnswerFits, null_fits}
use Rattle.wl_agent.specs.declared.token.Token.TheVariants as token

-- Tokens after a delivery

pub tokens-told : (f : Frame) (a b : TabState) (tab entered : ℕ) (kept : List LiveCommand) → IsKept a tab entered kept → b ≡ (delivery f a).0 → told_run b kept ≡ run_with (told b) (kept_of (told b)) (last_whole b.statuses None)
unfolding told
tokens-told f a b tab entered kept is b_is =
    let d : Advances a b = subst (Advances a) (sym b_is) (delivered-advances f a is.rise is.untold) in
    let fit : RowsFit b.issued a.statuses = subst (λ (issued : List Operation). RowsFit issued a.statuses) (sym d.issued) is.rows in
    let moves : AllMove b.issued d.next a.statuses = subst (λ (issued : List Operation). AllMove issued d.next a.statuses) (sym d.issued) d.moves in
    let same : kept ≡ map (kept_for b.tab b.issued) a.statuses = is.tokens ∙ ap (λ t. map (kept_for t a.issued) a.statuses) (sym d.tab) ∙ ap (λ (issued : List Operation). map (kept_for b.tab issued) a.statuses) (sym d.issued) in
    ap (told_run b) same ∙ run-advanced d.next a.statuses b d.statuses is.rise fit moves

none_told_as : (row : ℕ × Status) (rows : Table Status) (b : Bool) → is_told row.1 ≡ b → NoneTold rows → NoneTold (cond (not b) (row ∷ rows) rows)
none_told_as row rows true e none = none
none_told_as row rows false e none = (e, none)

none_told : (rows : Table Status) → NoneTold (untold rows)
none_told [] = tt
none_told (row ∷ rows) = none_told_as row (untold rows) (is_told row.1) refl (none_told rows)

pub kept-told : (f : Frame) (a b : TabState) (tab entered g : ℕ) (kept : List LiveCommand) → IsKept a tab entered kept → b ≡ (delivery f a).0 → g ≡ b.entered → IsKept (told b) tab g (kept_of (told b))
unfolding told
kept-told f a b tab entered g kept is b_is g_is =
    let d : Advances a b = subst (Advances a) (sym b_is) (delivered-advances f a is.rise is.untold) in
    let rise : Rises 0 b.statuses = subst (Rises 0) (sym d.statuses) (advance-rises d.next 0 a.statuses is.rise) in
    let fit : RowsFit a.issued b.statuses = subst (RowsFit a.issued) (sym d.statuses) (advance-fits a.issued d.next a.statuses is.rows d.moves) in
    let fits : RowsFit b.issued b.statuses = subst (λ (issued : List Operation). RowsFit issued b.statuses) (sym d.issued) fit in
    record {
      tokens = refl;
      owner = is.owner ∙ sym d.tab;
      generation = g_is;
      rise = Rises-filter _ 0 b.statuses rise;
      rows = AllRows-filter (Stands b.issued) _ b.statuses fits;
      untold = none_told b.statuses;
    }

-- The entered generation

kept_entered : (x : Answer) (a : TabState) (d : Delivered) → (after_answer d a).entered ≡ a.entered
unfolding becomes ended
kept_entered x a (told_as.Granted k) = refl
kept_entered x a (told_as.Null k) = refl
kept_entered x a (told_as.Lost k) = refl
kept_entered x a d = refl

part_entered : (x : Part) (a : TabState) → (after_part x a).entered ≡ a.entered
unfolding becomes
part_entered x a = either (λ (b : TabState). b.entered ≡ a.entered) (is_some (part_refusal x a)) a (becomes x.number (with_part_come x (parts_of (status_of a x.number))) a) (λ e. refl) (λ e. refl)

-- An answer does not change the entered generation.
no_entering : (x : Answer) (a : TabState) (f : Frame) (d : Delivered) → AnswerFits x a d → entered_by f d a.entered ≡ a.entered
no_entering x a f (told_as.Entered report) n = absurd n
no_entering x a f d n = refl

part_tells : (x : Part) (a : TabState) (f : Frame) (o : Option DropReason) (b : Bool) → entered_by f (told_unless o (cond b (told_as.Whole x.number) (told_as.Part x.number))) a.entered ≡ a.entered
part_tells x a f (Some r) b = refl
part_tells x a f None true = refl
part_tells x a f None false = refl

other_tells : (a : TabState) (g : ℕ) (f : Frame) → entered_by f (of_other g a) a.entered ≡ a.entered
other_tells a g f = either (λ (d : Delivered). entered_by f d a.entered ≡ a.entered) (ltb g a.entered) (told_as.Dropped unheard.OldGeneration) (told_as.Dropped unheard.LaterGeneration) (λ e. refl) (λ e. refl)

enter_generation : (g : ℕ) (a : TabState) → (enter g a).entered ≡ g
unfolding enter_first enter_later
enter_generation g a = either (λ (b : TabState). b.entered ≡ g) (eqb a.entered 0) (enter_first g a) (enter_later g a) (λ e. refl) (λ e. refl)

pub entered-after : (f : Frame) (a : TabState) → (delivery f a).0.entered ≡ entered_by f (delivery f a).1 a.entered
unfolding delivery noted
entered-after (frame.Hello x) a =
    either (λ (p : TabState × Delivered). p.0.entered ≡ entered_by (frame.Hello x) p.1 a.entered) (ltb a.entered x.generation) (enter x.generation a, told_as.Entered (report_frames (enter x.generation a))) (a, told_as.Dropped unheard.OldGeneration) (λ e. enter_generation x.generation a) (λ e. refl)
entered-after (frame.Answer x) a =
    either (λ (p : TabState × Delivered). p.0.entered ≡ entered_by (frame.Answer x) p.1 a.entered) (has_entered x.generation a) (noted x.upto (after_answer (told_by_answer x a) a), told_by_answer x a) (a, of_other x.generation a) (λ e. kept_entered x a (told_by_answer x a) ∙ sym (no_entering x a (frame.Answer x) (told_by_answer x a) (null_fits x a))) (λ e. sym (other_tells a x.generation (frame.Answer x)))
entered-after (frame.Snapshot x) a =
    either (λ (p : TabState × Delivered). p.0.entered ≡ entered_by (frame.Snapshot x) p.1 a.entered) (has_entered x.generation a) (noted (x.number + 1) (after_part x a), told_by_part x a) (a, of_other x.generation a) (λ e. part_entered x a ∙ sym (part_tells x a (frame.Snapshot x) (part_refusal x a) (is_whole (with_part x (parts_of (status_of a x.number)))))) (λ e. sym (other_tells a x.generation (frame.Snapshot x)))
entered-after f a = refl

-- A complete snapshot

not_whole : (s : Status) (w : Option Snapshot) → is_told s ≡ false → whole_or s w ≡ w
not_whole Asked w e = refl
not_whole Held w e = refl
not_whole (Querying p) w e = refl
not_whole (Whole s) w e = let bad : ⊥ = cc in absurd bad
not_whole Lost w e = refl

last-untold : (rows : Table Status) (w : Option Snapshot) → NoneTold rows → last_whole rows w ≡ w
last-untold [] w none = refl
last-untold (row ∷ rows) w none = ap (last_whole rows) (not_whole row.1 w none.0) ∙ last-untold rows w none.1

last-put_as : (k : ℕ) (s : Snapshot) (row : ℕ × Status) (rows : Table Status) (w : Option Snapshot) (b c : Bool) → NoneTold (row ∷ rows) → last_whole (put k (Whole s) rows) (whole_or row.1 w) ≡ Some s → last_whole (cond b ((k, Whole s) ∷ rows) (cond c ((k, Whole s) ∷ row ∷ rows) (row ∷ put k (Whole s) rows))) w ≡ Some s
last-put_as k s row rows w true c none below = last-untold rows (Some s) none.1
last-put_as k s row rows w false true none below = last-untold (row ∷ rows) (Some s) none
last-put_as k s row rows w false false none below = below

last-put : (k : ℕ) (s : Snapshot) (rows : Table Status) (w : Option Snapshot) → NoneTold rows → last_whole (put k (Whole s) rows) w ≡ Some s
last-put k s [] w none = refl
last-put k s (row ∷ rows) w none = last-put_as k s row rows w (eqb row.0 k) (ltb k row.0) none (last-put k s rows (whole_or row.1 w) none.1)

-- If a number's snapshot is reported complete, it is present and is the only one.
pub record WholeAt (b : TabState) (k : ℕ) : Type 0 where
  pub snapshot : Snapshot
  pub status : status_of b k ≡ Some (Whole snapshot)
  pub last : last_whole b.statuses None ≡ Some snapshot

abbrev WholeIf : TabState × Delivered → Type 0
WholeIf p = (k : ℕ) → p.1 ≡ told_as.Whole k → WholeAt p.0 k

other_whole : (a : TabState) (g : ℕ) → WholeIf (a, of_other g a)
other_whole a g = either (λ (d : Delivered). WholeIf (a, d)) (ltb g a.entered) (told_as.Dropped unheard.OldGeneration) (told_as.Dropped unheard.LaterGeneration) (λ e k is. let bad : ⊥ = cc in absurd bad) (λ e k is. let bad : ⊥ = cc in absurd bad)

part_whole : (x : Part) (a : TabState) (n : ℕ) (o : Option DropReason) (b : Bool) → NoneTold a.statuses → part_refusal x a ≡ o → is_whole (with_part x (parts_of (status_of a x.number))) ≡ b → (k : ℕ) → told_unless o (cond b (told_as.Whole x.number) (told_as.Part x.number)) ≡ told_as.Whole k → WholeAt (noted n (after_part x a)) k
unfolding noted becomes
part_whole x a n (Some r) b none refused whole k is = let bad : ⊥ = cc in absurd bad
part_whole x a n None false none refused whole k is = let bad : ⊥ = cc in absurd bad
part_whole x a n None true none refused whole k is =
    let parts = parts_of (status_of a x.number) in
    let s : Snapshot = snapshot_of (with_part x parts) in
    let same : x.number ≡ k = cc in
    let rows : (after_part x a).statuses ≡ put x.number (Whole s) a.statuses = ap (λ (o : Option DropReason). (cond (is_some o) a (becomes x.number (with_part_come x parts) a)).statuses) refused ∙ ap (λ b. put x.number (cond b (Whole (snapshot_of (with_part x parts))) (Querying (with_part x parts))) a.statuses) whole in
    record {
      snapshot = s;
      status = ap (λ (rs : Table Status). find rs k) rows ∙ ap (λ i. find (put x.number (Whole s) a.statuses) i) (sym same) ∙ find-put_same x.number (Whole s) a.statuses;
      last = ap (λ (rs : Table Status). last_whole rs None) rows ∙ last-put x.number s a.statuses None none;
    }

pub whole-comes : (f : Frame) (a : TabState) → NoneTold a.statuses → WholeIf (delivery f a)
unfolding delivery
whole-comes (frame.Hello x) a none =
    either WholeIf (ltb a.entered x.generation) (enter x.generation a, told_as.Entered (report_frames (enter x.generation a))) (a, told_as.Dropped unheard.OldGeneration) (λ e k is. let bad : ⊥ = cc in absurd bad) (λ e k is. let bad : ⊥ = cc in absurd bad)
whole-comes (frame.Answer x) a none =
    either WholeIf (has_entered x.generation a) (noted x.upto (after_answer (told_by_answer x a) a), told_by_answer x a) (a, of_other x.generation a) (λ e k is. absurd (subst (AnswerFits x a) is (null_fits x a))) (λ e. other_whole a x.generation)
whole-comes (frame.Snapshot x) a none =
    either WholeIf (has_entered x.generation a) (noted (x.number + 1) (after_part x a), told_by_part x a) (a, of_other x.generation a) (λ e. part_whole x a (x.number + 1) (part_refusal x a) (is_whole (with_part x (parts_of (status_of a x.number)))) none refl refl) (λ e. other_whole a x.generation)
whole-comes f a none = λ k is. let bad : ⊥ = cc in absurd bad

pub has-snapshot : (b : TabState) (d : Delivered) → WholeIf (b, d) → has_snapshot d (last_whole b.statuses None) ≡ true
has-snapshot b (told_as.Whole k) whole = ap is_some (whole k refl).last
has-snapshot b d whole = refl

-- Numbers that entering ends

ends_as : (tab k : ℕ) (issued : List Operation) (s : Status) (rest : List Ended) → is_told s ≡ false → cons_option (ended_by (token_for tab (get_or issued k Query) k s)) rest ≡ cond (is_asked_probe issued (k, s)) (end.Null k ∷ rest) (cond (is_querying (Some s)) (end.Lost k ∷ rest) rest)
ends_as tab k issued Asked rest none =
    elim (is_probe (get_or issued k Query)) as (λ b. cons_option (ended_by (cond b (token.Probe (record { tab = tab; number = k })) (token.Pending (record { tab = tab; number = k })))) rest ≡ cond b (end.Null k ∷ rest) rest) [ true ↦ refl | false ↦ refl ]
ends_as tab k issued Held rest none = refl
ends_as tab k issued (Querying p) rest none = refl
ends_as tab k issued (Whole s) rest none = let bad : ⊥ = cc in absurd bad
ends_as tab k issued Lost rest none = let bad : ⊥ = cc in absurd bad

ends-in : (tab : ℕ) (issued : List Operation) (rows : Table Status) → NoneTold rows → ended_kept (map (kept_for tab issued) rows) ≡ ended_in issued rows
ends-in tab issued [] none = refl
ends-in tab issued (row ∷ rows) none =
    ap (cons_option (ended_by (token_for tab (get_or issued row.0 Query) row.0 row.1))) (ends-in tab issued rows none.1)
    ∙ ends_as tab row.0 issued row.1 (ended_in issued rows) none.0

-- The stored tokens give the numbers that entering ends.
pub ends-kept : (a : TabState) (tab entered : ℕ) (kept : List LiveCommand) → IsKept a tab entered kept → ended_kept kept ≡ ended_in a.issued a.statuses
ends-kept a tab entered kept is = ap ended_kept is.tokens ∙ ends-in a.tab a.issued a.statuses is.untold

-- Replies

said_as : (f : Frame) (a b : TabState) (d : Delivered) (ends : List Ended) → WholeIf (b, d) → ends ≡ ended_by_entering a → said_of_told f ends (whole_said (last_whole b.statuses None)) d ≡ told_said f a b d
said_as f a b (told_as.Entered report) ends whole e = ap (said.Entered (generation_in f)) e
said_as f a b (told_as.Granted k) ends whole e = refl
said_as f a b (told_as.Waiting k) ends whole e = refl
said_as f a b (told_as.Null k) ends whole e = refl
said_as f a b (told_as.Lost k) ends whole e = refl
said_as f a b (told_as.Taken k) ends whole e = refl
said_as f a b (told_as.Part k) ends whole e = refl
said_as f a b (told_as.Whole k) ends whole e =
    let w = whole k refl in
    ap (λ (o : Option Snapshot). whole_said o k) w.last ∙ sym (ap (λ s. said.Whole k (snapshot_in s)) w.status)
said_as f a b (told_as.Dropped u) ends whole e = refl

pub said-arrival : (f : Frame) (a : TabState) (ends : List Ended) → NoneTold a.statuses → ends ≡ ended_by_entering a → said_of_told f ends (whole_said (last_whole (delivery f a).0.statuses None)) (delivery f a).1 ≡ arrival f a
unfolding arrival
said-arrival f a ends none e = said_as f a (delivery f a).0 (delivery f a).1 ends (whole-comes f a none) e

-- A whole delivery

-- The effect and reply of a delivery, given the entered generation and the settled tokens.
pub record Comes (f : Frame) (a c : TabState) (d : Delivered) (tab g : ℕ) (kept : List LiveCommand) (w : Option Snapshot) : Type 0 where
  pub keeps : IsKept c tab g kept
  pub left : c ≡ told (delivery f a).0
  pub whole : has_snapshot d w ≡ true
  pub says : (ends : List Ended) → ends ≡ ended_by_entering a → said_of_told f ends (whole_said w) d ≡ arrival f a

pub comes : (f : Frame) (a b c : TabState) (d : Delivered) (tab entered g : ℕ) (kept ks : List LiveCommand) (w : Option Snapshot) → IsKept a tab entered kept → (b, d) ≡ delivery f a → g ≡ entered_by f d entered → c ≡ (told_run b kept).agent → ks ≡ (told_run b kept).kept → w ≡ (told_run b kept).snapshot → Comes f a c d tab g ks w
comes f a b c d tab entered g kept ks w is delivered g_is c_is ks_is w_is =
    let b_is : b ≡ (delivery f a).0 = ap (λ (p : TabState × Delivered). p.0) delivered in
    let d_is : d ≡ (delivery f a).1 = ap (λ (p : TabState × Delivered). p.1) delivered in
    let run = tokens-told f a b tab entered kept is b_is in
    let left : c ≡ told b = c_is ∙ ap (λ (r : Run). r.agent) run in
    let tokens : ks ≡ kept_of (told b) = ks_is ∙ ap (λ (r : Run). r.kept) run in
    let snapshot : w ≡ last_whole b.statuses None = w_is ∙ ap (λ (r : Run). r.snapshot) run in
    let after : g ≡ b.entered = g_is ∙ ap (entered_by f d) is.generation ∙ ap (λ (t : Delivered). entered_by f t a.entered) d_is ∙ sym (entered-after f a) ∙ ap (λ (t : TabState). t.entered) (sym b_is) in
    let at_told : IsKept (told b) tab g (kept_of (told b)) = kept-told f a b tab entered g kept is b_is after in
    let whole_if : WholeIf (b, d) = subst WholeIf (sym delivered) (whole-comes f a is.untold) in
    record {
      keeps = subst (λ (t : TabState). IsKept t tab g ks) (sym left) (subst (IsKept (told b) tab g) (sym tokens) at_told);
      left = left ∙ ap told b_is;
      whole = ap (has_snapshot d) snapshot ∙ has-snapshot b d whole_if;
      says = λ ends e. ap (λ (o : Option Snapshot). said_of_told f ends (whole_said o) d) snapshot ∙ ap (λ (t : TabState). said_of_told f ends (whole_said (last_whole t.statuses None)) d) b_is ∙ ap (said_of_told f ends (whole_said (last_whole (delivery f a).0.statuses None))) d_is ∙ said-arrival f a ends is.untold e;
    }

pub ends-before : (a : TabState) (tab entered : ℕ) (kept : List LiveCommand) → IsKept a tab entered kept → ended_before entered kept ≡ ended_by_entering a
ends-before a tab entered kept is =
    ap (λ e. ended_before e kept) is.generation ∙ ap (λ (ends : List Ended). cond (eqb a.entered 0) [] ends) (ends-kept a tab entered kept is)
