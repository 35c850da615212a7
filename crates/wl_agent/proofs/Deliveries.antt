-- Result of a delivery, by cases.
use Rattle.std.proofs.Common.{List, ◌≡◌, ◌≢◌, ℕ, ◌+◌, Bool, true, false, ◌&&◌, cond, ltb, length, Option, Some, None, is_some, refl, sym, ap, ◌∙◌}
use Rattle.wl_grammar.specs.declared.frame.Operation.{Operation}
use Rattle.wl_grammar.specs.declared.frame.Operation.TheVariants.{Request, Release, Abort, Query}
use Rattle.wl_grammar.specs.declared.frame.Outcome.{Outcome}
use Rattle.wl_grammar.specs.declared.frame.Outcome.TheVariants as outcome
use Rattle.wl_grammar.specs.declared.frame.Frame.{Frame}
use Rattle.wl_grammar.specs.declared.frame.Hello.{Hello}
use Rattle.wl_grammar.specs.declared.frame.Answer.{Answer}
use Rattle.wl_grammar.specs.declared.frame.Snapshot.{Snapshot as Part}
use Rattle.wl_grammar.specs.declared.frame.Frame.{Frame}
use Rattle.wl_grammar.specs.declared.frame.Frame.TheVariants as frame
use Rattle.wl_agent.specs.declared.drop_reason.DropReason.TheVariants as unheard
use Rattle.wl_agent.specs.declared.delivered.Delivered.{Delivered}
use Rattle.wl_agent.specs.declared.delivered.Delivered.TheVariants as told
use Rattle.wl_agent.specs.declared.status.Status.{Status}
use Rattle.wl_agent.specs.declared.status.Status.TheVariants.{Asked, Held, Querying, Whole, Lost}
use Rattle.wl_draft.specs.Tables.{Table, find, put, has_row}
use Rattle.wl_agent.proofs.TabSteps.{step-becomes}
use Rattle.wl_agent.specs.SnapshotParts.{PartsState, fits, with_part, is_whole}
use Rattle.wl_agent.specs.Tab.{TabState, report_frames, enter, status_of, operation_of, is_issued, is_query, is_querying}
use Rattle.wl_agent.specs.Delivery.{delivery, noted, becomes, has_entered, of_other, told_by_answer, told_by_part, result_of_answer, result_of_lock_answer, result_of_asked_lock_answer, result_of_end_answer, result_of_query_answer, result_of_asked_query_answer, told_unless, told_by_come, parts_refusal, asking_refusal, part_refusal, parts_of, with_part_come, after_answer, after_part, takes_memory, IsSendable}

-- Hellos

greeting : (x : Hello) (a : TabState) (b : Bool) → ltb a.entered x.generation ≡ b → cond b (enter x.generation a, told.Entered (report_frames (enter x.generation a))) (a, told.Dropped unheard.OldGeneration) ≡ delivery (frame.Hello x) a
unfolding delivery
greeting x a b e = rw (← e) refl

pub greets-old : (x : Hello) (a : TabState) → ltb a.entered x.generation ≡ false → (a, told.Dropped unheard.OldGeneration) ≡ delivery (frame.Hello x) a
greets-old x a e = greeting x a false e

pub greets-new : (x : Hello) (a new : TabState) (frames : List Frame) → ltb a.entered x.generation ≡ true → new ≡ enter x.generation a → frames ≡ report_frames (enter x.generation a) → (new, told.Entered frames) ≡ delivery (frame.Hello x) a
greets-new x a new frames e new_is frames_are =
    ap (λ (n : TabState). (n, told.Entered frames)) new_is ∙ ap (λ (fs : List Frame). (enter x.generation a, told.Entered fs)) frames_are ∙ greeting x a true e

-- Answers

hearing : (x : Answer) (a : TabState) (b : Bool) → has_entered x.generation a ≡ b → cond b (noted x.upto (after_answer (told_by_answer x a) a), told_by_answer x a) (a, of_other x.generation a) ≡ delivery (frame.Answer x) a
unfolding delivery
hearing x a b e = rw (← e) refl

pub hears-other : (x : Answer) (a : TabState) (d : Delivered) → has_entered x.generation a ≡ false → d ≡ of_other x.generation a → (a, d) ≡ delivery (frame.Answer x) a
hears-other x a d other d_is = ap (λ (t : Delivered). (a, t)) d_is ∙ hearing x a false other

pub hears : (x : Answer) (a mid new : TabState) (d : Delivered) → has_entered x.generation a ≡ true → d ≡ told_by_answer x a → mid ≡ after_answer d a → new ≡ noted x.upto mid → (new, d) ≡ delivery (frame.Answer x) a
hears x a mid new d same d_is mid_is new_is =
    ap (λ (n : TabState). (n, d)) (new_is ∙ ap (noted x.upto) mid_is) ∙ ap (λ (t : Delivered). (noted x.upto (after_answer t a), t)) d_is ∙ hearing x a true same

-- Parts of snapshots

collecting : (x : Part) (a : TabState) (b : Bool) → has_entered x.generation a ≡ b → cond b (noted (x.number + 1) (after_part x a), told_by_part x a) (a, of_other x.generation a) ≡ delivery (frame.Snapshot x) a
unfolding delivery
collecting x a b e = rw (← e) refl

pub collects-other : (x : Part) (a : TabState) (d : Delivered) → has_entered x.generation a ≡ false → d ≡ of_other x.generation a → (a, d) ≡ delivery (frame.Snapshot x) a
collects-other x a d other d_is = ap (λ (t : Delivered). (a, t)) d_is ∙ collecting x a false other

pub collects : (x : Part) (a mid new : TabState) (d : Delivered) → has_entered x.generation a ≡ true → d ≡ told_by_part x a → mid ≡ after_part x a → new ≡ noted (x.number + 1) mid → (new, d) ≡ delivery (frame.Snapshot x) a
collects x a mid new d same d_is mid_is new_is =
    ap (λ (n : TabState). (n, d)) (new_is ∙ ap (noted (x.number + 1)) mid_is) ∙ ap (λ (t : Delivered). (noted (x.number + 1) (after_part x a), t)) d_is ∙ collecting x a true same

-- Frames that allocate

pub enters-by_memory : (x : Hello) (a : TabState) → ltb a.entered x.generation ≡ true → takes_memory (delivery (frame.Hello x) a).1 ≡ true
enters-by_memory x a e = ap (λ (p : TabState × Delivered). takes_memory p.1) (sym (greeting x a true e))

pub collects-by_memory : (x : Part) (a : TabState) → has_entered x.generation a ≡ true → takes_memory (told_by_part x a) ≡ true → takes_memory (delivery (frame.Snapshot x) a).1 ≡ true
collects-by_memory x a same e =
    ap (λ (p : TabState × Delivered). takes_memory p.1) (sym (collecting x a true same)) ∙ e

-- The result says that memory ran out. The definition of a delivery never gives it.
abbrev pub is_memory : Delivered → Bool
is_memory (told.Dropped unheard.Memory) = true
is_memory d = false

-- Neither an answer nor a part has this result.
abbrev pub is_rare : Delivered → Bool
is_rare (told.Entered frames) = true
is_rare (told.Dropped unheard.Memory) = true
is_rare d = false

not_memory : (d : Delivered) → is_rare d ≡ false → is_memory d ≡ false
not_memory (told.Dropped unheard.Memory) e = cc
not_memory d e = refl

pub sendable : (d : Delivered) → is_rare d ≡ false → IsSendable d
sendable (told.Entered frames) e = cc
sendable d e = tt

asked_told : (k : ℕ) (b : Bool) (o : Outcome) → is_rare (result_of_asked_lock_answer k b o) ≡ false
asked_told k b outcome.Granted = refl
asked_told k true outcome.Waiting = refl
asked_told k false outcome.Waiting = refl
asked_told k true outcome.Gone = refl
asked_told k false outcome.Gone = refl
asked_told k b outcome.Taken = refl

lock_told : (k : ℕ) (b : Bool) (s : Option Status) (o : Outcome) → is_rare (result_of_lock_answer k b s o) ≡ false
lock_told k b None o = refl
lock_told k b (Some Asked) o = asked_told k b o
lock_told k b (Some Held) o = refl
lock_told k b (Some (Querying p)) o = refl
lock_told k b (Some (Whole p)) o = refl
lock_told k b (Some Lost) o = refl

end_told : (k : ℕ) (o : Outcome) → is_rare (result_of_end_answer k o) ≡ false
end_told k outcome.Granted = refl
end_told k outcome.Waiting = refl
end_told k outcome.Gone = refl
end_told k outcome.Taken = refl

asking_told : (k : ℕ) (o : Outcome) → is_rare (result_of_asked_query_answer k o) ≡ false
asking_told k outcome.Granted = refl
asking_told k outcome.Waiting = refl
asking_told k outcome.Gone = refl
asking_told k outcome.Taken = refl

query_told : (k : ℕ) (s : Option Status) (o : Outcome) → is_rare (result_of_query_answer k s o) ≡ false
query_told k None o = refl
query_told k (Some Asked) o = refl
query_told k (Some Held) o = refl
query_told k (Some (Querying p)) o = asking_told k o
query_told k (Some (Whole p)) o = refl
query_told k (Some Lost) o = refl

command_told : (k : ℕ) (op : Operation) (s : Option Status) (o : Outcome) → is_rare (result_of_answer k op s o) ≡ false
command_told k (Request mode b name) s o = lock_told k b s o
command_told k (Release n) s o = end_told k o
command_told k (Abort n) s o = end_told k o
command_told k Query s o = query_told k s o

told_if : (x : Answer) (a : TabState) (b : Bool) → ltb x.number (length a.issued) ≡ b → is_rare (cond b (result_of_answer x.number (operation_of a x.number) (status_of a x.number) x.outcome) (told.Dropped unheard.Odd)) ≡ false
told_if x a true e = command_told x.number (operation_of a x.number) (status_of a x.number) x.outcome
told_if x a false e = refl

pub told_never : (x : Answer) (a : TabState) → is_rare (told_by_answer x a) ≡ false
told_never x a = told_if x a (ltb x.number (length a.issued)) refl

pub other_never : (g : ℕ) (a : TabState) (b : Bool) → ltb g a.entered ≡ b → is_rare (of_other g a) ≡ false
other_never g a true e = rw e refl
other_never g a false e = rw e refl

come_never : (x : Part) (parts : PartsState) (b : Bool) → is_whole (with_part x parts) ≡ b → is_rare (told_by_come x parts) ≡ false
come_never x parts true e = rw e refl
come_never x parts false e = rw e refl

parts_never : (x : Part) (parts : PartsState) (b c : Bool) → fits x parts ≡ b → has_row parts.came x.part ≡ c → is_rare (told_unless (parts_refusal x parts) (told_by_come x parts)) ≡ false
parts_never x parts true c e f = rw e (come_never x parts (is_whole (with_part x parts)) refl)
parts_never x parts false true e f = rw (e, f) refl
parts_never x parts false false e f = rw (e, f) refl

asking_never : (x : Part) (o : Option Status) → is_rare (told_unless (asking_refusal x o) (told_by_come x (parts_of o))) ≡ false
asking_never x None = refl
asking_never x (Some Asked) = refl
asking_never x (Some Held) = refl
asking_never x (Some (Querying p)) = parts_never x p _ _ refl refl
asking_never x (Some (Whole p)) = refl
asking_never x (Some Lost) = refl

pub part_never : (x : Part) (a : TabState) (b : Bool) → (is_issued a x.number && is_query (operation_of a x.number)) ≡ b → is_rare (told_by_part x a) ≡ false
part_never x a true e = rw e (asking_never x (status_of a x.number))
part_never x a false e = rw e refl

hello_never : (x : Hello) (a : TabState) (b : Bool) → ltb a.entered x.generation ≡ b → is_memory (delivery (frame.Hello x) a).1 ≡ false
hello_never x a true e = ap (λ (p : TabState × Delivered). is_memory p.1) (sym (greeting x a true e))
hello_never x a false e = ap (λ (p : TabState × Delivered). is_memory p.1) (sym (greeting x a false e))

answer_never : (x : Answer) (a : TabState) (b : Bool) → has_entered x.generation a ≡ b → is_memory (delivery (frame.Answer x) a).1 ≡ false
answer_never x a true e = ap (λ (p : TabState × Delivered). is_memory p.1) (sym (hearing x a true e)) ∙ not_memory _ (told_never x a)
answer_never x a false e = ap (λ (p : TabState × Delivered). is_memory p.1) (sym (hearing x a false e)) ∙ not_memory _ (other_never x.generation a _ refl)

snapshot_never : (x : Part) (a : TabState) (b : Bool) → has_entered x.generation a ≡ b → is_memory (delivery (frame.Snapshot x) a).1 ≡ false
snapshot_never x a true e = ap (λ (p : TabState × Delivered). is_memory p.1) (sym (collecting x a true e)) ∙ not_memory _ (part_never x a _ refl)
snapshot_never x a false e = ap (λ (p : TabState × Delivered). is_memory p.1) (sym (collecting x a false e)) ∙ not_memory _ (other_never x.generation a _ refl)

pub never-by_memory : (f : Frame) (a : TabState) → is_memory (delivery f a).1 ≡ false
unfolding delivery
never-by_memory (frame.Hello x) a = hello_never x a _ refl
never-by_memory (frame.Answer x) a = answer_never x a _ refl
never-by_memory (frame.Snapshot x) a = snapshot_never x a _ refl
never-by_memory f a = refl

-- A part that is taken

not_refused_as : (x : Part) (o : Option Status) (b : Bool) → cond b (asking_refusal x o) (Some unheard.Odd) ≡ None → is_querying o ≡ true
not_refused_as x o false e = cc
not_refused_as x None true e = cc
not_refused_as x (Some Asked) true e = cc
not_refused_as x (Some Held) true e = cc
not_refused_as x (Some (Querying p)) true e = refl
not_refused_as x (Some (Whole p)) true e = cc
not_refused_as x (Some Lost) true e = cc

pub not-refused : (x : Part) (a : TabState) → part_refusal x a ≡ None → is_querying (status_of a x.number) ≡ true
not-refused x a e = not_refused_as x (status_of a x.number) (is_issued a x.number && is_query (operation_of a x.number)) e

pub step-part : (a b : TabState) (x : Part) (rows : Table Status) → a ≡ b → rows ≡ put x.number (with_part_come x (parts_of (find a.statuses x.number))) a.statuses → part_refusal x b ≡ None → record a { statuses = rows } ≡ after_part x b
step-part a b x rows same rows_are taken =
    let k = x.number in
    step-becomes a b k _ rows same rows_are
    ∙ ap (λ (y : TabState). becomes k (with_part_come x (parts_of (find y.statuses k))) b) same
    ∙ sym (ap (λ r. cond (is_some r) b (becomes k (with_part_come x (parts_of (find b.statuses k))) b)) taken)

-- Frames of other kinds

pub other-kind : (f : Frame) (a : TabState) → ((x : Part) → f ≢ frame.Snapshot x) → ((x : Answer) → f ≢ frame.Answer x) → ((x : Hello) → f ≢ frame.Hello x) → (a, told.Dropped unheard.WrongKind) ≡ delivery f a
unfolding delivery
other-kind (frame.Hello x) a not_part not_answer not_hello = absurd (not_hello x refl)
other-kind (frame.Answer x) a not_part not_answer not_hello = absurd (not_answer x refl)
other-kind (frame.Snapshot x) a not_part not_answer not_hello = absurd (not_part x refl)
other-kind f a not_part not_answer not_hello = refl
