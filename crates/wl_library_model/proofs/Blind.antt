-- A frame does the same to a tab's locks, whatever the tab has heard of the commands that the broker has counted.
use Rattle.std.proofs.Common.{◌≡◌, ⊎_elim, ℕ, ◌+◌, ◌≤◌, Bool, true, false, cond, Option, Some, is_some, refl, sym, ap, ◌∙◌, subst, arith}
use Rattle.std.specs.Prelude.{◌==◌, nat_lt}
use Rattle.std.proofs.lemmas.Bool.{cases_Bool, and_parts, eqb-true, le-ltb}
use Rattle.wl_draft.proofs.Membership.{apart, either}
use Rattle.wl_grammar.specs.declared.frame.Operation.{Operation}
use Rattle.wl_grammar.specs.declared.frame.Operation.TheVariants.{Request, Release, Abort, Query}
use Rattle.wl_grammar.specs.declared.frame.Outcome.{Outcome}
use Rattle.wl_grammar.specs.declared.frame.Outcome.TheVariants as outcome
use Rattle.wl_grammar.specs.declared.frame.Answer.{Answer}
use Rattle.wl_grammar.specs.declared.frame.Hello.{Hello}
use Rattle.wl_grammar.specs.declared.frame.Snapshot.{Snapshot as Part}
use Rattle.wl_grammar.specs.declared.frame.Downward.{Downward}
use Rattle.wl_grammar.specs.declared.frame.Downward.TheVariants as down
use Rattle.wl_grammar.specs.declared.frame.Frame.{Frame}
use Rattle.wl_grammar.specs.declared.frame.Frame.TheVariants as frame
use Rattle.wl_agent.specs.declared.delivered.Delivered.{Delivered}
use Rattle.wl_agent.specs.declared.delivered.Delivered.TheVariants as heard
use Rattle.wl_agent.specs.declared.drop_reason.DropReason.TheVariants as unheard
use Rattle.wl_agent.specs.declared.status.Status.{Status}
use Rattle.wl_agent.specs.declared.status.Status.TheVariants.{Asked, Held, Querying}
use Rattle.wl_agent.specs.Tab.{TabState, report_frames, status_of, operation_of, is_issued, ended, enter_first, enter_later, enter, report_of}
use Rattle.wl_agent.specs.Delivery.{acknowledged_by, noted, becomes, result_of_lock_answer, result_of_end_answer, result_of_query_answer, result_of_answer, told_by_answer, part_refusal, parts_of, with_part_come, after_answer, after_part, has_entered, delivery}
use Rattle.wl_kernel.specs.Routes.{frame_of}
use Rattle.wl_tab.specs.Tabs.{told}
use Rattle.wl_library_model.specs.Simulation.{is_awaited, IsRepeated, AreLocksOf}
use Rattle.wl_library_model.proofs.Awaited.{NoneTold, told-same, told-none}
use Rattle.wl_library_model.proofs.Moves.{marked, locks-from}

-- The tab after a frame, with the ends of queries told.
abbrev pub after_frame : Frame → TabState → TabState
after_frame f a = told (delivery f a).0

-- The state is the other one with some count.
abbrev IsMarked : TabState → TabState → Type 0
IsMarked c a = (n : ℕ) × (b : Bool) × (c ≡ marked n b a)

marked-answer : (d : Delivered) (n : ℕ) (b : Bool) (a : TabState) → after_answer d (marked n b a) ≡ marked n b (after_answer d a)
unfolding becomes ended
marked-answer (heard.Granted k) n b a = refl
marked-answer (heard.Null k) n b a = refl
marked-answer (heard.Lost k) n b a = refl
marked-answer d n b a = refl

marked-part : (x : Part) (n : ℕ) (b : Bool) (a : TabState) → after_part x (marked n b a) ≡ marked n b (after_part x a)
unfolding becomes
marked-part x n b a =
    either (λ z. cond (is_some (part_refusal x a)) (marked n b a) (becomes x.number (with_part_come x (parts_of (status_of a x.number))) (marked n b a)) ≡ marked n b z) (is_some (part_refusal x a)) a (becomes x.number (with_part_come x (parts_of (status_of a x.number))) a)
    (λ y. ap (λ z. cond z (marked n b a) (becomes x.number (with_part_come x (parts_of (status_of a x.number))) (marked n b a))) y)
    (λ y. ap (λ z. cond z (marked n b a) (becomes x.number (with_part_come x (parts_of (status_of a x.number))) (marked n b a))) y)

marked-noted : (upto : ℕ) (c a : TabState) → IsMarked c a → IsMarked (noted upto c) (noted upto a)
unfolding noted
marked-noted upto c a m = (acknowledged_by upto c, true, ap (λ (z : TabState). record z { acknowledged = acknowledged_by upto c; answered = true }) m.2)

marked-enter : (g n : ℕ) (b : Bool) (a : TabState) → enter g (marked n b a) ≡ enter g a
unfolding enter_first enter_later report_of
marked-enter g n b a = refl

marked-told : (c a : TabState) → IsMarked c a → IsMarked (told c) (told a)
unfolding told
marked-told c a m = (m.0, m.1, ap told m.2)

marked-same : (a : TabState) → IsMarked a a
marked-same a = (a.acknowledged, a.answered, refl)

-- Two choices by the same test are marked if both alternatives are.
marked-choice : (t : Bool) (x y : TabState × Delivered) (u v : TabState × Delivered) → IsMarked x.0 u.0 → IsMarked y.0 v.0 → IsMarked (cond t x y).0 (cond t u v).0
marked-choice true x y u v m n = m
marked-choice false x y u v m n = n

marked-delivery : (m : Downward) (n : ℕ) (b : Bool) (a : TabState) → IsMarked (delivery (frame_of m) (marked n b a)).0 (delivery (frame_of m) a).0
unfolding delivery
marked-delivery (down.Hello h) n b a = marked-choice (nat_lt a.entered h.generation) _ _ _ _ (subst (λ z. IsMarked z (enter h.generation a)) (sym (marked-enter h.generation n b a)) (marked-same (enter h.generation a))) (n, b, refl)
marked-delivery (down.Answer x) n b a =
    marked-choice (has_entered x.generation a) _ _ _ _ (marked-noted x.upto (after_answer (told_by_answer x a) (marked n b a)) (after_answer (told_by_answer x a) a) (n, b, marked-answer (told_by_answer x a) n b a)) (n, b, refl)
marked-delivery (down.Snapshot x) n b a =
    marked-choice (has_entered x.generation a) _ _ _ _ (marked-noted (x.number + 1) (after_part x (marked n b a)) (after_part x a) (n, b, marked-part x n b a)) (n, b, refl)

-- The locks of client and tab stay the same after a frame.
pub frame-locks : (m : Downward) (c a : TabState) → AreLocksOf c a → AreLocksOf (after_frame (frame_of m) c) (after_frame (frame_of m) a)
frame-locks m c a e =
    let x = marked-told _ _ (marked-delivery m c.acknowledged c.answered a) in
    locks-from (after_frame (frame_of m) c) (after_frame (frame_of m) a) x.0 x.1 (ap (λ z. after_frame (frame_of m) z) e ∙ x.2)

-- An answer to a repeat

lock-over : (k : ℕ) (b : Bool) (s : Option Status) (o : Outcome) (a : TabState) → is_awaited s ≡ false → after_answer (result_of_lock_answer k b s o) a ≡ a
lock-over k b (Some Asked) o a n = apart refl n
lock-over k b (Some Held) o a n = refl
lock-over k b s o a n = refl

end-over : (k : ℕ) (o : Outcome) (a : TabState) → after_answer (result_of_end_answer k o) a ≡ a
end-over k outcome.Taken a = refl
end-over k o a = refl

query-over : (k : ℕ) (s : Option Status) (o : Outcome) (a : TabState) → is_awaited s ≡ false → after_answer (result_of_query_answer k s o) a ≡ a
query-over k (Some (Querying parts)) o a n = apart refl n
query-over k s o a n = refl

command-over : (k : ℕ) (c : Operation) (s : Option Status) (o : Outcome) (a : TabState) → is_awaited s ≡ false → after_answer (result_of_answer k c s o) a ≡ a
command-over k (Request mode b name) s o a n = lock-over k b s o a n
command-over k (Release number) s o a n = end-over k o a
command-over k (Abort number) s o a n = end-over k o a
command-over k Query s o a n = query-over k s o a n

answer-over : (x : Answer) (a : TabState) → is_awaited (status_of a x.number) ≡ false → after_answer (told_by_answer x a) a ≡ a
answer-over x a n =
    either (λ d. after_answer d a ≡ a) (is_issued a x.number) (result_of_answer x.number (operation_of a x.number) (status_of a x.number) x.outcome) (heard.Dropped unheard.Odd)
    (λ _. command-over x.number (operation_of a x.number) (status_of a x.number) x.outcome a n)
    (λ _. refl)

noted-marked : (upto : ℕ) (a : TabState) → IsMarked (noted upto a) a
unfolding noted
noted-marked upto a = (acknowledged_by upto a, true, refl)

answer-marked : (x : Answer) (a : TabState) → IsRepeated a x → IsMarked (delivery (frame.Answer x) a).0 a
unfolding delivery
answer-marked x a r =
    either {A = TabState × Delivered} (λ z. IsMarked z.0 a) (has_entered x.generation a) _ _
    (λ y. subst (λ z. IsMarked (noted x.upto z) a) (sym (answer-over x a (r.over (eqb-true _ _ (and_parts _ _ y).0)))) (noted-marked x.upto a))
    (λ _. marked-same a)

repeated-marked : (n : ℕ) (b : Bool) (a : TabState) (x : Answer) → IsRepeated a x → IsRepeated (marked n b a) x
repeated-marked n b a x r = record { past = r.past; issued = r.issued; over = r.over }

-- The answer to a repeat leaves the locks as they are.
pub repeated-locks : (x : Answer) (c a : TabState) → NoneTold a.statuses → IsRepeated a x → AreLocksOf c a → AreLocksOf (after_frame (frame.Answer x) c) a
repeated-locks x c a none r e =
    let d = marked c.acknowledged c.answered a in
    let m = marked-told _ _ (answer-marked x d (repeated-marked c.acknowledged c.answered a x r)) in
    locks-from (after_frame (frame.Answer x) c) a m.0 m.1 (ap (λ z. after_frame (frame.Answer x) z) e ∙ (m.2 ∙ remark m.0 m.1 c.acknowledged c.answered))
  where
    remark : (n : ℕ) (b : Bool) (k : ℕ) (f : Bool) → marked n b (told (marked k f a)) ≡ marked n b a
    remark n b k f = ap (marked n b) (told-same (marked k f a) none)

-- A frame of another kind leaves the locks as they are.
pub same-locks : (c a : TabState) → NoneTold a.statuses → AreLocksOf c a → AreLocksOf (told c) a
same-locks c a none e = subst (λ z. AreLocksOf z a) (sym (told-same c (subst (λ z. NoneTold z.statuses) (sym e) none))) e

-- A hello

pub hello-late : (h : Hello) (x : TabState) → nat_lt x.entered h.generation ≡ false → NoneTold x.statuses → after_frame (frame.Hello h) x ≡ x
unfolding delivery
hello-late h x n none = ap (λ b. told (cond {A = TabState × Delivered} b (enter h.generation x, heard.Entered (report_frames (enter h.generation x))) (x, heard.Dropped unheard.OldGeneration)).0) n ∙ told-same x none

pub hello-enters : (h : Hello) (x : TabState) → nat_lt x.entered h.generation ≡ true → after_frame (frame.Hello h) x ≡ told (enter h.generation x)
unfolding delivery
hello-enters h x y = ap (λ b. told (cond {A = TabState × Delivered} b (enter h.generation x, heard.Entered (report_frames (enter h.generation x))) (x, heard.Dropped unheard.OldGeneration)).0) y

entered-is : (g : ℕ) (x : TabState) → (told (enter g x)).entered ≡ g
unfolding told enter_first enter_later
entered-is g x = either (λ z. z.entered ≡ g) (x.entered == 0) (enter_first g x) (enter_later g x) (λ _. refl) (λ _. refl)

le-refl' : (n : ℕ) → n ≤ n
le-refl' n = omega arith

hello-reached : (h : Hello) (x : TabState) → NoneTold x.statuses → nat_lt (after_frame (frame.Hello h) x).entered h.generation ≡ false
hello-reached h x none = ⊎_elim
    (λ y. ap (λ z. nat_lt z.entered h.generation) (hello-enters h x y) ∙ (ap (λ z. nat_lt z h.generation) (entered-is h.generation x) ∙ le-ltb h.generation h.generation (le-refl' h.generation)))
    (λ n. ap (λ z. nat_lt z.entered h.generation) (hello-late h x n none) ∙ n)
    (cases_Bool (nat_lt x.entered h.generation))

-- The second of two hellos changes nothing.
pub hello-twice : (h : Hello) (x : TabState) → NoneTold x.statuses → after_frame (frame.Hello h) (after_frame (frame.Hello h) x) ≡ after_frame (frame.Hello h) x
hello-twice h x none = hello-late h (after_frame (frame.Hello h) x) (hello-reached h x none) (told-none (delivery (frame.Hello h) x).0)
