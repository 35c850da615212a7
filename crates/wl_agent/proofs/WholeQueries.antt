-- Lemmas on whole queries: a query becomes whole when all parts of its answer are received, and not
-- before.
use Rattle.std.proofs.Common.{◌≡◌, ◌⊎◌, inl, inr, ⊎_elim, ℕ, ◌+◌, ◌<◌, ◌≤◌, Bool, true, false, cond, not, ◌&&◌, eqb, ltb, List, [], ◌∷◌, ◌++◌, length, length-append, append_assoc, append-nil, Option, Some, None, is_some, is_none, refl, sym, ap, ◌∙◌, subst, arith}
use Rattle.std.proofs.lemmas.Bool.{and_parts, and_right, eqb-true, ltb-true, false≢true}
use Rattle.wl_draft.specs.Tables.{Table, find, Rises}
use Rattle.wl_draft.proofs.Membership.{either}
use Rattle.wl_draft.proofs.RisingTables.{find_below}
use Rattle.wl_grammar.specs.declared.frame.Operation.{Operation}
use Rattle.wl_grammar.specs.declared.frame.Operation.TheVariants.{Request, Release, Abort, Query}
use Rattle.wl_grammar.specs.declared.frame.Snapshot.{Snapshot as Part}
use Rattle.wl_grammar.specs.declared.frame.Frame.{Frame}
use Rattle.wl_grammar.specs.declared.frame.Frame.TheVariants as frame
use Rattle.wl_agent.specs.declared.delivered.Delivered.{Delivered}
use Rattle.wl_agent.specs.declared.delivered.Delivered.TheVariants as told
use Rattle.wl_agent.specs.declared.drop_reason.DropReason.{DropReason}
use Rattle.wl_agent.specs.declared.drop_reason.DropReason.TheVariants as unheard
use Rattle.wl_agent.specs.declared.status.Status.{Status}
use Rattle.wl_agent.specs.declared.status.Status.TheVariants.{Asked, Held, Querying, Whole, Lost}
use Rattle.wl_agent.specs.SnapshotParts.{PartsState, no_parts, fits, with_part, is_whole, snapshot_of}
use Rattle.wl_agent.specs.Tab.{TabState, born, status_of, operation_of, is_issued, is_query, is_querying, is_asked, enter, enter_first, enter_later, report_frames, carried, is_asked_probe, unless_asked, issue, ended, finish, asked, queried, aborted, released, ask_refusal, query_refusal}
use Rattle.wl_agent.specs.Tokens.{is_pending, is_holding, is_asking, after_query}
use Rattle.wl_agent.specs.Delivery.{delivery, noted, becomes, has_entered, of_other, told_by_answer, told_by_part, after_answer, after_part, asking_refusal, part_refusal, parts_of, with_part_come}
use Rattle.wl_agent.specs.AgentLaws.{Call, Asks, Queries, Tells, Aborts, Releases, Hears, step, steps, AreWhole, gathered, part_taken, parts_taken, AnsweredBy, WholeOnceAllCame}
use Rattle.wl_agent.proofs.Cases.{told_fits, answered_as, find-issue, find-finish, find-ended, find-becomes}
use Rattle.wl_agent.proofs.Carrying.{carried_cons}
use Rattle.wl_agent.proofs.Deliveries.{not-refused}
use Rattle.wl_agent.proofs.HeldByGrants.{is-entered}
use Rattle.wl_agent.proofs.Limits.{Tidy, tidy_step, tidy_born}
use Rattle.wl_agent.proofs.PartsCollected.{Collects, nothing_came, not_yet, one_more, all_came, fits_below}

-- Status of a number, from the parts it has taken

record IsMissing (g : ℕ) (came : PartsState) (xs : List Part) : Type 0 where
  collects : Collects g came xs
  missing : (xs ≡ []) ⊎ (is_whole came ≡ false)

abbrev Told : ℕ → Option Status → List Part → Type 0
Told g (Some (Querying came)) xs = IsMissing g came xs
Told g (Some Lost) xs = AreWhole xs → ⊥
Told g (Some (Whole snapshot)) xs = AreWhole xs × (snapshot ≡ snapshot_of (gathered xs no_parts))
Told g s xs = Unit {0}

told-answers : (g : ℕ) (s : Option Status) (xs : List Part) → Told g s xs → AnsweredBy s xs
told-answers g None xs t = tt
told-answers g (Some Asked) xs t = tt
told-answers g (Some Held) xs t = tt
told-answers g (Some (Querying came)) xs t = not_yet g came xs t.collects t.missing
told-answers g (Some (Whole snapshot)) xs t = t
told-answers g (Some Lost) xs t = t

not_whole : (g : ℕ) (s : Option Status) (xs : List Part) → is_querying s ≡ true → Told g s xs → AreWhole xs → ⊥
not_whole g (Some (Querying came)) xs e t = not_yet g came xs t.collects t.missing
not_whole g None xs e t = cc
not_whole g (Some Asked) xs e t = cc
not_whole g (Some Held) xs e t = cc
not_whole g (Some (Whole snapshot)) xs e t = cc
not_whole g (Some Lost) xs e t = cc

-- If no part was taken, the statement holds in any generation.
told-fresh : (g h : ℕ) (s : Option Status) → Told h s [] → Told g s []
told-fresh g h None t = tt
told-fresh g h (Some Asked) t = tt
told-fresh g h (Some Held) t = tt
told-fresh g h (Some (Querying came)) t = record {
  collects = record { gathers = t.collects.gathers; alike = tt; rows = t.collects.rows; rise = t.collects.rise; below = t.collects.below };
  missing = t.missing;
}
told-fresh g h (Some (Whole snapshot)) t = t
told-fresh g h (Some Lost) t = t

-- A query that is still asked when the tab enters another generation is lost.
told-unless : (g h : ℕ) (s : Status) (xs : List Part) → Told h (Some s) xs → Told g (Some (unless_asked s)) xs
told-unless g h Asked xs t = tt
told-unless g h Held xs t = tt
told-unless g h (Querying came) xs t = not_yet h came xs t.collects t.missing
told-unless g h (Whole snapshot) xs t = t
told-unless g h Lost xs t = t

abbrev Carries : Option Status → Option Status → Type 0
Carries old new = (new ≡ None) ⊎ ((s : Status) × (old ≡ Some s) × (new ≡ Some (unless_asked s)))

carried_first : (issued : List Operation) (k : ℕ) (p : ℕ × Status) (ps : Table Status) (b c : Bool) → eqb p.0 k ≡ b → Rises (p.0 + 1) ps → Carries (find ps k) (find (carried issued ps) k)
    → Carries (cond b (Some p.1) (find ps k)) (find (cond c ((p.0, unless_asked p.1) ∷ carried issued ps) (carried issued ps)) k)
carried_first issued k p ps true true e rise below = inr (p.1, refl, ap (λ b. cond b (Some (unless_asked p.1)) (find (carried issued ps) k)) e)
carried_first issued k p ps true false e rise below =
    let none : find ps k ≡ None = find_below k (p.0 + 1) ps rise (omega (arith, eqb-true p.0 k e)) in
    ⊎_elim (λ gone. inl gone) (λ kept. let same : None ≡ Some kept.0 = sym none ∙ kept.1 in cc) below
carried_first issued k p ps false true e rise below =
    subst (Carries (find ps k)) (sym (ap (λ b. cond b (Some (unless_asked p.1)) (find (carried issued ps) k)) e)) below
carried_first issued k p ps false false e rise below = below

carried-of : (issued : List Operation) (k least : ℕ) (rows : Table Status) → Rises least rows → Carries (find rows k) (find (carried issued rows) k)
carried-of issued k least [] rise = inl refl
carried-of issued k least (p ∷ ps) rise =
    let c = not (is_asked_probe issued p) in
    subst (λ (rs : Table Status). Carries (find (p ∷ ps) k) (find rs k)) (carried_cons issued p ps c refl)
    (carried_first issued k p ps (eqb p.0 k) c refl rise.1 (carried-of issued k (p.0 + 1) ps rise.1))

told-carried : (g h : ℕ) (old new : Option Status) (xs : List Part) → Carries old new → Told h old xs → Told g new xs
told-carried g h old new xs (inl gone) t = subst (λ s. Told g s xs) (sym gone) tt
told-carried g h old new xs (inr kept) t = subst (λ s. Told g s xs) (sym kept.2) (told-unless g h kept.0 xs (subst (λ s. Told h s xs) kept.1 t))

-- One call

-- The number has taken these parts.
record Follows (k : ℕ) (a : TabState) (xs : List Part) : Type 0 where
  unissued : length a.issued ≤ k → xs ≡ []
  unentered : a.entered ≡ 0 → xs ≡ []
  answer : Told a.entered (status_of a k) xs

follows-issue : (o : Operation) (s : Status) (a : TabState) (k : ℕ) (xs : List Part) → ((g : ℕ) → Told g (Some s) []) → Follows k a xs → Follows k (issue o s a) xs
unfolding issue
follows-issue o s a k xs fresh f = record {
  unissued = λ le. f.unissued (omega (arith, le, length-append a.issued (o ∷ [])));
  unentered = f.unentered;
  answer = subst (λ t. Told a.entered t xs) (sym (find-issue o s a k)) (either (λ t. Told a.entered t xs) (eqb (length a.issued) k) (Some s) (find a.statuses k)
      (λ e. subst (Told a.entered (Some s)) (sym (f.unissued (omega (arith, eqb-true (length a.issued) k e)))) (fresh a.entered)) (λ e. f.answer));
}

follows-finish : (o : Operation) (j : ℕ) (a : TabState) (k : ℕ) (xs : List Part) → Follows k a xs → Follows k (finish o j a) xs
unfolding finish
follows-finish o j a k xs f = record {
  unissued = λ le. f.unissued (omega (arith, le, length-append a.issued (o ∷ [])));
  unentered = f.unentered;
  answer = subst (λ t. Told a.entered t xs) (sym (find-finish o j a k)) (either (λ t. Told a.entered t xs) (eqb j k) None (find a.statuses k) (λ e. tt) (λ e. f.answer));
}

follows-ended : (j : ℕ) (a : TabState) (k : ℕ) (xs : List Part) → Follows k a xs → Follows k (ended j a) xs
unfolding ended
follows-ended j a k xs f = record {
  unissued = f.unissued;
  unentered = f.unentered;
  answer = subst (λ t. Told a.entered t xs) (sym (find-ended j a k)) (either (λ t. Told a.entered t xs) (eqb j k) None (find a.statuses k) (λ e. tt) (λ e. f.answer));
}

follows-becomes : (j : ℕ) (s : Status) (a : TabState) (k : ℕ) (xs : List Part) → (eqb j k ≡ true → Told a.entered (Some s) xs) → Follows k a xs → Follows k (becomes j s a) xs
unfolding becomes
follows-becomes j s a k xs new f = record {
  unissued = f.unissued;
  unentered = f.unentered;
  answer = subst (λ t. Told a.entered t xs) (sym (find-becomes j s a k)) (either (λ t. Told a.entered t xs) (eqb j k) (Some s) (find a.statuses k) new (λ e. f.answer));
}

follows-noted : (upto : ℕ) (a : TabState) (k : ℕ) (xs : List Part) → Follows k a xs → Follows k (noted upto a) xs
unfolding noted
follows-noted upto a k xs f = record { unissued = f.unissued; unentered = f.unentered; answer = f.answer }

follows-enter : (g : ℕ) (a : TabState) (k : ℕ) (xs : List Part) → Rises 0 a.statuses → a.entered < g → Follows k a xs → Follows k (enter g a) xs
unfolding enter_first enter_later
follows-enter g a k xs rise up f = either (λ b. Follows k b xs) (eqb a.entered 0) (enter_first g a) (enter_later g a)
    (λ e. let none = f.unentered (eqb-true a.entered 0 e) in record {
      unissued = f.unissued;
      unentered = λ _. none;
      answer = subst (Told g (status_of a k)) (sym none) (told-fresh g a.entered (status_of a k) (subst (Told a.entered (status_of a k)) none f.answer));
    })
    (λ e. record {
      unissued = f.unissued;
      unentered = λ zero_is. absurd (omega (arith, zero_is, up));
      answer = told-carried g a.entered (status_of a k) (find (carried a.issued a.statuses) k) xs (carried-of a.issued k 0 a.statuses rise) f.answer;
    })

-- A part that is taken

asked-of : (b : Bool) (o : Option DropReason) → cond b o (Some unheard.Odd) ≡ None → (b ≡ true) × (o ≡ None)
asked-of true o e = (refl, e)
asked-of false o e = cc

fits-of : (x : Part) (came : PartsState) (b c : Bool) → fits x came ≡ b → cond b None (cond c (Some unheard.Twice) (Some unheard.Odd)) ≡ None → fits x came ≡ true
fits-of x came true c e none = e
fits-of x came false true e none = cc
fits-of x came false false e none = cc

come-as : (g : ℕ) (x : Part) (came : PartsState) (xs : List Part) (b : Bool) → is_whole (with_part x came) ≡ b → Collects g (with_part x came) (xs ++ x ∷ []) → x.part < x.parts
    → Told g (Some (cond b (Whole (snapshot_of (with_part x came))) (Querying (with_part x came)))) (xs ++ x ∷ [])
come-as g x came xs true whole h below = (all_came g x came xs h below whole, ap snapshot_of h.gathers)
come-as g x came xs false part h below = record { collects = h; missing = inr part }

come-told : (g : ℕ) (s : Option Status) (x : Part) (xs : List Part) → is_querying s ≡ true → asking_refusal x s ≡ None → x.generation ≡ g → Told g s xs → Told g (Some (with_part_come x (parts_of s))) (xs ++ x ∷ [])
come-told g (Some (Querying came)) x xs e taken same t =
    let fit = fits-of x came (fits x came) _ refl taken in
    come-as g x came xs (is_whole (with_part x came)) refl (one_more g x came xs t.collects fit same) (fits_below x came fit)
come-told g None x xs e taken same t = cc
come-told g (Some Asked) x xs e taken same t = cc
come-told g (Some Held) x xs e taken same t = cc
come-told g (Some (Whole snapshot)) x xs e taken same t = cc
come-told g (Some Lost) x xs e taken same t = cc

follows-come : (x : Part) (a : TabState) (k : ℕ) (xs : List Part) → part_refusal x a ≡ None → has_entered x.generation a ≡ true → eqb x.number k ≡ true → Follows k a xs
    → Follows k (becomes x.number (with_part_come x (parts_of (status_of a x.number))) a) (xs ++ x ∷ [])
unfolding becomes
follows-come x a k xs taken entered is f =
    let same = eqb-true x.number k is in
    let current = is-entered x.generation a entered in
    let asked = asked-of (is_issued a x.number && is_query (operation_of a x.number)) (asking_refusal x (status_of a x.number)) taken in
    let issued = ltb-true x.number (length a.issued) (and_parts (is_issued a x.number) (is_query (operation_of a x.number)) asked.0).0 in
    let s = with_part_come x (parts_of (status_of a x.number)) in
    record {
      unissued = λ le. absurd (omega (arith, le, same, issued));
      unentered = λ none. absurd (omega (arith, none, current.0));
      answer = subst (λ t. Told a.entered t (xs ++ x ∷ [])) (sym (find-becomes x.number s a k ∙ ap (λ b. cond b (Some s) (find a.statuses k)) is))
          (come-told a.entered (status_of a x.number) x xs (not-refused x a taken) asked.1 current.1 (subst (λ n. Told a.entered (status_of a n) xs) (sym same) f.answer));
    }

nil : (k : ℕ) (a : TabState) (xs : List Part) → Follows k a xs → Follows k a (xs ++ [])
nil k a xs f = subst (Follows k a) (sym (append-nil xs)) f

-- The result depends on whether the part is refused, and on whether it is for this number.
entered-part : (x : Part) (a : TabState) (k : ℕ) (xs : List Part) (r : Option DropReason) (b : Bool) → part_refusal x a ≡ r → eqb x.number k ≡ b → has_entered x.generation a ≡ true → Follows k a xs
    → Follows k (cond (is_some r) a (becomes x.number (with_part_come x (parts_of (status_of a x.number))) a)) (xs ++ cond (b && has_entered x.generation a && is_none r) (x ∷ []) [])
entered-part x a k xs (Some reason) b r_is b_is entered f =
    subst (λ c. Follows k a (xs ++ cond c (x ∷ []) [])) (sym (and_right (b && has_entered x.generation a) false refl)) (nil k a xs f)
entered-part x a k xs None false r_is b_is entered f =
    nil k _ xs (follows-becomes x.number (with_part_come x (parts_of (status_of a x.number))) a k xs (λ e. absurd (false≢true (sym b_is ∙ e))) f)
entered-part x a k xs None true r_is b_is entered f =
    subst (λ c. Follows k (becomes x.number (with_part_come x (parts_of (status_of a x.number))) a) (xs ++ cond (c && true) (x ∷ []) [])) (sym entered) (follows-come x a k xs r_is entered b_is f)

-- A part of a generation that the tab has not entered is not taken.
other-part : (x : Part) (a : TabState) (k : ℕ) (xs : List Part) → has_entered x.generation a ≡ false → Follows k a xs
    → Follows k a (xs ++ cond (eqb x.number k && has_entered x.generation a && is_none (part_refusal x a)) (x ∷ []) [])
other-part x a k xs other f =
    subst (λ c. Follows k a (xs ++ cond c (x ∷ []) [])) (sym (not_both (eqb x.number k) (has_entered x.generation a) (is_none (part_refusal x a)) other)) (nil k a xs f)
  where
    not_both : (b c d : Bool) → c ≡ false → (b && c && d) ≡ false
    not_both b true d e = cc
    not_both true false d e = refl
    not_both false false d e = refl

follows-hears : (f : Frame) (a : TabState) (k : ℕ) (xs : List Part) → Rises 0 a.statuses → Follows k a xs → Follows k (delivery f a).0 (xs ++ part_taken k (Hears f) a)
unfolding delivery
follows-hears (frame.Hello x) a k xs rise f =
    either (λ (p : TabState × Delivered). Follows k p.0 (xs ++ [])) (ltb a.entered x.generation) (enter x.generation a, told.Entered (report_frames (enter x.generation a))) (a, told.Dropped unheard.OldGeneration)
    (λ e. nil k (enter x.generation a) xs (follows-enter x.generation a k xs rise (ltb-true a.entered x.generation e) f)) (λ e. nil k a xs f)
follows-hears (frame.Answer x) a k xs rise f =
    either (λ (p : TabState × Delivered). Follows k p.0 (xs ++ [])) (has_entered x.generation a) (noted x.upto (after_answer (told_by_answer x a) a), told_by_answer x a) (a, of_other x.generation a)
    (λ e. nil k _ xs (follows-noted x.upto _ k xs (answered_as (λ b. Follows k b xs) x a (told_by_answer x a) (told_fits x a) f
    (λ o s. follows-becomes x.number Held a k xs (λ is. tt) f)
    (λ j. follows-ended j a k xs f)
    (λ s. follows-becomes x.number Lost a k xs (λ is. not_whole a.entered (status_of a k) xs (subst (λ n. is_querying (status_of a n) ≡ true) (eqb-true x.number k is) s) f.answer) f))))
    (λ e. nil k a xs f)
follows-hears (frame.Snapshot x) a k xs rise f =
    either (λ (p : TabState × Delivered). Follows k p.0 (xs ++ part_taken k (Hears (frame.Snapshot x)) a)) (has_entered x.generation a) (noted (x.number + 1) (after_part x a), told_by_part x a) (a, of_other x.generation a)
    (λ e. follows-noted (x.number + 1) (after_part x a) k (xs ++ part_taken k (Hears (frame.Snapshot x)) a) (entered-part x a k xs (part_refusal x a) (eqb x.number k) refl refl e f))
    (λ e. other-part x a k xs e f)
follows-hears g a k xs rise f = nil k a xs f

follows-step : (a : TabState) (call : Call) (k : ℕ) (xs : List Part) → Rises 0 a.statuses → Follows k a xs → Follows k (step call a) (xs ++ part_taken k call a)
follows-step a (Asks mode i name) k xs rise f =
    nil k _ xs (either (λ b. Follows k b xs) (is_some (ask_refusal a name)) a (asked mode i name a) (λ e. f) (λ e. follows-issue (Request mode i name) Asked a k xs (λ g. tt) f))
follows-step a Queries k xs rise f =
    nil k _ xs (either (λ b. Follows k b xs) (is_some (query_refusal a)) a (queried a) (λ e. f) (λ e. follows-issue Query (Querying no_parts) a k xs (λ g. record { collects = nothing_came g; missing = inl refl }) f))
follows-step a (Tells j) k xs rise f =
    nil k _ xs (either (λ b. Follows k b xs) (is_asking a j) (after_query j a) a (λ e. either (λ b. Follows k b xs) (is_querying (status_of a j)) a (ended j a) (λ e. f) (λ e. follows-ended j a k xs f)) (λ e. f))
follows-step a (Aborts j) k xs rise f =
    nil k _ xs (either (λ b. Follows k b xs) (is_pending a j && is_asked (status_of a j)) (aborted j a) a (λ e. follows-finish (Abort j) j a k xs f) (λ e. f))
follows-step a (Releases j) k xs rise f =
    nil k _ xs (either (λ b. Follows k b xs) (is_holding a j) (released j a) a (λ e. follows-finish (Release j) j a k xs f) (λ e. f))
follows-step a (Hears g) k xs rise f = follows-hears g a k xs rise f

-- Any calls

follows-steps : (n : ℕ) (calls : List Call) (a : TabState) (k : ℕ) (xs : List Part) → Tidy n a → Follows k a xs → Follows k (steps calls a) (xs ++ parts_taken k calls a)
follows-steps n [] a k xs t f = nil k a xs f
follows-steps n (call ∷ calls) a k xs t f =
    subst (Follows k (steps calls (step call a))) (append_assoc xs (part_taken k call a) (parts_taken k calls (step call a)))
    (follows-steps n calls (step call a) k (xs ++ part_taken k call a) (tidy_step n call a t) (follows-step a call k xs t.1.rise f))

pub whole_once_all_came : WholeOnceAllCame
whole_once_all_came in_parts tab n calls k le =
    let first : Follows k (born in_parts tab n) [] = record { unissued = λ _. refl; unentered = λ _. refl; answer = tt } in
    let all = follows-steps n calls (born in_parts tab n) k [] (tidy_born in_parts tab n le) first in
    told-answers _ _ (parts_taken k calls (born in_parts tab n)) all.answer
