-- Lemmas on lanes: one more event, and the end of a lane.
use Rattle.std.proofs.Common.{◌≡◌, ◌+◌, ◌≤◌, ◌⊎◌, ℕ, Bool, true, List, [], ◌∷◌, ◌++◌, length, map, Option, Some, Result, Ok, Err, IfErr, refl, sym, ap, ◌∙◌, subst, append_assoc, append-nil, inl, inr, arith}
use Rattle.std.specs.List.{AllByRecursion, flat_map}
use Rattle.std.proofs.lemmas.List.{length_push}
use Rattle.wl_grammar.specs.declared.frame.Addressed.{Addressed}
use Rattle.wl_grammar.specs.declared.frame.Frame.TheVariants as frame
use Rattle.wl_locked.specs.declared.work.Work.{Work}
use Rattle.wl_locked.specs.declared.receipt.Receipt.{Receipt}
use Rattle.wl_locked.specs.declared.receipt.NotStepped.{NotStepped}
use Rattle.wl_locked.specs.declared.receipt.NotStepped.TheVariants.{GenerationSpent, Memory}
use Rattle.wl_workers.specs.declared.lanes.OutletFault.{OutletFault}
use Rattle.wl_workers.specs.declared.lanes.LaneEndCause.{LaneEndCause}
use Rattle.wl_workers.specs.declared.lanes.LaneEndCause.TheVariants as cause
use Rattle.wl_workers.specs.declared.lanes.TheConstants.{EVENT_LIMIT}
use Rattle.wl_workers.specs.CallRecords.{RecordGrows}
use Rattle.wl_workers.specs.Lane.{Answered, PutOut, as_frames, frames_of, sent_by, receipt_in, all_put, step_of, steps_of, PutsUpTo, IsUnsent, IsUnspent, EndsWith, IsLet, RunsLane, GoesOn}
use Rattle.wl_workers.proofs.ToldLemmas.{Grows-nil, Grows-trans}

map-push : {A B : Type 0} (f : A → B) (xs : List A) (x : A) → map f (xs ++ x ∷ []) ≡ map f xs ++ f x ∷ []
map-push f [] x = refl
map-push f (y ∷ xs) x = ap (λ l. f y ∷ l) (map-push f xs x)

map-append : {A B : Type 0} (f : A → B) (xs ys : List A) → map f (xs ++ ys) ≡ map f xs ++ map f ys
map-append f [] ys = refl
map-append f (x ∷ xs) ys = ap (λ l. f x ∷ l) (map-append f xs ys)

sent-push : (all : List Answered) (a : Answered) → flat_map sent_by (all ++ a ∷ []) ≡ flat_map sent_by all ++ sent_by a
sent-push [] a = append-nil (sent_by a)
sent-push (b ∷ all) a = ap (λ l. sent_by b ++ l) (sent-push all a) ∙ sym (append_assoc (sent_by b) (flat_map sent_by all) (sent_by a))

kept-push : (shard : ℕ) (all : List Answered) (a : Answered) → flat_map (receipt_in shard) (all ++ a ∷ []) ≡ flat_map (receipt_in shard) all ++ receipt_in shard a
kept-push shard [] a = append-nil (receipt_in shard a)
kept-push shard (b ∷ all) a = ap (λ l. receipt_in shard b ++ l) (kept-push shard all a) ∙ sym (append_assoc (receipt_in shard b) (flat_map (receipt_in shard) all) (receipt_in shard a))

steps-push : (all : List Answered) (a : Answered) → steps_of (all ++ a ∷ []) ≡ steps_of all + step_of a
steps-push [] a = omega arith
steps-push (b ∷ all) a = omega (arith, steps-push all a)

steps_at_most : (all : List Answered) → steps_of all ≤ length all
steps_at_most [] = omega arith
steps_at_most ((event, Ok r) ∷ all) = omega (arith, steps_at_most all)
steps_at_most ((event, Err e) ∷ all) = omega (arith, steps_at_most all)

unspent-push : (all : List Answered) (a : Answered) → AllByRecursion IsUnspent all → IsUnspent a → AllByRecursion IsUnspent (all ++ a ∷ [])
unspent-push [] a h here = (here, tt)
unspent-push (b ∷ all) a h here = (h.0, unspent-push all a h.1 here)

kept_last : (k0 k1 k2 : ℕ → Option (List Receipt)) {g0 g1 : Option (List (Option Work))} {d0 d1 : Option (List Answered)} {o0 o1 : Option (List PutOut)} {seen steps : ℕ} (a : Answered) (h : GoesOn g0 g1 d0 d1 k0 k1 o0 o1 seen steps) → ((shard : ℕ) → RecordGrows (k1 shard) (k2 shard) (receipt_in shard a))
    → (shard : ℕ) → RecordGrows (k0 shard) (k2 shard) (flat_map (receipt_in shard) (h.answers ++ a ∷ []))
kept_last k0 k1 k2 {g0} {g1} {d0} {d1} {o0} {o1} {seen} {steps} a h kept shard =
    subst (RecordGrows (k0 shard) (k2 shard)) (sym (kept-push shard h.answers a)) (Grows-trans (k0 shard) (k1 shard) (k2 shard) _ _ (h.kept shard) (kept shard))

-- A lane begins with no works, answers or frames.
pub lane_begins : {g0 : Option (List (Option Work))} {d0 : Option (List Answered)} {k0 : ℕ → Option (List Receipt)} {o0 : Option (List PutOut)} → GoesOn g0 g0 d0 d0 k0 k0 o0 o0 0 0
lane_begins {g0} {d0} {k0} {o0} =
    record {
      answers = [];
      unspent = tt;
      given = Grows-nil g0;
      answered = Grows-nil d0;
      kept = λ shard. Grows-nil (k0 shard);
      put_out = Grows-nil o0;
      counts = refl;
      length_is = refl;
    }

-- A lane goes on after an event whose frames were all sent.
pub lane_goes_on : {g0 g1 g2 : Option (List (Option Work))} {d0 d1 d2 : Option (List Answered)} {k0 k1 k2 : ℕ → Option (List Receipt)} {o0 o1 o2 : Option (List PutOut)} {seen steps : ℕ} (a : Answered) → GoesOn g0 g1 d0 d1 k0 k1 o0 o1 seen steps → IsUnspent a → RecordGrows g1 g2 (Some a.0 ∷ []) → RecordGrows d1 d2 (a ∷ []) → ((shard : ℕ) → RecordGrows (k1 shard) (k2 shard) (receipt_in shard a)) → RecordGrows o1 o2 (all_put (sent_by a))
    → GoesOn g0 g2 d0 d2 k0 k2 o0 o2 (seen + 1) (steps + step_of a)
lane_goes_on {g0} {g1} {g2} {d0} {d1} {d2} {k0} {k1} {k2} {o0} {o1} {o2} {seen} {steps} a h unspent given answered kept put =
    record {
      answers = h.answers ++ a ∷ [];
      unspent = unspent-push h.answers a h.unspent unspent;
      given = subst (RecordGrows g0 g2) (sym (map-push (λ (b : Answered). Some b.0) h.answers a)) (Grows-trans g0 g1 g2 _ _ h.given given);
      answered = Grows-trans d0 d1 d2 _ _ h.answered answered;
      kept = kept_last k0 k1 k2 a h kept;
      put_out = subst (RecordGrows o0 o2) (sym (ap all_put (sent-push h.answers a) ∙ map-append _ (flat_map sent_by h.answers) (sent_by a))) (Grows-trans o0 o1 o2 _ _ h.put_out put);
      counts = ap (λ n. n + step_of a) h.counts ∙ sym (steps-push h.answers a);
      length_is = length_push h.answers a ∙ ap (λ n. n + 1) h.length_is;
    }

-- A lane ends at `EVENT_LIMIT`.
pub lane_at_limit : {g0 g1 : Option (List (Option Work))} {d0 d1 : Option (List Answered)} {k0 k1 : ℕ → Option (List Receipt)} {o0 o1 : Option (List PutOut)} {seen steps : ℕ} → GoesOn g0 g1 d0 d1 k0 k1 o0 o1 seen steps → seen ≡ EVENT_LIMIT → RunsLane g0 g1 d0 d1 k0 k1 o0 o1 (record { steps = steps; why = cause.Spent })
lane_at_limit {g0} {g1} {d0} {d1} {k0} {k1} {o0} {o1} {seen} {steps} h limit =
    record {
      answers = h.answers;
      put = all_put (flat_map sent_by h.answers);
      given = subst (RecordGrows g0 g1) (sym (append-nil (map (λ (b : Answered). Some b.0) h.answers))) h.given;
      answered = h.answered;
      kept = h.kept;
      put_out = h.put_out;
      steps = h.counts;
      ends = (refl, inr (h.unspent, h.length_is ∙ limit));
    }

given_last : (g0 g1 g2 : Option (List (Option Work))) {d0 d1 : Option (List Answered)} {k0 k1 : ℕ → Option (List Receipt)} {o0 o1 : Option (List PutOut)} {seen steps : ℕ} (a : Answered) (h : GoesOn g0 g1 d0 d1 k0 k1 o0 o1 seen steps) → RecordGrows g1 g2 (Some a.0 ∷ []) → RecordGrows g0 g2 (map (λ (b : Answered). Some b.0) (h.answers ++ a ∷ []) ++ [])
given_last g0 g1 g2 {d0} {d1} {k0} {k1} {o0} {o1} {seen} {steps} a h given =
    subst (RecordGrows g0 g2) (sym (append-nil (map (λ (b : Answered). Some b.0) (h.answers ++ a ∷ [])) ∙ map-push (λ (b : Answered). Some b.0) h.answers a)) (Grows-trans g0 g1 g2 _ _ h.given given)

ends_with : {g0 g1 : Option (List (Option Work))} {d0 d1 : Option (List Answered)} {k0 k1 : ℕ → Option (List Receipt)} {o0 o1 : Option (List PutOut)} {seen steps : ℕ} (a : Answered) (h : GoesOn g0 g1 d0 d1 k0 k1 o0 o1 seen steps) → EndsWith (h.answers ++ a ∷ []) h.answers a
ends_with {g0} {g1} {d0} {d1} {k0} {k1} {o0} {o1} {seen} {steps} a h = record { are = refl; unspent = h.unspent }

-- A lane ends when its generation is spent.
pub lane_spent : {g0 g1 g2 : Option (List (Option Work))} {d0 d1 d2 : Option (List Answered)} {k0 k1 k2 : ℕ → Option (List Receipt)} {o0 o1 : Option (List PutOut)} {seen steps : ℕ} (event : Work) → GoesOn g0 g1 d0 d1 k0 k1 o0 o1 seen steps → RecordGrows g1 g2 (Some event ∷ []) → RecordGrows d1 d2 ((event, Err GenerationSpent) ∷ []) → ((shard : ℕ) → RecordGrows (k1 shard) (k2 shard) [])
    → RunsLane g0 g2 d0 d2 k0 k2 o0 o1 (record { steps = steps; why = cause.Spent })
lane_spent {g0} {g1} {g2} {d0} {d1} {d2} {k0} {k1} {k2} {o0} {o1} {seen} {steps} event h given answered kept =
    let a : Answered = (event, Err GenerationSpent) in
    record {
      answers = h.answers ++ a ∷ [];
      put = all_put (flat_map sent_by h.answers);
      given = given_last g0 g1 g2 a h given;
      answered = Grows-trans d0 d1 d2 _ _ h.answered answered;
      kept = kept_last k0 k1 k2 a h kept;
      put_out = h.put_out;
      steps = h.counts ∙ sym (steps-push h.answers a ∙ omega arith);
      ends = (ap all_put (sym (sent-push h.answers a ∙ append-nil (flat_map sent_by h.answers))), inl (h.answers, event, ends_with a h));
    }

-- A lane ends when its gate is shut.
lane_shut : {g0 g1 g2 : Option (List (Option Work))} {d0 d1 d2 : Option (List Answered)} {k0 k1 k2 : ℕ → Option (List Receipt)} {o0 o1 : Option (List PutOut)} {seen steps : ℕ} (event : Work) (receipt : Receipt) → GoesOn g0 g1 d0 d1 k0 k1 o0 o1 seen steps → RecordGrows g1 g2 (Some event ∷ []) → RecordGrows d1 d2 ((event, Ok receipt) ∷ []) → ((shard : ℕ) → RecordGrows (k1 shard) (k2 shard) (receipt_in shard (event, Ok receipt)))
    → RunsLane g0 g2 d0 d2 k0 k2 o0 o1 (record { steps = steps + 1; why = cause.Shut })
lane_shut {g0} {g1} {g2} {d0} {d1} {d2} {k0} {k1} {k2} {o0} {o1} {seen} {steps} event receipt h given answered kept =
    let a : Answered = (event, Ok receipt) in
    record {
      answers = h.answers ++ a ∷ [];
      put = all_put (flat_map sent_by h.answers);
      given = given_last g0 g1 g2 a h given;
      answered = Grows-trans d0 d1 d2 _ _ h.answered answered;
      kept = kept_last k0 k1 k2 a h kept;
      put_out = h.put_out;
      steps = ap (λ n. n + 1) h.counts ∙ sym (steps-push h.answers a);
      ends = (h.answers, event, receipt, ends_with a h, refl);
    }

-- A lane ends when its outlet refuses a frame.
lane_refused : {g0 g1 g2 : Option (List (Option Work))} {d0 d1 d2 : Option (List Answered)} {k0 k1 k2 : ℕ → Option (List Receipt)} {o0 o1 o2 : Option (List PutOut)} {seen steps : ℕ} (event : Work) (receipt : Receipt) (fault : OutletFault) → GoesOn g0 g1 d0 d1 k0 k1 o0 o1 seen steps → RecordGrows g1 g2 (Some event ∷ []) → RecordGrows d1 d2 ((event, Ok receipt) ∷ []) → ((shard : ℕ) → RecordGrows (k1 shard) (k2 shard) (receipt_in shard (event, Ok receipt)))
    → PutsUpTo o1 o2 (frames_of receipt.reply) fault → RunsLane g0 g2 d0 d2 k0 k2 o0 o2 (record { steps = steps + 1; why = cause.Outlet })
lane_refused {g0} {g1} {g2} {d0} {d1} {d2} {k0} {k1} {k2} {o0} {o1} {o2} {seen} {steps} event receipt fault h given answered kept p =
    let a : Answered = (event, Ok receipt) in
    record {
      answers = h.answers ++ a ∷ [];
      put = all_put (flat_map sent_by h.answers) ++ (all_put p.front ++ (p.refused, Err fault) ∷ []);
      given = given_last g0 g1 g2 a h given;
      answered = Grows-trans d0 d1 d2 _ _ h.answered answered;
      kept = kept_last k0 k1 k2 a h kept;
      put_out = Grows-trans o0 o1 o2 _ _ h.put_out p.put;
      steps = ap (λ n. n + 1) h.counts ∙ sym (steps-push h.answers a);
      ends = (h.answers, event, receipt, ends_with a h, (fault, p.front, p.refused, p.rest, p.are, refl));
    }

-- A lane ends if the frames of its last step are not all sent.
pub lane_unsent : {g0 g1 g2 : Option (List (Option Work))} {d0 d1 d2 : Option (List Answered)} {k0 k1 k2 : ℕ → Option (List Receipt)} {o0 o1 o2 : Option (List PutOut)} {seen steps : ℕ} (event : Work) (receipt : Receipt) (why : LaneEndCause) → GoesOn g0 g1 d0 d1 k0 k1 o0 o1 seen steps → RecordGrows g1 g2 (Some event ∷ []) → RecordGrows d1 d2 ((event, Ok receipt) ∷ []) → ((shard : ℕ) → RecordGrows (k1 shard) (k2 shard) (receipt_in shard (event, Ok receipt)))
    → IsUnsent why o1 o2 receipt.reply → RunsLane g0 g2 d0 d2 k0 k2 o0 o2 (record { steps = steps + 1; why = why })
lane_unsent {g0} {g1} {g2} {d0} {d1} {d2} {k0} {k1} {k2} {o0} {o1} {o2} {seen} {steps} event receipt cause.Ended h given answered kept unsent = absurd unsent
lane_unsent {g0} {g1} {g2} {d0} {d1} {d2} {k0} {k1} {k2} {o0} {o1} {o2} {seen} {steps} event receipt cause.Spent h given answered kept unsent = absurd unsent
lane_unsent {g0} {g1} {g2} {d0} {d1} {d2} {k0} {k1} {k2} {o0} {o1} {o2} {seen} {steps} event receipt cause.Shut h given answered kept unsent = subst (λ o. RunsLane g0 g2 d0 d2 k0 k2 o0 o (record { steps = steps + 1; why = cause.Shut })) (sym unsent) (lane_shut event receipt h given answered kept)
lane_unsent {g0} {g1} {g2} {d0} {d1} {d2} {k0} {k1} {k2} {o0} {o1} {o2} {seen} {steps} event receipt cause.Outlet h given answered kept unsent = lane_refused event receipt unsent.0 h given answered kept unsent.1

-- A lane makes at most as many steps as it takes events.
pub steps_within : {g0 g1 : Option (List (Option Work))} {d0 d1 : Option (List Answered)} {k0 k1 : ℕ → Option (List Receipt)} {o0 o1 : Option (List PutOut)} {seen steps : ℕ} → GoesOn g0 g1 d0 d1 k0 k1 o0 o1 seen steps → steps ≤ seen
steps_within {g0} {g1} {d0} {d1} {k0} {k1} {o0} {o1} {seen} {steps} h = omega (arith, h.counts, h.length_is, steps_at_most h.answers)

-- A step and an event lost for lack of memory do not report a spent generation.
pub step_unspent : (event : Work) (receipt : Receipt) → IsUnspent (event, Ok receipt)
step_unspent event receipt e =
    let step : Result Receipt NotStepped = Ok receipt in
    let spent : Result Receipt NotStepped = Err GenerationSpent in
    let k : step ≡ spent = e in cc

pub lost_unspent : (event : Work) → IsUnspent (event, Err Memory)
lost_unspent event e =
    let lost : Result Receipt NotStepped = Err Memory in
    let spent : Result Receipt NotStepped = Err GenerationSpent in
    let k : lost ≡ spent = e in cc

-- Sending frames

-- One more frame is sent.
pub put_one : (a b c : Option (List PutOut)) (done : List Addressed) (out : Addressed) (r : Result (Unit {0}) OutletFault) → RecordGrows a b (all_put (as_frames done))
    → RecordGrows b c ((frame.Addressed out, r) ∷ []) → r ≡ Ok tt → RecordGrows a c (all_put (as_frames (done ++ out ∷ [])))
put_one a b c done out r before one ok =
    let same : all_put (as_frames (done ++ out ∷ [])) ≡ all_put (as_frames done) ++ (frame.Addressed out, Ok tt) ∷ [] = ap all_put (map-push _ done out) ∙ map-push _ (as_frames done) (frame.Addressed out) in
    subst (RecordGrows a c) (sym same) (Grows-trans a b c _ _ before (subst (λ s. RecordGrows b c ((frame.Addressed out, s) ∷ [])) ok one))

-- All frames are sent.
pub put_whole : (a b : Option (List PutOut)) (outs done rest : List Addressed) → outs ≡ done ++ rest → rest ≡ [] → RecordGrows a b (all_put (as_frames done)) → RecordGrows a b (all_put (as_frames outs))
put_whole a b outs done rest split none h =
    subst (λ l. RecordGrows a b (all_put (as_frames l))) (sym (split ∙ ap (λ l. done ++ l) none ∙ append-nil done)) h

-- A single frame is sent or refused.
pub put_alone : (a b : Option (List PutOut)) (out : Addressed) (r : Result (Unit {0}) OutletFault) → RecordGrows a b ((frame.Addressed out, r) ∷ [])
    → IfErr r (λ fault. PutsUpTo a b (as_frames (out ∷ [])) fault)
put_alone a b out (Ok done) grown = tt
put_alone a b out (Err fault) grown = record { front = []; refused = frame.Addressed out; rest = []; are = refl; put = grown }

-- The next frame is refused.
pub put_refused : (a b c : Option (List PutOut)) (outs done rest : List Addressed) (out : Addressed) (r : Result (Unit {0}) OutletFault) (fault : OutletFault) → outs ≡ done ++ out ∷ rest
    → RecordGrows a b (all_put (as_frames done)) → RecordGrows b c ((frame.Addressed out, r) ∷ []) → r ≡ Err fault → PutsUpTo a c (as_frames outs) fault
put_refused a b c outs done rest out r fault split before one refused =
    record {
      front = as_frames done;
      refused = frame.Addressed out;
      rest = as_frames rest;
      are = ap as_frames split ∙ map-append _ done (out ∷ rest);
      put = Grows-trans a b c _ _ before (subst (λ s. RecordGrows b c ((frame.Addressed out, s) ∷ [])) refused one);
    }

-- Passing the gate

-- A step whose frames were sent was let pass.
pub sent_is_let : {lets : Bool} {u : Unit {0}} → (◌≡◌ {A = Result (Unit {0}) LaneEndCause} (Ok u) (Err cause.Shut)) ⊎ (lets ≡ true) → lets ≡ true
sent_is_let {lets} {u} (inl shut) =
    let sent : Result (Unit {0}) LaneEndCause = Ok u in
    let unsent : Result (Unit {0}) LaneEndCause = Err cause.Shut in
    let k : sent ≡ unsent = shut in cc
sent_is_let {lets} {u} (inr is) = is

-- A lane that ends was let pass or has made no step.
pub ended_is_let : {lets : Bool} {steps : ℕ} (why : LaneEndCause) → (lets ≡ true) ⊎ (steps ≡ 0) → IsLet lets (record { steps = steps; why = why })
ended_is_let {lets} {steps} why (inl is) = inl is
ended_is_let {lets} {steps} why (inr none) = inr (inl none)

-- A lane whose last step was not sent was let pass before, or made that step only.
pub unsent_is_let : {lets : Bool} {steps : ℕ} (why : LaneEndCause) → (lets ≡ true) ⊎ (steps ≡ 0) → (◌≡◌ {A = Result (Unit {0}) LaneEndCause} (Err why) (Err cause.Shut)) ⊎ (lets ≡ true) → IsLet lets (record { steps = steps + 1; why = why })
unsent_is_let {lets} {steps} why h (inr is) = inl is
unsent_is_let {lets} {steps} why (inl is) (inl shut) = inl is
unsent_is_let {lets} {steps} why (inr none) (inl shut) =
    let one : Result (Unit {0}) LaneEndCause = Err why in
    let other : Result (Unit {0}) LaneEndCause = Err cause.Shut in
    let k : one ≡ other = shut in
    let is : why ≡ cause.Shut = cc in
    inr (inr (ap (λ n. n + 1) none, is))
