-- Lemmas on the desk's steps: over one frame, a list of frames and a piece of input.
use Rattle.std.proofs.Common.{◌≡◌, ◌≢◌, ℕ, ◌+◌, ◌<◌, nat_eq, length, get_or, drop, List, [], ◌∷◌, ◌++◌, Bool, true, false, Option, Some, None, Result, Ok, Err, IfOk, OnErr, MatchResult, refl, sym, ap, subst, ◌∙◌, append_assoc, append-nil, arith}
use Rattle.std.specs.Option.{is_some}
use Rattle.std.specs.List.{AllByRecursion}
use Rattle.std.proofs.lemmas.List.{drop_more}
use Rattle.std.proofs.lemmas.List.Concat.{flat_map-append}
use Rattle.wl_grammar.specs.declared.frame.Addressed.{Addressed}
use Rattle.wl_grammar.specs.declared.frame.Dead.{Dead}
use Rattle.wl_grammar.specs.declared.frame.Frame.{Frame}
use Rattle.wl_grammar.specs.declared.frame.Frame.TheVariants as frame
use Rattle.wl_grammar.specs.declared.frame.Stamped.{Stamped}
use Rattle.wl_grammar.specs.declared.frame.Start.{Start}
use Rattle.wl_grammar.specs.Grammar.{IsWellFormed, IsStart, IsStamped, IsDead, IsAddressed, spelling}
use Rattle.wl_broker.specs.declared.dropped.Dropped.{Dropped}
use Rattle.wl_broker.specs.declared.dropped.Dropped.TheVariants as dropped
use Rattle.wl_broker.specs.Broker.{BrokerState, started, hellos, Taking, Does, Drops, taking, death_step}
use Rattle.wl_broker.specs.SentFrames.{IsSpellable}
use Rattle.wl_workers.specs.declared.desk.DeskFault.{DeskFault}
use Rattle.wl_workers.specs.declared.desk.DeskFault.TheVariants as desk
use Rattle.wl_grammar.specs.Prefixes.{IsPrefixOf}
use Rattle.wl_workers.specs.Desk.{DeskState, Opening, Serving, Refused, taken, desk_step, desk_after, desk_outs, IsServing, IsRefused}
use Rattle.wl_workers.specs.DeskSteps.{state_of, IsSpeaking, spelled, due, IsBegun, Steps, Spells, Deals}
use Rattle.wl_broker.proofs.Speech.{spells_start, spells_taking, spells_burial}
use Rattle.wl_grammar.proofs.Prefixes.{IsPrefixOf-append, append-IsPrefixOf, IsPrefixOf-trans}

-- One frame

-- A desk without a broker is in its opening state.
pub opening_of : (o : Option BrokerState) (d : DeskState) → state_of o ≡ d → o ≡ None → d ≡ Opening
opening_of o d e none = sym e ∙ ap state_of none

pub serving_of : (o : Option BrokerState) (b : BrokerState) (d : DeskState) → state_of o ≡ d → o ≡ Some b → d ≡ Serving b
serving_of o b d e some = sym e ∙ ap state_of some

pub broker_of_none : (o : Option BrokerState) → false ≡ is_some o → o ≡ None
broker_of_none None e = refl
broker_of_none (Some b) e = cc

pub step_started : (s : Start) → desk_step Opening (frame.Start s) ≡ (Serving (started s.generation s.list), hellos s.generation s.list)
unfolding desk_step
step_started s = refl

pub step_started_twice : (b : BrokerState) (s : Start) → desk_step (Serving b) (frame.Start s) ≡ (Refused, [])
unfolding desk_step
step_started_twice b s = refl

pub twice_started : (o : Option BrokerState) (d : DeskState) (s : Start) → state_of o ≡ d → true ≡ is_some o → desk_step d (frame.Start s) ≡ (Refused, [])
twice_started None d s e h = cc
twice_started (Some b) d s e h = ap (λ x. desk_step x (frame.Start s)) (sym e) ∙ step_started_twice b s

pub started_by : (d : DeskState) (s : Start) (list : List (ℕ × ℕ)) (b : BrokerState) (outs : List Addressed) → d ≡ Opening → list ≡ s.list
    → b ≡ started s.generation list → outs ≡ hellos s.generation list → desk_step d (frame.Start s) ≡ (Serving b, outs)
started_by d s list b outs opening e p q =
    ap (λ x. desk_step x (frame.Start s)) opening ∙ step_started s
    ∙ ap (λ l. let pair : DeskState × List Addressed = (Serving (started s.generation l), hellos s.generation l) in pair) (sym e)
    ∙ sym (let both : (Serving b, outs) ≡ (Serving (started s.generation list), hellos s.generation list) = cc in both)

pub step_taken : (b after : BrokerState) (s : Stamped) (outs : List Addressed) → taking b s ≡ Does after outs → desk_step (Serving b) (frame.Stamped s) ≡ (Serving after, outs)
unfolding desk_step
step_taken b after s outs e = ap (taken b) e

pub step_dropped : (b : BrokerState) (s : Stamped) (reason : Dropped) → taking b s ≡ Drops reason → desk_step (Serving b) (frame.Stamped s) ≡ (Serving b, [])
unfolding desk_step
step_dropped b s reason e = ap (taken b) e

pub step_stamped_early : (s : Stamped) → desk_step Opening (frame.Stamped s) ≡ (Refused, [])
unfolding desk_step
step_stamped_early s = refl

pub step_dead : (b after : BrokerState) (d : Dead) (outs : List Addressed) → death_step b d.tab ≡ (after, outs) → desk_step (Serving b) (frame.Dead d) ≡ (Serving after, outs)
unfolding desk_step
step_dead b after d outs e =
    ap (λ (r : BrokerState × List Addressed). let pair : DeskState × List Addressed = (Serving r.0, r.1) in pair) e

pub step_dead_early : (d : Dead) → desk_step Opening (frame.Dead d) ≡ (Refused, [])
unfolding desk_step
step_dead_early d = refl

-- A dropped message leaves the broker unchanged and sends nothing.
pub step_unanswered : (b after : BrokerState) (d : DeskState) (s : Stamped) (reason : Dropped) (r : Result (List Addressed) DeskFault) → d ≡ Serving b → after ≡ b
    → (reason ≢ dropped.Memory → taking b s ≡ Drops reason) → MatchResult r (λ outs. (outs ≡ []) × (reason ≢ dropped.Memory)) (λ e. e ≡ desk.Memory)
    → Steps d (frame.Stamped s) (Serving after) r
step_unanswered b after d s reason (Ok outs) serving same drops h = (
  ap (λ x. desk_step x (frame.Stamped s)) serving
      ∙ step_dropped b s reason (drops h.1)
      ∙ (let both : (Serving b, []) ≡ (Serving after, outs) = cc (sym same, sym h.0) in both),
  tt,
)
step_unanswered b after d s reason (Err e) serving same drops h = subst (λ x. Steps d (frame.Stamped s) (Serving after) (Err x)) (sym h) tt

-- Any other frame is unexpected.
pub step_other : (d : DeskState) (f : Frame) → ((s : Start) → f ≡ frame.Start s → ⊥) → ((s : Stamped) → f ≡ frame.Stamped s → ⊥) → ((x : Dead) → f ≡ frame.Dead x → ⊥)
    → desk_step d f ≡ (Refused, [])
unfolding desk_step
step_other d (frame.Start s) no_start no_stamped no_dead = absurd (no_start s refl)
step_other d (frame.Stamped s) no_start no_stamped no_dead = absurd (no_stamped s refl)
step_other d (frame.Dead x) no_start no_stamped no_dead = absurd (no_dead x refl)
step_other Opening _ no_start no_stamped no_dead = refl
step_other (Serving b) _ no_start no_stamped no_dead = refl
step_other Refused f no_start no_stamped no_dead = refl

-- After an unexpected frame, every frame is unexpected.
pub step_refused : (f : Frame) → desk_step Refused f ≡ (Refused, [])
unfolding desk_step
step_refused f = refl

-- Frames that the broker sends can be encoded

pub speaking_of : (o : Option BrokerState) (b : BrokerState) → o ≡ Some b → IsSpeaking (state_of o) → IsSpellable b
speaking_of o b e h = subst (λ x. IsSpeaking (state_of x)) e h

pub started_spells : (s : Start) (list : List (ℕ × ℕ)) (outs : List Addressed) → IsStart s → list ≡ s.list → outs ≡ hellos s.generation list → AllByRecursion IsAddressed outs
started_spells s list outs start e q =
    subst (AllByRecursion IsAddressed) (sym (q ∙ ap (hellos s.generation) e)) (spells_start s.generation s.list start.generation start.places).1

pub taking_spells : (b after : BrokerState) (s : Stamped) (r : Result (List Addressed) Dropped) → IsSpellable b → IsStamped s
    → IfOk r (λ outs. taking b s ≡ Does after outs) → OnErr r (after ≡ b) → IsSpellable after × IfOk r (AllByRecursion IsAddressed)
taking_spells b after s (Ok outs) known stamped does err = spells_taking b s after outs known stamped does
taking_spells b after s (Err e) known stamped does err = (subst IsSpellable (sym err) known, tt)

pub burial_spells : (b after : BrokerState) (d : Dead) (outs : List Addressed) → IsSpellable b → IsDead d → death_step b d.tab ≡ (after, outs)
    → IsSpellable after × AllByRecursion IsAddressed outs
burial_spells b after d outs known dead e =
    subst (λ (r : BrokerState × List Addressed). IsSpellable r.0 × AllByRecursion IsAddressed r.1) e (spells_burial b d.tab known dead)

pub unanswered_spells : (reason : Dropped) (r : Result (List Addressed) DeskFault) → MatchResult r (λ outs. (outs ≡ []) × (reason ≢ dropped.Memory)) (λ e. e ≡ desk.Memory)
    → IfOk r (AllByRecursion IsAddressed)
unanswered_spells reason (Ok outs) h = subst (AllByRecursion IsAddressed) (sym h.0) tt
unanswered_spells reason (Err e) h = tt

-- Lists of frames

pub after_refused : (fs : List Frame) → desk_after Refused fs ≡ Refused
after_refused [] = refl
after_refused (f ∷ fs) = ap (λ (r : DeskState × List Addressed). desk_after r.0 fs) (step_refused f) ∙ after_refused fs

pub outs_refused : (fs : List Frame) → desk_outs Refused fs ≡ []
outs_refused [] = refl
outs_refused (f ∷ fs) = ap (λ (r : DeskState × List Addressed). r.1 ++ desk_outs r.0 fs) (step_refused f) ∙ outs_refused fs

pub desk_after-append : (d : DeskState) (fs gs : List Frame) → desk_after d (fs ++ gs) ≡ desk_after (desk_after d fs) gs
desk_after-append d [] gs = refl
desk_after-append d (f ∷ fs) gs = desk_after-append (desk_step d f).0 fs gs

pub desk_outs-append : (d : DeskState) (fs gs : List Frame) → desk_outs d (fs ++ gs) ≡ desk_outs d fs ++ desk_outs (desk_after d fs) gs
desk_outs-append d [] gs = refl
desk_outs-append d (f ∷ fs) gs =
    ap (λ l. (desk_step d f).1 ++ l) (desk_outs-append (desk_step d f).0 fs gs) ∙ sym (append_assoc (desk_step d f).1 _ _)

pub due-append : (d : DeskState) (fs gs : List Frame) → due d (fs ++ gs) ≡ due d fs ++ due (desk_after d fs) gs
due-append d fs gs = ap spelled (desk_outs-append d fs gs) ∙ flat_map-append (λ a. spelling (frame.Addressed a)) (desk_outs d fs) (desk_outs (desk_after d fs) gs)

-- The output for a list of frames is the output for the first one followed by that for the others.
pub due-cons : (d new : DeskState) (f : Frame) (fs : List Frame) (outs : List Addressed) → desk_step d f ≡ (new, outs) → due d (f ∷ fs) ≡ spelled outs ++ due new fs
due-cons d new f fs outs e =
    ap (λ (r : DeskState × List Addressed). spelled (r.1 ++ desk_outs r.0 fs)) e
    ∙ flat_map-append (λ a. spelling (frame.Addressed a)) outs (desk_outs new fs)

pub desk_after-cons : (d new : DeskState) (f : Frame) (fs : List Frame) (outs : List Addressed) → desk_step d f ≡ (new, outs) → desk_after d (f ∷ fs) ≡ desk_after new fs
desk_after-cons d new f fs outs e = ap (λ (r : DeskState × List Addressed). desk_after r.0 fs) e

-- An unexpected frame refuses all frames after it.
pub after_unexpected : (d : DeskState) (f : Frame) (fs : List Frame) → desk_step d f ≡ (Refused, []) → IsRefused (desk_after d (f ∷ fs))
after_unexpected d f fs e = subst IsRefused (sym (desk_after-cons d Refused f fs [] e ∙ after_refused fs)) tt

pub due_unexpected : (d : DeskState) (f : Frame) (fs : List Frame) → desk_step d f ≡ (Refused, []) → due d (f ∷ fs) ≡ []
due_unexpected d f fs e = due-cons d Refused f fs [] e ∙ ap spelled (outs_refused fs)

-- A broker's decision never returns the desk to its opening state.
past_taken : (b : BrokerState) (t : Taking) → (taken b t).0 ≡ Opening → ⊥
past_taken b (Drops reason) e = cc
past_taken b (Does after outs) e = cc

past_step : (d : DeskState) (f : Frame) → (desk_step d f).0 ≡ Opening → ⊥
unfolding desk_step
past_step (Serving b) (frame.Stamped x) e = past_taken b (taking b x) e
past_step Opening (frame.Start s) e = cc
past_step Opening _ e = cc
past_step (Serving b) _ e = cc
past_step Refused f e = cc

past_after : (fs : List Frame) (d : DeskState) → (d ≡ Opening → ⊥) → desk_after d fs ≡ Opening → ⊥
past_after [] d past e = past e
past_after (f ∷ fs) d past e = past_after fs (desk_step d f).0 (past_step d f) e

pub frames_before_opening : (fs : List Frame) → Opening ≡ desk_after Opening fs → fs ≡ []
frames_before_opening [] e = refl
frames_before_opening (f ∷ fs) e = absurd (past_after fs (desk_step Opening f).0 (past_step Opening f) (sym e))

-- Encoding frames to tabs in order

pub outs_more : (all rest more : List Addressed) (a : Addressed) (done piece : List ℕ) → rest ≡ a ∷ more → done ++ spelled rest ≡ spelled all → piece ≡ spelling (frame.Addressed a)
    → done ++ piece ++ spelled more ≡ spelled all
outs_more all rest more a done piece e h p =
    append_assoc done piece (spelled more) ∙ ap (λ l. done ++ (l ++ spelled more)) p ∙ ap (λ l. done ++ spelled l) (sym e) ∙ h

-- Answering frames in order

not_refused : (d : DeskState) → IsServing d → IsRefused d → ⊥
not_refused Opening s r = s
not_refused (Serving b) s r = r
not_refused Refused s r = s

-- Helper: the output so far, followed by the output for the remaining frames, is the output for all
-- frames.
pub record Leaves (first now : DeskState) (all rest : List Frame) (output : List ℕ) : Type 0 where
  pub is_open : IsRefused now → ⊥
  pub formed : AllByRecursion IsWellFormed rest
  pub after : desk_after now rest ≡ desk_after first all
  pub output_is : output ++ due now rest ≡ due first all

pub Leaves-start : (d : DeskState) (all : List Frame) → (IsRefused d → ⊥) → AllByRecursion IsWellFormed all → Leaves d d all all []
Leaves-start d all is_open formed = record { is_open = is_open; formed = formed; after = refl; output_is = refl }

pub Leaves-more : (first now new : DeskState) (all rest more : List Frame) (f : Frame) (outs : List Addressed) (output piece : List ℕ) → Leaves first now all rest output → rest ≡ f ∷ more
    → Steps now f new (Ok outs) → piece ≡ spelled outs → Leaves first new all more (output ++ piece)
Leaves-more first now new all rest more f outs output piece h e step p = record {
  is_open = not_refused new step.1;
  formed = (subst (AllByRecursion IsWellFormed) e h.formed).1;
  after = sym (desk_after-cons now new f more outs step.0) ∙ ap (desk_after now) (sym e) ∙ h.after;
  output_is =
      append_assoc output piece (due new more)
      ∙ ap (λ l. output ++ (l ++ due new more)) p
      ∙ ap (λ l. output ++ l) (sym (due-cons now new f more outs step.0))
      ∙ ap (λ l. output ++ due now l) (sym e)
      ∙ h.output_is;
}

pub Leaves-formed : (first now : DeskState) (all rest more : List Frame) (f : Frame) (output : List ℕ) → Leaves first now all rest output → rest ≡ f ∷ more → IsWellFormed f
Leaves-formed first now all rest more f output h e = (subst (AllByRecursion IsWellFormed) e h.formed).0

pub Leaves-end : (first now : DeskState) (all rest : List Frame) (output : List ℕ) → Leaves first now all rest output → rest ≡ [] → Deals first all now (Ok tt) output
Leaves-end first now all rest output h e = (
  ap (desk_after now) (sym e) ∙ h.after,
  h.is_open,
  sym (append-nil output) ∙ ap (λ l. output ++ due now l) (sym e) ∙ h.output_is,
)

-- If a frame is not answered, the whole list fails with the same fault.
pub answer_fails : (first now new last : DeskState) (all rest more : List Frame) (f : Frame) (output : List ℕ) (e : DeskFault) → Leaves first now all rest output → rest ≡ f ∷ more
    → Steps now f new (Err e) → Deals first all last (Err e) output
answer_fails first now new last all rest more f output (desk.Frame x) h e step = step
answer_fails first now new last all rest more f output desk.Unexpected h e step = (
  subst IsRefused (ap (desk_after now) (sym e) ∙ h.after) (after_unexpected now f more step),
  sym (append-nil output) ∙ ap (λ l. output ++ l) (sym (due_unexpected now f more step)) ∙ ap (λ l. output ++ due now l) (sym e) ∙ h.output_is,
)
answer_fails first now new last all rest more f output desk.Read h e step = step
answer_fails first now new last all rest more f output desk.Write h e step = absurd step
answer_fails first now new last all rest more f output desk.TooManyReads h e step = step
answer_fails first now new last all rest more f output desk.Memory h e step = (due now rest, sym h.output_is)

-- A prefix of the next frame's answer, after the earlier answers, is a prefix of the full output.
begun_is_front : (first now : DeskState) (all rest more : List Frame) (f : Frame) (written before after : List ℕ) → Leaves first now all rest (written ++ before) → rest ≡ f ∷ more
    → IsBegun before (due now (f ∷ [])) after → IsPrefixOf (written ++ after) (due first all)
begun_is_front first now all rest more f written before after h e (piece, p, q) =
    let whole : due now rest ≡ due now (f ∷ []) ++ due (desk_step now f).0 more = ap (due now) e ∙ due-append now (f ∷ []) more in
    let ahead = IsPrefixOf-append piece _ (due (desk_step now f).0 more) q in
    let all_front = append-IsPrefixOf (written ++ before) piece _ ahead in
    subst (λ l. IsPrefixOf l (due first all)) (append_assoc written before piece ∙ ap (λ l. written ++ l) (sym p))
    (subst (IsPrefixOf ((written ++ before) ++ piece)) (ap (λ l. (written ++ before) ++ l) (sym whole) ∙ h.output_is) all_front)

-- An answered frame's encoding follows the earlier output.
pub Leaves-spelled : (first now new : DeskState) (all rest more : List Frame) (f : Frame) (written before after : List ℕ) → Leaves first now all rest (written ++ before) → rest ≡ f ∷ more
    → Spells now f new before after (Ok tt) → Leaves first new all more (written ++ after)
Leaves-spelled first now new all rest more f written before after h e (outs, step, serving, p) =
    subst (Leaves first new all more) (append_assoc written before (spelled outs) ∙ ap (λ l. written ++ l) (sym p))
    (Leaves-more first now new all rest more f outs (written ++ before) (spelled outs) h e (step, serving) refl)

-- A frame without a fault was answered.
pub answered_unless : (now new : DeskState) (f : Frame) (before after : List ℕ) (r : Result (Unit {0}) DeskFault) → Spells now f new before after r
    → ((e : DeskFault) → r ≡ Err e → ⊥) → Spells now f new before after (Ok tt)
answered_unless now new f before after (Ok done) spells otherwise = spells
answered_unless now new f before after (Err e) spells otherwise = absurd (otherwise e refl)

-- Writing a bundle keeps the invariant.
pub Leaves-bundled : (first now : DeskState) (all rest : List Frame) (written before piece after : List ℕ) → Leaves first now all rest (written ++ before) → before ≡ piece ++ after
    → Leaves first now all rest ((written ++ piece) ++ after)
Leaves-bundled first now all rest written before piece after h e =
    subst (Leaves first now all rest) (ap (λ l. written ++ l) e ∙ sym (append_assoc written piece after)) h

-- If a frame is not answered, the gathered bytes are written.
pub spelling_fails : (first now new last : DeskState) (all rest more : List Frame) (f : Frame) (written before after : List ℕ) (e : DeskFault) → Leaves first now all rest (written ++ before)
    → rest ≡ f ∷ more → Spells now f new before after (Err e) → Deals first all last (Err e) (written ++ after)
spelling_fails first now new last all rest more f written before after (desk.Frame x) h e step = step
spelling_fails first now new last all rest more f written before after desk.Unexpected h e step =
    rw (step.1) (answer_fails first now new last all rest more f (written ++ before) desk.Unexpected h e step.0)
spelling_fails first now new last all rest more f written before after desk.Read h e step = step
spelling_fails first now new last all rest more f written before after desk.Write h e step = absurd step
spelling_fails first now new last all rest more f written before after desk.TooManyReads h e step = step
spelling_fails first now new last all rest more f written before after desk.Memory h e step = begun_is_front first now all rest more f written before after h e step

-- If a frame is not answered, the gathered bytes are a prefix of the full output.
spelled_is_front : (first now new : DeskState) (all rest more : List Frame) (f : Frame) (written before after : List ℕ) (e : DeskFault) → Leaves first now all rest (written ++ before)
    → rest ≡ f ∷ more → Spells now f new before after (Err e) → IsPrefixOf (written ++ after) (due first all)
spelled_is_front first now new all rest more f written before after (desk.Frame x) h e step = absurd step
spelled_is_front first now new all rest more f written before after desk.Unexpected h e step =
    ([], sym (spelling_fails first now new new all rest more f written before after desk.Unexpected h e step).1 ∙ sym (append-nil (written ++ after)))
spelled_is_front first now new all rest more f written before after desk.Read h e step = absurd step
spelled_is_front first now new all rest more f written before after desk.Write h e step = absurd step
spelled_is_front first now new all rest more f written before after desk.TooManyReads h e step = absurd step
spelled_is_front first now new all rest more f written before after desk.Memory h e step = begun_is_front first now all rest more f written before after h e step

pub breaks_off : (first now new last : DeskState) (all rest more : List Frame) (f : Frame) (written before after front : List ℕ) (e : DeskFault) → (all ≡ [] → ⊥)
    → Leaves first now all rest (written ++ before) → rest ≡ f ∷ more → Spells now f new before after (Err e) → IsPrefixOf front after → Deals first all last (Err desk.Write) (written ++ front)
breaks_off first now new last all rest more f written before after front e some h next step p =
    (some, IsPrefixOf-trans _ _ _ (append-IsPrefixOf written front after p) (spelled_is_front first now new all rest more f written before after e h next step))

-- If a write fails, the written bytes are a prefix of the full output.
pub writing_fails : (first now last : DeskState) (all rest : List Frame) (written bytes front : List ℕ) → (all ≡ [] → ⊥) → Leaves first now all rest (written ++ bytes)
    → IsPrefixOf front bytes → Deals first all last (Err desk.Write) (written ++ front)
writing_fails first now last all rest written bytes front some h p = (
  some,
  subst (IsPrefixOf (written ++ front)) h.output_is (IsPrefixOf-append (written ++ front) _ (due now rest) (append-IsPrefixOf written front bytes p)),
)

-- A list with an index below its length is not empty.
pub not_empty : (all : List Frame) (n : ℕ) → n < length all → all ≡ [] → ⊥
not_empty all n h e = let none : length all ≡ 0 = ap length e in omega arith

pub some_frames : (all : List Frame) → nat_eq (length all) 0 ≡ false → all ≡ [] → ⊥
some_frames [] h e = cc
some_frames (f ∷ fs) h e = cc

-- The frames from an index on are the frame there and those after it.
pub next_frame : (all : List Frame) (n : ℕ) (f : Frame) → n < length all → f ≡ get_or all n f → drop n all ≡ f ∷ drop (n + 1) all
next_frame all n f some e = drop_more all n f some ∙ ap (λ x. x ∷ drop (n + 1) all) (sym e)

-- Whether a writer has failed

abbrev pub IsWriteFault : Result (Unit {0}) DeskFault → Type 0
IsWriteFault r = r ≡ Err desk.Write

pub sound_at_ok : (b : Bool) → (b ≡ true → IsWriteFault (Ok tt)) → b ≡ false
sound_at_ok true h = let e = h refl in cc
sound_at_ok false h = refl
