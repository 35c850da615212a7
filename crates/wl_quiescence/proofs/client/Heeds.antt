-- What comes from the broker agrees with it also after the client's steps.
use Rattle.std.proofs.Common.{◌≡◌, ◌≢◌, ⊎_elim, ℕ, Bool, true, false, ◌&&◌, cond, List, [], ◌∷◌, Some, refl, sym, ap, ◌∙◌, subst}
use Rattle.std.specs.Prelude.{◌==◌, if◌then◌else◌}
use Rattle.std.proofs.lemmas.Bool.{and_from, and_parts, eq-eqb, ne_eqb}
use Rattle.wl_draft.specs.Membership.{In, Here, Later as Behind}
use Rattle.wl_draft.proofs.Membership.{apart}
use Rattle.wl_grammar.specs.declared.frame.Answer.{Answer}
use Rattle.wl_grammar.specs.declared.frame.Snapshot.{Snapshot as Part}
use Rattle.wl_grammar.specs.declared.frame.Frame.{Frame}
use Rattle.wl_grammar.specs.declared.frame.Frame.TheVariants as frame
use Rattle.wl_broker.specs.Broker.{BrokerState}
use Rattle.wl_agent.specs.declared.status.Status.TheVariants.{Querying}
use Rattle.wl_agent.specs.SnapshotParts.{PartsState, with_part}
use Rattle.wl_agent.specs.Tab.{status_of, is_querying}
use Rattle.wl_client.specs.declared.client.Unsent.{Unsent}
use Rattle.wl_world_model.proofs.exclusion.Invariant.{SoundTab}
use Rattle.wl_library_model.proofs.Awaited.{NoneTold}
use Rattle.wl_quiescence.proofs.rest.Invariant.{View, is_answer_in, HasKept}
use Rattle.wl_quiescence.proofs.client.Items.{sending_view}
use Rattle.wl_quiescence.proofs.client.Hears.{is_waited}
use Rattle.wl_quiescence.proofs.client.Kept.{AllFit, Heeds}
use Rattle.wl_quiescence.proofs.client.Answers.{answered_by, still}
use Rattle.wl_quiescence.proofs.client.Parts.{snapped_by, PartNow, by_number}

-- A client that sends
pub heeds-sent : (v : View) (us rs : List Frame) (ks : List ℕ) (xs : List Unsent) (t : ℕ) (b : BrokerState) → Heeds v t b → Heeds (sending_view v us rs ks xs) t b
heeds-sent v us rs ks xs t b h = record { answers = h.answers; snapshots = h.snapshots; fit = h.fit; queries = h.queries; unheard = h.unheard }

-- Behind an answer
pub answer-fit : (v : View) (t : ℕ) (b : BrokerState) (x : Answer) (rest : List Frame) → v.down ≡ frame.Answer x ∷ rest → x.generation ≡ b.generation → SoundTab t v.client.locks → NoneTold v.client.locks.statuses
    → Heeds v t b → HasKept v t b v.client.locks → (k : ℕ) (ps : PartsState) → status_of (answered_by x v.client.locks) k ≡ Some (Querying ps) → AllFit b.generation k rest ps
answer-fit v t b x rest down now sound none heeds kept k ps e =
    subst (λ z. AllFit b.generation k z ps) down (heeds.fit k ps (sym (still v t b x rest down now sound none heeds kept k (ap is_waited e)).0 ∙ e))

-- Behind a part of a snapshot
pub part-fit : (v : View) (t : ℕ) (b : BrokerState) (x : Part) (rest : List Frame) → v.down ≡ frame.Snapshot x ∷ rest → x.generation ≡ b.generation → SoundTab t v.client.locks → NoneTold v.client.locks.statuses
    → Heeds v t b → HasKept v t b v.client.locks → (k : ℕ) (ps : PartsState) → status_of (snapped_by x v.client.locks) k ≡ Some (Querying ps) → AllFit b.generation k rest ps
part-fit v t b x rest down now sound none heeds kept =
    by_number v t b x rest down now sound none heeds kept (λ k. (ps : PartsState) → status_of (snapped_by x v.client.locks) k ≡ Some (Querying ps) → AllFit b.generation k rest ps) here other
  where
    same-parts : (p q : PartsState) → Some (Querying p) ≡ Some (Querying q) → p ≡ q
    same-parts p q s = cc

    later : (k : ℕ) (ps : PartsState) → status_of v.client.locks k ≡ Some (Querying ps)
        → AllFit b.generation k rest (if (x.generation == b.generation) && (x.number == k) then with_part x ps else ps)
    later k ps e = (subst (λ z. AllFit b.generation k z ps) down (heeds.fit k ps e)).1

    here : PartNow x v.client.locks (snapped_by x v.client.locks) → (ps : PartsState) → status_of (snapped_by x v.client.locks) x.number ≡ Some (Querying ps) → AllFit b.generation x.number rest ps
    here p ps e = ⊎_elim
        (λ o. apart (ap is_querying (sym o.0 ∙ e)) o.1)
        (λ o. ⊎_elim
        (λ z. apart (ap is_querying e) (ap is_querying z))
        (λ z. subst (AllFit b.generation x.number rest) (same-parts (with_part x o.0) ps (sym z.0 ∙ e))
        (subst (λ q. AllFit b.generation x.number rest (cond q (with_part x o.0) o.0)) (and_from _ _ (eq-eqb x.generation b.generation now) (eq-eqb x.number x.number refl)) (later x.number o.0 o.1)))
        o.2)
        p

    and-no : (u : Bool) {z : Bool} → z ≡ false → (u && z) ≡ false
    and-no true e = e
    and-no false e = refl

    other : (j : ℕ) → j ≢ x.number → status_of (snapped_by x v.client.locks) j ≡ status_of v.client.locks j → (ps : PartsState) → status_of (snapped_by x v.client.locks) j ≡ Some (Querying ps) → AllFit b.generation j rest ps
    other j d same ps e = subst (λ q. AllFit b.generation j rest (cond q (with_part x ps) ps)) (and-no (x.generation == b.generation) (ne_eqb x.number j (λ s. d (sym s)))) (later j ps (sym same ∙ e))

-- Behind a frame that is no answer of the broker that is up
pub fit-skip : (g k : ℕ) (f : Frame) (fs : List Frame) (ps : PartsState) → is_answer_in g f ≡ false → AllFit g k (f ∷ fs) ps → AllFit g k fs ps
fit-skip g k (frame.Snapshot x) fs ps n a = subst (λ z. AllFit g k fs (cond (z && (x.number == k)) (with_part x ps) ps)) n a.1
fit-skip g k f fs ps n a = a

-- No part of the broker that is up comes.
pub fit-none : (g k : ℕ) (fs : List Frame) (ps : PartsState) → ((f : Frame) → In f fs → is_answer_in g f ≡ false) → AllFit g k fs ps
fit-none g k [] ps h = tt
fit-none g k (frame.Snapshot x ∷ fs) ps h =
    (λ y. apart (and_parts (x.generation == g) (x.number == k) y).0 (h (frame.Snapshot x) Here), fit-none g k fs (if (x.generation == g) && (x.number == k) then with_part x ps else ps) (λ f i. h f (Behind i)))
fit-none g k (f ∷ fs) ps h = fit-none g k fs ps (λ f' i. h f' (Behind i))
