-- Calls of hub and client whose contracts are relations are steps.
use Rattle.std.proofs.Common.{◌≡◌, ◌≢◌, inl, inr, ℕ, List, [], ◌∷◌, ◌++◌, append_assoc, length, take, drop, Option, Some, None, refl, sym, ap, ap₂, ◌∙◌, subst, arith}
use Rattle.std.proofs.lemmas.Bool.{and_from, and_parts}
use Rattle.std.specs.List.{flat_map, AllByRecursion}
use Rattle.std.specs.Int.{w32}
use Rattle.wl_draft.proofs.Membership.{by_test, either}
use Rattle.wl_grammar.specs.declared.frame.Frame.{Frame}
use Rattle.wl_grammar.specs.Grammar.{IsWellFormed, body, spelling}
use Rattle.wl_grammar.proofs.BodyLength.{body_length}
use Rattle.wl_frames.specs.Reading.{number_at}
use Rattle.wl_frames.proofs.Apart.{apart}
use Rattle.wl_frames.proofs.Fields.{u32_form}
use Rattle.wl_agent.specs.declared.fault.MessageFault.{MessageFault}
use Rattle.wl_agent.specs.Tab.{message_refusal, command_frame}
use Rattle.wl_client.specs.declared.client.Unsent.{Unsent}
use Rattle.wl_client.specs.declared.client.Unsent.TheVariants as unsent
use Rattle.wl_client.specs.declared.sending.Output.{Output as ClientOutput}
use Rattle.wl_client.specs.declared.sending.Output.TheVariants as client_output
use Rattle.wl_client.specs.Client.{ClientState}
use Rattle.wl_client.specs.Sending.{SendsFrame, SendsUnless, SendsItem, SendsDue, SendsNext}
use Rattle.wl_hub.specs.declared.sending.Output.{Output as HubOutput}
use Rattle.wl_hub.specs.declared.sending.Output.TheVariants as hub_output
use Rattle.wl_hub.specs.Hub.{HubState}
use Rattle.wl_library_model.specs.Library.{Library, is_due, with_hub, with_line, hub_sends_from, unless_refused, Sending, sending_item, sending_due, sending_report, step}
use Rattle.wl_library_model.specs.Calls.{Sends, SendsOldest, SendsIfAny, HubOutputIsStep, ClientOutputIsStep, PiecesAreFrames}

-- Whether the frame joins those on its way or not, the hub has the others left.
sends-hub : (l : Library) (o : ℕ × Frame) (os : List (ℕ × Frame)) → (hub_sends_from (o ∷ os) l).hub ≡ record l.hub { outputs = os }
sends-hub l o os =
    let x = l.lines o.0 in
    let m = with_hub (record l.hub { outputs = os }) l in
    either (λ (z : Library). z.hub ≡ m.hub) (is_due l.hub o) (with_line o.0 (record x { down = x.down ++ o.1 ∷ [] }) m) m (λ _. refl) (λ _. refl)

abbrev Sent : List (ℕ × Frame) → Library → HubState → HubOutput → List ℕ → List ℕ → Type 0
Sent os l new done before after = (new ≡ (hub_sends_from os l).hub) × SendsOldest os l.hub done before after

pub hub-output : HubOutputIsStep
unfolding step
hub-output l new hub_output.Idle before after n = subst (λ os. Sent os l new hub_output.Idle before after) (sym n.0) (n.2, (refl, n.1))
hub-output l new (hub_output.For t) before after n =
    let due = n.3 in
    subst (λ os. Sent os l new (hub_output.For t) before after) (sym n.2) (
      n.5 ∙ sym (sends-hub l (t, n.0) n.1),
      subst (λ b. Sends b t n.0 (hub_output.For t) before after) (sym (and_from _ _ due.living due.current)) (inl (refl, record { well_formed = due.well_formed; bytes = n.4 })),
    )
hub-output l new hub_output.Dropped before after n =
    subst (λ os. Sent os l new hub_output.Dropped before after) (sym n.3) (
      n.6 ∙ sym (sends-hub l (n.0, n.1) n.2),
      by_test (λ b. Sends b n.0 n.1 hub_output.Dropped before after) (is_due l.hub (n.0, n.1))
          (λ y. let parts = and_parts _ _ y in inr (λ w. n.4 (record { living = parts.0; current = parts.1; well_formed = w }), refl, n.5))
          (λ _. (refl, n.5)),
    )

skipped-unsent : client_output.Skipped ≢ client_output.Sent
skipped-unsent e = cc

idle-unsent : client_output.Idle ≢ client_output.Sent
idle-unsent e = cc

frame-result : (f : Frame) (done : ClientOutput) (before after : List ℕ) → SendsFrame f done before after → SendsIfAny (Some f) done before after
frame-result f client_output.Sent before after s = inl (refl, record { well_formed = s.0; bytes = s.1 })
frame-result f client_output.Skipped before after s = inr (s.0, refl, s.1)
frame-result f client_output.Idle before after s = absurd s

unsent-result : (done : ClientOutput) (before after : List ℕ) → (done ≡ client_output.Skipped) × (after ≡ before) → SendsIfAny None done before after
unsent-result done before after s = (λ e. skipped-unsent (sym s.0 ∙ e), s.1)

unless-result : (r : Option MessageFault) (f : Frame) (done : ClientOutput) (before after : List ℕ) → SendsUnless r f done before after → SendsIfAny (unless_refused r f) done before after
unless-result None f done before after s = frame-result f done before after s
unless-result (Some e) f done before after s = unsent-result done before after s

-- The call takes the item, and sends its frame if there is one.
record SendsItsFrame (s : Sending) (done : ClientOutput) (before after : List ℕ) (new : ClientState) : Type 0 where
  client : new ≡ s.client
  sent : SendsIfAny s.frame done before after

item-sends : (us : List Unsent) (c new : ClientState) (done : ClientOutput) (before after : List ℕ) → SendsItem us c done before after new → SendsItsFrame (sending_item us c) done before after new
item-sends [] c new done before after n = record { client = n.2; sent = (λ e. idle-unsent (sym n.0 ∙ e), n.1) }
item-sends (unsent.Resend ∷ us) c new done before after n = record { client = n.1; sent = unsent-result done before after n.0 }
item-sends (unsent.Command k ∷ us) c new done before after n = record { client = n.1; sent = unless-result (message_refusal c.locks k) (command_frame c.locks k) done before after n.0 }
item-sends (unsent.Post f ∷ us) c new done before after n = record { client = n.1; sent = frame-result f done before after n.0 }

due-sends : (ks : List ℕ) (c new : ClientState) (done : ClientOutput) (before after : List ℕ) → SendsDue ks c done before after new → SendsItsFrame (sending_due ks c) done before after new
due-sends [] c new done before after n = item-sends c.unsent c new done before after n
due-sends (k ∷ ks) c new done before after n = record { client = n.1; sent = unless-result (message_refusal c.locks k) (command_frame c.locks k) done before after n.0 }

report-sends : (fs : List Frame) (c new : ClientState) (done : ClientOutput) (before after : List ℕ) → SendsNext fs c done before after new → SendsItsFrame (sending_report fs c) done before after new
report-sends [] c new done before after n = due-sends c.due c new done before after n
report-sends (f ∷ fs) c new done before after n = record { client = n.1; sent = frame-result f done before after n.0 }

pub client-output : ClientOutputIsStep
client-output c new done before after n = let s = report-sends c.report c new done before after n in (s.client, s.sent)

-- Pieces

-- The spelling of a frame is not empty.
spelled-some : (f : Frame) (x : List ℕ) → IsWellFormed f → [] ≡ spelling f ++ x → ⊥
unfolding spelling
spelled-some f x h e = none-some (length (body f), body f ++ x) (ap (number_at w32) e ∙ u32_form.again (length (body f)) (body f ++ x) (omega (arith, body_length f h)) tt)
  where
    none-some : (y : ℕ × List ℕ) → None ≡ Some y → ⊥
    none-some y e = cc

-- Frames that a longer spelling begins with are its first frames.
first-frames : (fs gs : List Frame) (x : List ℕ) → AllByRecursion IsWellFormed fs → AllByRecursion IsWellFormed gs → flat_map spelling fs ≡ flat_map spelling gs ++ x
    → (gs ≡ take (length gs) fs) × (x ≡ flat_map spelling (drop (length gs) fs))
first-frames fs [] x ps qs e = (refl, sym e)
first-frames [] (g ∷ gs) x ps qs e = absurd (spelled-some g (flat_map spelling gs ++ x) qs.0 (e ∙ append_assoc (spelling g) (flat_map spelling gs) x))
first-frames (f ∷ fs) (g ∷ gs) x ps qs e =
    let first = apart f g (flat_map spelling fs) (flat_map spelling gs ++ x) ps.0 qs.0 (e ∙ append_assoc (spelling g) (flat_map spelling gs) x) in
    let others = first-frames fs gs x ps.1 qs.1 first.1 in
    (ap₂ ◌∷◌ (sym first.0) others.0, others.1)

pub pieces : PiecesAreFrames
pieces old new piece tail frames fs wf e t =
    let r = t.reads in
    let whole : flat_map spelling fs ≡ flat_map spelling frames ++ (new.rest ++ tail) = sym e ∙ (ap (λ z. z ++ tail) (r.spelled ∙ ap (λ z. flat_map spelling frames ++ z) r.stops.0) ∙ append_assoc (flat_map spelling frames) new.rest tail) in
    first-frames fs frames (new.rest ++ tail) wf r.well_formed whole
