-- The oldest frame for the hub is sent as bytes.
use Rattle.std.specs.Prelude.{◌≡◌, ℕ, List, [], ◌∷◌, ◌++◌, Option, Some, None, if◌then◌else◌}
use Rattle.wl_grammar.specs.declared.frame.Frame.{Frame}
use Rattle.wl_grammar.specs.Grammar.{IsWellFormed, spelling}
use Rattle.wl_agent.specs.declared.fault.MessageFault.{MessageFault}
use Rattle.wl_agent.specs.Tab.{TabState, command_frame, message_refusal, report_frames, is_report_due, due}
use Rattle.wl_client.specs.declared.client.Unsent.{Unsent}
use Rattle.wl_client.specs.declared.client.Unsent.TheVariants.{Resend, Command, Post}
use Rattle.wl_client.specs.declared.sending.Output.{Output}
use Rattle.wl_client.specs.declared.sending.Output.TheVariants.{Idle, Sent, Skipped}
use Rattle.wl_client.specs.Client.{ClientState}

-- A well-formed frame is sent. Any other is skipped.
abbrev pub SendsFrame : Frame → Output → List ℕ → List ℕ → Type 0
SendsFrame f Sent before after = IsWellFormed f × (after ≡ before ++ spelling f)
SendsFrame f Skipped before after = (IsWellFormed f → ⊥) × (after ≡ before)
SendsFrame f Idle before after = ⊥

-- A frame that the agent refuses is skipped.
abbrev pub SendsUnless : Option MessageFault → Frame → Output → List ℕ → List ℕ → Type 0
SendsUnless None f done before after = SendsFrame f done before after
SendsUnless (Some refusal) f done before after = (done ≡ Skipped) × (after ≡ before)

-- A command is sent, unless the tab has not entered a generation.
abbrev pub SendsCommand : TabState → ℕ → Output → List ℕ → List ℕ → Type 0
SendsCommand a k done before after = SendsUnless (message_refusal a k) (command_frame a k) done before after

-- Nothing is sent yet when the report is prepared.
abbrev pub Sends : TabState → Unsent → Output → List ℕ → List ℕ → Type 0
Sends a Resend done before after = (done ≡ Skipped) × (after ≡ before)
Sends a (Command k) done before after = SendsCommand a k done before after
Sends a (Post f) done before after = SendsFrame f done before after

-- The report is prepared, and the commands that are due are to follow it.
abbrev pub after_item : Unsent → List Unsent → ClientState → ClientState
after_item Resend us c = record c {
  report = if is_report_due c.locks then report_frames c.locks else [];
  due = due c.locks;
  unsent = us;
}
after_item u us c = record c { unsent = us }

-- The state, what was done, the bytes before and after, and the state afterwards. The report comes first, then the
-- commands that are due, and then the other items.
abbrev pub SendsItem : List Unsent → ClientState → Output → List ℕ → List ℕ → ClientState → Type 0
SendsItem [] c done before after new = (done ≡ Idle) × (after ≡ before) × (new ≡ c)
SendsItem (u ∷ us) c done before after new = Sends c.locks u done before after × (new ≡ after_item u us c)

abbrev pub SendsDue : List ℕ → ClientState → Output → List ℕ → List ℕ → ClientState → Type 0
SendsDue [] c done before after new = SendsItem c.unsent c done before after new
SendsDue (k ∷ ks) c done before after new = SendsCommand c.locks k done before after × (new ≡ record c { due = ks })

abbrev pub SendsNext : List Frame → ClientState → Output → List ℕ → List ℕ → ClientState → Type 0
SendsNext [] c done before after new = SendsDue c.due c done before after new
SendsNext (f ∷ fs) c done before after new = SendsFrame f done before after × (new ≡ record c { report = fs })

abbrev pub IsNext : ClientState → Output → List ℕ → List ℕ → ClientState → Type 0
IsNext c done before after new = SendsNext c.report c done before after new
