-- Length of a frame that the client sends.
use Rattle.std.proofs.Common.{◌≡◌, ◌≤◌, ℕ, List, [], ◌∷◌, ◌++◌, Option, Some, None, length, arith, length-append, subst, sym, ap, ◌∙◌}
use Rattle.wl_grammar.specs.declared.frame.Frame.{Frame}
use Rattle.wl_grammar.specs.Grammar.{IsWellFormed, body, spelling, u32}
use Rattle.wl_grammar.proofs.BodyLength.{body_length}
use Rattle.wl_agent.specs.declared.fault.MessageFault.{MessageFault}
use Rattle.wl_agent.specs.Tab.{TabState, command_frame, message_refusal}
use Rattle.wl_client.specs.declared.client.Unsent.{Unsent}
use Rattle.wl_client.specs.declared.client.Unsent.TheVariants.{Resend, Command, Post}
use Rattle.wl_client.specs.declared.sending.Output.{Output}
use Rattle.wl_client.specs.declared.sending.Output.TheVariants.{Idle, Sent, Skipped}
use Rattle.wl_client.specs.Client.{ClientState}
use Rattle.wl_client.specs.Sending.{IsNext, Sends, SendsCommand, SendsDue, SendsFrame, SendsItem, SendsNext, SendsUnless}
use Rattle.wlb_client.specs.declared.links.TheConstants.{WLB_FRAME_BYTES}

abbrev IsShort : List ℕ → Type 0
IsShort bytes = length bytes ≤ WLB_FRAME_BYTES

spelling_length : (f : Frame) → IsWellFormed f → IsShort (spelling f)
unfolding spelling
spelling_length f h = let n = body_length f h in omega (arith, n.1, length-append (u32 (length (body f))) (body f))

is_short : (before bytes : List ℕ) → before ≡ [] → bytes ≡ before → IsShort bytes
is_short before bytes empty is = subst IsShort (sym (is ∙ empty)) (omega arith)

frame_length : (f : Frame) (done : Output) (before bytes : List ℕ) → before ≡ [] → SendsFrame f done before bytes → IsShort bytes
frame_length f Sent before bytes empty (h, is) = subst IsShort (sym (is ∙ ap (λ (b : List ℕ). b ++ spelling f) empty)) (spelling_length f h)
frame_length f Skipped before bytes empty (h, is) = is_short before bytes empty is
frame_length f Idle before bytes empty wrong = absurd wrong

unless_length : (r : Option MessageFault) (f : Frame) (done : Output) (before bytes : List ℕ) → before ≡ [] → SendsUnless r f done before bytes → IsShort bytes
unless_length None f done before bytes empty sent = frame_length f done before bytes empty sent
unless_length (Some r) f done before bytes empty (skipped, is) = is_short before bytes empty is

command_length : (a : TabState) (k : ℕ) (done : Output) (before bytes : List ℕ) → before ≡ [] → SendsCommand a k done before bytes → IsShort bytes
command_length a k done before bytes empty sent = unless_length (message_refusal a k) (command_frame a k) done before bytes empty sent

one_length : (a : TabState) (u : Unsent) (done : Output) (before bytes : List ℕ) → before ≡ [] → Sends a u done before bytes → IsShort bytes
one_length a Resend done before bytes empty (skipped, is) = is_short before bytes empty is
one_length a (Command k) done before bytes empty sent = command_length a k done before bytes empty sent
one_length a (Post f) done before bytes empty sent = frame_length f done before bytes empty sent

item_length : (us : List Unsent) (c new : ClientState) (done : Output) (before bytes : List ℕ) → before ≡ [] → SendsItem us c done before bytes new → IsShort bytes
item_length [] c new done before bytes empty (idle, is, now) = is_short before bytes empty is
item_length (u ∷ us) c new done before bytes empty (sent, now) = one_length c.locks u done before bytes empty sent

due_length : (ks : List ℕ) (c new : ClientState) (done : Output) (before bytes : List ℕ) → before ≡ [] → SendsDue ks c done before bytes new → IsShort bytes
due_length [] c new done before bytes empty sent = item_length c.unsent c new done before bytes empty sent
due_length (k ∷ ks) c new done before bytes empty (sent, now) = command_length c.locks k done before bytes empty sent

report_length : (fs : List Frame) (c new : ClientState) (done : Output) (before bytes : List ℕ) → before ≡ [] → SendsNext fs c done before bytes new → IsShort bytes
report_length [] c new done before bytes empty sent = due_length c.due c new done before bytes empty sent
report_length (f ∷ fs) c new done before bytes empty (sent, now) = frame_length f done before bytes empty sent

pub next_length : (c new : ClientState) (done : Output) (before bytes : List ℕ) → before ≡ [] → IsNext c done before bytes new → length bytes ≤ WLB_FRAME_BYTES
next_length c new done before bytes empty sent = report_length c.report c new done before bytes empty sent
