-- Messages that a tab sends, as the kernel routes them: commands and reports to the broker, posts to other tabs.
use Rattle.std.specs.Prelude.{ℕ, List, [], ◌∷◌, ◌++◌, ◌==◌, map, if◌then◌else◌}
use Rattle.wl_grammar.specs.declared.frame.Post.{Post}
use Rattle.wl_grammar.specs.declared.frame.Upward.{Upward}
use Rattle.wl_grammar.specs.declared.frame.Upward.TheVariants as up
use Rattle.wl_agent.specs.declared.delivered.Delivered.{Delivered}
use Rattle.wl_agent.specs.declared.delivered.Delivered.TheVariants.{Entered}
use Rattle.wl_agent.specs.Tab.{TabState, report_bodies, operation_of, due, is_report_due}
use Rattle.wl_kernel.specs.Kernel.{KernelState, partition_number}
use Rattle.wl_kernel.specs.Routes.{heard_post, hearers}
use Rattle.wl_world_messages.specs.declared.message.Message.{Message}
use Rattle.wl_world_messages.specs.declared.message.Message.TheVariants.{Up, Across}
use Rattle.wl_world_model.specs.declared.event.Forged.{Forged}
use Rattle.wl_world_model.specs.declared.event.Forged.TheVariants as forged

-- A message to the broker with the kernel's stamp: the tab's number and its partition's number.
abbrev pub stamped : KernelState → ℕ → Upward → Message
stamped k t x = Up (record { tab = t; partition = partition_number k t; inner = x })

abbrev pub command_message : KernelState → ℕ → TabState → ℕ → Message
command_message k t a n = stamped k t (up.Command (record { generation = a.entered; number = n; operation = operation_of a n }))

-- The message of a new command. None is sent until the tab has entered a generation.
abbrev pub issued_messages : KernelState → ℕ → TabState → ℕ → List Message
issued_messages k t a n = if a.entered == 0 then [] else command_message k t a n ∷ []

-- The messages of the tab's report, one for each part.
abbrev pub report_messages : KernelState → ℕ → TabState → List Message
report_messages k t a = map (stamped k t) (report_bodies a.in_parts a.report)

-- A tab that enters a generation sends its report.
abbrev pub report_if_entered : KernelState → ℕ → TabState → Delivered → List Message
report_if_entered k t a (Entered reports) = report_messages k t a
report_if_entered k t a d = []

-- The report, if the tab has received nothing but the hello of its generation.
abbrev pub report_if_due : KernelState → ℕ → TabState → List Message
report_if_due k t a = if is_report_due a then report_messages k t a else []

-- The messages that a tab sends again: a report that is due, then every command that is due.
abbrev pub resent : KernelState → ℕ → TabState → List Message
resent k t a = report_if_due k t a ++ map (command_message k t a) (due a)

-- A post as a message to the tab `u`.
abbrev pub across : ℕ → Post → ℕ → Message
across t p u = Across u (heard_post t p)

-- A post goes to the other living tabs of the partition, by rising number.
abbrev pub to_hearers : KernelState → ℕ → Post → List Message
to_hearers k t p = map (across t p) (hearers t k)

-- The kernel routes forged bodies in the same way as the tab's own.
abbrev pub forgery : KernelState → ℕ → Forged → List Message
forgery k t (forged.Upward x) = stamped k t x ∷ []
forgery k t (forged.Post p) = to_hearers k t p
