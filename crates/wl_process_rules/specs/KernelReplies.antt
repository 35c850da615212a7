-- The kernel's output.
use Rattle.std.specs.Prelude.{ℕ, List, ◌++◌, codes, decimal}
use Rattle.wl_script_words.specs.WordPrinting.{line, numbered}
use Rattle.wl_process_rules.specs.declared.kernel_reply.KernelReply.{KernelReply}
use Rattle.wl_process_rules.specs.declared.kernel_reply.KernelReply.TheVariants as reply

-- The line `opened T ORIGIN` of a tab and its page's origin.
unfoldable pub opened_text : ℕ → List ℕ → List ℕ
opened_text tab origin = line (codes "opened " ++ decimal tab ++ codes " " ++ origin)

-- The line `opened T TOPORIGIN ORIGIN` of a tab, the top-level origin and the page's origin.
unfoldable pub opened_two_text : ℕ → List ℕ → List ℕ → List ℕ
opened_two_text tab top origin = line (codes "opened " ++ decimal tab ++ codes " " ++ top ++ codes " " ++ origin)

-- The line `ended T STATUS` of a tab and its process's status.
unfoldable pub ended_text : ℕ → ℕ → List ℕ
ended_text tab status = line (codes "ended " ++ decimal tab ++ codes " " ++ decimal status)

unfoldable pub reply_text : KernelReply → List ℕ
reply_text (reply.Up generation) = numbered (codes "up") generation
reply_text reply.AlreadyUp = line (codes "already up")
reply_text (reply.Opened tab origin) = opened_text tab origin.now
reply_text (reply.OpenedTwo tab top origin) = opened_two_text tab top.now origin.now
reply_text reply.BadUrl = line (codes "BadUrl")
reply_text reply.SecurityError = line (codes "SecurityError")
reply_text reply.NumberTaken = line (codes "NumberTaken")
reply_text reply.TooManyLiving = line (codes "TooManyLiving")
reply_text reply.PartitionFull = line (codes "PartitionFull")
reply_text reply.TabsUsedUp = line (codes "TabsUsedUp")
reply_text (reply.Stopped generation) = numbered (codes "stopped") generation
reply_text reply.AlreadyDown = line (codes "already down")
reply_text reply.GenerationsUsedUp = line (codes "GenerationsUsedUp")
reply_text (reply.Killed tab) = numbered (codes "killed") tab
reply_text reply.NoTab = line (codes "no tab")
reply_text (reply.Ended tab status) = ended_text tab status
