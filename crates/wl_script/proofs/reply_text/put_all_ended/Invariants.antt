use Rattle.std.proofs.Common.{◌≡◌, ◌++◌, take}
use Rattle.std.specs.List.{flat_map}
use Rattle.wl_script.specs.ReplyTexts.{ended_text}
use Rattle.wl_script.proofs.reply_text.put_all_ended.Given as goal

abbrev pub invariant-loop-ended : goal.invariant-loop-ended
invariant-loop-ended l = l.out.items ≡ l.fn.out.items ++ flat_map ended_text (take l.ended-index l.endings)
