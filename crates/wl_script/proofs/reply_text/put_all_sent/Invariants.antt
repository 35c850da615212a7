use Rattle.std.proofs.Common.{◌≡◌, ◌++◌, take}
use Rattle.std.specs.List.{flat_map}
use Rattle.wl_script.specs.ReplyTexts.{sent_text}
use Rattle.wl_script.proofs.reply_text.put_all_sent.Given as goal

abbrev pub invariant-loop-one : goal.invariant-loop-one
invariant-loop-one l = l.out.items ≡ l.fn.out.items ++ flat_map sent_text (take l.one-index l.sent)
