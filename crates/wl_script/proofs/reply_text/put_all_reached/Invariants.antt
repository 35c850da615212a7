use Rattle.std.proofs.Common.{◌≡◌, ◌++◌, take}
use Rattle.std.specs.List.{flat_map}
use Rattle.wl_script.specs.ReplyTexts.{reached_text}
use Rattle.wl_script.proofs.reply_text.put_all_reached.Given as goal

abbrev pub invariant-loop-reached : goal.invariant-loop-reached
invariant-loop-reached l = l.out.items ≡ l.fn.out.items ++ flat_map (reached_text l.tab l.letter) (take l.reached-index l.objects)
