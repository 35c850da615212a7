use Rattle.std.proofs.Common.{◌≡◌, ◌<◌, ◌++◌, length, take, ap, sym, ◌∙◌, arith}
use Rattle.std.specs.List.{flat_map}
use Rattle.std.proofs.lemmas.Grind.{common_steps}
use Rattle.std.proofs.lemmas.Bool.Decides.{nat_tests}
use Rattle.wl_script_words.specs.Words.{escaped}
use Rattle.wl_script_words.proofs.WordLemmas.{word_of_some}
use Rattle.wl_script_words.proofs.words.put_word.Goals as goal

pub returns : goal.returns
returns c =
    let bytes = c.args.bytes.now in
    let out = c.args.out.now.items in
    let some : 0 < length bytes = grind (arith, nat_tests) in
    let all : take c.loop-byte.byte-index bytes ≡ bytes = grind (arith, common_steps) in
    let so_far : c.loop-byte.out.items ≡ out ++ flat_map escaped (take c.loop-byte.byte-index bytes) = c.loop-byte.invariant in
    so_far ∙ ap (λ x. out ++ flat_map escaped x) all ∙ ap (λ x. out ++ x) (sym (word_of_some bytes some))
