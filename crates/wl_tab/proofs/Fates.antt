-- Results of settling a token, by the agent's replies.
use Rattle.std.proofs.Common.{◌≡◌, List, [], ◌∷◌, ◌++◌, fold, Option, sym, ap, ◌∙◌}
use Rattle.std.proofs.lemmas.List.Sums.{fold-append}
use Rattle.wl_agent.specs.declared.snapshot.Snapshot.{Snapshot}
use Rattle.wl_agent.specs.Tab.{TabState}
use Rattle.wl_tab.specs.declared.locks.live_command.LiveCommand.{LiveCommand}
use Rattle.wl_tab.specs.declared.locks.settling.Settlement.{Settlement}
use Rattle.wl_tab.specs.Telling.{fate_of, Run, with_fate, tell_next, told_run, run_from}

-- The last token is settled after all others.
pub run-last : (a : TabState) (xs ys : List LiveCommand) (x : LiveCommand) → ys ≡ xs ++ x ∷ [] → told_run a ys ≡ tell_next (told_run a xs) x
unfolding told_run
run-last a xs ys x e = ap (fold tell_next (run_from a)) e ∙ fold-append tell_next (run_from a) xs (x ∷ [])

pub run-none : (a : TabState) (ys : List LiveCommand) → ys ≡ [] → told_run a ys ≡ run_from a
unfolding told_run
run-none a ys e = ap (fold tell_next (run_from a)) e

abbrev pub run_of : TabState → List LiveCommand → Option Snapshot → Run
run_of a kept snapshot = record { agent = a; kept = kept; snapshot = snapshot }

-- The run with one more token combines the run of the others with the result of the last.
pub run-step : (a b : TabState) (xs ys zs : List LiveCommand) (x : LiveCommand) (f : Settlement) (w : Option Snapshot) → ys ≡ xs ++ x ∷ [] → b ≡ (told_run a xs).agent → zs ≡ (told_run a xs).kept → w ≡ (told_run a xs).snapshot → f ≡ fate_of b x.token → told_run a ys ≡ with_fate (record { agent = b; kept = zs; snapshot = w }) x f
run-step a b xs ys zs x f w e b_is zs_are w_is f_is =
    let run = told_run a xs in
    let same : run ≡ run_of b zs w = ap (λ (t : TabState). run_of t run.kept run.snapshot) (sym b_is) ∙ ap (λ (k : List LiveCommand). run_of b k run.snapshot) (sym zs_are) ∙ ap (λ (s : Option Snapshot). run_of b zs s) (sym w_is) in
    run-last a xs ys x e ∙ ap (λ (r : Run). tell_next r x) same ∙ ap (with_fate (run_of b zs w) x) (sym f_is)
