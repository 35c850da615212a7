use Rattle.std.proofs.Common.{◌≡◌, ℕ, ◌+◌, ◌<◌, List, [], ◌∷◌, ◌++◌, length, get_or, take, Option, sym, ap, ◌∙◌, append_assoc}
use Rattle.std.specs.List.{filter_map, cons_option}
use Rattle.std.proofs.lemmas.List.{append-nil, take_more}
use Rattle.std.proofs.lemmas.List.Elements.{filter_map-append}
use Rattle.wl_tab.specs.declared.holding.Holding.{Holding}
use Rattle.wl_tab.specs.declared.locks.live_command.LiveCommand.{LiveCommand}
use Rattle.wl_tab.specs.TabTokens.{holding_in}
use Rattle.wl_tab.proofs.locks.add_holdings.Goals as goal
use Rattle.wl_tab.proofs.locks.add_holdings.Goals.{in-Some+in_ok-push, in_default}

-- The holding of the next number, if any, is appended.
one_more : (tab : ℕ) (kept : List LiveCommand) (i : ℕ) (x : LiveCommand) (o : Option Holding) (first so_far : List Holding) → i < length kept → x ≡ get_or kept i x → o ≡ holding_in tab x → so_far ≡ first ++ filter_map (holding_in tab) (take i kept) → so_far ++ cons_option o [] ≡ first ++ filter_map (holding_in tab) (take (i + 1) kept)
one_more tab kept i x o first so_far below here held so_far_is =
    let h : LiveCommand → Option Holding = holding_in tab in
    let last : filter_map h (take (i + 1) kept) ≡ filter_map h (take i kept) ++ cons_option (h (get_or kept i x)) [] = ap (filter_map h) (take_more kept i x below) ∙ filter_map-append h (take i kept) (get_or kept i x ∷ []) in
    let same : o ≡ h (get_or kept i x) = held ∙ ap h here in
    let apart : (first ++ filter_map h (take i kept)) ++ cons_option o [] ≡ first ++ (filter_map h (take i kept) ++ cons_option o []) = simp append_assoc in
    ap (λ (hs : List Holding). hs ++ cons_option o []) so_far_is ∙ apart
    ∙ ap (λ (p : Option Holding). first ++ (filter_map h (take i kept) ++ cons_option p [])) same
    ∙ ap (λ (hs : List Holding). first ++ hs) (sym last)

pub loop-number-preserved : goal.loop-number-preserved
loop-number-preserved c =
    let so_far = c.loop-number.holdings.items in
    let next = one_more c.args.tab c.args.kept.now c.loop-number.number-index c.number-item.result c.in_ok-holding.field-0 c.args.holdings.now.items so_far c.loop-number-test.true c.number-item.is c.in_ok-holding.ensures c.loop-number.invariant in
    elim c.match-branch-2.branch [
      | in-Some+in_ok-push w ↦ ap (λ v. v.items) w.holdings-is ∙ w.in_ok-push.ensures.items ∙ ap (λ (p : Option Holding). so_far ++ cons_option p []) (sym w.in-Some.is) ∙ next
      | in_default w ↦ ap (λ v. v.items) w.holdings-is ∙ sym (append-nil so_far) ∙ ap (λ (p : Option Holding). so_far ++ cons_option p []) (sym w.in_default.is) ∙ next
    ]
