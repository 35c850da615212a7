use Rattle.std.proofs.Common.{◌≡◌, ℕ, Some, List, ◌∙◌, sym, ap, subst, [], ◌∷◌, ◌++◌}
use Rattle.wl_broadcast.specs.Owned.{Owned}
use Rattle.wl_tab.specs.TabChannels.{IsNumbered}
use Rattle.wl_tab.proofs.OpenChannels.{numbered-opened}
use Rattle.wl_tab.proofs.channels.TabChannels.open.Goals as goal

pub invariant_of-self-2 : goal.invariant_of-self-2
invariant_of-self-2 c =
    let channel = c.in_ok-channel.channel in
    let kept : c.push_reserved.new.self.items ≡ c.self.inside.kept.items ++ channel ∷ [] = c.push_reserved.ensures.items ∙ ap (λ (xs : List Owned). xs ++ channel ∷ []) c.in_ok-reserve.ensures.items in
    let is = numbered-opened c.self.inside.channels c.open.new.self c.self.inside.latest c.self.inside.kept.items c.push_reserved.new.self.items channel c.as_str-text.result.now c.self.invariant kept c.in_ok-channel.ensures.channel.0 c.in_ok-channel.ensures.channel.1 c.in_ok-channel.ensures.ok in
    let P : ℕ → Type 0 = λ n. IsNumbered c.open.new.self (Some n) c.push_reserved.new.self.items in
    subst P (sym c.number-number.ensures) is
