use Rattle.std.proofs.Common.{◌≡◌, true, false, Some, None, ap, subst, ◌∙◌, arith, rules}
use Rattle.wl_grammar.specs.declared.frame.Operation.TheVariants.{Release}
use Rattle.wl_agent.specs.Tab.{TabState, released}
use Rattle.wl_tab.specs.TabTokens.{IsKept, is_lock}
use Rattle.wl_tab.proofs.KeptTokens.{Found, found, kept-finish}
use Rattle.wl_tab.proofs.Spending.{Releases, LetGo, apart, release-none, release-other, release-held}
use Rattle.wl_tab.proofs.locks.TabLocks.release.Goals as goal
use Rattle.wl_tab.proofs.locks.TabLocks.release.Goals.{In_err-place, In-Ok, After-index, After-release}

-- No token of the number is stored

nothing : (c : In_err-place) → Releases c.args.self.now c.args.number None c.args.self.now
nothing c =
    subst (λ (a : TabState). Releases a c.args.number None a) c.self.view_is (release-none c.self.inside.agent c.self.inside.tab c.self.inside.entered c.self.inside.kept.items c.deref.result.now c.args.number c.place_of.result c.self.invariant c.deref.ensures.value c.place_of.ensures c.in_err-place.was)

pub returns-in_err-place-clause-next : goal.returns-in_err-place-clause-next
returns-in_err-place-clause-next c = c.from_residual.ensures ∙ (nothing (goal.at.returns-in_err-place-clause-next c).In_err-place).next_is

pub returns-in_err-place-clause-new : goal.returns-in_err-place-clause-new
returns-in_err-place-clause-new c = (nothing (goal.at.returns-in_err-place-clause-new c).In_err-place).left_is

-- A token is stored

place : (c : After-index) → Found c.self.inside.agent c.self.inside.kept.items c.args.number c.in_ok-place.place
place c =
    found c.self.inside.agent c.self.inside.tab c.self.inside.entered c.self.inside.kept.items c.deref.result.now c.args.number c.in_ok-place.place c.index.result.now c.place_of.result c.self.invariant c.deref.ensures.value c.place_of.ensures c.in_ok-place.was

other : (c : After-index) → is_lock c.index.result.now.token ≡ false → Releases c.args.self.now c.args.number None c.args.self.now
other c free =
    subst (λ (a : TabState). Releases a c.args.number None a) c.self.view_is (release-other c.self.inside.agent c.self.inside.kept.items c.args.number c.in_ok-place.place c.index.result.now (place c) c.index.ensures free)

pub returns-then-not-is_lock-clause-next : goal.returns-then-not-is_lock-clause-next
returns-then-not-is_lock-clause-next c = (other (goal.at.returns-then-not-is_lock-clause-next c).After-index (search rules)).next_is

pub returns-then-not-is_lock-clause-new : goal.returns-then-not-is_lock-clause-new
returns-then-not-is_lock-clause-new c = (other (goal.at.returns-then-not-is_lock-clause-new c).After-index (search rules)).left_is

-- The token belongs to a held lock

taken : (c : After-release) → Found c.self.inside.agent c.self.inside.kept.items c.args.number c.in_ok-place.place → LetGo c.self.inside.agent c.args.number c.remove-operation.result.token
taken c f =
    let lock : is_lock c.index.result.now.token ≡ true = search rules in
    release-held c.self.inside.agent c.self.inside.kept.items c.args.number c.in_ok-place.place c.index.result.now c.remove-operation.result f c.index.ensures lock c.remove-operation.ensures.value

keeps : (c : In-Ok) → Found c.self.inside.agent c.self.inside.kept.items c.args.number c.in_ok-place.place → LetGo c.self.inside.agent c.args.number c.remove-operation.result.token → IsKept c.release.new.agent c.self.inside.tab c.self.inside.entered c.remove-operation.new.self.items
keeps c f t =
    kept-finish c.self.inside.agent c.release.new.agent c.self.inside.tab c.self.inside.entered c.self.inside.kept.items c.remove-operation.new.self.items (Release c.args.number) c.args.number c.in_ok-place.place c.self.invariant f c.remove-operation.ensures.items (c.in-Ok.ensures.ok ∙ ap (λ n. released n c.self.inside.agent) t.number_is)

pub invariant_of-self : goal.invariant_of-self
invariant_of-self c =
    let at = goal.at.invariant_of-self c in
    keeps at.In-Ok (place at.After-index) (taken at.After-release (place at.After-index))

pub invariant_of-self-in-Ok-2 : goal.invariant_of-self-in-Ok-2
invariant_of-self-in-Ok-2 c =
    let at = goal.at.invariant_of-self-in-Ok-2 c in
    keeps at.In-Ok (place at.After-index) (taken at.After-release (place at.After-index))

pub invariant_of-self-in-Err : goal.invariant_of-self-in-Err
invariant_of-self-in-Err c =
    let at = goal.at.invariant_of-self-in-Err c in
    apart _ (taken at.After-release (place at.After-index)).may c.in-Err.ensures.refused

let_go : (c : In-Ok) → LetGo c.self.inside.agent c.args.number c.remove-operation.result.token → Releases c.args.self.now c.args.number (Some c.in-Ok.next) c.release.new.agent
let_go c t =
    let left = c.in-Ok.ensures.ok ∙ ap (λ n. released n c.self.inside.agent) t.number_is in
    subst (λ (a : TabState). Releases a c.args.number (Some c.in-Ok.next) c.release.new.agent) c.self.view_is (record {
      next_is = ap Some c.in-Ok.ensures.next ∙ t.done.next_is;
      left_is = left ∙ t.done.left_is;
    })

pub returns-in-Ok-clause-next : goal.returns-in-Ok-clause-next
returns-in-Ok-clause-next c =
    let at = goal.at.returns-in-Ok-clause-next c in
    (let_go at.In-Ok (taken at.After-release (place at.After-index))).next_is

pub returns-in-Ok-clause-new : goal.returns-in-Ok-clause-new
returns-in-Ok-clause-new c =
    let at = goal.at.returns-in-Ok-clause-new c in
    let left = (let_go at.In-Ok (taken at.After-release (place at.After-index))).left_is in
    grind (arith, left)

pub returns-in-Err-clause-next : goal.returns-in-Err-clause-next
returns-in-Err-clause-next c =
    let at = goal.at.returns-in-Err-clause-next c in
    apart _ (taken at.After-release (place at.After-index)).may c.in-Err.ensures.refused

pub returns-in-Err-clause-new : goal.returns-in-Err-clause-new
returns-in-Err-clause-new c =
    let at = goal.at.returns-in-Err-clause-new c in
    apart _ (taken at.After-release (place at.After-index)).may c.in-Err.ensures.refused
