use Rattle.std.proofs.Common.{◌≡◌, true, false, ap, subst, ◌∙◌, rules}
use Rattle.wl_grammar.specs.declared.frame.Operation.TheVariants.{Abort}
use Rattle.wl_agent.specs.Tab.{TabState, is_request, aborted}
use Rattle.wl_tab.specs.declared.locks.AbortResult.TheVariants as became
use Rattle.wl_tab.specs.TabTokens.{IsKept, is_lock}
use Rattle.wl_tab.proofs.KeptTokens.{Found, found, kept-finish}
use Rattle.wl_tab.proofs.Spending.{Aborts, TakenOut, apart, abort-none, abort-other, abort-held, abort-asked}
use Rattle.wl_tab.proofs.locks.TabLocks.abort.Goals as goal
use Rattle.wl_tab.proofs.locks.TabLocks.abort.Goals.{In_default, In-Ok, After-index, After-is_lock, After-abort}

-- No token of the number is stored

nothing : (c : In_default) → Aborts c.args.self.now c.args.number became.Nothing c.args.self.now
nothing c =
    subst (λ (a : TabState). Aborts a c.args.number became.Nothing a) c.self.view_is (abort-none c.self.inside.agent c.self.inside.tab c.self.inside.entered c.self.inside.kept.items c.deref.result.now c.args.number c.place_of.result c.self.invariant c.deref.ensures.value c.place_of.ensures c.in_default.is)

pub returns-in_default-clause-said : goal.returns-in_default-clause-said
returns-in_default-clause-said c = (nothing (goal.at.returns-in_default-clause-said c).In_default).said_is

pub returns-in_default-clause-new : goal.returns-in_default-clause-new
returns-in_default-clause-new c = (nothing (goal.at.returns-in_default-clause-new c).In_default).left_is

-- A token is stored

place : (c : After-index) → Found c.self.inside.agent c.self.inside.kept.items c.args.number c.in-Some.place
place c =
    found c.self.inside.agent c.self.inside.tab c.self.inside.entered c.self.inside.kept.items c.deref.result.now c.args.number c.in-Some.place c.index.result.now c.place_of.result c.self.invariant c.deref.ensures.value c.place_of.ensures c.in-Some.is

other : (c : After-index) → is_request c.index.result.now.operation ≡ false → Aborts c.args.self.now c.args.number became.Nothing c.args.self.now
other c no_request =
    subst (λ (a : TabState). Aborts a c.args.number became.Nothing a) c.self.view_is (abort-other c.self.inside.agent c.self.inside.kept.items c.args.number c.in-Some.place c.index.result.now (place c) c.index.ensures no_request)

pub returns-then-not-is_request-clause-said : goal.returns-then-not-is_request-clause-said
returns-then-not-is_request-clause-said c = (other (goal.at.returns-then-not-is_request-clause-said c).After-index (search rules)).said_is

pub returns-then-not-is_request-clause-new : goal.returns-then-not-is_request-clause-new
returns-then-not-is_request-clause-new c = (other (goal.at.returns-then-not-is_request-clause-new c).After-index (search rules)).left_is

held : (c : After-is_lock) → Found c.self.inside.agent c.self.inside.kept.items c.args.number c.in-Some.place → is_lock c.index-2.result.now.token ≡ true → Aborts c.args.self.now c.args.number became.Held c.args.self.now
held c f lock =
    let request : is_request c.index.result.now.operation ≡ true = search rules in
    subst (λ (a : TabState). Aborts a c.args.number became.Held a) c.self.view_is (abort-held c.self.inside.agent c.self.inside.kept.items c.args.number c.in-Some.place c.index.result.now c.index-2.result.now f c.index.ensures request c.index-2.ensures lock)

pub returns-then-is_lock-clause-said : goal.returns-then-is_lock-clause-said
returns-then-is_lock-clause-said c =
    let at = goal.at.returns-then-is_lock-clause-said c in
    (held at.After-is_lock (place at.After-index) (search rules)).said_is

pub returns-then-is_lock-clause-new : goal.returns-then-is_lock-clause-new
returns-then-is_lock-clause-new c =
    let at = goal.at.returns-then-is_lock-clause-new c in
    (held at.After-is_lock (place at.After-index) (search rules)).left_is

-- The token belongs to a request that is asked

taken : (c : After-abort) → Found c.self.inside.agent c.self.inside.kept.items c.args.number c.in-Some.place → TakenOut c.self.inside.agent c.args.number c.remove-operation.result.token
taken c f =
    let request : is_request c.index.result.now.operation ≡ true = search rules in
    let free : is_lock c.index-2.result.now.token ≡ false = search rules in
    abort-asked c.self.inside.agent c.self.inside.tab c.self.inside.entered c.self.inside.kept.items c.args.number c.in-Some.place c.index.result.now c.index-2.result.now c.remove-operation.result c.self.invariant f c.index.ensures request c.index-2.ensures free c.remove-operation.ensures.value

keeps : (c : In-Ok) → Found c.self.inside.agent c.self.inside.kept.items c.args.number c.in-Some.place → TakenOut c.self.inside.agent c.args.number c.remove-operation.result.token → IsKept c.abort.new.agent c.self.inside.tab c.self.inside.entered c.remove-operation.new.self.items
keeps c f t =
    kept-finish c.self.inside.agent c.abort.new.agent c.self.inside.tab c.self.inside.entered c.self.inside.kept.items c.remove-operation.new.self.items (Abort c.args.number) c.args.number c.in-Some.place c.self.invariant f c.remove-operation.ensures.items (c.in-Ok.ensures.ok ∙ ap (λ n. aborted n c.self.inside.agent) t.number_is)

pub invariant_of-self : goal.invariant_of-self
invariant_of-self c =
    let at = goal.at.invariant_of-self c in
    keeps at.In-Ok (place at.After-index) (taken at.After-abort (place at.After-index))

pub invariant_of-self-in-Ok-2 : goal.invariant_of-self-in-Ok-2
invariant_of-self-in-Ok-2 c =
    let at = goal.at.invariant_of-self-in-Ok-2 c in
    keeps at.In-Ok (place at.After-index) (taken at.After-abort (place at.After-index))

pub invariant_of-self-in-Err : goal.invariant_of-self-in-Err
invariant_of-self-in-Err c =
    let at = goal.at.invariant_of-self-in-Err c in
    apart _ (taken at.After-abort (place at.After-index)).may c.in-Err.ensures.refused

issued : (c : In-Ok) → TakenOut c.self.inside.agent c.args.number c.remove-operation.result.token → Aborts c.args.self.now c.args.number (became.Issued c.in-Ok.next) c.abort.new.agent
issued c t =
    let left = c.in-Ok.ensures.ok ∙ ap (λ n. aborted n c.self.inside.agent) t.number_is in
    subst (λ (a : TabState). Aborts a c.args.number (became.Issued c.in-Ok.next) c.abort.new.agent) c.self.view_is (record {
      said_is = ap became.Issued c.in-Ok.ensures.next ∙ t.issued.said_is;
      left_is = left ∙ t.issued.left_is;
    })

pub returns-in-Ok-clause-said : goal.returns-in-Ok-clause-said
returns-in-Ok-clause-said c =
    let at = goal.at.returns-in-Ok-clause-said c in
    (issued at.In-Ok (taken at.After-abort (place at.After-index))).said_is

pub returns-in-Ok-clause-new : goal.returns-in-Ok-clause-new
returns-in-Ok-clause-new c =
    let at = goal.at.returns-in-Ok-clause-new c in
    let left = (issued at.In-Ok (taken at.After-abort (place at.After-index))).left_is in
    search (rules, left)

pub returns-in-Err-clause-said : goal.returns-in-Err-clause-said
returns-in-Err-clause-said c =
    let at = goal.at.returns-in-Err-clause-said c in
    apart _ (taken at.After-abort (place at.After-index)).may c.in-Err.ensures.refused

pub returns-in-Err-clause-new : goal.returns-in-Err-clause-new
returns-in-Err-clause-new c =
    let at = goal.at.returns-in-Err-clause-new c in
    apart _ (taken at.After-abort (place at.After-index)).may c.in-Err.ensures.refused
