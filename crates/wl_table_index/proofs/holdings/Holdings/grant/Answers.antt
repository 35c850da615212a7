use Rattle.std.proofs.Common.{◌≡◌, ◌∙◌, ◌||◌, true, false, cond, Some, sym, ap}
use Rattle.std.specs.Prelude.{◌==◌, nat_eq}
use Rattle.std.specs.HashMap.{get}
use Rattle.wl_table_index.specs.Clients.{is_latest, is_further}
use Rattle.wl_table_index.proofs.HoldingLemmas.{granted_latest, granted-held, granted-waiting, granted-none, place-there}
use Rattle.wl_table_index.proofs.holdings.Holdings.grant.Goals as goal

pub returns-in-Some-clause-held : goal.returns-in-Some-clause-held
returns-in-Some-clause-held c = λ n o.
    let number = c.args.number in
    let was = get nat_eq c.args.self.now.places in
    let now = get nat_eq (c.get_mut.follows.lender c.granted.result) in
    let u = (c.get_mut.follows.holds c.granted.result).3 (place-there c.in-Some.place.now _ c.in-Some.ensures.value) in
    let e : now n ≡ cond (number == n) (granted_latest c.args.order c.args.granted (was number)) (was n) = u.0 n ∙ ap (λ q. cond (number == n) q (was n)) (ap (λ x. Some x) c.granted.ensures ∙ ap (λ q. granted_latest c.args.order c.args.granted q) c.in-Some.ensures.value) in
    ap (λ fs. is_latest (now n) o true || is_further fs n o true) c.grant_further.ensures ∙ granted-held number n o c.args.order c.args.granted was now c.args.self.now.further.items e c.requires

pub returns-in-Some-clause-waiting : goal.returns-in-Some-clause-waiting
returns-in-Some-clause-waiting c = λ n o.
    let number = c.args.number in
    let was = get nat_eq c.args.self.now.places in
    let now = get nat_eq (c.get_mut.follows.lender c.granted.result) in
    let u = (c.get_mut.follows.holds c.granted.result).3 (place-there c.in-Some.place.now _ c.in-Some.ensures.value) in
    let e : now n ≡ cond (number == n) (granted_latest c.args.order c.args.granted (was number)) (was n) = u.0 n ∙ ap (λ q. cond (number == n) q (was n)) (ap (λ x. Some x) c.granted.ensures ∙ ap (λ q. granted_latest c.args.order c.args.granted q) c.in-Some.ensures.value) in
    ap (λ fs. is_latest (now n) o false || is_further fs n o false) c.grant_further.ensures ∙ granted-waiting number n o c.args.order c.args.granted was now c.args.self.now.further.items e

pub returns-in-None-clause-held : goal.returns-in-None-clause-held
returns-in-None-clause-held c = λ n o.
    let number = c.args.number in
    let was = get nat_eq c.args.self.now.places in
    let now = get nat_eq c.get_mut.follows.lender-at-none in
    let e : now n ≡ cond (number == n) (granted_latest c.args.order c.args.granted (was number)) (was n) = ap (λ m. get nat_eq m n) c.get_mut.follows.holds-at-none ∙ granted-none number n c.args.order c.args.granted was (sym c.in-None.ensures.value) in
    ap (λ fs. is_latest (now n) o true || is_further fs n o true) c.grant_further.ensures ∙ granted-held number n o c.args.order c.args.granted was now c.args.self.now.further.items e c.requires

pub returns-in-None-clause-waiting : goal.returns-in-None-clause-waiting
returns-in-None-clause-waiting c = λ n o.
    let number = c.args.number in
    let was = get nat_eq c.args.self.now.places in
    let now = get nat_eq c.get_mut.follows.lender-at-none in
    let e : now n ≡ cond (number == n) (granted_latest c.args.order c.args.granted (was number)) (was n) = ap (λ m. get nat_eq m n) c.get_mut.follows.holds-at-none ∙ granted-none number n c.args.order c.args.granted was (sym c.in-None.ensures.value) in
    ap (λ fs. is_latest (now n) o false || is_further fs n o false) c.grant_further.ensures ∙ granted-waiting number n o c.args.order c.args.granted was now c.args.self.now.further.items e
