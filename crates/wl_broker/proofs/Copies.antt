-- Copies of the frames that are sent.
use Rattle.std.proofs.Common.{◌≡◌, ℕ, List, [], ◌∷◌, length, replicate, Some, sym, ap, ◌∙◌}
use Rattle.wl_grammar.specs.declared.frame.Addressed.{Addressed}
use Rattle.wl_broker.specs.Broker.{BrokerState, Taking, Drops, Does, copied, repeated}

abbrev Told : Type 0
Told = BrokerState × List (List Addressed)

pub copied_as : (n : ℕ) (x : Taking) (after : BrokerState) (outs : List Addressed) (all : List (List Addressed)) → x ≡ Does after outs → all ≡ replicate n outs → copied n x ≡ Some (after, all)
copied_as n x after outs all e h = ap (copied n) e ∙ ap (λ (xs : List (List Addressed)). Some (after, xs)) (sym h)

pub repeated_as : (n : ℕ) (x : BrokerState × List Addressed) (after : BrokerState) (outs : List Addressed) (all : List (List Addressed)) → x ≡ (after, outs) → all ≡ replicate n outs → repeated n x ≡ (after, all)
repeated_as n x after outs all e h = ap (repeated n) e ∙ ap (λ (xs : List (List Addressed)). (after, xs)) (sym h)

some_same : {x y : Told} → Some x ≡ Some y → x ≡ y
some_same e = cc

pub one_length : (x : Taking) (after : BrokerState) (all : List (List Addressed)) → copied 1 x ≡ Some (after, all) → length all ≡ 1
one_length (Drops reason) after all e = cc
one_length (Does b outs) after all e = ap (λ (y : Told). length y.1) (sym (some_same e))

pub one_taken : (x : Taking) (after : BrokerState) (all : List (List Addressed)) (one : List Addressed) → copied 1 x ≡ Some (after, all) → ((outs : List Addressed) → all ≡ outs ∷ [] → one ≡ outs) → x ≡ Does after one
one_taken (Drops reason) after all one e h = cc
one_taken (Does b outs) after all one e h =
    let same = some_same e in
    ap (λ (y : BrokerState). Does y outs) (ap (λ (y : Told). y.0) same) ∙ ap (λ (xs : List Addressed). Does after xs) (sym (h outs (ap (λ (y : Told). y.1) (sym same))))

pub one_length_dead : (x : BrokerState × List Addressed) (after : BrokerState) (all : List (List Addressed)) → repeated 1 x ≡ (after, all) → length all ≡ 1
one_length_dead x after all e = ap (λ (y : Told). length y.1) (sym e)

pub one_buried : (x : BrokerState × List Addressed) (after : BrokerState) (all : List (List Addressed)) (one : List Addressed) → repeated 1 x ≡ (after, all) → ((outs : List Addressed) → all ≡ outs ∷ [] → one ≡ outs) → x ≡ (after, one)
one_buried x after all one e h =
    ap (λ (y : BrokerState). (y, x.1)) (ap (λ (y : Told). y.0) e) ∙ ap (λ (xs : List Addressed). (after, xs)) (sym (h x.1 (ap (λ (y : Told). y.1) (sym e))))
