-- Proof by cases on the first open object: it is no destination, its inbox is full, or it takes the
-- post.
use Rattle.std.proofs.Common.{◌≡◌, ◌++◌, [], ◌∷◌, sym, ap, ◌∙◌, append-nil, arith}
use Rattle.std.proofs.lemmas.Result.{MatchResult-weaker}
use Rattle.wl_broadcast.proofs.Delivering.{number_bounds, reaches, delivered_on, skips, fills, takes, numbers_on, delivered_to_none}
use Rattle.wl_broadcast.proofs.object.+deliver.Goals as goal

pub returns-in_default-clause-ok : goal.returns-in_default-clause-ok
returns-in_default-clause-ok t c =
    sym (delivered_to_none _ c.args.first c.args.objects.now c.args.delivery.now.sender c.args.delivery.now.name.now c.args.delivery.now.letter.now c.requires.open c.in_default.ensures.cases).objects

pub returns-in_default-clause-took : goal.returns-in_default-clause-took
returns-in_default-clause-took t c =
    let n = delivered_to_none _ c.args.first c.args.objects.now c.args.delivery.now.sender c.args.delivery.now.name.now c.args.delivery.now.letter.now c.requires.open c.in_default.ensures.cases in sym (append-nil _) ∙ ap (λ xs. c.args.takers.now.took.items ++ xs) (sym n.took)

pub returns-in_default-clause-full : goal.returns-in_default-clause-full
returns-in_default-clause-full t c =
    let n = delivered_to_none _ c.args.first c.args.objects.now c.args.delivery.now.sender c.args.delivery.now.name.now c.args.delivery.now.letter.now c.requires.open c.in_default.ensures.cases in sym (append-nil _) ∙ ap (λ xs. c.args.takers.now.full.items ++ xs) (sym n.full)

pub overflow_sub-number : goal.overflow_sub-number
overflow_sub-number t c =
    let b = number_bounds _ _ _ _ c.args.objects.now c.requires.open c.in-Some.ensures.cases.0 in b.0

pub split_at_mut-from-requires : goal.split_at_mut-from-requires
split_at_mut-from-requires t c =
    let b = number_bounds _ _ _ _ c.args.objects.now c.requires.open c.in-Some.ensures.cases.0 in omega (arith, b.1)

pub unreachable-requires : goal.unreachable-requires
unreachable-requires t c =
    let b = number_bounds _ _ _ _ c.args.objects.now c.requires.open c.in-Some.ensures.cases.0 in
    omega (arith, b.0, b.1, c.split_at_mut-from.ensures.back_len, c.in_default-split_first_mut.ensures.cases)

pub deliver-requires : goal.deliver-requires
deliver-requires t c =
    let r = reaches _ c.args.first c.in-Some.number.now c.in-Some.later.now c.args.objects.now c.split_at_mut-from.result.0.now _ c.in-Some-split_first_mut.object.now c.in-Some-split_first_mut.behind.now c.args.delivery.now.sender c.args.delivery.now.name.now c.args.delivery.now.letter.now c.requires.open c.in-Some.ensures.cases.0 c.split_at_mut-from.ensures.value c.in-Some-split_first_mut.ensures.cases.0 c.split_at_mut-from.ensures.front_len in
    (omega (arith, c.decreases, c.in-Some.ensures.cases.1), (omega (arith, r.below_end, r.from_first, c.requires.numbers, c.split_at_mut-from.ensures.front_len, c.split_at_mut-from.ensures.back_len, c.in-Some-split_first_mut.ensures.cases.1), sym r.first.open_behind))

pub deliver-requires-then-not-has_room : goal.deliver-requires-then-not-has_room
deliver-requires-then-not-has_room t c =
    let r = reaches _ c.args.first c.in-Some.number.now c.in-Some.later.now c.args.objects.now c.split_at_mut-from.result.0.now _ c.in-Some-split_first_mut.object.now c.in-Some-split_first_mut.behind.now c.args.delivery.now.sender c.args.delivery.now.name.now c.args.delivery.now.letter.now c.requires.open c.in-Some.ensures.cases.0 c.split_at_mut-from.ensures.value c.in-Some-split_first_mut.ensures.cases.0 c.split_at_mut-from.ensures.front_len in
    (omega (arith, c.decreases, c.in-Some.ensures.cases.1), (omega (arith, r.below_end, r.from_first, c.requires.numbers, c.split_at_mut-from.ensures.front_len, c.split_at_mut-from.ensures.back_len, c.in-Some-split_first_mut.ensures.cases.1), sym r.first.open_behind))

pub deliver-requires-2 : goal.deliver-requires-2
deliver-requires-2 t c =
    let r = reaches _ c.args.first c.in-Some.number.now c.in-Some.later.now c.args.objects.now c.split_at_mut-from.result.0.now _ c.in-Some-split_first_mut.object.now c.in-Some-split_first_mut.behind.now c.args.delivery.now.sender c.args.delivery.now.name.now c.args.delivery.now.letter.now c.requires.open c.in-Some.ensures.cases.0 c.split_at_mut-from.ensures.value c.in-Some-split_first_mut.ensures.cases.0 c.split_at_mut-from.ensures.front_len in
    (omega (arith, c.decreases, c.in-Some.ensures.cases.1), (omega (arith, r.below_end, r.from_first, c.requires.numbers, c.split_at_mut-from.ensures.front_len, c.split_at_mut-from.ensures.back_len, c.in-Some-split_first_mut.ensures.cases.1), sym r.first.open_behind))

pub returns-then-not-is_for-clause-ok : goal.returns-then-not-is_for-clause-ok
returns-then-not-is_for-clause-ok t c =
    let r = reaches _ c.args.first c.in-Some.number.now c.in-Some.later.now c.args.objects.now c.split_at_mut-from.result.0.now _ c.in-Some-split_first_mut.object.now c.in-Some-split_first_mut.behind.now c.args.delivery.now.sender c.args.delivery.now.name.now c.args.delivery.now.letter.now c.requires.open c.in-Some.ensures.cases.0 c.split_at_mut-from.ensures.value c.in-Some-split_first_mut.ensures.cases.0 c.split_at_mut-from.ensures.front_len in
    let s = skips _ _ _ _ _ _ _ _ _ _ r (sym c.is_for.ensures ∙ c.if-not-is_for.true) in
    MatchResult-weaker c.deliver.result c.deliver.ensures.ok (λ _ on. delivered_on _ _ _ _ _ _ _ _ _ _ r _ _ s.becomes on) (λ _ u. u)

pub returns-then-not-is_for-clause-took : goal.returns-then-not-is_for-clause-took
returns-then-not-is_for-clause-took t c =
    let r = reaches _ c.args.first c.in-Some.number.now c.in-Some.later.now c.args.objects.now c.split_at_mut-from.result.0.now _ c.in-Some-split_first_mut.object.now c.in-Some-split_first_mut.behind.now c.args.delivery.now.sender c.args.delivery.now.name.now c.args.delivery.now.letter.now c.requires.open c.in-Some.ensures.cases.0 c.split_at_mut-from.ensures.value c.in-Some-split_first_mut.ensures.cases.0 c.split_at_mut-from.ensures.front_len in
    let s = skips _ _ _ _ _ _ _ _ _ _ r (sym c.is_for.ensures ∙ c.if-not-is_for.true) in
    MatchResult-weaker c.deliver.result c.deliver.ensures.took (λ _ on. numbers_on _ _ _ _ _ _ (sym (append-nil _)) on s.took) (λ _ u. u)

pub returns-then-not-is_for-clause-full : goal.returns-then-not-is_for-clause-full
returns-then-not-is_for-clause-full t c =
    let r = reaches _ c.args.first c.in-Some.number.now c.in-Some.later.now c.args.objects.now c.split_at_mut-from.result.0.now _ c.in-Some-split_first_mut.object.now c.in-Some-split_first_mut.behind.now c.args.delivery.now.sender c.args.delivery.now.name.now c.args.delivery.now.letter.now c.requires.open c.in-Some.ensures.cases.0 c.split_at_mut-from.ensures.value c.in-Some-split_first_mut.ensures.cases.0 c.split_at_mut-from.ensures.front_len in
    let s = skips _ _ _ _ _ _ _ _ _ _ r (sym c.is_for.ensures ∙ c.if-not-is_for.true) in
    MatchResult-weaker c.deliver.result c.deliver.ensures.full (λ _ on. numbers_on _ _ _ _ _ _ (sym (append-nil _)) on s.full) (λ _ u. u)

pub returns-then-not-has_room-clause-ok : goal.returns-then-not-has_room-clause-ok
returns-then-not-has_room-clause-ok t c =
    let r = reaches _ c.args.first c.in-Some.number.now c.in-Some.later.now c.args.objects.now c.split_at_mut-from.result.0.now _ c.in-Some-split_first_mut.object.now c.in-Some-split_first_mut.behind.now c.args.delivery.now.sender c.args.delivery.now.name.now c.args.delivery.now.letter.now c.requires.open c.in-Some.ensures.cases.0 c.split_at_mut-from.ensures.value c.in-Some-split_first_mut.ensures.cases.0 c.split_at_mut-from.ensures.front_len in
    let s = fills _ _ _ _ _ _ _ _ _ _ r (sym c.is_for.ensures ∙ c.if-not-is_for.false) (sym c.has_room.ensures ∙ c.if-not-has_room.true) in
    MatchResult-weaker c.deliver-then-not-has_room.result c.deliver-then-not-has_room.ensures.ok (λ _ on. delivered_on _ _ _ _ _ _ _ _ _ _ r _ _ s.becomes on) (λ _ u. u)

pub returns-then-not-has_room-clause-took : goal.returns-then-not-has_room-clause-took
returns-then-not-has_room-clause-took t c =
    let r = reaches _ c.args.first c.in-Some.number.now c.in-Some.later.now c.args.objects.now c.split_at_mut-from.result.0.now _ c.in-Some-split_first_mut.object.now c.in-Some-split_first_mut.behind.now c.args.delivery.now.sender c.args.delivery.now.name.now c.args.delivery.now.letter.now c.requires.open c.in-Some.ensures.cases.0 c.split_at_mut-from.ensures.value c.in-Some-split_first_mut.ensures.cases.0 c.split_at_mut-from.ensures.front_len in
    let s = fills _ _ _ _ _ _ _ _ _ _ r (sym c.is_for.ensures ∙ c.if-not-is_for.false) (sym c.has_room.ensures ∙ c.if-not-has_room.true) in
    MatchResult-weaker c.deliver-then-not-has_room.result c.deliver-then-not-has_room.ensures.took (λ _ on. numbers_on _ _ _ _ _ _ (sym (append-nil _)) on s.took) (λ _ u. u)

pub returns-then-not-has_room-clause-full : goal.returns-then-not-has_room-clause-full
returns-then-not-has_room-clause-full t c =
    let r = reaches _ c.args.first c.in-Some.number.now c.in-Some.later.now c.args.objects.now c.split_at_mut-from.result.0.now _ c.in-Some-split_first_mut.object.now c.in-Some-split_first_mut.behind.now c.args.delivery.now.sender c.args.delivery.now.name.now c.args.delivery.now.letter.now c.requires.open c.in-Some.ensures.cases.0 c.split_at_mut-from.ensures.value c.in-Some-split_first_mut.ensures.cases.0 c.split_at_mut-from.ensures.front_len in
    let s = fills _ _ _ _ _ _ _ _ _ _ r (sym c.is_for.ensures ∙ c.if-not-is_for.false) (sym c.has_room.ensures ∙ c.if-not-has_room.true) in
    MatchResult-weaker c.deliver-then-not-has_room.result c.deliver-then-not-has_room.ensures.full (λ _ on. numbers_on _ _ _ _ _ _ c.in_ok-push.ensures.items on s.full) (λ _ u. u)

pub returns-clause-ok : goal.returns-clause-ok
returns-clause-ok t c =
    let r = reaches _ c.args.first c.in-Some.number.now c.in-Some.later.now c.args.objects.now c.split_at_mut-from.result.0.now _ c.in-Some-split_first_mut.object.now c.in-Some-split_first_mut.behind.now c.args.delivery.now.sender c.args.delivery.now.name.now c.args.delivery.now.letter.now c.requires.open c.in-Some.ensures.cases.0 c.split_at_mut-from.ensures.value c.in-Some-split_first_mut.ensures.cases.0 c.split_at_mut-from.ensures.front_len in
    let s = takes _ _ _ _ _ _ _ _ _ _ r (sym c.is_for.ensures ∙ c.if-not-is_for.false) (sym c.has_room.ensures ∙ c.if-not-has_room.false) in
    let waits : c.push_back_reserved.new.self.items ≡ c.in-Some-split_first_mut.object.now.inbox.items ++ c.args.delivery.now.letter.now ∷ [] = c.push_back_reserved.ensures.items ∙ ap (λ xs. xs ++ c.in_ok-copy.copy ∷ []) c.in_ok-reserve.ensures.items ∙ ap (λ l. c.in-Some-split_first_mut.object.now.inbox.items ++ l ∷ []) c.in_ok-copy.ensures in
    delivered_on _ _ _ _ _ _ _ _ _ _ r _ _ (ap (λ xs. record { name = c.in-Some-split_first_mut.object.now.name; is_open = c.in-Some-split_first_mut.object.now.is_open; inbox = xs }) waits ∙ s.becomes) c.in_default-deliver.ensures.ok

pub returns-clause-took : goal.returns-clause-took
returns-clause-took t c =
    let r = reaches _ c.args.first c.in-Some.number.now c.in-Some.later.now c.args.objects.now c.split_at_mut-from.result.0.now _ c.in-Some-split_first_mut.object.now c.in-Some-split_first_mut.behind.now c.args.delivery.now.sender c.args.delivery.now.name.now c.args.delivery.now.letter.now c.requires.open c.in-Some.ensures.cases.0 c.split_at_mut-from.ensures.value c.in-Some-split_first_mut.ensures.cases.0 c.split_at_mut-from.ensures.front_len in
    let s = takes _ _ _ _ _ _ _ _ _ _ r (sym c.is_for.ensures ∙ c.if-not-is_for.false) (sym c.has_room.ensures ∙ c.if-not-has_room.false) in
    numbers_on _ _ _ _ _ _ c.in_ok-push-2.ensures.items c.in_default-deliver.ensures.took s.took

pub returns-clause-full : goal.returns-clause-full
returns-clause-full t c =
    let r = reaches _ c.args.first c.in-Some.number.now c.in-Some.later.now c.args.objects.now c.split_at_mut-from.result.0.now _ c.in-Some-split_first_mut.object.now c.in-Some-split_first_mut.behind.now c.args.delivery.now.sender c.args.delivery.now.name.now c.args.delivery.now.letter.now c.requires.open c.in-Some.ensures.cases.0 c.split_at_mut-from.ensures.value c.in-Some-split_first_mut.ensures.cases.0 c.split_at_mut-from.ensures.front_len in
    let s = takes _ _ _ _ _ _ _ _ _ _ r (sym c.is_for.ensures ∙ c.if-not-is_for.false) (sym c.has_room.ensures ∙ c.if-not-has_room.false) in
    numbers_on _ _ _ _ _ _ (sym (append-nil _)) c.in_default-deliver.ensures.full s.full
