-- Messages that compare equal are identical, so a message that was sent is in the bag.
use Rattle.std.proofs.Common.{◌≡◌, ◌⊎◌, inl, inr, ⊎_elim, ℕ, true, ◌&&◌, List, [], ◌∷◌, ◌++◌, refl, sym, ap, ap₂, subst}
use Rattle.std.specs.Prelude.{◌==◌, bytes_eq}
use Rattle.std.proofs.lemmas.Bool.{and_parts, eqb-true}
use Rattle.wl_grammar.specs.declared.frame.Answer.{Answer}
use Rattle.wl_grammar.specs.declared.frame.Heard.{Heard}
use Rattle.wl_grammar.specs.declared.frame.Hello.{Hello}
use Rattle.wl_grammar.specs.declared.frame.Stamped.{Stamped}
use Rattle.wl_grammar.specs.declared.frame.Addressed.{Addressed}
use Rattle.wl_grammar.specs.declared.frame.Upward.{Upward}
use Rattle.wl_grammar.specs.declared.frame.Downward.{Downward}
use Rattle.wl_grammar.specs.declared.frame.Downward.TheVariants as down
use Rattle.wl_world_messages.specs.declared.message.Sender.{Sender}
use Rattle.wl_world_messages.specs.declared.message.Sender.TheVariants.{Kernel, Broker}
use Rattle.wl_world_messages.specs.declared.message.Message.{Message}
use Rattle.wl_world_messages.specs.declared.message.Message.TheVariants.{Up, Down, Across}
use Rattle.wl_draft.specs.Membership.{In, Here, Later}
use Rattle.wl_world_messages.specs.Messages.{same_heard, same_sender, same_message, is_sent, sent, sent_all}
use Rattle.wl_world_messages.proofs.SameFrames.{names-same, stamped-same, addressed-same}
use Rattle.wl_draft.proofs.Membership.{apart, either, In-nil, In-head, In-cons_cases, In-append_left, In-append_right, In-append_cases, In-one, list_any-In}

heard-same : (x y : Heard) → same_heard x y ≡ true → x ≡ y
heard-same x y h =
    let a = and_parts (x.source == y.source && x.number == y.number && bytes_eq x.channel y.channel) (bytes_eq x.bytes y.bytes) h in
    let b = and_parts (x.source == y.source && x.number == y.number) (bytes_eq x.channel y.channel) a.0 in
    let c = and_parts (x.source == y.source) (x.number == y.number) b.0 in
    λ i. record { source = eqb-true x.source y.source c.0 i; number = eqb-true x.number y.number c.1 i; channel = names-same x.channel y.channel b.1 i; bytes = names-same x.bytes y.bytes a.1 i }

sender-same : (x y : Sender) → same_sender x y ≡ true → x ≡ y
sender-same Kernel Kernel h = refl
sender-same Broker Broker h = refl
sender-same _ _ h = apart h refl

pub message-same : (x y : Message) → same_message x y ≡ true → x ≡ y
message-same (Up x) (Up y) h = ap Up (stamped-same x y h)
message-same (Down s x) (Down r y) h =
    let a = and_parts (same_sender s r) _ h in
    λ i. Down (sender-same s r a.0 i) (addressed-same x y a.1 i)
message-same (Across t x) (Across u y) h = ap₂ Across (eqb-true t u (and_parts _ _ h).0) (heard-same x y (and_parts _ _ h).1)
message-same _ _ h = apart h refl

pub is_sent-In : (m : Message) (bag : List Message) → is_sent m bag ≡ true → In m bag
unfolding is_sent
is_sent-In m bag h =
    let o = list_any-In (same_message m) bag h in
    subst (λ z. In z bag) (sym (message-same m o.0 o.2)) o.1

-- The bag after a message is sent

sent-keeps : {x : Message} (m : Message) (bag : List Message) → In x bag → In x (sent m bag)
sent-keeps {x = x} m bag h = either (λ zs. In x zs) (is_sent m bag) bag (bag ++ m ∷ []) (λ _. h) (λ _. In-append_left (m ∷ []) h)

sent-cases : {x : Message} (m : Message) (bag : List Message) → In x (sent m bag) → In x bag ⊎ (x ≡ m)
sent-cases {x = x} m bag h =
    either (λ zs. In x zs → In x bag ⊎ (x ≡ m)) (is_sent m bag) bag (bag ++ m ∷ []) (λ _ i. inl i)
    (λ _ i. ⊎_elim (λ a. inl a) (λ b. inr (In-one b)) (In-append_cases bag (m ∷ []) i)) h

pub sent_all-keeps : {x : Message} (ms bag : List Message) → In x bag → In x (sent_all ms bag)
sent_all-keeps [] bag h = h
sent_all-keeps (m ∷ ms) bag h = sent_all-keeps ms (sent m bag) (sent-keeps m bag h)

pub sent_all-cases : {x : Message} (ms bag : List Message) → In x (sent_all ms bag) → In x bag ⊎ In x ms
sent_all-cases [] bag h = inl h
sent_all-cases (m ∷ ms) bag h =
    ⊎_elim (λ a. ⊎_elim (λ u. inl u) (λ v. inr (In-head v)) (sent-cases m bag a)) (λ b. inr (Later b)) (sent_all-cases ms (sent m bag) h)

-- Common properties of equal messages

up-inner : (x y : Stamped) → Up x ≡ Up y → x ≡ y
up-inner x y e = cc

pub up-same : (t p u q : ℕ) (x y : Upward) → Up (record { tab = t; partition = p; inner = x }) ≡ Up (record { tab = u; partition = q; inner = y }) → (t ≡ u) × (p ≡ q) × (x ≡ y)
up-same t p u q x y e =
    let o = up-inner (record { tab = t; partition = p; inner = x }) (record { tab = u; partition = q; inner = y }) e in
    (ap (λ z. z.tab) o, ap (λ z. z.partition) o, ap (λ z. z.inner) o)

down-inner : (s r : Sender) (x y : Addressed) → Down s x ≡ Down r y → x ≡ y
down-inner s r x y e = cc

pub down-same : (s r : Sender) (t u : ℕ) (x y : Downward) → Down s (record { tab = t; inner = x }) ≡ Down r (record { tab = u; inner = y }) → (t ≡ u) × (x ≡ y)
down-same s r t u x y e =
    let o = down-inner s r (record { tab = t; inner = x }) (record { tab = u; inner = y }) e in
    (ap (λ z. z.tab) o, ap (λ z. z.inner) o)

pub hellos-same : (x y : Hello) → down.Hello x ≡ down.Hello y → x ≡ y
hellos-same x y e = cc

pub answer-no_hello : (x : Answer) (y : Hello) → down.Answer x ≡ down.Hello y → ⊥
answer-no_hello x y e = cc

-- A message that is sent is in the bag

sent-adds : (m : Message) (bag : List Message) → In m (sent m bag)
sent-adds m bag = either (In m) (is_sent m bag) bag (bag ++ m ∷ []) (λ e. is_sent-In m bag e) (λ _. In-append_right bag Here)

pub sent_all-adds : {x : Message} (ms bag : List Message) → In x ms → In x (sent_all ms bag)
sent_all-adds [] bag h = absurd (In-nil h)
sent_all-adds (m ∷ ms) bag h = ⊎_elim
    (λ e. sent_all-keeps ms (sent m bag) (subst (λ z. In z (sent m bag)) (sym e) (sent-adds m bag)))
    (λ j. sent_all-adds ms (sent m bag) j)
    (In-cons_cases h)
