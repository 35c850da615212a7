-- Posts delivered to an object, and posts read from it.
use Rattle.std.proofs.Common.{◌≡◌, ◌≢◌, ◌⊎◌, inl, inr, ℕ, zero, suc, ◌+◌, ◌<◌, Bool, true, false, ◌&&◌, ◌==◌, if◌then◌else◌, List, [], ◌∷◌, ◌++◌, length, take, drop, Option, Some, None, is_some, refl, sym, ap, ◌∙◌, append-nil, arith}
use Rattle.std.specs.Prelude.{bytes_eq}
use Rattle.std.proofs.lemmas.Bool.{false≢true}
use Rattle.std.proofs.lemmas.Bool.Decides.{nat_tests}
use Rattle.std.proofs.lemmas.List.{drop_at}
use Rattle.std.proofs.lemmas.Slice.Eq.{bytes_eq-Decides}
use Rattle.wl_broadcast.specs.declared.letter.Letter.{Letter}
use Rattle.wl_broadcast.specs.Channels.{Object, ChannelState, new_object, inbox_limit, is_other, has_room, delivered_to, delivered_from, changed_at, inbox_at, name_at, is_open_at, rest_of, opened, posted, heard, is_old, is_own, open_refusal, post_refusal, read_at, closed_at}
use Rattle.wl_broadcast.specs.Heard.{Opens, Posts, Hears, Reads, Closes, ReadsInOrder, DeliversNew, DeliversOwn}
use Rattle.wl_broadcast.proofs.Numbered.{inbox_at-suc, name_at-suc, is_open_at-suc, changed_at-suc}
use Rattle.wl_broadcast.proofs.Gained.{Gains, gains_from, inbox_opened, either, read, close, more, nothing_read}

-- Delivery

delivered_here : (sender : Option ℕ) (name : List ℕ) (letter : Letter) (m : ℕ) (o : Object) → o.is_open ≡ true → o.name ≡ name → is_other sender m ≡ true
    → length o.inbox < inbox_limit → (delivered_to sender name letter m o).inbox ≡ o.inbox ++ letter ∷ []
delivered_here sender name letter m o alive named other room =
    let same : bytes_eq o.name name ≡ true = (bytes_eq-Decides o.name name).1 named in
    let some : has_room o ≡ true = grind (arith, nat_tests) in
    rw (alive, same, other, some) refl

delivered_at : (sender : Option ℕ) (name : List ℕ) (letter : Letter) (m : ℕ) (os : List Object) (k number : ℕ) → m + k ≡ number → is_open_at os k ≡ true → name_at os k ≡ name
    → is_other sender number ≡ true → length (inbox_at os k) < inbox_limit → inbox_at (delivered_from m sender name letter os) k ≡ inbox_at os k ++ letter ∷ []
delivered_at sender name letter m [] k number at alive named other room = cc
delivered_at sender name letter m (o ∷ os) zero number at alive named other room =
    let same : number ≡ m = omega arith in
    delivered_here sender name letter m o alive named (ap (is_other sender) (sym same) ∙ other) room
delivered_at sender name letter m (o ∷ os) (suc k) number at alive named other room =
    inbox_at-suc (delivered_to sender name letter m o) (delivered_from (m + 1) sender name letter os) k
    ∙ delivered_at sender name letter (m + 1) os k number (omega arith) (sym (is_open_at-suc o os k) ∙ alive) (sym (name_at-suc o os k) ∙ named) other (omega (arith, ap length (inbox_at-suc o os k)))
    ∙ ap (λ ls. ls ++ letter ∷ []) (sym (inbox_at-suc o os k))

pub delivers_new : DeliversNew
delivers_new c k h new alive named room =
    let letter : Letter = record { source = h.source; number = h.number; bytes = h.bytes } in
    let P : ChannelState → Type 0 = λ d. inbox_at d.objects k ≡ inbox_at c.objects k ++ letter ∷ [] in
    either (is_old c h.source h.number) P c (heard h c) (λ old. absurd (false≢true (sym new ∙ old)))
    (λ _. delivered_at None h.channel letter 0 c.objects k k (omega arith) alive named refl room)

is_another : (j k : ℕ) → j ≢ k → is_other (Some j) k ≡ true
is_another j k other = grind (arith, nat_tests)

pub delivers_own : DeliversOwn
delivers_own c j k bytes allowed other alive named room =
    let letter : Letter = record { source = c.tab; number = c.posts; bytes = bytes } in
    let P : ChannelState → Type 0 = λ d. inbox_at d.objects k ≡ inbox_at c.objects k ++ letter ∷ [] in
    either (is_some (post_refusal c.tab j bytes c)) P c (posted j bytes c) (λ refused. absurd (false≢true (sym (ap is_some allowed) ∙ refused)))
    (λ _. delivered_at (Some j) (name_at c.objects j) letter 0 c.objects k k (omega arith) alive named (is_another j k other) room)

-- Reading

pub changed_other : (f : Object → Object) (j k : ℕ) (os : List Object) → j ≢ k → inbox_at (changed_at j f os) k ≡ inbox_at os k
changed_other f j k [] other = refl
changed_other f zero zero (o ∷ os) other = absurd (other refl)
changed_other f zero (suc k) (o ∷ os) other = inbox_at-suc (f o) os k ∙ sym (inbox_at-suc o os k)
changed_other f (suc j) zero (o ∷ os) other = ap (λ ps. inbox_at ps 0) (changed_at-suc f o os j)
changed_other f (suc j) (suc k) (o ∷ os) other =
    ap (λ ps. inbox_at ps (suc k)) (changed_at-suc f o os j) ∙ inbox_at-suc o (changed_at j f os) k
    ∙ changed_other f j k os (λ e. other (ap suc e)) ∙ sym (inbox_at-suc o os k)

read_here : (k : ℕ) (os : List Object) → inbox_at (changed_at k read os) k ≡ rest_of (inbox_at os k)
read_here k [] = refl
read_here zero (o ∷ os) = refl
read_here (suc k) (o ∷ os) =
    ap (λ ps. inbox_at ps (suc k)) (changed_at-suc read o os k) ∙ inbox_at-suc o (changed_at k read os) k
    ∙ read_here k os ∙ ap rest_of (sym (inbox_at-suc o os k))

closed_here : (k : ℕ) (os : List Object) → is_open_at (changed_at k close os) k ≡ false
closed_here k [] = refl
closed_here zero (o ∷ os) = refl
closed_here (suc k) (o ∷ os) =
    ap (λ ps. is_open_at ps (suc k)) (changed_at-suc close o os k) ∙ is_open_at-suc o (changed_at k close os) k ∙ closed_here k os

first_and_rest : (ls : List Letter) → ls ≡ take 1 ls ++ rest_of ls
first_and_rest [] = refl
first_and_rest (l ∷ ls) = refl

-- The posts before, followed by those dropped behind them, are all the posts.
behind : (before now xs : List Letter) → now ≡ before ++ xs → before ++ drop (length before) now ≡ now
behind before now xs e = ap (λ ls. before ++ drop (length before) ls) e ∙ ap (λ ls. before ++ ls) (drop_at before xs _ refl) ∙ sym e

same_behind : (before now : List Letter) → now ≡ before → before ++ drop (length before) now ≡ now
same_behind before now e = behind before now [] (e ∙ sym (append-nil before))

gained_behind : (sender : Option ℕ) (name : List ℕ) (letter : Letter) (os after : List Object) (k : ℕ) → (inbox_at after k ≡ inbox_at os k) ⊎ Gains sender name letter k os after k
    → inbox_at os k ++ drop (length (inbox_at os k)) (inbox_at after k) ≡ inbox_at after k
gained_behind sender name letter os after k (inl e) = same_behind (inbox_at os k) (inbox_at after k) e
gained_behind sender name letter os after k (inr g) = behind (inbox_at os k) (inbox_at after k) (letter ∷ []) g.inbox

-- No post is read, and all unread posts stay in the inbox.
abbrev Waits : ℕ → ChannelState → ChannelState → Type 0
Waits k c d = inbox_at c.objects k ++ more k c d ≡ inbox_at d.objects k

waits_itself : (k : ℕ) (c : ChannelState) → Waits k c c
waits_itself k c = same_behind (inbox_at c.objects k) (inbox_at c.objects k) refl

-- The posts read from object `k`, given whether object `j` belongs to the tab and is object `k`.
abbrev read_by : Bool → Bool → List Letter → List Letter
read_by own same ls = if own && same then take 1 ls else []

same_number : (j k : ℕ) → (j == k) ≡ true → j ≡ k
same_number j k e = grind (arith, nat_tests)

other_number : (j k : ℕ) → (j == k) ≡ false → j ≢ k
other_number j k e same = grind (arith, nat_tests)

reads_by : (k j : ℕ) (c : ChannelState) (same : Bool) → (j == k) ≡ same
    → inbox_at c.objects k ++ more k c (read_at j c) ≡ read_by true same (inbox_at c.objects k) ++ inbox_at (read_at j c).objects k
reads_by k j c true here =
    let at : inbox_at (read_at j c).objects k ≡ rest_of (inbox_at c.objects k) = ap (λ i. inbox_at (changed_at i read c.objects) k) (same_number j k here) ∙ read_here k c.objects in
    ap (λ ls. inbox_at c.objects k ++ ls) (nothing_read k j c) ∙ append-nil (inbox_at c.objects k) ∙ first_and_rest (inbox_at c.objects k) ∙ ap (λ ls. take 1 (inbox_at c.objects k) ++ ls) (sym at)
reads_by k j c false elsewhere = same_behind (inbox_at c.objects k) (inbox_at (read_at j c).objects k) (changed_other read j k c.objects (other_number j k elsewhere))

closes_by : (k j : ℕ) (c : ChannelState) (same : Bool) → (j == k) ≡ same → is_open_at (closed_at j c).objects k ≡ true → Waits k c (closed_at j c)
closes_by k j c true here alive =
    absurd (false≢true (sym (closed_here k c.objects) ∙ ap (λ i. is_open_at (changed_at i close c.objects) k) (sym (same_number j k here)) ∙ alive))
closes_by k j c false elsewhere alive = same_behind (inbox_at c.objects k) (inbox_at (closed_at j c).objects k) (changed_other close j k c.objects (other_number j k elsewhere))

reads_or_not : (k j : ℕ) (c : ChannelState) (own : Bool) → inbox_at c.objects k ++ more k c (if own then read_at j c else c) ≡ read_by own (j == k) (inbox_at c.objects k) ++ inbox_at (if own then read_at j c else c).objects k
reads_or_not k j c true = reads_by k j c (j == k) refl
reads_or_not k j c false = waits_itself k c

pub reads_in_order : ReadsInOrder
reads_in_order c k (Opens name) alive =
    either (is_some (open_refusal name c)) (Waits k c) c (opened name c) (λ _. waits_itself k c)
    (λ _. same_behind (inbox_at c.objects k) (inbox_at (opened name c).objects k) (inbox_opened c.objects (new_object name) k refl))
reads_in_order c k (Posts j bytes) alive =
    let letter : Letter = record { source = c.tab; number = c.posts; bytes = bytes } in
    either (is_some (post_refusal c.tab j bytes c)) (Waits k c) c (posted j bytes c) (λ _. waits_itself k c)
    (λ _. gained_behind (Some j) (name_at c.objects j) letter c.objects (posted j bytes c).objects k (gains_from (Some j) (name_at c.objects j) letter 0 c.objects k k (omega arith)))
reads_in_order c k (Hears h) alive =
    let letter : Letter = record { source = h.source; number = h.number; bytes = h.bytes } in
    either (is_old c h.source h.number) (Waits k c) c (heard h c) (λ _. waits_itself k c)
    (λ _. gained_behind None h.channel letter c.objects (heard h c).objects k (gains_from None h.channel letter 0 c.objects k k (omega arith)))
reads_in_order c k (Reads j) alive = reads_or_not k j c (is_own c c.tab j)
reads_in_order c k (Closes j) alive =
    let P : ChannelState → Type 0 = λ d. is_open_at d.objects k ≡ true → Waits k c d in
    either (is_own c c.tab j) P (closed_at j c) c (λ _ still. closes_by k j c (j == k) refl still) (λ _ still. waits_itself k c) alive
