-- Lists of events, restricted to a shard, and the frames that the shards send together.
use Rattle.std.proofs.Common.{◌≡◌, ⊎_elim, ℕ, zero, suc, ◌+◌, ◌<◌, ◌≤◌, Bool, true, false, cond, not, ◌||◌, List, [], ◌∷◌, ◌++◌, map, filter, Option, Some, None, refl, sym, ap, ap₂, ◌∙◌, subst, append-nil, arith}
use Rattle.std.specs.Prelude.{◌==◌, IsPermutation}
use Rattle.std.specs.List.{list_all, range_with_len, flat_map}
use Rattle.std.proofs.Math.Path.{fun_ext}
use Rattle.std.proofs.lemmas.Nat.{mod_below}
use Rattle.std.proofs.lemmas.Bool.{cond-false, eqb-true, eqb-false, eq-eqb, ne_eqb}
use Rattle.std.proofs.lemmas.List.{map-append}
use Rattle.std.proofs.lemmas.List.Sorted.{IsPermutation-refl, IsPermutation-sym, IsPermutation-cons, IsPermutation-trans, IsPermutation-middle, IsPermutation-append_right, IsPermutation-map}
use Rattle.wl_draft.specs.Tables.{at}
use Rattle.wl_draft.proofs.Membership.{apart, either, by_test, In-nil, In-cons_cases, In-head, In-one, In-append_left, In-append_right, In-append_cases, list_all-In, all-In}
use Rattle.wl_draft.specs.Membership.{In, Here, Later}
use Rattle.wl_grammar.specs.declared.frame.Stamped.{Stamped}
use Rattle.wl_grammar.specs.declared.frame.Addressed.{Addressed}
use Rattle.wl_broker.specs.declared.seat.TabSeat.TheVariants.{Dead}
use Rattle.wl_broker.specs.Broker.{BrokerState, started, hello_to, hellos, is_dead, seat_of, place_of, with_seat, buried_at, Taking, Drops, Does, taking, death_step}
use Rattle.wl_broker.specs.Events.{Event, Comes, Dies, broker_after, happens, run}
use Rattle.wl_broker.specs.Shards.{shard_of, is_of, is_for, events_of, seen_at, taking_at, stands_in, named_by, places, stands_once, StandsOnce, one_broker, shard_broker, SeenAtEachShard, AnsweredByItsShard, DeathsSentByShards, DeathsSentByOneShard, HellosOfShards}
use Rattle.wl_broker.proofs.shards.Homes.{Homes, started-Homes, burial-Homes}
use Rattle.wl_broker.proofs.shards.Steps.{own-taking, out-taking, taking-Homes, buries-alike}

-- Partition of a tab

-- The partition of a tab's first entry.
abbrev pub home_in : List (ℕ × ℕ) → ℕ → ℕ
home_in xs t = at 0 xs t

first-place : (xs : List (ℕ × ℕ)) (x : ℕ × ℕ) → In x xs → In (x.0, home_in xs x.0) xs
first-place [] x i = absurd (In-nil i)
first-place (y ∷ ys) x i =
    by_test (λ v. (y.0 == x.0) ≡ v → In (x.0, cond v y.1 (home_in ys x.0)) (y ∷ ys)) (y.0 == x.0)
    (λ s _. In-head (ap (λ z. (z, y.1)) (sym (eqb-true y.0 x.0 s))))
    (λ n _. Later (first-place ys x (⊎_elim (λ e. absurd (eqb-false y.0 x.0 n (sym (ap (λ z. z.0) e)))) (λ j. j) (In-cons_cases i))))
    refl

-- If each tab has only one partition, this is its home.
pub at_home : (xs : List (ℕ × ℕ)) → stands_once xs ≡ true → (x : ℕ × ℕ) → In x xs → home_in xs x.0 ≡ x.1
at_home xs once x i =
    let row = list_all-In (λ x. list_all (λ y. not (x.0 == y.0) || x.1 == y.1) xs) xs once (first-place xs x i) in
    let pair = list_all-In (λ y. not (x.0 == y.0) || home_in xs x.0 == y.1) xs row i in
    eqb-true (home_in xs x.0) x.1 (sym (ap (λ z. not z || home_in xs x.0 == x.1) (eq-eqb x.0 x.0 refl)) ∙ pair)

-- Lists of events

abbrev pub ComesHome : (ℕ → ℕ) → Event → Type 0
ComesHome home (Comes s) = home s.tab ≡ s.partition
ComesHome home (Dies t) = Unit {0}

module _ (home : ℕ → ℕ) where
  pub happens-Homes : (b : BrokerState) (e : Event) → ComesHome home e → Homes home b → Homes home (happens b e)
  happens-Homes b (Comes s) c h = taking-Homes home (λ p. true) b s c h
  happens-Homes b (Dies t) c h = burial-Homes home b t h

  pub run-Homes : (b : BrokerState) (es : List Event) → ((e : Event) → In e es → ComesHome home e) → Homes home b → Homes home (run b es)
  run-Homes b [] c h = h
  run-Homes b (e ∷ es) c h = run-Homes (happens b e) es (λ x i. c x (Later i)) (happens-Homes b e (c e Here) h)

  left-seen : (f : ℕ → Bool) (b : BrokerState) (x : Taking) → broker_after (seen_at f b) (taking_at f x) ≡ seen_at f (broker_after b x)
  left-seen f b (Drops r) = refl
  left-seen f b (Does after outs) = refl

  -- An event of these partitions changes the visible state in the same way.
  pub own-happens : (f : ℕ → Bool) (b : BrokerState) (e : Event) → is_for f e ≡ true → ComesHome home e → Homes home b → seen_at f (happens b e) ≡ happens (seen_at f b) e
  own-happens f b (Comes s) own c h = sym (ap (broker_after (seen_at f b)) (own-taking home f b s own c h) ∙ left-seen f b (taking b s))
  own-happens f b (Dies t) own c h = (buries-alike home f b t h).state

  -- An event of other partitions does not change the visible state.
  pub out-happens : (f : ℕ → Bool) (b : BrokerState) (e : Event) → is_for f e ≡ false → ComesHome home e → Homes home b → seen_at f (happens b e) ≡ seen_at f b
  out-happens f b (Comes s) out c h = out-taking home f b s out c h
  out-happens f b (Dies t) out c h = apart refl out

  pub seen-run : (f : ℕ → Bool) (b : BrokerState) (es : List Event) → ((e : Event) → In e es → ComesHome home e) → Homes home b → seen_at f (run b es) ≡ run (seen_at f b) (events_of f es)
  seen-run f b [] c h = refl
  seen-run f b (e ∷ es) c h =
      seen-run f (happens b e) es (λ x i. c x (Later i)) (happens-Homes b e (c e Here) h)
      ∙ either (λ zs. run (seen_at f (happens b e)) (events_of f es) ≡ run (seen_at f b) zs) (is_for f e) (e ∷ events_of f es) (events_of f es)
      (λ own. ap (λ z. run z (events_of f es)) (own-happens f b e own (c e Here) h))
      (λ out. ap (λ z. run z (events_of f es)) (out-happens f b e out (c e Here) h))

-- Consequences of the premise

named-In : (es : List Event) (s : Stamped) → In (Comes s) es → In (s.tab, s.partition) (flat_map named_by es)
named-In [] s i = absurd (In-nil i)
named-In (e ∷ es) s i =
    ⊎_elim (λ c. In-append_left (flat_map named_by es) (subst (λ z. In (s.tab, s.partition) (named_by z)) c Here)) (λ j. In-append_right (named_by e) (named-In es s j)) (In-cons_cases i)

listed-home : (listed : List (ℕ × ℕ)) (es : List Event) → StandsOnce listed es → (x : ℕ × ℕ) → In x listed → home_in (places listed es) x.0 ≡ x.1
listed-home listed es once x i = at_home (places listed es) once x (In-append_left (flat_map named_by es) i)

events-home : (listed : List (ℕ × ℕ)) (es : List Event) → StandsOnce listed es → (e : Event) → In e es → ComesHome (home_in (places listed es)) e
events-home listed es once (Comes s) i = at_home (places listed es) once (s.tab, s.partition) (In-append_right listed (named-In es s i))
events-home listed es once (Dies t) i = tt

-- All listed tabs and all messages are at home.
pub record AllHome (home : ℕ → ℕ) (listed : List (ℕ × ℕ)) (es : List Event) : Type 0 where
  pub lists : (x : ℕ × ℕ) → In x listed → home x.0 ≡ x.1
  pub comes : (e : Event) → In e es → ComesHome home e

pub all_home : (listed : List (ℕ × ℕ)) (es : List Event) → StandsOnce listed es → AllHome (home_in (places listed es)) listed es
all_home listed es once = record { lists = listed-home listed es once; comes = events-home listed es once }

home_before : {home : ℕ → ℕ} {listed : List (ℕ × ℕ)} (es more : List Event) → AllHome home listed (es ++ more) → AllHome home listed es
home_before es more a = record { lists = a.lists; comes = λ e i. a.comes e (In-append_left more i) }

-- Conversely, the premise holds if some function gives the partition of each tab.
named-cases : (home : ℕ → ℕ) (es : List Event) → ((e : Event) → In e es → ComesHome home e) → (x : ℕ × ℕ) → In x (flat_map named_by es) → home x.0 ≡ x.1
named-cases home [] c x i = absurd (In-nil i)
named-cases home (e ∷ es) c x i =
    ⊎_elim (λ j. one e (c e Here) j) (λ j. named-cases home es (λ y k. c y (Later k)) x j) (In-append_cases (named_by e) (flat_map named_by es) i)
  where
    one : (e : Event) → ComesHome home e → In x (named_by e) → home x.0 ≡ x.1
    one (Comes s) h j = subst (λ (z : ℕ × ℕ). home z.0 ≡ z.1) (sym (In-one j)) h
    one (Dies t) h j = absurd (In-nil j)

pub stands-once : (home : ℕ → ℕ) (listed : List (ℕ × ℕ)) (es : List Event) → AllHome home listed es → StandsOnce listed es
stands-once home listed es a =
    all-In (λ x. list_all (λ y. not (x.0 == y.0) || x.1 == y.1) (places listed es)) (places listed es)
    (λ x i. all-In (λ y. not (x.0 == y.0) || x.1 == y.1) (places listed es)
    (λ y j. by_test (λ v. (x.0 == y.0) ≡ v → (not v || x.1 == y.1) ≡ true) (x.0 == y.0)
    (λ s _. eq-eqb x.1 y.1 (sym (place x i) ∙ ap home (eqb-true x.0 y.0 s) ∙ place y j)) (λ _ _. refl) refl))
  where
    place : (x : ℕ × ℕ) → In x (places listed es) → home x.0 ≡ x.1
    place x i = ⊎_elim (λ j. a.lists x j) (λ j. named-cases home es a.comes x j) (In-append_cases listed (flat_map named_by es) i)

-- The laws, for any home

module _ (home : ℕ → ℕ) where
  pub one_broker-Homes : (g : ℕ) (listed : List (ℕ × ℕ)) (es : List Event) → AllHome home listed es → Homes home (one_broker g listed es)
  one_broker-Homes g listed es a = run-Homes home (started g listed) es a.comes (started-Homes home g listed a.lists)

  pub seen-shard_broker : (f : ℕ → Bool) (g : ℕ) (listed : List (ℕ × ℕ)) (es : List Event) → AllHome home listed es → seen_at f (one_broker g listed es) ≡ shard_broker f g listed es
  seen-shard_broker f g listed es a = seen-run home f (started g listed) es a.comes (started-Homes home g listed a.lists)

  pub answered-alike : (f : ℕ → Bool) (g : ℕ) (listed : List (ℕ × ℕ)) (es : List Event) (m : Stamped) → f m.partition ≡ true → home m.tab ≡ m.partition → AllHome home listed es
      → taking (shard_broker f g listed es) m ≡ taking_at f (taking (one_broker g listed es) m)
  answered-alike f g listed es m own h a =
      ap (λ z. taking z m) (sym (seen-shard_broker f g listed es a)) ∙ own-taking home f (one_broker g listed es) m own h (one_broker-Homes g listed es a)

  pub sent-by_one : (f : ℕ → Bool) (g : ℕ) (listed : List (ℕ × ℕ)) (es : List Event) (t : ℕ) → AllHome home listed es
      → (death_step (shard_broker f g listed es) t).1 ≡ cond (stands_in f (place_of (one_broker g listed es) t)) (death_step (one_broker g listed es) t).1 []
  sent-by_one f g listed es t a =
      ap (λ z. (death_step z t).1) (sym (seen-shard_broker f g listed es a)) ∙ (buries-alike home f (one_broker g listed es) t (one_broker-Homes g listed es a)).sent

pub seen-at_each_shard : SeenAtEachShard
seen-at_each_shard shards s g listed es once = seen-shard_broker (home_in (places listed es)) (is_of shards s) g listed es (all_home listed es once)

pub answered-by_its_shard : AnsweredByItsShard
answered-by_its_shard shards g listed before m after once =
    let all = before ++ Comes m ∷ after in
    let a = all_home listed all once in
    answered-alike (home_in (places listed all)) (is_of shards (shard_of shards m.partition)) g listed before m
    (eq-eqb (shard_of shards m.partition) (shard_of shards m.partition) refl) (a.comes (Comes m) (In-append_right before Here)) (home_before before (Comes m ∷ after) a)

-- Frames sent on a death

pub deaths-sent_by_one_shard : DeathsSentByOneShard
deaths-sent_by_one_shard shards s g listed before t after once =
    let all = before ++ Dies t ∷ after in
    sent-by_one (home_in (places listed all)) (is_of shards s) g listed before t (home_before before (Dies t ∷ after) (all_home listed all once))

none-of_these : {X : Type 0} (k a n : ℕ) (xs : List X) → k < a → flat_map (λ s. cond (k == s) xs []) (range_with_len a n) ≡ []
none-of_these k a zero xs lt = refl
none-of_these k a (suc n) xs lt =
    ap₂ (λ v ys. cond v xs [] ++ ys) (ne_eqb k a (λ e. omega (arith, e))) (none-of_these k (a + 1) n xs (omega arith))

pub one-of_these : {X : Type 0} (k a n : ℕ) (xs : List X) → a ≤ k → k < a + n → flat_map (λ s. cond (k == s) xs []) (range_with_len a n) ≡ xs ++ []
one-of_these k a zero xs le lt = absurd (omega arith)
one-of_these k a (suc n) xs le lt =
    by_test (λ v. (k == a) ≡ v → cond v xs [] ++ flat_map (λ s. cond (k == s) xs []) (range_with_len (a + 1) n) ≡ xs ++ []) (k == a)
    (λ s _. ap (λ ys. xs ++ ys) (none-of_these k (a + 1) n xs (let e : k ≡ a = eqb-true k a s in omega (arith, e))))
    (λ d _. one-of_these k (a + 1) n xs (let other : k ≡ a → ⊥ = eqb-false k a d in omega (arith, other)) (omega arith))
    refl

nothing-of_these : {X : Type 0} (ns : List ℕ) → flat_map {A = X} (λ s. []) ns ≡ []
nothing-of_these [] = refl
nothing-of_these (n ∷ ns) = nothing-of_these ns

nobody-told : (b : BrokerState) (t : ℕ) → place_of b t ≡ None → (death_step b t).1 ≡ []
unfolding death_step
nobody-told b t e =
    either (λ (x : BrokerState × List Addressed). x.1 ≡ []) (is_dead (seat_of b t)) (b, []) (buried_at (with_seat t Dead b) t (place_of b t))
    (λ _. refl) (λ _. ap (λ q. (buried_at (with_seat t Dead b) t q).1) e)

shard_of-below : (shards p : ℕ) → 0 < shards → shard_of shards p < shards
shard_of-below shards p some = mod_below _ shards some

pub deaths-sent_by_shards : DeathsSentByShards
deaths-sent_by_shards shards g listed es t after some once =
    ap (λ F. flat_map F (range_with_len 0 shards)) (fun_ext (λ s. deaths-sent_by_one_shard shards s g listed es t after once)) ∙ go (place_of (one_broker g listed es) t) refl
  where
    go : (q : Option ℕ) → place_of (one_broker g listed es) t ≡ q → flat_map (λ s. cond (stands_in (is_of shards s) q) (death_step (one_broker g listed es) t).1 []) (range_with_len 0 shards) ≡ (death_step (one_broker g listed es) t).1
    go None e = nothing-of_these (range_with_len 0 shards) ∙ sym (nobody-told (one_broker g listed es) t e)
    go (Some p) e =
        one-of_these (shard_of shards p) 0 shards (death_step (one_broker g listed es) t).1 (omega arith) (let below : shard_of shards p < shards = shard_of-below shards p some in omega (arith, below))
        ∙ append-nil (death_step (one_broker g listed es) t).1

-- Hellos

-- The rows with a given key.
abbrev keyed : {X : Type 0} → (X → ℕ) → List X → ℕ → List X
keyed key xs s = filter (λ x. key x == s) xs

untouched : {X : Type 0} (key : X → ℕ) (x : X) (xs : List X) (a n : ℕ) → key x < a → flat_map (keyed key (x ∷ xs)) (range_with_len a n) ≡ flat_map (keyed key xs) (range_with_len a n)
untouched key x xs a zero lt = refl
untouched key x xs a (suc n) lt =
    ap₂ ◌++◌ (cond-false _ _ _ (ne_eqb (key x) a (λ e. omega (arith, e)))) (untouched key x xs (a + 1) n (omega arith))

to-front : {X : Type 0} (key : X → ℕ) (x : X) (xs : List X) (a n : ℕ) → a ≤ key x → key x < a + n
    → IsPermutation (flat_map (keyed key (x ∷ xs)) (range_with_len a n)) (x ∷ flat_map (keyed key xs) (range_with_len a n))
to-front key x xs a zero le lt = absurd (omega arith)
to-front key x xs a (suc n) le lt =
    let rest = flat_map (keyed key xs) (range_with_len (a + 1) n) in
    by_test (λ v. (key x == a) ≡ v → IsPermutation (cond v (x ∷ keyed key xs a) (keyed key xs a) ++ flat_map (keyed key (x ∷ xs)) (range_with_len (a + 1) n)) (x ∷ (keyed key xs a ++ rest))) (key x == a)
    (λ s _. subst (λ ys. IsPermutation (x ∷ (keyed key xs a ++ ys)) (x ∷ (keyed key xs a ++ rest)))
    (sym (untouched key x xs (a + 1) n (let e : key x ≡ a = eqb-true (key x) a s in omega (arith, e))))
    (IsPermutation-refl (x ∷ (keyed key xs a ++ rest))))
    (λ d _. IsPermutation-trans _ _ _
    (IsPermutation-append_right (keyed key xs a) _ _ (to-front key x xs (a + 1) n (let other : key x ≡ a → ⊥ = eqb-false (key x) a d in omega (arith, other)) (omega arith)))
    (IsPermutation-middle (keyed key xs a) x rest))
    refl

by-key : {X : Type 0} (key : X → ℕ) (n : ℕ) → ((x : X) → key x < n) → (xs : List X) → IsPermutation (flat_map (keyed key xs) (range_with_len 0 n)) xs
by-key {X = X} key n below [] = subst (λ zs. IsPermutation zs []) (sym (nothing-of_these {X = X} (range_with_len 0 n))) (IsPermutation-refl [])
by-key key n below (x ∷ xs) =
    IsPermutation-trans _ _ _ (to-front key x xs 0 n (omega arith) (let lt : key x < n = below x in omega (arith, lt))) (IsPermutation-cons x _ _ (by-key key n below xs))

map-flat_map : {X Y : Type 0} (h : X → Y) (L : ℕ → List X) (ns : List ℕ) → flat_map (λ s. map h (L s)) ns ≡ map h (flat_map L ns)
map-flat_map h L [] = refl
map-flat_map h L (n ∷ ns) = ap (λ ys. map h (L n) ++ ys) (map-flat_map h L ns) ∙ sym (map-append h (L n) (flat_map L ns))

pub hellos-of_shards : HellosOfShards
hellos-of_shards shards g listed some =
    let h : ℕ × ℕ → Addressed = λ x. hello_to g x.0 in
    let key : ℕ × ℕ → ℕ = λ x. shard_of shards x.1 in
    subst (λ ys. IsPermutation (hellos g listed) ys) (sym (map-flat_map h (keyed key listed) (range_with_len 0 shards)))
    (IsPermutation-map h _ _ (IsPermutation-sym _ _ (by-key key shards (λ x. shard_of-below shards x.1 some) listed)))
