-- Single list of events for all shards. Between two deaths, the messages of one shard come after
-- those of another.
use Rattle.std.proofs.Common.{◌≡◌, ⊎_elim, ℕ, zero, suc, ◌+◌, ◌<◌, Bool, true, cond, List, [], ◌∷◌, ◌++◌, filter, refl, sym, ap, ap₂, ◌∙◌, subst, append-nil, arith}
use Rattle.std.specs.Prelude.{◌==◌}
use Rattle.std.specs.List.{list_all, range_with_len, flat_map}
use Rattle.std.proofs.lemmas.Bool.{cond-true, cond-false, eqb-true, eqb-false, ne_eqb, and_parts}
use Rattle.std.proofs.lemmas.List.Elements.{filter-append}
use Rattle.wl_draft.proofs.Membership.{by_test, In-nil, In-cons_cases, In-append_left, In-append_right, In-append_cases}
use Rattle.wl_draft.specs.Membership.{In, Here, Later}
use Rattle.wl_broker.specs.Events.{Event, Comes, Dies}
use Rattle.wl_broker.specs.Shards.{shard_of, is_of, is_for, events_of, places, deaths_in, AreOfShards, InOneOrder}
use Rattle.wl_broker.proofs.shards.Runs.{home_in, ComesHome, all_home, stands-once, one-of_these}

-- Events of a shard before and after the first death

abbrev first : List Event → List Event
first [] = []
first (Comes s ∷ es) = Comes s ∷ first es
first (Dies t ∷ es) = []

abbrev rest : List Event → List Event
rest [] = []
rest (Comes s ∷ es) = rest es
rest (Dies t ∷ es) = es

first-all : (es : List Event) → deaths_in es ≡ [] → first es ≡ es
first-all [] e = refl
first-all (Comes s ∷ es) e = ap (λ zs. Comes s ∷ zs) (first-all es e)
first-all (Dies t ∷ es) e = cc

first-rest : (es : List Event) (t : ℕ) (ts : List ℕ) → deaths_in es ≡ t ∷ ts → (first es ++ Dies t ∷ rest es ≡ es) × (deaths_in (rest es) ≡ ts)
first-rest [] t ts e = cc
first-rest (Comes s ∷ es) t ts e = let o = first-rest es t ts e in (ap (λ zs. Comes s ∷ zs) o.0, o.1)
first-rest (Dies u ∷ es) t ts e =
    let same : u ≡ t = cc in
    let more : deaths_in es ≡ ts = cc in
    (ap (λ z. Dies z ∷ es) (sym same), more)

first-In : (es : List Event) (e : Event) → In e (first es) → In e es
first-In [] e i = i
first-In (Comes s ∷ es) e i = ⊎_elim (λ c. subst (λ z. In z (Comes s ∷ es)) (sym c) Here) (λ j. Later (first-In es e j)) (In-cons_cases i)
first-In (Dies t ∷ es) e i = absurd (In-nil i)

rest-In : (es : List Event) (e : Event) → In e (rest es) → In e es
rest-In [] e i = i
rest-In (Comes s ∷ es) e i = Later (rest-In es e i)
rest-In (Dies t ∷ es) e i = Later i

rest-own : (f : ℕ → Bool) (es : List Event) → list_all (is_for f) es ≡ true → list_all (is_for f) (rest es) ≡ true
rest-own f [] h = refl
rest-own f (Comes s ∷ es) h = rest-own f es (and_parts _ _ h).1
rest-own f (Dies t ∷ es) h = h

-- A shard keeps all messages of its own partitions.
kept-first : (f : ℕ → Bool) (es : List Event) → list_all (is_for f) es ≡ true → events_of f (first es) ≡ first es
kept-first f [] h = refl
kept-first f (Comes s ∷ es) h =
    let o = and_parts (f s.partition) (list_all (is_for f) es) h in cond-true _ _ _ o.0 ∙ ap (λ zs. Comes s ∷ zs) (kept-first f es o.1)
kept-first f (Dies t ∷ es) h = refl

-- A shard keeps no messages of another shard's partitions.
no-first : (shards k s : ℕ) (es : List Event) → (k ≡ s → ⊥) → list_all (is_for (is_of shards s)) es ≡ true → events_of (is_of shards k) (first es) ≡ []
no-first shards k s [] other h = refl
no-first shards k s (Comes m ∷ es) other h =
    let o = and_parts (is_of shards s m.partition) (list_all (is_for (is_of shards s)) es) h in
    let at : shard_of shards m.partition ≡ s = eqb-true (shard_of shards m.partition) s o.0 in
    cond-false _ _ _ (ne_eqb (shard_of shards m.partition) k (λ e. other (sym e ∙ at))) ∙ no-first shards k s es other o.1
no-first shards k s (Dies t ∷ es) other h = refl

-- All shards

abbrev firsts : ℕ → (ℕ → List Event) → List Event
firsts shards given = flat_map (λ s. first (given s)) (range_with_len 0 shards)

abbrev merged : ℕ → List ℕ → (ℕ → List Event) → List Event
merged shards [] given = firsts shards given
merged shards (t ∷ ts) given = firsts shards given ++ Dies t ∷ merged shards ts (λ s. rest (given s))

filter-flat_map : {X : Type 0} (p : X → Bool) (G : ℕ → List X) (ns : List ℕ) → filter p (flat_map G ns) ≡ flat_map (λ s. filter p (G s)) ns
filter-flat_map p G [] = refl
filter-flat_map p G (n ∷ ns) = filter-append p (G n) (flat_map G ns) ∙ ap (λ ys. filter p (G n) ++ ys) (filter-flat_map p G ns)

flat_map-same : {X : Type 0} (F G : ℕ → List X) (a n : ℕ) → ((s : ℕ) → s < a + n → F s ≡ G s) → flat_map F (range_with_len a n) ≡ flat_map G (range_with_len a n)
flat_map-same F G a zero h = refl
flat_map-same F G a (suc n) h = ap₂ ◌++◌ (h a (omega arith)) (flat_map-same F G (a + 1) n (λ s lt. h s (omega (arith, lt))))

kept-firsts : (shards k : ℕ) (given : ℕ → List Event) → k < shards → ((s : ℕ) → s < shards → list_all (is_for (is_of shards s)) (given s) ≡ true)
    → events_of (is_of shards k) (firsts shards given) ≡ first (given k)
kept-firsts shards k given lt own =
    filter-flat_map (is_for (is_of shards k)) (λ s. first (given s)) (range_with_len 0 shards)
    ∙ flat_map-same (λ s. events_of (is_of shards k) (first (given s))) (λ s. cond (k == s) (first (given k)) []) 0 shards (λ s below. here s (omega (arith, below)))
    ∙ one-of_these k 0 shards (first (given k)) (omega arith) (omega (arith, lt))
    ∙ append-nil (first (given k))
  where
    here : (s : ℕ) → s < shards → events_of (is_of shards k) (first (given s)) ≡ cond (k == s) (first (given k)) []
    here s below =
        by_test (λ v. (k == s) ≡ v → events_of (is_of shards k) (first (given s)) ≡ cond v (first (given k)) []) (k == s)
        (λ e _. subst (λ z. events_of (is_of shards k) (first (given z)) ≡ first (given k)) (eqb-true k s e) (kept-first (is_of shards k) (given k) (own k lt)))
        (λ d _. no-first shards k s (given s) (eqb-false k s d) (own s below))
        refl

rest-shards : (shards t : ℕ) (ts : List ℕ) (given : ℕ → List Event) → AreOfShards shards (t ∷ ts) given → AreOfShards shards ts (λ s. rest (given s))
rest-shards shards t ts given a = record {
  own = λ s lt. rest-own (is_of shards s) (given s) (a.own s lt);
  deaths = λ s lt. (first-rest (given s) t ts (a.deaths s lt)).1;
}

kept-merged : (shards : ℕ) (died : List ℕ) (given : ℕ → List Event) → AreOfShards shards died given → (k : ℕ) → k < shards → events_of (is_of shards k) (merged shards died given) ≡ given k
kept-merged shards [] given a k lt = kept-firsts shards k given lt a.own ∙ first-all (given k) (a.deaths k lt)
kept-merged shards (t ∷ ts) given a k lt =
    filter-append (is_for (is_of shards k)) (firsts shards given) (Dies t ∷ merged shards ts (λ s. rest (given s)))
    ∙ ap₂ (λ xs ys. xs ++ Dies t ∷ ys) (kept-firsts shards k given lt a.own) (kept-merged shards ts (λ s. rest (given s)) (rest-shards shards t ts given a) k lt)
    ∙ (first-rest (given k) t ts (a.deaths k lt)).0

-- Each tab has only one partition in that list

flat-In : (G H : ℕ → List Event) (e : Event) → ((s : ℕ) → In e (G s) → In e (H s)) → (ns : List ℕ) → In e (flat_map G ns) → In e (flat_map H ns)
flat-In G H e h [] i = i
flat-In G H e h (n ∷ ns) i =
    ⊎_elim (λ j. In-append_left (flat_map H ns) (h n j)) (λ j. In-append_right (H n) (flat-In G H e h ns j)) (In-append_cases (G n) (flat_map G ns) i)

merged-home : (home : ℕ → ℕ) (shards : ℕ) (died : List ℕ) (given : ℕ → List Event)
    → ((e : Event) → In e (flat_map given (range_with_len 0 shards)) → ComesHome home e) → (e : Event) → In e (merged shards died given) → ComesHome home e
merged-home home shards [] given h e i = h e (flat-In (λ s. first (given s)) given e (λ s j. first-In (given s) e j) (range_with_len 0 shards) i)
merged-home home shards (t ∷ ts) given h e i =
    ⊎_elim (λ j. h e (flat-In (λ s. first (given s)) given e (λ s j. first-In (given s) e j) (range_with_len 0 shards) j))
    (λ j. ⊎_elim (λ c. subst (ComesHome home) (sym c) tt)
    (λ k. merged-home home shards ts (λ s. rest (given s)) (λ x l. h x (flat-In (λ s. rest (given s)) given x (λ s m. rest-In (given s) x m) (range_with_len 0 shards) l)) e k)
    (In-cons_cases j))
    (In-append_cases (firsts shards given) (Dies t ∷ merged shards ts (λ s. rest (given s))) i)

pub in-one_order : InOneOrder
in-one_order shards listed died given a once =
    let all = flat_map given (range_with_len 0 shards) in
    let home = home_in (places listed all) in
    let h = all_home listed all once in (
      merged shards died given,
      stands-once home listed (merged shards died given) (record { lists = h.lists; comes = merged-home home shards died given h.comes }),
      kept-merged shards died given a,
    )
