-- Capacity for several entries: it is counted in advance, and each entry uses some of it.
use Rattle.std.proofs.Common.{◌≡◌, ℕ, ◌+◌, ◌<◌, ◌≤◌, suc, Bool, true, false, ◌&&◌, ◌||◌, cond, List, [], ◌∷◌, ◌++◌, length, take, get_or, refl, sym, ap, ◌∙◌, arith}
use Rattle.std.specs.Prelude.{◌==◌, bytes_eq}
use Rattle.std.proofs.lemmas.Bool.Decides.{nat_tests}
use Rattle.std.proofs.lemmas.List.{take_more, length-take-le}
use Rattle.std.proofs.lemmas.List.Sums.{count_by-le-length, count_by_more_yes, count_by_more_no}
use Rattle.std.proofs.lemmas.List.Folds.{list_any-append}
use Rattle.wl_draft.specs.declared.row.Row.{Row}
use Rattle.wl_draft.specs.Tables.{Table}
use Rattle.wl_draft.specs.Locks.{is_named}
use Rattle.wl_table_index.specs.NameLines.{room_at, count_named}
use Rattle.wl_table_index.specs.Index.{IsHoldable, IsReady, HasRoom, TakesRoom, are_of}
use Rattle.wl_table_index.specs.declared.index.Index.{Index}
use Rattle.wl_table_index.proofs.WithoutLemmas.{count-one}
use Rattle.wl_table_index.proofs.NextLemmas.{text-same, text-self}
use Rattle.wl_table_index.proofs.EntryLemmas.{room-line}

-- Counting

pub named-more : (name : List ℕ) (rows : List Row) (i : ℕ) (r : Row) → i < length rows → r ≡ get_or rows i r → is_named name (take (i + 1) rows) ≡ (is_named name (take i rows) || bytes_eq r.name name)
named-more name rows i r l e =
    let t : take (i + 1) rows ≡ take i rows ++ r ∷ [] = take_more rows i r l ∙ ap (λ x. take i rows ++ x ∷ []) (sym e) in
    rw t (grind (arith, list_any-append {X = Row}))

count-more_step : (name : List ℕ) (rows : List Row) (i : ℕ) (r : Row) (b : Bool) → i < length rows → r ≡ get_or rows i r → bytes_eq name r.name ≡ b → count_named name (take (i + 1) rows) ≡ count_named name (take i rows) + cond b 1 0
count-more_step name rows i r true l e n =
    count_by_more_yes (λ x. bytes_eq name x.name) rows i r l (ap (λ x. bytes_eq name x.name) (sym e) ∙ n)
count-more_step name rows i r false l e n =
    let m = count_by_more_no (λ x. bytes_eq name x.name) rows i r l (ap (λ x. bytes_eq name x.name) (sym e) ∙ n) in
    omega (arith, m)

pub count-more : (name : List ℕ) (rows : List Row) (i : ℕ) (r : Row) → i < length rows → r ≡ get_or rows i r → count_named name (take (i + 1) rows) ≡ count_named name (take i rows) + cond (bytes_eq name r.name) 1 0
count-more name rows i r l e = count-more_step name rows i r (bytes_eq name r.name) l e refl

pub count-upto : (name : List ℕ) (rows : List Row) (i : ℕ) → i ≤ length rows → count_named name (take i rows) ≤ i
count-upto name rows i l =
    omega (arith, count_by-le-length (λ x. bytes_eq name x.name) (take i rows), length-take-le i rows l)

-- First of several entries

text-turn_step : (a b : List ℕ) (x y : Bool) → bytes_eq a b ≡ x → bytes_eq b a ≡ y → x ≡ y
text-turn_step a b true true e f = refl
text-turn_step a b true false e f =
    let g : bytes_eq b a ≡ true = ap (λ c. bytes_eq c a) (sym (text-same a b e)) ∙ text-self a in
    sym g ∙ f
text-turn_step a b false true e f =
    let g : bytes_eq a b ≡ true = ap (λ c. bytes_eq c b) (sym (text-same b a f)) ∙ text-self b in
    sym e ∙ g
text-turn_step a b false false e f = refl

pub text-turn : (a b : List ℕ) → bytes_eq a b ≡ bytes_eq b a
text-turn a b = text-turn_step a b (bytes_eq a b) (bytes_eq b a) refl refl

client-first_step : (a b : Bool) → (a && b) ≡ true → (a ≡ true) × (b ≡ true)
client-first_step true b e = (refl, e)
client-first_step false b e = cc

same-number : (j k : ℕ) → (j == k) ≡ true → j ≡ k
same-number j k e = grind (arith, nat_tests)

pub client-first : (client : ℕ) (r : Row) (rs : List Row) → are_of client (r ∷ rs) ≡ true → (r.client ≡ client) × (are_of client rs ≡ true)
client-first client r rs e =
    let p = client-first_step (r.client == client) (are_of client rs) e in
    (same-number r.client client p.0, p.1)

named-rest : (name : List ℕ) (r : Row) (rs : List Row) → is_named name rs ≡ true → is_named name (r ∷ rs) ≡ true
named-rest name r rs e = grind (arith, nat_tests)

no_cond : (b : Bool) → cond {A = ℕ} b 0 0 ≡ 0
no_cond true = refl
no_cond false = refl

pub room-held : (t u : Index) (client : ℕ) (r : Row) (rs requests : List Row) → u.waiting.items ≡ t.waiting.items → TakesRoom t u 1 0 r.name → HasRoom t client (r ∷ rs) requests → HasRoom u client rs requests
room-held t u client r rs requests w k h = record {
  held = rw w (omega (arith, h.held, k.held));
  waiting = omega (arith, h.waiting, k.waiting);
  places = omega (arith, h.places, k.places client);
  further = omega (arith, h.further, k.further client);
  lines = λ n e. k.lines n (h.lines n (named-rest n r rs e));
  names = λ n. omega (arith, h.names n, k.names n, no_cond (bytes_eq r.name n));
}

count-first : (r : Row) (rs : List Row) → count_named r.name (r ∷ rs) ≡ suc (count_named r.name rs)
count-first r rs = count-one (λ x. bytes_eq r.name x.name) r rs ∙ (rw (text-self r.name) (omega arith))

pub ready-first : (t : Index) (client : ℕ) (r : Row) (rs : List Row) → r.client ≡ client → HasRoom t client [] (r ∷ rs) → IsReady t r.client r.number r.name
ready-first t client r rs e h =
    let n : 0 < room_at t.lines r.name = omega (arith, h.names r.name, count-first r rs) in
    rw e (record {
      held = omega (arith, h.held);
      waiting = omega (arith, h.waiting);
      place = omega (arith, h.places);
      further = λ known. omega (arith, h.further);
      line = room-line _ n;
      name_room = n;
    })

named-first : (r : Row) (rs : List Row) → is_named r.name (r ∷ rs) ≡ true
named-first r rs = rw (text-self r.name) refl

pub holdable-first : (t : Index) (client : ℕ) (r : Row) (rs requests : List Row) → r.client ≡ client → HasRoom t client (r ∷ rs) requests → IsHoldable t r.client r.number r.name
holdable-first t client r rs requests e h =
    rw e (record {
      held = omega (arith, h.held);
      place = omega (arith, h.places);
      further = λ known. omega (arith, h.further);
      line = h.lines r.name (named-first r rs);
    })

length-last : {X : Type 0} (x : X) (xs : List X) → length (xs ++ x ∷ []) ≡ length xs + 1
length-last x [] = refl
length-last x (y ∷ ys) = grind (arith, length-last x ys)

pub room-queued : (t u : Index) (client order : ℕ) (r : Row) (rs : List Row) → u.waiting.items ≡ t.waiting.items ++ (order, r) ∷ [] → TakesRoom t u 0 1 r.name → HasRoom t client [] (r ∷ rs) → HasRoom u client [] rs
room-queued t u client order r rs w k h =
    let len : length u.waiting.items ≡ length t.waiting.items + 1 = ap length w ∙ length-last (order, r) t.waiting.items in
    record {
      held = omega (arith, len, h.held, k.held);
      waiting = omega (arith, h.waiting, k.waiting);
      places = omega (arith, h.places, k.places client);
      further = omega (arith, h.further, k.further client);
      lines = λ n e. k.lines n (h.lines n e);
      names = λ n. omega (arith, h.names n, k.names n, count-one (λ x. bytes_eq n x.name) r rs, ap (λ (b : Bool). cond {A = ℕ} b 1 0) (text-turn n r.name));
    }
