-- Steps of a delivery from one open object to the next. The objects between them are closed, and do
-- not change.
use Rattle.std.proofs.Common.{◌≡◌, ℕ, ◌+◌, ◌-◌, ◌<◌, ◌≤◌, Bool, true, false, not, ◌&&◌, cond, subst, bytes_eq, List, [], ◌∷◌, ◌++◌, length, Option, refl, sym, ap, ◌∙◌, append_assoc, arith}
use Rattle.std.proofs.lemmas.List.{map-append, length-map, nil_from_length}
use Rattle.wl_broadcast.specs.declared.letter.Letter.{Letter}
use Rattle.wl_broadcast.specs.Channels.{Object, is_other, is_destination, has_room, delivered_to, delivered_from, taking_from, full_from}
use Rattle.wl_broadcast.specs.declared.object.ChannelObject.{ChannelObject}
use Rattle.wl_broadcast.specs.OpenObjects.{seen, all_seen, open_from}

-- A closed object does not change.
closed_stays : (k : ℕ) (sender : Option ℕ) (name : List ℕ) (letter : Letter) (o : Object) → o.is_open ≡ false → delivered_to sender name letter k o ≡ o
closed_stays k sender name letter o closed =
    let P : Bool → Type 0 = λ b. cond (b && bytes_eq o.name name && is_other sender k && has_room o) (record o { inbox = o.inbox ++ letter ∷ [] }) o ≡ o in
    subst P (sym closed) refl

closed_in_front : (k : ℕ) (sender : Option ℕ) (name : List ℕ) (letter : Letter) (o : Object) (os ps : List Object) → o.is_open ≡ false → delivered_from (k + 1) sender name letter os ≡ ps → delivered_from k sender name letter (o ∷ os) ≡ o ∷ ps
closed_in_front k sender name letter o os ps closed e =
    ap (λ first. first ∷ delivered_from (k + 1) sender name letter os) (closed_stays k sender name letter o closed) ∙ ap (λ rest. o ∷ rest) e

-- No open object

pub record NoneTakes (k : ℕ) (sender : Option ℕ) (name : List ℕ) (letter : Letter) (os : List Object) : Type 0 where
  pub objects : delivered_from k sender name letter os ≡ os
  pub took : taking_from k sender name os ≡ []
  pub full : full_from k sender name os ≡ []

none_takes_behind : (k : ℕ) (sender : Option ℕ) (name : List ℕ) (letter : Letter) (o : Object) (os : List Object) → o.is_open ≡ false → NoneTakes (k + 1) sender name letter os → NoneTakes k sender name letter (o ∷ os)
none_takes_behind k sender name letter o os closed below =
    record { objects = closed_in_front k sender name letter o os os closed below.objects; took = rw closed below.took; full = rw closed below.full }

-- If no object is open, the first is closed and no later one is open.
first_is_closed : (k : ℕ) (o : Object) (os : List Object) (b : Bool) → o.is_open ≡ b → open_from k (o ∷ os) ≡ [] → (o.is_open ≡ false) × (open_from (k + 1) os ≡ [])
first_is_closed k o os true h e = let none : k ∷ open_from (k + 1) os ≡ [] = rw h at e in cc
first_is_closed k o os false h e = let none : open_from (k + 1) os ≡ [] = rw h at e in (h, none)

pub none_takes : (k : ℕ) (sender : Option ℕ) (name : List ℕ) (letter : Letter) (os : List Object) → open_from k os ≡ [] → NoneTakes k sender name letter os
none_takes k sender name letter [] e = record { objects = refl; took = refl; full = refl }
none_takes k sender name letter (o ∷ os) e =
    let c = first_is_closed k o os o.is_open refl e in
    none_takes_behind k sender name letter o os c.0 (none_takes (k + 1) sender name letter os c.1)

-- First open object

-- The first open object is either the head of the list or in its tail.
first_or_later : (k : ℕ) (o : Object) (os : List Object) (j : ℕ) (js : List ℕ) (b : Bool) → o.is_open ≡ b → open_from k (o ∷ os) ≡ j ∷ js → cond b ((k ≡ j) × (open_from (k + 1) os ≡ js)) (open_from (k + 1) os ≡ j ∷ js)
first_or_later k o os j js true h e = let both : k ∷ open_from (k + 1) os ≡ j ∷ js = rw h at e in (cc, cc)
first_or_later k o os j js false h e = let later : open_from (k + 1) os ≡ j ∷ js = rw h at e in later

open_bounds_step : (k : ℕ) (os : List Object) (j : ℕ) (js : List ℕ) (b : Bool) → cond b ((k ≡ j) × (open_from (k + 1) os ≡ js)) (open_from (k + 1) os ≡ j ∷ js) → (open_from (k + 1) os ≡ j ∷ js → (k + 1 ≤ j) × (j < k + 1 + length os)) → (k ≤ j) × (j < k + (length os + 1))
open_bounds_step k os j js true here below = let same = here.0 in (omega arith, omega arith)
open_bounds_step k os j js false later below = let h = below later in (omega arith, omega arith)

pub open_bounds : (k : ℕ) (os : List Object) (j : ℕ) (js : List ℕ) → open_from k os ≡ j ∷ js → (k ≤ j) × (j < k + length os)
open_bounds k [] j js e = cc
open_bounds k (o ∷ os) j js e =
    let h = open_bounds_step k os j js o.is_open (first_or_later k o os j js o.is_open refl e) (open_bounds (k + 1) os j js) in
    (h.0, omega (arith, h.1))

pub record FirstTakes (k j : ℕ) (js : List ℕ) (front : List Object) (o : Object) (behind : List Object) (sender : Option ℕ) (name : List ℕ) (letter : Letter) : Type 0 where
  pub is_open : o.is_open ≡ true
  pub open_behind : open_from (j + 1) behind ≡ js
  pub objects : delivered_from k sender name letter (front ++ o ∷ behind) ≡ front ++ delivered_to sender name letter j o ∷ delivered_from (j + 1) sender name letter behind
  pub took : taking_from k sender name (front ++ o ∷ behind) ≡ cond (is_destination sender name j o && has_room o) (j ∷ taking_from (j + 1) sender name behind) (taking_from (j + 1) sender name behind)
  pub full : full_from k sender name (front ++ o ∷ behind) ≡ cond (is_destination sender name j o && not (has_room o)) (j ∷ full_from (j + 1) sender name behind) (full_from (j + 1) sender name behind)

-- The first open object may be the head of the list.
first_here : (k : ℕ) (js : List ℕ) (o : Object) (behind : List Object) (sender : Option ℕ) (name : List ℕ) (letter : Letter) (b : Bool) → o.is_open ≡ b → open_from k (o ∷ behind) ≡ k ∷ js → FirstTakes k k js [] o behind sender name letter
first_here k js o behind sender name letter true h e =
    let c : (k ≡ k) × (open_from (k + 1) behind ≡ js) = first_or_later k o behind k js true h e in
    record { is_open = h; open_behind = c.1; objects = refl; took = refl; full = refl }
first_here k js o behind sender name letter false h e =
    let c : open_from (k + 1) behind ≡ k ∷ js = first_or_later k o behind k js false h e in
    let bounds = open_bounds (k + 1) behind k js c in
    absurd (omega (arith, bounds.0))

-- The first open object may come after a closed one.
first_behind : (k j : ℕ) (js : List ℕ) (f : Object) (fs : List Object) (o : Object) (behind : List Object) (sender : Option ℕ) (name : List ℕ) (letter : Letter) → f.is_open ≡ false → FirstTakes (k + 1) j js fs o behind sender name letter → FirstTakes k j js (f ∷ fs) o behind sender name letter
first_behind k j js f fs o behind sender name letter closed below =
    record { is_open = below.is_open; open_behind = below.open_behind; objects = closed_in_front k sender name letter f (fs ++ o ∷ behind) _ closed below.objects; took = rw closed below.took; full = rw closed below.full }

first_is_later : (k j : ℕ) (js : List ℕ) (f : Object) (fs : List Object) (o : Object) (behind : List Object) (b : Bool) → f.is_open ≡ b → open_from k (f ∷ (fs ++ o ∷ behind)) ≡ j ∷ js → length (f ∷ fs) + k ≡ j → (f.is_open ≡ false) × (open_from (k + 1) (fs ++ o ∷ behind) ≡ j ∷ js)
first_is_later k j js f fs o behind true h e at =
    let c : (k ≡ j) × (open_from (k + 1) (fs ++ o ∷ behind) ≡ js) = first_or_later k f (fs ++ o ∷ behind) j js true h e in
    absurd (omega (arith, c.0))
first_is_later k j js f fs o behind false h e at = (h, first_or_later k f (fs ++ o ∷ behind) j js false h e)

pub first_takes : (k j : ℕ) (js : List ℕ) (front : List Object) (o : Object) (behind : List Object) (sender : Option ℕ) (name : List ℕ) (letter : Letter) → open_from k (front ++ o ∷ behind) ≡ j ∷ js → length front + k ≡ j → FirstTakes k j js front o behind sender name letter
first_takes k j js [] o behind sender name letter e at =
    let same : k ≡ j = omega arith in
    let P : ℕ → Type 0 = λ n. open_from k (o ∷ behind) ≡ n ∷ js → FirstTakes k n js [] o behind sender name letter in
    subst P same (first_here k js o behind sender name letter o.is_open refl) e
first_takes k j js (f ∷ fs) o behind sender name letter e at =
    let c = first_is_later k j js f fs o behind f.is_open refl e at in
    first_behind k j js f fs o behind sender name letter c.0 (first_takes (k + 1) j js fs o behind sender name letter c.1 (omega (arith, at)))

-- The same over the objects of the code

-- The first open object, with the objects before it and after it.
pub record Reaches (k j : ℕ) (js : List ℕ) (objects front : List ChannelObject) (object : ChannelObject) (behind : List ChannelObject) (sender : Option ℕ) (name : List ℕ) (letter : Letter) : Type 0 where
  pub first : FirstTakes k j js (all_seen front) (seen object) (all_seen behind) sender name letter
  pub whole : all_seen objects ≡ all_seen front ++ seen object ∷ all_seen behind
  pub from_first : k ≤ j
  pub below_end : j < k + length objects

seen_whole : (objects front from : List ChannelObject) (object : ChannelObject) (behind : List ChannelObject) → objects ≡ front ++ from → from ≡ object ∷ behind → all_seen objects ≡ all_seen front ++ seen object ∷ all_seen behind
seen_whole objects front from object behind split head = ap all_seen (split ∙ ap (λ rest. front ++ rest) head) ∙ map-append seen front (object ∷ behind)

pub number_bounds : (numbers : List ℕ) (k j : ℕ) (js : List ℕ) (objects : List ChannelObject) → numbers ≡ open_from k (all_seen objects) → numbers ≡ j ∷ js → (k ≤ j) × (j < k + length objects)
number_bounds numbers k j js objects numbers_are head =
    let h = open_bounds k (all_seen objects) j js (sym numbers_are ∙ head) in
    (h.0, omega (arith, h.1, length-map objects seen))

pub reaches : (numbers : List ℕ) (k j : ℕ) (js : List ℕ) (objects front from : List ChannelObject) (object : ChannelObject) (behind : List ChannelObject) (sender : Option ℕ) (name : List ℕ) (letter : Letter) → numbers ≡ open_from k (all_seen objects) → numbers ≡ j ∷ js → objects ≡ front ++ from → from ≡ object ∷ behind → length front ≡ j - k → Reaches k j js objects front object behind sender name letter
reaches numbers k j js objects front from object behind sender name letter numbers_are head split front_is at =
    let bounds = number_bounds numbers k j js objects numbers_are head in
    let whole = seen_whole objects front from object behind split front_is in
    let opened : open_from k (all_seen front ++ seen object ∷ all_seen behind) ≡ j ∷ js = ap (open_from k) (sym whole) ∙ sym numbers_are ∙ head in
    record {
      first = first_takes k j js (all_seen front) (seen object) (all_seen behind) sender name letter opened (omega (arith, bounds.0, at, length-map front seen));
      whole = whole;
      from_first = bounds.0;
      below_end = bounds.1;
    }

-- The delivery continues after the first open object, which has already taken the post or passed it
-- over.
pub delivered_on : (k j : ℕ) (js : List ℕ) (objects front : List ChannelObject) (object : ChannelObject) (behind : List ChannelObject) (sender : Option ℕ) (name : List ℕ) (letter : Letter) → Reaches k j js objects front object behind sender name letter → (after : ChannelObject) (new : List ChannelObject) → seen after ≡ delivered_to sender name letter j (seen object) → all_seen new ≡ delivered_from (j + 1) sender name letter (all_seen behind) → all_seen (front ++ after ∷ new) ≡ delivered_from k sender name letter (all_seen objects)
delivered_on k j js objects front object behind sender name letter r after new here on =
    map-append seen front (after ∷ new) ∙ ap (λ x. all_seen front ++ x ∷ all_seen new) here ∙ ap (λ rest. all_seen front ++ delivered_to sender name letter j (seen object) ∷ rest) on ∙ sym r.first.objects ∙ ap (delivered_from k sender name letter) (sym r.whole)

-- The first open object after the delivery, and the numbers that it adds to the takers and to the
-- full ones.
pub record Goes (k j : ℕ) (objects : List ChannelObject) (object : ChannelObject) (behind : List ChannelObject) (sender : Option ℕ) (name : List ℕ) (letter : Letter) (after : Object) (taking filled : List ℕ) : Type 0 where
  pub becomes : after ≡ delivered_to sender name letter j (seen object)
  pub took : taking_from k sender name (all_seen objects) ≡ taking ++ taking_from (j + 1) sender name (all_seen behind)
  pub full : full_from k sender name (all_seen objects) ≡ filled ++ full_from (j + 1) sender name (all_seen behind)

went : (dest room : Bool) (P : Bool → Bool → Type 0) (b c : Bool) → dest ≡ b → room ≡ c → P b c → P dest room
went dest room P b c dest_is room_is h = let Q : Bool → Type 0 = λ x. P x room in let R : Bool → Type 0 = λ x. P b x in subst Q (sym dest_is) (subst R (sym room_is) h)

pub skips : (k j : ℕ) (js : List ℕ) (objects front : List ChannelObject) (object : ChannelObject) (behind : List ChannelObject) (sender : Option ℕ) (name : List ℕ) (letter : Letter) → Reaches k j js objects front object behind sender name letter → is_destination sender name j (seen object) ≡ false → Goes k j objects object behind sender name letter (seen object) [] []
skips k j js objects front object behind sender name letter r dest =
    let room = has_room (seen object) in
    let T = taking_from (j + 1) sender name (all_seen behind) in
    let F = full_from (j + 1) sender name (all_seen behind) in
    let P : Bool → Type 0 = λ b. seen object ≡ cond (b && room) (record (seen object) { inbox = (seen object).inbox ++ letter ∷ [] }) (seen object) in
    let Q : Bool → Type 0 = λ b. cond (b && room) (j ∷ T) T ≡ T in
    let R : Bool → Type 0 = λ b. cond (b && not room) (j ∷ F) F ≡ F in
    record {
      becomes = subst P (sym dest) refl;
      took = ap (taking_from k sender name) r.whole ∙ r.first.took ∙ subst Q (sym dest) refl;
      full = ap (full_from k sender name) r.whole ∙ r.first.full ∙ subst R (sym dest) refl;
    }

pub fills : (k j : ℕ) (js : List ℕ) (objects front : List ChannelObject) (object : ChannelObject) (behind : List ChannelObject) (sender : Option ℕ) (name : List ℕ) (letter : Letter) → Reaches k j js objects front object behind sender name letter → is_destination sender name j (seen object) ≡ true → has_room (seen object) ≡ false → Goes k j objects object behind sender name letter (seen object) [] (j ∷ [])
fills k j js objects front object behind sender name letter r dest room =
    let T = taking_from (j + 1) sender name (all_seen behind) in
    let F = full_from (j + 1) sender name (all_seen behind) in
    let P : Bool → Bool → Type 0 = λ b c. seen object ≡ cond (b && c) (record (seen object) { inbox = (seen object).inbox ++ letter ∷ [] }) (seen object) in
    let Q : Bool → Bool → Type 0 = λ b c. cond (b && c) (j ∷ T) T ≡ T in
    let R : Bool → Bool → Type 0 = λ b c. cond (b && not c) (j ∷ F) F ≡ j ∷ F in
    record {
      becomes = went _ _ P true false dest room refl;
      took = ap (taking_from k sender name) r.whole ∙ r.first.took ∙ went _ _ Q true false dest room refl;
      full = ap (full_from k sender name) r.whole ∙ r.first.full ∙ went _ _ R true false dest room refl;
    }

pub takes : (k j : ℕ) (js : List ℕ) (objects front : List ChannelObject) (object : ChannelObject) (behind : List ChannelObject) (sender : Option ℕ) (name : List ℕ) (letter : Letter) → Reaches k j js objects front object behind sender name letter → is_destination sender name j (seen object) ≡ true → has_room (seen object) ≡ true → Goes k j objects object behind sender name letter (record (seen object) { inbox = (seen object).inbox ++ letter ∷ [] }) (j ∷ []) []
takes k j js objects front object behind sender name letter r dest room =
    let T = taking_from (j + 1) sender name (all_seen behind) in
    let F = full_from (j + 1) sender name (all_seen behind) in
    let after : Object = record (seen object) { inbox = (seen object).inbox ++ letter ∷ [] } in
    let P : Bool → Bool → Type 0 = λ b c. after ≡ cond (b && c) after (seen object) in
    let Q : Bool → Bool → Type 0 = λ b c. cond (b && c) (j ∷ T) T ≡ j ∷ T in
    let R : Bool → Bool → Type 0 = λ b c. cond (b && not c) (j ∷ F) F ≡ F in
    record {
      becomes = went _ _ P true true dest room refl;
      took = ap (taking_from k sender name) r.whole ∙ r.first.took ∙ went _ _ Q true true dest room refl;
      full = ap (full_from k sender name) r.whole ∙ r.first.full ∙ went _ _ R true true dest room refl;
    }

-- The rest of the delivery appends its numbers after those of the first open object.
pub numbers_on : (old pushed new own rest whole : List ℕ) → pushed ≡ old ++ own → new ≡ pushed ++ rest → whole ≡ own ++ rest → new ≡ old ++ whole
numbers_on old pushed new own rest whole first on all = on ∙ ap (λ xs. xs ++ rest) first ∙ append_assoc old own rest ∙ ap (λ xs. old ++ xs) (sym all)

-- If no object is open, the delivery changes nothing.
pub delivered_to_none : (numbers : List ℕ) (k : ℕ) (objects : List ChannelObject) (sender : Option ℕ) (name : List ℕ) (letter : Letter) → numbers ≡ open_from k (all_seen objects) → length numbers ≡ 0 → NoneTakes k sender name letter (all_seen objects)
delivered_to_none numbers k objects sender name letter numbers_are none = none_takes k sender name letter (all_seen objects) (sym numbers_are ∙ nil_from_length numbers none)
