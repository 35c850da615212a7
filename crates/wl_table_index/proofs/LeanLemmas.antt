-- Names and clients that are stored without an entry.
use Rattle.std.proofs.Common.{◌≡◌, ℕ, Bool, true, false, ◌&&◌, ◌||◌, not, List, [], ◌∷◌, ◌++◌, Option, Some, None, length, zero, suc, take, refl, sym, ap, ◌∙◌, arith}
use Rattle.std.specs.Prelude.{◌==◌, bytes_eq}
use Rattle.std.specs.Option.{option_map_or}
use Rattle.std.proofs.lemmas.Bool.Decides.{nat_tests}
use Rattle.wl_draft.specs.declared.mode.Mode.{Mode}
use Rattle.wl_draft.specs.declared.mode.Mode.TheVariants.{Shared, Exclusive}
use Rattle.wl_draft.specs.declared.row.Row.{Row}
use Rattle.wl_draft.specs.Locks.{is_named}
use Rattle.wl_draft.specs.Tables.{Table}
use Rattle.wl_table_index.specs.NameLines.{LineState, is_nobody, with_holder, with_waiter, is_idle_line}
use Rattle.wl_table_index.specs.Clients.{is_idle_client}
use Rattle.wl_table_index.specs.Index.{IsLean, IsLeanBut, Fills, Empties}
use Rattle.wl_table_index.specs.declared.index.Index.{Index}

last-some : {X : Type 0} (x : X) (xs : List X) → (length (xs ++ x ∷ []) == 0) ≡ false
last-some x [] = refl
last-some x (y ∷ ys) = grind (arith, nat_tests)

pub holder-somebody : (s : LineState) (mode : Mode) → is_nobody (with_holder s mode) ≡ false
holder-somebody s Shared = grind (arith, nat_tests)
holder-somebody s Exclusive = grind (arith, nat_tests)

pub waiter-somebody : (s : LineState) (order : ℕ) → is_nobody (with_waiter s order) ≡ false
waiter-somebody s order = ap (λ b. b && s.shared == 0 && s.exclusive == 0) (last-some order s.queue)

named-within_step : (n : List ℕ) (r : Row) (rs ts : List Row) → (is_named n ts ≡ true → is_named n rs ≡ true) → is_named n (r ∷ ts) ≡ true → is_named n (r ∷ rs) ≡ true
named-within_step n r rs ts below e = grind arith

pub named-within : (n : List ℕ) (rows : List Row) (k : ℕ) → is_named n (take k rows) ≡ true → is_named n rows ≡ true
named-within n rows zero e = cc
named-within n [] (suc k) e = e
named-within n (r ∷ rs) (suc k) e = named-within_step n r rs (take k rs) (named-within n rs k) e

pub idle-more : (before old named more here : Bool) → (before || here) ≡ true → (before ≡ true → (old || named) ≡ true) → more ≡ (named || here) → (old || more) ≡ true
idle-more before old named more here e f g = grind arith

pub idle-within : (old part all : Bool) → (old || part) ≡ true → (part ≡ true → all ≡ true) → (old || all) ≡ true
idle-within old part all e f = grind arith

pub idle-fewer : (before old named more here : Bool) → (before && not here) ≡ true → (before ≡ true → (old && not named) ≡ true) → more ≡ (named || here) → (old && not more) ≡ true
idle-fewer before old named more here e f g = grind arith

-- Lean indexes

first : (a b : Bool) → (a && b) ≡ true → a ≡ true
first a b e = grind arith

other : (a b : Bool) → (a && not b) ≡ true → b ≡ true → false ≡ true
other a b e f = grind arith

nothing : (b : Bool) → false ≡ true → b ≡ true
nothing b e = cc

pub moved_step : (old mid here : Bool) → (mid && not here) ≡ true → (mid ≡ true → (old || here) ≡ true) → (old ≡ true → false ≡ true) → false ≡ true
moved_step old mid here e f g = grind arith

dropped_step : (old here mine : Bool) → (old || here) ≡ true → (old ≡ true → mine ≡ true) → here ≡ mine → mine ≡ true
dropped_step old here mine e f g = grind arith

held_step : (old here rest more : Bool) → (old && not here) ≡ true → (old ≡ true → ((here || rest) || more) ≡ true) → (rest || more) ≡ true
held_step old here rest more e f = grind arith

queued_step : (old here rest : Bool) → (old && not here) ≡ true → (old ≡ true → (here || rest) ≡ true) → rest ≡ true
queued_step old here rest e f = grind arith

-- Filling a row's name and client again after emptying them keeps the index lean.
pub lean-moved : (t u v : Index) (r : Row) → Empties t u r → Fills u v r → IsLean t → IsLean v
lean-moved t u v r m f l = record {
  names = λ n e. moved_step _ _ _ (f.names n e) (m.names n) (l.names n);
  clients = λ c e. moved_step _ _ _ (f.clients c e) (m.clients c) (l.clients c);
}

-- Forgetting the row's name after emptying it leaves at most its client idle.
pub lean-dropped : (t u v : Index) (r : Row) (client : ℕ) → r.client ≡ client → Empties t u r → ((n : List ℕ) → is_idle_line v.lines n ≡ (is_idle_line u.lines n && not (bytes_eq r.name n))) → ((c : ℕ) → is_idle_client v.clients c ≡ is_idle_client u.clients c) → IsLeanBut t (λ n. false) (λ c. client == c) → IsLeanBut v (λ n. false) (λ c. client == c)
lean-dropped t u v r client s m names clients l = record {
  names = λ n e. moved_step _ _ _ (sym (names n) ∙ e) (m.names n) (l.names n);
  clients = λ c e. dropped_step _ _ _ (m.clients c (sym (clients c) ∙ e)) (l.clients c) (ap (λ k. k == c) s);
}

pub lean-held : (t u : Index) (r : Row) (rest more : List Row) (client : ℕ) → Fills t u r → IsLeanBut t (λ n. is_named n (r ∷ rest) || is_named n more) (λ c. client == c) → IsLeanBut u (λ n. is_named n rest || is_named n more) (λ c. client == c)
lean-held t u r rest more client f l = record {
  names = λ n e. held_step _ _ _ _ (f.names n e) (l.names n);
  clients = λ c e. l.clients c (first _ _ (f.clients c e));
}

pub lean-queued : (t u : Index) (r : Row) (rest : List Row) (client : ℕ) → Fills t u r → IsLeanBut t (λ n. is_named n (r ∷ rest)) (λ c. client == c) → IsLeanBut u (λ n. is_named n rest) (λ c. client == c)
lean-queued t u r rest client f l = record {
  names = λ n e. queued_step _ _ _ (f.names n e) (l.names n);
  clients = λ c e. l.clients c (first _ _ (f.clients c e));
}

-- Filling the only name and the only client that may be idle makes the index lean.
pub lean-filled : (t u : Index) (r : Row) (client : ℕ) (name : List ℕ) → r.client ≡ client → r.name ≡ name → Fills t u r → IsLeanBut t (λ n. bytes_eq name n) (λ c. client == c) → IsLean u
lean-filled t u r client name same_client same_name f l = record {
  names = λ n e. other _ _ (f.names n e) (ap (λ m. bytes_eq m n) same_name ∙ l.names n (first _ _ (f.names n e)));
  clients = λ c e. other _ _ (f.clients c e) (ap (λ k. k == c) same_client ∙ l.clients c (first _ _ (f.clients c e)));
}

pub lean-but : (t : Index) (client : ℕ) → IsLean t → IsLeanBut t (λ n. false) (λ c. client == c)
lean-but t client l = record {
  names = l.names;
  clients = λ c e. nothing _ (l.clients c e);
}

pub row-client : (a b : Row) → Some a ≡ Some b → a.client ≡ b.client
row-client a b e = cc

pub no-items : (xs : List ℕ) → (length xs == 0) ≡ true → xs ≡ []
no-items [] e = refl
no-items (x ∷ xs) e = grind (arith, nat_tests)
