-- Numbers of the waiting requests, after a waiter is appended, marked or dropped.
use Rattle.std.proofs.Common.{◌≡◌, ℕ, ◌<◌, suc, zero, true, false, not, ◌==◌, List, [], ◌∷◌, ◌++◌, length, refl, subst, ◌∙◌, arith, slice_index_or, slice_set}
use Rattle.std.specs.Prelude.{filter}
use Rattle.std.proofs.lemmas.Bool.Decides.{nat_tests}
use Rattle.wl_table_index.specs.declared.request_queue.Waiter.{Waiter}
use Rattle.wl_table_index.specs.OrderNumbers.{without_number, are_above, do_rise}
use Rattle.wl_table_index.specs.RequestQueue.{numbers_in, is_front_gone}
use Rattle.wl_table_index.proofs.WithoutLemmas.{numbers-above, no_index}

pushed_step : (w v : Waiter) (ws : List Waiter) → numbers_in (ws ++ w ∷ []) ≡ numbers_in ws ++ w.order ∷ [] → numbers_in (v ∷ (ws ++ w ∷ [])) ≡ numbers_in (v ∷ ws) ++ w.order ∷ []
pushed_step w v ws h = grind arith

pub numbers-pushed : (w : Waiter) (ws : List Waiter) → w.is_marked ≡ false → numbers_in (ws ++ w ∷ []) ≡ numbers_in ws ++ w.order ∷ []
numbers-pushed w [] e = grind arith
numbers-pushed w (v ∷ ws) e = pushed_step w v ws (numbers-pushed w ws e)

numbers-gone : (w : Waiter) (ws : List Waiter) → w.is_marked ≡ true → numbers_in (w ∷ ws) ≡ numbers_in ws
numbers-gone w ws e = grind arith

without_step : (k : ℕ) (v : Waiter) (ws : List Waiter) → numbers_in (filter (λ w. not (w.order == k)) ws) ≡ without_number k (numbers_in ws) → numbers_in (filter (λ w. not (w.order == k)) (v ∷ ws)) ≡ without_number k (numbers_in (v ∷ ws))
without_step k v ws h = grind (arith, nat_tests)

pub numbers-without : (k : ℕ) (ws : List Waiter) → numbers_in (filter (λ w. not (w.order == k)) ws) ≡ without_number k (numbers_in ws)
numbers-without k [] = refl
numbers-without k (v ∷ ws) = without_step k v ws (numbers-without k ws)

waiting_step : (v : Waiter) (ws : List Waiter) → numbers_in (filter (λ w. not w.is_marked) ws) ≡ numbers_in ws → numbers_in (filter (λ w. not w.is_marked) (v ∷ ws)) ≡ numbers_in (v ∷ ws)
waiting_step v ws h = grind arith

pub numbers-waiting : (ws : List Waiter) → numbers_in (filter (λ w. not w.is_marked) ws) ≡ numbers_in ws
numbers-waiting [] = refl
numbers-waiting (v ∷ ws) = waiting_step v ws (numbers-waiting ws)

front_step : (v : Waiter) (ws : List Waiter) → is_front_gone (filter (λ w. not w.is_marked) ws) ≡ false → is_front_gone (filter (λ w. not w.is_marked) (v ∷ ws)) ≡ false
front_step v ws h = grind arith

pub front-waiting : (ws : List Waiter) → is_front_gone (filter (λ w. not w.is_marked) ws) ≡ false
front-waiting [] = refl
front-waiting (v ∷ ws) = front_step v ws (front-waiting ws)

above_first : (j : ℕ) (v w : Waiter) (ws : List Waiter) → w ≡ v → w.is_marked ≡ false → are_above j (numbers_in (v ∷ ws)) ≡ true → j < w.order
above_first j v w ws same waits a = grind (arith, nat_tests)

above_step : (j : ℕ) (v w : Waiter) (ws : List Waiter) → (are_above j (numbers_in ws) ≡ true → j < w.order) → are_above j (numbers_in (v ∷ ws)) ≡ true → j < w.order
above_step j v w ws h a = grind (arith, nat_tests)

number-above : (j i : ℕ) (w : Waiter) (ws : List Waiter) → i < length ws → w ≡ slice_index_or ws i w → w.is_marked ≡ false → are_above j (numbers_in ws) ≡ true → j < w.order
number-above j i w [] l at waits a = omega (arith, l)
number-above j zero w (v ∷ ws) l at waits a = above_first j v w ws at waits a
number-above j (suc i) w (v ∷ ws) l at waits a = above_step j v w ws (λ below. number-above j i w ws (omega (arith, l)) at waits below) a

rises_first : (v : Waiter) (ws : List Waiter) → v.is_marked ≡ false → do_rise (numbers_in (v ∷ ws)) ≡ true → are_above v.order (numbers_in ws) ≡ true
rises_first v ws e r = grind (arith, nat_tests)

rises_rest : (v : Waiter) (ws : List Waiter) → do_rise (numbers_in (v ∷ ws)) ≡ true → do_rise (numbers_in ws) ≡ true
rises_rest v ws r = grind (arith, nat_tests)

marked_first : (k : ℕ) (v w : Waiter) (ws : List Waiter) → w ≡ v → w.is_marked ≡ false → w.order ≡ k → (are_above k (numbers_in ws) ≡ true → without_number k (numbers_in ws) ≡ numbers_in ws) → do_rise (numbers_in (v ∷ ws)) ≡ true → numbers_in ws ≡ without_number k (numbers_in (v ∷ ws))
marked_first k v w ws same waits is h r = grind (arith, nat_tests)

marked_step : (k : ℕ) (v : Waiter) (ws rest : List Waiter) → (v.is_marked ≡ false → v.order < k) → numbers_in rest ≡ without_number k (numbers_in ws) → numbers_in (v ∷ rest) ≡ without_number k (numbers_in (v ∷ ws))
marked_step k v ws rest below h = grind (arith, nat_tests)

pub numbers-marked : (k i : ℕ) (w g : Waiter) (ws : List Waiter) → g.is_marked ≡ true → i < length ws → w ≡ slice_index_or ws i w → w.is_marked ≡ false → w.order ≡ k → do_rise (numbers_in ws) ≡ true → numbers_in (slice_set ws i g) ≡ without_number k (numbers_in ws)
numbers-marked k i w g [] gone l at waits is r = absurd (no_index i l)
numbers-marked k zero w g (v ∷ ws) gone l at waits is r = numbers-gone g ws gone ∙ marked_first k v w ws at waits is (numbers-above k (numbers_in ws)) r
numbers-marked k (suc i) w g (v ∷ ws) gone l at waits is r =
    let l' : i < length ws = omega (arith, l) in
    marked_step k v ws (slice_set ws i g) (λ e. subst (λ j. v.order < j) is (number-above v.order i w ws l' at waits (rises_first v ws e r))) (numbers-marked k i w g ws gone l' at waits is (rises_rest v ws r))
