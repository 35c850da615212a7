-- Welcome of a tab: the first frame that it receives.
use Rattle.std.specs.Prelude.{ℕ, List, Bool, Option, Some, None, if◌then◌else◌}
use Rattle.wl_origin.specs.Order.{Pair}
use Rattle.wl_origin.specs.Partition.{origin_text}
use Rattle.wl_grammar.specs.declared.frame.Frame.{Frame}
use Rattle.wl_grammar.specs.declared.frame.Frame.TheVariants as frame

-- The texts of a page's origins. The top origin is present only if the welcome contains both.
pub record Texts : Type 0 where
  pub top : Option (List ℕ)
  pub own : List ℕ

abbrev pub texts_of : Pair → Bool → Texts
texts_of p is_pair = record { top = if is_pair then Some (origin_text p.0) else None; own = origin_text p.1 }

-- The welcome tells a tab its number and its page's origins.
abbrev pub welcome : ℕ → Option (List ℕ) → List ℕ → Frame
welcome tab None own = frame.Welcome (record { tab = tab; origin = own })
welcome tab (Some top) own = frame.PairWelcome (record { tab = tab; top = top; own = own })
