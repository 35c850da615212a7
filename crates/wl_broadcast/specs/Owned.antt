-- Channel as contracts see it: the tab that owns it, and its number in that tab.
use Rattle.std.specs.Prelude.{ℕ}

pub record Owned : Type 0 where
  pub tab : ℕ
  pub number : ℕ
