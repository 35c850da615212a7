-- The tab of an event.
use Rattle.std.specs.Prelude.{ℕ}
use Rattle.wl_locked.specs.declared.event.BookEvent.{BookEvent}
use Rattle.wl_locked.specs.declared.event.BookEvent.TheVariants.{Take, Dead}

-- The tab that sent the message, or that died.
abbrev pub tab_of : BookEvent → ℕ
tab_of (Take stamped) = stamped.tab
tab_of (Dead tab) = tab
