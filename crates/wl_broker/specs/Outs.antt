-- List of the frames that the broker sends for one event.
use Rattle.std.specs.Prelude.{List, [], ◌∷◌}
use Rattle.wl_grammar.specs.declared.frame.Addressed.{Addressed}
use Rattle.wl_broker.specs.declared.outs.Frames.{Frames}
use Rattle.wl_broker.specs.declared.outs.Frames.TheVariants.{One, Listed}

abbrev pub listed : Frames → List Addressed
listed (One frame) = frame ∷ []
listed (Listed frames) = frames.items
