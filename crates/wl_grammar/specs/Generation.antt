-- Generation of a frame from a tab.
use Rattle.std.specs.Prelude.{ℕ}
use Rattle.wl_grammar.specs.declared.frame.Upward.{Upward}
use Rattle.wl_grammar.specs.declared.frame.Upward.TheVariants as up

abbrev pub generation_of : Upward → ℕ
generation_of (up.Command c) = c.generation
generation_of (up.Report r) = r.generation
generation_of (up.ReportPart r) = r.generation
