use Rattle.std.proofs.Common.{◌≡◌, ◌*◌, map, drop}
use Rattle.std.specs.List.{range_with_len}
use Rattle.wl_limits.specs.declared.frames.TheConstants.{ENTRY_LIMIT}
use Rattle.wl_grammar.specs.PartCount.{part_count}
use Rattle.wl_agent.proofs.ToldReports.{part_frame}
use Rattle.wl_agent.proofs.reporting.report_frames.Given as goal

-- The frames so far are those of the parts before this one, and `rest` holds the entries after
-- them.
abbrev pub invariant-loop-part : goal.invariant-loop-part
invariant-loop-part l =
    (l.frames.items ≡ map (part_frame l.report) (range_with_len 0 l.part)) × (l.rest ≡ drop (ENTRY_LIMIT * l.part) l.report.entries) × (l.parts ≡ part_count l.report.entries)
