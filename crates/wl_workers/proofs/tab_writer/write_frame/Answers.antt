use Rattle.std.proofs.Common.{◌∙◌, rules}
use Rattle.wl_workers.proofs.WriterLemmas.{writes_nothing, writes_by}
use Rattle.wl_workers.proofs.tab_writer.write_frame.Goals as goal

pub returns-then-not-is_well_formed-clause-written : goal.returns-then-not-is_well_formed-clause-written
returns-then-not-is_well_formed-clause-written g c = writes_nothing _ _ _ c.requires

pub returns-in_default-clause-written : goal.returns-in_default-clause-written
returns-in_default-clause-written g c = writes_nothing _ _ _ c.requires

pub returns-clause-written : goal.returns-clause-written
returns-clause-written g c =
    writes_by _ _ _ c.as_slice.result.now c.write.result _ _ (search rules) (c.as_slice.ensures.value ∙ c.in-Ok.ensures) c.requires c.write.ensures.written c.write.ensures.sound c.write.ensures.failed
