use Rattle.wl_grammar.proofs.Prefixes.{IsPrefixOf-trans}
use Rattle.wl_grammar.proofs.encoding.put_snapshot_entry.Goals as goal

pub returns-clause-kept : goal.returns-clause-kept
returns-clause-kept c =
    IsPrefixOf-trans _ _ _ c.put_held.ensures.kept (
    IsPrefixOf-trans _ _ _ c.put_u16.ensures.kept (
    IsPrefixOf-trans _ _ _ c.put_mode.ensures.kept (
    c.put_short_text.ensures.kept)))
