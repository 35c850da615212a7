use Rattle.wl_tab.proofs.OpenChannels.{numbered-heard}
use Rattle.wl_tab.proofs.channels.TabChannels.heard.Goals as goal

pub invariant_of-self : goal.invariant_of-self
invariant_of-self c =
    numbered-heard c.self.inside.channels c.heard.new.self c.self.inside.latest c.self.inside.kept.items c.args.frame.now c.heard.result c.self.invariant c.heard.ensures.ok c.heard.ensures.refused.0 c.heard.ensures.err
