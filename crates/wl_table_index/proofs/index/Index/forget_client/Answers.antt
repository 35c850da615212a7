use Rattle.wl_table_index.proofs.PlaceLemmas.{no-places, indexed-same}
use Rattle.wl_table_index.proofs.index.Index.forget_client.Goals as goal

pub forget-requires : goal.forget-requires
forget-requires c = λ e. no-places c.args.self.now c.args.client c.requires e

pub returns-clause-indexed : goal.returns-clause-indexed
returns-clause-indexed c =
    indexed-same c.args.self.now c.forget.new.self c.forget.ensures.places c.forget.ensures.count c.requires
