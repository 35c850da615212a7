use Rattle.std.proofs.Common.{nat_eq, sym, ◌∙◌}
use Rattle.indexmap.proofs.MapLemmas.{Found-position, insert_entry-first}
use Rattle.wl_hub.proofs.receiving.feed.Goals as goal

pub returns-clause-fed : goal.returns-clause-fed
returns-clause-fed c = record {
  before = c.in-Some-get_index_mut.feed.now;
  after = c.decode.new.self;
  had = sym c.in-Some.ensures.value ∙ sym c.in-Some-get_index_mut.ensures.value;
  decodes = c.decode.ensures;
  now = sym (insert_entry-first nat_eq c.args.tab c.decode.new.self c.args.feeds.now.entries c.in-Some.place
      (Found-position (nat_eq c.args.tab) c.args.feeds.now.entries c.in-Some.place (sym c.in-Some.ensures.index)).first);
}
