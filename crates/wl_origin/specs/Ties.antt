-- Agreement of equality and order: two origins or partitions are equal if and only if neither comes
-- before the other.
use Rattle.std.specs.Prelude.{bytes_eq, nat_eq}
use Rattle.std.specs.Ordering.{nat_cmp}
use Rattle.std.specs.Cmp.{unsigned_ties}
use Rattle.std.specs.Cmp.Derive.{Tied, tie, on_tied, then_tied}
use Rattle.std.specs.Cmp.Lexicographic.{slice_cmp, texts_ties}
use Rattle.url.specs.Origin.{Triple}
use Rattle.wl_origin.specs.Order.{host_kind, host_items, host_eq, host_cmp, triple_eq, triple_cmp, Pair, pair_eq, pair_cmp}

numbers_tied : Tied nat_eq nat_cmp
numbers_tied = tie nat_cmp unsigned_ties

texts_tied : Tied bytes_eq (slice_cmp nat_cmp)
texts_tied = tie (slice_cmp nat_cmp) texts_ties

hosts_tied : Tied host_eq host_cmp
hosts_tied = then_tied (on_tied host_kind numbers_tied) (on_tied host_items texts_tied)

pub triples_tied : Tied triple_eq triple_cmp
triples_tied =
    then_tied (on_tied (λ (t : Triple). t.0) texts_tied)
    (then_tied (on_tied (λ (t : Triple). t.1) hosts_tied) (on_tied (λ (t : Triple). t.2) numbers_tied))

pub pairs_tied : Tied pair_eq pair_cmp
pairs_tied = then_tied (on_tied (λ (p : Pair). p.0) triples_tied) (on_tied (λ (p : Pair). p.1) triples_tied)
