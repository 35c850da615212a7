use Rattle.std.proofs.Common.{◌+◌, ◌++◌, ℕ, drop, sym, ap, ◌∙◌, append-nil}
use Rattle.std.specs.Prelude.{slice_index_or}
use Rattle.std.proofs.lemmas.List.{drop_all}
use Rattle.wl_broker.specs.Shards.{is_of, listed_of, shard_of}
use Rattle.std.proofs.lemmas.Bool.{eq-eqb, ne_eqb}
use Rattle.wl_locked.proofs.Listing.{front_item, listed-more, listed-passed, rises-filter}
use Rattle.wl_locked.proofs.brokers.listed_in.Goals.{then-shard_of-shard+in_ok-push, else-shard_of-shard}
use Rattle.wl_locked.proofs.brokers.listed_in.Goals as goal

pub loop-listed-init : goal.loop-listed-init
loop-listed-init c = ap (λ xs. xs ++ listed_of (is_of c.args.beginning.now.shards c.args.shard) c.args.beginning.now.list.now) c.new-part.ensures.items

pub loop-listed-preserved : goal.loop-listed-preserved
loop-listed-preserved c =
    let mine = is_of c.args.beginning.now.shards c.args.shard in
    let xs = c.args.beginning.now.list.now in
    let l = c.loop-listed in
    let x = slice_index_or xs l.listed-index (0, 0) in
    let rest = drop (l.listed-index + 1) xs in
    let keep = λ (p : ℕ × ℕ). mine p.1 in
    let first = front_item xs l.listed-index (0, 0) c.loop-listed-test.true in
    let on = ap (λ ys. l.part.items ++ listed_of mine ys) (sym first) ∙ l.invariant in
    elim c.if-shard_of-shard.branch [
      | then-shard_of-shard+in_ok-push w ↦
          let is = eq-eqb (shard_of c.args.beginning.now.shards x.1) c.args.shard (sym c.shard_of.ensures ∙ w.if-shard_of-shard.true) in
          ap (λ v. v.items ++ listed_of mine rest) w.part-is ∙ ap (λ ys. ys ++ listed_of mine rest) w.in_ok-push.ensures.items ∙ listed-more keep l.part.items x rest is ∙ on
      | else-shard_of-shard w ↦
          let isnt = ne_eqb (shard_of c.args.beginning.now.shards x.1) c.args.shard (λ e. w.if-shard_of-shard.false (c.shard_of.ensures ∙ e)) in
          ap (λ v. v.items ++ listed_of mine rest) w.part-is ∙ listed-passed keep l.part.items x rest isnt ∙ on
    ]

pub returns-clause-listed : goal.returns-clause-listed
returns-clause-listed c =
    let mine = is_of c.args.beginning.now.shards c.args.shard in
    let l = c.loop-listed in
    let none = ap (listed_of mine) (drop_all l.listed-index c.args.beginning.now.list.now c.loop-listed-test.false) in
    sym (append-nil l.part.items) ∙ ap (λ ys. l.part.items ++ ys) (sym none) ∙ l.invariant

pub returns-clause-rises : goal.returns-clause-rises
returns-clause-rises c =
    let mine = is_of c.args.beginning.now.shards c.args.shard in
    let l = c.loop-listed in
    let xs = c.args.beginning.now.list.now in
    let none = ap (listed_of mine) (drop_all l.listed-index xs c.loop-listed-test.false) in
    let is = sym (append-nil l.part.items) ∙ ap (λ ys. l.part.items ++ ys) (sym none) ∙ l.invariant in
    rw is (rises-filter (λ x. mine x.1) 1 xs c.requires.list)
