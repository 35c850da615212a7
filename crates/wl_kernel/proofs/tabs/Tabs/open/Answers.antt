use Rattle.std.proofs.Common.{◌≡◌, ◌++◌, ◌∷◌, [], List, Some, None, true, length, refl, sym, ap, ◌∙◌}
use Rattle.std.proofs.lemmas.Option.{same_Some}
use Rattle.std.specs.Ordering.{nat_cmp}
use Rattle.std.specs.BTreeMap.{is_at}
use Rattle.std.specs.Map.{remove_entry}
use Rattle.wl_draft.proofs.TableLemmas.{insert_entry-put}
use Rattle.wl_draft.specs.Tables.{put}
use Rattle.wl_kernel.specs.declared.rows.TabRow.{TabRow}
use Rattle.wl_kernel.specs.Kernel.{KernelState, OpenedTab, tab_in, any_tab, is_of, number_or, insert_sorted, rises, opened, new_tab}
use Rattle.wl_kernel.specs.TableIndexes.{all_seen, home_of, joined}
use Rattle.wl_kernel.proofs.Living.{rises_living_in}
use Rattle.wl_kernel.proofs.OpenedTabs.{open_is_allowed, place_taken_back}
use Rattle.wl_kernel.proofs.HomePlaces.{home-set_at}
use Rattle.wl_kernel.proofs.KeptHomes.{members_kept, joined_number}
use Rattle.wl_kernel.proofs.Consistency.{IsEntered, seen-push, consistent-push, consistent-same}
use Rattle.wl_kernel.proofs.tabs.Tabs.open.Goals as goal

pub join-requires : goal.join-requires
join-requires c =
    let h = c.self.inside.homes in
    let os = all_seen h c.self.inside.rows.items in
    ap rises (members_kept c.args.partition os h c.self.invariant.housed) ∙ rises_living_in (is_of c.args.partition) os c.self.invariant.tabs

pub insert_sorted-requires-clause-rising : goal.insert_sorted-requires-clause-rising
insert_sorted-requires-clause-rising c =
    let os = all_seen c.self.inside.homes c.self.inside.rows.items in
    ap rises (c.enter.ensures.living ∙ c.self.invariant.alive) ∙ rises_living_in any_tab os c.self.invariant.tabs

pub invariant_of-self-2 : goal.invariant_of-self-2
invariant_of-self-2 c =
    let h = c.self.inside.homes in
    let t = c.args.tab in
    let rows = c.self.inside.rows.items in
    let r : TabRow = record { tab = t; home = c.in-Ok.home; generation = c.self.inside.generation; is_living = true } in
    let behind : c.push_reserved.new.self.items ≡ rows ++ r ∷ [] = c.push_reserved.ensures.items ∙ ap (λ (xs : List TabRow). xs ++ r ∷ []) c.enter.ensures.rows in
    let asked = open_is_allowed t c.args.partition c.args.self.now (sym c.in_default.ensures) in
    let new : tab_in (all_seen h rows) t ≡ None = ap (λ (k : KernelState). tab_in k.opened t) c.self.view_is ∙ asked.1 in
    let entered : IsEntered rows h r c.args.partition c.join.new.self = record {
      from_one = asked.0;
      new = new;
      alive = refl;
      has_home = c.in-Ok.ensures.place.0;
      own = c.in-Ok.ensures.place.1;
      joins = c.in-Ok.ensures.joined;
      kept = c.in-Ok.ensures.kept;
    } in
    let there : c.enter.new.places.entries ≡ put t (length rows) c.self.inside.places.entries =
    c.in_default-enter.ensures.places ∙ insert_entry-put t (length rows) c.self.inside.places.entries in
    let among : c.insert_sorted.new.numbers.items ≡ insert_sorted t c.self.inside.living.items = c.insert_sorted.ensures ∙ ap (insert_sorted t) c.enter.ensures.living in
    consistent-push rows c.self.inside.places.entries h c.self.inside.living.items c.self.inside.generation c.self.inside.last r c.args.partition
    c.push_reserved.new.self.items c.enter.new.places.entries c.join.new.self c.insert_sorted.new.numbers.items
    c.self.invariant entered behind there among

pub invariant_of-self-in-Err-join : goal.invariant_of-self-in-Err-join
invariant_of-self-in-Err-join c =
    let t = c.args.tab in
    let h = c.self.inside.homes in
    let rows = c.self.inside.rows.items in
    let asked = open_is_allowed t c.args.partition c.args.self.now (sym c.in_default.ensures) in
    let new : tab_in (all_seen h rows) t ≡ None = ap (λ (k : KernelState). tab_in k.opened t) c.self.view_is ∙ asked.1 in
    consistent-same rows c.self.inside.places.entries h c.self.inside.living.items c.self.inside.generation c.self.inside.last
    c.enter.new.rows.items c.remove.new.self.entries c.join.new.self c.enter.new.living.items
    c.self.invariant c.enter.ensures.rows
    (c.remove.ensures.entries ∙ ap (remove_entry (is_at (nat_cmp t))) c.in_default-enter.ensures.places ∙ place_taken_back (all_seen h rows) c.self.inside.places.entries t (length rows) new c.self.invariant.placed)
    c.in-Err-join.ensures.err c.enter.ensures.living

pub returns-clause-ok : goal.returns-clause-ok
returns-clause-ok c =
    let h = c.self.inside.homes in
    let t = c.args.tab in
    let rows = c.self.inside.rows.items in
    let r : TabRow = record { tab = t; home = c.in-Ok.home; generation = c.self.inside.generation; is_living = true } in
    let behind : c.push_reserved.new.self.items ≡ rows ++ r ∷ [] = c.push_reserved.ensures.items ∙ ap (λ (xs : List TabRow). xs ++ r ∷ []) c.enter.ensures.rows in
    let os = all_seen h rows in
    let state : List OpenedTab → KernelState = λ os. record { opened = os; generation = c.self.inside.generation; last = c.self.inside.last } in
    let seen_more : all_seen c.join.new.self c.push_reserved.new.self.items ≡ os ++ new_tab t c.args.partition c.self.inside.generation ∷ [] =
    ap (all_seen c.join.new.self) behind ∙ seen-push rows h r c.join.new.self c.self.invariant.have_homes c.in-Ok.ensures.kept
    ∙ ap (λ p. os ++ new_tab t p c.self.inside.generation ∷ []) c.in-Ok.ensures.place.1 in
    ap state seen_more ∙ ap (opened t c.args.partition) c.self.view_is

pub returns-clause-number : goal.returns-clause-number
returns-clause-number c =
    let t = c.args.tab in
    let p = c.args.partition in
    let h = c.self.inside.homes in
    let os = all_seen h c.self.inside.rows.items in
    let home = joined t (home_of h p) in
    let own : home_of c.join.new.self p ≡ Some c.at.result.now = ap (home_of c.join.new.self) (sym c.in-Ok.ensures.place.1) ∙ c.at.ensures in
    let is : c.at.result.now ≡ home = same_Some c.at.result.now home (sym own ∙ home-set_at h c.join.new.self p home c.in-Ok.ensures.joined) in
    c.number.ensures ∙ ap (λ x. x.0) is ∙ joined_number t p os h c.self.invariant.housed ∙ ap (λ (k : KernelState). number_or t k.opened p) c.self.view_is
