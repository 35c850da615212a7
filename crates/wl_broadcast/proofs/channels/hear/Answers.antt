-- Proof that recording a post puts its row. If the delivery of a new source's post fails, its row
-- is removed again.
use Rattle.std.proofs.Common.{◌≡◌, false, subst, sym, ap, ◌∙◌}
use Rattle.std.specs.Ordering.{nat_cmp}
use Rattle.std.specs.BTreeMap.{is_at}
use Rattle.std.specs.Map.{remove_entry}
use Rattle.wl_draft.specs.Tables.{has_row}
use Rattle.wl_draft.proofs.TableLemmas.{insert_entry-put, remove_entry-put, is_some-lookup}
use Rattle.wl_broadcast.specs.OpenObjects.{all_seen, open_from, AreChannels}
use Rattle.wl_broadcast.proofs.Numbered.{open-delivered}
use Rattle.wl_broadcast.proofs.ChannelNames.{names_delivered}
use Rattle.wl_broadcast.proofs.channels.hear.Goals as goal

pub returns-then-contains_key-clause-kept_open : goal.returns-then-contains_key-clause-kept_open
returns-then-contains_key-clause-kept_open c =
    let d = c.args.delivery.now in
    ap (open_from 0) c.in_ok-deliver.ensures.ok ∙ open-delivered d.sender d.name.now d.letter.now 0 (all_seen c.args.objects.now)

pub returns-then-contains_key-clause-kept_names : goal.returns-then-contains_key-clause-kept_names
returns-then-contains_key-clause-kept_names c names =
    let d = c.args.delivery.now in
    subst AreChannels (sym c.in_ok-deliver.ensures.ok) (names_delivered 0 d.sender d.name.now d.letter.now (all_seen c.args.objects.now) names)

pub returns-then-contains_key-clause-last : goal.returns-then-contains_key-clause-last
returns-then-contains_key-clause-last c =
    let l = c.args.delivery.now.letter.now in
    c.in_ok-insert.ensures.entries ∙ insert_entry-put l.source l.number c.args.last.now.entries

pub returns-in-Err-clause-err : goal.returns-in-Err-clause-err
returns-in-Err-clause-err c =
    let l = c.args.delivery.now.letter.now in
    let rows = c.args.last.now.entries in
    let absent : has_row rows l.source ≡ false = sym (is_some-lookup l.number rows l.source) ∙ sym c.contains_key.ensures ∙ c.if-contains_key.false in
    let put_row = c.in_ok-insert-2.ensures.entries ∙ insert_entry-put l.source l.number rows in
    (c.in-Err.ensures.err, c.remove.ensures.entries ∙ ap (remove_entry (is_at (nat_cmp l.source))) put_row ∙ remove_entry-put l.source l.number rows absent)

pub returns-clause-kept_open : goal.returns-clause-kept_open
returns-clause-kept_open c =
    let d = c.args.delivery.now in
    ap (open_from 0) c.in_default.ensures.ok ∙ open-delivered d.sender d.name.now d.letter.now 0 (all_seen c.args.objects.now)

pub returns-clause-kept_names : goal.returns-clause-kept_names
returns-clause-kept_names c names =
    let d = c.args.delivery.now in
    subst AreChannels (sym c.in_default.ensures.ok) (names_delivered 0 d.sender d.name.now d.letter.now (all_seen c.args.objects.now) names)

pub returns-clause-last : goal.returns-clause-last
returns-clause-last c =
    let l = c.args.delivery.now.letter.now in
    c.in_ok-insert-2.ensures.entries ∙ insert_entry-put l.source l.number c.args.last.now.entries
