-- `==` on events and replies is equality.
use Rattle.std.proofs.Common.{rules, ◌≡◌, ℕ, nat_eq, Bool, true, false, ◌&&◌, List, refl, sym, ap, subst, true≢false}
use Rattle.std.specs.Prelude.{Decides}
use Rattle.std.specs.Cmp.Lexicographic.{pointwise, pointwise_decides}
use Rattle.std.proofs.lemmas.Bool.{and_parts}
use Rattle.wl_draft.specs.declared.row.Entry.{Entry}
use Rattle.wl_draft.specs.contracts.row.EntryPartialEq.TheImpl as entry
use Rattle.wl_grammar.specs.declared.frame.Command.{Command}
use Rattle.wl_grammar.specs.contracts.frame.CommandPartialEq.TheImpl as command
use Rattle.wl_grammar.specs.declared.frame.Report.{Report}
use Rattle.wl_grammar.specs.contracts.frame.ReportPartialEq.TheImpl as report
use Rattle.wl_grammar.specs.declared.frame.ReportPart.{ReportPart}
use Rattle.wl_grammar.specs.contracts.frame.ReportPartPartialEq.TheImpl as report_part
use Rattle.wl_grammar.specs.declared.frame.Upward.{Upward}
use Rattle.wl_grammar.specs.declared.frame.Upward.TheVariants as up
use Rattle.wl_grammar.specs.contracts.frame.UpwardPartialEq.TheImpl as upward
use Rattle.wl_grammar.specs.declared.frame.Stamped.{Stamped}
use Rattle.wl_grammar.specs.contracts.frame.StampedPartialEq.TheImpl as stamped
use Rattle.wl_grammar.specs.declared.frame.Hello.{Hello}
use Rattle.wl_grammar.specs.contracts.frame.HelloPartialEq.TheImpl as hello
use Rattle.wl_grammar.specs.declared.frame.Answer.{Answer}
use Rattle.wl_grammar.specs.contracts.frame.AnswerPartialEq.TheImpl as answer
use Rattle.wl_grammar.specs.declared.frame.SnapshotEntry.{SnapshotEntry}
use Rattle.wl_grammar.specs.contracts.frame.SnapshotEntryPartialEq.TheImpl as snapshot_entry
use Rattle.wl_grammar.specs.declared.frame.Snapshot.{Snapshot}
use Rattle.wl_grammar.specs.contracts.frame.SnapshotPartialEq.TheImpl as snapshot
use Rattle.wl_grammar.specs.declared.frame.Downward.{Downward}
use Rattle.wl_grammar.specs.declared.frame.Downward.TheVariants as down
use Rattle.wl_grammar.specs.contracts.frame.DownwardPartialEq.TheImpl as downward
use Rattle.wl_grammar.specs.declared.frame.Addressed.{Addressed}
use Rattle.wl_grammar.specs.contracts.frame.AddressedPartialEq.TheImpl as addressed
use Rattle.wl_broker.specs.declared.dropped.Dropped.{Dropped as Reason}
use Rattle.wl_broker.specs.contracts.dropped.DroppedPartialEq.TheImpl as reason
use Rattle.wl_locked.specs.declared.event.BookEvent.{BookEvent}
use Rattle.wl_locked.specs.declared.event.BookEvent.TheVariants.{Take, Dead}
use Rattle.wl_locked.specs.contracts.event.BookEventPartialEq.TheImpl as book_event
use Rattle.wl_locked.specs.declared.event.Reply.{Reply}
use Rattle.wl_locked.specs.declared.event.Reply.TheVariants.{Outs, Dropped}
use Rattle.wl_locked.specs.contracts.event.ReplyPartialEq.TheImpl as reply

both : {a b : Bool} {P Q : Type 0} → Decides a P → Decides b Q → Decides (a && b) (P × Q)
both {a} {b} p q = (λ h. let s = and_parts a b h in (p.0 s.0, q.0 s.1), λ h. (rw (p.1 h.0, q.1 h.1) refl))

entry_same : (x y : Entry) → Decides (entry.ghosts.eq x y) (x ≡ y)
entry_same x y = search rules

entries_same : (xs ys : List Entry) → Decides (pointwise entry.ghosts.eq xs ys) (xs ≡ ys)
entries_same = pointwise_decides entry_same

command_same : (x y : Command) → Decides (command.ghosts.eq x y) (x ≡ y)
command_same x y = search rules

number_same : (x y : ℕ) → Decides (nat_eq x y) (x ≡ y)
number_same x y = search rules

-- Different constructors compare as different.
apart : {P : Type 0} → false ≡ true → P
apart h = absurd (true≢false (sym h))

report_same : (x y : Report) → Decides (report.ghosts.eq x y) (x ≡ y)
report_same x y =
    let d = both (number_same x.generation y.generation) (both (number_same x.base y.base) (entries_same x.entries y.entries)) in
    (λ h. let p = d.0 h in λ i. record { generation = p.0 i; base = p.1.0 i; entries = p.1.1 i }, λ e. d.1 (ap (λ (r : Report). r.generation) e, (ap (λ (r : Report). r.base) e, ap (λ (r : Report). r.entries) e)))

report_part_same : (x y : ReportPart) → Decides (report_part.ghosts.eq x y) (x ≡ y)
report_part_same x y =
    let d = both (number_same x.generation y.generation) (both (number_same x.base y.base) (both (number_same x.part y.part) (both (number_same x.parts y.parts) (entries_same x.entries y.entries)))) in (
      λ h. let p = d.0 h in λ i. record { generation = p.0 i; base = p.1.0 i; part = p.1.1.0 i; parts = p.1.1.1.0 i; entries = p.1.1.1.1 i },
      λ e. d.1 (ap (λ (r : ReportPart). r.generation) e, (ap (λ (r : ReportPart). r.base) e, (ap (λ (r : ReportPart). r.part) e, (ap (λ (r : ReportPart). r.parts) e, ap (λ (r : ReportPart). r.entries) e)))),
    )

-- Equal values compare as equal.
by_self : {X : Type 0} (eq : X → X → Bool) → ((x : X) → eq x x ≡ true) → (x y : X) → x ≡ y → eq x y ≡ true
by_self eq self x y e = subst (λ z. eq x z ≡ true) e (self x)

upward_self : (x : Upward) → upward.ghosts.eq x x ≡ true
upward_self (up.Command c) = (command_same c c).1 refl
upward_self (up.Report r) = (report_same r r).1 refl
upward_self (up.ReportPart r) = (report_part_same r r).1 refl

upward_sound : (x y : Upward) → upward.ghosts.eq x y ≡ true → x ≡ y
upward_sound (up.Command c) (up.Command d) h = ap up.Command ((command_same c d).0 h)
upward_sound (up.Report r) (up.Report s) h = ap up.Report ((report_same r s).0 h)
upward_sound (up.ReportPart r) (up.ReportPart s) h = ap up.ReportPart ((report_part_same r s).0 h)
upward_sound _ _ h = apart h

upward_same : (x y : Upward) → Decides (upward.ghosts.eq x y) (x ≡ y)
upward_same x y = (upward_sound x y, by_self upward.ghosts.eq upward_self x y)

stamped_same : (x y : Stamped) → Decides (stamped.ghosts.eq x y) (x ≡ y)
stamped_same x y =
    let d = both (number_same x.tab y.tab) (both (number_same x.partition y.partition) (upward_same x.inner y.inner)) in
    (λ h. let p = d.0 h in λ i. record { tab = p.0 i; partition = p.1.0 i; inner = p.1.1 i }, λ e. d.1 (ap (λ (s : Stamped). s.tab) e, (ap (λ (s : Stamped). s.partition) e, ap (λ (s : Stamped). s.inner) e)))

-- Events

event_self : (x : BookEvent) → book_event.ghosts.eq x x ≡ true
event_self (Take s) = (stamped_same s s).1 refl
event_self (Dead t) = (number_same t t).1 refl

event_sound : (x y : BookEvent) → book_event.ghosts.eq x y ≡ true → x ≡ y
event_sound (Take s) (Take r) h = ap Take ((stamped_same s r).0 h)
event_sound (Dead t) (Dead u) h = ap Dead ((number_same t u).0 h)
event_sound _ _ h = apart h

pub event_same : (x y : BookEvent) → Decides (book_event.ghosts.eq x y) (x ≡ y)
event_same x y = (event_sound x y, by_self book_event.ghosts.eq event_self x y)

-- Replies

snapshot_entry_same : (x y : SnapshotEntry) → Decides (snapshot_entry.ghosts.eq x y) (x ≡ y)
snapshot_entry_same x y = search rules

answer_same : (x y : Answer) → Decides (answer.ghosts.eq x y) (x ≡ y)
answer_same x y = search rules

hello_same : (x y : Hello) → Decides (hello.ghosts.eq x y) (x ≡ y)
hello_same x y = search rules

snapshot_entries_same : (xs ys : List SnapshotEntry) → Decides (pointwise snapshot_entry.ghosts.eq xs ys) (xs ≡ ys)
snapshot_entries_same = pointwise_decides snapshot_entry_same

snapshot_same : (x y : Snapshot) → Decides (snapshot.ghosts.eq x y) (x ≡ y)
snapshot_same x y =
    let d = both (number_same x.generation y.generation) (both (number_same x.number y.number) (both (number_same x.part y.part) (both (number_same x.parts y.parts) (snapshot_entries_same x.entries y.entries)))) in (
      λ h. let p = d.0 h in λ i. record { generation = p.0 i; number = p.1.0 i; part = p.1.1.0 i; parts = p.1.1.1.0 i; entries = p.1.1.1.1 i },
      λ e. d.1 (ap (λ (r : Snapshot). r.generation) e, (ap (λ (r : Snapshot). r.number) e, (ap (λ (r : Snapshot). r.part) e, (ap (λ (r : Snapshot). r.parts) e, ap (λ (r : Snapshot). r.entries) e)))),
    )

downward_self : (x : Downward) → downward.ghosts.eq x x ≡ true
downward_self (down.Hello h) = (hello_same h h).1 refl
downward_self (down.Answer a) = (answer_same a a).1 refl
downward_self (down.Snapshot s) = (snapshot_same s s).1 refl

downward_sound : (x y : Downward) → downward.ghosts.eq x y ≡ true → x ≡ y
downward_sound (down.Hello x) (down.Hello y) h = ap down.Hello ((hello_same x y).0 h)
downward_sound (down.Answer x) (down.Answer y) h = ap down.Answer ((answer_same x y).0 h)
downward_sound (down.Snapshot x) (down.Snapshot y) h = ap down.Snapshot ((snapshot_same x y).0 h)
downward_sound _ _ h = apart h

downward_same : (x y : Downward) → Decides (downward.ghosts.eq x y) (x ≡ y)
downward_same x y = (downward_sound x y, by_self downward.ghosts.eq downward_self x y)

addressed_same : (x y : Addressed) → Decides (addressed.ghosts.eq x y) (x ≡ y)
addressed_same x y =
    let d = both (number_same x.tab y.tab) (downward_same x.inner y.inner) in
    (λ h. let p = d.0 h in λ i. record { tab = p.0 i; inner = p.1 i }, λ e. d.1 (ap (λ (a : Addressed). a.tab) e, ap (λ (a : Addressed). a.inner) e))

outs_same : (xs ys : List Addressed) → Decides (pointwise addressed.ghosts.eq xs ys) (xs ≡ ys)
outs_same = pointwise_decides addressed_same

dropped_same : (x y : Reason) → Decides (reason.ghosts.eq x y) (x ≡ y)
dropped_same x y = search rules

reply_self : (x : Reply) → reply.ghosts.eq x x ≡ true
reply_self (Outs outs) = (outs_same outs outs).1 refl
reply_self (Dropped d) = (dropped_same d d).1 refl

reply_sound : (x y : Reply) → reply.ghosts.eq x y ≡ true → x ≡ y
reply_sound (Outs xs) (Outs ys) h = ap Outs ((outs_same xs ys).0 h)
reply_sound (Dropped d) (Dropped e) h = ap Dropped ((dropped_same d e).0 h)
reply_sound _ _ h = apart h

pub reply_same : (x y : Reply) → Decides (reply.ghosts.eq x y) (x ≡ y)
reply_same x y = (reply_sound x y, by_self reply.ghosts.eq reply_self x y)
