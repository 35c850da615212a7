use Rattle.std.proofs.Common.{◌≡◌, Some, None, ap, ◌∙◌}
use Rattle.wl_draft.proofs.TableLemmas.{lookup-find}
use Rattle.wl_draft.specs.Tables.{find}
use Rattle.wl_broadcast.specs.Channels.{is_old_after}
use Rattle.wl_broadcast.proofs.channels.Channels.is_old.Goals as goal

pub returns-in-Some : goal.returns-in-Some
returns-in-Some c =
    let found : Some c.in-Some.last.now ≡ find c.args.self.now.last c.args.source = c.in-Some.ensures.value ∙ lookup-find c.self.inside.last.entries c.args.source ∙ ap (λ s. find s.last c.args.source) c.self.view_is in
    ap (λ o. is_old_after o c.args.number) found

pub returns-in-None : goal.returns-in-None
returns-in-None c =
    let found : None ≡ find c.args.self.now.last c.args.source = c.in-None.ensures.value ∙ lookup-find c.self.inside.last.entries c.args.source ∙ ap (λ s. find s.last c.args.source) c.self.view_is in
    ap (λ o. is_old_after o c.args.number) found
