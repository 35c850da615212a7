use Rattle.std.proofs.Common.{◌≡◌, ◌∙◌, true, sym, arith}
use Rattle.std.specs.Prelude.{bytes_eq}
use Rattle.std.specs.String.{string_bytes}
use Rattle.wl_table_index.proofs.LineLemmas.{position-at}
use Rattle.wl_table_index.proofs.RoomLemmas.{text-turn}
use Rattle.wl_table_index.proofs.name_lines.Lines.is_at.Goals as goal

pub returns-in-Some : goal.returns-in-Some
returns-in-Some c = λ e.
    let key = string_bytes c.in-Some.key.now in
    let same : bytes_eq key c.args.name.now ≡ true = grind (arith, e) in
    position-at string_bytes c.args.name.now c.args.self.now.lines.entries c.args.place (c.in-Some.key.now, c.in-Some.field-0-1.now) c.len-len.ensures.unique (sym c.in-Some.ensures.entry) (text-turn c.args.name.now key ∙ same)
