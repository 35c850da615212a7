use Rattle.std.proofs.Common.{arith, ap, length, length-append}
use Rattle.wl_grammar.specs.Grammar.{body}
use Rattle.wl_grammar.proofs.BodyLength.{body_length}
use Rattle.wl_grammar.proofs.encoding.put_frame.Goals as goal

pub overflow_cast-length : goal.overflow_cast-length
overflow_cast-length c =
    let f = c.args.frame.now in
    let whole = ap length c.in_ok-put_body.ensures.spelled in
    let parts = length-append c.extend_from_slice.new.self.items (body f) in
    omega (arith, (body_length f c.requires).1, whole, parts, c.len.ensures, c.len-start.ensures, c.in_ok-extend_from_slice.ensures.len, c.extend_from_slice.new.self.ok.0, c.put_body.new.out.ok.0, c.args.out.now.ok.0)
