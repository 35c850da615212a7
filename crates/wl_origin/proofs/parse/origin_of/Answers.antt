use Rattle.std.proofs.Common.{◌≤◌, length, inr, arith}
use Rattle.std.proofs.lemmas.Result.{err_from_is_err_and}
use Rattle.wl_limits.specs.declared.texts.TheConstants.{URL_LIMIT}
use Rattle.wl_origin.proofs.PartitionLemmas.{origin_of_text-long, origin_of_text-parsed, refused_parse}
use Rattle.wl_origin.proofs.parse.origin_of.Goals as goal

pub returns-then-url-gt-URL_LIMIT-clause-refused :
    goal.returns-then-url-gt-URL_LIMIT-clause-refused
returns-then-url-gt-URL_LIMIT-clause-refused c =
    inr (origin_of_text-long _ (omega arith))

pub returns-in_err-parse-clause-refused : goal.returns-in_err-parse-clause-refused
returns-in_err-parse-clause-refused c =
    let answered = err_from_is_err_and c.from_residual.result c.from_residual.ensures.1 in
    rw (answered.1, answered.2) (refused_parse _ _ (omega arith) c.in_err-parse.ensures)

pub returns-clause-ok : goal.returns-clause-ok
returns-clause-ok c =
    let short : length c.args.url.now ≤ URL_LIMIT = omega arith in
    let parsed = origin_of_text-parsed c.args.url.now c.in_ok-parse.field-0 short c.in_ok-parse.ensures in
    rw (parsed, ← c.in_ok-origin.ensures) c.of_origin.ensures.ok

pub returns-clause-refused : goal.returns-clause-refused
returns-clause-refused c =
    let short : length c.args.url.now ≤ URL_LIMIT = omega arith in
    let parsed = origin_of_text-parsed c.args.url.now c.in_ok-parse.field-0 short c.in_ok-parse.ensures in
    rw (parsed, ← c.in_ok-origin.ensures) c.of_origin.ensures.refused
