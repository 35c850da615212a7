use Rattle.std.proofs.Common.{◌≡◌, arith}
use Rattle.wl_locked.proofs.brokers.Brokers.take.Goals as goal

pub returns-in-0-clause-reply : goal.returns-in-0-clause-reply
returns-in-0-clause-reply g c = rw c.in-0.is c.take.ensures.reply

pub returns-in-1-clause-reply : goal.returns-in-1-clause-reply
returns-in-1-clause-reply g c = rw c.in-1.is c.take-in-1.ensures.reply

pub returns-in-2-clause-reply : goal.returns-in-2-clause-reply
returns-in-2-clause-reply g c = rw c.in-2.is c.take-in-2.ensures.reply

pub returns-in-3-clause-reply : goal.returns-in-3-clause-reply
returns-in-3-clause-reply g c = rw c.in-3.is c.take-in-3.ensures.reply

pub returns-in-4-clause-reply : goal.returns-in-4-clause-reply
returns-in-4-clause-reply g c = rw c.in-4.is c.take-in-4.ensures.reply

pub returns-in-5-clause-reply : goal.returns-in-5-clause-reply
returns-in-5-clause-reply g c = rw c.in-5.is c.take-in-5.ensures.reply

pub returns-in-6-clause-reply : goal.returns-in-6-clause-reply
returns-in-6-clause-reply g c = rw c.in-6.is c.take-in-6.ensures.reply

pub returns-in-7-clause-reply : goal.returns-in-7-clause-reply
returns-in-7-clause-reply g c = rw c.in-7.is c.take-in-7.ensures.reply

pub returns-in-8-clause-reply : goal.returns-in-8-clause-reply
returns-in-8-clause-reply g c = rw c.in-8.is c.take-in-8.ensures.reply

pub returns-in-9-clause-reply : goal.returns-in-9-clause-reply
returns-in-9-clause-reply g c = rw c.in-9.is c.take-in-9.ensures.reply

pub returns-in-10-clause-reply : goal.returns-in-10-clause-reply
returns-in-10-clause-reply g c = rw c.in-10.is c.take-in-10.ensures.reply

pub returns-in-11-clause-reply : goal.returns-in-11-clause-reply
returns-in-11-clause-reply g c = rw c.in-11.is c.take-in-11.ensures.reply

pub returns-in-12-clause-reply : goal.returns-in-12-clause-reply
returns-in-12-clause-reply g c = rw c.in-12.is c.take-in-12.ensures.reply

pub returns-in-13-clause-reply : goal.returns-in-13-clause-reply
returns-in-13-clause-reply g c = rw c.in-13.is c.take-in-13.ensures.reply

pub returns-in-14-clause-reply : goal.returns-in-14-clause-reply
returns-in-14-clause-reply g c = rw c.in-14.is c.take-in-14.ensures.reply

pub returns-in_default-clause-reply : goal.returns-in_default-clause-reply
returns-in_default-clause-reply g c =
    let is : c.args.work.shard ≡ 15 = omega arith in
    rw is c.take-in_default.ensures.reply
