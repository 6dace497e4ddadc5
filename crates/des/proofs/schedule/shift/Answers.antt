use Rattle.std.proofs.Common.{arith}
use Rattle.des.proofs.Keys.{shift_is}
use Rattle.des.proofs.schedule.shift.Goals as goal

-- With the lemma listed above the function the clause `narrow` stays open.
pub returns : goal.returns
returns c =
    let s = shift_is c.args.by c.args.half (omega arith) c.requires.narrow in
    record { is = s.is; narrow = s.narrow }
