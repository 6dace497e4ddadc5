use Rattle.std.proofs.Common.{◌<◌, get_or, set, ap, ◌∙◌, rules}
use lib.Bits.{bit_xor}
use Rattle.cmac.specs.Shift.{doubled_by}
use Rattle.cmac.proofs.double.double.Goals as goal

pub returns : goal.returns
returns c =
    let xs = c.args.block.now in
    let ys = c.shift_left-twice.result in
    let byte : get_or xs 0 0 < 256 = search rules in
    ap (λ n. set ys 15 (bit_xor (get_or ys 15 0) n)) c.carry.ensures ∙ doubled_by xs ys byte c.told-block c.shift_left-twice.ensures
