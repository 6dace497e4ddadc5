use Rattle.std.proofs.Common.{◌-◌, ◌*◌, ◌/◌, ◌%◌, ◌^◌, ap, ◌∙◌, arith}
use lib.Bits.{bit_xor}
use Rattle.des_tables.specs.Bits.{chosen}
use Rattle.des_tables.specs.Boxes.{placed}
use Rattle.des_tables.specs.Tables.{straight}
use Rattle.des.proofs.Mixing.{mixed_none, mixed_more, mixed_all}
use Rattle.des.proofs.round.mix.Goals as goal

pub loop-i-init : goal.loop-i-init
loop-i-init c = mixed_none c.args.half c.args.key

pub loop-i-preserved : goal.loop-i-preserved
loop-i-preserved c =
    let v = ap (λ w. bit_xor (w / 2 ^ (28 - 4 * c.loop-i.i)) (c.args.key / 2 ^ (42 - 6 * c.loop-i.i)) % 64) c.wrap-wide.ensures in
    let e = c.entry-out.ensures ∙ ap (λ w. chosen straight (placed c.loop-i.i w)) (c.window-v.ensures ∙ v) in
    mixed_more c.args.half c.args.key c.loop-i.i c.loop-i.out c.entry-out.result _ c.ranges.half.fits c.loop-i-test.true e c.loop-i.invariant

pub returns : goal.returns
returns c = mixed_all c.args.half c.args.key c.loop-i.i c.loop-i.out _ (omega arith) c.loop-i.invariant
