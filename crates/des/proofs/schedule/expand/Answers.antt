use Rattle.std.proofs.Common.{◌<◌, length, refl, ◌∙◌, arith, length-set}
use Rattle.des.proofs.Keys.{keys_none, keys_more, keys_all}
use Rattle.des.proofs.schedule.expand.Goals as goal

pub loop-i-init : goal.loop-i-init
loop-i-init c =
    let h = c.first_choice-halves.ensures in
    (refl, omega (arith, h.fits), omega arith, keys_none c.args.key c.first_choice-halves.result h.is)

pub loop-i-preserved : goal.loop-i-preserved
loop-i-preserved c =
    let i = c.loop-i.i in
    let n = c.loop-i.invariant.0 in
    let l : i < length c.loop-i.keys = omega arith in
    let e = c.shift-c.ensures in
    let f = c.shift-d.ensures in (
      length-set c.loop-i.keys i c.second_choice.result ∙ n,
      e.narrow,
      f.narrow,
      keys_more c.loop-i.keys i _ c.loop-i.c c.loop-i.d c.shift-c.result c.shift-d.result c.second_choice.result c.joined.result _ l c.loop-i-test.true refl e.is f.is f.narrow
          c.joined.ensures c.second_choice.ensures c.loop-i.invariant.3,
    )

pub returns : goal.returns
returns c =
    keys_all c.loop-i.keys c.loop-i.i c.loop-i.c c.loop-i.d _ c.loop-i.invariant.0 (omega arith) c.loop-i.invariant.3
