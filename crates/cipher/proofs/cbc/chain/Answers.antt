use Rattle.std.proofs.Common.{◌<◌, length, ap, ◌∙◌, arith}
use Rattle.cipher.proofs.Chain.{start, more, done, room}
use Rattle.cipher.proofs.cbc.chain.Goals as goal
use Rattle.cipher.proofs.cbc.chain.Goals.{else-loop-at-test, then-loop-at-test+else-n-at-end}

pub loop-at-init : goal.loop-at-init
loop-at-init g c = start _ _ _ c.requires.sizes c.requires.whole

pub slice_bounds-link-end-in-loop-at : goal.slice_bounds-link-end-in-loop-at
slice_bounds-link-end-in-loop-at g c =
    let lt : c.loop-at.at < length c.loop-at.text = omega arith in
    let r = room _ _ _ _ _ _ c.loop-at.invariant lt in
    omega (arith, r)

pub loop-at-preserved : goal.loop-at-preserved
loop-at-preserved g c =
    let lt : c.loop-at.at < length c.loop-at.text = omega arith in
    more _ _ _ _ _ _ _ _ c.requires.sizes c.loop-at.invariant lt c.link.auto.arg3 c.link.auto.arg2 (λ F G p. p _ _ _ _ c.link.ensures)

pub returns : goal.returns
returns g c F G p = elim c.loop-at-test.branch [
  | else-loop-at-test w ↦ w.text-is ∙ done _ _ _ _ _ _ c.requires.sizes c.loop-at.invariant (omega arith) F G p
  | then-loop-at-test+else-n-at-end w ↦
      let lt : c.loop-at.at < length c.loop-at.text = omega arith in
      let same = ap length w.text-is in
      let last = more _ _ _ _ _ _ _ _ c.requires.sizes c.loop-at.invariant lt w.link.auto.arg3 w.link.auto.arg2 (λ F G p. p _ _ _ _ w.link.ensures) in
      w.text-is ∙ done _ _ _ _ _ _ c.requires.sizes last (omega (arith, same)) F G p
]
