use Rattle.cipher.specs.Links.{Links}
use Rattle.cipher.proofs.Chain.{Going, whole}
use Rattle.cipher.proofs.cbc.chain.Given as goal

abbrev pub invariant-loop-at : goal.invariant-loop-at
invariant-loop-at g l = Going l.n (Links (goal.F-post g l.link)) (whole l.n l.initial.text) l.text l.before l.at
