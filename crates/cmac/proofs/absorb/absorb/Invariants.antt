use Rattle.std.proofs.Common.{◌≡◌, drop, fold}
use Rattle.cmac.proofs.Folds.{taking}
use Rattle.cmac.proofs.absorb.absorb.Given as goal

abbrev pub invariant-loop-block : goal.invariant-loop-block
invariant-loop-block g l =
    let E = g.C.BlockCipher.enc l.cipher in
    fold (taking E) l.state (drop l.block-index l.blocks) ≡ fold (taking E) l.initial.state l.blocks
