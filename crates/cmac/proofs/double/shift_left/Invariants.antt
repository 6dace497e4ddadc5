use Rattle.std.proofs.Common.{◌≡◌}
use Rattle.byte_lists.proofs.Written.{over}
use Rattle.cmac.specs.Cmac.{shifted}
use Rattle.cmac.proofs.double.shift_left.Given as goal

abbrev pub invariant-loop-i : goal.invariant-loop-i
invariant-loop-i l = l.byte-items ≡ over (shifted l.block) l.block l.i
