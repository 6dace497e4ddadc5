use Rattle.std.proofs.Common.{◌≡◌}
use Rattle.byte_lists.specs.Bytes.{xors}
use Rattle.byte_lists.proofs.Written.{over}
use Rattle.byte_lists.proofs.join.Given as goal

abbrev pub invariant-loop-i : goal.invariant-loop-i
invariant-loop-i l = l.block ≡ over (xors l.initial.block l.with) l.initial.block l.i
