use Rattle.std.proofs.Common.{◌≡◌}
use Rattle.byte_lists.specs.Bytes.{xors}
use Rattle.des_tables.specs.Bits.{bits}
use Rattle.des.specs.Des.{mixed}
use Rattle.des.proofs.Mixing.{rest, inward}
use Rattle.des.proofs.round.mix.Given as goal

abbrev pub invariant-loop-i : goal.invariant-loop-i
invariant-loop-i l = xors (bits 32 l.out) (rest l.i (inward l.half l.key)) ≡ mixed (bits 32 l.half) (bits 48 l.key)
