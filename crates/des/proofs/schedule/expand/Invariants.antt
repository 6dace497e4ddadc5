use Rattle.std.proofs.Common.{◌≡◌, ◌^◌, ◌<◌, ◌++◌, map, length, take}
use Rattle.des_tables.specs.Bits.{bits}
use Rattle.des.specs.Schedule.{schedule}
use Rattle.des.proofs.Keys.{left_over}
use Rattle.des.proofs.schedule.expand.Given as goal

abbrev pub invariant-loop-i : goal.invariant-loop-i
invariant-loop-i l =
    (length l.keys ≡ 16) × (l.c < 2 ^ 28) × (l.d < 2 ^ 28) × (take l.i (map (bits 48) l.keys) ++ left_over l.i l.c l.d ≡ schedule (bits 64 l.key))
