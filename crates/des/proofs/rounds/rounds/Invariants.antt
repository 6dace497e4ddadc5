use Rattle.std.proofs.Common.{◌≡◌, ◌^◌, ◌<◌, map, drop}
use Rattle.des_tables.specs.Bits.{bits}
use Rattle.des.specs.Feistel.{halves, turns}
use Rattle.des.specs.Des.{mixed}
use Rattle.des.proofs.Turning.{both}
use Rattle.des.proofs.rounds.rounds.Given as goal

abbrev pub invariant-loop-key : goal.invariant-loop-key
invariant-loop-key l =
    (l.block.left < 2 ^ 32) × (l.block.right < 2 ^ 32)
    × (turns mixed (drop l.key-index (map (bits 48) l.keys)) (both l.block.left l.block.right)
    ≡ turns mixed (map (bits 48) l.keys) (halves (bits 64 l.start)))
