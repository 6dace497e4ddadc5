use Rattle.std.proofs.Common.{◌≡◌, ◌-◌, length, take}
use Rattle.compression.specs.Compression.{extended}
use Rattle.compression.proofs.block.extend.Given as goal

abbrev pub invariant-loop-t : goal.invariant-loop-t
invariant-loop-t l = record { long : length l.w ≡ 64; so_far : take l.t l.w ≡ extended (l.t - 16) (take 16 l.initial.w) }
