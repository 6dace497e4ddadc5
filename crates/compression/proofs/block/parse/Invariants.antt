use Rattle.std.proofs.Common.{◌≡◌, length, take}
use Rattle.compression.specs.Compression.{words}
use Rattle.compression.proofs.block.parse.Given as goal

abbrev pub invariant-loop-t : goal.invariant-loop-t
invariant-loop-t l = record { long : length l.w ≡ 64; so_far : take l.t l.w ≡ words l.t l.block }
