use Rattle.std.proofs.Common.{◌≡◌, ◌+◌, length, take}
use Rattle.aes.specs.KeyExpansion.{extended}
use Rattle.aes.specs.Words.{bytes_of}
use Rattle.aes.proofs.expansion.expand.Given as goal

abbrev pub invariant-loop-n : goal.invariant-loop-n
invariant-loop-n l = (length l.keys ≡ 44) × (bytes_of (take (l.n + 4) l.keys) ≡ extended l.key l.n)
