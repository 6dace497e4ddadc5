-- What stands alone in a proper body is within its bounds.
use Rattle.std.proofs.Common.{◌≡◌, ℕ, ◌≤◌, List, length, Some, ap, arith}
use Rattle.apdu.specs.Command.{Shape, bare, le, alone, both}
use Rattle.apdu.specs.Alone.{le_alone, data_alone}
use Rattle.apdu.specs.Writing.{Proper}

pub le_within : (s : Shape) (n : ℕ) → Proper s → Some n ≡ le_alone s → n ≤ 256
le_within bare n p e = absurd cc
le_within (le m) n p e = let q : n ≡ m = cc in omega arith
le_within (alone d) n p e = absurd cc
le_within (both d m) n p e = absurd cc

pub data_within : (s : Shape) (d : List ℕ) → Proper s → Some d ≡ data_alone s → length d ≤ 255
data_within bare d p e = absurd cc
data_within (le n) d p e = absurd cc
data_within (alone b) d p e = let q : d ≡ b = cc in omega (arith, ap length q)
data_within (both b n) d p e = absurd cc
