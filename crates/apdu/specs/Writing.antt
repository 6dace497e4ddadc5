-- How a command is written, apart from how it is read.
use Rattle.std.specs.Prelude.{◌≡◌, ℕ, ◌≤◌, cond, List, [], ◌∷◌, ◌++◌, length, Some, Option, ◌==◌}
use Rattle.apdu.specs.Command.{Shape, bare, le, alone, both, Command}

-- The Le byte that asks for n bytes: 256 is written 00.
abbrev pub le_byte : ℕ → ℕ
le_byte n = cond (n == 256) 0 n

-- What is written behind the header: nothing, Le, Lc and the data, or Lc, the data and Le.
abbrev pub shape_bytes : Shape → List ℕ
shape_bytes bare = []
shape_bytes (le n) = le_byte n ∷ []
shape_bytes (alone ds) = length ds ∷ ds
shape_bytes (both ds n) = length ds ∷ (ds ++ le_byte n ∷ [])

abbrev pub command_bytes : Command → List ℕ
command_bytes c = c.cla ∷ c.ins ∷ c.p1 ∷ c.p2 ∷ shape_bytes c.shape

-- Data has 1 to 255 bytes, and Le asks for 1 to 256.
abbrev pub Proper : Shape → Type 0
Proper bare = Unit {0}
Proper (le n) = (1 ≤ n) × (n ≤ 256)
Proper (alone ds) = (1 ≤ length ds) × (length ds ≤ 255)
Proper (both ds n) = (1 ≤ length ds) × (length ds ≤ 255) × (1 ≤ n) × (n ≤ 256)

-- What was read from the bytes bs is right: a command that was read is a proper one and written so, and a proper one
-- that is written so was read. So nothing was read exactly where no proper command is written so.
pub record Reads (bs : List ℕ) (o : Option Command) : Type 0 where
  pub sound : (c : Command) → o ≡ Some c → Proper c.shape × (command_bytes c ≡ bs)
  pub whole : (c : Command) → Proper c.shape → command_bytes c ≡ bs → o ≡ Some c
