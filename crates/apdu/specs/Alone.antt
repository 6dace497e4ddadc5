-- What stands alone behind a header, as in a command block and a reply block.
use Rattle.std.specs.Prelude.{ℕ, List, Some, None, Option}
use Rattle.apdu.specs.Command.{Shape, bare, le, alone, both}

-- Le, where it stands alone.
abbrev pub le_alone : Shape → Option ℕ
le_alone bare = None
le_alone (le n) = Some n
le_alone (alone d) = None
le_alone (both d n) = None

-- Data, where it stands alone.
abbrev pub data_alone : Shape → Option (List ℕ)
data_alone bare = None
data_alone (le n) = None
data_alone (alone d) = Some d
data_alone (both d n) = None
