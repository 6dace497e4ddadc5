-- What the bytes of an APDU say.
use Rattle.std.specs.Prelude.{ℕ, ◌+◌, cond, List, [], length, take, drop, Some, None, Option, ◌==◌, nat_lt, slice_index}
use Rattle.std.specs.Option.{option_map}

-- What stands behind the header: nothing, Le, data alone, or data and Le.
pub data Shape : Type 0 where
  bare : Shape
  le : ℕ → Shape
  alone : List ℕ → Shape
  both : List ℕ → ℕ → Shape

-- A command as it was read.
pub record Command : Type 0 where
  pub cla : ℕ
  pub ins : ℕ
  pub p1 : ℕ
  pub p2 : ℕ
  pub shape : Shape

-- How many bytes an Le byte asks for: 00 means 256.
abbrev pub expected : ℕ → ℕ
expected n = cond (n == 0) 256 n

-- What stands behind the header: no byte, one of Le, or Lc (1 to 255), so many bytes of data, and perhaps one of Le.
abbrev pub shape_in : List ℕ → Option Shape
shape_in bs =
    cond (length bs == 0) (Some bare)
    (cond (length bs == 1) (Some (le (expected (slice_index bs 0))))
    (cond (slice_index bs 0 == 0) None
    (cond (length bs == slice_index bs 0 + 1) (Some (alone (take (slice_index bs 0) (drop 1 bs))))
    (cond (length bs == slice_index bs 0 + 2) (Some (both (take (slice_index bs 0) (drop 1 bs)) (expected (slice_index bs (slice_index bs 0 + 1)))))
    None))))

-- The first four bytes are the header.
abbrev pub headed : List ℕ → Shape → Command
headed bs s = record { cla = slice_index bs 0; ins = slice_index bs 1; p1 = slice_index bs 2; p2 = slice_index bs 3; shape = s }

-- The command that the bytes are, or none where they are malformed.
abbrev pub command_in : List ℕ → Option Command
command_in bs = cond (nat_lt (length bs) 4) None (option_map (headed bs) (shape_in (drop 4 bs)))

-- The data of a command, empty where there is none.
abbrev pub data_of : Shape → List ℕ
data_of bare = []
data_of (le n) = []
data_of (alone ds) = ds
data_of (both ds n) = ds
