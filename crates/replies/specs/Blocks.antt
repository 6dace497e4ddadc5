-- Blocks: a string of bytes goes out in parts.
use Rattle.std.specs.Prelude.{ℕ, ◌+◌, ◌*◌, ◌/◌, ◌%◌, min, Bool, cond, List, length, take, drop, Some, None, Option, nat_lt}
use Rattle.replies.specs.declared.block.Block.{Block}

-- A part: its bytes, and whether more remain behind them.
pub record Part : Type 0 where
  pub bytes : List ℕ
  pub more : Bool

-- What a block of the code's says.
abbrev pub seen : Block → Part
seen b = record { bytes = b.bytes.now; more = b.more }

-- The first bytes of what is left, at most so many.
abbrev pub front_of : List ℕ → ℕ → Part
front_of rest most = record { bytes = take most rest; more = nat_lt most (length rest) }

-- A reply block: at most so many bytes from this place on.
abbrev pub block_of : List ℕ → ℕ → ℕ → Part
block_of whole place most = front_of (drop place whole) most

-- An answer cut at the container's size: block n, if the answer goes so far.
abbrev pub cut_block : ℕ → List ℕ → ℕ → Option Part
cut_block size whole n = cond (nat_lt (n * size) (length whole)) (Some (block_of whole (n * size) size)) None

-- How many blocks that makes: the full ones, and one more for a rest.
abbrev pub cut_count : ℕ → List ℕ → ℕ
cut_count size whole = length whole / size + min 1 (length whole % size)
