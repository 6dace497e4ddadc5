-- A sealed string, cut into blocks for a session.
use Rattle.std.specs.Prelude.{ℕ, ◌+◌, ◌-◌, cond, List, Some, None, Option, ◌==◌, nat_lt}
use Rattle.apdu.specs.Command.{alone}
use Rattle.apdu.specs.Writing.{command_bytes}
use Rattle.replies.specs.Blocks.{Part, cut_block, cut_count}
use Rattle.terminal.specs.Commands.{transact}

-- How many blocks follow after so many, where there are so many and the number fits a byte.
abbrev pub behind : ℕ → ℕ → Option ℕ
behind count sent = cond (nat_lt count sent) None (cond (nat_lt 255 (count - sent)) None (Some (count - sent)))

-- How many blocks follow block n of a string.
abbrev pub following : ℕ → List ℕ → ℕ → Option ℕ
following size whole n = cond (size == 0) None (behind (cut_count size whole) (n + 1))

-- The command that carries a block, with the count of those that follow as P2.
abbrev pub carrying : ℕ → Option ℕ → Option Part → Option (List ℕ)
carrying session None p = None
carrying session (Some k) None = None
carrying session (Some k) (Some p) = Some (command_bytes (transact session k (alone p.bytes)))

-- The command that carries block n of a string.
abbrev pub block_command : ℕ → ℕ → List ℕ → ℕ → Option (List ℕ)
block_command session size whole n = carrying session (following size whole n) (cut_block size whole n)
