-- A session's blocks: repetition, turn, what is joined, and when the joined blocks are accepted.
use Rattle.std.specs.Prelude.{ℕ, suc, Bool, true, false, cond, ◌&&◌, List, [], ◌++◌, length, Some, None, Option, ◌==◌, nat_le, nat_lt}
use Rattle.sealing.specs.declared.suite.Direction.{Direction}
use Rattle.sealing.specs.declared.suite.Direction.TheVariants.{Command, Reply}
use Rattle.sealing.specs.Sealing.{Sealing, Text}
use Rattle.apdu.specs.Command.{Shape, bare, le, alone, both}
use Rattle.law.specs.Rows.{same_bytes}
use Rattle.law.specs.Request.{Block}
use Rattle.law.specs.Tables.{Talk, idle, gathering, answered, Connection}

abbrev pub same_block : Block → ℕ → List ℕ → Bool
same_block b p2 d = b.p2 == p2 && same_bytes b.bytes d

abbrev pub repeats_bytes : Talk → ℕ → List ℕ → Bool
repeats_bytes idle p2 d = false
repeats_bytes (gathering j b) p2 d = same_block b p2 d
repeats_bytes (answered b) p2 d = same_block b p2 d

-- A repetition is equal in P2 and bytes to the last block answered 92; it carries data alone.
abbrev pub repeats : Talk → ℕ → Shape → Bool
repeats t p2 (alone d) = repeats_bytes t p2 d
repeats t p2 bare = false
repeats t p2 (le n) = false
repeats t p2 (both d n) = false

-- SW2 is one higher where the last block completed a command.
abbrev pub completed : Talk → ℕ
completed idle = 0
completed (gathering j b) = 0
completed (answered b) = 1

-- While gathering, P2 falls by one each time; otherwise any P2 starts a command.
abbrev pub in_turn : Talk → ℕ → Bool
in_turn idle p2 = true
in_turn (gathering j b) p2 = suc p2 == b.p2
in_turn (answered b) p2 = true

-- What was joined before this block.
abbrev pub before : Talk → List ℕ
before idle = []
before (gathering j b) = j
before (answered b) = []

-- A block carries data alone, of container size at most, and at most 288 bytes are joined.
abbrev pub fits : ℕ → Talk → Shape → Bool
fits size t (alone d) = nat_le (length d) size && nat_le (length (before t ++ d)) 288
fits size t bare = false
fits size t (le n) = false
fits size t (both d n) = false

-- What joined blocks are: they do not open as they must; the limit alone is in the way; or a command.
pub data Judgement : Type 0 where
  wrong : Judgement
  spent : Judgement
  accepts : List ℕ → Judgement

abbrev pub is_command : Direction → Bool
is_command Command = true
is_command Reply = false

-- They open with direction 00, this number, and 4 body bytes or more.
abbrev pub body_of : ℕ → Option Text → Option (List ℕ)
body_of n None = None
body_of n (Some t) = cond (is_command t.direction && t.number == n && nat_le 4 (length t.body)) (Some t.body) None

abbrev pub judged_by : Bool → Option (List ℕ) → Judgement
judged_by within None = wrong
judged_by true (Some b) = accepts b
judged_by false (Some b) = spent

-- The number is the connection's count, which is to be below the limit.
abbrev pub judged : Sealing → Connection → ℕ → List ℕ → Judgement
judged 𝓢 c limit z = judged_by (nat_lt c.count limit) (body_of c.count (𝓢.opened c.suite c.keys z))
