-- What a started session makes of a block, a fetch or a discard.
use Rattle.std.specs.Prelude.{ℕ, Bool, true, false, cond, List, ◌++◌, length, Some, None, Option, Ok, Err, Result, nat_le}
use Rattle.apdu.specs.Command.{Shape, bare, le, alone, both, data_of}
use Rattle.apdu.specs.declared.status.Status.{Status}
use Rattle.apdu.specs.declared.status.Status.TheVariants as sw
use Rattle.law.specs.Tables.{Talk, idle, gathering, answered}
use Rattle.law.specs.Session.{repeats, in_turn, before, fits}
use Rattle.law.specs.Step.{holds_talk}
use Rattle.session.specs.declared.event.Heard.{Heard}
use Rattle.session.specs.declared.event.Heard.TheVariants.{Repeated, Joined, Gives, Discarded}

-- What comes to a session: a block with its P2, a fetch of a block of its answer, or a discard.
pub data Ask : Type 0 where
  block : ℕ → Shape → Ask
  fetch : Ask
  discard : Shape → Ask

-- The bytes of a block, which carries data alone, of container size at most.
abbrev pub contents : ℕ → Shape → Option (List ℕ)
contents size (alone d) = cond (nat_le (length d) size) (Some d) None
contents size bare = None
contents size (le n) = None
contents size (both d n) = None

-- A block that fits is joined to what came before, and is the last one now.
abbrev pub joins : Talk → ℕ → Shape → Bool → Result Heard Status × Talk
joins t p2 s false = (Err sw.WrongLength, t)
joins t p2 s true = (Ok Joined, gathering (before t ++ data_of s) (record { p2 = p2; bytes = data_of s }))

-- A block in turn is asked whether it fits.
abbrev pub turns : ℕ → Talk → ℕ → Shape → Bool → Result Heard Status × Talk
turns size t p2 s false = (Err sw.WrongParameters, t)
turns size t p2 s true = joins t p2 s (fits size t s)

-- A repetition changes nothing; it is told whether the block completed a command.
abbrev pub takes : ℕ → Talk → ℕ → Shape → Bool → Result Heard Status × Talk
takes size t p2 s true = (Ok (Repeated (holds_talk t)), t)
takes size t p2 s false = turns size t p2 s (in_turn t p2)

-- Only an answered session has something to fetch.
abbrev pub fetches : Talk → Bool → Result Heard Status × Talk
fetches t false = (Err sw.NotNow, t)
fetches t true = (Ok Gives, t)

-- A discard carries neither data nor Le, and makes the session idle.
abbrev pub discards : Talk → Shape → Result Heard Status × Talk
discards t bare = (Ok Discarded, idle)
discards t (le n) = (Err sw.WrongLength, t)
discards t (alone d) = (Err sw.WrongLength, t)
discards t (both d n) = (Err sw.WrongLength, t)

-- What is made of it, and the session afterwards, where the container has this size.
abbrev pub heard : ℕ → Talk → Ask → Result Heard Status × Talk
heard size t (block p2 s) = takes size t p2 s (repeats t p2 s)
heard size t fetch = fetches t (holds_talk t)
heard size t (discard s) = discards t s

-- A gathered command is answered: its last block is kept, to know a repetition.
abbrev pub completed_as : Talk → Talk
completed_as idle = idle
completed_as (gathering j b) = answered b
completed_as (answered b) = answered b
