-- What the card does by what a session made of an event, and the session afterwards.
use Rattle.std.specs.Prelude.{ℕ, ◌++◌, Ok, Err, Result, ◌==◌}
use Rattle.sealing.specs.Sealing.{Sealing}
use Rattle.apdu.specs.Command.{Shape, data_of}
use Rattle.apdu.specs.declared.status.Status.{Status}
use Rattle.apdu.specs.declared.status.Status.TheVariants as sw
use Rattle.law.specs.Tables.{Talk, idle, gathering, Connection}
use Rattle.law.specs.Session.{before}
use Rattle.law.specs.Step.{Core, Move, gives, put, says, talks, row_says, flag, completes}
use Rattle.session.specs.declared.event.Heard.{Heard}
use Rattle.session.specs.declared.event.Heard.TheVariants.{Repeated, Joined, Gives, Discarded}

-- The session t after an event with this P2 and shape.
abbrev pub talk_after : Talk → ℕ → Shape → Result Heard Status → Talk
talk_after t p2 s (Err w) = t
talk_after t p2 s (Ok (Repeated b)) = t
talk_after t p2 s (Ok Joined) = gathering (before t ++ data_of s) (record { p2 = p2; bytes = data_of s })
talk_after t p2 s (Ok Gives) = t
talk_after t p2 s (Ok Discarded) = idle

-- The move that a row's connection makes where its session is t.
abbrev pub moved : Sealing → Core → ℕ → Connection → ℕ → Talk → ℕ → Shape → Result Heard Status → Move
moved 𝓢 c row x size t p2 s (Err w) = says c w
moved 𝓢 c row x size t p2 s (Ok (Repeated b)) = row_says c row (flag b)
moved 𝓢 c row x size t p2 s (Ok Joined) = completes 𝓢 c row x size (record { p2 = p2; bytes = data_of s }) (before t ++ data_of s) (p2 == 0)
moved 𝓢 c row x size t p2 s (Ok Gives) = gives row size p2 s
moved 𝓢 c row x size t p2 s (Ok Discarded) = says (put c (talks c row x size idle) c.pending) sw.Done
