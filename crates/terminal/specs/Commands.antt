-- The commands that a terminal sends.
use Rattle.std.specs.Prelude.{ℕ}
use Rattle.apdu.specs.Command.{Shape, Command}
use Rattle.apdu.specs.declared.kind.Kind.{Kind}
use Rattle.apdu.specs.Kinds.{p1_of}

-- MANAGE SECURE CHANNEL.
abbrev pub manage : Kind → ℕ → Shape → Command
manage k p2 s = record { cla = 0; ins = 0x73; p1 = p1_of k; p2 = p2; shape = s }

-- TRANSACT DATA.
abbrev pub transact : ℕ → ℕ → Shape → Command
transact p1 p2 s = record { cla = 0; ins = 0x75; p1 = p1; p2 = p2; shape = s }
