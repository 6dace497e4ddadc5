-- What is told to a command, as bytes.
use Rattle.std.specs.Prelude.{ℕ, List}
use Rattle.apdu.specs.Reply.{reply}
use Rattle.manage.specs.declared.told.Told.{Told}

-- The block, then SW1 and SW2.
abbrev pub bytes_of : Told → List ℕ
bytes_of t = reply t.block.now t.status
