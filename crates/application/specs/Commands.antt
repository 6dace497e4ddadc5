-- An application whose commands are APDUs.
use Rattle.std.specs.Prelude.{ℕ, List, [], Some, None, Option}
use Rattle.apdu.specs.Command.{Command, command_in}
use Rattle.apdu.specs.Reply.{reply as replying}
use Rattle.apdu.specs.declared.status.Status.{Status}
use Rattle.apdu.specs.declared.status.Status.TheVariants.{WrongLength}
use Rattle.application.specs.Acts.{Acts}

-- One turn: a reply, and the contents that are left.
pub record Turn (M : Type 0) : Type 0 where
  pub reply : List ℕ
  pub contents : M

-- A turn that replies the data and the status word.
abbrev pub turn : {M : Type 0} → List ℕ → Status → M → Turn M
turn ds s m = record { reply = replying ds s; contents = m }

-- A malformed APDU replies 67 00 and changes nothing; any other is carried out.
abbrev pub upon : {M : Type 0} → (M → Command → Turn M) → M → Option Command → Turn M
upon f m None = turn [] WrongLength m
upon f m (Some c) = f m c

-- The application that carries out APDUs so.
abbrev pub acts_upon : {M : Type 0} → (M → Command → Turn M) → Acts M
acts_upon f = record { reply = λ m bs. (upon f m (command_in bs)).reply; next = λ m bs. (upon f m (command_in bs)).contents }
