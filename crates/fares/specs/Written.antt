-- A fare as bytes, as a command, and in words.
use Rattle.std.specs.Prelude.{ℕ, List, ◌∷◌, ◌++◌, codes}
use Rattle.std.specs.Fmt.{decimal}
use Rattle.byte_lists.specs.Numbers.{octets}
use Rattle.apdu.specs.Command.{Command, alone}
use Rattle.fares.specs.declared.fare.Fare.{Fare}

-- A class, and an amount of four bytes.
abbrev pub fare_bytes : Fare → List ℕ
fare_bytes f = f.class ∷ octets 4 f.amount

-- The command that appends a fare.
abbrev pub appending : Fare → Command
appending f = record { cla = 0x00; ins = 0xE2; p1 = 0x00; p2 = 0x00; shape = alone (fare_bytes f) }

-- Class and amount, in decimal digits.
abbrev pub fare_words : Fare → List ℕ
fare_words f = codes "class " ++ decimal f.class ++ codes ", amount " ++ decimal f.amount
