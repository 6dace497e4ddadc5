-- What the fare counter means, over the list of the fares that it holds.
use Rattle.std.specs.Prelude.{ℕ, cond, ◌&&◌, List, [], ◌∷◌, ◌++◌, length, take, drop, Some, None, sum_by, Option, ◌==◌, nat_lt, slice_index}
use Rattle.byte_lists.specs.Numbers.{octets, number}
use Rattle.apdu.specs.Command.{Command, data_of}
use Rattle.apdu.specs.declared.status.Status.TheVariants.{Done, WrongData, NoRoom, UnknownInstruction}
use Rattle.application.specs.Acts.{Acts}
use Rattle.application.specs.Commands.{Turn, turn, acts_upon}
use Rattle.fares.specs.declared.fare.Fare.{Fare}

-- The fare that five bytes name: a class from 0 to 7, and an amount of four bytes.
abbrev pub fare_in : List ℕ → Option Fare
fare_in ds = cond (length ds == 5 && nat_lt (slice_index ds 0) 8) (Some (record { class = slice_index ds 0; amount = number (take 4 (drop 1 ds)) })) None

-- The sum of the amounts.
abbrev pub takings : List Fare → ℕ
takings fares = sum_by (λ f. f.amount) fares

-- Appends a fare to at most 31 others; data that names none is refused first.
abbrev pub append : List Fare → Option Fare → Turn (List Fare)
append fares None = turn [] WrongData fares
append fares (Some f) = cond (nat_lt (length fares) 32) (turn [] Done (fares ++ f ∷ [])) (turn [] NoRoom fares)

-- E2 appends the fare in its data, and CA replies the takings in eight bytes.
abbrev pub carried : List Fare → Command → Turn (List Fare)
carried fares c =
    cond (c.ins == 0xE2) (append fares (fare_in (data_of c.shape)))
    (cond (c.ins == 0xCA) (turn (octets 8 (takings fares)) Done fares)
    (turn [] UnknownInstruction fares))

-- The fare counter as an application.
abbrev pub counts : Acts (List Fare)
counts = acts_upon carried
