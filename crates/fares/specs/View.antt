-- The code's types, as the definitions speak of them.
use Rattle.std.specs.Prelude.{List, take}
use Rattle.fares.specs.declared.fare.Fare.{Fare}
use Rattle.fares.specs.declared.counter.FareCounter.{FareCounter}

-- The fares that a counter holds, the oldest first.
abbrev pub fares_of : FareCounter → List Fare
fares_of s = take s.count s.fares
