-- What a clearing house can rely on, which sees the line and not the counter.
use Rattle.std.specs.Prelude.{◌≡◌, ℕ, ◌<◌, ◌≤◌, cond, ◌&&◌, List, [], ◌∷◌, ◌++◌, length, Some, None, Option, ◌==◌}
use Rattle.byte_lists.specs.Numbers.{octets}
use Rattle.apdu.specs.Command.{Command, command_in, data_of}
use Rattle.apdu.specs.Reply.{reply as replying, says}
use Rattle.apdu.specs.declared.status.Status.TheVariants.{Done, WrongData, NoRoom}
use Rattle.application.specs.Acts.{Acts, Exchange, after, line}
use Rattle.fares.specs.declared.fare.Fare.{Fare}
use Rattle.fares.specs.Counter.{fare_in, takings}

-- The fare, or none, as a list.
abbrev pub any : Option Fare → List Fare
any None = []
any (Some f) = f ∷ []

-- What an exchange appended: the fare in the data of an E2 that was answered 90 00, and else nothing.
abbrev pub appended : Option Command → List ℕ → List Fare
appended None r = []
appended (Some c) r = cond (c.ins == 0xE2 && says Done r) (any (fare_in (data_of c.shape))) []

-- The fares that were appended, by what passed over the line.
abbrev pub booked : List Exchange → List Fare
booked [] = []
booked (e ∷ es) = appended (command_in e.command) e.reply ++ booked es

-- An application is a fare counter that has booked nothing yet. After any commands, whatever stood between them:
pub record CountsFares {M : Type 0} (𝓐 : Acts M) (m : M) : Type 0 where
  -- it has booked 32 fares at most;
  pub few : (cs : List (List ℕ)) → length (booked (line 𝓐 m cs)) ≤ 32
  -- CA replies the sum of the amounts that were appended;
  pub sums : (cs : List (List ℕ)) (bs : List ℕ) (c : Command) → command_in bs ≡ Some c → c.ins ≡ 0xCA
      → 𝓐.reply (after 𝓐 m cs) bs ≡ replying (octets 8 (takings (booked (line 𝓐 m cs)))) Done
  -- E2 with a fare is answered 90 00 while fewer than 32 are booked,
  pub takes : (cs : List (List ℕ)) (bs : List ℕ) (c : Command) (f : Fare) → command_in bs ≡ Some c → c.ins ≡ 0xE2
      → fare_in (data_of c.shape) ≡ Some f → length (booked (line 𝓐 m cs)) < 32
      → 𝓐.reply (after 𝓐 m cs) bs ≡ replying [] Done
  -- and 6A 84 from then on;
  pub fills : (cs : List (List ℕ)) (bs : List ℕ) (c : Command) (f : Fare) → command_in bs ≡ Some c → c.ins ≡ 0xE2
      → fare_in (data_of c.shape) ≡ Some f → 32 ≤ length (booked (line 𝓐 m cs))
      → 𝓐.reply (after 𝓐 m cs) bs ≡ replying [] NoRoom
  -- E2 with other data, or none, is answered 6A 80.
  pub refuses : (cs : List (List ℕ)) (bs : List ℕ) (c : Command) → command_in bs ≡ Some c → c.ins ≡ 0xE2
      → fare_in (data_of c.shape) ≡ None
      → 𝓐.reply (after 𝓐 m cs) bs ≡ replying [] WrongData
