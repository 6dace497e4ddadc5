-- The calls of a card, and their answers.
use Rattle.std.specs.Prelude.{ℕ, List}

pub data Call : Type 0 where
  -- with the key's text
  load : List ℕ → Call
  power_on : Call
  power_off : Call
  -- with an APDU, random bytes, and how long the reply buffer and the work area are
  command : List ℕ → List ℕ → ℕ → ℕ → Call

pub data Answer : Type 0 where
  -- the call was not made: off, a card takes only load and power on; powered, only command and power off
  not_taken : Answer
  -- the power was turned on or off
  powered : Answer
  -- 0 accepted, 1 malformed, 2 limit unset, 3 ref already held, 4 no key row
  loaded : ℕ → Answer
  -- 5 buffer or work area short, 6 not 32 random bytes
  refused_host : ℕ → Answer
  -- data, then SW1 SW2
  replied : List ℕ → Answer

-- A call and what it was answered: all that passes over the line.
pub record Entry : Type 0 where
  pub call : Call
  pub answer : Answer
