-- What a terminal takes for the answer to its command.
use Rattle.std.specs.Prelude.{ℕ, Bool, true, false, cond, ◌&&◌, List, Some, None, Option, ◌==◌}
use Rattle.sealing.specs.declared.suite.Direction.{Direction}
use Rattle.sealing.specs.declared.suite.Direction.TheVariants.{Command, Reply}
use Rattle.sealing.specs.Sealing.{Text}

abbrev pub is_reply : Direction → Bool
is_reply Command = false
is_reply Reply = true

-- A text that goes the card's way and has the command's number is the answer; its body is what the application replied.
abbrev pub answer_in : ℕ → Option Text → Option (List ℕ)
answer_in n None = None
answer_in n (Some t) = cond (is_reply t.direction && t.number == n) (Some t.body) None
