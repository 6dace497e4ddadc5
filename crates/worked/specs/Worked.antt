-- Worked examples: what a new card that requires the channel answers, with the fare counter as its application.
use Rattle.std.specs.Prelude.{◌≡◌, true, List, [], map}
use Rattle.fares.specs.Counter.{counts}
use Rattle.law.specs.Calls.{Call, Answer, Entry}
use Rattle.law.specs.Step.{new}
use Rattle.law.specs.Run.{run}
use Rattle.worked.specs.Bench.{plain, sums}
use Rattle.worked.specs.Random.{mixed_calls, mixed_answers, busy_calls, busy_answers}
use Rattle.worked.specs.Runs.{day_calls, day_answers, zero_calls, zero_answers, empty_calls, empty_answers, above_calls, above_answers, fresh_calls, fresh_answers, third_calls, third_answers}

abbrev pub answers_to : List Call → List Answer
answers_to cs = map (λ (e : Entry). e.answer) (run sums plain counts (new true []) cs)

-- A whole small day, from the load to the total.
abbrev pub Day : Type 0
Day = answers_to day_calls ≡ day_answers

-- Either side of a line.
pub record Sides : Type 0 where
  pub masters_zero_loads : answers_to zero_calls ≡ zero_answers
  pub masters_empty_unset : answers_to empty_calls ≡ empty_answers
  pub masters_above_malformed : answers_to above_calls ≡ above_answers
  pub fresh_discovery : answers_to fresh_calls ≡ fresh_answers
  pub row_three : answers_to third_calls ≡ third_answers

-- A model that was written apart gives the same answers to calls drawn at random.
pub record RandomRuns : Type 0 where
  pub mixed : answers_to mixed_calls ≡ mixed_answers
  pub busy : answers_to busy_calls ≡ busy_answers
