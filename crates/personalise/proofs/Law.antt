-- The law of loads, and what it says of an answer.
use Rattle.std.proofs.Common.{◌≡◌, ℕ, List, IfOk, Ok, Err, Result, sym}
use Rattle.personalise.specs.Load.{loading}
use Rattle.personalise.specs.Says.{says, answered}
use Rattle.personalise.specs.Written.{written, Good, LawOfLoads}
use Rattle.personalise.specs.declared.key_load.KeyLoad.{KeyLoad}
use Rattle.personalise.specs.declared.refusal.Refusal.{Refusal}
use Rattle.personalise.proofs.Loaded.{loaded_if_written, either_side}
use Rattle.personalise.proofs.OnlyWritten.{written_if_loaded}

pub law_of_loads : LawOfLoads
law_of_loads = record { only = written_if_loaded; all = loaded_if_written; sides = either_side }

pub made_written : (r : Result KeyLoad Refusal) (text : List ℕ) → answered r ≡ loading text → IfOk r (λ k. Good (says k) × (text ≡ written (says k)))
made_written (Ok k) text e = written_if_loaded text (says k) (sym e)
made_written (Err x) text e = tt
