use Rattle.std.proofs.Common.{◌≡◌, ◌++◌, Bool, map, take, drop}
use Rattle.tables.specs.Retained.{retained}
use Rattle.tables.proofs.retain.retain.Given as goal

abbrev pub invariant-loop-row : goal.invariant-loop-row
invariant-loop-row g l =
    (p : _ → Bool) → ((x : _) (b : Bool) → goal.F-post g l.stays x b → b ≡ p x.now)
    → l.rows ≡ map (retained p) (take l.row-index l.initial.rows) ++ drop l.row-index l.initial.rows
