-- A check that passes where a test holds.
use Rattle.std.proofs.Common.{◌≡◌, Bool, true, false, cond, Some, None, refl}
use Rattle.std.specs.Bool.{then_some}

pub passed : {X : Type 0} (b : Bool) (x : X) → then_some b x ≡ cond b (Some x) None
passed true x = refl
passed false x = refl
