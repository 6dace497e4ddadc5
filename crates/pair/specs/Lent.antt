-- The memory that the host lends to each command, after it.
use Rattle.std.specs.Prelude.{◌≡◌, ℕ, ◌-◌, ◌≤◌, List, [], ◌∷◌, length, drop, replicate, Ok, Err, vec_items}
use Rattle.pair.specs.declared.calls.Call.{Call}
use Rattle.pair.specs.declared.calls.Call.TheVariants.{Load, PowerOn, PowerOff, Command}
use Rattle.pair.specs.declared.calls.Answer.{Answer}
use Rattle.pair.specs.declared.calls.Answer.TheVariants.{NotTaken, Powered, Loaded, Replied}
use Rattle.pair.specs.declared.calls.Done.{Done}

-- How long a reply buffer a call lends.
abbrev pub buffer_of : Call → ℕ
buffer_of (Load text) = 0
buffer_of PowerOn = 0
buffer_of PowerOff = 0
buffer_of (Command c) = c.buffer

-- How long a work area a call lends.
abbrev pub work_of : Call → ℕ
work_of (Load text) = 0
work_of PowerOn = 0
work_of PowerOff = 0
work_of (Command c) = c.work

-- After a reply of n bytes: behind it the buffer is as it was filled, and the work area is all zero.
pub record Behind (n fill size area : ℕ) (buffer work : List ℕ) : Type 0 where
  pub inside : n ≤ size
  pub length : length buffer ≡ size
  pub behind : drop n buffer ≡ replicate (size - n) fill
  pub wiped : work ≡ replicate area 0

-- After a refusal both are as they were filled; and a call that is no command, or is not made, lends none.
abbrev pub LentAs : ℕ → ℕ → ℕ → Answer → List ℕ → List ℕ → Type 0
LentAs fill size area NotTaken buffer work = (buffer ≡ []) × (work ≡ [])
LentAs fill size area Powered buffer work = (buffer ≡ []) × (work ≡ [])
LentAs fill size area (Loaded r) buffer work = (buffer ≡ []) × (work ≡ [])
LentAs fill size area (Replied (Err e)) buffer work = (buffer ≡ replicate size fill) × (work ≡ replicate area fill)
LentAs fill size area (Replied (Ok n)) buffer work = Behind n fill size area buffer work

abbrev pub Lent : ℕ → Call → Done → Type 0
Lent fill c d = LentAs fill (buffer_of c) (work_of c) d.answer (vec_items d.buffer) (vec_items d.work)

-- So for each call of a run.
abbrev pub AllLent : ℕ → List Call → List Done → Type 0
AllLent fill [] [] = Unit {0}
AllLent fill [] (d ∷ ds) = ⊥
AllLent fill (c ∷ cs) [] = ⊥
AllLent fill (c ∷ cs) (d ∷ ds) = Lent fill c d × AllLent fill cs ds
