-- A reply, and a buffer that it is written to.
use Rattle.std.specs.Prelude.{ℕ, Bool, ◌&&◌, List, ◌++◌, length, drop, ◌==◌, slice_index}
use Rattle.apdu.specs.declared.status.Status.{Status}
use Rattle.apdu.specs.StatusWords.{status_bytes}

-- Data, then SW1 and SW2.
abbrev pub reply : List ℕ → Status → List ℕ
reply ds s = ds ++ status_bytes s

-- The buffer with these bytes at its start, and the rest as it was.
abbrev pub fronted : List ℕ → List ℕ → List ℕ
fronted bs buffer = bs ++ drop (length bs) buffer

-- The reply is this status word and nothing else.
abbrev pub says : Status → List ℕ → Bool
says s r = length r == 2 && (slice_index r 0 == slice_index (status_bytes s) 0 && slice_index r 1 == slice_index (status_bytes s) 1)
