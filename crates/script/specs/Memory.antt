-- Memory that holds one value.
use Rattle.std.specs.Prelude.{◌≡◌, ℕ, ◌<◌, List, length, slice_index}

-- Each byte has the value v.
abbrev pub All : ℕ → List ℕ → Type 0
All v bs = (i : ℕ) → i < length bs → slice_index bs i ≡ v
