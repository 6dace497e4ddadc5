-- The state as the code holds it: four words, one for each column.
use Rattle.std.specs.Prelude.{ℕ, List, [], ◌∷◌, ◌++◌, slice_index}
use Rattle.aes.specs.declared.state.State.{State}
use Rattle.aes.specs.Words.{bytes_of, gathered}

-- The 16 bytes of the state.
abbrev pub state_bytes : State → List ℕ
state_bytes s = bytes_of s.0

-- Four columns, each as f makes it of the bytes that ShiftRows brings there.
abbrev pub shifted_columns : (List ℕ → List ℕ) → State → List ℕ
shifted_columns f s =
    let a : ℕ = slice_index s.0 0 in
    let b : ℕ = slice_index s.0 1 in
    let c : ℕ = slice_index s.0 2 in
    let d : ℕ = slice_index s.0 3 in
    f (gathered (a ∷ b ∷ c ∷ d ∷ [])) ++ (f (gathered (b ∷ c ∷ d ∷ a ∷ [])) ++ (f (gathered (c ∷ d ∷ a ∷ b ∷ [])) ++ (f (gathered (d ∷ a ∷ b ∷ c ∷ [])) ++ [])))
