-- Three ciphers in turn.
use Rattle.std.specs.Prelude.{ℕ, List}

-- A block goes through f, then g, then h.
abbrev pub in_turn : (List ℕ → List ℕ) → (List ℕ → List ℕ) → (List ℕ → List ℕ) → List ℕ → List ℕ
in_turn f g h b = h (g (f b))
