-- KeyExpansion for a key of 16 bytes (FIPS 197, 5.2). The expanded key is a list of 44 words of four bytes.
use Rattle.std.specs.Prelude.{ℕ, zero, suc, ◌+◌, ◌-◌, ◌*◌, ◌/◌, ◌%◌, cond, List, [], ◌∷◌, ◌++◌, take, drop, ◌==◌}
use Rattle.byte_lists.specs.Bytes.{xors}
use Rattle.sbox.specs.Field.{xtime}
use Rattle.aes.specs.Steps.{sub_bytes}

-- The word i of the words w.
abbrev pub word : List ℕ → ℕ → List ℕ
word w i = take 4 (drop (4 * i) w)

-- RotWord.
abbrev pub rot_word : List ℕ → List ℕ
rot_word t = drop 1 t ++ take 1 t

-- The power j of x.
abbrev pub x_power : ℕ → ℕ
x_power zero = 1
x_power (suc j) = xtime (x_power j)

-- Rcon, from 1.
abbrev pub rcon : ℕ → List ℕ
rcon j = x_power (j - 1) ∷ 0 ∷ 0 ∷ 0 ∷ []

-- What joins the word i - 4 to make the word i, from the word t before it.
abbrev pub joining : ℕ → List ℕ → List ℕ
joining i t = cond (i % 4 == 0) (xors (sub_bytes (rot_word t)) (rcon (i / 4))) t

-- The key and the n words after it.
unfoldable pub extended : List ℕ → ℕ → List ℕ
extended key zero = key
extended key (suc n) = let w = extended key n in w ++ xors (word w n) (joining (n + 4) (word w (n + 3)))

-- KeyExpansion.
abbrev pub key_expansion : List ℕ → List ℕ
key_expansion key = extended key 40
