-- What the calls for C ask of their lengths, answer and leave behind.
use Rattle.std.specs.Prelude.{Bool, false, cond, List, ℕ, ◌%◌, eqb, length, take, drop}
use Rattle.cipher.specs.Triple.{in_turn}
use Rattle.des.specs.Des.{des_encrypt, des_decrypt}

-- A call answers 0 where the lengths fit, else 1.
abbrev pub answer : Bool → ℕ
answer fits = cond fits 0 1

-- The key has k bytes, and the buffer whole blocks of n bytes.
abbrev pub fitting : ℕ → ℕ → List ℕ → List ℕ → Bool
fitting k n key buf = cond (eqb (length key) k) (eqb (length buf % n) 0) false

-- The key has k bytes, and there is room for n bytes exactly.
abbrev pub room : ℕ → ℕ → List ℕ → List ℕ → Bool
room k n key out = cond (eqb (length key) k) (eqb (length out) n) false

-- The 8 bytes of a key from the place i on.
abbrev pub part : ℕ → List ℕ → List ℕ
part i key = take 8 (drop i key)

-- Triple DES under the three keys of 24 bytes.
abbrev pub triple_encrypt : List ℕ → List ℕ → List ℕ
triple_encrypt key = in_turn (des_encrypt (part 0 key)) (des_decrypt (part 8 key)) (des_encrypt (part 16 key))

-- Its inverse.
abbrev pub triple_decrypt : List ℕ → List ℕ → List ℕ
triple_decrypt key = in_turn (des_decrypt (part 16 key)) (des_encrypt (part 8 key)) (des_decrypt (part 0 key))
