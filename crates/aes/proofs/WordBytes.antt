-- The four bytes of a word: of an exclusive or, of a rotation, and of a word made of bytes.
use Rattle.std.proofs.Common.{◌≡◌, ℕ, zero, suc, ◌+◌, ◌-◌, ◌*◌, ◌/◌, ◌%◌, ◌^◌, ◌<◌, ◌≤◌, [], ◌∷◌, sym, ap, ◌∙◌, arith}
use lib.Bits.{bit_or, bit_xor, xor_shr, xor_mod}
use Rattle.std.proofs.lemmas.Nat.{or_comm, or_shifted, shr-shr, div-add-mod', mod-pow-add}
use Rattle.byte_lists.specs.Bytes.{xors}
use Rattle.byte_lists.specs.Numbers.{octets}
use Rattle.byte_lists.proofs.Digits.{octets_four}
use Rattle.aes.specs.Words.{turned}

-- One byte of an exclusive or, k bits up.
xor_byte : (x y k : ℕ) → bit_xor x y / 2 ^ k % 2 ^ 8 ≡ bit_xor (x / 2 ^ k % 2 ^ 8) (y / 2 ^ k % 2 ^ 8)
xor_byte x y k = ap (λ z. z % 2 ^ 8) (xor_shr x y k) ∙ xor_mod (x / 2 ^ k) (y / 2 ^ k) 8

pub octets_xor : (x y : ℕ) → octets 4 (bit_xor x y) ≡ xors (octets 4 x) (octets 4 y)
unfolding octets xors
octets_xor x y =
    let a = xor_byte x y 24 in
    let b = xor_byte x y 16 in
    let c = xor_byte x y 8 in
    let d = xor_byte x y 0 in
    cc

-- A word made of four bytes.
abbrev pub made : ℕ → ℕ → ℕ → ℕ → ℕ
made a b c d = a * 16777216 + b * 65536 + c * 256 + d

module _ (x a b c d : ℕ) (e : x ≡ made a b c d) (ha : a < 256) (hb : b < 256) (hc : c < 256) (hd : d < 256) where
  pub octets_made : octets 4 x ≡ a ∷ b ∷ c ∷ d ∷ []
  octets_made =
      let above = shr-shr x 8 8 in
      let top = shr-shr x 16 8 in
      let p : x / 256 ≡ a * 65536 + b * 256 + c = omega arith in
      let q : x / 65536 ≡ a * 256 + b = omega arith in
      let r : x / 16777216 ≡ a = omega arith in
      let first : x / 16777216 % 256 ≡ a = omega arith in
      let second : x / 65536 % 256 ≡ b = omega arith in
      let third : x / 256 % 256 ≡ c = omega arith in
      let fourth : x % 256 ≡ d = omega arith in
      octets_four x ∙ cc

-- A word is made of its bytes.
pub made_of : (x : ℕ) → x < 2 ^ 32 → x ≡ made (x / 16777216 % 256) (x / 65536 % 256) (x / 256 % 256) (x % 256)
made_of x h =
    let above : x / 256 / 256 ≡ x / 65536 = shr-shr x 8 8 in
    let top : x / 65536 / 256 ≡ x / 16777216 = shr-shr x 16 8 in
    let p : x / 256 * 256 + x % 256 ≡ x = div-add-mod' x 256 in
    let q : x / 256 / 256 * 256 + x / 256 % 256 ≡ x / 256 = div-add-mod' (x / 256) 256 in
    let r : x / 65536 / 256 * 256 + x / 65536 % 256 ≡ x / 65536 = div-add-mod' (x / 65536) 256 in
    let t : x / 16777216 % 256 ≡ x / 16777216 = omega arith in
    omega arith

-- A word turned right by k bits, where the rest has j.
turned_word : (x k j : ℕ) → x / 2 ^ k < 2 ^ j → bit_or (x / 2 ^ k) ((x % 2 ^ k) * 2 ^ j) ≡ (x % 2 ^ k) * 2 ^ j + x / 2 ^ k
turned_word x k j h = or_comm (x / 2 ^ k) ((x % 2 ^ k) * 2 ^ j) ∙ or_shifted (x % 2 ^ k) j (x / 2 ^ k) h

module _ (x : ℕ) (h : x < 2 ^ 32) where
  turned_one : octets 4 (bit_or (x / 256) ((x * 16777216) % 4294967296)) ≡ turned 1 (octets 4 x)
  turned_one =
      let m = made_of x h in
      let e : (x * 16777216) % 4294967296 ≡ (x % 256) * 16777216 = omega arith in
      let v = ap (bit_or (x / 256)) e ∙ turned_word x 8 24 (omega arith) in
      octets_made _ (x % 256) (x / 16777216 % 256) (x / 65536 % 256) (x / 256 % 256) (v ∙ omega arith) (omega arith) (omega arith) (omega arith) (omega arith)
      ∙ ap (turned 1) (sym (octets_four x))

  turned_two : octets 4 (bit_or (x / 65536) ((x * 65536) % 4294967296)) ≡ turned 2 (octets 4 x)
  turned_two =
      let m = made_of x h in
      let low : x % 65536 ≡ (x / 256 % 256) * 256 + x % 256 = mod-pow-add x 8 8 in
      let e : (x * 65536) % 4294967296 ≡ (x % 65536) * 65536 = omega arith in
      let v = ap (bit_or (x / 65536)) e ∙ turned_word x 16 16 (omega arith) in
      octets_made _ (x / 256 % 256) (x % 256) (x / 16777216 % 256) (x / 65536 % 256) (v ∙ omega arith) (omega arith) (omega arith) (omega arith) (omega arith)
      ∙ ap (turned 2) (sym (octets_four x))

  turned_three : octets 4 (bit_or (x / 16777216) ((x * 256) % 4294967296)) ≡ turned 3 (octets 4 x)
  turned_three =
      let m = made_of x h in
      let e : (x * 256) % 4294967296 ≡ (x % 16777216) * 256 = omega arith in
      let v = ap (bit_or (x / 16777216)) e ∙ turned_word x 24 8 (omega arith) in
      octets_made _ (x / 65536 % 256) (x / 256 % 256) (x % 256) (x / 16777216 % 256) (v ∙ omega arith) (omega arith) (omega arith) (omega arith) (omega arith)
      ∙ ap (turned 3) (sym (octets_four x))

-- A word turned right by k bytes, as the library turns it by 8 k bits.
pub turned_right : (x k : ℕ) → 1 ≤ k → k ≤ 3 → x < 2 ^ 32 → octets 4 (bit_or (x / 2 ^ (8 * k % 32)) ((x * 2 ^ ((32 - 8 * k % 32) % 32)) % 2 ^ 32)) ≡ turned k (octets 4 x)
turned_right x zero lo hi h = absurd (omega arith)
turned_right x (suc zero) lo hi h = turned_one x h
turned_right x (suc (suc zero)) lo hi h = turned_two x h
turned_right x (suc (suc (suc zero))) lo hi h = turned_three x h
turned_right x (suc (suc (suc (suc k)))) lo hi h = absurd (omega arith)
