-- On blocks of eight bytes, the round keys in one order and in the other undo each other.
use Rattle.std.specs.Prelude.{◌≡◌, ℕ, ◌^◌, ◌<◌, List, reverse, length}
use Rattle.std.proofs.Common.{ap, sym, ◌∙◌, arith}
use Rattle.std.proofs.lemmas.List.{reverse-reverse}
use Rattle.byte_lists.specs.Bytes.{Block}
use Rattle.byte_lists.specs.Numbers.{octets, number}
use Rattle.byte_lists.proofs.Digits.{length_octets, bytes_octets, number_below, octets_number, number_octets}
use Rattle.cipher.specs.Permutes.{Permutes}
use Rattle.des_tables.specs.Bits.{bits, value}
use Rattle.des_tables.proofs.Bits.{length_bits, value_bits, bits_mod}
use Rattle.des.specs.Des.{crypt, ciphered}
use Rattle.des.specs.Undo.{length_crypt, crypt_undone}
use Rattle.des.specs.Binary.{binary_bits, binary_crypt, bits_value}

ciphered_block : (ks : List (List ℕ)) (b : List ℕ) → Block 8 (ciphered ks b)
unfolding ciphered
ciphered_block ks b = (length_octets 8 _, bytes_octets 8 _)

ciphered_undone : (ks : List (List ℕ)) (b : List ℕ) → Block 8 b → ciphered (reverse ks) (ciphered ks b) ≡ b
unfolding ciphered
ciphered_undone ks b h =
    let x : ℕ = number b in
    let xs : List ℕ = crypt ks (bits 64 x) in
    let back : bits 64 (number (octets 8 (value xs))) ≡ xs = ap (bits 64) (number_octets 8 (value xs)) ∙ bits_mod 64 (value xs) ∙ bits_value 64 xs (length_crypt ks (bits 64 x)) (binary_crypt ks (bits 64 x) (binary_bits 64 x)) in
    let e : 256 ^ length b ≡ 2 ^ 64 = ap (λ n. 256 ^ n) h.0 in
    let small : x < 2 ^ 64 = omega (arith, number_below b h.1, e) in
    ap (λ ys. octets 8 (value (crypt (reverse ks) ys))) back
    ∙ ap (λ ys. octets 8 (value ys)) (crypt_undone ks (bits 64 x) (length_bits 64 x))
    ∙ ap (octets 8) (value_bits 64 x small)
    ∙ ap (λ n. octets n x) (sym h.0)
    ∙ octets_number b h.1

pub ciphered_permutes : (ks : List (List ℕ)) → Permutes 8 (ciphered ks) (ciphered (reverse ks))
ciphered_permutes ks =
    record {
      forth = λ b h. ciphered_block ks b;
      back = λ b h. ciphered_block (reverse ks) b;
      undoes = ciphered_undone ks;
      redoes = λ b h. ap (λ rs. ciphered rs (ciphered (reverse ks) b)) (sym (reverse-reverse ks)) ∙ ciphered_undone (reverse ks) b h;
    }
