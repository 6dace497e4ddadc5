-- The ciphers and mechanisms of the key bytes keep the laws of ciphers and mechanisms.
use Rattle.std.specs.Prelude.{◌≡◌, ℕ, ◌≤◌, ◌⊎◌, List, drop, refl}
use Rattle.std.proofs.Common.{inl, inr, lit≤}
use Rattle.byte_lists.specs.Bytes.{Bytes, Block}
use Rattle.byte_lists.proofs.Facts.{bytes_drop, bytes_take}
use Rattle.byte_lists.proofs.Digits.{length_octets, bytes_octets}
use Rattle.aes.specs.Cipher.{aes_encrypt}
use Rattle.aes.proofs.Permutation.{aes_permutes}
use Rattle.cipher.specs.Permutes.{Permutes}
use Rattle.cipher.specs.Permuting.{after, turned}
use Rattle.cmac.specs.Checks.{block_cmac}
use Rattle.crc.specs.Crc.{remainder, start, inverted, crc}
use Rattle.des.specs.Des.{des_encrypt, des_decrypt}
use Rattle.des.specs.Permutation.{ciphered_permutes}
use Rattle.sealing.specs.declared.suite.Cipher.{Cipher}
use Rattle.sealing.specs.declared.suite.Cipher.TheVariants.{TwoKey, ThreeKey, Aes}
use Rattle.sealing.specs.declared.suite.Mechanism.{Mechanism}
use Rattle.sealing.specs.declared.suite.Mechanism.TheVariants.{Crc32, Cmac}
use Rattle.sealer.specs.KeyBytes.{key_at, block_of, enciphers, deciphers, check_len, checks}

des_permutes : (key : List ℕ) → Permutes 8 (des_encrypt key) (des_decrypt key)
des_permutes key = ciphered_permutes _

bytes_key : (i n : ℕ) (k : List ℕ) → Block 40 k → Bytes (key_at i n k)
bytes_key i n k h = bytes_take n (drop i k) (bytes_drop i k h.1)

pub cipher_permutes : (x : Cipher) (k : List ℕ) → Block 40 k → Permutes (block_of x) (enciphers x k) (deciphers x k)
cipher_permutes TwoKey k h = after (after (des_permutes (key_at 0 8 k)) (turned (des_permutes (key_at 8 8 k)))) (des_permutes (key_at 0 8 k))
cipher_permutes ThreeKey k h = after (after (des_permutes (key_at 0 8 k)) (turned (des_permutes (key_at 8 8 k)))) (des_permutes (key_at 16 8 k))
cipher_permutes Aes k h = aes_permutes (key_at 0 16 k) (bytes_key 0 16 k h)

pub cipher_widths : (x : Cipher) → (block_of x ≡ 8) ⊎ (block_of x ≡ 16)
cipher_widths TwoKey = inl refl
cipher_widths ThreeKey = inl refl
cipher_widths Aes = inr refl

pub crc_fixed : (m : List ℕ) → Bytes m → Block 4 (crc m)
unfolding crc
crc_fixed m h = (length_octets 4 (inverted (remainder start m)), bytes_octets 4 (inverted (remainder start m)))

pub check_fixed : (x : Mechanism) (k : List ℕ) → Block 40 k → (m : List ℕ) → Bytes m → Block (check_len x) (checks x k m)
check_fixed Crc32 k h m g = crc_fixed m g
check_fixed Cmac k h m g = block_cmac (aes_encrypt (key_at 24 16 k)) (aes_permutes (key_at 24 16 k) (bytes_key 24 16 k h)).forth m g

pub check_few : (x : Mechanism) → check_len x ≤ 16
check_few Crc32 = lit≤ tt
check_few Cmac = lit≤ tt
