-- What each cipher and each mechanism of a suite makes of the 40 key bytes: the first 24 serve the cipher, the last 16 the mechanism.
use Rattle.std.specs.Prelude.{ℕ, List, take, drop}
use Rattle.aes.specs.Cipher.{aes_encrypt, aes_decrypt}
use Rattle.cipher.specs.Triple.{in_turn}
use Rattle.cmac.specs.Cmac.{cmac}
use Rattle.crc.specs.Crc.{crc}
use Rattle.des.specs.Des.{des_encrypt, des_decrypt}
use Rattle.sealing.specs.declared.suite.Cipher.{Cipher}
use Rattle.sealing.specs.declared.suite.Cipher.TheVariants.{TwoKey, ThreeKey, Aes}
use Rattle.sealing.specs.declared.suite.Mechanism.{Mechanism}
use Rattle.sealing.specs.declared.suite.Mechanism.TheVariants.{Crc32, Cmac}

-- So many key bytes from a place on, the first place being 0.
abbrev pub key_at : ℕ → ℕ → List ℕ → List ℕ
key_at i n keys = take n (drop i keys)

-- The length of a cipher's blocks.
abbrev pub block_of : Cipher → ℕ
block_of TwoKey = 8
block_of ThreeKey = 8
block_of Aes = 16

-- A block encrypted. The third key of the two-key cipher is its first.
abbrev pub enciphers : Cipher → List ℕ → List ℕ → List ℕ
enciphers TwoKey k = in_turn (des_encrypt (key_at 0 8 k)) (des_decrypt (key_at 8 8 k)) (des_encrypt (key_at 0 8 k))
enciphers ThreeKey k = in_turn (des_encrypt (key_at 0 8 k)) (des_decrypt (key_at 8 8 k)) (des_encrypt (key_at 16 8 k))
enciphers Aes k = aes_encrypt (key_at 0 16 k)

-- A block decrypted.
abbrev pub deciphers : Cipher → List ℕ → List ℕ → List ℕ
deciphers TwoKey k = in_turn (des_decrypt (key_at 0 8 k)) (des_encrypt (key_at 8 8 k)) (des_decrypt (key_at 0 8 k))
deciphers ThreeKey k = in_turn (des_decrypt (key_at 16 8 k)) (des_encrypt (key_at 8 8 k)) (des_decrypt (key_at 0 8 k))
deciphers Aes k = aes_decrypt (key_at 0 16 k)

-- The length of a mechanism's check.
abbrev pub check_len : Mechanism → ℕ
check_len Crc32 = 4
check_len Cmac = 16

-- The check of a message.
abbrev pub checks : Mechanism → List ℕ → List ℕ → List ℕ
checks Crc32 k = crc
checks Cmac k = cmac (aes_encrypt (key_at 24 16 k))
