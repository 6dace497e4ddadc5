-- The byte that stands for each cipher, mechanism and direction, and the suite of two bytes.
use Rattle.std.specs.Prelude.{ℕ, List, codes, cond, Some, None, Option, ◌==◌}
use Rattle.sealing.specs.declared.suite.Cipher.{Cipher}
use Rattle.sealing.specs.declared.suite.Cipher.TheVariants.{TwoKey, ThreeKey, Aes}
use Rattle.sealing.specs.declared.suite.Mechanism.{Mechanism}
use Rattle.sealing.specs.declared.suite.Mechanism.TheVariants.{Crc32, Cmac}
use Rattle.sealing.specs.declared.suite.Suite.{Suite}
use Rattle.sealing.specs.declared.suite.Direction.{Direction}
use Rattle.sealing.specs.declared.suite.Direction.TheVariants.{Command, Reply}

-- 01 two-key triple DES, 02 three-key triple DES, 04 AES-128.
abbrev pub cipher_byte : Cipher → ℕ
cipher_byte TwoKey = 0x01
cipher_byte ThreeKey = 0x02
cipher_byte Aes = 0x04

abbrev pub cipher_of : ℕ → Option Cipher
cipher_of b = cond (b == 0x01) (Some TwoKey) (cond (b == 0x02) (Some ThreeKey) (cond (b == 0x04) (Some Aes) None))

-- 01 CRC32, 04 CMAC with AES-128.
abbrev pub mechanism_byte : Mechanism → ℕ
mechanism_byte Crc32 = 0x01
mechanism_byte Cmac = 0x04

abbrev pub mechanism_of : ℕ → Option Mechanism
mechanism_of b = cond (b == 0x01) (Some Crc32) (cond (b == 0x04) (Some Cmac) None)

-- 00 command, 01 reply.
abbrev pub direction_byte : Direction → ℕ
direction_byte Command = 0x00
direction_byte Reply = 0x01

abbrev pub direction_of : ℕ → Option Direction
direction_of b = cond (b == 0x00) (Some Command) (cond (b == 0x01) (Some Reply) None)

-- The suite of a cipher and a mechanism, where there is one of each.
abbrev pub suite_with : Option Cipher → Option Mechanism → Option Suite
suite_with (Some c) (Some m) = Some (record { cipher = c; mechanism = m })
suite_with (Some c) None = None
suite_with None m = None

-- The suite of a cipher's byte and a mechanism's byte.
abbrev pub suite_of : ℕ → ℕ → Option Suite
suite_of c m = suite_with (cipher_of c) (mechanism_of m)

-- What is said of a byte that stands for nothing.
abbrev pub unknown_byte_words : List ℕ
unknown_byte_words = codes "the byte stands for nothing that is known"
