-- A sealed string under a cipher and a mechanism: the text's frame, enciphered block by block.
use Rattle.std.specs.Prelude.{ℕ, ◌%◌, cond, ◌&&◌, List, length, None, Option, ◌==◌}
use Rattle.byte_lists.specs.Bytes.{small}
use Rattle.cipher.specs.Cbc.{cbc, uncbc}
use Rattle.sealing.specs.Sealing.{Text}
use Rattle.frame.specs.Frame.{frame, text_of}

-- The sealed string of a text: blocks of n bytes under E, with the given check.
abbrev pub enciphered : ℕ → (List ℕ → List ℕ) → (List ℕ → List ℕ) → Text → List ℕ
enciphered n E check t = cbc n E (frame n check t)

-- The text of a string: bytes in whole blocks, whose deciphering is a frame with a check of c bytes.
abbrev pub deciphered : ℕ → ℕ → (List ℕ → List ℕ) → (List ℕ → List ℕ) → List ℕ → Option Text
deciphered n c D check z = cond (small 256 z && length z % n == 0) (text_of n c check (uncbc n D z)) None
