-- The real sealer and the bench sealer.
use Rattle.std.specs.Prelude.{cond, None}
use Rattle.byte_lists.specs.Bytes.{small}
use Rattle.crc.specs.Crc.{crc}
use Rattle.sealing.specs.Sealing.{Sealing}
use Rattle.frame.specs.Frame.{frame, text_of}
use Rattle.envelope.specs.Envelope.{enciphered, deciphered}
use Rattle.sealer.specs.KeyBytes.{block_of, enciphers, deciphers, check_len, checks}

-- The real sealer: the frame with the suite's check, enciphered by the suite's cipher.
abbrev pub real : Sealing
real = record {
  sealed = λ u k t. enciphered (block_of u.cipher) (enciphers u.cipher k) (checks u.mechanism k) t;
  opened = λ u k z. deciphered (block_of u.cipher) (check_len u.mechanism) (deciphers u.cipher k) (checks u.mechanism k) z;
}

-- The bench sealer: for every suite the frame of eight-byte blocks with CRC32, and nothing enciphered.
abbrev pub bench : Sealing
bench = record {
  sealed = λ u k t. frame 8 crc t;
  opened = λ u k z. cond (small 256 z) (text_of 8 4 crc z) None;
}
