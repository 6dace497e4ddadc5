-- A sealed string is longer than any refusal's number.
use Rattle.std.proofs.Common.{◌≡◌, ℕ, ◌+◌, ◌%◌, ◌<◌, ◌⊎◌, List, length, ap, ◌∙◌, arith}
use Rattle.byte_lists.specs.Bytes.{Bytes, Block}
use Rattle.cipher.specs.Permutes.{Permutes}
use Rattle.cipher.proofs.Undo.{cbc_undone}
use Rattle.sealing.specs.Sealing.{Text, Good}
use Rattle.sealing.specs.declared.suite.Suite.{Suite}
use Rattle.frame.specs.Frame.{frame}
use Rattle.frame.proofs.Made.{length_frame, bytes_frame}
use Rattle.frame.proofs.Filled.{filled}
use Rattle.envelope.specs.Envelope.{enciphered}
use Rattle.sealer.specs.KeyBytes.{block_of, enciphers, deciphers, check_len, checks}
use Rattle.sealer.specs.Sealers.{real}
use Rattle.sealer.specs.KeyBytesLemmas.{cipher_permutes, cipher_widths, check_fixed}

enciphered_long : (n c : ℕ) → (n ≡ 8) ⊎ (n ≡ 16) → (E D check : List ℕ → List ℕ) → Permutes n E D → ((m : List ℕ) → Bytes m → Block c (check m))
    → (t : Text) → Good t → 8 < length (enciphered n E check t)
enciphered_long n c widths E D check laws fixed t g =
    let l = length_frame n c check fixed t g in
    let blocks : length (frame n check t) % n ≡ 0 = ap (λ k. k % n) l ∙ filled n (11 + length t.body + c) widths in
    omega (arith, l, (cbc_undone n E D laws (frame n check t) blocks (bytes_frame n c check fixed t g)).long)

pub sealed_long : (u : Suite) (k : List ℕ) (t : Text) → Block 40 k → Good t → 8 < length (real.sealed u k t)
sealed_long u k t h g =
    enciphered_long (block_of u.cipher) (check_len u.mechanism) (cipher_widths u.cipher) (enciphers u.cipher k) (deciphers u.cipher k) (checks u.mechanism k)
    (cipher_permutes u.cipher k h) (check_fixed u.mechanism k h) t g
