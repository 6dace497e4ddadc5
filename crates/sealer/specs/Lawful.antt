-- Both sealers keep the laws of sealing.
use Rattle.std.specs.Prelude.{◌≡◌, ℕ, ◌+◌, ◌≤◌, Bool, true, false, cond, T, List, length, Some, None, refl}
use Rattle.std.proofs.Common.{ap, sym, ◌∙◌, subst, inl, arith, lit<}
use Rattle.byte_lists.specs.Bytes.{small}
use Rattle.byte_lists.proofs.Tables.{small_at, small_from}
use Rattle.crc.specs.Crc.{crc}
use Rattle.frame.specs.Frame.{frame, front, text_of}
use Rattle.frame.proofs.Filled.{filled_short}
use Rattle.frame.proofs.Laws.{read_again, only_frames}
use Rattle.frame.proofs.Made.{bytes_front, length_frame, bytes_frame}
use Rattle.envelope.proofs.Laws.{sealed_opens, sealed_short, only_sealed}
use Rattle.sealing.specs.Sealing.{Text, Good, Faithful}
use Rattle.sealer.specs.KeyBytes.{block_of, enciphers, deciphers, check_len, checks}
use Rattle.sealer.specs.Sealers.{real, bench}
use Rattle.sealer.specs.KeyBytesLemmas.{cipher_permutes, cipher_widths, check_fixed, check_few, crc_fixed}

pub real_faithful : Faithful real
real_faithful = record {
  gives = λ u k t h g.
      sealed_opens (block_of u.cipher) (check_len u.mechanism) (cipher_widths u.cipher) (check_few u.mechanism) (enciphers u.cipher k) (deciphers u.cipher k) (checks u.mechanism k)
      (cipher_permutes u.cipher k h) (check_fixed u.mechanism k h) t g;
  only = λ u k z t h e.
      (only_sealed (block_of u.cipher) (check_len u.mechanism) (cipher_widths u.cipher) (check_few u.mechanism) (enciphers u.cipher k) (deciphers u.cipher k) (checks u.mechanism k)
      (cipher_permutes u.cipher k h) (check_fixed u.mechanism k h) z t e).0;
  good = λ u k z t h e.
      (only_sealed (block_of u.cipher) (check_len u.mechanism) (cipher_widths u.cipher) (check_few u.mechanism) (enciphers u.cipher k) (deciphers u.cipher k) (checks u.mechanism k)
      (cipher_permutes u.cipher k h) (check_fixed u.mechanism k h) z t e).1;
  short = λ u k t h g.
      sealed_short (block_of u.cipher) (check_len u.mechanism) (cipher_widths u.cipher) (check_few u.mechanism) (enciphers u.cipher k) (deciphers u.cipher k) (checks u.mechanism k)
      (cipher_permutes u.cipher k h) (check_fixed u.mechanism k h) t g;
}

plain_opens : (t : Text) → Good t → cond (small 256 (frame 8 crc t)) (text_of 8 4 crc (frame 8 crc t)) None ≡ Some t
plain_opens t g =
    ap (λ w. cond w (text_of 8 4 crc (frame 8 crc t)) None) (small_from 256 (frame 8 crc t) (bytes_frame 8 4 crc crc_fixed t g))
    ∙ read_again 8 4 crc t g (crc_fixed (front t) (bytes_front t g)).0

only_plain : (z : List ℕ) (t : Text) (w : Bool) → small 256 z ≡ w → cond w (text_of 8 4 crc z) None ≡ Some t → (frame 8 crc t ≡ z) × Good t
only_plain z t true e o = only_frames 8 4 crc z t (small_at 256 (lit< tt) z (subst T (sym e) tt)) o
only_plain z t false e o = absurd (let q : ◌≡◌ {A = ℕ} 0 1 = cc in omega arith)

plain_short : (t : Text) → Good t → length (frame 8 crc t) ≤ 288
plain_short t g = omega (arith, length_frame 8 4 crc crc_fixed t g, filled_short 8 (11 + length t.body + 4) (inl refl) (omega (arith, g.most)))

pub bench_faithful : Faithful bench
bench_faithful = record {
  gives = λ u k t h g. plain_opens t g;
  only = λ u k z t h e. (only_plain z t (small 256 z) refl e).0;
  good = λ u k z t h e. (only_plain z t (small 256 z) refl e).1;
  short = λ u k t h g. plain_short t g;
}
