-- What the code finds for one cipher is what its suite asks for.
use Rattle.std.proofs.Common.{◌≡◌, ℕ, cond, List, Some, None, Option, sym, refl, ap, ◌∙◌, subst}
use Rattle.byte_lists.specs.Bytes.{Bytes, small}
use Rattle.byte_lists.proofs.Tables.{small_from}
use Rattle.crc.specs.Crc.{crc}
use Rattle.envelope.specs.Envelope.{enciphered, deciphered}
use Rattle.envelope.proofs.Opening.{found}
use Rattle.frame.specs.Frame.{text_of, told}
use Rattle.sealing.specs.Sealing.{Text}
use Rattle.sealing.specs.Lent.{Seals, Opens, OpensTo}
use Rattle.sealing.specs.declared.sealer.Opened.{Opened}
use Rattle.sealing.specs.declared.suite.Suite.{Suite}
use Rattle.sealing.specs.declared.suite.Cipher.{Cipher}
use Rattle.sealer.specs.KeyBytes.{block_of, enciphers, deciphers, check_len, checks}
use Rattle.sealer.specs.Sealers.{real, bench}

module _ (s : Suite) (x : Cipher) (is : s.cipher ≡ x) (k : List ℕ) where
  pub sealed_by : (E : List ℕ → List ℕ) (t : Text) (before after : List ℕ) (r : ℕ) → E ≡ enciphers x k
      → Seals (enciphered (block_of x) E (checks s.mechanism k) t) before after r → Seals (real.sealed s k t) before after r
  sealed_by E t before after r e h =
      let P : (List ℕ → List ℕ) → Type 0 = λ F. Seals (enciphered (block_of x) F (checks s.mechanism k) t) before after r in
      let Q : Cipher → Type 0 = λ y. Seals (enciphered (block_of y) (enciphers y k) (checks s.mechanism k) t) before after r in
      subst Q (sym is) (subst P e h)

  pub opened_by : (D : List ℕ → List ℕ) (before after : List ℕ) (r : Option Opened) → D ≡ deciphers x k
      → OpensTo (deciphered (block_of x) (check_len s.mechanism) D (checks s.mechanism k) before) before after r → Opens real s k before after r
  opened_by D before after r e h =
      let P : (List ℕ → List ℕ) → Type 0 = λ F. OpensTo (deciphered (block_of x) (check_len s.mechanism) F (checks s.mechanism k) before) before after r in
      let Q : Cipher → Type 0 = λ y. OpensTo (deciphered (block_of y) (check_len s.mechanism) (deciphers y k) (checks s.mechanism k) before) before after r in
      subst Q (sym is) (subst P e h)

-- Reading a frame where it stands is opening it.
module _ (string : List ℕ) where
  read : (o : Option Text) → o ≡ text_of 8 4 crc string → OpensTo o string string (told o)
  read None e = refl
  read (Some t) e = found 8 4 crc string string refl (Some t) _ e refl refl

  pub read_is_opened : (s : Suite) (k : List ℕ) (r : Option Opened) → Bytes string → r ≡ told (text_of 8 4 crc string) → Opens bench s k string string r
  read_is_opened s k r h e =
      let o : Option Text = cond (small 256 string) (text_of 8 4 crc string) None in
      let is : o ≡ text_of 8 4 crc string = ap (λ w. cond w (text_of 8 4 crc string) None) (small_from 256 string h) in
      subst (OpensTo o string string) (ap told is ∙ sym e) (read o is)
