-- A sealed text opens to itself, and a string that opens is its text's only sealing: for every cipher and every check.
use Rattle.std.proofs.Common.{◌≡◌, ℕ, ◌+◌, ◌%◌, ◌≤◌, Bool, true, false, cond, ◌&&◌, T, eqb, ◌⊎◌, List, length, Some, None, sym, refl, ap, ◌∙◌, subst, arith, lit<, eq-eqb, eqb-true}
use Rattle.byte_lists.specs.Bytes.{Bytes, Block, small}
use Rattle.byte_lists.proofs.Tables.{small_at, small_from}
use Rattle.cipher.specs.Permutes.{Permutes}
use Rattle.cipher.specs.Cbc.{cbc, uncbc}
use Rattle.cipher.proofs.Undo.{Undone, cbc_undone, uncbc_undone}
use Rattle.sealing.specs.Sealing.{Text, Good}
use Rattle.frame.specs.Frame.{front, frame, text_of}
use Rattle.frame.proofs.Made.{bytes_front, length_frame, bytes_frame}
use Rattle.frame.proofs.Filled.{filled, filled_short}
use Rattle.frame.proofs.Laws.{read_again, only_frames}
use Rattle.envelope.specs.Envelope.{enciphered, deciphered}

module _ (n c : ℕ) (widths : (n ≡ 8) ⊎ (n ≡ 16)) (few : c ≤ 16) (E D check : List ℕ → List ℕ) (laws : Permutes n E D) (fixed : (m : List ℕ) → Bytes m → Block c (check m)) where
  blocks_frame : (t : Text) → Good t → length (frame n check t) % n ≡ 0
  blocks_frame t g = ap (λ k. k % n) (length_frame n c check fixed t g) ∙ filled n (11 + length t.body + c) widths

  sealing_undone : (t : Text) → Good t → Undone (cbc n E) (uncbc n D) (frame n check t)
  sealing_undone t g = cbc_undone n E D laws (frame n check t) (blocks_frame t g) (bytes_frame n c check fixed t g)

  pub sealed_opens : (t : Text) → Good t → deciphered n c D check (enciphered n E check t) ≡ Some t
  sealed_opens t g =
      let u = sealing_undone t g in
      let z : List ℕ = enciphered n E check t in
      let bytes : small 256 z ≡ true = small_from 256 z u.bytes in
      let whole : eqb (length z % n) 0 ≡ true = eq-eqb (length z % n) 0 (ap (λ k. k % n) u.long ∙ blocks_frame t g) in
      let opens : text_of n c check (uncbc n D z) ≡ Some t = ap (text_of n c check) u.back ∙ read_again n c check t g (fixed (front t) (bytes_front t g)).0 in
      ap (λ w. cond (w && eqb (length z % n) 0) (text_of n c check (uncbc n D z)) None) bytes
      ∙ ap (λ w. cond w (text_of n c check (uncbc n D z)) None) whole
      ∙ opens

  pub sealed_short : (t : Text) → Good t → length (enciphered n E check t) ≤ 288
  sealed_short t g =
      let l = (sealing_undone t g).long in
      let s = filled_short n (11 + length t.body + c) widths (omega (arith, g.most)) in
      omega (arith, l, length_frame n c check fixed t g, s)

  opened_by : (z : List ℕ) (t : Text) (a b : Bool) → small 256 z ≡ a → eqb (length z % n) 0 ≡ b → cond (a && b) (text_of n c check (uncbc n D z)) None ≡ Some t
      → (enciphered n E check t ≡ z) × Good t
  opened_by z t true true ea eb e =
      let bytes : Bytes z = small_at 256 (lit< tt) z (subst T (sym ea) tt) in
      let u = uncbc_undone n E D laws z (eqb-true (length z % n) 0 eb) bytes in
      let o = only_frames n c check (uncbc n D z) t u.bytes e in
      (ap (cbc n E) o.0 ∙ u.back, o.1)
  opened_by z t true false ea eb e = absurd (let z : ◌≡◌ {A = ℕ} 0 1 = cc in omega arith)
  opened_by z t false b ea eb e = absurd (let z : ◌≡◌ {A = ℕ} 0 1 = cc in omega arith)

  pub only_sealed : (z : List ℕ) (t : Text) → deciphered n c D check z ≡ Some t → (enciphered n E check t ≡ z) × Good t
  only_sealed z t e = opened_by z t (small 256 z) (eqb (length z % n) 0) refl refl e
