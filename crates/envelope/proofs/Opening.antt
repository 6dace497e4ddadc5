-- What opening leaves, from what reading the frame says.
use Rattle.std.proofs.Common.{◌≡◌, ℕ, ◌%◌, cond, ◌&&◌, eqb, List, length, is_some, true, false, Some, None, Option, sym, refl, ap, ◌∙◌, subst, arith, eq-eqb}
use Rattle.byte_lists.specs.Bytes.{Bytes}
use Rattle.byte_lists.proofs.Tables.{small_from}
use Rattle.cipher.specs.Cbc.{uncbc}
use Rattle.sealing.specs.Sealing.{Text}
use Rattle.sealing.specs.Lent.{Gives, OpensTo}
use Rattle.sealing.specs.declared.sealer.Opened.{Opened}
use Rattle.frame.specs.Frame.{text_of, told}
use Rattle.frame.proofs.Laws.{body_placed}
use Rattle.envelope.specs.Envelope.{deciphered}

-- Bytes in whole blocks open as their deciphering is read.
pub deciphered_is : (n c : ℕ) (D check : List ℕ → List ℕ) (z p : List ℕ) → Bytes z → length z % n ≡ 0 → p ≡ uncbc n D z → deciphered n c D check z ≡ text_of n c check p
deciphered_is n c D check z p bytes whole e =
    ap (λ w. cond (w && eqb (length z % n) 0) (text_of n c check (uncbc n D z)) None) (small_from 256 z bytes)
    ∙ ap (λ w. cond w (text_of n c check (uncbc n D z)) None) (eq-eqb (length z % n) 0 whole)
    ∙ ap (text_of n c check) (sym e)

-- The string z, and the frame p of its length that it holds when it opens.
module _ (n c : ℕ) (check : List ℕ → List ℕ) (z p : List ℕ) (long : length p ≡ length z) where
  gives : (t : Text) → text_of n c check p ≡ Some t → Gives t z p (record { direction = t.direction; number = t.number; at = 11; len = length t.body })
  gives t e =
      let b = body_placed n c check p t e in
      record { direction = refl; number = refl; len = refl; inside = omega (arith, b.0, long); body = b.1 }

  -- What is told of the frame of a string that opens.
  pub found : (o : Option Text) (r : Option Opened) → o ≡ text_of n c check p → r ≡ told o → is_some r ≡ true → OpensTo o z p r
  found None r e is some = let q : false ≡ true = ap is_some (sym is) ∙ some in absurd (let z : ◌≡◌ {A = ℕ} 0 1 = cc in omega arith)
  found (Some t) r e is some = subst (OpensTo (Some t) z p) (sym is) (gives t (sym e))
