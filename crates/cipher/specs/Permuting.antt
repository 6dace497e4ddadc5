-- Ciphers made of ciphers.
use Rattle.std.specs.Prelude.{ℕ, List}
use Rattle.std.proofs.Common.{ap, ◌∙◌}
use Rattle.cipher.specs.Permutes.{Permutes}

-- Decrypting is a cipher too.
pub turned : {n : ℕ} {E D : List ℕ → List ℕ} → Permutes n E D → Permutes n D E
turned p = record { forth = p.back; back = p.forth; undoes = p.redoes; redoes = p.undoes }

-- And one cipher after the other.
pub after : {n : ℕ} {E D F G : List ℕ → List ℕ} → Permutes n E D → Permutes n F G → Permutes n (λ b. F (E b)) (λ b. D (G b))
after {n} {E} {D} {F} {G} p q = record {
  forth = λ b h. q.forth (E b) (p.forth b h);
  back = λ b h. p.back (G b) (q.back b h);
  undoes = λ b h. ap D (q.undoes (E b) (p.forth b h)) ∙ p.undoes b h;
  redoes = λ b h. ap F (p.redoes (G b) (q.back b h)) ∙ q.redoes b h;
}
