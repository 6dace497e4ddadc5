use Rattle.std.proofs.Common.{◌≡◌, ℕ, ◌/◌, ◌≤◌, List, length, take, replicate, Some, None, Option, sym, refl, ap, ◌∙◌, arith, length-take}
use Rattle.std.proofs.lemmas.Bool.{both_ways}
use Rattle.numerals.specs.Hexadecimal.{sized, unhex}
use Rattle.numerals.proofs.Pairs.{sized_none, sized_half}
use Rattle.personalise.proofs.reference.Reference.read.Goals as goal

pub returns-then-not-is_allowed : goal.returns-then-not-is_allowed
returns-then-not-is_allowed c =
    sym (sized_none c.args.digits.now 22 68 (λ n l h e. both_ways c.is_allowed.result c.if-not-is_allowed.true (c.is_allowed.ensures.1 (omega arith, omega arith))))

-- What was read into a part of half as many bytes.
read_half : (cs part : List ℕ) (n : ℕ) (o : Option (List ℕ)) → length part ≡ n → n ≡ length cs / 2 → (22 ≤ n) × (n ≤ 68) → o ≡ sized (length part) (length part) (unhex cs) → o ≡ sized 22 68 (unhex cs)
read_half cs part n o e f h g = g ∙ ap (λ m. sized m m (unhex cs)) e ∙ sized_half cs 22 68 n f h.0 h.1

room : (n : ℕ) → n ≤ 68 → length {A = ℕ} (take n (replicate 68 0)) ≡ n
room n h = simp length-take (omega arith)

pub returns-in_err-read_hexadecimal : goal.returns-in_err-read_hexadecimal
returns-in_err-read_hexadecimal c =
    let n = length c.args.digits.now / 2 in
    let h : (22 ≤ n) × (n ≤ 68) = c.is_allowed.ensures.0 c.if-not-is_allowed.false in
    rw c.from_residual.ensures (read_half c.args.digits.now (take n (replicate 68 0)) n None (room n h.1) refl h c.in_err-read_hexadecimal.ensures)

pub returns : goal.returns
returns c =
    let n = length c.args.digits.now / 2 in
    let h : (22 ≤ n) × (n ≤ 68) = c.is_allowed.ensures.0 c.if-not-is_allowed.false in
    ap Some c.from_slice.ensures
    ∙ read_half c.args.digits.now (take n (replicate 68 0)) n (Some c.read_hexadecimal.new.bytes) (room n h.1) refl h c.in_ok-read_hexadecimal.ensures
