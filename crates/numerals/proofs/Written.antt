-- Reading undoes writing, and only what was written is read.
use Rattle.std.proofs.Common.{◌≡◌, ℕ, ◌^◌, ◌<◌, ◌≤◌, Bool, true, false, cond, leb, List, length, get_or, Some, None, decimal, sym, refl, ap, ◌∙◌, ⊎_elim, arith, rules}
use Rattle.std.proofs.lemmas.Fmt.{decimal_nonempty, first_decimal, decimal_digit, digits_decimal, digits_value-decimal, decimal-digits_value}
use Rattle.std.proofs.lemmas.Str.Parse.{IsNumeralModel, numerals_by_fold, tells_all_ascii_digits}
use Rattle.std.proofs.lemmas.Bool.{cond-true, le-leb, leb-true, cases_lt}
use Rattle.std.proofs.lemmas.Bool.Decides.{nat_tests}
use Rattle.std.specs.Str.{all_ascii_digits}
use Rattle.numerals.specs.Decimal.{onto, digits, plain, upto, numeral}

-- The library's words for digits and their value.
own : IsNumeralModel (λ cs. all_ascii_digits cs ≡ true) (onto 0)
own = numerals_by_fold (λ cs. all_ascii_digits cs ≡ true) tells_all_ascii_digits onto (search rules)

plain_parts : (cs : List ℕ) → plain cs ≡ true → (0 < length cs) × (get_or cs 0 0 ≡ 48 → length cs ≡ 1)
plain_parts cs e = grind (arith, nat_tests)

plain_from : (cs : List ℕ) → 0 < length cs → (get_or cs 0 0 ≡ 48 → length cs ≡ 1) → plain cs ≡ true
plain_from cs h g = grind (arith, nat_tests)

some_is : (m n : ℕ) → Some m ≡ Some n → m ≡ n
some_is m n e = cc

-- A number that is written is read again.
pub numeral_decimal : (top n : ℕ) → n ≤ top → n < 2 ^ 64 → numeral top (decimal n) ≡ Some n
numeral_decimal top n h b =
    let some : 0 < length (decimal n) = decimal_nonempty n b in
    let alone : get_or (decimal n) 0 0 ≡ 48 → length (decimal n) ≡ 1 =
    λ e. ⊎_elim (λ (z : n < 10). ap length (decimal_digit n z)) (λ (g : 10 ≤ n). absurd (omega (arith, first_decimal n (omega arith) b))) (cases_lt n 10)
    in
    cond-true (plain (decimal n)) (upto top (digits 0 (decimal n))) None (plain_from (decimal n) some alone)
    ∙ ap (upto top) (cond-true (all_ascii_digits (decimal n)) (Some (onto 0 (decimal n))) None (digits_decimal own n b) ∙ ap Some (digits_value-decimal own n b))
    ∙ cond-true (leb n top) (Some n) None (le-leb n top h)

read_parts : (top m n : ℕ) (t : Bool) → leb m top ≡ t → cond t (Some m) None ≡ Some n → (m ≡ n) × (m ≤ top)
read_parts top m n true e f = (some_is m n f, leb-true m top e)
read_parts top m n false e f = let z : ◌≡◌ {A = ℕ} 0 1 = cc in absurd (omega arith)

numeral_parts : (top n : ℕ) (cs : List ℕ) (p d : Bool) → plain cs ≡ p → all_ascii_digits cs ≡ d → cond p (upto top (cond d (Some (onto 0 cs)) None)) None ≡ Some n
    → (plain cs ≡ true) × (all_ascii_digits cs ≡ true) × (onto 0 cs ≡ n) × (onto 0 cs ≤ top)
numeral_parts top n cs true true e f g = let r = read_parts top (onto 0 cs) n (leb (onto 0 cs) top) refl g in (e, f, r.0, r.1)
numeral_parts top n cs true false e f g = let z : ◌≡◌ {A = ℕ} 0 1 = cc in absurd (omega arith)
numeral_parts top n cs false d e f g = let z : ◌≡◌ {A = ℕ} 0 1 = cc in absurd (omega arith)

-- The number that is read is the one that is written.
pub decimal_numeral : (top n : ℕ) (cs : List ℕ) → top < 2 ^ 64 → numeral top cs ≡ Some n → (cs ≡ decimal n) × (n ≤ top)
decimal_numeral top n cs b e =
    let r = numeral_parts top n cs (plain cs) (all_ascii_digits cs) refl refl e in
    let p = plain_parts cs r.0 in
    (sym (decimal-digits_value own cs r.1 p.0 p.1 (omega (arith, r.3))) ∙ ap decimal r.2, omega (arith, r.2, r.3))

-- All that is written is digits.
pub digits_written : (n : ℕ) → n < 2 ^ 64 → all_ascii_digits (decimal n) ≡ true
digits_written n b = digits_decimal own n b
