-- What is written of a value, read again: the digits hold no LF, and say the value.
use Rattle.std.proofs.Common.{◌≡◌, ℕ, ◌/◌, ◌%◌, ◌^◌, ◌<◌, ◌≤◌, true, not, ◌&&◌, eqb, leb, List, [], ◌∷◌, length, Ok, Some, None, decimal, refl, ap, ◌∙◌, arith}
use Rattle.std.proofs.lemmas.Fmt.{decimal_nonempty}
use Rattle.std.proofs.lemmas.Bool.{and_parts, and_from, cond-true, le-leb}
use Rattle.std.proofs.lemmas.Bool.Decides.{nat_tests}
use Rattle.std.specs.Char.{is_ascii_digit}
use Rattle.std.specs.Str.{all_ascii_digits}
use Rattle.byte_lists.specs.Bytes.{Bytes}
use Rattle.numerals.specs.Decimal.{numeral}
use Rattle.numerals.specs.Hexadecimal.{shown, hex, sized}
use Rattle.numerals.proofs.HexWritten.{unhex_hex}
use Rattle.numerals.proofs.Written.{digits_written, numeral_decimal}
use Rattle.personalise.specs.Limits.{limit, numbered}
use Rattle.personalise.specs.Load.{hexed}
use Rattle.personalise.proofs.Texts.{unbroken}

shown_unbroken : (d : ℕ) → not (eqb (shown d) 10) ≡ true
shown_unbroken d = grind (arith, nat_tests)

pub unbroken_hex : (bs : List ℕ) → unbroken (hex bs) ≡ true
unbroken_hex [] = refl
unbroken_hex (x ∷ xs) =
    and_from (not (eqb (shown (x / 16)) 10)) (not (eqb (shown (x % 16)) 10) && unbroken (hex xs)) (shown_unbroken (x / 16))
    (and_from (not (eqb (shown (x % 16)) 10)) (unbroken (hex xs)) (shown_unbroken (x % 16)) (unbroken_hex xs))

digit_unbroken : (c : ℕ) → is_ascii_digit c ≡ true → not (eqb c 10) ≡ true
digit_unbroken c h = grind (arith, nat_tests)

unbroken_digits : (cs : List ℕ) → all_ascii_digits cs ≡ true → unbroken cs ≡ true
unbroken_digits [] h = refl
unbroken_digits (c ∷ cs) h =
    let p = and_parts (is_ascii_digit c) (all_ascii_digits cs) h in
    and_from (not (eqb c 10)) (unbroken cs) (digit_unbroken c p.0) (unbroken_digits cs p.1)

pub unbroken_decimal : (n : ℕ) → n < 2 ^ 64 → unbroken (decimal n) ≡ true
unbroken_decimal n h = unbroken_digits (decimal n) (digits_written n h)

-- Bytes of an allowed number.
pub hexed_hex : (low high : ℕ) (bs : List ℕ) → Bytes bs → low ≤ length bs → length bs ≤ high → hexed low high (Some (hex bs)) ≡ Some bs
hexed_hex low high bs h l g =
    ap (sized low high) (unhex_hex bs h)
    ∙ cond-true (leb low (length bs) && leb (length bs) high) (Some bs) None (and_from (leb low (length bs)) (leb (length bs) high) (le-leb low (length bs) l) (le-leb (length bs) high g))

-- A number up to the top.
limit_digits : (top : ℕ) (cs : List ℕ) → 0 < length cs → limit top (Some cs) ≡ numbered (numeral top cs)
limit_digits top [] h = absurd (omega arith)
limit_digits top (c ∷ cs) h = refl

pub limit_decimal : (top n : ℕ) → n ≤ top → n < 2 ^ 64 → limit top (Some (decimal n)) ≡ Ok n
limit_decimal top n h b = limit_digits top (decimal n) (decimal_nonempty n b) ∙ ap numbered (numeral_decimal top n h b)
