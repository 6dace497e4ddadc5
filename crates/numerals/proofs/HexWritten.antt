-- Bytes written in hexadecimal digits are read again, and nothing else is.
use Rattle.std.proofs.Common.{◌≡◌, ℕ, suc, ◌+◌, ◌*◌, ◌/◌, ◌%◌, ◌<◌, List, [], ◌∷◌, Some, None, Option, sym, refl, ap, ◌∙◌, arith}
use Rattle.std.proofs.lemmas.Bool.Decides.{nat_tests}
use Rattle.byte_lists.specs.Bytes.{Bytes}
use Rattle.byte_lists.proofs.Facts.{bytes_cons, bytes_none}
use Rattle.numerals.specs.Hexadecimal.{digit, pair, unhex, shown, hex}

-- A digit's value is shown as that digit.
digit_shown : (d : ℕ) → d < 16 → digit (shown d) ≡ Some d
digit_shown d h = grind (arith, nat_tests)

shown_digit : (c d : ℕ) → digit c ≡ Some d → (c ≡ shown d) × (d < 16)
shown_digit c d e = grind (arith, nat_tests)

pub unhex_hex : (bs : List ℕ) → Bytes bs → unhex (hex bs) ≡ Some bs
unhex_hex [] h = refl
unhex_hex (x ∷ xs) h =
    let hi : x / 16 < 16 = omega (arith, h 0) in
    let lo : x % 16 < 16 = omega arith in
    let e : 16 * (x / 16) + x % 16 ≡ x = omega arith in
    ap (λ a. pair a (digit (shown (x % 16))) (unhex (hex xs))) (digit_shown (x / 16) hi)
    ∙ ap (λ b. pair (Some (x / 16)) b (unhex (hex xs))) (digit_shown (x % 16) lo)
    ∙ ap (pair (Some (x / 16)) (Some (x % 16))) (unhex_hex xs (λ i. h (suc i)))
    ∙ ap (λ y. Some (y ∷ xs)) e

-- What a read is of.
abbrev Hexed : List ℕ → List ℕ → Type 0
Hexed cs bs = (cs ≡ hex bs) × Bytes bs

pair_hex : (a b : ℕ) (cs : List ℕ) (x y : Option ℕ) (o : Option (List ℕ)) (bs : List ℕ) → digit a ≡ x → digit b ≡ y → ((ys : List ℕ) → o ≡ Some ys → Hexed cs ys) → pair x y o ≡ Some bs → Hexed (a ∷ b ∷ cs) bs
pair_hex a b cs (Some x) (Some y) (Some ys) bs e f h g =
    let p = shown_digit a x e in
    let q = shown_digit b y f in
    let r = h ys refl in
    let k : (16 * x + y) ∷ ys ≡ bs = cc in
    let i : (16 * x + y) / 16 ≡ x = omega (arith, p.1, q.1) in
    let j : (16 * x + y) % 16 ≡ y = omega (arith, p.1, q.1) in
    let l : 16 * x + y < 256 = omega (arith, p.1, q.1) in
    rw (← k) ((ap (λ z. z ∷ b ∷ cs) (p.0 ∙ ap shown (sym i)) ∙ ap (λ z. shown ((16 * x + y) / 16) ∷ z ∷ cs) (q.0 ∙ ap shown (sym j)) ∙ ap (λ z. shown ((16 * x + y) / 16) ∷ shown ((16 * x + y) % 16) ∷ z) r.0), bytes_cons (16 * x + y) ys l r.1)
pair_hex a b cs (Some x) (Some y) None bs e f h g = let z : ◌≡◌ {A = ℕ} 0 1 = cc in absurd (omega arith)
pair_hex a b cs (Some x) None o bs e f h g = let z : ◌≡◌ {A = ℕ} 0 1 = cc in absurd (omega arith)
pair_hex a b cs None y o bs e f h g = let z : ◌≡◌ {A = ℕ} 0 1 = cc in absurd (omega arith)

pub hex_unhex : (cs bs : List ℕ) → unhex cs ≡ Some bs → Hexed cs bs
hex_unhex [] bs e = let f : [] ≡ bs = cc in rw (← f) (refl, bytes_none)
hex_unhex (a ∷ []) bs e = let z : ◌≡◌ {A = ℕ} 0 1 = cc in absurd (omega arith)
hex_unhex (a ∷ b ∷ cs) bs e = pair_hex a b cs (digit a) (digit b) (unhex cs) bs refl refl (hex_unhex cs) e
