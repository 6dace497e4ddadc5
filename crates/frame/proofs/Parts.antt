-- The parts of a frame, one behind the other.
use Rattle.std.proofs.Common.{◌≡◌, ℕ, ◌+◌, ◌≤◌, List, [], ◌∷◌, ◌++◌, length, get_or, take, drop, sym, refl, ap, ◌∙◌, arith, length-append, take-append-drop}
use Rattle.std.proofs.lemmas.List.{take_at, drop_at, drop-drop, append_assoc}

-- Direction, number, length, body, check, fill.
abbrev pub laid : ℕ → List ℕ → List ℕ → List ℕ → List ℕ → List ℕ → List ℕ
laid d o e b k z = d ∷ (o ++ (e ++ (b ++ (k ++ z))))

-- Where each part is found again.
module _ (d : ℕ) (o e b k z : List ℕ) (lo : length o ≡ 8) (le : length e ≡ 2) where
  pub number_part : take 8 (drop 1 (laid d o e b k z)) ≡ o
  number_part = take_at o (e ++ (b ++ (k ++ z))) 8 lo

  behind_number : drop 9 (laid d o e b k z) ≡ e ++ (b ++ (k ++ z))
  behind_number = drop_at o (e ++ (b ++ (k ++ z))) 8 lo

  pub length_part : take 2 (drop 9 (laid d o e b k z)) ≡ e
  length_part = ap (take 2) behind_number ∙ take_at e (b ++ (k ++ z)) 2 le

  behind_length : drop 11 (laid d o e b k z) ≡ b ++ (k ++ z)
  behind_length = sym (drop-drop 2 9 (laid d o e b k z)) ∙ ap (drop 2) behind_number ∙ drop_at e (b ++ (k ++ z)) 2 le

  pub body_part : take (length b) (drop 11 (laid d o e b k z)) ≡ b
  body_part = ap (take (length b)) behind_length ∙ take_at b (k ++ z) (length b) refl

  length_head : length (d ∷ (o ++ (e ++ b))) ≡ 11 + length b
  length_head = simp (length-append) (omega arith)

  regrouped : laid d o e b k z ≡ (d ∷ (o ++ (e ++ b))) ++ (k ++ z)
  regrouped = simp append_assoc

  pub front_part : take (11 + length b) (laid d o e b k z) ≡ d ∷ (o ++ (e ++ b))
  front_part = ap (take (11 + length b)) regrouped ∙ take_at (d ∷ (o ++ (e ++ b))) (k ++ z) (11 + length b) length_head

  behind_front : drop (11 + length b) (laid d o e b k z) ≡ k ++ z
  behind_front = ap (drop (11 + length b)) regrouped ∙ drop_at (d ∷ (o ++ (e ++ b))) (k ++ z) (11 + length b) length_head

  pub check_part : take (length k) (drop (11 + length b) (laid d o e b k z)) ≡ k
  check_part = ap (take (length k)) behind_front ∙ take_at k z (length k) refl

  pub fill_part : drop (11 + length b + length k) (laid d o e b k z) ≡ z
  fill_part =
      sym (drop-drop (length k) (11 + length b) (laid d o e b k z)) ∙ ap (drop (length k)) behind_front ∙ drop_at k z (length k) refl

  pub length_laid : length (laid d o e b k z) ≡ 11 + length b + length k + length z
  length_laid = simp length-append (omega arith)

-- And every string of enough bytes is laid out of its parts.
next_part : (n i : ℕ) (xs : List ℕ) → take n (drop i xs) ++ drop (i + n) xs ≡ drop i xs
next_part n i xs = ap (λ ys. take n (drop i xs) ++ ys) (sym (drop-drop n i xs)) ∙ take-append-drop n (drop i xs)

pub laid_out : (p : List ℕ) (s c : ℕ) → 11 ≤ length p
    → laid (get_or p 0 0) (take 8 (drop 1 p)) (take 2 (drop 9 p)) (take s (drop 11 p)) (take c (drop (11 + s) p)) (drop (11 + s + c) p) ≡ p
laid_out [] s c h = absurd (omega arith)
laid_out (d ∷ p) s c h =
    let q : List ℕ = d ∷ p in
    ap (λ ys. laid d (take 8 p) (take 2 (drop 8 p)) (take s (drop 10 p)) [] ys) (next_part c (11 + s) q)
    ∙ ap (λ ys. d ∷ (take 8 p ++ (take 2 (drop 8 p) ++ ys))) (next_part s 11 q)
    ∙ ap (λ ys. d ∷ (take 8 p ++ ys)) (next_part 2 9 q)
    ∙ ap (λ ys. d ∷ ys) (next_part 8 1 q)
