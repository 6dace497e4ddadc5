-- A list entry by entry: the choice of all its places, in order, is the list.
use Rattle.std.specs.Prelude.{◌≡◌, ℕ, zero, suc, ◌+◌, ◌-◌, ◌<◌, ◌≤◌, List, [], ◌∷◌, length, take, drop, slice_index, refl}
use Rattle.std.proofs.Common.{ap, sym, ◌∙◌, arith, drop-cons}
use Rattle.std.proofs.lemmas.List.{take_all}
use Rattle.des_tables.specs.Bits.{chosen}

-- n places from i + 1 on
unfoldable pub range : ℕ → ℕ → List ℕ
range i zero = []
range i (suc n) = suc i ∷ range (suc i) n

chosen_range : (n i : ℕ) (xs : List ℕ) → i + n ≤ length xs → chosen (range i n) xs ≡ take n (drop i xs)
unfolding range
chosen_range zero i xs h = refl
chosen_range (suc n) i xs h =
    let l : i < length xs = omega arith in
    let ih : chosen (range (suc i) n) xs ≡ take n (drop (suc i) xs) = chosen_range n (suc i) xs (omega arith) in
    let z : suc i - 1 ≡ i = omega arith in
    ap (λ j. slice_index xs j ∷ chosen (range (suc i) n) xs) z ∙ ap (λ ys. slice_index xs i ∷ ys) ih ∙ ap (take (suc n)) (sym (drop-cons xs i 0 l))

pub chosen_all : (n : ℕ) (xs : List ℕ) → length xs ≡ n → chosen (range 0 n) xs ≡ xs
chosen_all n xs l = chosen_range n 0 xs (omega arith) ∙ take_all n xs (omega arith)

-- eight entries written out
abbrev pub eight : List ℕ → List ℕ
eight xs = slice_index xs 0 ∷ slice_index xs 1 ∷ slice_index xs 2 ∷ slice_index xs 3 ∷ slice_index xs 4 ∷ slice_index xs 5 ∷ slice_index xs 6 ∷ slice_index xs 7 ∷ []

pub eight_is : (xs : List ℕ) → length xs ≡ 8 → eight xs ≡ xs
unfolding range
eight_is xs l = chosen_all 8 xs l
