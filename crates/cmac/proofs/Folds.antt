-- The blocks of a text taken in one after the other, as a fold.
use Rattle.std.proofs.Common.{◌≡◌, ℕ, zero, suc, ◌+◌, ◌*◌, List, take, drop, fold, refl, ap, ◌∙◌, arith}
use Rattle.std.specs.Simd.{first_chunks}
use Rattle.std.proofs.lemmas.List.{take-take, drop-take}
use Rattle.byte_lists.specs.Bytes.{xors}
use Rattle.cmac.specs.Cmac.{absorbed}

-- One block taken into the state.
abbrev pub taking : (List ℕ → List ℕ) → List ℕ → List ℕ → List ℕ
taking E c b = E (xors c b)

pub fold_absorbed : (E : List ℕ → List ℕ) (m : ℕ) (c xs : List ℕ) → fold (taking E) c (first_chunks 16 m xs) ≡ absorbed E m c xs
unfolding absorbed
fold_absorbed E zero c xs = refl
fold_absorbed E (suc m) c xs = fold_absorbed E m (E (xors c (take 16 xs))) (drop 16 xs)

-- Only the blocks that are taken count.
pub absorbed_front : (E : List ℕ → List ℕ) (m : ℕ) (c xs : List ℕ) → absorbed E m c (take (16 * m) xs) ≡ absorbed E m c xs
unfolding absorbed
absorbed_front E zero c xs = refl
absorbed_front E (suc m) c xs =
    let more : 16 * suc m ≡ 16 + 16 * m = omega arith in
    let block : take 16 (take (16 * suc m) xs) ≡ take 16 xs = take-take 16 (16 * suc m) xs (omega arith) in
    let rest : drop 16 (take (16 * suc m) xs) ≡ take (16 * m) (drop 16 xs) = ap (λ n. drop 16 (take n xs)) more ∙ drop-take 16 (16 * m) xs in
    ap (λ b. absorbed E m (E (xors c b)) (drop 16 (take (16 * suc m) xs))) block
    ∙ ap (absorbed E m (E (xors c (take 16 xs)))) rest
    ∙ absorbed_front E m (E (xors c (take 16 xs))) (drop 16 xs)
