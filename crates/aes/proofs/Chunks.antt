-- A list cut into chunks of four.
use Rattle.std.proofs.Common.{◌≡◌, ℕ, zero, suc, ◌+◌, ◌*◌, ◌<◌, List, [], get_or, take, drop, refl, ap, ◌∙◌, arith}
use Rattle.std.specs.Simd.{first_chunks}
use Rattle.std.proofs.lemmas.List.{drop-drop}

chunk_at : (k r : ℕ) (xs : List ℕ) → r < k → get_or (first_chunks 4 k xs) r [] ≡ take 4 (drop (4 * r) xs)
chunk_at zero r xs h = absurd (omega arith)
chunk_at (suc k) zero xs h = refl
chunk_at (suc k) (suc r) xs h =
    let e : 4 + 4 * r ≡ 4 * suc r = omega arith in
    let g : 4 * r + 4 ≡ 4 * suc r = omega arith in
    chunk_at k r (drop 4 xs) (omega arith) ∙ ap (take 4) (drop-drop (4 * r) 4 xs ∙ ap (λ n. drop n xs) e)

-- The chunk r of n, which are k.
pub chunk_of : (cs : List (List ℕ)) (n k r : ℕ) (xs : List ℕ) → cs ≡ first_chunks 4 n xs → n ≡ k → r < k → get_or cs r [] ≡ take 4 (drop (4 * r) xs)
chunk_of cs n k r xs e m h = ap (λ ys. get_or ys r []) e ∙ chunk_at n r xs (omega arith)
