-- A loop that takes one block after the other into a chain.
use Rattle.std.specs.Prelude.{◌≡◌, ℕ, zero, suc, ◌+◌, ◌-◌, ◌*◌, ◌<◌, ◌≤◌, List, take, drop}
use Rattle.std.proofs.Common.{sym, ap, ◌∙◌, arith}
use Rattle.std.proofs.lemmas.List.{drop-drop}
use Rattle.byte_lists.specs.Bytes.{Bytes, Block, xors}
use Rattle.byte_lists.proofs.Facts.{bytes_take, bytes_drop, length_xors, bytes_xors}
use Rattle.cmac.specs.Cmac.{absorbed}

-- Block i, of k bytes as the code has it, turns the state c into d.
pub absorbed_more : (E : List ℕ → List ℕ) (n i k : ℕ) (c d xs : List ℕ) → i < n → k ≡ 16 → d ≡ E (xors c (take k (drop (16 * i) xs)))
    → absorbed E (n - (i + 1)) d (drop (16 * (i + 1)) xs) ≡ absorbed E (n - i) c (drop (16 * i) xs)
unfolding absorbed
absorbed_more E n i k c d xs h ek ed =
    let left : n - i ≡ suc (n - (i + 1)) = omega arith in
    let next : 16 * i + 16 ≡ 16 * (i + 1) = omega arith in
    let state : d ≡ E (xors c (take 16 (drop (16 * i) xs))) = ed ∙ ap (λ m. E (xors c (take m (drop (16 * i) xs)))) ek in
    ap (λ b. absorbed E (n - (i + 1)) b (drop (16 * (i + 1)) xs)) state
    ∙ ap (absorbed E (n - (i + 1)) (E (xors c (take 16 (drop (16 * i) xs))))) (sym (drop-drop 16 (16 * i) xs ∙ ap (λ m. drop m xs) next))
    ∙ ap (λ m. absorbed E m c (drop (16 * i) xs)) (sym left)

pub absorbed_all : (E : List ℕ → List ℕ) (n i : ℕ) (c xs : List ℕ) → n ≤ i → absorbed E (n - i) c xs ≡ c
unfolding absorbed
absorbed_all E n i c xs h = let none : n - i ≡ 0 = omega arith in ap (λ m. absorbed E m c xs) none

-- The state stays a block.
pub block_absorbed : (E : List ℕ → List ℕ) → ((b : List ℕ) → Block 16 b → Block 16 (E b)) → (m : ℕ) (c xs : List ℕ) → Block 16 c → Bytes xs → Block 16 (absorbed E m c xs)
unfolding absorbed
block_absorbed E e zero c xs h g = h
block_absorbed E e (suc m) c xs (l, h) g =
    block_absorbed E e m (E (xors c (take 16 xs))) (drop 16 xs)
    (e (xors c (take 16 xs)) (length_xors c (take 16 xs) ∙ l, bytes_xors c (take 16 xs) h (bytes_take 16 xs g)))
    (bytes_drop 16 xs g)
