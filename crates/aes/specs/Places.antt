-- Bytes picked by tables of places.
use Rattle.std.specs.Prelude.{◌≡◌, ℕ, zero, suc, ◌<◌, T, List, [], ◌∷◌, map, length, nat_lt, slice_index, slice_index_or, refl}
use Rattle.std.proofs.Common.{ap, ◌∙◌, leb→le, lit<}
use Rattle.std.specs.List.{range_with_len}
use Rattle.std.proofs.lemmas.List.{get_or-map}
use Rattle.std.proofs.lemmas.Simd.{pick_l_whole}
use Rattle.byte_lists.specs.Bytes.{Bytes}
use Rattle.byte_lists.proofs.Tables.{both_left, both_right, small}
use Rattle.aes.specs.Steps.{picked}

picked_picked : (qs ps xs : List ℕ) → T (small (length ps) qs) → picked qs (picked ps xs) ≡ picked (picked qs ps) xs
picked_picked [] ps xs t = refl
picked_picked (q ∷ qs) ps xs t =
    let h : q < length ps = leb→le (suc q) (length ps) (both_left (nat_lt q (length ps)) (small (length ps) qs) t) in
    let e : slice_index_or (picked ps xs) q 0 ≡ slice_index_or xs (slice_index ps q) 0 = get_or-map (λ i. slice_index xs i) ps q 0 0 h in
    let ih = picked_picked qs ps xs (both_right (nat_lt q (length ps)) (small (length ps) qs) t) in
    cc

-- Two tables that undo each other.
pub picked_undone : (qs ps xs : List ℕ) (n : ℕ) → T (small (length ps) qs) → picked qs ps ≡ range_with_len 0 n → length xs ≡ n → picked qs (picked ps xs) ≡ xs
picked_undone qs ps xs n t e l = picked_picked qs ps xs t ∙ ap (λ rs. picked rs xs) e ∙ pick_l_whole 0 xs n l

pub bytes_map : (f : ℕ → ℕ) → ((x : ℕ) → f x < 256) → (xs : List ℕ) → Bytes (map f xs)
bytes_map f h [] i = lit< tt
bytes_map f h (x ∷ xs) zero = h x
bytes_map f h (x ∷ xs) (suc i) = bytes_map f h xs i

pub bytes_picked : (ps xs : List ℕ) → Bytes xs → Bytes (picked ps xs)
bytes_picked ps xs h = bytes_map (λ i. slice_index xs i) (λ i. h i) ps
