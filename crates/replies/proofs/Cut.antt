-- An answer cut at a size: its blocks counted and joined.
use Rattle.std.proofs.Common.{◌≡◌, ℕ, zero, suc, ◌+◌, ◌*◌, ◌/◌, ◌%◌, ◌<◌, ◌≤◌, min, Bool, true, false, cond, ltb, List, [], ◌++◌, length, take, drop, is_some, Some, None, sym, refl, ap, ◌∙◌, ⊎_elim, mul-le-mul_right, mod-lt, suc-mul, add-mul, div-add-mod', zero-mul, arith, take-add}
use Rattle.std.specs.List.{flat_map}
use Rattle.std.proofs.lemmas.List.{flat_map_more, take_all, drop_all, length-drop}
use Rattle.std.proofs.lemmas.Bool.{cases_lt, lt-ltb, le-ltb}
use Rattle.replies.specs.Blocks.{Part, block_of, cut_block, cut_count}
use Rattle.replies.specs.Joining.{below, present_bytes, cut_bytes}

-- q full blocks and a rest of r bytes, with r below the size.
covered : (q r size : ℕ) → r < size → q * size + r ≤ (q + min 1 r) * size
covered q r size l =
    let e : (q + min 1 r) * size ≡ q * size + min 1 r * size = add-mul q (min 1 r) size in
    ⊎_elim
    (λ (some : 0 < r). let m : min 1 r ≡ 1 = omega arith in omega (arith, e, ap (λ k. k * size) m))
    (λ (none : r ≤ 0). omega (arith, e))
    (cases_lt 0 r)

reached : (q r size n : ℕ) → r < size → n < q + min 1 r → n * size < q * size + r
reached q r size n l h =
    ⊎_elim
    (λ (full : n < q). let m : (n + 1) * size ≤ q * size = mul-le-mul_right size (omega arith) in omega (arith, add-mul n 1 size, m))
    (λ (rest : q ≤ n). let s : n ≡ q = omega arith in omega (arith, ap (λ k. k * size) s))
    (cases_lt n q)

-- A block begins within the answer exactly when its number is below the count.
module _ (size : ℕ) (whole : List ℕ) (some : 0 < size) where
  whole_size : length whole / size * size + length whole % size ≡ length whole
  whole_size = div-add-mod' (length whole) size

  all_covered : length whole ≤ cut_count size whole * size
  all_covered = omega (arith, whole_size, covered (length whole / size) (length whole % size) size (mod-lt (length whole) some))

  begins_within : (n : ℕ) → ltb (n * size) (length whole) ≡ ltb n (cut_count size whole)
  begins_within n =
      ⊎_elim
      (λ (b : n < cut_count size whole). lt-ltb (n * size) (length whole) (omega (arith, whole_size, reached (length whole / size) (length whole % size) size n (mod-lt (length whole) some) b)) ∙ sym (lt-ltb n (cut_count size whole) b))
      (λ (b : cut_count size whole ≤ n). let m : cut_count size whole * size ≤ n * size = mul-le-mul_right size b in le-ltb (n * size) (length whole) (omega (arith, all_covered, m)) ∙ sym (le-ltb n (cut_count size whole) b))
      (cases_lt n (cut_count size whole))

  some_part : (b : Bool) (p : Part) → is_some (cond b (Some p) None) ≡ b
  some_part true p = refl
  some_part false p = refl

  -- A block that is there has this much behind it.
  the_part : (b : Bool) (p q : Part) → cond b (Some p) None ≡ Some q → p.more ≡ q.more
  the_part true p q e = cc
  the_part false p q e = cc

  -- Absent or not, block n is what stands there.
  taken_there : (n : ℕ) → cut_bytes size whole n ≡ take size (drop (n * size) whole)
  taken_there n =
      ⊎_elim
      (λ (l : n * size < length whole). ap (λ b. present_bytes (cond b (Some (block_of whole (n * size) size)) None)) (lt-ltb (n * size) (length whole) l))
      (λ (l : length whole ≤ n * size). ap (λ b. present_bytes (cond b (Some (block_of whole (n * size) size)) None)) (le-ltb (n * size) (length whole) l) ∙ sym (ap (take size) (drop_all (n * size) whole l) ∙ take_all size [] (omega arith)))
      (cases_lt (n * size) (length whole))

  first_blocks : (n : ℕ) → flat_map (cut_bytes size whole) (below n) ≡ take (n * size) whole
  first_blocks zero = sym (ap (λ k. take k whole) (zero-mul size))
  first_blocks (suc n) =
      sym (flat_map_more (cut_bytes size whole) [] (below n) n)
      ∙ ap (λ xs. xs ++ cut_bytes size whole n) (first_blocks n)
      ∙ ap (λ xs. take (n * size) whole ++ xs) (taken_there n)
      ∙ sym (take-add (n * size) size whole)
      ∙ ap (λ k. take k whole) (sym (suc-mul n size))

  pub answers_join : flat_map (cut_bytes size whole) (below (cut_count size whole)) ≡ whole
  answers_join = first_blocks (cut_count size whole) ∙ take_all (cut_count size whole * size) whole all_covered

  pub present : (n : ℕ) → is_some (cut_block size whole n) ≡ ltb n (cut_count size whole)
  present n = some_part (ltb (n * size) (length whole)) (block_of whole (n * size) size) ∙ begins_within n

  -- More remain behind a block exactly when the next one begins within the answer.
  more_behind : (n : ℕ) → ltb size (length (drop (n * size) whole)) ≡ ltb ((n + 1) * size) (length whole)
  more_behind n =
      let d = length-drop (n * size) whole in
      let m = add-mul n 1 size in
      ⊎_elim
      (λ (l : size < length (drop (n * size) whole)). lt-ltb size (length (drop (n * size) whole)) l ∙ sym (lt-ltb ((n + 1) * size) (length whole) (omega (arith, d, m))))
      (λ (l : length (drop (n * size) whole) ≤ size). le-ltb size (length (drop (n * size) whole)) l ∙ sym (le-ltb ((n + 1) * size) (length whole) (omega (arith, d, m))))
      (cases_lt size (length (drop (n * size) whole)))

  pub last : (n : ℕ) (p : Part) → cut_block size whole n ≡ Some p → p.more ≡ ltb (n + 1) (cut_count size whole)
  last n p e = sym (the_part (ltb (n * size) (length whole)) (block_of whole (n * size) size) p e) ∙ more_behind n ∙ begins_within (n + 1)
