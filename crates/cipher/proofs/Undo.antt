-- A chain that is run forth and then back gives what it was run on, and so does one run back and then forth.
use Rattle.std.proofs.Common.{◌≡◌, ℕ, zero, suc, ◌-◌, ◌*◌, ◌/◌, ◌%◌, ◌≤◌, List, ◌++◌, length, take, drop, replicate, refl, ap, ◌∙◌, suc-mul, div-add-mod', arith, length-append, length-drop, take-append-drop}
use borrow.Rule.Slice.PartMut.{put_mid}
use Rattle.std.proofs.lemmas.List.{take_at, take_all, drop_at, drop_all, append-nil, length-replicate, length-take-le}
use Rattle.byte_lists.specs.Bytes.{xors, Bytes, Block}
use Rattle.byte_lists.proofs.Facts.{xors_undone, length_xors, bytes_xors, bytes_append, bytes_drop, bytes_take, bytes_zeros}
use Rattle.cipher.specs.Permutes.{Permutes}
use Rattle.cipher.specs.Cbc.{chained, forth, back, itself, cbc, uncbc}

-- G gives back what F made of xs, and F keeps bytes and their number.
pub record Undone (F G : List ℕ → List ℕ) (xs : List ℕ) : Type 0 where
  pub long : length (F xs) ≡ length xs
  pub bytes : Bytes (F xs)
  pub back : G (F xs) ≡ xs

module _ (n : ℕ) (E D : List ℕ → List ℕ) (p : Permutes n E D) where
  first : (m : ℕ) (xs : List ℕ) → length xs ≡ suc m * n → Bytes xs → Block n (take n xs)
  first m xs l h =
      let le : n ≤ length xs = omega (arith, suc-mul m n) in
      (length-take-le n xs le, bytes_take n xs h)

  rest : (m : ℕ) (xs : List ℕ) → length xs ≡ suc m * n → length (drop n xs) ≡ m * n
  rest m xs l = length-drop n xs ∙ omega (arith, suc-mul m n)

  joined : (a b : List ℕ) → Block n a → Block n b → Block n (xors a b)
  joined a b h g = (length_xors a b ∙ h.0, bytes_xors a b h.1 g.1)

  undo : (m : ℕ) (prev xs : List ℕ) → Block n prev → length xs ≡ m * n → Bytes xs
      → (length (chained n (forth E) (forth E) m prev xs) ≡ length xs) × Bytes (chained n (forth E) (forth E) m prev xs) × (chained n (back D) itself m prev (chained n (forth E) (forth E) m prev xs) ≡ xs)
  unfolding chained
  undo zero prev xs q l h = (refl, h, refl)
  undo (suc m) prev xs q l h =
      let c : List ℕ = E (xors (take n xs) prev) in
      let tail : List ℕ = chained n (forth E) (forth E) m c (drop n xs) in
      let k : Block n (xors (take n xs) prev) = joined (take n xs) prev (first m xs l h) q in
      let b : Block n c = p.forth (xors (take n xs) prev) k in
      let r : length (drop n xs) ≡ m * n = rest m xs l in
      let ih = undo m c (drop n xs) b r (bytes_drop n xs h) in
      let t : take n (c ++ tail) ≡ c = take_at c tail n b.0 in
      let d : drop n (c ++ tail) ≡ tail = drop_at c tail n b.0 in
      let one : xors (D c) prev ≡ take n xs = ap (λ y. xors y prev) (p.undoes (xors (take n xs) prev) k) ∙ xors_undone (take n xs) prev in (
        length-append c tail ∙ omega (arith, b.0, ih.0, r, suc-mul m n),
        bytes_append c tail b.1 ih.1,
        ap (λ y. xors (D y) prev ++ chained n (back D) itself m y (drop n (c ++ tail))) t
            ∙ ap (λ y. xors (D c) prev ++ chained n (back D) itself m c y) d
            ∙ ap (λ y. y ++ chained n (back D) itself m c tail) one
            ∙ ap (λ y. take n xs ++ y) ih.2
            ∙ take-append-drop n xs,
      )

  redo : (m : ℕ) (prev xs : List ℕ) → Block n prev → length xs ≡ m * n → Bytes xs
      → (length (chained n (back D) itself m prev xs) ≡ length xs) × Bytes (chained n (back D) itself m prev xs) × (chained n (forth E) (forth E) m prev (chained n (back D) itself m prev xs) ≡ xs)
  unfolding chained
  redo zero prev xs q l h = (refl, h, refl)
  redo (suc m) prev xs q l h =
      let c : List ℕ = take n xs in
      let b : Block n c = first m xs l h in
      let x : List ℕ = xors (D c) prev in
      let k : Block n x = joined (D c) prev (p.back c b) q in
      let tail : List ℕ = chained n (back D) itself m c (drop n xs) in
      let r : length (drop n xs) ≡ m * n = rest m xs l in
      let ih = redo m c (drop n xs) b r (bytes_drop n xs h) in
      let t : take n (x ++ tail) ≡ x = take_at x tail n k.0 in
      let d : drop n (x ++ tail) ≡ tail = drop_at x tail n k.0 in
      let one : E (xors (take n (x ++ tail)) prev) ≡ c = ap (λ y. E (xors y prev)) t ∙ ap E (xors_undone (D c) prev) ∙ p.redoes c b in (
        length-append x tail ∙ omega (arith, k.0, ih.0, r, suc-mul m n),
        bytes_append x tail k.1 ih.1,
        ap (λ y. y ++ chained n (forth E) (forth E) m y (drop n (x ++ tail))) one
            ∙ ap (λ y. c ++ chained n (forth E) (forth E) m c y) d
            ∙ ap (λ y. c ++ y) ih.2
            ∙ take-append-drop n xs,
      )

  zeros : Block n (replicate n 0)
  zeros = (length-replicate n 0, bytes_zeros n)

  whole : (xs : List ℕ) → length xs % n ≡ 0 → length xs ≡ length xs / n * n
  whole xs z = omega (arith, div-add-mod' (length xs) n)

  pub cbc_undone : (xs : List ℕ) → length xs % n ≡ 0 → Bytes xs → Undone (cbc n E) (uncbc n D) xs
  cbc_undone xs z h =
      let u = undo (length xs / n) (replicate n 0) xs zeros (whole xs z) h in
      record { long = u.0; bytes = u.1; back = ap (λ y. chained n (back D) itself (y / n) (replicate n 0) (cbc n E xs)) u.0 ∙ u.2 }

  pub uncbc_undone : (xs : List ℕ) → length xs % n ≡ 0 → Bytes xs → Undone (uncbc n D) (cbc n E) xs
  uncbc_undone xs z h =
      let u = redo (length xs / n) (replicate n 0) xs zeros (whole xs z) h in
      record { long = u.0; bytes = u.1; back = ap (λ y. chained n (forth E) (forth E) (y / n) (replicate n 0) (uncbc n D xs)) u.0 ∙ u.2 }

  -- In a buffer, from the byte `from` on, where ys is written.
  module _ (from : ℕ) (xs ys : List ℕ) (le : from ≤ length xs) (z : (length xs - from) % n ≡ 0) (h : Bytes xs) where
    blocks : length (drop from xs) % n ≡ 0
    blocks = ap (λ k. k % n) (length-drop from xs) ∙ z

    -- k is n, as the code writes it
    behind : (k : ℕ) (f : ℕ → List ℕ → List ℕ) → k ≡ n → ys ≡ f k (take (length xs - from) (drop from xs)) → drop from (put_mid from (length xs - from) xs ys) ≡ f n (drop from xs)
    behind k f ek e =
        let rest : length (drop from xs) ≤ length xs - from = omega (arith, length-drop from xs) in
        drop_at (take from xs) (ys ++ drop (length xs - from) (drop from xs)) from (length-take-le from xs le)
        ∙ ap (λ y. ys ++ y) (drop_all (length xs - from) (drop from xs) rest)
        ∙ append-nil ys
        ∙ e
        ∙ ap (f k) (take_all (length xs - from) (drop from xs) rest)
        ∙ ap (λ m. f m (drop from xs)) ek

    pub encrypted_undone : (k : ℕ) → k ≡ n → ys ≡ cbc k E (take (length xs - from) (drop from xs)) → uncbc n D (drop from (put_mid from (length xs - from) xs ys)) ≡ drop from xs
    encrypted_undone k ek e = ap (uncbc n D) (behind k (λ m t. cbc m E t) ek e) ∙ (cbc_undone (drop from xs) blocks (bytes_drop from xs h)).back

    pub decrypted_undone : (k : ℕ) → k ≡ n → ys ≡ uncbc k D (take (length xs - from) (drop from xs)) → cbc n E (drop from (put_mid from (length xs - from) xs ys)) ≡ drop from xs
    decrypted_undone k ek e = ap (cbc n E) (behind k (λ m t. uncbc m D t) ek e) ∙ (uncbc_undone (drop from xs) blocks (bytes_drop from xs h)).back
