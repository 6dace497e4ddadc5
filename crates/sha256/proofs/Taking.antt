-- How the whole blocks and the bytes left over go on as a piece is taken.
use Rattle.std.proofs.Common.{◌≡◌, ℕ, zero, suc, ◌+◌, ◌*◌, ◌/◌, ◌%◌, ◌^◌, ◌<◌, ◌≤◌, cond, eqb, List, ◌++◌, length, take, drop, sym, refl, ap, ◌∙◌, ⊎_elim, arith, length-append, length-drop, length-take}
use borrow.Rule.Slice.PartMut.{put_mid}
use Rattle.std.proofs.lemmas.List.{take-append-le, drop-append-le, take_all, drop_all}
use Rattle.std.proofs.lemmas.Slice.{take-put_mid}
use Rattle.std.proofs.lemmas.Bool.{cases_eq, cond-true, cond-false, eq-eqb, ne_eqb}
use Rattle.compression.specs.declared.letters.Eight.{Eight}
use Rattle.compression.specs.Compression.{compressed}
use Rattle.sha256.specs.Digest.{block, hashed}

block_front : (xs ys : List ℕ) (n : ℕ) → 64 * n + 64 ≤ length xs → block (xs ++ ys) n ≡ block xs n
block_front xs ys n h =
    ap (take 64) (drop-append-le (64 * n) xs ys (omega arith)) ∙ take-append-le 64 (drop (64 * n) xs) ys (simp length-drop (omega arith))

-- Bytes behind the whole blocks do not change what those give.
hashed_front : (n : ℕ) (xs ys : List ℕ) → 64 * n ≤ length xs → hashed n (xs ++ ys) ≡ hashed n xs
unfolding hashed
hashed_front zero xs ys h = refl
hashed_front (suc n) xs ys h =
    ap (λ v. compressed v (block (xs ++ ys) n)) (hashed_front n xs ys (omega arith)) ∙ ap (compressed (hashed n xs)) (block_front xs ys n (omega arith))

module _ (bytes piece : List ℕ) where
  pub counted_more : (c d k : ℕ) → c ≡ length bytes % 2 ^ 64 → k ≡ length piece → d ≡ (c + k) % 2 ^ 64 → d ≡ length (bytes ++ piece) % 2 ^ 64
  counted_more c d k e f g = let l = length-append bytes piece in omega arith

  -- The bytes left over, with the piece behind them.
  left_over : drop (64 * (length bytes / 64)) bytes ++ piece ≡ drop (64 * (length bytes / 64)) (bytes ++ piece)
  left_over = sym (drop-append-le (64 * (length bytes / 64)) bytes piece (omega arith))

  module _ (fits : length bytes % 64 + length piece < 64) where
    same : length (bytes ++ piece) / 64 ≡ length bytes / 64
    same = let l = length-append bytes piece in omega arith

    pub chained_open : (v : Eight) → v ≡ hashed (length bytes / 64) bytes → v ≡ hashed (length (bytes ++ piece) / 64) (bytes ++ piece)
    chained_open v e =
        e ∙ sym (hashed_front (length bytes / 64) bytes piece (omega arith)) ∙ ap (λ n. hashed n (bytes ++ piece)) (sym same)

    pub held_open : (b : List ℕ) (n : ℕ) → n ≡ length bytes % 64 + length piece → take n b ≡ drop (64 * (length bytes / 64)) bytes ++ piece
        → take (length (bytes ++ piece) % 64) b ≡ drop (64 * (length (bytes ++ piece) / 64)) (bytes ++ piece)
    held_open b n en e =
        let l = length-append bytes piece in
        let m : length (bytes ++ piece) % 64 ≡ n = omega arith in
        ap (λ i. take i b) m ∙ e ∙ left_over ∙ ap (λ i. drop (64 * i) (bytes ++ piece)) (sym same)

  module _ (full : length bytes % 64 + length piece ≡ 64) where
    next : length (bytes ++ piece) / 64 ≡ suc (length bytes / 64)
    next = let l = length-append bytes piece in omega arith

    pub chained_full : (v w : Eight) (b : List ℕ) → v ≡ hashed (length bytes / 64) bytes → b ≡ drop (64 * (length bytes / 64)) bytes ++ piece → w ≡ compressed v b
        → w ≡ hashed (length (bytes ++ piece) / 64) (bytes ++ piece)
    unfolding hashed
    chained_full v w b ev eb ew =
        let q : ℕ = length bytes / 64 in
        let l = length-append bytes piece in
        let d = length-drop (64 * q) (bytes ++ piece) in
        let whole : block (bytes ++ piece) q ≡ drop (64 * q) (bytes ++ piece) = take_all 64 (drop (64 * q) (bytes ++ piece)) (omega arith) in
        ew
        ∙ ap (λ x. compressed x b) (ev ∙ sym (hashed_front q bytes piece (omega arith)))
        ∙ ap (compressed (hashed q (bytes ++ piece))) (eb ∙ left_over ∙ sym whole)
        ∙ ap (λ n. hashed n (bytes ++ piece)) (sym next)

    pub held_full : (b : List ℕ) → take (length (bytes ++ piece) % 64) b ≡ drop (64 * (length (bytes ++ piece) / 64)) (bytes ++ piece)
    held_full b =
        let l = length-append bytes piece in
        let z : length (bytes ++ piece) % 64 ≡ 0 = omega arith in
        ap (λ i. take i b) z ∙ sym (drop_all (64 * (length (bytes ++ piece) / 64)) (bytes ++ piece) (omega arith))

-- The words and the bytes left over, once the piece is copied behind the h bytes that the block b held.
abbrev pub GoesOn : List ℕ → Eight → List ℕ → Type 0
GoesOn bytes v b = (v ≡ hashed (length bytes / 64) bytes) × (take (length bytes % 64) b ≡ drop (64 * (length bytes / 64)) bytes)

module _ (bytes piece b copy : List ℕ) (v w : Eight) (h m : ℕ) (eh : h ≡ length bytes % 64) (room : h + length piece ≤ 64) (long : length b ≡ 64) (em : m ≡ length piece) (ec : copy ≡ piece) (was : GoesOn bytes v b)
    (ew : w ≡ cond (eqb (h + length piece) 64) (compressed v (put_mid h m b copy)) v) where
  -- The front of the block is the bytes left over and the piece.
  front : take (h + length piece) (put_mid h m b copy) ≡ drop (64 * (length bytes / 64)) bytes ++ piece
  front =
      let l : length copy ≡ length piece = ap length ec in
      take-put_mid h m b copy (h + length piece) (omega arith) (omega arith)
      ∙ ap (λ i. take i b ++ copy) eh
      ∙ ap (λ y. y ++ copy) was.1
      ∙ ap (λ y. drop (64 * (length bytes / 64)) bytes ++ y) ec

  when_full : h + length piece ≡ 64 → GoesOn (bytes ++ piece) w (put_mid h m b copy)
  when_full full =
      let l : length copy ≡ length piece = ap length ec in
      let f : length bytes % 64 + length piece ≡ 64 = omega arith in
      let all : length (put_mid h m b copy) ≤ h + length piece = simp (length-append, length-take, length-drop) (omega arith) in (
        chained_full bytes piece f v w (put_mid h m b copy) was.0 (sym (take_all (h + length piece) (put_mid h m b copy) all) ∙ front) (ew ∙ cond-true (eqb (h + length piece) 64) _ _ (eq-eqb _ _ full)),
        held_full bytes piece f (put_mid h m b copy),
      )

  when_open : (h + length piece ≡ 64 → ⊥) → GoesOn (bytes ++ piece) w (put_mid h m b copy)
  when_open open' =
      let f : length bytes % 64 + length piece < 64 = omega arith in (
        ew ∙ cond-false (eqb (h + length piece) 64) _ _ (ne_eqb _ _ open') ∙ chained_open bytes piece f v was.0,
        held_open bytes piece f (put_mid h m b copy) (h + length piece) (omega arith) front,
      )

  pub goes_on : GoesOn (bytes ++ piece) w (put_mid h m b copy)
  goes_on = ⊎_elim when_full when_open (cases_eq (h + length piece) 64)
