-- A loop that writes a chain of blocks: its state, and its steps.
use Rattle.std.proofs.Common.{◌≡◌, ℕ, zero, suc, ◌+◌, ◌-◌, ◌*◌, ◌/◌, ◌%◌, ◌<◌, ◌≤◌, ◌⊎◌, List, [], ◌∷◌, ◌++◌, length, take, drop, replicate, sym, refl, ap, ◌∙◌, subst, inl, inr, suc-mul, div-add-mod', zero-mul, arith, length-append, length-drop, length-take}
use borrow.Rule.Slice.PartMut.{put_mid}
use Rattle.std.proofs.lemmas.List.{take_at, take_all, drop_all, drop-drop, append_assoc, append-nil}
use Rattle.std.proofs.lemmas.Slice.{take-put_mid, drop-put_mid}
use Rattle.cipher.specs.Cbc.{chained}

abbrev pub zeros : List ℕ
zeros = 0 ∷ 0 ∷ 0 ∷ 0 ∷ 0 ∷ 0 ∷ 0 ∷ 0 ∷ 0 ∷ 0 ∷ 0 ∷ 0 ∷ 0 ∷ 0 ∷ 0 ∷ 0 ∷ []

-- From i on whole blocks are left, and wherever P holds of F and G, chaining them gives the target t.
pub record Going (n : ℕ) (P : (F G : List ℕ → List ℕ → List ℕ) → Type 0) (t : (F G : List ℕ → List ℕ → List ℕ) → List ℕ) (buf before : List ℕ) (i : ℕ) : Type 0 where
  pub blocks : ℕ
  pub fills : i + blocks * n ≡ length buf
  pub long : length before ≡ 16
  pub gives : (F G : List ℕ → List ℕ → List ℕ) → P F G → take i buf ++ chained n F G blocks (take n before) (drop i buf) ≡ t F G

none : (n : ℕ) → (n ≡ 8) ⊎ (n ≡ 16) → take n zeros ≡ replicate n 0
none n (inl e) = let P : ℕ → Type 0 = λ m. take m zeros ≡ replicate m 0 in subst P (sym e) refl
none n (inr e) = let P : ℕ → Type 0 = λ m. take m zeros ≡ replicate m 0 in subst P (sym e) refl

-- The whole chain.
abbrev pub whole : ℕ → List ℕ → (F G : List ℕ → List ℕ → List ℕ) → List ℕ
whole n text F G = chained n F G (length text / n) (replicate n 0) text

pub start : (n : ℕ) (P : (F G : List ℕ → List ℕ → List ℕ) → Type 0) (text : List ℕ) → (n ≡ 8) ⊎ (n ≡ 16) → length text % n ≡ 0
    → Going n P (whole n text) text zeros 0
start n P text s e = record {
  blocks = length text / n;
  fills = omega (arith, div-add-mod' (length text) n);
  long = refl;
  gives = λ F G p. ap (λ b. chained n F G (length text / n) b text) (none n s);
}

-- k is n, as the code writes it
module _ (n k : ℕ) (P : (F G : List ℕ → List ℕ → List ℕ) → Type 0) (t : (F G : List ℕ → List ℕ → List ℕ) → List ℕ) (buf before block next : List ℕ) (i : ℕ) (ek : k ≡ n) (small : n ≤ 16) (el : length block ≡ n) (ln : length next ≡ n)
    (acts : (F G : List ℕ → List ℕ → List ℕ) → P F G → (block ≡ F (take n before) (take k (drop i buf))) × (next ≡ G (take n before) (take k (drop i buf)))) where
  step : (m : ℕ) → i + suc m * n ≡ length buf → length before ≡ 16
      → ((F G : List ℕ → List ℕ → List ℕ) → P F G → take i buf ++ chained n F G (suc m) (take n before) (drop i buf) ≡ t F G)
      → Going n P t (put_mid i k buf block) (next ++ drop n before) (i + n)
  unfolding chained
  step m fills long gives =
      let f : (i + n) + m * n ≡ length buf = omega (arith, suc-mul m n) in
      let il : i ≤ length buf = omega arith in
      let front : take (i + n) (put_mid i k buf block) ≡ take i buf ++ block = take-put_mid i k buf block (i + n) (omega arith) il in
      let rest : drop (i + n) (put_mid i k buf block) ≡ drop n (drop i buf) = drop-put_mid i k buf block (i + n) (omega arith) il (omega arith) ∙ sym (drop-drop n i buf) in
      record {
        blocks = m;
        fills = f ∙ sym (simp (length-append, length-take, length-drop) (omega arith));
        long = simp (length-append, length-drop) (omega arith);
        gives = λ F G p.
            let did : (block ≡ F (take n before) (take k (drop i buf))) × (next ≡ G (take n before) (take k (drop i buf))) = acts F G p in
            let q : List ℕ = G (take n before) (take n (drop i buf)) in
            let made : block ≡ F (take n before) (take n (drop i buf)) = did.0 ∙ ap (λ a. F (take n before) (take a (drop i buf))) ek in
            let prev : take n (next ++ drop n before) ≡ q = take_at next (drop n before) n ln ∙ did.1 ∙ ap (λ a. G (take n before) (take a (drop i buf))) ek in
            ap (λ a. a ++ chained n F G m (take n (next ++ drop n before)) (drop (i + n) (put_mid i k buf block))) front
            ∙ ap (λ a. (take i buf ++ block) ++ chained n F G m a (drop (i + n) (put_mid i k buf block))) prev
            ∙ ap (λ a. (take i buf ++ block) ++ chained n F G m q a) rest
            ∙ append_assoc (take i buf) block (chained n F G m q (drop n (drop i buf)))
            ∙ ap (λ b. take i buf ++ (b ++ chained n F G m q (drop n (drop i buf)))) made
            ∙ gives F G p;
      }

  by_count : (m : ℕ) → i < length buf → i + m * n ≡ length buf → length before ≡ 16
      → ((F G : List ℕ → List ℕ → List ℕ) → P F G → take i buf ++ chained n F G m (take n before) (drop i buf) ≡ t F G)
      → Going n P t (put_mid i k buf block) (next ++ drop n before) (i + n)
  by_count zero lt fills long gives = absurd (omega (arith, zero-mul n))
  by_count (suc m) lt fills long gives = step m fills long gives

left_none : (n m i l : ℕ) → (n ≡ 8) ⊎ (n ≡ 16) → i + m * n ≡ l → l ≤ i → m ≡ 0
left_none n zero i l s e h = refl
left_none n (suc m) i l (inl s) e h = absurd (omega (arith, suc-mul m n))
left_none n (suc m) i l (inr s) e h = absurd (omega (arith, suc-mul m n))

pub done : (n : ℕ) (P : (F G : List ℕ → List ℕ → List ℕ) → Type 0) (t : (F G : List ℕ → List ℕ → List ℕ) → List ℕ) (buf before : List ℕ) (i : ℕ) → (n ≡ 8) ⊎ (n ≡ 16) → Going n P t buf before i → length buf ≤ i
    → (F G : List ℕ → List ℕ → List ℕ) → P F G → buf ≡ t F G
unfolding chained
done n P t buf before i s w h F G p =
    let z : w.blocks ≡ 0 = left_none n w.blocks i (length buf) s w.fills h in
    let g : take i buf ++ chained n F G 0 (take n before) (drop i buf) ≡ t F G =
    ap (λ m. take i buf ++ chained n F G m (take n before) (drop i buf)) (sym z) ∙ w.gives F G p in
    sym (ap (λ a. a ++ drop i buf) (take_all i buf h) ∙ ap (λ a. buf ++ a) (drop_all i buf h) ∙ append-nil buf) ∙ g

-- a whole block is left
pub room : (n : ℕ) (P : (F G : List ℕ → List ℕ → List ℕ) → Type 0) (t : (F G : List ℕ → List ℕ → List ℕ) → List ℕ) (buf before : List ℕ) (i : ℕ) → Going n P t buf before i → i < length buf → i + n ≤ length buf
room n P t buf before i w lt = from_count w.blocks w.fills
  where
    from_count : (m : ℕ) → i + m * n ≡ length buf → i + n ≤ length buf
    from_count zero e = absurd (omega (arith, zero-mul n))
    from_count (suc m) e = omega (arith, suc-mul m n)

pub at_most : (n : ℕ) → (n ≡ 8) ⊎ (n ≡ 16) → n ≤ 16
at_most n (inl e) = omega arith
at_most n (inr e) = omega arith

-- One more block is done: as the code writes it, where the step keeps the lengths of what it is given.
pub more : (n : ℕ) (P : (F G : List ℕ → List ℕ → List ℕ) → Type 0) (t : (F G : List ℕ → List ℕ → List ℕ) → List ℕ) (buf before block next : List ℕ) (i : ℕ) → (n ≡ 8) ⊎ (n ≡ 16) → Going n P t buf before i → i < length buf
    → length block ≡ length (take (i + n - i) (drop i buf)) → length next ≡ length (take n before)
    → ((F G : List ℕ → List ℕ → List ℕ) → P F G → (block ≡ F (take n before) (take (i + n - i) (drop i buf))) × (next ≡ G (take n before) (take (i + n - i) (drop i buf))))
    → Going n P t (put_mid i (i + n - i) buf block) (next ++ drop n before) (i + n)
more n P t buf before block next i s w lt el ln acts =
    let small : n ≤ 16 = at_most n s in
    let fits : i + n ≤ length buf = room n P t buf before i w lt in
    let bl : length before ≡ 16 = w.long in
    let ek : i + n - i ≡ n = omega arith in
    let long : length (take (i + n - i) (drop i buf)) ≡ n = simp (length-take, length-drop) (omega arith) in
    let wide : length (take n before) ≡ n = simp length-take (omega arith) in
    by_count n (i + n - i) P t buf before block next i ek small (el ∙ long) (ln ∙ wide) acts w.blocks lt w.fills w.long w.gives
