-- A rule proved at all entries of a table, or at all numbers below a bound, by one test that is computed.
use Rattle.std.proofs.Common.{◌≡◌, ℕ, zero, suc, ◌+◌, ◌<◌, Bool, true, false, T, eqb, ltb, List, [], ◌∷◌, length, get_or, sym, refl, eqb→eq, ◌∙◌, subst, ⊎_elim, le_of_suc-le-suc, not-suc-le-zero, add-zero, add-suc, suc-add, eq-or-lt_of_le, zero-add, leb→le, lt-ltb}
pub use Rattle.byte_lists.specs.Bytes.{both, small}

pub both_left : (a b : Bool) → T (both a b) → T a
both_left true b t = tt
both_left false b t = t

pub both_right : (a b : Bool) → T (both a b) → T b
both_right true b t = t
both_right false b t = absurd t

-- Whether two lists are the same.
abbrev pub same : List ℕ → List ℕ → Bool
same [] [] = true
same [] (y ∷ ys) = false
same (x ∷ xs) [] = false
same (x ∷ xs) (y ∷ ys) = both (eqb x y) (same xs ys)

pub same_is : (xs ys : List ℕ) → T (same xs ys) → xs ≡ ys
same_is [] [] t = refl
same_is [] (y ∷ ys) t = absurd t
same_is (x ∷ xs) [] t = absurd t
same_is (x ∷ xs) (y ∷ ys) t =
    let e = eqb→eq x y (both_left (eqb x y) (same xs ys) t) in
    let es = same_is xs ys (both_right (eqb x y) (same xs ys) t) in
    cc

-- The test f passes at each entry of the list and its place, counted from i.
abbrev pub every : {X : Type 0} → (ℕ → X → Bool) → ℕ → List X → Bool
every f i [] = true
every f i (x ∷ xs) = both (f i x) (every f (suc i) xs)

every_from : {X : Type 0} (f : ℕ → X → Bool) (xs : List X) (d : X) (i : ℕ) → T (every f i xs) → (k : ℕ) → k < length xs → T (f (i + k) (get_or xs k d))
every_from f [] d i t k h = absurd (not-suc-le-zero h)
every_from f (x ∷ xs) d i t zero h = subst (λ (m : ℕ). T (f m x)) (sym (add-zero i)) (both_left (f i x) (every f (suc i) xs) t)
every_from f (x ∷ xs) d i t (suc k) h =
    subst (λ (m : ℕ). T (f m (get_or xs k d))) (suc-add i k ∙ sym (add-suc i k))
    (every_from f xs d (suc i) (both_right (f i x) (every f (suc i) xs) t) k (le_of_suc-le-suc h))

-- What the test says of the entry k.
pub every_at : {X : Type 0} (f : ℕ → X → Bool) (xs : List X) (d : X) → T (every f 0 xs) → (k : ℕ) → k < length xs → T (f k (get_or xs k d))
every_at f xs d t k h = subst (λ (m : ℕ). T (f m (get_or xs k d))) (zero-add k) (every_from f xs d 0 t k h)

-- The test f passes at each number below n.
abbrev pub all_below : (ℕ → Bool) → ℕ → Bool
all_below f zero = true
all_below f (suc n) = both (f n) (all_below f n)

pub all_below_at : (f : ℕ → Bool) (n : ℕ) → T (all_below f n) → (k : ℕ) → k < n → T (f k)
all_below_at f zero t k h = absurd (not-suc-le-zero h)
all_below_at f (suc n) t k h =
    ⊎_elim (λ (e : k ≡ n). subst (λ (m : ℕ). T (f m)) (sym e) (both_left (f n) (all_below f n) t))
    (λ (l : k < n). all_below_at f n (both_right (f n) (all_below f n) t) k l)
    (eq-or-lt_of_le (le_of_suc-le-suc h))

-- Each entry of a table is below m, at every index, the ones past its end too.
pub small_at : (m : ℕ) → 0 < m → (xs : List ℕ) → T (small m xs) → (i : ℕ) → get_or xs i 0 < m
small_at m p [] t i = p
small_at m p (x ∷ xs) t zero = leb→le (suc x) m (both_left (ltb x m) (small m xs) t)
small_at m p (x ∷ xs) t (suc i) = small_at m p xs (both_right (ltb x m) (small m xs) t) i

pub small_from : (m : ℕ) (xs : List ℕ) → ((i : ℕ) → get_or xs i 0 < m) → small m xs ≡ true
small_from m [] h = refl
small_from m (x ∷ xs) h = rw (lt-ltb x m (h 0), small_from m xs (λ i. h (suc i)))
