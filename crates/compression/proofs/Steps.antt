-- The words of a block and of its schedule, and the rounds over its parts of eight words.
use Rattle.std.proofs.Common.{◌≡◌, ℕ, zero, suc, ◌+◌, ◌-◌, ◌*◌, ◌<◌, ◌≤◌, List, [], ◌∷◌, ◌++◌, length, get_or, take, drop, set, sym, refl, ap, ◌∙◌, add-one, arith, length-take, length-drop}
use Rattle.std.specs.List.{fold, zip}
use Rattle.std.specs.Int.{from_be_bytes, w32}
use Rattle.std.specs.Simd.{first_chunks}
use Rattle.std.proofs.lemmas.List.{take_more_set, get_or-take, get_or-drop, drop-drop}
use Rattle.compression.specs.declared.letters.Eight.{Eight}
use Rattle.compression.specs.Constants.{constants}
use Rattle.compression.specs.Compression.{word, words, scheduled, extended, round_of, rounds_with, rounds_by, rounds}

-- The chunk i of a list.
pub chunk_at : (n k : ℕ) (xs : List ℕ) (i : ℕ) → i < k → get_or (first_chunks n k xs) i [] ≡ take n (drop (n * i) xs)
chunk_at n zero xs i h = absurd (omega arith)
chunk_at n (suc k) xs zero h = let e : n * 0 ≡ 0 = omega arith in sym (ap (λ j. take n (drop j xs)) e)
chunk_at n (suc k) xs (suc i) h =
    let e : n + n * i ≡ n * suc i = omega arith in
    chunk_at n k (drop n xs) i (omega arith) ∙ ap (take n) (drop-drop (n * i) n xs ∙ ap (λ j. drop j xs) e)

-- An element of it.
in_chunk : (n k : ℕ) (xs : List ℕ) (i j : ℕ) → i < k → j < n → get_or (get_or (first_chunks n k xs) i []) j 0 ≡ get_or xs (n * i + j) 0
in_chunk n k xs i j h l =
    ap (λ ys. get_or ys j 0) (chunk_at n k xs i h) ∙ get_or-take n (drop (n * i) xs) j 0 l ∙ get_or-drop (n * i) xs j 0

word_of : (xs b : List ℕ) (i : ℕ) → get_or xs 0 0 ≡ get_or b i 0 → get_or xs 1 0 ≡ get_or b (i + 1) 0 → get_or xs 2 0 ≡ get_or b (i + 2) 0 → get_or xs 3 0 ≡ get_or b (i + 3) 0
    → from_be_bytes w32 xs ≡ get_or b i 0 * 16777216 + get_or b (i + 1) 0 * 65536 + get_or b (i + 2) 0 * 256 + get_or b (i + 3) 0
word_of xs b i p q r s = cc

-- The four bytes of a word, as a number.
pub word_in : (b : List ℕ) (t : ℕ) → t < 16 → from_be_bytes w32 (get_or (first_chunks 4 16 b) t []) ≡ word b t
word_in b t h =
    let e : 4 * t + 0 ≡ 4 * t = omega arith in
    word_of (get_or (first_chunks 4 16 b) t []) b (4 * t) (in_chunk 4 16 b t 0 h (omega arith) ∙ ap (λ i. get_or b i 0) e) (in_chunk 4 16 b t 1 h (omega arith)) (in_chunk 4 16 b t 2 h (omega arith)) (in_chunk 4 16 b t 3 h (omega arith))

pub words_none : (w b : List ℕ) → take 0 w ≡ words 0 b
unfolding words
words_none w b = refl

pub words_more : (w b : List ℕ) (t x : ℕ) → t < length w → x ≡ word b t → take t w ≡ words t b → take (t + 1) (set w t x) ≡ words (t + 1) b
unfolding words
words_more w b t x h e was =
    take_more_set w t x h ∙ ap (λ y. y ++ x ∷ []) was ∙ ap (λ y. words t b ++ y ∷ []) e ∙ ap (λ n. words n b) (sym (add-one t))

-- The words that a new one is made of stand before it.
before : (w : List ℕ) (t k : ℕ) → 16 ≤ t → 0 < k → get_or (take t w) (t - k) 0 ≡ get_or w (t - k) 0
before w t k h p = get_or-take t w (t - k) 0 (omega arith)

scheduled_front : (w : List ℕ) (t : ℕ) → 16 ≤ t → scheduled (take t w) t ≡ scheduled w t
scheduled_front w t h = cc (before w t 2 h (omega arith), before w t 7 h (omega arith), before w t 15 h (omega arith), before w t 16 h (omega arith))

pub extended_none : (w ws : List ℕ) → take 16 w ≡ ws → take 16 w ≡ extended 0 ws
unfolding extended
extended_none w ws e = e

pub extended_more : (w ws : List ℕ) (n t x : ℕ) → t ≡ n + 16 → t < length w → x ≡ scheduled w t → take t w ≡ extended n ws → take (t + 1) (set w t x) ≡ extended (n + 1) ws
unfolding extended
extended_more w ws n t x et h e was =
    let ge : 16 ≤ t = omega arith in
    take_more_set w t x h
    ∙ ap (λ y. take t w ++ y ∷ []) (e ∙ sym (scheduled_front w t ge))
    ∙ ap (λ y. y ++ scheduled y t ∷ []) was
    ∙ ap (λ k. extended n ws ++ scheduled (extended n ws) k ∷ []) et
    ∙ ap (λ k. extended k ws) (sym (add-one n))

-- The rounds have the constants of the standard.
rounds_are : (n : ℕ) (w : List ℕ) (v : Eight) → rounds_with n constants w v ≡ rounds n w v
unfolding rounds rounds_with
rounds_are zero w v = refl
rounds_are (suc n) w v = ap (round_of (get_or constants n 0) (get_or w n 0)) (rounds_are n w v)

-- Rounds look no further than their number.
rounds_front : (n a : ℕ) (ks ws : List ℕ) (v : Eight) → n ≤ a → rounds_with n (take a ks) (take a ws) v ≡ rounds_with n ks ws v
unfolding rounds_with
rounds_front zero a ks ws v h = refl
rounds_front (suc n) a ks ws v h = cc (get_or-take a ks n 0 (omega arith), get_or-take a ws n 0 (omega arith), rounds_front n a ks ws v (omega arith))

-- The first a rounds, and b more.
rounds_add : (a b : ℕ) (ks ws : List ℕ) (v : Eight) → rounds_with b (drop a ks) (drop a ws) (rounds_with a (take a ks) (take a ws) v) ≡ rounds_with (a + b) ks ws v
unfolding rounds_with
rounds_add a zero ks ws v = let e : a + 0 ≡ a = omega arith in rounds_front a a ks ws v (omega arith) ∙ sym (ap (λ n. rounds_with n ks ws v) e)
rounds_add a (suc b) ks ws v =
    let e : a + suc b ≡ suc (a + b) = omega arith in
    let more : rounds_with (suc b) (drop a ks) (drop a ws) (rounds_with a (take a ks) (take a ws) v) ≡ rounds_with (suc (a + b)) ks ws v =
    cc (get_or-drop a ks b 0, get_or-drop a ws b 0, rounds_add a b ks ws v) in
    more ∙ sym (ap (λ n. rounds_with n ks ws v) e)

-- Rounds with the constants and the words of a part.
abbrev pub part : Eight → List ℕ × List ℕ → Eight
part v p = rounds_by p.0 p.1 v

-- The rounds from the front are the first ones by number.
by_number : (ks ws : List ℕ) (v : Eight) → length ws ≡ length ks → rounds_by ks ws v ≡ rounds_with (length ks) ks ws v
unfolding rounds_with
by_number [] ws v e = refl
by_number (k ∷ ks) [] v e = absurd (omega (arith, e))
by_number (k ∷ ks) (w ∷ ws) v e =
    let n : 1 + length ks ≡ suc (length ks) = omega arith in
    by_number ks ws (round_of k w v) (omega (arith, e)) ∙ rounds_add 1 (length ks) (k ∷ ks) (w ∷ ws) v ∙ ap (λ j. rounds_with j (k ∷ ks) (w ∷ ws) v) n

rounds_parts : (m : ℕ) (ks ws : List ℕ) (v : Eight) → length ks ≡ 8 * m → length ws ≡ 8 * m → fold part v (zip (first_chunks 8 m ks) (first_chunks 8 m ws)) ≡ rounds_with (8 * m) ks ws v
unfolding rounds_with
rounds_parts zero ks ws v ek ew = refl
rounds_parts (suc m) ks ws v ek ew =
    let e : 8 + 8 * m ≡ 8 * suc m = omega arith in
    let lk : length (take 8 ks) ≡ 8 = simp length-take (omega (arith, ek)) in
    let lw : length (take 8 ws) ≡ 8 = simp length-take (omega (arith, ew)) in
    let first : part v (take 8 ks, take 8 ws) ≡ rounds_with 8 (take 8 ks) (take 8 ws) v = by_number (take 8 ks) (take 8 ws) v (lw ∙ sym lk) ∙ ap (λ n. rounds_with n (take 8 ks) (take 8 ws) v) lk in
    rounds_parts m (drop 8 ks) (drop 8 ws) (part v (take 8 ks, take 8 ws)) (simp length-drop (omega (arith, ek))) (simp length-drop (omega (arith, ew)))
    ∙ ap (rounds_with (8 * m) (drop 8 ks) (drop 8 ws)) first ∙ rounds_add 8 (8 * m) ks ws v ∙ ap (λ n. rounds_with n ks ws v) e

-- The 64 rounds, by their parts.
pub rounds_all : (w : List ℕ) (v : Eight) → length w ≡ 64 → fold part v (zip (first_chunks 8 8 constants) (first_chunks 8 8 w)) ≡ rounds 64 w v
unfolding constants
rounds_all w v l = rounds_parts 8 constants w v refl l ∙ rounds_are 64 w v
