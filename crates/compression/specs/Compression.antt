-- The compression of SHA-256: one block of 64 bytes into eight words (FIPS 180-2, 6.2.2).
use Rattle.std.specs.Prelude.{ℕ, zero, suc, ◌+◌, ◌-◌, ◌*◌, List, [], ◌∷◌, ◌++◌, slice_index}
use Rattle.std.specs.List.{fold, zip}
use Rattle.compression.specs.declared.letters.Eight.{Eight}
use Rattle.compression.specs.Words.{plus, ch, maj, Σ0, Σ1, σ0, σ1}
use Rattle.compression.specs.Constants.{constants, beginnings}

-- The word t of a block: four bytes, the highest first.
abbrev pub word : List ℕ → ℕ → ℕ
word b t = slice_index b (4 * t) * 16777216 + slice_index b (4 * t + 1) * 65536 + slice_index b (4 * t + 2) * 256 + slice_index b (4 * t + 3)

-- The first n words of a block.
unfoldable pub words : ℕ → List ℕ → List ℕ
words zero b = []
words (suc n) b = words n b ++ word b n ∷ []

-- The word t of the schedule from those before it: σ1(W[t-2]) + W[t-7] + σ0(W[t-15]) + W[t-16].
abbrev pub scheduled : List ℕ → ℕ → ℕ
scheduled w t = plus (plus (plus (σ1 (slice_index w (t - 2))) (slice_index w (t - 7))) (σ0 (slice_index w (t - 15)))) (slice_index w (t - 16))

-- The first sixteen words, and n more behind them.
unfoldable pub extended : ℕ → List ℕ → List ℕ
extended zero ws = ws
extended (suc n) ws = let w = extended n ws in w ++ scheduled w (n + 16) ∷ []

-- The 64 words of the schedule.
abbrev pub schedule : List ℕ → List ℕ
schedule b = extended 48 (words 16 b)

-- T1 = h + Σ1(e) + Ch(e, f, g) + K[t] + W[t]
abbrev pub first_sum : ℕ → ℕ → Eight → ℕ
first_sum k w v = plus (plus (plus (plus v.h (Σ1 v.e)) (ch v.e v.f v.g)) k) w

-- T2 = Σ0(a) + Maj(a, b, c)
abbrev pub second_sum : Eight → ℕ
second_sum v = plus (Σ0 v.a) (maj v.a v.b v.c)

-- One round with its constant k and its word w: each letter takes the one before it, e gains T1, and a is T1 + T2.
unfoldable pub round_of : ℕ → ℕ → Eight → Eight
round_of k w v = record { a = plus (first_sum k w v) (second_sum v); b = v.a; c = v.b; d = v.c; e = plus v.d (first_sum k w v); f = v.e; g = v.f; h = v.g }

-- The first n rounds with the constants ks and the words ws.
unfoldable pub rounds_with : ℕ → List ℕ → List ℕ → Eight → Eight
rounds_with zero ks ws v = v
rounds_with (suc t) ks ws v = round_of (slice_index ks t) (slice_index ws t) (rounds_with t ks ws v)

-- The rounds with these constants and these words, from the front.
abbrev pub rounds_by : List ℕ → List ℕ → Eight → Eight
rounds_by ks ws v = fold (λ x p. round_of p.0 p.1 x) v (zip ks ws)

-- The first n rounds over the schedule w.
unfoldable pub rounds : ℕ → List ℕ → Eight → Eight
rounds zero w v = v
rounds (suc t) w v = round_of (slice_index constants t) (slice_index w t) (rounds t w v)

-- The sums of the eight words with those of the other.
unfoldable pub sums : Eight → Eight → Eight
sums u v = record { a = plus u.a v.a; b = plus u.b v.b; c = plus u.c v.c; d = plus u.d v.d; e = plus u.e v.e; f = plus u.f v.f; g = plus u.g v.g; h = plus u.h v.h }

-- The eight words after one more block.
unfoldable pub compressed : Eight → List ℕ → Eight
compressed v b = sums v (rounds 64 (schedule b) v)

-- The eight words in their order.
abbrev pub in_order : Eight → List ℕ
in_order v = v.a ∷ v.b ∷ v.c ∷ v.d ∷ v.e ∷ v.f ∷ v.g ∷ v.h ∷ []

-- The eight words that a digest begins from.
unfoldable pub initial : Eight
initial = record { a = slice_index beginnings 0; b = slice_index beginnings 1; c = slice_index beginnings 2; d = slice_index beginnings 3; e = slice_index beginnings 4; f = slice_index beginnings 5; g = slice_index beginnings 6; h = slice_index beginnings 7 }
