-- The key expansion, word by word.
use Rattle.std.proofs.Common.{◌≡◌, ℕ, ◌+◌, ◌-◌, ◌<◌, ◌≤◌, eqb, List, [], ◌∷◌, ◌++◌, map, length, get_or, take, set, sym, refl, ap, ◌∙◌, add-one, arith, lit<, eqb→eq, length-take}
use lib.Bits.{bit_xor}
use Rattle.std.specs.List.{range_with_len}
use Rattle.std.proofs.lemmas.List.{drop_more, take_at, take_more_set, get_or-take, append-nil}
use Rattle.byte_lists.specs.Bytes.{xors}
use Rattle.byte_lists.specs.Numbers.{octets}
use Rattle.byte_lists.proofs.Tables.{every_at, small_at}
use Rattle.aes.specs.KeyExpansion.{word, x_power, rcon, joining, extended}
use Rattle.aes.specs.Words.{bytes_of}
use Rattle.aes.proofs.WordBytes.{octets_xor, made, octets_made}
use Rattle.aes.specs.Parts.{bytes_dropped, bytes_joined}

word_of : (ws : List ℕ) (i : ℕ) → i < length ws → word (bytes_of ws) i ≡ octets 4 (get_or ws i 0)
unfolding octets
word_of ws i h = ap (take 4) (bytes_dropped i ws (omega arith) ∙ ap bytes_of (drop_more ws i 0 h))

word_taken : (ws : List ℕ) (n i : ℕ) → i < n → n ≤ length ws → word (bytes_of (take n ws)) i ≡ octets 4 (get_or ws i 0)
word_taken ws n i h g = word_of (take n ws) i (simp length-take (omega arith)) ∙ ap (octets 4) (get_or-take n ws i 0 h)

extended_none : (key : List ℕ) → key ≡ extended key 0
unfolding extended
extended_none key = refl

pub extended_more : (key ws : List ℕ) (n j : ℕ) → n + 4 < length ws → octets 4 j ≡ joining (n + 4) (octets 4 (get_or ws (n + 3) 0)) → bytes_of (take (n + 4) ws) ≡ extended key n
    → bytes_of (take (n + 1 + 4) (set ws (n + 4) (bit_xor (get_or ws n 0) j))) ≡ extended key (n + 1)
unfolding extended
extended_more key ws n j h e was =
    let v : ℕ = bit_xor (get_or ws n 0) j in
    let w : List ℕ = bytes_of (take (n + 4) ws) in
    let m : n + 1 + 4 ≡ n + 4 + 1 = omega arith in
    let old : word w n ≡ octets 4 (get_or ws n 0) = word_taken ws (n + 4) n (omega arith) (omega arith) in
    let before : word w (n + 3) ≡ octets 4 (get_or ws (n + 3) 0) = word_taken ws (n + 4) (n + 3) (omega arith) (omega arith) in
    let new : octets 4 v ≡ xors (word w n) (joining (n + 4) (word w (n + 3))) =
    octets_xor (get_or ws n 0) j ∙ ap (λ y. xors y (octets 4 j)) (sym old) ∙ ap (xors (word w n)) (e ∙ ap (joining (n + 4)) (sym before)) in
    ap (λ k. bytes_of (take k (set ws (n + 4) v))) m
    ∙ ap bytes_of (take_more_set ws (n + 4) v h)
    ∙ bytes_joined (take (n + 4) ws) (v ∷ [])
    ∙ ap (λ y. w ++ y) (append-nil (octets 4 v) ∙ new)
    ∙ ap (λ y. y ++ xors (word y n) (joining (n + 4) (word y (n + 3)))) was
    ∙ ap (extended key) (sym (add-one n))

-- The constants: the code's table is this one, number for number.
abbrev x_powers : List ℕ
x_powers = map x_power (range_with_len 0 10)

-- Each entry, by one test of the table.
x_powers_at : (k : ℕ) → k < 10 → get_or x_powers k 0 ≡ x_power k
x_powers_at k h = eqb→eq _ _ (every_at (λ j x. eqb x (x_power j)) x_powers 0 tt k h)

pub constant_made : (r x : ℕ) → 1 ≤ r → r ≤ 10 → x ≡ made (get_or x_powers (r - 1) 0) 0 0 0 → octets 4 x ≡ rcon r
constant_made r x lo hi e =
    octets_made x (get_or x_powers (r - 1) 0) 0 0 0 e (small_at 256 (lit< tt) x_powers tt (r - 1)) (lit< tt) (lit< tt) (lit< tt)
    ∙ ap (λ y. y ∷ 0 ∷ 0 ∷ 0 ∷ []) (x_powers_at (r - 1) (omega arith))

-- The first four words are the key.
pub key_words : (key ws rest s : List ℕ) → ws ≡ s → length s ≡ 4 → bytes_of s ≡ key → bytes_of (take 4 (ws ++ rest)) ≡ extended key 0
key_words key ws rest s e h m = ap (λ y. bytes_of (take 4 (y ++ rest))) e ∙ ap bytes_of (take_at s rest 4 h) ∙ m ∙ extended_none key
