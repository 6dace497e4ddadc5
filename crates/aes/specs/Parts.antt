-- Parts of four of a list, and the words behind a list of bytes.
use Rattle.std.specs.Prelude.{◌≡◌, ℕ, zero, suc, ◌+◌, ◌*◌, ◌≤◌, List, [], ◌∷◌, ◌++◌, length, take, drop, slice_index, refl}
use Rattle.std.proofs.Common.{ap, sym, ◌∙◌, arith, length-drop, take-append-drop}
use borrow.Rule.Slice.PartMut.{put_mid, post_of}
use Rattle.std.proofs.lemmas.List.{drop_more, drop-drop, take_all, append-nil, append_assoc, nil_from_length}
use Rattle.byte_lists.specs.Bytes.{Bytes}
use Rattle.byte_lists.specs.Numbers.{octets}
use Rattle.byte_lists.proofs.Digits.{bytes_octets}
use Rattle.byte_lists.proofs.Facts.{bytes_none, bytes_append}
use Rattle.aes.specs.Words.{bytes_of}

-- The four entries from i.
pub taken_four : (xs : List ℕ) (i : ℕ) → i + 4 ≤ length xs → take 4 (drop i xs) ≡ slice_index xs i ∷ slice_index xs (i + 1) ∷ slice_index xs (i + 2) ∷ slice_index xs (i + 3) ∷ []
taken_four xs i h =
    let p = drop_more xs i 0 (omega arith) in
    let q = drop_more xs (i + 1) 0 (omega arith) in
    let r = drop_more xs (i + 2) 0 (omega arith) in
    let s = drop_more xs (i + 3) 0 (omega arith) in
    let two : i + 1 + 1 ≡ i + 2 = omega arith in
    let three : i + 2 + 1 ≡ i + 3 = omega arith in
    let whole : drop i xs ≡ slice_index xs i ∷ slice_index xs (i + 1) ∷ slice_index xs (i + 2) ∷ slice_index xs (i + 3) ∷ drop (i + 3 + 1) xs = cc in
    ap (take 4) whole

-- A block of 16 is its four parts.
pub quarters : (b : List ℕ) → length b ≡ 16 → take 4 (drop 0 b) ++ (take 4 (drop 4 b) ++ (take 4 (drop 8 b) ++ (take 4 (drop 12 b) ++ []))) ≡ b
quarters b h =
    let last : take 4 (drop 12 b) ++ [] ≡ drop 12 b = append-nil (take 4 (drop 12 b)) ∙ take_all 4 (drop 12 b) (let l = length-drop 12 b in omega arith) in
    let third : take 4 (drop 8 b) ++ drop 12 b ≡ drop 8 b = ap (λ y. take 4 (drop 8 b) ++ y) (sym (drop-drop 4 8 b)) ∙ take-append-drop 4 (drop 8 b) in
    let second : take 4 (drop 4 b) ++ drop 8 b ≡ drop 4 b = ap (λ y. take 4 (drop 4 b) ++ y) (sym (drop-drop 4 4 b)) ∙ take-append-drop 4 (drop 4 b) in
    ap (λ y. take 4 b ++ (take 4 (drop 4 b) ++ (take 4 (drop 8 b) ++ y))) last
    ∙ ap (λ y. take 4 b ++ (take 4 (drop 4 b) ++ y)) third
    ∙ ap (λ y. take 4 b ++ y) second
    ∙ take-append-drop 4 b

-- A block of 16, written over in four parts.
pub written : (b x y z t : List ℕ) (s0 s1 s2 s3 : ℕ) → length b ≡ 16 → x ≡ octets 4 s0 → y ≡ octets 4 s1 → z ≡ octets 4 s2 → t ≡ octets 4 s3
    → put_mid 12 4 (put_mid 8 4 (put_mid 4 4 (x ++ post_of 0 4 b) y) z) t ≡ bytes_of (s0 ∷ s1 ∷ s2 ∷ s3 ∷ [])
unfolding octets
written b x y z t s0 s1 s2 s3 h ex ey ez et =
    let rest = drop 4 (drop 4 (drop 4 (drop 4 b))) in
    let none : rest ≡ [] = nil_from_length rest (simp length-drop (omega arith)) in
    ap (λ v. put_mid 12 4 (put_mid 8 4 (put_mid 4 4 (v ++ post_of 0 4 b) y) z) t) ex
    ∙ ap (λ v. put_mid 12 4 (put_mid 8 4 (put_mid 4 4 (octets 4 s0 ++ post_of 0 4 b) v) z) t) ey
    ∙ ap (λ v. put_mid 12 4 (put_mid 8 4 (put_mid 4 4 (octets 4 s0 ++ post_of 0 4 b) (octets 4 s1)) v) t) ez
    ∙ ap (λ v. put_mid 12 4 (put_mid 8 4 (put_mid 4 4 (octets 4 s0 ++ post_of 0 4 b) (octets 4 s1)) (octets 4 s2)) v) et
    ∙ ap (λ v. octets 4 s0 ++ (octets 4 s1 ++ (octets 4 s2 ++ (octets 4 s3 ++ v)))) none

pub bytes_dropped : (i : ℕ) (ws : List ℕ) → i ≤ length ws → drop (4 * i) (bytes_of ws) ≡ bytes_of (drop i ws)
unfolding octets
bytes_dropped zero ws h = refl
bytes_dropped (suc i) [] h = absurd (omega arith)
bytes_dropped (suc i) (w ∷ ws) h =
    let e : 4 * suc i ≡ suc (suc (suc (suc (4 * i)))) = omega arith in
    ap (λ n. drop n (bytes_of (w ∷ ws))) e ∙ bytes_dropped i ws (omega arith)

pub bytes_taken : (i : ℕ) (ws : List ℕ) → i ≤ length ws → take (4 * i) (bytes_of ws) ≡ bytes_of (take i ws)
unfolding octets
bytes_taken zero ws h = refl
bytes_taken (suc i) [] h = absurd (omega arith)
bytes_taken (suc i) (w ∷ ws) h =
    let e : 4 * suc i ≡ suc (suc (suc (suc (4 * i)))) = omega arith in
    let ih = bytes_taken i ws (omega arith) in
    ap (λ n. take n (bytes_of (w ∷ ws))) e ∙ ap (λ y. octets 4 w ++ y) ih

pub bytes_joined : (vs ws : List ℕ) → bytes_of (vs ++ ws) ≡ bytes_of vs ++ bytes_of ws
bytes_joined [] ws = refl
bytes_joined (v ∷ vs) ws = ap (λ y. octets 4 v ++ y) (bytes_joined vs ws) ∙ sym (append_assoc (octets 4 v) (bytes_of vs) (bytes_of ws))

pub bytes_of_words : (ws : List ℕ) → Bytes (bytes_of ws)
bytes_of_words [] = bytes_none
bytes_of_words (w ∷ ws) = bytes_append (octets 4 w) (bytes_of ws) (bytes_octets 4 w) (bytes_of_words ws)
