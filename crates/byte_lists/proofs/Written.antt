-- Lists written over others: by a loop from the front, and part by part.
use Rattle.std.proofs.Common.{◌≡◌, ℕ, ◌+◌, ◌<◌, ◌≤◌, List, [], ◌∷◌, ◌++◌, length, get_or, take, drop, set, sym, ap, ◌∙◌, arith, length-append}
use Rattle.std.proofs.lemmas.List.{drop_more, take_more, set_at, get_or_at, length-take-le, take_all, take_at, drop_all, drop_at, drop-drop, append_assoc, append-nil}

-- A loop that writes xs over ys: its state after i turns.
abbrev pub over : {X : Type 0} → List X → List X → ℕ → List X
over xs ys i = take i xs ++ drop i ys

pub over_more : {X : Type 0} (xs ys : List X) (i : ℕ) (d : X) → length xs ≡ length ys → i < length xs → set (over xs ys i) i (get_or xs i d) ≡ over xs ys (i + 1)
over_more xs ys i d e h =
    let g : i < length ys = omega arith in
    let n : i ≤ length xs = omega arith in
    ap (λ zs. set (take i xs ++ zs) i (get_or xs i d)) (drop_more ys i d g)
    ∙ set_at (take i xs) (get_or ys i d) (drop (i + 1) ys) (get_or xs i d) i (length-take-le i xs n)
    ∙ sym (ap (λ zs. zs ++ drop (i + 1) ys) (take_more xs i d h) ∙ append_assoc (take i xs) (get_or xs i d ∷ []) (drop (i + 1) ys))

pub over_read : {X : Type 0} (xs ys : List X) (i : ℕ) (d : X) → length xs ≡ length ys → i < length xs → get_or (over xs ys i) i d ≡ get_or ys i d
over_read xs ys i d e h =
    let g : i < length ys = omega arith in
    let n : i ≤ length xs = omega arith in
    ap (λ zs. get_or (take i xs ++ zs) i d) (drop_more ys i d g) ∙ get_or_at (take i xs) (get_or ys i d) (drop (i + 1) ys) d i (length-take-le i xs n)

pub over_all : {X : Type 0} (xs ys : List X) (i : ℕ) → length xs ≡ length ys → length xs ≤ i → over xs ys i ≡ xs
over_all xs ys i e h =
    let g : length ys ≤ i = omega arith in
    ap (λ zs. zs ++ drop i ys) (take_all i xs h) ∙ ap (λ zs. xs ++ zs) (drop_all i ys g) ∙ append-nil xs

-- A buffer that held orig begins with xs, and ys is put behind them.
pub put_more : {X : Type 0} (orig xs ys out after : List X) (at : ℕ) → at ≡ length xs → out ≡ xs ++ drop (length xs) orig
    → after ≡ take at out ++ (ys ++ drop (at + length ys) out) → after ≡ (xs ++ ys) ++ drop (length (xs ++ ys)) orig
put_more orig xs ys out after at e was is =
    let t : take at out ≡ xs = ap (take at) was ∙ take_at xs (drop (length xs) orig) at (sym e) in
    let d : drop (at + length ys) out ≡ drop (length (xs ++ ys)) orig =
    sym (drop-drop (length ys) at out)
    ∙ ap (λ zs. drop (length ys) (drop at zs)) was
    ∙ ap (drop (length ys)) (drop_at xs (drop (length xs) orig) at (sym e))
    ∙ drop-drop (length ys) (length xs) orig
    ∙ ap (λ n. drop n orig) (sym (length-append xs ys)) in
    is ∙ ap (λ zs. zs ++ (ys ++ drop (at + length ys) out)) t ∙ ap (λ zs. xs ++ (ys ++ zs)) d ∙ sym (append_assoc xs ys (drop (length (xs ++ ys)) orig))
