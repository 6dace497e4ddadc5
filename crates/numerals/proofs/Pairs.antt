-- Pairs of hexadecimal digits: one after another, and how many there are.
use Rattle.std.proofs.Common.{◌≡◌, ℕ, suc, ◌+◌, ◌*◌, ◌/◌, ◌<◌, ◌≤◌, ◌&&◌, leb, List, [], ◌∷◌, ◌++◌, length, get_or, take, drop, set, Some, None, Option, sym, refl, ap, ◌∙◌, ⊎_elim, le_refl, arith}
use Rattle.std.proofs.lemmas.List.{drop_more, drop_all, take_more_set, take_all, append_assoc, append-nil}
use Rattle.std.proofs.lemmas.Bool.{and_from, and_left, and_right, le-leb, lt-leb, cases_lt, cases_eq, cond-true, cond-false}
use Rattle.numerals.specs.Hexadecimal.{digit, pair, unhex, sized}

-- What is read already, and what is still to be read.
abbrev pub behind : List ℕ → Option (List ℕ) → Option (List ℕ)
behind done None = None
behind done (Some rest) = Some (done ++ rest)

-- The pair at i.
at_pair : (cs : List ℕ) (i : ℕ) → 2 * i + 1 < length cs → drop (2 * i) cs ≡ get_or cs (2 * i) 0 ∷ get_or cs (2 * i + 1) 0 ∷ drop (2 * (i + 1)) cs
at_pair cs i h =
    let g : 2 * i < length cs = omega arith in
    let e : 2 * i + 1 + 1 ≡ 2 * (i + 1) = omega arith in
    drop_more cs (2 * i) 0 g
    ∙ ap (λ rest. get_or cs (2 * i) 0 ∷ rest) (drop_more cs (2 * i + 1) 0 h ∙ ap (λ k. get_or cs (2 * i + 1) 0 ∷ drop k cs) e)

read_pair : (cs : List ℕ) (i : ℕ) → 2 * i + 1 < length cs → unhex (drop (2 * i) cs) ≡ pair (digit (get_or cs (2 * i) 0)) (digit (get_or cs (2 * i + 1) 0)) (unhex (drop (2 * (i + 1)) cs))
read_pair cs i h = ap unhex (at_pair cs i h)

-- A turn of the loop at i, which stops at either digit or goes on.
pub stops_high : (cs : List ℕ) (i : ℕ) → 2 * i + 1 < length cs → None ≡ digit (get_or cs (2 * i) 0) → unhex (drop (2 * i) cs) ≡ None
stops_high cs i h e = read_pair cs i h ∙ ap (λ a. pair a (digit (get_or cs (2 * i + 1) 0)) (unhex (drop (2 * (i + 1)) cs))) (sym e)

pub stops_low : (cs : List ℕ) (i a : ℕ) → 2 * i + 1 < length cs → Some a ≡ digit (get_or cs (2 * i) 0) → None ≡ digit (get_or cs (2 * i + 1) 0) → unhex (drop (2 * i) cs) ≡ None
stops_low cs i a h e f =
    read_pair cs i h
    ∙ ap (λ x. pair x (digit (get_or cs (2 * i + 1) 0)) (unhex (drop (2 * (i + 1)) cs))) (sym e)
    ∙ ap (λ y. pair (Some a) y (unhex (drop (2 * (i + 1)) cs))) (sym f)

one_more : (bytes : List ℕ) (i a b : ℕ) (rest : Option (List ℕ)) → i < length bytes → behind (take i bytes) (pair (Some a) (Some b) rest) ≡ behind (take (i + 1) (set bytes i (16 * a + b))) rest
one_more bytes i a b None h = refl
one_more bytes i a b (Some ys) h =
    ap Some (sym (ap (λ xs. xs ++ ys) (take_more_set bytes i (16 * a + b) h) ∙ append_assoc (take i bytes) ((16 * a + b) ∷ []) ys))

pub goes_on : (cs bytes : List ℕ) (i a b : ℕ) → 2 * i + 1 < length cs → i < length bytes → Some a ≡ digit (get_or cs (2 * i) 0) → Some b ≡ digit (get_or cs (2 * i + 1) 0)
    → behind (take i bytes) (unhex (drop (2 * i) cs)) ≡ behind (take (i + 1) (set bytes i (16 * a + b))) (unhex (drop (2 * (i + 1)) cs))
goes_on cs bytes i a b h g e f =
    ap (behind (take i bytes))
    (read_pair cs i h
    ∙ ap (λ x. pair x (digit (get_or cs (2 * i + 1) 0)) (unhex (drop (2 * (i + 1)) cs))) (sym e)
    ∙ ap (λ y. pair (Some a) y (unhex (drop (2 * (i + 1)) cs))) (sym f))
    ∙ one_more bytes i a b (unhex (drop (2 * (i + 1)) cs)) g

pair_length : (x y : Option ℕ) (rest : Option (List ℕ)) (n : ℕ) (bs : List ℕ) → ((ys : List ℕ) → rest ≡ Some ys → n ≡ 2 * length ys) → pair x y rest ≡ Some bs → suc (suc n) ≡ 2 * length bs
pair_length (Some a) (Some b) (Some ys) n bs h e =
    let f : (16 * a + b) ∷ ys ≡ bs = cc in
    omega (arith, h ys refl, ap length f)
pair_length (Some a) (Some b) None n bs h e = let z : ◌≡◌ {A = ℕ} 0 1 = cc in omega arith
pair_length (Some a) None rest n bs h e = let z : ◌≡◌ {A = ℕ} 0 1 = cc in omega arith
pair_length None y rest n bs h e = let z : ◌≡◌ {A = ℕ} 0 1 = cc in omega arith

-- A byte has two digits.
pub length_unhex : (cs bs : List ℕ) → unhex cs ≡ Some bs → length cs ≡ 2 * length bs
length_unhex [] bs e = let f : [] ≡ bs = cc in omega (arith, ap length f)
length_unhex (a ∷ []) bs e = let z : ◌≡◌ {A = ℕ} 0 1 = cc in omega arith
length_unhex (a ∷ b ∷ cs) bs e = pair_length (digit a) (digit b) (unhex cs) (length cs) bs (length_unhex cs) e

sized_if : (low high n : ℕ) (bs : List ℕ) → low ≤ length bs → length bs ≤ high → sized low high (Some bs) ≡ Some bs
sized_if low high n bs l h = cond-true (leb low (length bs) && leb (length bs) high) (Some bs) None (and_from (leb low (length bs)) (leb (length bs) high) (le-leb low (length bs) l) (le-leb (length bs) high h))

all_of : (o : Option (List ℕ)) (low high n : ℕ) → ((bs : List ℕ) → o ≡ Some bs → n ≡ length bs) → low ≤ n → n ≤ high → sized low high o ≡ o
all_of None low high n h l m = refl
all_of (Some bs) low high n h l m = sized_if low high n bs (omega (arith, h bs refl)) (omega (arith, h bs refl))

-- So many digits as write n bytes, where n is allowed.
pub sized_all : (cs : List ℕ) (low high n : ℕ) → length cs ≡ 2 * n → low ≤ n → n ≤ high → sized low high (unhex cs) ≡ unhex cs
sized_all cs low high n e l h = all_of (unhex cs) low high n (λ bs f. omega (arith, length_unhex cs bs f)) l h

none_of : (o : Option (List ℕ)) (low high : ℕ) → ((bs : List ℕ) → o ≡ Some bs → low ≤ length bs → length bs ≤ high → ⊥) → sized low high o ≡ None
none_of None low high h = refl
none_of (Some bs) low high h =
    ⊎_elim
    (λ (g : length bs < low). cond-false (leb low (length bs) && leb (length bs) high) (Some bs) None (and_left (leb low (length bs)) (leb (length bs) high) (lt-leb low (length bs) g)))
    (λ (g : low ≤ length bs).
    ⊎_elim
    (λ (k : high < length bs). cond-false (leb low (length bs) && leb (length bs) high) (Some bs) None (and_right (leb low (length bs)) (leb (length bs) high) (lt-leb (length bs) high k)))
    (λ (k : length bs ≤ high). absurd (h bs refl g k))
    (cases_lt high (length bs)))
    (cases_lt (length bs) low)

-- Digits that write no allowed number of bytes.
pub sized_none : (cs : List ℕ) (low high : ℕ) → ((n : ℕ) → low ≤ n → n ≤ high → length cs ≡ 2 * n → ⊥) → sized low high (unhex cs) ≡ None
sized_none cs low high h = none_of (unhex cs) low high (λ bs e l g. h (length bs) l g (length_unhex cs bs e))

-- The start of the loop, and its end.
pub behind_none : (o : Option (List ℕ)) → behind [] o ≡ o
behind_none None = refl
behind_none (Some bs) = refl

pub all_filled : (cs bytes : List ℕ) (i : ℕ) → length cs ≡ 2 * length bytes → length bytes ≤ i → behind (take i bytes) (unhex (drop (2 * i) cs)) ≡ Some bytes
all_filled cs bytes i e h =
    let g : length cs ≤ 2 * i = omega arith in
    ap (λ rest. behind (take i bytes) (unhex rest)) (drop_all (2 * i) cs g) ∙ ap Some (append-nil (take i bytes) ∙ take_all i bytes h)

-- Half as many bytes as digits are the only number that they can write.
pub sized_half : (cs : List ℕ) (low high n : ℕ) → n ≡ length cs / 2 → low ≤ n → n ≤ high → sized n n (unhex cs) ≡ sized low high (unhex cs)
sized_half cs low high n e l h =
    ⊎_elim
    (λ (f : length cs ≡ 2 * n). sized_all cs n n n f (le_refl n) (le_refl n) ∙ sym (sized_all cs low high n f l h))
    (λ (f : length cs ≡ 2 * n → ⊥).
    let odd : (m : ℕ) → length cs ≡ 2 * m → ⊥ = λ m g. let k : m ≡ n = omega arith in f (omega arith) in
    sized_none cs n n (λ m _ _. odd m) ∙ sym (sized_none cs low high (λ m _ _. odd m)))
    (cases_eq (length cs) (2 * n))
