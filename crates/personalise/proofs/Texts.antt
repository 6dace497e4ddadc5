-- Lines written one behind the other are read again.
use Rattle.std.proofs.Common.{◌≡◌, ℕ, suc, ◌-◌, ◌<◌, Bool, true, false, cond, not, ◌&&◌, eqb, List, [], ◌∷◌, ◌++◌, length, get_or, sym, refl, ap, ◌∙◌, arith}
use Rattle.std.proofs.lemmas.Bool.{cond-false, and_parts, not-true, eqb-true, lt-ltb}
use Rattle.personalise.specs.Lines.{in_front, lines_of, ended}
use Rattle.personalise.specs.Written.{text_of}

-- No LF among these bytes.
abbrev pub unbroken : List ℕ → Bool
unbroken [] = true
unbroken (c ∷ cs) = not (eqb c 10) && unbroken cs

-- A line and its LF.
first_line : (xs rest : List ℕ) → unbroken xs ≡ true → lines_of (xs ++ (10 ∷ rest)) ≡ xs ∷ lines_of rest
first_line [] rest p = refl
first_line (x ∷ xs) rest p =
    let h = and_parts (not (eqb x 10)) (unbroken xs) p in
    let more = lines_of (xs ++ (10 ∷ rest)) in
    cond-false (eqb x 10) ([] ∷ more) (in_front x more) (not-true (eqb x 10) h.0) ∙ ap (in_front x) (first_line xs rest h.1)

-- No LF in any line.
abbrev pub AllUnbroken : List (List ℕ) → Type 0
AllUnbroken [] = Unit {0}
AllUnbroken (l ∷ ls) = (unbroken l ≡ true) × AllUnbroken ls

pub lines_text : (ls : List (List ℕ)) → AllUnbroken ls → lines_of (text_of ls) ≡ ls
lines_text [] h = refl
lines_text (l ∷ ls) h = first_line l (text_of ls) h.0 ∙ ap (λ ms. l ∷ ms) (lines_text ls h.1)

ended_is : (y : ℕ) (ys : List ℕ) → ended (y ∷ ys) ≡ eqb (get_or (y ∷ ys) (suc (length ys) - 1) 0) 10
ended_is y ys = ap (λ b. b && eqb (get_or (y ∷ ys) (suc (length ys) - 1) 0) 10) (lt-ltb 0 (suc (length ys)) (omega arith))

ended_more : (x y : ℕ) (ys : List ℕ) → ended (x ∷ y ∷ ys) ≡ ended (y ∷ ys)
ended_more x y ys =
    let e : suc (suc (length ys)) - 1 ≡ suc (suc (length ys) - 1) = omega arith in
    ended_is x (y ∷ ys) ∙ ap (λ k. eqb (get_or (x ∷ y ∷ ys) k 0) 10) e ∙ sym (ended_is y ys)

ended_behind : (xs : List ℕ) (y : ℕ) (ys : List ℕ) → ended (xs ++ (y ∷ ys)) ≡ ended (y ∷ ys)
ended_behind [] y ys = refl
ended_behind (x ∷ []) y ys = ended_more x y ys
ended_behind (x ∷ z ∷ xs) y ys = ended_more x z (xs ++ (y ∷ ys)) ∙ ended_behind (z ∷ xs) y ys

ended_by_lines : (ls : List (List ℕ)) → ended (10 ∷ text_of ls) ≡ true
ended_by_lines [] = refl
ended_by_lines (l ∷ ls) = ended_behind (10 ∷ l) 10 (text_of ls) ∙ ended_by_lines ls

pub ended_text : (l : List ℕ) (ls : List (List ℕ)) → ended (text_of (l ∷ ls)) ≡ true
ended_text l ls = ended_behind l 10 (text_of ls) ∙ ended_by_lines ls

joined : (c : ℕ) (cs : List ℕ) (ls : List (List ℕ)) (t : Bool) → eqb c 10 ≡ t → text_of ls ≡ cs → 0 < length cs → text_of (cond t ([] ∷ ls) (in_front c ls)) ≡ c ∷ cs
joined c cs ls true e f h = ap (λ x. x ∷ text_of ls) (sym (eqb-true c 10 e)) ∙ ap (λ xs. c ∷ xs) f
joined c cs [] false e f h = absurd (omega (arith, ap length f))
joined c cs (l ∷ ls) false e f h = ap (λ xs. c ∷ xs) f

-- A text that ends in LF is its lines.
pub text_lines : (text : List ℕ) → ended text ≡ true → text_of (lines_of text) ≡ text
text_lines [] e = let z : ◌≡◌ {A = ℕ} 0 1 = cc in absurd (omega arith)
text_lines (c ∷ []) e =
    let f : c ≡ 10 = eqb-true c 10 e in
    ap (λ t. text_of (cond t ([] ∷ []) [])) e ∙ ap (λ x. x ∷ []) (sym f)
text_lines (c ∷ d ∷ ds) e =
    joined c (d ∷ ds) (lines_of (d ∷ ds)) (eqb c 10) refl (text_lines (d ∷ ds) (sym (ended_more c d ds) ∙ e)) (omega arith)
