-- The first line, found from the left.
use Rattle.std.proofs.Common.{◌≡◌, ℕ, suc, ◌+◌, ◌-◌, ◌<◌, ◌≤◌, Bool, true, false, cond, not, eqb, ltb, List, [], ◌∷◌, length, take, drop, Some, None, Option, sym, refl, ap, ◌∙◌, subst, arith}
use Rattle.std.specs.List.{position_or_len}
use native.Mathlib.Nat.{sub-zero}
use Rattle.std.proofs.lemmas.List.{take_rest}
use Rattle.std.proofs.lemmas.Bool.{cond-true, cond-false, lt-ltb, le-ltb, ltb-false}
use Rattle.personalise.specs.Lines.{in_front, lines_of, behind, value, passed, past, EndsAt}

-- The place of the first LF, if there is one.
abbrev pub first_lf : List ℕ → ℕ
first_lf text = position_or_len (λ c. eqb c 10) text

abbrev placed : List ℕ → ℕ → Option ℕ
placed text p = cond (ltb p (length text)) (Some p) None

here : (text : List ℕ) (p : ℕ) → p < length text → EndsAt text (Some p) → EndsAt text (placed text p)
here text p l h = subst (EndsAt text) (sym (cond-true (ltb p (length text)) (Some p) None (lt-ltb p (length text) l))) h

nowhere : (text : List ℕ) (p : ℕ) → length text ≤ p → EndsAt text None → EndsAt text (placed text p)
nowhere text p l h = subst (EndsAt text) (sym (cond-false (ltb p (length text)) (Some p) None (le-ltb p (length text) l))) h

-- A byte that is no LF goes in front of the first line, and that ends one place later.
later : (c : ℕ) (cs : List ℕ) (p : ℕ) (t : Bool) → ltb p (length cs) ≡ t → EndsAt cs (cond t (Some p) None) → lines_of (c ∷ cs) ≡ in_front c (lines_of cs) → EndsAt (c ∷ cs) (placed (c ∷ cs) (1 + p))
later c cs p true e h f =
    let one : suc p ≡ 1 + p = omega arith in
    let two : suc (p + 1) ≡ 1 + p + 1 = omega arith in
    let l : 1 + p < length (c ∷ cs) = omega (arith, h.0) in
    here (c ∷ cs) (1 + p) l (l, f ∙ ap (in_front c) h.1 ∙ (λ i. take (one i) (c ∷ cs) ∷ lines_of (drop (two i) (c ∷ cs))))
later c cs p false e h f =
    nowhere (c ∷ cs) (1 + p) (omega (arith, ltb-false p (length cs) e)) (f ∙ ap (in_front c) h)

at_first : (c : ℕ) (cs : List ℕ) (t : Bool) → eqb c 10 ≡ t → EndsAt cs (placed cs (first_lf cs)) → EndsAt (c ∷ cs) (placed (c ∷ cs) (cond (not t) (1 + first_lf cs) 0))
at_first c cs true e h =
    here (c ∷ cs) 0 (omega arith) (omega arith, cond-true (eqb c 10) ([] ∷ lines_of cs) (in_front c (lines_of cs)) e)
at_first c cs false e h = later c cs (first_lf cs) (ltb (first_lf cs) (length cs)) refl h (cond-false (eqb c 10) ([] ∷ lines_of cs) (in_front c (lines_of cs)) e)

pub ends_at : (text : List ℕ) → EndsAt text (placed text (first_lf text))
ends_at [] = refl
ends_at (c ∷ cs) = at_first c cs (eqb c 10) refl (ends_at cs)

-- The first line has another name, and stays.
pub other_name : (name text : List ℕ) (i : ℕ) → EndsAt text (Some i) → None ≡ behind name (take (i - 0) text) → (None ≡ value name (lines_of text)) × (lines_of text ≡ past name (lines_of text))
other_name name text i h e =
    let line = take i text in
    let rest = lines_of (drop (i + 1) text) in
    let f : None ≡ behind name line = e ∙ ap (λ n. behind name (take n text)) (sub-zero i) in
    (f ∙ sym (ap (value name) h.1), h.1 ∙ ap (λ o. passed o line rest) f ∙ sym (ap (past name) h.1))

-- The first line has the name, and is passed.
pub named : (name text v : List ℕ) (i : ℕ) → EndsAt text (Some i) → Some v ≡ behind name (take (i - 0) text)
    → (Some v ≡ value name (lines_of text)) × (lines_of (take (length text - (i + 1)) (drop (i + 1) text)) ≡ past name (lines_of text))
named name text v i h e =
    let line = take i text in
    let rest = lines_of (drop (i + 1) text) in
    let f : Some v ≡ behind name line = e ∙ ap (λ n. behind name (take n text)) (sub-zero i) in
    (f ∙ sym (ap (value name) h.1), ap lines_of (take_rest text (i + 1)) ∙ ap (λ o. passed o line rest) f ∙ sym (ap (past name) h.1))
