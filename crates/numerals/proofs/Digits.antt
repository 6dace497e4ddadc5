-- Digits read from the left, one after another.
use Rattle.std.proofs.Common.{◌≡◌, ℕ, ◌+◌, ◌-◌, ◌*◌, ◌<◌, ◌≤◌, Bool, true, false, cond, leb, ControlFlow, List, [], ◌∷◌, length, Some, None, Option, IfSome, sym, refl, ap, subst, ◌∙◌, le_refl, arith, Bor, Iter}
use Rattle.std.proofs.lemmas.Fn.{fronts}
use Rattle.std.specs.ControlFlow.{continue_value}
use Rattle.std.specs.Fn.{Called}
use Rattle.std.specs.Iterator.{TryFoldTurn, TryFoldsItems, Yields}
use Rattle.std.specs.List.{FoldsTo}
use Rattle.std.specs.Option.{MatchOption}
use denote.Param.Members.{Mut}
use Rattle.std.proofs.lemmas.Bool.{leb-true, leb-false, le-leb, lt-leb, cond-true}
use Rattle.std.specs.Char.{is_ascii_digit}
use Rattle.std.specs.Str.{all_ascii_digits}
use Rattle.numerals.specs.Decimal.{onto, digits, upto}

-- Digits never make the number smaller.
pub onto_ge : (n : ℕ) (cs : List ℕ) → n ≤ onto n cs
onto_ge n [] = le_refl n
onto_ge n (c ∷ cs) = omega (arith, onto_ge (n * 10 + (c - 48)) cs)

abbrev pub and_then : Option ℕ → (ℕ → Option ℕ) → Option ℕ
and_then None k = None
and_then (Some m) k = k m

-- Above the top, it stays above.
above : (top n : ℕ) (cs : List ℕ) → leb n top ≡ false → upto top (digits n cs) ≡ None
above top n cs e =
    let h : top < onto n cs = omega (arith, onto_ge n cs, leb-false n top e) in
    elim (all_ascii_digits cs) as (λ d. upto top (cond d (Some (onto n cs)) None) ≡ None) [ true ↦ ap (λ t. cond t (Some (onto n cs)) None) (lt-leb (onto n cs) top h) | false ↦ refl ]

within : (top n : ℕ) (cs : List ℕ) (t : Bool) → leb n top ≡ t → upto top (digits n cs) ≡ and_then (cond t (Some n) None) (λ m. upto top (digits m cs))
within top n cs true e = refl
within top n cs false e = above top n cs e

-- One digit, and then the others.
split : (top n c : ℕ) (cs : List ℕ) (d : Bool) → is_ascii_digit c ≡ d → upto top (digits n (c ∷ cs)) ≡ and_then (upto top (digits n (c ∷ []))) (λ m. upto top (digits m cs))
split top n c cs true e =
    simp e (within top (n * 10 + (c - 48)) cs (leb (n * 10 + (c - 48)) top) refl)
split top n c cs false e = simp e

upto_some : (top m n : ℕ) (t : Bool) → leb n top ≡ t → Some m ≡ cond t (Some n) None → m ≤ top
upto_some top m n true e f = let g : m ≡ n = cc in omega (arith, leb-true n top e)
upto_some top m n false e f = let z : ◌≡◌ {A = ℕ} 0 1 = cc in omega arith

-- What is read is at most the top.
pub upto_le : (top m : ℕ) (o : Option ℕ) → Some m ≡ upto top o → m ≤ top
upto_le top m None e = let z : ◌≡◌ {A = ℕ} 0 1 = cc in omega arith
upto_le top m (Some n) e = upto_some top m n (leb n top) refl e

-- The same of what may be absent.
pub upto_within : (top : ℕ) (o r : Option ℕ) → r ≡ upto top o → IfSome r (λ n. n ≤ top)
upto_within top o None e = tt
upto_within top o (Some m) e = upto_le top m o e

-- Calls of a closure that reads one digit more, from the left, until one has no answer.
module _ {F : Type 0} (E : Type 0) (top : ℕ) (g : Mut F (ℕ × (Bor ℕ × Unit {0})) (Option ℕ)) (f : F) where
  abbrev Branches : Option ℕ → ControlFlow E ℕ → Type 0
  Branches v b = v ≡ continue_value b

  abbrev pub Reads : Type 0
  Reads = (n : ℕ) (x : Bor ℕ) (v : Option ℕ) (q : F) → Called g f (n, (x, tt)) v q → (q ≡ f) × (v ≡ upto top (digits n (x.now ∷ [])))

  abbrev Run : F × ℕ → Iter ℕ → F × ℕ → Iter ℕ → Type 0
  Run p s q t = (q.0 ≡ f) × (upto top (digits p.1 s.rest.now) ≡ upto top (digits q.1 t.rest.now)) × (p.1 ≤ top → q.1 ≤ top)

  -- A digit in front, whose call answered v.
  more : (n : ℕ) (x : Bor ℕ) (v : Option ℕ) (s t : Iter ℕ) → s.rest.now ≡ x.now ∷ t.rest.now → v ≡ upto top (digits n (x.now ∷ [])) → upto top (digits n s.rest.now) ≡ and_then v (λ m. upto top (digits m t.rest.now))
  more n x v s t y e =
      ap (λ cs. upto top (digits n cs)) y ∙ split top n x.now t.rest.now (is_ascii_digit x.now) refl ∙ ap (λ o. and_then o (λ m. upto top (digits m t.rest.now))) (sym e)

  step : Reads → (p q : F × ℕ) (x : Bor ℕ) (s t : Iter ℕ) → p.0 ≡ f → s.rest.now ≡ x.now ∷ t.rest.now → TryFoldTurn g Branches p x q → Run p s q t
  step reads p q x s t a y c =
      let said = reads p.1 x c.0 q.0 (subst (λ w. Called g w (p.1, (x, tt)) c.0 q.0) a c.1) in
      let some : Some q.1 ≡ upto top (digits p.1 (x.now ∷ [])) = sym c.2 ∙ said.1 in
      (said.0, more p.1 x (Some q.1) s t y some, λ _. upto_le top q.1 (digits p.1 (x.now ∷ [])) some)

  run : Reads → (xs : List (Bor ℕ)) (p q : F × ℕ) (s t : Iter ℕ) → p.0 ≡ f → Yields fronts s xs t → FoldsTo (TryFoldTurn g Branches) p xs q → Run p s q t
  run reads [] p q s t a y c =
      (ap (λ w. w.0) (sym c) ∙ a, ap (λ (w : F × ℕ). upto top (digits w.1 s.rest.now)) c ∙ ap (λ (w : Iter ℕ). upto top (digits q.1 w.rest.now)) y, λ l. subst (λ (w : F × ℕ). w.1 ≤ top) c l)
  run reads (x ∷ xs) p q s t a y c =
      let one = step reads p c.0 x s y.0 a y.1 c.1 in
      let others = run reads xs c.0 q y.0 t one.0 y.2 c.2 in
      (others.0, one.1 ∙ others.1, λ l. others.2 (one.2 l))

  ends : (a : ℕ) (cs : List ℕ) → length cs ≡ 0 → a ≤ top → upto top (digits a cs) ≡ Some a
  ends a [] e l = cond-true (leb a top) (Some a) None (le-leb a top l)
  ends a (c ∷ cs) e l = let z : ⊥ = omega arith in absurd z

  pub all_read : (s u : Iter ℕ) (n : ℕ) (r : Option ℕ) → TryFoldsItems fronts g Branches (λ e v. v ≡ None) s f n r u → n ≤ top → Reads → r ≡ upto top (digits n s.rest.now)
  all_read s u n r d l reads = last d.1 d.4.2 d.6
    where
      ran : Run (f, n) s (d.2, d.3) d.4.0
      ran = run reads d.0 (f, n) (d.2, d.3) s d.4.0 refl d.4.1 d.5

      last : (o : Option (Bor ℕ)) → fronts d.4.0 o u → MatchOption o (r ≡ Some d.3) (λ x. (v : Option ℕ) × (h : F) × (e : E) × Called g d.2 (d.3, (x, tt)) v h × (v ≡ None) × (r ≡ None)) → r ≡ upto top (digits n s.rest.now)
      last None st m = m ∙ sym (ran.1 ∙ ends d.3 d.4.0.rest.now st.0 (ran.2 l))
      last (Some x) st m =
          let said = reads d.3 x m.0 m.1 (subst (λ w. Called g w (d.3, (x, tt)) m.0 m.1) ran.0 m.3) in
          m.5 ∙ sym (ran.1 ∙ more d.3 x None d.4.0 u st (sym m.4 ∙ said.1))
