-- The smallest free row, row by row.
use Rattle.std.proofs.Common.{◌≡◌, ℕ, zero, suc, ◌<◌, Bool, true, false, cond, List, [], ◌∷◌, map, length, get_or, is_some, is_none, Some, None, Option, sym, refl, ap, ◌∙◌, arith}
use Rattle.std.specs.Option.{option_map}
use Rattle.std.specs.List.{position}
use Rattle.std.proofs.lemmas.List.Quantifiers.{position-Some}
use Rattle.std.proofs.lemmas.List.Sums.{fails_before_first}
use Rattle.tables.proofs.Found.{past}
use Rattle.law.specs.Rows.{full, free}
use Rattle.law.proofs.Rows.{never}

module _ {X Y : Type 0} (f : X → Y) where
  pub all_held : (l : List (Option X)) → ((k : ℕ) → k < length l → is_some (get_or l k None) ≡ true) → full (map (option_map f) l) ≡ true
  all_held [] h = refl
  all_held (None ∷ l) h = never (sym (h 0 (omega arith)))
  all_held (Some x ∷ l) h = all_held l (λ k lt. h (suc k) (omega arith))

  pub free_first : (l : List (Option X)) (i : ℕ) → i < length l → is_some (get_or l i None) ≡ false → ((k : ℕ) → k < i → is_some (get_or l k None) ≡ true)
      → (full (map (option_map f) l) ≡ false) × (free (map (option_map f) l) ≡ i)
  free_first [] i lt e h = absurd (omega arith)
  free_first (None ∷ l) zero lt e h = (refl, refl)
  free_first (Some x ∷ l) zero lt e h = never e
  free_first (None ∷ l) (suc i) lt e h = never (sym (h 0 (omega arith)))
  free_first (Some x ∷ l) (suc i) lt e h = let r = free_first l i (omega arith) e (λ k q. h (suc k) (omega arith)) in (r.0, ap suc r.1)

  pub free_of : (l : List (Option X)) (i : ℕ) → i < length l → is_some (get_or l i None) ≡ false → ((k : ℕ) → k < i → is_some (get_or l k None) ≡ true)
      → Some i ≡ cond (full (map (option_map f) l)) None (Some (free (map (option_map f) l)))
  free_of l i lt e h =
      let r = free_first l i lt e h in
      ap (λ (n : ℕ). Some n) (sym r.1) ∙ ap (λ (b : Bool). cond b None (Some (free (map (option_map f) l)))) (sym r.0)

  pub none_of : (l : List (Option X)) → ((k : ℕ) → k < length l → is_some (get_or l k None) ≡ true) → None ≡ cond (full (map (option_map f) l)) None (Some (free (map (option_map f) l)))
  none_of l h = ap (λ (b : Bool). cond b None (Some (free (map (option_map f) l)))) (sym (all_held l h))

  held_row : (o : Option X) → is_none o ≡ false → is_some o ≡ true
  held_row None e = never e
  held_row (Some x) e = refl

  free_row : (o : Option X) → is_none o ≡ true → is_some o ≡ false
  free_row None e = refl
  free_row (Some x) e = never (sym e)

  pub free_at : (l : List (Option X)) (i : ℕ) → position (λ o. is_none o) l ≡ Some i → Some i ≡ cond (full (map (option_map f) l)) None (Some (free (map (option_map f) l)))
  free_at l i e =
      let at = position-Some (λ o. is_none o) l i None e in
      free_of l i at.0 (free_row _ at.1) (λ k lt. held_row _ (at.2 k lt))

  pub free_nowhere : (l : List (Option X)) → position (λ o. is_none o) l ≡ None → None ≡ cond (full (map (option_map f) l)) None (Some (free (map (option_map f) l)))
  free_nowhere l e = none_of l (λ k lt. held_row _ (fails_before_first (λ o. is_none o) l k None (omega (arith, past (λ o. is_none o) l e))))

  -- What stands for the first free row of four.
  pub free_row_of : (l : List (Option X)) (o r : Option ℕ) → o ≡ position (λ h. is_none h) l → length l ≡ 4
      → ((i : ℕ) → o ≡ Some i → i < 4 → r ≡ Some i) → (o ≡ None → r ≡ None) → r ≡ cond (full (map (option_map f) l)) None (Some (free (map (option_map f) l)))
  free_row_of l None r e n some none = none refl ∙ free_nowhere l (sym e)
  free_row_of l (Some i) r e n some none =
      some i refl (let at = (position-Some (λ h. is_none h) l i None (sym e)).0 in omega arith) ∙ free_at l i (sym e)
