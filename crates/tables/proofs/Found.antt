-- What a loop over rows finds, seen as the rules see it.
use Rattle.std.proofs.Common.{◌≡◌, ℕ, zero, suc, ◌<◌, ◌≤◌, Bool, true, false, List, [], ◌∷◌, map, length, get_or, Some, None, Option, sym, refl, ap, ◌∙◌, arith}
use Rattle.std.specs.Option.{option_map}
use Rattle.std.specs.List.{position, position_or_len}
use Rattle.std.proofs.lemmas.Grind.{common_steps}
use Rattle.std.proofs.lemmas.List.Quantifiers.{position-Some}
use Rattle.std.proofs.lemmas.List.Sums.{fails_before_first}
use Rattle.tables.specs.Retained.{passes}
use Rattle.law.specs.Rows.{At, found, next_row, this_or}
use Rattle.law.proofs.Rows.{no_some, found_none, found_first}

-- A row that holds something is one of the rows.
pub within : {X : Type 0} (l : List (Option X)) (k : ℕ) (x : X) → get_or l k None ≡ Some x → k < length l
within [] k x e = no_some e
within (y ∷ l) zero x e = omega arith
within (y ∷ l) (suc k) x e = let h = within l k x e in omega arith

-- What is nowhere is at no place.
pub past : {X : Type 0} (q : X → Bool) (l : List X) → position q l ≡ None → length l ≤ position_or_len q l
past q l e = grind (arith, common_steps)

module _ {X Y : Type 0} (f : X → Y) (p : Y → Bool) where
  abbrev seen_at : At X → At Y
  seen_at a = record { row = a.row; item = f a.item }

  next_seen : (o : Option (At X)) → next_row (option_map seen_at o) ≡ option_map seen_at (next_row o)
  next_seen None = refl
  next_seen (Some a) = refl

  this_seen : (b : Bool) (x : X) (o : Option (At X)) → this_or b (f x) (option_map seen_at o) ≡ option_map seen_at (this_or b x o)
  this_seen true x o = refl
  this_seen false x o = next_seen o

  found_seen : (l : List (Option X)) → found p (map (option_map f) l) ≡ option_map seen_at (found (λ x. p (f x)) l)
  found_seen [] = refl
  found_seen (None ∷ l) = ap (λ (o : Option (At Y)). next_row o) (found_seen l) ∙ next_seen (found (λ x. p (f x)) l)
  found_seen (Some x ∷ l) = ap (λ (o : Option (At Y)). this_or (p (f x)) (f x) o) (found_seen l) ∙ this_seen (p (f x)) x (found (λ x. p (f x)) l)

  pub seen_none : (l : List (Option X)) → ((k : ℕ) (x : X) → k < length l → get_or l k None ≡ Some x → p (f x) ≡ false) → found p (map (option_map f) l) ≡ None
  seen_none l h = found_seen l ∙ ap (λ (o : Option (At X)). option_map seen_at o) (found_none (λ x. p (f x)) l (λ k x e. h k x (within l k x e) e))

  pub seen_first : (l : List (Option X)) (i : ℕ) (x : X) → get_or l i None ≡ Some x → p (f x) ≡ true → ((k : ℕ) (y : X) → k < i → get_or l k None ≡ Some y → p (f y) ≡ false)
      → found p (map (option_map f) l) ≡ Some (record { row = i; item = f x })
  seen_first l i x e t h = found_seen l ∙ ap (λ (o : Option (At X)). option_map seen_at o) (found_first (λ x. p (f x)) l i x e t h)

  abbrev pub named_so : Option X → Bool
  named_so = passes (λ x. p (f x))

  pub found_nowhere : (l : List (Option X)) → position named_so l ≡ None → found p (map (option_map f) l) ≡ None
  found_nowhere l e =
      seen_none l (λ k x lt h. sym (ap named_so h) ∙ fails_before_first named_so l k None (omega (arith, past named_so l e)))

  pub found_at : (l : List (Option X)) (i j : ℕ) (x : X) → position named_so l ≡ Some i → get_or l i None ≡ Some x → j ≡ i
      → Some (record { row = j; item = f x }) ≡ found p (map (option_map f) l)
  found_at l i j x e h n =
      let at = position-Some named_so l i None e in
      ap (λ (k : ℕ). Some (seen_at (record { row = k; item = x }))) n
      ∙ sym (seen_first l i x h (sym (ap named_so h) ∙ at.1) (λ k y lt g. sym (ap named_so g) ∙ at.2 k lt))
