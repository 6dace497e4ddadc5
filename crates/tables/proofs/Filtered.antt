-- A row from which what fails a test is gone, as it is filtered.
use Rattle.std.proofs.Common.{◌≡◌, Bool, true, false, Some, None, Option, refl, ap, ◌∙◌, MatchOption}
use Rattle.std.specs.Bool.{then_some}
use Rattle.tables.specs.Retained.{retained}

module _ {X : Type 0} (p : X → Bool) (Answers : X → Bool → Type 0) (h : (x : X) (b : Bool) → Answers x b → b ≡ p x) where
  kept_if : (x : X) (b : Bool) → then_some b x ≡ retained (λ _. b) (Some x)
  kept_if x true = refl
  kept_if x false = refl

  pub filtered : (o r : Option X) → MatchOption o (r ≡ None) (λ x. (b : Bool) × Answers x b × (r ≡ then_some b x)) → r ≡ retained p o
  filtered None r e = e
  filtered (Some x) r e = e.2 ∙ kept_if x e.0 ∙ ap (λ (b : Bool). retained (λ _. b) (Some x)) (h x e.0 e.1)
