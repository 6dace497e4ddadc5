-- Rows of a table: what stands in one after a change.
use Rattle.std.proofs.Common.{◌≡◌, ℕ, zero, suc, ◌<◌, Bool, true, false, cond, eqb, ◌⊎◌, List, [], ◌∷◌, map, get_or, set, Some, None, Option, sym, refl, ap, ◌∙◌, subst, inl, inr, arith, eq-eqb, ne_eqb, eqb-true}
use Rattle.law.specs.Rows.{free_rows, At, found, next_row, this_or}
use Rattle.law.specs.Ledger.{entered, put_at}
use Rattle.law.specs.Associate.{taken}

pub never : {P : Type 0} → true ≡ false → P
never e = absurd (let z : ◌≡◌ {A = ℕ} 0 1 = cc in omega arith)

pub no_some : {P : Type 0} {X : Type 0} {x : X} → None ≡ Some x → P
no_some e = absurd (let z : ◌≡◌ {A = ℕ} 0 1 = cc in omega arith)

pub some_same : {X : Type 0} {x y : X} → Some x ≡ Some y → x ≡ y
some_same e = cc

module _ {X : Type 0} where
  -- a row after one was set: that one, or as it was
  pub set_some : (l : List (Option X)) (i : ℕ) (a : Option X) (j : ℕ) (x : X) → get_or (set l i a) j None ≡ Some x → ((j ≡ i) × (a ≡ Some x)) ⊎ ((j ≡ i → ⊥) × (get_or l j None ≡ Some x))
  set_some [] i a j x e = no_some e
  set_some (y ∷ l) zero a zero x e = inl (refl, e)
  set_some (y ∷ l) zero a (suc j) x e = inr ((λ h. absurd (omega arith)), e)
  set_some (y ∷ l) (suc i) a zero x e = inr ((λ h. absurd (omega arith)), e)
  set_some (y ∷ l) (suc i) a (suc j) x e = up (set_some l i a j x e)
    where
      up : ((j ≡ i) × (a ≡ Some x)) ⊎ ((j ≡ i → ⊥) × (get_or l j None ≡ Some x)) → ((suc j ≡ suc i) × (a ≡ Some x)) ⊎ ((suc j ≡ suc i → ⊥) × (get_or l j None ≡ Some x))
      up (inl p) = inl (ap suc p.0, p.1)
      up (inr p) = inr ((λ h. p.0 (omega arith)), p.1)

  pub set_here : (l : List (Option X)) (i : ℕ) (a : Option X) (x : X) → get_or l i None ≡ Some x → get_or (set l i a) i None ≡ a
  set_here [] i a x e = no_some e
  set_here (y ∷ l) zero a x e = refl
  set_here (y ∷ l) (suc i) a x e = set_here l i a x e

  pub entered_some : (l : List (Option X)) (y : X) (j : ℕ) (x : X) → get_or (entered l y) j None ≡ Some x → (y ≡ x) ⊎ (get_or l j None ≡ Some x)
  entered_some [] y j x e = no_some e
  entered_some (None ∷ l) y zero x e = inl (some_same e)
  entered_some (None ∷ l) y (suc j) x e = inr e
  entered_some (Some z ∷ l) y zero x e = inr e
  entered_some (Some z ∷ l) y (suc j) x e = entered_some l y j x e

  pub entered_keeps : (l : List (Option X)) (y : X) (j : ℕ) (x : X) → get_or l j None ≡ Some x → get_or (entered l y) j None ≡ Some x
  entered_keeps [] y j x e = no_some e
  entered_keeps (None ∷ l) y zero x e = no_some e
  entered_keeps (None ∷ l) y (suc j) x e = e
  entered_keeps (Some z ∷ l) y zero x e = e
  entered_keeps (Some z ∷ l) y (suc j) x e = entered_keeps l y j x e

  past : (z : Option X) (l : List (Option X)) (f o : Option (At X)) (a : At X) → f ≡ o → ((b : At X) → f ≡ Some b → get_or l b.row None ≡ Some b.item)
      → next_row o ≡ Some a → get_or (z ∷ l) a.row None ≡ Some a.item
  past z l f None a q h e = no_some e
  past z l f (Some b) a q h e = subst (λ (c : At X). get_or (z ∷ l) c.row None ≡ Some c.item) (some_same e) (h b q)

  here_or : (z : X) (l : List (Option X)) (f : Option (At X)) (a : At X) → ((b : At X) → f ≡ Some b → get_or l b.row None ≡ Some b.item)
      → (b : Bool) → this_or b z f ≡ Some a → get_or (Some z ∷ l) a.row None ≡ Some a.item
  here_or z l f a h true e = subst (λ (c : At X). get_or (Some z ∷ l) c.row None ≡ Some c.item) (some_same e) refl
  here_or z l f a h false e = past (Some z) l f f a refl h e

  pub found_at : (p : X → Bool) (l : List (Option X)) (a : At X) → found p l ≡ Some a → get_or l a.row None ≡ Some a.item
  found_at p [] a e = no_some e
  found_at p (None ∷ l) a e = past None l (found p l) (found p l) a refl (λ b q. found_at p l b q) e
  found_at p (Some z ∷ l) a e = here_or z l (found p l) a (λ b q. found_at p l b q) (p z) e

  pub none_free : (i : ℕ) → get_or (free_rows {X = X}) i None ≡ None
  none_free zero = refl
  none_free (suc zero) = refl
  none_free (suc (suc zero)) = refl
  none_free (suc (suc (suc zero))) = refl
  none_free (suc (suc (suc (suc i)))) = refl

-- what stands for each row
module _ {X : Type 0} where
  pub put_same : (f : ℕ → X) (row : ℕ) (v : X) → put_at f row v row ≡ v
  put_same f row v = ap (λ (b : Bool). cond b v (f row)) (eq-eqb row row refl)

  pub put_other : (f : ℕ → X) (row : ℕ) (v : X) (i : ℕ) → (i ≡ row → ⊥) → put_at f row v i ≡ f i
  put_other f row v i h = ap (λ (b : Bool). cond b v (f i)) (ne_eqb i row h)

  pub put_own : (f : ℕ → X) (row i : ℕ) → put_at f row (f row) i ≡ f i
  put_own f row i = by (eqb i row) refl
    where
      by : (b : Bool) → eqb i row ≡ b → cond b (f row) (f i) ≡ f i
      by true e = ap f (sym (eqb-true i row e))
      by false e = refl

-- What a loop over the rows shows: the first row where the test holds, or none; and the smallest free row.
module _ {X : Type 0} (p : X → Bool) where
  pub found_none : (l : List (Option X)) → ((k : ℕ) (x : X) → get_or l k None ≡ Some x → p x ≡ false) → found p l ≡ None
  found_none [] h = refl
  found_none (None ∷ l) h = ap (λ (o : Option (At X)). next_row o) (found_none l (λ k x e. h (suc k) x e))
  found_none (Some y ∷ l) h = ap (λ (b : Bool). this_or b y (found p l)) (h 0 y refl) ∙ ap (λ (o : Option (At X)). next_row o) (found_none l (λ k x e. h (suc k) x e))

  pub found_first : (l : List (Option X)) (i : ℕ) (x : X) → get_or l i None ≡ Some x → p x ≡ true → ((k : ℕ) (y : X) → k < i → get_or l k None ≡ Some y → p y ≡ false)
      → found p l ≡ Some (record { row = i; item = x })
  found_first [] i x e t h = no_some e
  found_first (None ∷ l) zero x e t h = no_some e
  found_first (None ∷ l) (suc i) x e t h = ap (λ (o : Option (At X)). next_row o) (found_first l i x e t (λ k y lt q. h (suc k) y (omega arith) q))
  found_first (Some y ∷ l) zero x e t h = ap (λ (b : Bool). this_or b y (found p l)) (ap p (some_same e) ∙ t) ∙ ap (λ (z : X). Some (record { row = 0; item = z })) (some_same e)
  found_first (Some y ∷ l) (suc i) x e t h =
      ap (λ (b : Bool). this_or b y (found p l)) (h 0 y (omega arith) refl) ∙ ap (λ (o : Option (At X)). next_row o) (found_first l i x e t (λ k y lt q. h (suc k) y (omega arith) q))

-- The smallest free row, by its number or row by row.
module _ {X : Type 0} where
  pub taken_entered : (l : List (Option X)) (y : X) → taken l y ≡ entered l y
  taken_entered [] y = refl
  taken_entered (None ∷ l) y = refl
  taken_entered (Some x ∷ l) y = ap (λ (r : List (Option X)). Some x ∷ r) (taken_entered l y)

  pub taken_some : (l : List (Option X)) (y : X) (j : ℕ) (x : X) → get_or (taken l y) j None ≡ Some x → (y ≡ x) ⊎ (get_or l j None ≡ Some x)
  taken_some l y j x e = entered_some l y j x (ap (λ (r : List (Option X)). get_or r j None) (sym (taken_entered l y)) ∙ e)

  pub taken_keeps : (l : List (Option X)) (y : X) (j : ℕ) (x : X) → get_or l j None ≡ Some x → get_or (taken l y) j None ≡ Some x
  taken_keeps l y j x e = ap (λ (r : List (Option X)). get_or r j None) (taken_entered l y) ∙ entered_keeps l y j x e

-- Rows seen through a function of what they hold.
module _ {X Y : Type 0} (f : Option X → Option Y) where
  pub set_map : (l : List (Option X)) (i : ℕ) (a : Option X) → set (map f l) i (f a) ≡ map f (set l i a)
  set_map [] i a = refl
  set_map (x ∷ l) zero a = refl
  set_map (x ∷ l) (suc i) a = ap (λ (r : List (Option Y)). f x ∷ r) (set_map l i a)

-- Two ways of going over the rows that agree at each row.
module _ {A B C D : Type 0} (f : B → D) (g : A → B) (h : C → D) (k : A → C) (d : A) where
  pub maps_agree : (l : List A) → ((i : ℕ) → f (g (get_or l i d)) ≡ h (k (get_or l i d))) → map f (map g l) ≡ map h (map k l)
  maps_agree [] e = refl
  maps_agree (x ∷ l) e = ap (λ (y : D). y ∷ map f (map g l)) (e 0) ∙ ap (λ (r : List D). h (k x) ∷ r) (maps_agree l (λ i. e (suc i)))

module _ {A : Type 0} (f g : A → A) (d : A) where
  pub map_agrees : (l : List A) → ((i : ℕ) → f (get_or l i d) ≡ g (get_or l i d)) → map f l ≡ map g l
  map_agrees [] e = refl
  map_agrees (x ∷ l) e = ap (λ (y : A). y ∷ map f l) (e 0) ∙ ap (λ (r : List A). g x ∷ r) (map_agrees l (λ i. e (suc i)))

module _ {A : Type 0} (f : A → A) (d : A) where
  pub map_keeps : (l : List A) → ((i : ℕ) → f (get_or l i d) ≡ get_or l i d) → map f l ≡ l
  map_keeps [] e = refl
  map_keeps (x ∷ l) e = ap (λ (y : A). y ∷ map f l) (e 0) ∙ ap (λ (r : List A). x ∷ r) (map_keeps l (λ i. e (suc i)))
