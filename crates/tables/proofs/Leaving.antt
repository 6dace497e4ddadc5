-- Rows that are freed with what they rest on, as the rules see them.
use Rattle.std.proofs.Common.{◌≡◌, ℕ, Bool, true, false, cond, not, eqb, ◌⊎◌, List, map, get_or, is_some, Some, None, Option, sym, refl, ap, ◌∙◌, subst, inl, inr}
use lib.ListN.{get_or-map}
use Rattle.std.specs.Option.{option_map}
use Rattle.law.specs.Associations as made
use Rattle.law.specs.Tables as law
use Rattle.law.specs.Step.{kept}
use Rattle.law.proofs.Rows.{maps_agree}
use Rattle.tables.specs.declared.rows.Master.{Master}
use Rattle.tables.specs.declared.rows.Connection.{Connection}
use Rattle.tables.specs.View.{master_of, masters_of, connection_of, connections_of, answer_at}
use Rattle.tables.specs.Retained.{retained}
use Rattle.tables.proofs.Kept.{rows_left}

-- A test that is turned round.
module _ {X Y : Type 0} (f : X → Y) (x : X) where
  turned : (b : Bool) → option_map f (cond (not b) (Some x) None) ≡ cond b None (Some (f x))
  turned true = refl
  turned false = refl

off_key_row : (i : ℕ) (o : Option Master) → option_map master_of (retained (λ m. not (eqb m.key i)) o) ≡ law.off_key i (option_map master_of o)
off_key_row i None = refl
off_key_row i (Some m) = turned master_of m (eqb m.key i)

off_master_row : (i : ℕ) (o : Option Connection) → option_map connection_of (retained (λ c. not (eqb c.master i)) o) ≡ law.off_master i (option_map connection_of o)
off_master_row i None = refl
off_master_row i (Some c) = turned connection_of c (eqb c.master i)

module _ (ms : List (Option Master)) where
  if_held_row : (c : Connection) (o : Option Master) → option_map connection_of (cond (is_some o) (Some c) None) ≡ law.if_held (connection_of c) (option_map master_of o)
  if_held_row c None = refl
  if_held_row c (Some m) = refl

  on_held_row : (o : Option Connection) → option_map connection_of (retained (λ c. is_some (get_or ms c.master None)) o) ≡ law.on_held (masters_of ms) (option_map connection_of o)
  on_held_row None = refl
  on_held_row (Some c) =
      if_held_row c (get_or ms c.master None)
      ∙ ap (λ (o : Option made.Master). law.if_held (connection_of c) o) (sym (get_or-map (option_map master_of) ms c.master None))

-- The masters of a key leave.
pub masters_off : (i : ℕ) (l left : List (Option Master)) → left ≡ map (retained (λ m. not (eqb m.key i))) l → masters_of left ≡ map (law.off_key i) (masters_of l)
masters_off i l left e = ap (λ (m : List (Option Master)). masters_of m) e
    ∙ maps_agree (option_map master_of) (retained (λ m. not (eqb m.key i))) (law.off_key i) (option_map master_of) None l (λ j. off_key_row i (get_or l j None))

-- The connections of a master leave.
pub connections_off : (i : ℕ) (l left : List (Option Connection)) → left ≡ map (retained (λ c. not (eqb c.master i))) l → connections_of left ≡ map (law.off_master i) (connections_of l)
connections_off i l left e = ap (λ (m : List (Option Connection)). connections_of m) e
    ∙ maps_agree (option_map connection_of) (retained (λ c. not (eqb c.master i))) (law.off_master i) (option_map connection_of) None l (λ j. off_master_row i (get_or l j None))

-- The connections of masters that left leave.
pub connections_on : (ms : List (Option Master)) (held : List (Option made.Master)) (l left : List (Option Connection)) → masters_of ms ≡ held
    → left ≡ map (retained (λ c. is_some (get_or ms c.master None))) l → connections_of left ≡ map (law.on_held held) (connections_of l)
connections_on ms held l left h e =
    ap (λ (m : List (Option Connection)). connections_of m) e
    ∙ maps_agree (option_map connection_of) (retained (λ c. is_some (get_or ms c.master None))) (law.on_held (masters_of ms)) (option_map connection_of) None l (λ j. on_held_row ms (get_or l j None))
    ∙ ap (λ (hs : List (Option made.Master)). map (law.on_held hs) (connections_of l)) h

-- What stays keeps its answer.
module _ (p : Connection → Bool) where
  stays_or : (o : Option Connection) → (retained p o ≡ o) ⊎ (retained p o ≡ None)
  stays_or None = inl refl
  stays_or (Some c) = by (p c)
    where
      by : (b : Bool) → (cond b (Some c) None ≡ Some c) ⊎ (cond b (Some c) None ≡ None)
      by true = inl refl
      by false = inr refl

  pub left_kept : (l m : List (Option Connection)) → m ≡ map (retained p) l → map answer_at m ≡ kept (connections_of m) (map answer_at l)
  left_kept l m e = subst (λ (n : List (Option Connection)). map answer_at n ≡ kept (connections_of n) (map answer_at l)) (sym e) (rows_left (retained p) stays_or l)
