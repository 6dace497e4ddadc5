-- What the clerk writes is what the card's tables become.
use Rattle.std.proofs.Common.{◌≡◌, ℕ, zero, suc, Bool, true, false, cond, eqb, ◌⊎◌, List, [], ◌∷◌, map, get_or, set, Some, None, Option, sym, refl, ap, ◌∙◌, inl, inr, get_or-set_other, eq-eqb, ne_eqb}
use Rattle.std.proofs.lemmas.Bool.{cases_eq}
use Rattle.sealing.specs.declared.suite.Suite.{Suite}
use Rattle.objects.specs.Asked.{Asked, layout, ask_master, ask_connection, ask_start, end_master, end_connection}
use Rattle.law.specs.Rows.{same_bytes, At, found, next_row, this_or}
use Rattle.law.specs.Associations.{Hashing, Key, Master, one_more_master, one_more_connection, common, new_master}
use Rattle.law.specs.Tables.{Connection, Tables, put_connections, off_master, off_key, if_held, on_held}
use Rattle.law.specs.Associate.{taken, has_csa, established, exhausted, enter_master, enter_with, enter_connection, enter_session, remove_key, remove_master, remove_connection}
use Rattle.law.specs.Ledger.{Link, Book, entered, stays_on, rests_on, strikes_key, strikes_master, strikes_link, writes_link, key_named, master_named, link_named, starts, new_link, enters_master, enters_link, enters_connection, carried_out, beyond_limit}
use Rattle.law.specs.Held.{Sound, held_as, row_of}
use Rattle.law.proofs.Rows.{no_some, set_map, maps_agree, map_agrees, map_keeps, taken_entered}
use Rattle.law.proofs.Sounds.{set_none}

-- The tables that the ledger's rows make.
abbrev pub tables_of : Book → Tables
tables_of l = record { keys = l.keys; masters = l.masters; connections = map row_of l.links }

abbrev on_rows : List (Option Key) → List (Option Master) → List (Option Connection) → Tables
on_rows ks ms cs = record { keys = ks; masters = ms; connections = cs }

-- A link is found where its connection is.
abbrev pub placed : Option (At Link) → Option (At Connection)
placed None = None
placed (Some x) = Some (record { row = x.row; item = held_as x.item })

placed_next : (o : Option (At Link)) → placed (next_row o) ≡ next_row (placed o)
placed_next None = refl
placed_next (Some x) = refl

placed_this : (b : Bool) (y : Link) (o : Option (At Link)) → placed (this_or b y o) ≡ this_or b (held_as y) (placed o)
placed_this true y o = refl
placed_this false y o = placed_next o

pub found_link : (id : List ℕ) (xs : List (Option Link)) → found (has_csa id) (map row_of xs) ≡ placed (found (λ (x : Link). same_bytes x.id id) xs)
found_link id [] = refl
found_link id (None ∷ xs) = ap (λ (o : Option (At Connection)). next_row o) (found_link id xs) ∙ sym (placed_next (found (λ (x : Link). same_bytes x.id id) xs))
found_link id (Some y ∷ xs) = ap (λ (o : Option (At Connection)). this_or (same_bytes y.id id) (held_as y) o) (found_link id xs)
    ∙ sym (placed_this (same_bytes y.id id) y (found (λ (x : Link). same_bytes x.id id) xs))

-- A link is entered where its connection is.
entered_link : (xs : List (Option Link)) (y : Link) → map row_of (entered xs y) ≡ entered (map row_of xs) (held_as y)
entered_link [] y = refl
entered_link (None ∷ xs) y = refl
entered_link (Some x ∷ xs) y = ap (λ (r : List (Option Connection)). Some (held_as x) ∷ r) (entered_link xs y)

pub taken_link : (xs : List (Option Link)) (y : Link) → map row_of (entered xs y) ≡ taken (map row_of xs) (held_as y)
taken_link xs y = entered_link xs y ∙ sym (taken_entered (map row_of xs) (held_as y))

-- One row written.
pub wrote_link : (l : Book) (row : ℕ) (y : Option Link) → tables_of (writes_link l row y) ≡ put_connections (tables_of l) (set (map row_of l.links) row (row_of y))
wrote_link l row y = ap (λ (cs : List (Option Connection)). on_rows l.keys l.masters cs) (sym (set_map row_of l.links row y))

-- What rests on a row that was cleared.
cleared : {X : Type 0} (l : List (Option X)) (i : ℕ) → get_or (set l i None) i None ≡ None
cleared [] i = refl
cleared (x ∷ l) zero = refl
cleared (x ∷ l) (suc i) = cleared l i

module _ {X Y : Type 0} (below : List (Option Y)) (at : X → ℕ) (i : ℕ) (x : X) (y : Y) where
  stays_off : get_or below (at x) None ≡ Some y → (at x ≡ i) ⊎ (at x ≡ i → ⊥) → stays_on x (get_or (set below i None) (at x) None) ≡ cond (eqb (at x) i) None (Some x)
  stays_off h (inl e) = ap (λ (n : ℕ). stays_on x (get_or (set below i None) n None)) e ∙ ap (λ (o : Option Y). stays_on x o) (cleared below i) ∙ ap (λ (b : Bool). cond b None (Some x)) (sym (eq-eqb (at x) i e))
  stays_off h (inr e) = ap (λ (o : Option Y). stays_on x o) (get_or-set_other below i (at x) None None e ∙ h) ∙ ap (λ (b : Bool). cond b None (Some x)) (sym (ne_eqb (at x) i e))

module _ (l : Book) (s : Sound (tables_of l)) where
  -- every link rests on a held master
  link_held : (j : ℕ) (x : Link) → get_or l.links j None ≡ Some x → (m : Master) × (get_or l.masters x.master None ≡ Some m)
  link_held j x e =
      let r = s.connections j (held_as x) (at_map l.links j x e) in (r.master, r.held)
    where
      at_map : (xs : List (Option Link)) (j : ℕ) (x : Link) → get_or xs j None ≡ Some x → get_or (map row_of xs) j None ≡ Some (held_as x)
      at_map [] j x e = no_some e
      at_map (y ∷ xs) zero x e = ap row_of e
      at_map (y ∷ xs) (suc j) x e = at_map xs j x e

  -- masters under a key that is gone
  masters_off : (i : ℕ) → map (rests_on (set l.keys i None) (λ m. m.key)) l.masters ≡ map (off_key i) l.masters
  masters_off i = map_agrees (rests_on (set l.keys i None) (λ m. m.key)) (off_key i) None l.masters (λ j. by (get_or l.masters j None) j refl)
    where
      by : (o : Option Master) (j : ℕ) → get_or l.masters j None ≡ o → rests_on (set l.keys i None) (λ m. m.key) o ≡ off_key i o
      by None j e = refl
      by (Some m) j e = let r = s.masters j m e in stays_off l.keys (λ (m : Master). m.key) i m r.key r.held (cases_eq m.key i)

  -- masters where no key is gone
  masters_on : (i : ℕ) → map (rests_on l.keys (λ m. m.key)) (set l.masters i None) ≡ set l.masters i None
  masters_on i = map_keeps (rests_on l.keys (λ m. m.key)) None (set l.masters i None) (λ j. by (get_or (set l.masters i None) j None) j refl)
    where
      by : (o : Option Master) (j : ℕ) → get_or (set l.masters i None) j None ≡ o → rests_on l.keys (λ m. m.key) o ≡ o
      by None j e = refl
      by (Some m) j e = let r = s.masters j m (set_none l.masters i j m e) in ap (λ (o : Option Key). stays_on m o) r.held

  -- links under a master that is gone
  links_off : (i : ℕ) → map row_of (map (rests_on (set l.masters i None) (λ x. x.master)) l.links) ≡ map (off_master i) (map row_of l.links)
  links_off i = maps_agree row_of (rests_on (set l.masters i None) (λ x. x.master)) (off_master i) row_of None l.links (λ j. by (get_or l.links j None) j refl)
    where
      row_cond : (b : Bool) (x : Link) → row_of (cond b None (Some x)) ≡ cond b None (Some (held_as x))
      row_cond true x = refl
      row_cond false x = refl

      by : (o : Option Link) (j : ℕ) → get_or l.links j None ≡ o → row_of (rests_on (set l.masters i None) (λ x. x.master) o) ≡ off_master i (row_of o)
      by None j e = refl
      by (Some x) j e = let h = link_held j x e in ap row_of (stays_off l.masters (λ (x : Link). x.master) i x h.0 h.1 (cases_eq x.master i)) ∙ row_cond (eqb x.master i) x

  -- links whose master stays
  links_on : (ms : List (Option Master)) → map row_of (map (rests_on ms (λ x. x.master)) l.links) ≡ map (on_held ms) (map row_of l.links)
  links_on ms = maps_agree row_of (rests_on ms (λ x. x.master)) (on_held ms) row_of None l.links (λ j. by (get_or l.links j None))
    where
      held : (x : Link) (o : Option Master) → row_of (stays_on x o) ≡ if_held (held_as x) o
      held x None = refl
      held x (Some m) = refl

      by : (o : Option Link) → row_of (rests_on ms (λ x. x.master) o) ≡ on_held ms (row_of o)
      by None = refl
      by (Some x) = held x (get_or ms x.master None)

  pub key_struck : (o : Option (At Key)) → tables_of (strikes_key l o) ≡ remove_key (tables_of l) o
  key_struck None = refl
  key_struck (Some k) =
      ap (λ (left : List (Option Master)). on_rows (set l.keys k.row None) left (map row_of (map (rests_on left (λ x. x.master)) l.links))) (masters_off k.row)
      ∙ ap (λ (cs : List (Option Connection)). on_rows (set l.keys k.row None) (map (off_key k.row) l.masters) cs) (links_on (map (off_key k.row) l.masters))

  pub master_struck : (o : Option (At Master)) → tables_of (strikes_master l o) ≡ remove_master (tables_of l) o
  master_struck None = refl
  master_struck (Some m) =
      ap (λ (left : List (Option Master)). on_rows l.keys left (map row_of (map (rests_on left (λ x. x.master)) l.links))) (masters_on m.row)
      ∙ ap (λ (cs : List (Option Connection)). on_rows l.keys (set l.masters m.row None) cs) (links_off m.row)

link_struck : (l : Book) (o : Option (At Link)) → tables_of (strikes_link l o) ≡ remove_connection (tables_of l) (placed o)
link_struck l None = refl
link_struck l (Some x) = wrote_link l x.row None

link_started : (l : Book) (size : ℕ) (o : Option (At Link)) → tables_of (starts l size o) ≡ enter_session (tables_of l) size (placed o)
link_started l size None = refl
link_started l size (Some x) = wrote_link l x.row _

module _ (𝓗 : Hashing) where
  master_entered : (l : Book) (random : List ℕ) (o : Option (At Key)) → tables_of (enters_master 𝓗 l random o) ≡ enter_master 𝓗 (tables_of l) random o
  master_entered l random None = refl
  master_entered l random (Some k) =
      ap (λ (ms : List (Option Master)). on_rows (set l.keys k.row (Some (one_more_master k.item))) ms (map row_of l.links)) (sym (taken_entered l.masters (new_master 𝓗 random k.row k.item)))

  link_entered : (l : Book) (random tnonce : List ℕ) (m : At Master) (u : Option Suite) → tables_of (enters_link 𝓗 l random tnonce m u) ≡ enter_with 𝓗 (tables_of l) random tnonce m u
  link_entered l random tnonce m None = refl
  link_entered l random tnonce m (Some u) =
      ap (λ (cs : List (Option Connection)). on_rows l.keys (set l.masters m.row (Some (one_more_connection m.item))) cs) (taken_link l.links (new_link 𝓗 random tnonce u m))

  connection_entered : (l : Book) (random tnonce : List ℕ) (u : Option Suite) (o : Option (At Master)) → tables_of (enters_connection 𝓗 l random tnonce u o) ≡ enter_connection 𝓗 (tables_of l) random tnonce u o
  connection_entered l random tnonce u None = refl
  connection_entered l random tnonce u (Some m) = link_entered l random tnonce m u

  -- An object that is carried out.
  pub carried_agrees : (l : Book) → Sound (tables_of l) → (random : List ℕ) (a : Asked) → tables_of (carried_out 𝓗 l random a) ≡ established 𝓗 (tables_of l) random a
  carried_agrees l s random layout = refl
  carried_agrees l s random (ask_master ref mechanisms) = master_entered l random (key_named l ref)
  carried_agrees l s random (ask_connection msa tnonce tsca tsim) = connection_entered l random tnonce (common tsca tsim) (master_named l msa)
  carried_agrees l s random (ask_start csa size mac) = link_started l size (link_named l csa) ∙ ap (λ (o : Option (At Connection)). enter_session (tables_of l) size o) (sym (found_link csa l.links))
  carried_agrees l s random (end_master msa mac) = master_struck l s (master_named l msa)
  carried_agrees l s random (end_connection csa mac) = link_struck l (link_named l csa) ∙ ap (λ (o : Option (At Connection)). remove_connection (tables_of l) o) (sym (found_link csa l.links))

  -- An asking beyond a limit.
  pub limit_agrees : (l : Book) → Sound (tables_of l) → (a : Asked) → tables_of (beyond_limit l a) ≡ exhausted (tables_of l) a
  limit_agrees l s layout = refl
  limit_agrees l s (ask_master ref mechanisms) = key_struck l s (key_named l ref)
  limit_agrees l s (ask_connection msa tnonce tsca tsim) = master_struck l s (master_named l msa)
  limit_agrees l s (ask_start csa size mac) = refl
  limit_agrees l s (end_master msa mac) = refl
  limit_agrees l s (end_connection csa mac) = refl
