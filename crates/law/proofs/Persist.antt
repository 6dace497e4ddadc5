-- A session that still owes an answer is as it was.
use Rattle.std.proofs.Common.{◌≡◌, ℕ, true, false, ◌⊎◌, List, map, get_or, set, Some, None, Option, sym, refl, ap, ◌∙◌, inl, inr}
use lib.ListN.{get_or-map}
use Rattle.sealing.specs.declared.suite.Suite.{Suite}
use Rattle.objects.specs.Asked.{Asked, layout, ask_master, ask_connection, ask_start, end_master, end_connection}
use Rattle.law.specs.Rows.{free_rows, At}
use Rattle.law.specs.Associations.{Hashing, Key, Master, common}
use Rattle.law.specs.Ledger.{Link, Book, stays_on, rests_on, strikes_key, strikes_master, strikes_link, key_named, master_named, link_named, starts, new_link, enters_master, enters_link, enters_connection, carried_out, beyond_limit, at_rest, dialogue_at, standing_at, owes}
use Rattle.law.proofs.Rows.{never, no_some, set_some, none_free, entered_some}

abbrev pub Persists : List (Option Link) → List (Option Link) → Type 0
Persists old new = (i : ℕ) (x : Link) → get_or new i None ≡ Some x → owes (Some x) ≡ true → get_or old i None ≡ Some x

clash_owes : (y : Option Link) (z : Link) → owes y ≡ false → y ≡ Some z → owes (Some z) ≡ true → ⊥
clash_owes y z e q h = never (sym h ∙ ap owes (sym q) ∙ e)

-- A row that owes an answer is not the one that was set to what owes none.
pub elsewhere : (xs : List (Option Link)) (row : ℕ) (y : Option Link) → owes y ≡ false → (i : ℕ) (z : Link) → get_or (set xs row y) i None ≡ Some z → owes (Some z) ≡ true → (i ≡ row → ⊥)
elsewhere xs row y e i z ez hz = by (set_some xs row y i z ez)
  where
    by : ((i ≡ row) × (y ≡ Some z)) ⊎ ((i ≡ row → ⊥) × (get_or xs i None ≡ Some z)) → (i ≡ row → ⊥)
    by (inl p) = λ _. clash_owes y z e p.1 hz
    by (inr p) = p.0

pub persists_set : (xs : List (Option Link)) (row : ℕ) (y : Option Link) → owes y ≡ false → Persists xs (set xs row y)
persists_set xs row y e i x ex hx = by (set_some xs row y i x ex)
  where
    by : ((i ≡ row) × (y ≡ Some x)) ⊎ ((i ≡ row → ⊥) × (get_or xs i None ≡ Some x)) → get_or xs i None ≡ Some x
    by (inl p) = absurd (clash_owes y x e p.1 hx)
    by (inr p) = p.1

pub persists_off : (xs : List (Option Link)) → Persists xs free_rows
persists_off xs i x e h = no_some (sym (none_free i) ∙ e)

-- What stays is what was.
stays_some : (x y : Link) (o : Option Master) → stays_on x o ≡ Some y → Some x ≡ Some y
stays_some x y None e = no_some e
stays_some x y (Some m) e = e

rests_some : (ms : List (Option Master)) (o : Option Link) (y : Link) → rests_on ms (λ x. x.master) o ≡ Some y → o ≡ Some y
rests_some ms None y e = no_some e
rests_some ms (Some x) y e = stays_some x y (get_or ms x.master None) e

settled_persists : (ms : List (Option Master)) (xs : List (Option Link)) → Persists xs (map (rests_on ms (λ x. x.master)) xs)
settled_persists ms xs i y e h = rests_some ms (get_or xs i None) y (sym (get_or-map (rests_on ms (λ (x : Link). x.master)) xs i None) ∙ e)

strikes_master_persists : (b : Book) (o : Option (At Master)) → Persists b.links (strikes_master b o).links
strikes_master_persists b None i y e h = e
strikes_master_persists b (Some m) i y e h = settled_persists _ b.links i y e h

strikes_key_persists : (b : Book) (o : Option (At Key)) → Persists b.links (strikes_key b o).links
strikes_key_persists b None i y e h = e
strikes_key_persists b (Some k) i y e h = settled_persists _ b.links i y e h

strikes_link_persists : (b : Book) (o : Option (At Link)) → Persists b.links (strikes_link b o).links
strikes_link_persists b None i y e h = e
strikes_link_persists b (Some x) i y e h = persists_set b.links x.row None refl i y e h

starts_persists : (b : Book) (size : ℕ) (o : Option (At Link)) → Persists b.links (starts b size o).links
starts_persists b size None i y e h = e
starts_persists b size (Some x) i y e h =
    persists_set b.links x.row (Some (standing_at x.item x.item.count (dialogue_at size at_rest))) refl i y e h

module _ (𝓗 : Hashing) where
  enters_master_persists : (b : Book) (random : List ℕ) (o : Option (At Key)) → Persists b.links (enters_master 𝓗 b random o).links
  enters_master_persists b random None i y e h = e
  enters_master_persists b random (Some k) i y e h = e

  enters_link_persists : (b : Book) (random tnonce : List ℕ) (m : At Master) (u : Option Suite) → Persists b.links (enters_link 𝓗 b random tnonce m u).links
  enters_link_persists b random tnonce m None i y e h = e
  enters_link_persists b random tnonce m (Some u) i y e h = by (entered_some b.links (new_link 𝓗 random tnonce u m) i y e)
    where
      by : (new_link 𝓗 random tnonce u m ≡ y) ⊎ (get_or b.links i None ≡ Some y) → get_or b.links i None ≡ Some y
      by (inl q) = never (sym h ∙ ap (λ (z : Link). owes (Some z)) (sym q))
      by (inr q) = q

  enters_connection_persists : (b : Book) (random tnonce : List ℕ) (u : Option Suite) (o : Option (At Master)) → Persists b.links (enters_connection 𝓗 b random tnonce u o).links
  enters_connection_persists b random tnonce u None i y e h = e
  enters_connection_persists b random tnonce u (Some m) i y e h = enters_link_persists b random tnonce m u i y e h

  pub persists_carried : (b : Book) (random : List ℕ) (a : Asked) → Persists b.links (carried_out 𝓗 b random a).links
  persists_carried b random layout i y e h = e
  persists_carried b random (ask_master ref mechanisms) i y e h = enters_master_persists b random (key_named b ref) i y e h
  persists_carried b random (ask_connection msa tnonce tsca tsim) i y e h = enters_connection_persists b random tnonce (common tsca tsim) (master_named b msa) i y e h
  persists_carried b random (ask_start csa size mac) i y e h = starts_persists b size (link_named b csa) i y e h
  persists_carried b random (end_master msa mac) i y e h = strikes_master_persists b (master_named b msa) i y e h
  persists_carried b random (end_connection csa mac) i y e h = strikes_link_persists b (link_named b csa) i y e h

pub persists_limit : (b : Book) (a : Asked) → Persists b.links (beyond_limit b a).links
persists_limit b layout i y e h = e
persists_limit b (ask_master ref mechanisms) i y e h = strikes_key_persists b (key_named b ref) i y e h
persists_limit b (ask_connection msa tnonce tsca tsim) i y e h = strikes_master_persists b (master_named b msa) i y e h
persists_limit b (ask_start csa size mac) i y e h = e
persists_limit b (end_master msa mac) i y e h = e
persists_limit b (end_connection csa mac) i y e h = e
