-- The numbers of records and their places, and what a write leaves at each place.
use Rattle.std.proofs.Common.{◌≡◌, ℕ, ◌-◌, ◌<◌, ◌≤◌, Bool, true, false, cond, ◌&&◌, eqb, leb, List, [], length, take, set, replicate, Some, None, Option, refl, ap, ◌∙◌, arith}
use Rattle.std.proofs.lemmas.List.{length-set, get_or-set_same, get_or-set_other, get_or-replicate, take_all}
use Rattle.std.proofs.lemmas.Bool.{and_from, and_parts, le-leb, leb-true, eq-eqb, eqb-true}
use Rattle.apdu.specs.Reply.{reply as replying, says}
use Rattle.apdu.specs.declared.status.Status.TheVariants.{Done, WrongLength}
use Rattle.application.specs.Commands.{Turn, turn}
use Rattle.records.specs.File.{blank, place, record_at, read_at, write_at}

pub place_in : (n : ℕ) → 1 ≤ n → n ≤ 8 → place n ≡ Some (n - 1)
place_in n l h = ap (λ t. cond t (Some (n - 1)) None) (and_from (leb 1 n) (leb n 8) (le-leb 1 n l) (le-leb n 8 h))

-- Only a number from 1 on has a place, and its place is one below it.
placed_by : (n i : ℕ) (t : Bool) → (leb 1 n && leb n 8) ≡ t → cond t (Some (n - 1)) None ≡ Some i → (1 ≤ n) × (i ≡ n - 1)
placed_by n i true e f = (leb-true 1 n (and_parts (leb 1 n) (leb n 8) e).0, cc)
placed_by n i false e f = let z : ◌≡◌ {A = ℕ} 0 1 = cc in absurd (omega arith)

pub placed : (n i : ℕ) → place n ≡ Some i → (1 ≤ n) × (i ≡ n - 1)
placed n i e = placed_by n i (leb 1 n && leb n 8) refl e

pub blank_at : (i : ℕ) → i < 8 → record_at blank i ≡ replicate 16 0
blank_at i h = ap (take 16) (get_or-replicate 8 i (replicate 16 0) [] h)

-- Reading changes nothing, and replies by what stands at the place.
pub read_keeps : (rs : List (List ℕ)) (o : Option ℕ) → (read_at rs o).contents ≡ rs
read_keeps rs None = refl
read_keeps rs (Some i) = refl

pub read_same : (rs ss : List (List ℕ)) (o : Option ℕ) → ((i : ℕ) → o ≡ Some i → record_at rs i ≡ record_at ss i) → (read_at rs o).reply ≡ (read_at ss o).reply
read_same rs ss None h = refl
read_same rs ss (Some i) h = ap (λ ds. replying ds Done) (h i refl)

-- A write by the test of its length.
abbrev put : List (List ℕ) → ℕ → List ℕ → Bool → Turn (List (List ℕ))
put rs i ds t = cond t (turn [] Done (set rs i ds)) (turn [] WrongLength rs)

pub write_takes : (rs : List (List ℕ)) (i : ℕ) (ds : List ℕ) → length ds ≡ 16 → (write_at rs (Some i) ds).reply ≡ replying [] Done
write_takes rs i ds e = ap (λ t. (put rs i ds t).reply) (eq-eqb (length ds) 16 e)

pub write_length : (rs : List (List ℕ)) (o : Option ℕ) (ds : List ℕ) → length (write_at rs o ds).contents ≡ length rs
write_length rs None ds = refl
write_length rs (Some i) ds =
    elim (eqb (length ds) 16) as (λ t. length (put rs i ds t).contents ≡ length rs) [ true ↦ length-set rs i ds | false ↦ refl ]

-- At its own place a write leaves its data if it was answered 90 00,
write_here_by : (rs : List (List ℕ)) (i : ℕ) (ds : List ℕ) (t : Bool) → i < length rs → (t ≡ true → length ds ≡ 16)
    → record_at (put rs i ds t).contents i ≡ cond (says Done (put rs i ds t).reply) ds (record_at rs i)
write_here_by rs i ds true h e = let long = e refl in ap (take 16) (get_or-set_same rs i ds [] h) ∙ take_all 16 ds (omega arith)
write_here_by rs i ds false h e = refl

pub write_here : (rs : List (List ℕ)) (i : ℕ) (ds : List ℕ) → i < length rs
    → record_at (write_at rs (Some i) ds).contents i ≡ cond (says Done (write_at rs (Some i) ds).reply) ds (record_at rs i)
write_here rs i ds h = write_here_by rs i ds (eqb (length ds) 16) h (eqb-true (length ds) 16)

-- and at any other place what stood there.
pub write_other : (rs : List (List ℕ)) (o : Option ℕ) (ds : List ℕ) (i : ℕ) → ((j : ℕ) → o ≡ Some j → i ≡ j → ⊥)
    → record_at (write_at rs o ds).contents i ≡ record_at rs i
write_other rs None ds i h = refl
write_other rs (Some j) ds i h =
    elim (eqb (length ds) 16) as (λ t. record_at (put rs j ds t).contents i ≡ record_at rs i)
    [ true ↦ ap (take 16) (get_or-set_other rs j i ds [] (h j refl)) | false ↦ refl ]
