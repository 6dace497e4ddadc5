-- DES is undone by its round keys in the opposite order.
use Rattle.std.specs.Prelude.{◌≡◌, ℕ, suc, ◌-◌, ◌<◌, Bool, true, T, List, [], ◌∷◌, ◌++◌, reverse, length, take, drop, nat_lt, slice_index, slice_index_or}
use Rattle.std.proofs.Math.Path.{refl, ap}
use Rattle.std.proofs.Common.{◌∙◌, arith, leb→le, length-append, length-take, length-drop, take-append-drop}
use Rattle.std.proofs.lemmas.List.{get_or-map, take_at, drop_at, reverse-append}
use Rattle.byte_lists.specs.Bytes.{both}
use Rattle.byte_lists.proofs.Facts.{length_xors, xors_undone}
use Rattle.byte_lists.proofs.Tables.{both_left, both_right}
use Rattle.des_tables.specs.Bits.{chosen}
use Rattle.des_tables.specs.Tables.{ip, fp}
use Rattle.des.specs.Feistel.{Halves, halves, crossed, turn, turns}
use Rattle.des.specs.Des.{mixed, crypt}
use Rattle.des.specs.Listed.{range, chosen_all}

abbrev swapped : Halves → Halves
swapped h = record { left = h.right; right = h.left }

-- the turns, for any function of a round
module _ (f : List ℕ → List ℕ → List ℕ) where
  turns_push : (ks : List (List ℕ)) (k : List ℕ) (h : Halves) → turns f (ks ++ (k ∷ [])) h ≡ turn f k (turns f ks h)
  unfolding turns
  turns_push [] k h = refl
  turns_push (x ∷ ks) k h = turns_push ks k (turn f x h)

  turn_undone : (k : List ℕ) (h : Halves) → turn f k (swapped (turn f k h)) ≡ swapped h
  turn_undone k h = ap (λ l. record { left = h.right; right = l }) (xors_undone h.left (f h.right k))

  turns_undone : (ks : List (List ℕ)) (h : Halves) → turns f (reverse ks) (swapped (turns f ks h)) ≡ swapped h
  unfolding turns
  turns_undone [] h = refl
  turns_undone (k ∷ ks) h =
      ap (λ rs. turns f rs (swapped (turns f ks (turn f k h)))) (reverse-append (k ∷ []) ks)
      ∙ turns_push (reverse ks) k (swapped (turns f ks (turn f k h)))
      ∙ ap (turn f k) (turns_undone ks (turn f k h))
      ∙ turn_undone k h

-- one choice after another is one choice
within : ℕ → List ℕ → Bool
within n [] = true
within n (q ∷ qs) = both (nat_lt (q - 1) n) (within n qs)

chosen_chosen : (qs ps xs : List ℕ) → T (within (length ps) qs) → chosen qs (chosen ps xs) ≡ chosen (chosen qs ps) xs
unfolding within
chosen_chosen [] ps xs t = refl
chosen_chosen (q ∷ qs) ps xs t =
    let h : q - 1 < length ps = leb→le (suc (q - 1)) (length ps) (both_left (nat_lt (q - 1) (length ps)) (within (length ps) qs) t) in
    let e : slice_index_or (chosen ps xs) (q - 1) 0 ≡ slice_index_or xs (slice_index ps (q - 1) - 1) 0 = get_or-map (λ p. slice_index xs (p - 1)) ps (q - 1) 0 0 h in
    let ih = chosen_chosen qs ps xs (both_right (nat_lt (q - 1) (length ps)) (within (length ps) qs) t) in
    cc

chosen_undone : (qs ps xs : List ℕ) (n : ℕ) → T (within (length ps) qs) → chosen qs ps ≡ range 0 n → length xs ≡ n → chosen qs (chosen ps xs) ≡ xs
chosen_undone qs ps xs n t e l = chosen_chosen qs ps xs t ∙ ap (λ rs. chosen rs xs) e ∙ chosen_all n xs l

fp_ip : (xs : List ℕ) → length xs ≡ 64 → chosen fp (chosen ip xs) ≡ xs
unfolding ip fp within range
fp_ip xs l = chosen_undone fp ip xs 64 tt refl l

ip_fp : (xs : List ℕ) → length xs ≡ 64 → chosen ip (chosen fp xs) ≡ xs
unfolding ip fp within range
ip_fp xs l = chosen_undone ip fp xs 64 tt refl l

record Even (h : Halves) : Type 0 where
  pub one : length h.left ≡ 32
  pub two : length h.right ≡ 32

turns_even : (f : List ℕ → List ℕ → List ℕ) (ks : List (List ℕ)) (h : Halves) → Even h → Even (turns f ks h)
unfolding turns
turns_even f [] h e = e
turns_even f (k ∷ ks) h e = turns_even f ks (turn f k h) (record { one = e.two; two = length_xors h.left (f h.right k) ∙ e.one })

halves_even : (xs : List ℕ) → length xs ≡ 64 → Even (halves xs)
halves_even xs l = record { one = length-take 32 xs ∙ omega arith; two = length-drop 32 xs ∙ omega arith }

halves_crossed : (h : Halves) → Even h → halves (crossed h) ≡ swapped h
halves_crossed h e =
    let a : take 32 (crossed h) ≡ h.right = take_at h.right h.left 32 e.two in
    let b : drop 32 (crossed h) ≡ h.left = drop_at h.right h.left 32 e.two in
    ap (λ y. record { left = y; right = drop 32 (crossed h) }) a ∙ ap (λ y. record { left = h.right; right = y }) b

length_ip : (xs : List ℕ) → length (chosen ip xs) ≡ 64
unfolding ip
length_ip xs = refl

pub length_crypt : (ks : List (List ℕ)) (xs : List ℕ) → length (crypt ks xs) ≡ 64
unfolding crypt fp
length_crypt ks xs = refl

pub crypt_undone : (ks : List (List ℕ)) (xs : List ℕ) → length xs ≡ 64 → crypt (reverse ks) (crypt ks xs) ≡ xs
unfolding crypt
crypt_undone ks xs l =
    let p : Halves = halves (chosen ip xs) in
    let h : Halves = turns mixed ks p in
    let e : Even h = turns_even mixed ks p (halves_even (chosen ip xs) (length_ip xs)) in
    let lh : length (crossed h) ≡ 64 = length-append h.right h.left ∙ omega (arith, e.one, e.two) in
    ap (λ y. chosen fp (crossed (turns mixed (reverse ks) (halves y)))) (ip_fp (crossed h) lh)
    ∙ ap (λ y. chosen fp (crossed (turns mixed (reverse ks) y))) (halves_crossed h e)
    ∙ ap (λ y. chosen fp (crossed y)) (turns_undone mixed ks p)
    ∙ ap (chosen fp) (take-append-drop 32 (chosen ip xs))
    ∙ fp_ip xs l
