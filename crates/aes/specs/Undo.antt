-- Each step of the cipher is undone and gives a block, and so the whole.
use Rattle.std.specs.Prelude.{◌≡◌, ℕ, zero, suc, ◌*◌, ◌<◌, List, [], ◌∷◌, map, drop}
use Rattle.std.proofs.Math.Path.{refl, ap}
use Rattle.std.proofs.Common.{◌∙◌}
use Rattle.std.proofs.lemmas.List.{length-map}
use Rattle.byte_lists.specs.Bytes.{Bytes, Block, xors}
use Rattle.byte_lists.proofs.Facts.{xors_undone, length_xors, bytes_xors, bytes_drop, bytes_take}
use Rattle.sbox.specs.Tables.{sub, inv_sub}
use Rattle.sbox.proofs.Rule.{sub_inv_sub, inv_sub_sub, sub_byte, inv_sub_byte}
use Rattle.aes.specs.Steps.{sub_bytes, inv_sub_bytes, shifted, unshifted, shift_rows, inv_shift_rows, mix_columns, inv_mix_columns}
use Rattle.aes.specs.Cipher.{round_key, round, final_round, inv_round, inv_final_round, rounds, inv_rounds, encrypted, decrypted}
use Rattle.aes.specs.MixUndone.{mix_undone, inv_mix_undone, bytes_mix, bytes_inv_mix, length_columns}
use Rattle.aes.specs.Places.{picked_undone, bytes_map, bytes_picked}

map_undone : (f g : ℕ → ℕ) → ((x : ℕ) → x < 256 → f (g x) ≡ x) → (xs : List ℕ) → Bytes xs → map f (map g xs) ≡ xs
map_undone f g e [] h = refl
map_undone f g e (x ∷ xs) h = let a = e x (h 0) in let b = map_undone f g e xs (λ i. h (suc i)) in cc

-- The steps of a round give blocks.
subs : (s : List ℕ) → Block 16 s → Block 16 (sub_bytes s)
unfolding sub_bytes
subs s h = (length-map s sub ∙ h.0, bytes_map sub sub_byte s)

inv_subs : (s : List ℕ) → Block 16 s → Block 16 (inv_sub_bytes s)
unfolding inv_sub_bytes
inv_subs s h = (length-map s inv_sub ∙ h.0, bytes_map inv_sub inv_sub_byte s)

shifts : (s : List ℕ) → Block 16 s → Block 16 (shift_rows s)
unfolding shift_rows
shifts s h = (refl, bytes_picked shifted s h.1)

inv_shifts : (s : List ℕ) → Block 16 s → Block 16 (inv_shift_rows s)
unfolding inv_shift_rows
inv_shifts s h = (refl, bytes_picked unshifted s h.1)

mixes : (s : List ℕ) → Block 16 s → Block 16 (mix_columns s)
mixes s h = (length_columns 2 3 1 1 s ∙ h.0, bytes_mix s h.1)

inv_mixes : (s : List ℕ) → Block 16 s → Block 16 (inv_mix_columns s)
inv_mixes s h = (length_columns 14 11 13 9 s ∙ h.0, bytes_inv_mix s h.1)

adds : (s k : List ℕ) → Bytes k → Block 16 s → Block 16 (xors s k)
adds s k g h = (length_xors s k ∙ h.0, bytes_xors s k h.1 g)

module _ (k : List ℕ) (g : Bytes k) where
  round_block : (s : List ℕ) → Block 16 s → Block 16 (round k s)
  round_block s h = adds (mix_columns (shift_rows (sub_bytes s))) k g (mixes (shift_rows (sub_bytes s)) (shifts (sub_bytes s) (subs s h)))

  final_round_block : (s : List ℕ) → Block 16 s → Block 16 (final_round k s)
  final_round_block s h = adds (shift_rows (sub_bytes s)) k g (shifts (sub_bytes s) (subs s h))

  inv_round_block : (s : List ℕ) → Block 16 s → Block 16 (inv_round k s)
  inv_round_block s h = inv_subs (inv_shift_rows (inv_mix_columns (xors s k))) (inv_shifts (inv_mix_columns (xors s k)) (inv_mixes (xors s k) (adds s k g h)))

  inv_final_round_block : (s : List ℕ) → Block 16 s → Block 16 (inv_final_round k s)
  inv_final_round_block s h = inv_subs (inv_shift_rows (xors s k)) (inv_shifts (xors s k) (adds s k g h))

  round_undone : (s : List ℕ) → Block 16 s → inv_round k (round k s) ≡ s
  unfolding sub_bytes inv_sub_bytes shift_rows inv_shift_rows
  round_undone s h =
      ap (λ y. inv_sub_bytes (inv_shift_rows (inv_mix_columns y))) (xors_undone (mix_columns (shift_rows (sub_bytes s))) k)
      ∙ ap (λ y. inv_sub_bytes (inv_shift_rows y)) (mix_undone (shift_rows (sub_bytes s)) (shifts (sub_bytes s) (subs s h)).1)
      ∙ ap (λ y. inv_sub_bytes y) (picked_undone unshifted shifted (sub_bytes s) 16 tt refl (subs s h).0)
      ∙ map_undone inv_sub sub inv_sub_sub s h.1

  final_round_undone : (s : List ℕ) → Block 16 s → inv_final_round k (final_round k s) ≡ s
  unfolding sub_bytes inv_sub_bytes shift_rows inv_shift_rows
  final_round_undone s h =
      ap (λ y. inv_sub_bytes (inv_shift_rows y)) (xors_undone (shift_rows (sub_bytes s)) k)
      ∙ ap (λ y. inv_sub_bytes y) (picked_undone unshifted shifted (sub_bytes s) 16 tt refl (subs s h).0)
      ∙ map_undone inv_sub sub inv_sub_sub s h.1

  inv_round_undone : (s : List ℕ) → Block 16 s → round k (inv_round k s) ≡ s
  unfolding sub_bytes inv_sub_bytes shift_rows inv_shift_rows
  inv_round_undone s h =
      let a = adds s k g h in
      let b = inv_mixes (xors s k) a in
      let c = inv_shifts (inv_mix_columns (xors s k)) b in
      ap (λ y. xors (mix_columns (shift_rows y)) k) (map_undone sub inv_sub sub_inv_sub (inv_shift_rows (inv_mix_columns (xors s k))) c.1)
      ∙ ap (λ y. xors (mix_columns y) k) (picked_undone shifted unshifted (inv_mix_columns (xors s k)) 16 tt refl b.0)
      ∙ ap (λ y. xors y k) (inv_mix_undone (xors s k) a.1)
      ∙ xors_undone s k

  inv_final_round_undone : (s : List ℕ) → Block 16 s → final_round k (inv_final_round k s) ≡ s
  unfolding sub_bytes inv_sub_bytes shift_rows inv_shift_rows
  inv_final_round_undone s h =
      let a = adds s k g h in
      let c = inv_shifts (xors s k) a in
      ap (λ y. xors (shift_rows y) k) (map_undone sub inv_sub sub_inv_sub (inv_shift_rows (xors s k)) c.1)
      ∙ ap (λ y. xors y k) (picked_undone shifted unshifted (xors s k) 16 tt refl a.0)
      ∙ xors_undone s k

module _ (w : List ℕ) (g : Bytes w) where
  key_bytes : (r : ℕ) → Bytes (round_key w r)
  key_bytes r = bytes_take 16 (drop (16 * r) w) (bytes_drop (16 * r) w g)

  rounds_block : (r : ℕ) (s : List ℕ) → Block 16 s → Block 16 (rounds w r s)
  unfolding rounds
  rounds_block zero s h = h
  rounds_block (suc r) s h = round_block (round_key w (suc r)) (key_bytes (suc r)) (rounds w r s) (rounds_block r s h)

  inv_rounds_block : (r : ℕ) (s : List ℕ) → Block 16 s → Block 16 (inv_rounds w r s)
  unfolding inv_rounds
  inv_rounds_block zero s h = h
  inv_rounds_block (suc r) s h = inv_rounds_block r (inv_round (round_key w (suc r)) s) (inv_round_block (round_key w (suc r)) (key_bytes (suc r)) s h)

  rounds_undone : (r : ℕ) (s : List ℕ) → Block 16 s → inv_rounds w r (rounds w r s) ≡ s
  unfolding rounds inv_rounds
  rounds_undone zero s h = refl
  rounds_undone (suc r) s h = ap (inv_rounds w r) (round_undone (round_key w (suc r)) (key_bytes (suc r)) (rounds w r s) (rounds_block r s h)) ∙ rounds_undone r s h

  inv_rounds_undone : (r : ℕ) (s : List ℕ) → Block 16 s → rounds w r (inv_rounds w r s) ≡ s
  unfolding rounds inv_rounds
  inv_rounds_undone zero s h = refl
  inv_rounds_undone (suc r) s h =
      ap (round (round_key w (suc r))) (inv_rounds_undone r (inv_round (round_key w (suc r)) s) (inv_round_block (round_key w (suc r)) (key_bytes (suc r)) s h))
      ∙ inv_round_undone (round_key w (suc r)) (key_bytes (suc r)) s h

  pub encrypted_block : (s : List ℕ) → Block 16 s → Block 16 (encrypted w s)
  unfolding encrypted decrypted
  encrypted_block s h = final_round_block (round_key w 10) (key_bytes 10) _ (rounds_block 9 _ (adds s (round_key w 0) (key_bytes 0) h))

  pub decrypted_block : (s : List ℕ) → Block 16 s → Block 16 (decrypted w s)
  unfolding encrypted decrypted
  decrypted_block s h = adds _ (round_key w 0) (key_bytes 0) (inv_rounds_block 9 _ (inv_final_round_block (round_key w 10) (key_bytes 10) s h))

  pub decrypted_encrypted : (s : List ℕ) → Block 16 s → decrypted w (encrypted w s) ≡ s
  unfolding encrypted decrypted
  decrypted_encrypted s h =
      let a = adds s (round_key w 0) (key_bytes 0) h in
      ap (λ y. xors (inv_rounds w 9 y) (round_key w 0)) (final_round_undone (round_key w 10) (key_bytes 10) (rounds w 9 (xors s (round_key w 0))) (rounds_block 9 (xors s (round_key w 0)) a))
      ∙ ap (λ y. xors y (round_key w 0)) (rounds_undone 9 (xors s (round_key w 0)) a)
      ∙ xors_undone s (round_key w 0)

  pub encrypted_decrypted : (s : List ℕ) → Block 16 s → encrypted w (decrypted w s) ≡ s
  unfolding encrypted decrypted
  encrypted_decrypted s h =
      let a = inv_final_round_block (round_key w 10) (key_bytes 10) s h in
      ap (λ y. final_round (round_key w 10) (rounds w 9 y)) (xors_undone (inv_rounds w 9 (inv_final_round (round_key w 10) s)) (round_key w 0))
      ∙ ap (final_round (round_key w 10)) (inv_rounds_undone 9 (inv_final_round (round_key w 10) s) a)
      ∙ inv_final_round_undone (round_key w 10) (key_bytes 10) s h
