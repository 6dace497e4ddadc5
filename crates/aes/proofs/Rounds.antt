-- The loops over the rounds, and the round keys as words.
use Rattle.std.proofs.Common.{◌≡◌, ℕ, suc, ◌+◌, ◌-◌, ◌*◌, ◌/◌, ◌<◌, ◌≤◌, List, [], length, get_or, take, drop, reverse, sym, refl, ap, ◌∙◌, add-one, arith, length-take, length-drop}
use Rattle.std.proofs.lemmas.List.{get_or-take, get_or-drop, get_or-reverse, get_or_default}
use Rattle.std.specs.Simd.{first_chunks}
use Rattle.byte_lists.specs.Bytes.{xors}
use Rattle.aes.specs.Cipher.{round_key, round, final_round, inv_round, inv_final_round, rounds, inv_rounds, encrypted, decrypted}
use Rattle.aes.specs.Words.{bytes_of}
use Rattle.aes.proofs.Chunks.{chunk_of}
use Rattle.aes.specs.Parts.{bytes_dropped, bytes_taken}

pub round_key_words : (cs : List (List ℕ)) (ws : List ℕ) (r : ℕ) → cs ≡ first_chunks 4 (length ws / 4) ws → length ws ≡ 44 → r < 11 → bytes_of (get_or cs r []) ≡ round_key (bytes_of ws) r
round_key_words cs ws r f h g =
    let e : 16 * r ≡ 4 * (4 * r) = omega arith in
    let l : 4 ≤ length (drop (4 * r) ws) = simp length-drop (omega arith) in
    ap bytes_of (chunk_of cs (length ws / 4) 11 r ws f (ap (λ n. n / 4) h) g)
    ∙ sym (bytes_taken 4 (drop (4 * r) ws) l)
    ∙ ap (take 16) (sym (ap (λ n. drop n (bytes_of ws)) e ∙ bytes_dropped (4 * r) ws (omega arith)))

-- the keys of the rounds 1 to 9, in their order and from the last to the first
module _ (cs : List (List ℕ)) (w : List ℕ) (l : length cs ≡ 11) (each : (r : ℕ) → r < 11 → bytes_of (get_or cs r []) ≡ round_key w r) where
  pub middle_long : length (take 9 (drop 1 cs)) ≡ 9
  middle_long = omega (arith, length-take 9 (drop 1 cs), length-drop 1 cs)

  pub middle_key : (i : ℕ) → i < 9 → bytes_of (get_or (take 9 (drop 1 cs)) i []) ≡ round_key w (i + 1)
  middle_key i h =
      let e : 1 + i ≡ i + 1 = omega arith in
      ap bytes_of (get_or-take 9 (drop 1 cs) i [] h ∙ get_or-drop 1 cs i [] ∙ ap (λ n. get_or cs n []) e) ∙ each (i + 1) (omega arith)

  pub middle_back : (i : ℕ) (k : List ℕ) → i < 9 → k ≡ get_or (reverse (take 9 (drop 1 cs))) i k → bytes_of k ≡ round_key w (9 - i)
  middle_back i k h e =
      let m : List (List ℕ) = take 9 (drop 1 cs) in
      let n : length m - 1 - i ≡ 8 - i = omega (arith, middle_long) in
      let p : 8 - i + 1 ≡ 9 - i = omega arith in
      ap bytes_of (e ∙ get_or-reverse m i k (omega (arith, middle_long)) ∙ ap (λ j. get_or m j k) n ∙ get_or_default m (8 - i) k [] (omega (arith, middle_long)))
      ∙ middle_key (8 - i) (omega arith)
      ∙ ap (round_key w) p

module _ (w : List ℕ) where
  pub rounds_none : (s : List ℕ) → s ≡ rounds w 0 s
  unfolding rounds
  rounds_none s = refl

  pub rounds_more : (s t x : List ℕ) (i : ℕ) → x ≡ round (round_key w (i + 1)) t → t ≡ rounds w i s → x ≡ rounds w (i + 1) s
  unfolding rounds
  rounds_more s t x i e h = e ∙ ap (λ n. round (round_key w n) t) (add-one i) ∙ ap (round (round_key w (suc i))) h ∙ ap (λ n. rounds w n s) (sym (add-one i))

  pub inv_rounds_more : (s t x : List ℕ) (i : ℕ) → i < 9 → x ≡ inv_round (round_key w (9 - i)) s → inv_rounds w (9 - i) s ≡ t → inv_rounds w (9 - (i + 1)) x ≡ t
  unfolding inv_rounds
  inv_rounds_more s t x i h e was =
      let m : ℕ = 9 - (i + 1) in
      let q : 9 - i ≡ suc m = omega arith in
      ap (inv_rounds w m) (e ∙ ap (λ n. inv_round (round_key w n) s) q) ∙ sym (ap (λ n. inv_rounds w n s) q) ∙ was

  pub encrypted_made : (b s t d first last : List ℕ) (i : ℕ) → i ≡ 9 → s ≡ xors b first → first ≡ round_key w 0 → t ≡ rounds w i s → d ≡ final_round last t → last ≡ round_key w 10 → d ≡ encrypted w b
  unfolding encrypted
  encrypted_made b s t d first last i n p p' q r r' =
      r ∙ ap (λ y. final_round y t) r' ∙ ap (final_round (round_key w 10)) (q ∙ ap (λ j. rounds w j s) n ∙ ap (rounds w 9) (p ∙ ap (xors b) p'))

  pub decrypted_made : (b s t d first last : List ℕ) (i : ℕ) → i ≡ 9 → s ≡ inv_final_round last b → last ≡ round_key w 10 → inv_rounds w (9 - i) t ≡ inv_rounds w 9 s
      → d ≡ xors t first → first ≡ round_key w 0 → d ≡ decrypted w b
  unfolding decrypted inv_rounds
  decrypted_made b s t d first last i n p p' q r r' =
      let z : t ≡ inv_rounds w 9 s = ap (λ j. inv_rounds w (9 - j) t) (sym n) ∙ q in
      r ∙ ap (xors t) r' ∙ ap (λ y. xors y (round_key w 0)) (z ∙ ap (inv_rounds w 9) (p ∙ ap (λ y. inv_final_round y b) p'))
