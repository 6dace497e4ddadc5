-- A check is a block.
use Rattle.std.specs.Prelude.{◌≡◌, ℕ, ◌-◌, ◌*◌, ◌<◌, ◌≤◌, Bool, true, false, List, ◌∷◌, length, drop, replicate, ◌==◌, nat_eq, refl}
use Rattle.std.proofs.Common.{◌∙◌, arith, lit<, length-append, length-drop}
use Rattle.std.proofs.lemmas.List.{length-replicate}
use Rattle.std.proofs.lemmas.Bool.{eqb-true, eqb-false, cond_both}
use Rattle.byte_lists.specs.Bytes.{Bytes, Block, xors}
use Rattle.byte_lists.proofs.Facts.{bytes_cons, bytes_append, bytes_drop, bytes_zeros, length_xors, bytes_xors}
use Rattle.cmac.specs.Links.{block_absorbed}
use Rattle.cmac.specs.Shift.{block_doubled}
use Rattle.cmac.specs.Cmac.{zeros, doubled, subkey, padded, filled, masked, absorbed, before_last, cmac}

-- Behind the blocks before the last one, at most a block is left.
pub last_part : (message : List ℕ) → length (drop (16 * before_last (length message)) message) ≤ 16
last_part message = simp length-drop (omega arith)

block_filled : (part : List ℕ) → length part ≤ 16 → Bytes part → Block 16 (filled part)
block_filled part h g = cond_both (length part == 16) part (padded part) (Block 16) whole cut
  where
    whole : nat_eq (length part) 16 ≡ true → Block 16 part
    whole e = (eqb-true (length part) 16 e, g)

    cut : nat_eq (length part) 16 ≡ false → Block 16 (padded part)
    cut e =
        let short : length part < 16 = omega (arith, eqb-false (length part) 16 e) in
        let fill : List ℕ = replicate (15 - length part) 0 in
        (simp (length-append, length-replicate) (omega arith), bytes_append part (0x80 ∷ fill) g (bytes_cons 0x80 fill (lit< tt) (bytes_zeros (15 - length part))))

module _ (E : List ℕ → List ℕ) (forth : (b : List ℕ) → Block 16 b → Block 16 (E b)) where
  block_joined : (a b : List ℕ) → Block 16 a → Block 16 b → Block 16 (xors a b)
  block_joined a b (l, h) (k, g) = (length_xors a b ∙ l, bytes_xors a b h g)

  block_twice : Block 16 (doubled (E zeros))
  block_twice = block_doubled (E zeros) (forth zeros (refl, bytes_zeros 16))

  block_subkey : (whole : Bool) → Block 16 (subkey E whole)
  block_subkey true = block_twice
  block_subkey false = block_doubled (doubled (E zeros)) block_twice

  pub block_cmac : (message : List ℕ) → Bytes message → Block 16 (cmac E message)
  unfolding cmac
  block_cmac message h =
      let m = before_last (length message) in
      let part = drop (16 * m) message in
      forth (xors (absorbed E m zeros message) (masked E part))
      (block_joined (absorbed E m zeros message) (masked E part)
      (block_absorbed E forth m zeros message (refl, bytes_zeros 16) h)
      (block_joined (subkey E (length part == 16)) (filled part) (block_subkey (length part == 16)) (block_filled part (last_part message) (bytes_drop (16 * m) message h))))
