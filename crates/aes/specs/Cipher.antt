-- The cipher and its inverse under an expanded key, and under a key (FIPS 197, 5.1 and 5.3).
use Rattle.std.specs.Prelude.{ℕ, zero, suc, ◌*◌, List, take, drop}
use Rattle.byte_lists.specs.Bytes.{xors}
use Rattle.aes.specs.Steps.{sub_bytes, shift_rows, mix_columns, inv_sub_bytes, inv_shift_rows, inv_mix_columns}
use Rattle.aes.specs.KeyExpansion.{key_expansion}

-- The round key r of the expanded key w; AddRoundKey is `xors` with it.
abbrev pub round_key : List ℕ → ℕ → List ℕ
round_key w r = take 16 (drop (16 * r) w)

-- A round with the round key k.
abbrev pub round : List ℕ → List ℕ → List ℕ
round k s = xors (mix_columns (shift_rows (sub_bytes s))) k

-- The last round, without MixColumns.
abbrev pub final_round : List ℕ → List ℕ → List ℕ
final_round k s = xors (shift_rows (sub_bytes s)) k

-- The steps of InvCipher from the AddRoundKey with k to the next one: they undo a round.
abbrev pub inv_round : List ℕ → List ℕ → List ℕ
inv_round k s = inv_sub_bytes (inv_shift_rows (inv_mix_columns (xors s k)))

-- The first steps of InvCipher: they undo the last round.
abbrev pub inv_final_round : List ℕ → List ℕ → List ℕ
inv_final_round k s = inv_sub_bytes (inv_shift_rows (xors s k))

-- The rounds 1 to r.
unfoldable pub rounds : List ℕ → ℕ → List ℕ → List ℕ
rounds w zero s = s
rounds w (suc r) s = round (round_key w (suc r)) (rounds w r s)

-- The rounds r to 1 undone.
unfoldable pub inv_rounds : List ℕ → ℕ → List ℕ → List ℕ
inv_rounds w zero s = s
inv_rounds w (suc r) s = inv_rounds w r (inv_round (round_key w (suc r)) s)

-- Cipher.
unfoldable pub encrypted : List ℕ → List ℕ → List ℕ
encrypted w s = final_round (round_key w 10) (rounds w 9 (xors s (round_key w 0)))

-- InvCipher.
unfoldable pub decrypted : List ℕ → List ℕ → List ℕ
decrypted w s = xors (inv_rounds w 9 (inv_final_round (round_key w 10) s)) (round_key w 0)

-- AES-128: the block s encrypted under the key.
unfoldable pub aes_encrypt : List ℕ → List ℕ → List ℕ
aes_encrypt key s = encrypted (key_expansion key) s

-- AES-128: the block s decrypted under the key.
unfoldable pub aes_decrypt : List ℕ → List ℕ → List ℕ
aes_decrypt key s = decrypted (key_expansion key) s
