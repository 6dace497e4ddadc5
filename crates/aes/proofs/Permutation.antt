-- AES under a key of bytes: each direction keeps blocks and undoes the other.
use Rattle.std.proofs.Common.{ℕ, zero, suc, ◌+◌, ◌-◌, ◌*◌, ◌/◌, ◌%◌, ◌<◌, Bool, true, false, cond, eqb, List, drop, replicate, lit<}
use Rattle.byte_lists.specs.Bytes.{Bytes, xors}
use Rattle.byte_lists.proofs.Facts.{bytes_append, bytes_cons, bytes_drop, bytes_take, bytes_xors, bytes_zeros}
use Rattle.cipher.specs.Permutes.{Permutes}
use Rattle.sbox.specs.Tables.{sub}
use Rattle.sbox.proofs.Rule.{sub_byte}
use Rattle.aes.specs.Steps.{sub_bytes}
use Rattle.aes.specs.KeyExpansion.{word, rot_word, x_power, rcon, joining, extended, key_expansion}
use Rattle.aes.specs.Cipher.{aes_encrypt, aes_decrypt}
use Rattle.aes.specs.Linear.{xtime_byte}
use Rattle.aes.specs.Places.{bytes_map}
use Rattle.aes.specs.Undo.{encrypted_block, decrypted_block, decrypted_encrypted, encrypted_decrypted}

power_byte : (j : ℕ) → x_power j < 256
power_byte zero = lit< tt
power_byte (suc j) = xtime_byte (x_power j) (power_byte j)

bytes_rcon : (j : ℕ) → Bytes (rcon j)
bytes_rcon j = bytes_cons (x_power (j - 1)) (replicate 3 0) (power_byte (j - 1)) (bytes_zeros 3)

bytes_sub : (s : List ℕ) → Bytes (sub_bytes s)
unfolding sub_bytes
bytes_sub s = bytes_map sub sub_byte s

bytes_joining : (i : ℕ) (t : List ℕ) (w : Bool) → Bytes t → Bytes (cond w (xors (sub_bytes (rot_word t)) (rcon (i / 4))) t)
bytes_joining i t true h = bytes_xors (sub_bytes (rot_word t)) (rcon (i / 4)) (bytes_sub (rot_word t)) (bytes_rcon (i / 4))
bytes_joining i t false h = h

bytes_word : (w : List ℕ) (i : ℕ) → Bytes w → Bytes (word w i)
bytes_word w i h = bytes_take 4 (drop (4 * i) w) (bytes_drop (4 * i) w h)

bytes_extended : (key : List ℕ) (n : ℕ) → Bytes key → Bytes (extended key n)
unfolding extended
bytes_extended key zero h = h
bytes_extended key (suc n) h =
    let w : List ℕ = extended key n in
    let g : Bytes w = bytes_extended key n h in
    bytes_append w (xors (word w n) (joining (n + 4) (word w (n + 3)))) g
    (bytes_xors (word w n) (joining (n + 4) (word w (n + 3))) (bytes_word w n g) (bytes_joining (n + 4) (word w (n + 3)) (eqb ((n + 4) % 4) 0) (bytes_word w (n + 3) g)))

pub aes_permutes : (key : List ℕ) → Bytes key → Permutes 16 (aes_encrypt key) (aes_decrypt key)
unfolding aes_encrypt aes_decrypt
aes_permutes key h =
    let w : List ℕ = key_expansion key in
    let g : Bytes w = bytes_extended key 40 h in
    record { forth = encrypted_block w g; back = decrypted_block w g; undoes = decrypted_encrypted w g; redoes = encrypted_decrypted w g }
