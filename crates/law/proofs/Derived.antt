-- The keys that are cut from expanded material are 40 bytes.
use Rattle.std.proofs.Common.{ℕ, List, ◌++◌, take, drop, length-drop, length-take}
use Rattle.byte_lists.specs.Bytes.{Block}
use Rattle.byte_lists.proofs.Facts.{bytes_take, bytes_drop}
use Rattle.law.specs.Associations.{Hashing, Sized, Master, nonce_of, material, sealer_keys}

cut_block : (t : List ℕ) → Block 64 t → Block 40 (take 40 (drop 16 t))
cut_block t b = (simp (length-take, length-drop, b.0), bytes_take 40 (drop 16 t) (bytes_drop 16 t b.1))

pub sealer_bytes : (𝓗 : Hashing) → Sized 𝓗 → (m : Master) (random tnonce : List ℕ) → Block 40 (sealer_keys 𝓗 m random tnonce)
sealer_bytes 𝓗 d m random tnonce = cut_block (material 𝓗 m random tnonce) (d m.secret (nonce_of random ++ tnonce))
