-- A digest is 32 bytes.
use Rattle.std.proofs.Common.{◌≡◌, ℕ, ◌*◌, ◌/◌, List, [], ◌∷◌, length, arith, length-append}
use Rattle.std.specs.List.{flat_map}
use Rattle.byte_lists.specs.Bytes.{Bytes}
use Rattle.byte_lists.specs.Numbers.{octets}
use Rattle.byte_lists.proofs.Digits.{length_octets, bytes_octets}
use Rattle.byte_lists.proofs.Facts.{bytes_append, bytes_none}
use Rattle.compression.specs.Compression.{in_order}
use Rattle.sha256.specs.Digest.{digest, hashed, padded}

length_words : (ws : List ℕ) → length (flat_map (octets 4) ws) ≡ 4 * length ws
length_words [] = omega arith
length_words (w ∷ ws) =
    let l = length-append (octets 4 w) (flat_map (octets 4) ws) in
    let k = length_octets 4 w in
    let n = length_words ws in
    omega arith

bytes_words : (ws : List ℕ) → Bytes (flat_map (octets 4) ws)
bytes_words [] = bytes_none
bytes_words (w ∷ ws) = bytes_append (octets 4 w) (flat_map (octets 4) ws) (bytes_octets 4 w) (bytes_words ws)

pub length_digest : (m : List ℕ) → length (digest m) ≡ 32
unfolding digest
length_digest m = length_words (in_order (hashed (length (padded m) / 64) (padded m)))

pub bytes_digest : (m : List ℕ) → Bytes (digest m)
unfolding digest
bytes_digest m = bytes_words (in_order (hashed (length (padded m) / 64) (padded m)))
