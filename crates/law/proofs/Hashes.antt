-- The expansion has 64 bytes.
use Rattle.std.proofs.Common.{ℕ, List, [], ◌∷◌, ◌++◌, length-append}
use Rattle.byte_lists.specs.Bytes.{Block}
use Rattle.byte_lists.proofs.Facts.{bytes_append}
use Rattle.hmac.specs.Hmac.{hmac}
use Rattle.hmac.specs.Expansion.{turn, stream}
use Rattle.hmac.proofs.Codes.{length_hmac, bytes_hmac}
use Rattle.law.specs.Associations.{Sized}
use Rattle.law.specs.Hashes.{keyed}

two_codes : (a b c d : List ℕ) → Block 64 (hmac a b ++ hmac c d)
two_codes a b c d = (simp (length-append, length_hmac), bytes_append (hmac a b) (hmac c d) (bytes_hmac a b) (bytes_hmac c d))

pub keyed_sized : Sized keyed
unfolding turn stream
keyed_sized key seed = two_codes key (seed ++ 1 ∷ []) key (hmac key (seed ++ 1 ∷ []) ++ (seed ++ 2 ∷ []))
