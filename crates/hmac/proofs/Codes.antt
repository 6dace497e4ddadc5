-- A code is 32 bytes, and two of them fill 64.
use Rattle.std.proofs.Common.{◌≡◌, ℕ, ◌≤◌, List, ◌++◌, length, drop, ap, ◌∙◌, arith, length-drop}
use borrow.Rule.Slice.PartMut.{put_mid, post_of}
use Rattle.std.proofs.lemmas.List.{take_at, drop_at, drop_all, append-nil}
use Rattle.byte_lists.specs.Bytes.{Bytes}
use Rattle.sha256.proofs.Digests.{length_digest, bytes_digest}
use Rattle.hmac.specs.Hmac.{hmac}

pub length_hmac : (key message : List ℕ) → length (hmac key message) ≡ 32
unfolding hmac
length_hmac key message = length_digest _

pub bytes_hmac : (key message : List ℕ) → Bytes (hmac key message)
unfolding hmac
bytes_hmac key message = bytes_digest _

pub halves : (one two area : List ℕ) → length one ≡ 32 → length area ≡ 64 → put_mid 32 32 (one ++ post_of 0 32 area) two ≡ one ++ two
halves one two area l k =
    let rest : length (post_of 0 32 area) ≤ 32 = simp length-drop (omega arith) in
    ap (λ y. y ++ (two ++ drop 32 (drop 32 (one ++ post_of 0 32 area)))) (take_at one (post_of 0 32 area) 32 l)
    ∙ ap (λ y. one ++ (two ++ drop 32 y)) (drop_at one (post_of 0 32 area) 32 l)
    ∙ ap (λ y. one ++ (two ++ y)) (drop_all 32 (post_of 0 32 area) rest)
    ∙ ap (λ y. one ++ y) (append-nil two)
