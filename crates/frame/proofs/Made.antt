-- A frame's bytes and its length.
use Rattle.std.proofs.Common.{◌≡◌, ℕ, ◌+◌, ◌<◌, List, ◌++◌, length, replicate, ap, ◌∙◌, arith, lit<, length-append}
use Rattle.std.proofs.lemmas.List.{length-replicate}
use Rattle.byte_lists.specs.Bytes.{Bytes, Block}
use Rattle.byte_lists.proofs.Facts.{bytes_cons, bytes_append, bytes_zeros}
use Rattle.byte_lists.proofs.Digits.{bytes_octets}
use Rattle.sealing.specs.Suites.{direction_byte}
use Rattle.sealing.specs.Sealing.{Text, Good}
use Rattle.sealing.specs.declared.suite.Direction.{Direction}
use Rattle.sealing.specs.declared.suite.Direction.TheVariants.{Command, Reply}
use Rattle.frame.specs.Frame.{front, missing, frame}
use Rattle.frame.proofs.Laws.{length_front}

direction_small : (d : Direction) → direction_byte d < 256
direction_small Command = lit< tt
direction_small Reply = lit< tt

pub bytes_front : (t : Text) → Good t → Bytes (front t)
bytes_front t g = bytes_cons (direction_byte t.direction) _ (direction_small t.direction) (bytes_append _ _ (bytes_octets 8 t.number) (bytes_append _ _ (bytes_octets 2 (length t.body)) g.bytes))

module _ (n c : ℕ) (check : List ℕ → List ℕ) (fixed : (m : List ℕ) → Bytes m → Block c (check m)) where
  pub length_frame : (t : Text) → Good t → length (frame n check t) ≡ 11 + length t.body + c + missing n (11 + length t.body + c)
  unfolding frame
  length_frame t g =
      let l : length (front t ++ check (front t)) ≡ 11 + length t.body + c = length-append (front t) (check (front t)) ∙ omega (arith, length_front t, (fixed (front t) (bytes_front t g)).0) in
      length-append (front t ++ check (front t)) _ ∙ ap (λ k. length (front t ++ check (front t)) + k) (length-replicate (missing n (length (front t ++ check (front t)))) 0) ∙ ap (λ k. k + missing n k) l

  pub bytes_frame : (t : Text) → Good t → Bytes (frame n check t)
  unfolding frame
  bytes_frame t g =
      let m : ℕ = missing n (length (front t ++ check (front t))) in
      bytes_append (front t ++ check (front t)) (replicate m 0) (bytes_append (front t) (check (front t)) (bytes_front t g) (fixed (front t) (bytes_front t g)).1) (bytes_zeros m)
