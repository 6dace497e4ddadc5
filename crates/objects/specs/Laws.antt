-- Laws of joined blocks, over all byte strings.
use Rattle.std.specs.Prelude.{◌≡◌, ℕ, ◌<◌, List, ◌++◌, length, take}
use Rattle.byte_lists.specs.Bytes.{Bytes}
use Rattle.objects.specs.Joined.{incomplete, bad, value, object}

pub record PrefixFree : Type 0 where
  -- every proper beginning of a complete object is incomplete
  pub beginnings : (bs v : List ℕ) → object bs ≡ value v → (n : ℕ) → n < length bs → object (take n bs) ≡ incomplete
  -- nothing longer than a complete object is one
  pub longer : (bs v more : List ℕ) → object bs ≡ value v → 0 < length more → object (bs ++ more) ≡ bad
  -- no bytes mend what is bad
  pub stays_bad : (bs more : List ℕ) → object bs ≡ bad → object (bs ++ more) ≡ bad
  -- no object has more than 258 bytes
  pub too_long : (bs : List ℕ) → Bytes bs → 258 < length bs → object bs ≡ bad
