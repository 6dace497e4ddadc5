-- A key load as it is written, and the law of reading: exactly what is written so is loaded.
use Rattle.std.specs.Prelude.{◌≡◌, ℕ, ◌≤◌, Bool, true, false, List, [], ◌∷◌, ◌++◌, length, codes, decimal}
use Rattle.byte_lists.specs.Bytes.{Bytes, Block}
use Rattle.numerals.specs.Hexadecimal.{hex}
use Rattle.personalise.specs.Load.{Lines, malformed, unset, loads, key_of, loading}

-- Lines as text: an LF behind each.
abbrev pub text_of : List (List ℕ) → List ℕ
text_of [] = []
text_of (l ∷ ls) = l ++ (10 ∷ text_of ls)

-- The six lines with these values.
abbrev pub six_lines : List ℕ → List ℕ → List ℕ → List ℕ → List ℕ → List ℕ → List (List ℕ)
six_lines r k w m c t =
    (codes "ref=" ++ r) ∷ (codes "key=" ++ k) ∷ (codes "weak=" ++ w) ∷ (codes "masters=" ++ m) ∷ (codes "connections=" ++ c) ∷ (codes "transactions=" ++ t) ∷ []

abbrev pub shown_flag : Bool → List ℕ
shown_flag false = codes "0"
shown_flag true = codes "1"

-- The text with these bytes for the number of masters.
abbrev pub with_masters : Lines → List ℕ → List ℕ
with_masters l m =
    text_of (six_lines (hex l.ref) (hex l.secret) (shown_flag l.weak) m (decimal l.connections) (decimal l.transactions))

-- The text without that line.
abbrev pub without_masters : Lines → List ℕ
without_masters l =
    text_of
    ((codes "ref=" ++ hex l.ref) ∷ (codes "key=" ++ hex l.secret) ∷ (codes "weak=" ++ shown_flag l.weak)
    ∷ (codes "connections=" ++ decimal l.connections) ∷ (codes "transactions=" ++ decimal l.transactions) ∷ [])

-- The text that says these lines. Numbers are written as they are printed, bytes as pairs of digits.
abbrev pub written : Lines → List ℕ
written l = with_masters l (decimal l.masters)

-- What a load may say.
pub record Good (l : Lines) : Type 0 where
  pub ref_bytes : Bytes l.ref
  pub ref_least : 22 ≤ length l.ref
  pub ref_most : length l.ref ≤ 68
  pub secret_block : Block 32 l.secret
  pub masters_top : l.masters ≤ 65535
  pub connections_top : l.connections ≤ 4294967295
  pub transactions_top : l.transactions ≤ 18446744073709551615

-- A text that loads is the one that says what is loaded: each number is the one written, and none is 0 unless 0 is written.
abbrev pub WrittenIfLoaded : Type 0
WrittenIfLoaded = (text : List ℕ) (l : Lines) → loading text ≡ loads l → Good l × (text ≡ written l)

-- And whatever may be said loads, when it is written so.
abbrev pub LoadedIfWritten : Type 0
LoadedIfWritten = (l : Lines) → Good l → loading (written l) ≡ loads l

-- Either side of a limit, in a text that is good otherwise.
pub record EitherSide (l : Lines) : Type 0 where
  pub zero_loads : loading (with_masters l (codes "0")) ≡ loads (key_of l.ref l.secret l.weak 0 l.connections l.transactions)
  pub empty_unset : loading (with_masters l []) ≡ unset
  pub absent_unset : loading (without_masters l) ≡ unset
  pub top_loads : loading (with_masters l (codes "65535")) ≡ loads (key_of l.ref l.secret l.weak 65535 l.connections l.transactions)
  pub above_malformed : loading (with_masters l (codes "65536")) ≡ malformed
  pub leading_zero_malformed : loading (with_masters l (codes "00")) ≡ malformed

-- The whole law of loads.
pub record LawOfLoads : Type 0 where
  pub only : WrittenIfLoaded
  pub all : LoadedIfWritten
  pub sides : (l : Lines) → Good l → EitherSide l
