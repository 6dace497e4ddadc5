-- What a sealer means: under a suite and 40 key bytes a text has one sealed string, and that string opens to it.
use Rattle.std.specs.Prelude.{◌≡◌, ℕ, ◌^◌, ◌<◌, ◌≤◌, List, length, Some, Option}
use Rattle.byte_lists.specs.Bytes.{Bytes, Block}
use Rattle.sealing.specs.declared.suite.Suite.{Suite}
use Rattle.sealing.specs.declared.suite.Direction.{Direction}

-- A text: which way it goes, its transaction's number, its body.
pub record Text : Type 0 where
  pub direction : Direction
  pub number : ℕ
  pub body : List ℕ

abbrev pub text : Direction → ℕ → List ℕ → Text
text d n b = record { direction = d; number = n; body = b }

-- A text that can be sealed: the number fits eight bytes, and the body is 2 to 261 bytes.
pub record Good (t : Text) : Type 0 where
  pub number : t.number < 2 ^ 64
  pub least : 2 ≤ length t.body
  pub most : length t.body ≤ 261
  pub bytes : Bytes t.body

-- A sealer's meaning, by suite and key bytes: the sealed string of a text, and the text of a string that opens.
pub record Sealing : Type 0 where
  pub sealed : Suite → List ℕ → Text → List ℕ
  pub opened : Suite → List ℕ → List ℕ → Option Text

-- A string opens, giving the text, exactly where it is the sealing of that text.
pub record Faithful (s : Sealing) : Type 0 where
  -- a sealed text opens to itself
  pub gives : (u : Suite) (k : List ℕ) (t : Text) → Block 40 k → Good t → s.opened u k (s.sealed u k t) ≡ Some t
  -- a string that opens is its text's only sealing
  pub only : (u : Suite) (k z : List ℕ) (t : Text) → Block 40 k → s.opened u k z ≡ Some t → s.sealed u k t ≡ z
  -- nothing opens to what is no text
  pub good : (u : Suite) (k z : List ℕ) (t : Text) → Block 40 k → s.opened u k z ≡ Some t → Good t
  -- a sealed string has at most 288 bytes
  pub short : (u : Suite) (k : List ℕ) (t : Text) → Block 40 k → Good t → length (s.sealed u k t) ≤ 288

-- Two texts never share a sealed string under one suite and key.
abbrev pub Apart : Sealing → Type 0
Apart s = (u : Suite) (k : List ℕ) (a b : Text) → Block 40 k → Good a → Good b → s.sealed u k a ≡ s.sealed u k b → a ≡ b
