-- What sealing and opening leave in bytes that are lent.
use Rattle.std.specs.Prelude.{◌≡◌, ℕ, ◌+◌, ◌≤◌, List, ◌++◌, length, take, drop, cond, Some, None, Option, nat_le}
use Rattle.sealing.specs.declared.suite.Suite.{Suite}
use Rattle.sealing.specs.declared.sealer.Opened.{Opened}
use Rattle.sealing.specs.declared.text.Text as lent
use Rattle.sealing.specs.Sealing.{Sealing, Text, text}

-- The text that a value of the code is.
abbrev pub as_text : lent.Text → Text
as_text t = text t.direction t.number t.body.now

-- The string z at the start of the buffer, the rest as it was, and the answer its length.
pub record Seals (z before after : List ℕ) (r : ℕ) : Type 0 where
  pub len : r ≡ length z
  pub bytes : after ≡ z ++ drop (length z) before

-- r says what the text t is, and where its body stands inside the string. What else the string then holds is free.
pub record Gives (t : Text) (before after : List ℕ) (r : Opened) : Type 0 where
  pub direction : r.direction ≡ t.direction
  pub number : r.number ≡ t.number
  pub len : r.len ≡ length t.body
  pub inside : r.at + r.len ≤ length before
  pub body : take r.len (drop r.at after) ≡ t.body

-- The body out of the string that was opened, where its places lie in the string.
abbrev pub body_in : Opened → List ℕ → Option (List ℕ)
body_in o string = cond (nat_le (o.at + o.len) (length string)) (Some (take o.len (drop o.at string))) None

-- A string that opens gives its text; where it is refused, it is as it was.
abbrev pub OpensTo : Option Text → List ℕ → List ℕ → Option Opened → Type 0
OpensTo None before after None = after ≡ before
OpensTo None before after (Some r) = ⊥
OpensTo (Some t) before after None = ⊥
OpensTo (Some t) before after (Some r) = Gives t before after r

abbrev pub Opens : Sealing → Suite → List ℕ → List ℕ → List ℕ → Option Opened → Type 0
Opens s u k before after r = OpensTo (s.opened u k before) before after r
