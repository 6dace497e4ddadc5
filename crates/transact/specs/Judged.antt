-- What accepting says of joined blocks.
use Rattle.std.specs.Prelude.{◌≡◌, ℕ, ◌+◌, ◌<◌, ◌≤◌, Bool, ◌&&◌, List, length, take, drop, Ok, Err, Result, ◌==◌, nat_le}
use Rattle.sealing.specs.declared.sealer.Opened.{Opened}
use Rattle.law.specs.Session.{Judgement, wrong, spent, accepts, is_command}
use Rattle.transact.specs.declared.accepted.Accepted.{Accepted}
use Rattle.transact.specs.declared.accepted.Refusal.{Refusal}
use Rattle.transact.specs.declared.accepted.Refusal.TheVariants.{Wrong, Spent}

-- The body of an accepted command.
abbrev pub body_in : Accepted → List ℕ → List ℕ
body_in t text = take t.opened.len (drop t.opened.at text)

-- A token stands for this body under this number, and the count is below the limit.
pub record Stands (b : List ℕ) (count limit : ℕ) (text : List ℕ) (t : Accepted) : Type 0 where
  pub number : t.opened.number ≡ count
  pub inside : t.opened.at + t.opened.len ≤ length text
  pub body : body_in t text ≡ b
  pub below : count < limit

-- A token is given exactly where a command is accepted.
abbrev pub Judges : Judgement → ℕ → ℕ → List ℕ → Result Accepted Refusal → Type 0
Judges wrong count limit text r = r ≡ Err Wrong
Judges spent count limit text r = r ≡ Err Spent
Judges (accepts b) count limit text (Ok t) = Stands b count limit text t
Judges (accepts b) count limit text (Err e) = ⊥

-- What opened is a command with this number, of four body bytes or more.
abbrev pub fits_command : Opened → ℕ → Bool
fits_command o n = is_command o.direction && o.number == n && nat_le 4 o.len
