-- What an application means: from its contents and a command, one reply and its new contents.
use Rattle.std.specs.Prelude.{ℕ, ◌≤◌, List, [], ◌∷◌, length}

-- The reply to a command, and the contents that it leaves.
pub record Acts (M : Type 0) : Type 0 where
  pub reply : M → List ℕ → List ℕ
  pub next : M → List ℕ → M

-- Every reply has 2 to 258 bytes.
pub record Bounded {M : Type 0} (𝓐 : Acts M) : Type 0 where
  pub least : (m : M) (c : List ℕ) → 2 ≤ length (𝓐.reply m c)
  pub most : (m : M) (c : List ℕ) → length (𝓐.reply m c) ≤ 258

-- What is held after these commands, each run once, in order.
abbrev pub after : {M : Type 0} → Acts M → M → List (List ℕ) → M
after 𝓐 m [] = m
after 𝓐 m (c ∷ cs) = after 𝓐 (𝓐.next m c) cs

-- What passes over the line: a command, and the reply to it.
pub record Exchange : Type 0 where
  pub command : List ℕ
  pub reply : List ℕ

-- All that passes over the line as these commands are run.
abbrev pub line : {M : Type 0} → Acts M → M → List (List ℕ) → List Exchange
line 𝓐 m [] = []
line 𝓐 m (c ∷ cs) = record { command = c; reply = 𝓐.reply m c } ∷ line 𝓐 (𝓐.next m c) cs
