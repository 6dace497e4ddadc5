-- A command by the host's lengths.
use Rattle.std.proofs.Common.{◌≡◌, ℕ, ◌≤◌, Bool, true, false, cond, List, ◌++◌, length, take, drop, Some, None, sym, refl, ap, ◌∙◌, arith}
use Rattle.std.proofs.lemmas.List.{take_at, drop_at, length-append, length-drop}
use Rattle.sealing.specs.Sealing.{Sealing}
use Rattle.apdu.specs.Reply.{fronted}
use Rattle.law.specs.Associations.{Hashing}
use Rattle.law.specs.Calls.{refused_host}
use Rattle.law.specs.Request.{request}
use Rattle.law.specs.Step.{Core, does, requests, commands_at}
use Rattle.law.proofs.Rows.{no_some, some_same}
use Rattle.card.specs.declared.refusal.HostRefusal.{HostRefusal}
use Rattle.card.specs.declared.refusal.HostRefusal.TheVariants.{ShortMemory, RandomBytes}
use Rattle.card.specs.Refusals.{host_number}

module _ (𝓗 : Hashing) (𝓢 : Sealing) (c : Core) (apdu random : List ℕ) where
  -- A refusal.
  pub host_refused : (x y : Bool) (e : HostRefusal) → Some e ≡ cond x (Some ShortMemory) (cond y (Some RandomBytes) None)
      → commands_at 𝓗 𝓢 c apdu random x y ≡ does c (refused_host (host_number e))
  host_refused true y e h = ap (λ (w : HostRefusal). does c (refused_host (host_number w))) (sym (some_same h))
  host_refused false true e h = ap (λ (w : HostRefusal). does c (refused_host (host_number w))) (sym (some_same h))
  host_refused false false e h = no_some (sym h)

  -- No refusal.
  pub host_taken : (x y : Bool) → None ≡ cond x (Some ShortMemory) (cond y (Some RandomBytes) None) → commands_at 𝓗 𝓢 c apdu random x y ≡ requests 𝓗 𝓢 c apdu random (request apdu)
  host_taken true y h = no_some h
  host_taken false true h = no_some h
  host_taken false false h = refl

-- A reply at the start of a buffer.
module _ (reply lent written : List ℕ) (n : ℕ) (l : n ≡ length reply) (w : written ≡ fronted reply lent) where
  pub front : take n written ≡ reply
  front = ap (take n) w ∙ take_at reply (drop (length reply) lent) n (sym l)

  pub behind : drop n written ≡ drop n lent
  behind = ap (drop n) w ∙ drop_at reply (drop (length reply) lent) n (sym l) ∙ ap (λ (k : ℕ). drop k lent) (sym l)

  pub inside : length written ≡ length lent → n ≤ length lent
  inside e =
      let a : length written ≡ length (reply ++ drop (length reply) lent) = ap length w in
      omega (arith, a, length-append reply (drop (length reply) lent), length-drop (length reply) lent)
