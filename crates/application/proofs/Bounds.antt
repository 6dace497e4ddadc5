-- How long the replies of an application on APDUs are.
use Rattle.std.proofs.Common.{ℕ, ◌≤◌, List, [], length, Some, None, Option, arith}
use Rattle.apdu.specs.Command.{Command, command_in}
use Rattle.apdu.specs.Reply.{reply as replying}
use Rattle.apdu.specs.declared.status.Status.{Status}
use Rattle.apdu.specs.declared.status.Status.TheVariants.{WrongLength}
use Rattle.apdu.proofs.StatusFacts.{length_reply}
use Rattle.application.specs.Acts.{Bounded}
use Rattle.application.specs.Commands.{Turn, upon, acts_upon}

-- A reply may be so long.
abbrev pub Within : List ℕ → Type 0
Within bs = (2 ≤ length bs) × (length bs ≤ 258)

pub within_reply : (ds : List ℕ) (s : Status) → length ds ≤ 256 → Within (replying ds s)
within_reply ds s h = let e = length_reply ds s in (omega arith, omega arith)

within_upon : {M : Type 0} (f : M → Command → Turn M) → ((m : M) (c : Command) → Within (f m c).reply) → (m : M) (o : Option Command) → Within (upon f m o).reply
within_upon f h m None = within_reply [] WrongLength (omega arith)
within_upon f h m (Some c) = h m c

-- Where each turn's reply may be so long, the application keeps the bounds.
pub bounded_upon : {M : Type 0} (f : M → Command → Turn M) → ((m : M) (c : Command) → Within (f m c).reply) → Bounded (acts_upon f)
bounded_upon f h = record {
  least = λ m bs. (within_upon f h m (command_in bs)).0;
  most = λ m bs. (within_upon f h m (command_in bs)).1;
}
