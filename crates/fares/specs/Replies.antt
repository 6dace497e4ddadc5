-- How long the counter's replies are.
use Rattle.std.specs.Prelude.{◌≡◌, ◌≤◌, cond, List, [], ◌∷◌, ◌++◌, length, Some, None, Option, ◌==◌, nat_lt}
use Rattle.std.proofs.Common.{lit≤}
use Rattle.std.proofs.Math.Path.{subst, sym}
use Rattle.std.proofs.lemmas.Bool.{cond_both}
use Rattle.byte_lists.specs.Numbers.{octets}
use Rattle.byte_lists.proofs.Digits.{length_octets}
use Rattle.apdu.specs.Command.{Command, data_of}
use Rattle.apdu.specs.declared.status.Status.TheVariants.{Done, WrongData, NoRoom, UnknownInstruction}
use Rattle.application.specs.Commands.{Turn, turn}
use Rattle.application.proofs.Bounds.{Within, within_reply}
use Rattle.fares.specs.declared.fare.Fare.{Fare}
use Rattle.fares.specs.Counter.{fare_in, takings, append, carried}

abbrev Fits : Turn (List Fare) → Type 0
Fits t = Within t.reply

within_append : (fares : List Fare) (o : Option Fare) → Fits (append fares o)
within_append fares None = within_reply [] WrongData (lit≤ tt)
within_append fares (Some f) =
    cond_both (nat_lt (length fares) 32) (turn [] Done (fares ++ f ∷ [])) (turn [] NoRoom fares) Fits
    (λ _. within_reply [] Done (lit≤ tt)) (λ _. within_reply [] NoRoom (lit≤ tt))

pub within_carried : (fares : List Fare) (c : Command) → Fits (carried fares c)
within_carried fares c =
    let sum = turn (octets 8 (takings fares)) Done fares in
    let other = turn [] UnknownInstruction fares in
    let long : length (octets 8 (takings fares)) ≡ 8 = length_octets 8 (takings fares) in
    cond_both (c.ins == 0xE2) (append fares (fare_in (data_of c.shape))) (cond (c.ins == 0xCA) sum other) Fits
    (λ _. within_append fares (fare_in (data_of c.shape)))
    (λ _. cond_both (c.ins == 0xCA) sum other Fits
    (λ _. within_reply (octets 8 (takings fares)) Done (subst (λ n. n ≤ 256) (sym long) (lit≤ tt)))
    (λ _. within_reply [] UnknownInstruction (lit≤ tt)))
