-- P1 of the five things that MANAGE SECURE CHANNEL is about.
use Rattle.std.specs.Prelude.{◌≡◌, ℕ, cond, Ok, Err, Result, ◌==◌}
use Rattle.apdu.specs.declared.kind.Kind.{Kind}
use Rattle.apdu.specs.declared.kind.Kind.TheVariants.{Discovery, Master, Connection, Start, Terminate}
use Rattle.apdu.specs.declared.status.Status.{Status}
use Rattle.apdu.specs.declared.status.Status.TheVariants.{WrongParameters}

-- Each kind's P1.
abbrev pub p1_of : Kind → ℕ
p1_of Discovery = 0x00
p1_of Master = 0x01
p1_of Connection = 0x02
p1_of Start = 0x03
p1_of Terminate = 0x04

-- The number is the kind's P1.
abbrev pub IsP1 : Kind → ℕ → Type 0
IsP1 k n = n ≡ p1_of k

-- The kind of a P1, or the status word of one that is not listed.
abbrev pub kind_at : ℕ → Result Kind Status
kind_at n =
    cond (n == 0x00) (Ok Discovery) (cond (n == 0x01) (Ok Master) (cond (n == 0x02) (Ok Connection)
    (cond (n == 0x03) (Ok Start) (cond (n == 0x04) (Ok Terminate) (Err WrongParameters)))))

-- What was read of a P1 is its kind.
abbrev pub Says : ℕ → Result Kind Status → Type 0
Says n r = r ≡ kind_at n
