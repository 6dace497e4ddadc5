-- What the record file means, over the list of its records.
use Rattle.std.specs.Prelude.{ℕ, ◌-◌, cond, ◌&&◌, List, [], length, take, replicate, Some, None, Option, ◌==◌, nat_le, slice_index_or, slice_set}
use Rattle.apdu.specs.Command.{Command, data_of}
use Rattle.apdu.specs.declared.status.Status.TheVariants.{Done, WrongLength, NoSuchRecord, UnknownInstruction}
use Rattle.application.specs.Acts.{Acts}
use Rattle.application.specs.Commands.{Turn, turn, acts_upon}

-- Eight records of sixteen zero bytes.
abbrev pub blank : List (List ℕ)
blank = replicate 8 (replicate 16 0)

-- Records are numbered from 1 to 8, and their places counted from 0.
abbrev pub place : ℕ → Option ℕ
place n = cond (nat_le 1 n && nat_le n 8) (Some (n - 1)) None

-- The sixteen bytes of the record at a place.
abbrev pub record_at : List (List ℕ) → ℕ → List ℕ
record_at rs i = take 16 (slice_index_or rs i [])

-- Replies a record.
abbrev pub read_at : List (List ℕ) → Option ℕ → Turn (List (List ℕ))
read_at rs None = turn [] NoSuchRecord rs
read_at rs (Some i) = turn (record_at rs i) Done rs

-- Puts sixteen bytes in the place of a record.
abbrev pub write_at : List (List ℕ) → Option ℕ → List ℕ → Turn (List (List ℕ))
write_at rs None ds = turn [] NoSuchRecord rs
write_at rs (Some i) ds = cond (length ds == 16) (turn [] Done (slice_set rs i ds)) (turn [] WrongLength rs)

-- B2 reads the record that P1 numbers, and DC writes its data to it.
abbrev pub carried : List (List ℕ) → Command → Turn (List (List ℕ))
carried rs c =
    cond (c.ins == 0xB2) (read_at rs (place c.p1))
    (cond (c.ins == 0xDC) (write_at rs (place c.p1) (data_of c.shape))
    (turn [] UnknownInstruction rs))

-- The record file as an application.
abbrev pub keeps : Acts (List (List ℕ))
keeps = acts_upon carried
