-- How long the record file's replies are.
use Rattle.std.specs.Prelude.{ℕ, ◌≤◌, cond, List, [], length, Some, None, Option, ◌==◌, slice_index_or, slice_set}
use Rattle.std.proofs.Common.{lit≤}
use Rattle.std.proofs.Math.Path.{subst, sym}
use Rattle.std.proofs.Math.Nat.{le_trans, min-le_left}
use Rattle.std.proofs.lemmas.List.{length-take}
use Rattle.std.proofs.lemmas.Bool.{cond_both}
use Rattle.apdu.specs.Command.{Command, data_of}
use Rattle.apdu.specs.declared.status.Status.TheVariants.{Done, WrongLength, NoSuchRecord, UnknownInstruction}
use Rattle.application.specs.Commands.{Turn, turn}
use Rattle.application.proofs.Bounds.{Within, within_reply}
use Rattle.records.specs.File.{place, record_at, read_at, write_at, carried}

abbrev Fits : Turn (List (List ℕ)) → Type 0
Fits t = Within t.reply

within_read : (rs : List (List ℕ)) (o : Option ℕ) → Fits (read_at rs o)
within_read rs None = within_reply [] NoSuchRecord (lit≤ tt)
within_read rs (Some i) =
    let e = length-take 16 (slice_index_or rs i []) in
    let within = le_trans (min-le_left 16 (length (slice_index_or rs i []))) (lit≤ tt) in
    within_reply (record_at rs i) Done (subst (λ n. n ≤ 256) (sym e) within)

within_write : (rs : List (List ℕ)) (o : Option ℕ) (ds : List ℕ) → Fits (write_at rs o ds)
within_write rs None ds = within_reply [] NoSuchRecord (lit≤ tt)
within_write rs (Some i) ds =
    cond_both (length ds == 16) (turn [] Done (slice_set rs i ds)) (turn [] WrongLength rs) Fits
    (λ _. within_reply [] Done (lit≤ tt)) (λ _. within_reply [] WrongLength (lit≤ tt))

pub within_carried : (rs : List (List ℕ)) (c : Command) → Fits (carried rs c)
within_carried rs c =
    let write = write_at rs (place c.p1) (data_of c.shape) in
    let other = turn [] UnknownInstruction rs in
    cond_both (c.ins == 0xB2) (read_at rs (place c.p1)) (cond (c.ins == 0xDC) write other) Fits
    (λ _. within_read rs (place c.p1))
    (λ _. cond_both (c.ins == 0xDC) write other Fits
    (λ _. within_write rs (place c.p1) (data_of c.shape))
    (λ _. within_reply [] UnknownInstruction (lit≤ tt)))
