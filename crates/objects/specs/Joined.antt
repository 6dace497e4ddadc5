-- Joined blocks: one object, which is 73, a length and a value of that length.
use Rattle.std.specs.Prelude.{ℕ, ◌+◌, cond, List, length, drop, ◌==◌, nat_lt, slice_index, Ok, Err, Result}
use denote.Ref.{Bor}
use Rattle.objects.specs.declared.join.Header.{Header}
use Rattle.objects.specs.declared.join.Unread.{Unread}
use Rattle.objects.specs.declared.join.Unread.TheVariants.{Incomplete, Bad}

-- A header of so many bytes, before a value of so many.
abbrev pub header : ℕ → ℕ → Result Header Unread
header head n = Ok (record { head = head; size = n })

-- The length that the bytes behind 73 give: one byte of 00 to 7F, or 81 and any byte.
abbrev pub said_length : List ℕ → Result Header Unread
said_length bs =
    cond (nat_lt (length bs) 2) (Err Incomplete)
    (cond (nat_lt (slice_index bs 1) 0x80) (header 2 (slice_index bs 1))
    (cond (slice_index bs 1 == 0x81) (cond (nat_lt (length bs) 3) (Err Incomplete) (header 3 (slice_index bs 2))) (Err Bad)))

-- The header's rule. Each byte is judged as soon as it is there; of no byte at all none is wrong.
abbrev pub header_of : List ℕ → Result Header Unread
header_of bs = cond (length bs == 0) (Err Incomplete) (cond (slice_index bs 0 == 0x73) (said_length bs) (Err Bad))

-- Joined blocks: more to come, no object, or an object's value.
pub data Object : Type 0 where
  incomplete : Object
  bad : Object
  value : List ℕ → Object

-- The bytes behind a header of so many bytes, where a value of so many is to come.
abbrev pub filled : ℕ → ℕ → List ℕ → Object
filled head n bs =
    cond (nat_lt (length bs) (head + n)) incomplete (cond (length bs == head + n) (value (drop head bs)) bad)

abbrev pub unread : Unread → Object
unread Incomplete = incomplete
unread Bad = bad

abbrev pub under : Result Header Unread → List ℕ → Object
under (Err e) bs = unread e
under (Ok h) bs = filled h.head h.size bs

-- What joined blocks are.
abbrev pub object : List ℕ → Object
object bs = under (header_of bs) bs

-- What a reader's answer says.
abbrev pub seen : Result (Bor (List ℕ)) Unread → Object
seen (Err e) = unread e
seen (Ok v) = value v.now
