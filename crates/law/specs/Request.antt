-- What an APDU asks of the card, by its header.
use Rattle.std.specs.Prelude.{ℕ, ◌/◌, ◌%◌, Bool, cond, ◌&&◌, List, Some, None, Option, ◌==◌}
use Rattle.apdu.specs.Command.{Shape, Command, command_in}
use Rattle.objects.specs.Asked.{Asked, layout, asked_master, asked_connection, asked_start, asked_end}

-- The five things that MANAGE SECURE CHANNEL is about, P1 00 to 04.
pub data Kind : Type 0 where
  discovery master connection start terminate : Kind

-- Each kind's P1.
abbrev pub p1_of : Kind → ℕ
p1_of discovery = 0
p1_of master = 1
p1_of connection = 2
p1_of start = 3
p1_of terminate = 4

abbrev pub same_kind : Kind → Kind → Bool
same_kind a b = p1_of a == p1_of b

-- What the value of a whole object of each kind asks for. No object comes with a discovery.
abbrev pub asked : Kind → List ℕ → Asked
asked discovery v = layout
asked master v = asked_master v
asked connection v = asked_connection v
asked start v = asked_start v
asked terminate v = asked_end v

-- A session's block as it passes over the line: how many follow it, and its bytes.
pub record Block : Type 0 where
  pub p2 : ℕ
  pub bytes : List ℕ

-- What is asked, with what stands behind the header.
pub data Request : Type 0 where
  -- no APDU
  malformed : Request
  -- neither MANAGE SECURE CHANNEL nor TRANSACT DATA
  other : Request
  -- one of the two, with a P1 and P2 that are not listed
  unlisted : Request
  -- MANAGE SECURE CHANNEL: a first or a next command block (80, 00), the first reply block of a discovery (A0), a first or
  -- a next reply block of another kind (A0, 20)
  begin : Kind → Shape → Request
  continue : Kind → Shape → Request
  discover : Shape → Request
  answer : Kind → Shape → Request
  go_on : Kind → Shape → Request
  -- TRANSACT DATA in the session of a row: a block with its P2, the fetch of an answer block, a discard
  block : ℕ → ℕ → Shape → Request
  fetch : ℕ → ℕ → Shape → Request
  discard : ℕ → Shape → Request

-- P2 of the kinds that have command and reply blocks.
abbrev pub by_p2 : Kind → ℕ → Shape → Request
by_p2 k p2 s =
    cond (p2 == 0x80) (begin k s) (cond (p2 == 0x00) (continue k s)
    (cond (p2 == 0xA0) (answer k s) (cond (p2 == 0x20) (go_on k s) unlisted)))

-- A discovery has reply blocks alone.
abbrev pub discovers : ℕ → Shape → Request
discovers p2 s = cond (p2 == 0xA0) (discover s) (cond (p2 == 0x20) (go_on discovery s) unlisted)

-- A termination has command blocks alone.
abbrev pub terminates : ℕ → Shape → Request
terminates p2 s = cond (p2 == 0x80) (begin terminate s) (cond (p2 == 0x00) (continue terminate s) unlisted)

-- MANAGE SECURE CHANNEL, by P1 and P2.
abbrev pub manages : ℕ → ℕ → Shape → Request
manages p1 p2 s =
    cond (p1 == 0) (discovers p2 s) (cond (p1 == 1) (by_p2 master p2 s) (cond (p1 == 2) (by_p2 connection p2 s)
    (cond (p1 == 3) (by_p2 start p2 s) (cond (p1 == 4) (terminates p2 s) unlisted))))

-- TRANSACT DATA: P1 is row × 64, plus 0 block, 1 fetch or 2 discard; a discard has P2 00.
abbrev pub transacts : ℕ → ℕ → Shape → Request
transacts p1 p2 s =
    cond (p1 % 64 == 0) (block (p1 / 64) p2 s) (cond (p1 % 64 == 1) (fetch (p1 / 64) p2 s)
    (cond (p1 % 64 == 2 && p2 == 0) (discard (p1 / 64) s) unlisted))

-- CLA 00 with INS 73 or 75 is the card's own; any other CLA or INS is not.
abbrev pub by_header : Option Command → Request
by_header None = malformed
by_header (Some c) =
    cond (c.cla == 0 && c.ins == 0x73) (manages c.p1 c.p2 c.shape)
    (cond (c.cla == 0 && c.ins == 0x75) (transacts c.p1 c.p2 c.shape) other)

abbrev pub request : List ℕ → Request
request apdu = by_header (command_in apdu)
