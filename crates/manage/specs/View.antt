-- The card's core as the rules speak of it.
use Rattle.std.specs.Prelude.{◌≡◌, ℕ, Bool, true, false, cond, List, length}
use Rattle.buffer.specs.Held.{held}
use Rattle.apdu.specs.Reply.{fronted}
use Rattle.apdu.specs.declared.status.Status.{Status}
use Rattle.apdu.specs.declared.status.Status.TheVariants.{Done, MoreToFetch, ReplyWaits, MoreToSend, NotPossible, WrongLength, LimitPassed, NotNow, NotAuthentic, ChannelRequired, WrongData, NoSuchRecord, NoRoom, WrongParameters, NoSuchIdentifier, UnknownInstruction, Taken}
use Rattle.request.specs.View.{kind_of}
use Rattle.law.specs.Request.{Kind, discovery, master, connection, start, terminate}
use Rattle.tables.specs.declared.rows.Tables.{Tables}
use Rattle.tables.specs.View.{tables_of, Keeps}
use Rattle.law.specs.Calls.{replied}
use Rattle.law.specs.Step as law
use Rattle.law.specs.Step.{Move, does, says}
use Rattle.manage.specs.declared.pending.Pending.{Pending}
use Rattle.manage.specs.declared.pending.Pending.TheVariants.{Nothing, Object, Reply}
use Rattle.manage.specs.declared.card_core.Core.{Core}

abbrev pub pending_of : Pending → law.Pending
pending_of Nothing = law.nothing
pending_of (Object g) = law.gathered (kind_of g.kind) (held g.bytes)
pending_of (Reply w) = law.waits (kind_of w.kind) (held w.reply) w.given

-- A card's core, powered or not.
abbrev pub core_as : Bool → Core → law.Core
core_as powered c = record {
  powered = powered;
  requires = c.required;
  failures = c.failures;
  tables = tables_of c.tables;
  pending = pending_of c.pending;
}

abbrev pub core_of : Core → law.Core
core_of c = core_as true c

-- The same core with other tables.
abbrev pub with_tables : Core → Tables → Core
with_tables c t = record { tables = t; pending = c.pending; failures = c.failures; required = c.required }

-- The same core with another failure count.
abbrev pub with_failures : Core → ℕ → Core
with_failures c n = record { tables = c.tables; pending = c.pending; failures = n; required = c.required }

-- A wrong MAC, or sealed bytes that do not open.
abbrev pub is_authentic : Status → Bool
is_authentic NotAuthentic = false
is_authentic Done = true
is_authentic MoreToFetch = true
is_authentic ReplyWaits = true
is_authentic MoreToSend = true
is_authentic NotPossible = true
is_authentic WrongLength = true
is_authentic LimitPassed = true
is_authentic NotNow = true
is_authentic ChannelRequired = true
is_authentic WrongData = true
is_authentic NoSuchRecord = true
is_authentic NoRoom = true
is_authentic WrongParameters = true
is_authentic NoSuchIdentifier = true
is_authentic UnknownInstruction = true
is_authentic (Taken n) = true

-- The same core with something else pending.
abbrev pub with_pending : Core → Pending → Core
with_pending c p = record { tables = c.tables; pending = p; failures = c.failures; required = c.required }

-- The failure count after a refusal: one higher after a wrong MAC.
abbrev pub failures_after : Status → ℕ → ℕ
failures_after s n = cond (is_authentic s) n (law.one_more n)

-- The core after an object was refused.
abbrev pub refused_core : Core → Status → Core
refused_core c s = with_failures (with_pending c Nothing) (failures_after s c.failures)

-- After what was granted: a termination is done, and after anything else a reply waits.
abbrev pub granted : law.Core → Kind → List ℕ → Move
granted c terminate z = says (law.put c c.tables law.nothing) Done
granted c discovery z = says (law.put c c.tables (law.waits discovery z 0)) ReplyWaits
granted c master z = says (law.put c c.tables (law.waits master z 0)) ReplyWaits
granted c connection z = says (law.put c c.tables (law.waits connection z 0)) ReplyWaits
granted c start z = says (law.put c c.tables (law.waits start z 0)) ReplyWaits

-- The move was made, and nothing else: the core is what it says, the answers that are still held are kept, and this is the
-- status word.
pub record Said (m : Move) (before after : Core) (s : Status) : Type 0 where
  pub move : m ≡ says (core_of after) s
  pub answers : Keeps before.tables after.tables

-- Likewise with a reply, which stands at the start of the lent buffer, the rest as it was; the answer is its length.
pub record Replied (m : Move) (before after : Core) (lent written : List ℕ) (n : ℕ) : Type 0 where
  pub reply : List ℕ
  pub move : m ≡ does (core_of after) (replied reply)
  pub answers : Keeps before.tables after.tables
  pub len : n ≡ length reply
  pub bytes : written ≡ fronted reply lent
