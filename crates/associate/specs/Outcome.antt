-- What an object asks for, carried out: what the tables are then, and what is answered.
use Rattle.std.specs.Prelude.{ℕ, List, [], Ok, Err, Result}
use Rattle.apdu.specs.declared.status.Status.{Status}
use Rattle.apdu.specs.declared.status.Status.TheVariants.{NotAuthentic, LimitPassed}
use Rattle.buffer.specs.declared.Store.{Store}
use Rattle.buffer.specs.Held.{held}
use Rattle.objects.specs.Asked.{Asked}
use Rattle.replies.specs.declared.reply.Reply.{Reply}
use Rattle.replies.specs.Reply.{reply_object}
use Rattle.law.specs.Associations.{Hashing}
use Rattle.law.specs.Tables.{Tables}
use Rattle.tables.specs.declared.rows.Tables as tables
use Rattle.tables.specs.View.{Keeps}
use Rattle.law.specs.Associate.{refusal_status, Verdict, refused, wrong_mac, spent, granted, verdict, established, exhausted, reply_to}

-- The tables afterwards, and the reply's bytes or a status word.
pub record Outcome : Type 0 where
  pub after : Tables
  pub answer : Result (List ℕ) Status

abbrev pub done : Tables → Result (List ℕ) Status → Outcome
done t a = record { after = t; answer = a }

module _ (𝓗 : Hashing) where
  -- What follows from what the checks say: a refusal leaves the tables, a limit takes what has passed it, and what is
  -- granted is entered.
  abbrev pub decided : Tables → List ℕ → Asked → Verdict → Outcome
  decided t random a (refused r) = done t (Err (refusal_status r))
  decided t random a wrong_mac = done t (Err NotAuthentic)
  decided t random a spent = done (exhausted t a) (Err LimitPassed)
  decided t random a granted = done (established 𝓗 t random a) (Ok (reply_to 𝓗 t random a))

  abbrev pub outcome : Tables → List ℕ → Asked → Outcome
  outcome t random a = decided t random a (verdict 𝓗 t random a)

-- A reply as its object.
abbrev pub replied : Result Reply Status → Result (List ℕ) Status
replied (Ok r) = Ok (reply_object r)
replied (Err s) = Err s

-- Nothing is replied to a termination.
abbrev pub ended : Result Unit Status → Result (List ℕ) Status
ended (Ok _) = Ok []
ended (Err s) = Err s

-- The bytes that a reply's buffer holds.
abbrev pub sent : Result (Store 288) Status → Result (List ℕ) Status
sent (Ok b) = Ok (held b)
sent (Err s) = Err s

-- What keeps the answers as they are with nothing changed, keeps them so.
abbrev pub Kept : tables.Tables → tables.Tables → Type 0
Kept before after = Keeps before before → Keeps before after
