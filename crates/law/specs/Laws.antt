-- Four laws of every state and call, so of every run: each is named by what it says.
use Rattle.std.specs.Prelude.{◌≡◌, ℕ, ◌*◌, ◌≤◌, ◌⊎◌, List, [], ◌∷◌, length, Some, None, Option, slice_index_or}
use Rattle.sealing.specs.Sealing.{Sealing}
use Rattle.application.specs.Acts.{Acts}
use Rattle.apdu.specs.Command.{le, alone}
use Rattle.apdu.specs.declared.status.Status.TheVariants as sw
use Rattle.apdu.specs.StatusWords.{status_bytes}
use Rattle.objects.specs.Joined.{value, object}
use Rattle.objects.specs.Asked.{ask_start, asked_start}
use Rattle.law.specs.Rows.{At, found}
use Rattle.law.specs.Request.{start, begin, answer, block, request}
use Rattle.law.specs.Calls.{Call, power_on, power_off, command, replied}
use Rattle.law.specs.Associations.{Hashing}
use Rattle.law.specs.Tables.{idle, Session, unstarted, started, Connection}
use Rattle.law.specs.Associate.{has_csa}
use Rattle.law.specs.Step.{State, Done, step}

-- Two outcomes that an onlooker cannot tell apart: the same answer, and a card with the same tables, count and contents.
pub record SameOutcome {M : Type 0} (d e : Done M) : Type 0 where
  pub answer : e.answer ≡ d.answer
  pub core : e.after.core ≡ d.after.core
  pub contents : e.after.contents ≡ d.after.contents

-- A host's command that is not refused for its lengths.
pub record WellSized (random : List ℕ) (buffer work : ℕ) : Type 0 where
  pub random_bytes : length random ≡ 32
  pub buffer_room : 258 ≤ buffer
  pub work_room : 64 ≤ work

-- What a row may hold after a call, by what it held before: a connection in a row that was free is not started, and nothing
-- was accepted yet; a session that was not started is still so, or starts idle, with no block.
abbrev pub FromSession : Session → Session → Type 0
FromSession unstarted t = (t ≡ unstarted) ⊎ ((size : ℕ) × (t ≡ started size idle))
FromSession (started n u) t = Unit {0}

abbrev pub From : Option Connection → Connection → Type 0
From None x = (x.session ≡ unstarted) × (x.count ≡ 0)
From (Some y) x = FromSession y.session x.session

abbrev pub BeginsEmpty : List (Option Connection) → List (Option Connection) → Type 0
BeginsEmpty old new = (i : ℕ) (x : Connection) → slice_index_or new i None ≡ Some x → From (slice_index_or old i None) x

-- Keys and masters, with what each has yielded, the failures and the application's contents are as they were.
pub record Lasts {M : Type 0} (s t : State M) : Type 0 where
  pub keys : t.core.tables.keys ≡ s.core.tables.keys
  pub masters : t.core.tables.masters ≡ s.core.tables.masters
  pub failures : t.core.failures ≡ s.core.failures
  pub contents : t.contents ≡ s.contents

module _ (𝓗 : Hashing) (𝓢 : Sealing) {M : Type 0} (𝓐 : Acts M) where
  -- A block that was answered 92, sent again, runs nothing and has the same reply; so a completing block runs its command once.
  abbrev pub SentAgainRunsNothing : Type 0
  SentAgainRunsNothing =
      (s : State M) (apdu random again sent : List ℕ) (buffer work buffer' work' row p2 n : ℕ)
      → request apdu ≡ block row p2 (alone sent) → WellSized again buffer' work'
      → (step 𝓗 𝓢 𝓐 s (command apdu random buffer work)).answer ≡ replied (status_bytes (sw.Taken n))
      → SameOutcome (step 𝓗 𝓢 𝓐 s (command apdu random buffer work)) (step 𝓗 𝓢 𝓐 (step 𝓗 𝓢 𝓐 s (command apdu random buffer work)).after (command apdu again buffer' work'))

  -- The session of row r has the byte r × 64: after a granted start, the first reply block says so.
  abbrev pub SessionsAreNamedByRow : Type 0
  SessionsAreNamedByRow =
      (s : State M) (first random second later sent value_sent csa mac : List ℕ) (buffer work buffer' work' size n : ℕ) (x : At Connection)
      → request first ≡ begin start (alone sent) → object sent ≡ value value_sent → asked_start value_sent ≡ ask_start csa size mac
      → found (has_csa csa) s.core.tables.connections ≡ Some x
      → (step 𝓗 𝓢 𝓐 s (command first random buffer work)).answer ≡ replied (status_bytes sw.ReplyWaits)
      → request second ≡ answer start (le n) → WellSized later buffer' work' → 5 ≤ n
      → (step 𝓗 𝓢 𝓐 (step 𝓗 𝓢 𝓐 s (command first random buffer work)).after (command second later buffer' work')).answer
      ≡ replied (0x73 ∷ 0x03 ∷ 0x53 ∷ 0x01 ∷ x.row * 64 ∷ 0x90 ∷ 0x00 ∷ [])

  -- A new connection starts with no old blocks.
  abbrev pub NewConnectionsBeginEmpty : Type 0
  NewConnectionsBeginEmpty = (s : State M) (c : Call) → BeginsEmpty s.core.tables.connections (step 𝓗 𝓢 𝓐 s c).after.core.tables.connections

  -- No power change lowers what a key or a master has yielded.
  abbrev pub PowerKeepsCounts : Type 0
  PowerKeepsCounts = (s : State M) → Lasts s (step 𝓗 𝓢 𝓐 s power_on).after × Lasts s (step 𝓗 𝓢 𝓐 s power_off).after
