-- A completed command, and its answer.
use Rattle.std.specs.Prelude.{◌≡◌, ℕ, suc, ◌+◌, ◌*◌, ◌<◌, ◌≤◌, Bool, true, false, ◌&&◌, ◌||◌, ◌↔◌, List, ◌++◌, length, Some, None, Option, ◌==◌, nat_le}
use Rattle.byte_lists.specs.Bytes.{Bytes}
use Rattle.sealing.specs.declared.suite.Direction.TheVariants as direction
use Rattle.sealing.specs.Sealing.{Sealing, Text}
use Rattle.application.specs.Acts.{Acts, after}
use Rattle.apdu.specs.Command.{Shape, bare, le, alone, both, data_of}
use Rattle.law.specs.Ledger.{Reading, is, Owed, Standing, at_rest, under_way, owing, Dialogue, Link, Ledger, joined, in_hand, is_joined, limit_of, Got}

-- Joined blocks that are accepted: they open with direction 00, the connection's count as number and 4 body bytes or more, and
-- the count is below the limit.
pub record Accepted (𝓢 : Sealing) (x : Link) (limit : ℕ) (z : List ℕ) : Type 0 where
  pub text : Text
  pub opens : 𝓢.opened x.suite x.keys z ≡ Some text
  pub direction : text.direction ≡ direction.Command
  pub number : text.number ≡ x.count
  pub long : 4 ≤ length text.body
  pub within : x.count < limit

-- While blocks are in hand, P2 falls by one each time; otherwise any P2 starts a command.
abbrev pub in_turn : Standing → ℕ → Bool
in_turn at_rest p2 = true
in_turn (under_way b bs) p2 = suc p2 == b.p2
in_turn (owing b o) p2 = true

-- Data alone, of container size at most, and at most 288 bytes joined.
abbrev pub fits : Dialogue → Shape → Bool
fits d (alone bs) = nat_le (length bs) d.size && nat_le (length (joined (in_hand d.standing) ++ bs)) 288
fits d bare = false
fits d (le n) = false
fits d (both bs n) = false

-- A block in turn that fits is answered 92, 69 88 or 69 83; and a completed command gets 92 exactly when it is accepted.
pub record JudgedIn (𝓢 : Sealing) (l : Ledger) (x : Link) (p2 : ℕ) (s : Shape) (a : Reading) (d : Dialogue) : Type 0 where
  pub due : (in_turn d.standing p2 && fits d s) ≡ true → (a.sw1 == 0x92 || is 0x69 0x88 a || is 0x69 0x83 a) ≡ true
  pub complete : (is_joined d.standing p2 s a && p2 == 0) ≡ true
      → ((a.sw1 == 0x92) ≡ true) ↔ Accepted 𝓢 x (limit_of l.book x) (joined (in_hand d.standing) ++ data_of s)

-- Without a started session, a block is 69 85.
abbrev pub JudgedDialogue : Sealing → Ledger → Link → ℕ → Shape → Reading → Option Dialogue → Type 0
JudgedDialogue 𝓢 l x p2 s a None = is 0x69 0x85 a ≡ true
JudgedDialogue 𝓢 l x p2 s a (Some d) = JudgedIn 𝓢 l x p2 s a d

abbrev pub Judged : Sealing → Ledger → ℕ → Shape → Reading → Option Link → Type 0
Judged 𝓢 l p2 s a None = is 0x69 0x85 a ≡ true
Judged 𝓢 l p2 s a (Some x) = JudgedDialogue 𝓢 l x p2 s a x.dialogue

-- A discard carries neither data nor Le, and is 90 00 in a started session.
abbrev pub DiscardedAs : Shape → Reading → Type 0
DiscardedAs bare a = is 0x90 0x00 a ≡ true
DiscardedAs (le n) a = is 0x67 0x00 a ≡ true
DiscardedAs (alone d) a = is 0x67 0x00 a ≡ true
DiscardedAs (both d n) a = is 0x67 0x00 a ≡ true

abbrev pub DiscardedIn : Shape → Reading → Option Dialogue → Type 0
DiscardedIn s a None = is 0x69 0x85 a ≡ true
DiscardedIn s a (Some d) = DiscardedAs s a

abbrev pub Discarded : Shape → Reading → Option Link → Type 0
Discarded s a None = is 0x69 0x85 a ≡ true
Discarded s a (Some x) = DiscardedIn s a x.dialogue

module _ (𝓢 : Sealing) {M : Type 0} (𝓐 : Acts M) (m : M) where
  -- The reply to the command that is owed an answer, by what its application held then.
  abbrev pub reply_owed : Owed → List ℕ
  reply_owed o = 𝓐.reply (after 𝓐 m o.earlier) o.command

  -- A string that opens under the connection's keys to that reply, with direction 01 and the command's number.
  pub record Opened (x : Link) (o : Owed) (z : List ℕ) : Type 0 where
    pub text : Text
    pub opens : 𝓢.opened x.suite x.keys z ≡ Some text
    pub direction : text.direction ≡ direction.Reply
    pub number : text.number ≡ o.number
    pub body : text.body ≡ reply_owed o

  -- A block of an answer, fetched after all before it. One that is not the last is full, and at most 288 bytes are joined, so
  -- that there is a last; with it, the joined blocks open to the application's reply. (What code replies is bytes; the
  -- definition of an application alone does not say so.)
  pub record Fetched (x : Link) (g : Got) (row size : ℕ) (a : Reading) (o : Owed) : Type 0 where
    pub last : Bytes (reply_owed o) → is 0x92 (row * 2) a ≡ true → Opened x o (g.bytes ++ a.bytes)
    pub full : is 0x92 (row * 2 + 1) a ≡ true → length a.bytes ≡ size
    pub short : Bytes (reply_owed o) → (a.sw1 == 0x92) ≡ true → length (g.bytes ++ a.bytes) ≤ 288

  -- Without an answer, a fetch is 69 85.
  abbrev pub OpensStanding : Link → Got → ℕ → ℕ → ℕ → Reading → Standing → Type 0
  OpensStanding x g row size n a at_rest = is 0x69 0x85 a ≡ true
  OpensStanding x g row size n a (under_way b bs) = is 0x69 0x85 a ≡ true
  OpensStanding x g row size n a (owing b o) = n ≡ g.blocks → Fetched x g row size a o

  abbrev pub OpensDialogue : Link → Got → ℕ → ℕ → Reading → Option Dialogue → Type 0
  OpensDialogue x g row n a None = is 0x69 0x85 a ≡ true
  OpensDialogue x g row n a (Some d) = OpensStanding x g row d.size n a d.standing

  abbrev pub OpensRow : Got → ℕ → ℕ → Reading → Option Link → Type 0
  OpensRow g row n a None = is 0x69 0x85 a ≡ true
  OpensRow g row n a (Some x) = OpensDialogue x g row n a x.dialogue
