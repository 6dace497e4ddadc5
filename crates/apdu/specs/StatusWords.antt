-- The two bytes of each status word, and what it says.
use Rattle.std.specs.Prelude.{ℕ, List, [], ◌∷◌, codes}
use Rattle.apdu.specs.declared.status.Status.{Status}
use Rattle.apdu.specs.declared.status.Status.TheVariants.{Done, MoreToFetch, ReplyWaits, MoreToSend, NotPossible, WrongLength, LimitPassed, NotNow, NotAuthentic, ChannelRequired, WrongData, NoSuchRecord, NoRoom, WrongParameters, NoSuchIdentifier, UnknownInstruction, Taken}

-- SW1 and SW2.
abbrev pub status_bytes : Status → List ℕ
status_bytes Done = 0x90 ∷ 0x00 ∷ []
status_bytes MoreToFetch = 0x62 ∷ 0xF1 ∷ []
status_bytes ReplyWaits = 0x62 ∷ 0xF3 ∷ []
status_bytes MoreToSend = 0x63 ∷ 0xF1 ∷ []
status_bytes NotPossible = 0x64 ∷ 0x00 ∷ []
status_bytes WrongLength = 0x67 ∷ 0x00 ∷ []
status_bytes LimitPassed = 0x69 ∷ 0x83 ∷ []
status_bytes NotNow = 0x69 ∷ 0x85 ∷ []
status_bytes NotAuthentic = 0x69 ∷ 0x88 ∷ []
status_bytes ChannelRequired = 0x69 ∷ 0x89 ∷ []
status_bytes WrongData = 0x6A ∷ 0x80 ∷ []
status_bytes NoSuchRecord = 0x6A ∷ 0x83 ∷ []
status_bytes NoRoom = 0x6A ∷ 0x84 ∷ []
status_bytes WrongParameters = 0x6A ∷ 0x86 ∷ []
status_bytes NoSuchIdentifier = 0x6A ∷ 0x88 ∷ []
status_bytes UnknownInstruction = 0x6D ∷ 0x00 ∷ []
status_bytes (Taken n) = 0x92 ∷ n ∷ []

-- What each says, in words.
abbrev pub status_words : Status → List ℕ
status_words Done = codes "done"
status_words MoreToFetch = codes "more of the reply is left to fetch"
status_words ReplyWaits = codes "done, a reply waits to be fetched"
status_words MoreToSend = codes "incomplete, more blocks have to be sent"
status_words NotPossible = codes "nothing in common, or identifier in use"
status_words WrongLength = codes "malformed command or wrong length"
status_words LimitPassed = codes "beyond the limit"
status_words NotNow = codes "not in this state"
status_words NotAuthentic = codes "wrong MAC, or not opened by the key"
status_words ChannelRequired = codes "only over the channel"
status_words WrongData = codes "wrong data"
status_words NoSuchRecord = codes "no such record"
status_words NoRoom = codes "no room"
status_words WrongParameters = codes "wrong P1 or P2"
status_words NoSuchIdentifier = codes "no such identifier"
status_words UnknownInstruction = codes "unknown instruction"
status_words (Taken n) = codes "session block taken"

-- What is said of two bytes that are none.
abbrev pub no_status_words : List ℕ
no_status_words = codes "no such status word"
