-- The law over runs: what holds of every sealer, any two applications and every list of calls since new, of two cards that
-- require the channel and differ in the application alone. Read it from the end: `Law`, then `Stands` and `Kept`, line by line.
use Rattle.std.specs.Prelude.{◌≡◌, ℕ, Bool, true, false, List, [], ◌∷◌, None, Option, slice_index_or}
use Rattle.sealing.specs.Sealing.{Sealing}
use Rattle.application.specs.Acts.{Acts, after}
use Rattle.personalise.specs.Load.{loading}
use Rattle.law.specs.Request.{Request, malformed, other, unlisted, begin, continue, discover, answer, go_on, block, fetch, discard, request}
use Rattle.law.specs.Calls.{Entry, Call, load, power_on, power_off, command, Answer, not_taken, powered, loaded, refused_host, replied}
use Rattle.law.specs.Associations.{Hashing, Sized}
use Rattle.law.specs.Ledger.{Reading, reading, is, Link, Ledger, blank, owes, enters, ledger, Got, nothing_got, got}
use Rattle.law.specs.Step.{State, new}
use Rattle.law.specs.Run.{run, left_by}
use Rattle.law.specs.Judged.{Judged, OpensRow, Discarded}
use Rattle.law.specs.Ruled.{RuledBlock, RuledNext, Discovered, load_answer, LoadedAs}
use Rattle.law.specs.Held.{SameRows, Sound, Written}

abbrev pub fetches_request : List (Option Link) → Request → Bool
fetches_request xs malformed = false
fetches_request xs other = false
fetches_request xs unlisted = false
fetches_request xs (begin k s) = false
fetches_request xs (continue k s) = false
fetches_request xs (discover s) = false
fetches_request xs (answer k s) = false
fetches_request xs (go_on k s) = false
fetches_request xs (block row p2 s) = false
fetches_request xs (fetch row n s) = owes (slice_index_or xs row None)
fetches_request xs (discard row s) = false

-- A fetch in a session that holds an answer.
abbrev pub fetches_answer : Ledger → Call → Bool
fetches_answer l (load text) = false
fetches_answer l power_on = false
fetches_answer l power_off = false
fetches_answer l (command c random buffer work) = fetches_request l.book.links (request c)

module _ (𝓗 : Hashing) (𝓢 : Sealing) where
  -- The same calls, and equal answers to each but a fetch in a session that holds an answer.
  abbrev pub Alike : Ledger → List Entry → List Entry → Type 0
  Alike l [] [] = Unit {0}
  Alike l [] (f ∷ fs) = ⊥
  Alike l (e ∷ es) [] = ⊥
  Alike l (e ∷ es) (f ∷ fs) =
      (e.call ≡ f.call) × (fetches_answer l e.call ≡ false → e.answer ≡ f.answer) × Alike (enters 𝓗 𝓢 l e.call e.answer) es fs

module _ (𝓗 : Hashing) (𝓢 : Sealing) {M : Type 0} (𝓐 : Acts M) (m : M) where
  -- What each request's answer must be, by the ledger.
  abbrev pub LawfulRequest : Ledger → (ℕ → Got) → List ℕ → Request → Reading → Type 0
  LawfulRequest l gs random malformed a = is 0x67 0x00 a ≡ true
  LawfulRequest l gs random other a = is 0x69 0x89 a ≡ true
  LawfulRequest l gs random unlisted a = is 0x6A 0x86 a ≡ true
  LawfulRequest l gs random (begin k s) a = RuledBlock 𝓗 l.book random k [] s a
  LawfulRequest l gs random (continue k s) a = RuledNext 𝓗 l.book random k s a l.object
  LawfulRequest l gs random (discover s) a = Discovered l.failures s a
  LawfulRequest l gs random (answer k s) a = Unit {0}
  LawfulRequest l gs random (go_on k s) a = Unit {0}
  LawfulRequest l gs random (block row p2 s) a = Judged 𝓢 l p2 s a (slice_index_or l.book.links row None)
  LawfulRequest l gs random (fetch row n s) a = OpensRow 𝓢 𝓐 m (gs row) row n a (slice_index_or l.book.links row None)
  LawfulRequest l gs random (discard row s) a = Discarded s a (slice_index_or l.book.links row None)

  abbrev pub LawfulAnswer : Ledger → (ℕ → Got) → List ℕ → Request → Answer → Type 0
  LawfulAnswer l gs random q (replied a) = LawfulRequest l gs random q (reading a)
  LawfulAnswer l gs random q not_taken = Unit {0}
  LawfulAnswer l gs random q powered = Unit {0}
  LawfulAnswer l gs random q (loaded n) = Unit {0}
  LawfulAnswer l gs random q (refused_host n) = Unit {0}

  abbrev pub Lawful : Ledger → (ℕ → Got) → Call → Answer → Type 0
  Lawful l gs (load text) a = LoadedAs (load_answer l.book (loading text)) a
  Lawful l gs power_on a = Unit {0}
  Lawful l gs power_off a = Unit {0}
  Lawful l gs (command c random buffer work) a = LawfulAnswer l gs random (request c) a

module _ (𝓗 : Hashing) (𝓢 : Sealing) where
  -- Each call of a run, under the ledger as it then is.
  abbrev pub Each : {M : Type 0} → Acts M → M → Ledger → (ℕ → Got) → List Entry → Type 0
  Each 𝓐 m l gs [] = Unit {0}
  Each 𝓐 m l gs (e ∷ es) =
      Lawful 𝓗 𝓢 𝓐 m l gs e.call e.answer × Each 𝓐 m (enters 𝓗 𝓢 l e.call e.answer) (got l gs e.call e.answer) es

  -- One card after a list of calls, of which these are the entries; m is what its application held at first.
  pub record Kept {M : Type 0} (𝓐 : Acts M) (m : M) (es : List Entry) (s : State M) : Type 0 where
    -- A load gets its number. Each completed command gets 92 exactly when it is accepted; the blocks of an answer open to the
    -- application's reply; each object is granted exactly when it is in order. Struck out: a card that says 64 00 to all, one
    -- that answers 69 83 or 6A 84 early, or always, one that takes a command which does not open, an answer to another command,
    -- of another connection or under another number, a load refused for want of a row that is free.
    pub each : Each 𝓐 m blank nothing_got es
    -- The application holds what the inner commands make of its first contents, each run once, in order. Struck out: a card
    -- that runs the application at the first block, never, or twice for a repeated block.
    pub contents : s.contents ≡ after 𝓐 m (ledger 𝓗 𝓢 blank es).inner
    -- The card's keys, masters and connections are the ledger's, row by row, with what each yielded, and so are its sessions.
    -- Struck out: a power off that does nothing, a count that is reset at power off, a new connection that is already started
    -- or has its row's old blocks, a repetition that changes the session, a row that is not the smallest free one.
    pub rows : SameRows s.core.tables (ledger 𝓗 𝓢 blank es).book
    -- The failure count is how often 69 88 was answered, up to 255; by `each`, a discovery shows that. Struck out: an invented
    -- failure count.
    pub failures : s.core.failures ≡ (ledger 𝓗 𝓢 blank es).failures
    -- Nothing has yielded more than its limit, each connection rests on a held master, and each master on a held key. Struck
    -- out: a connection that is kept when its master is gone, a limit that is passed.
    pub sound : Sound s.core.tables
    -- Each held key has three limits, each the number that the text of its load wrote. Struck out: an unset limit that is
    -- taken for 0, a limit that is read wrongly, a key that nobody loaded.
    pub written : Written es s.core.tables

  -- Two cards after the same calls.
  pub record Stands {L R : Type 0} (𝓛 : Acts L) (𝓡 : Acts R) (l : L) (r : R) (es fs : List Entry) (s : State L) (t : State R) : Type 0 where
    -- Both answer alike to every call but a fetch in a session that holds an answer. Struck out: a card whose tables, refusals
    -- or counts tell what the application is or holds, or that lets a plain command reach it.
    pub alike : Alike 𝓗 𝓢 blank es fs
    pub left : Kept 𝓛 l es s
    pub right : Kept 𝓡 r fs t

-- The law whole: whatever gives the MACs and the key material, whatever the applications hold at first, any calls since new.
abbrev pub Law : Sealing → {L R : Type 0} → Acts L → Acts R → Type 0
Law 𝓢 {L} {R} 𝓛 𝓡 = (𝓗 : Hashing) → Sized 𝓗 → (l : L) (r : R) (cs : List Call)
    → Stands 𝓗 𝓢 𝓛 𝓡 l r (run 𝓗 𝓢 𝓛 (new true l) cs) (run 𝓗 𝓢 𝓡 (new true r) cs) (left_by 𝓗 𝓢 𝓛 (new true l) cs) (left_by 𝓗 𝓢 𝓡 (new true r) cs)
