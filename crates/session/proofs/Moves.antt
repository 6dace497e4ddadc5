-- The card's moves of a started session, told from what the session makes of an event.
use Rattle.std.proofs.Common.{◌≡◌, ℕ, Bool, true, false, Result, sym, refl, ap, ◌∙◌}
use Rattle.sealing.specs.Sealing.{Sealing}
use Rattle.apdu.specs.Command.{Shape, bare, le, alone, both, data_of}
use Rattle.apdu.specs.declared.status.Status.{Status}
use Rattle.law.specs.Tables.{Talk, idle, gathering, answered, Session, started, Connection}
use Rattle.law.specs.Session.{repeats, completed, in_turn, fits}
use Rattle.law.specs.Step as law
use Rattle.law.specs.Step.{Core, Move, put, talks, row_says, flag, holds_talk, in_session, fetches_in, fetches_from, discards_in, discards_as}
use Rattle.session.specs.declared.event.Heard.{Heard}
use Rattle.session.specs.Heard.{block, fetch, discard, joins, turns, takes, heard, fetches, discards}
use Rattle.session.specs.Moved.{talk_after, moved}

-- SW2 is one higher exactly where the session is answered.
flag_completed : (t : Talk) → completed t ≡ flag (holds_talk t)
flag_completed idle = refl
flag_completed (gathering j b) = refl
flag_completed (answered b) = refl

module _ (𝓢 : Sealing) (c : Core) (row : ℕ) (x : Connection) (size : ℕ) (t : Talk) (p2 : ℕ) (s : Shape) where
  -- The move by what was heard.
  abbrev goes : Result Heard Status → Move
  goes h = moved 𝓢 c row x size t p2 s h

  joins_moved : (b : Bool) → law.gathers 𝓢 c row x size t p2 (data_of s) b ≡ goes (joins t p2 s b).0
  joins_moved true = refl
  joins_moved false = refl

  turns_moved : (b : Bool) → law.turns 𝓢 c row x size t p2 s b ≡ goes (turns size t p2 s b).0
  turns_moved true = joins_moved (fits size t s)
  turns_moved false = refl

  takes_moved : (b : Bool) → law.takes 𝓢 c row x size t p2 s b ≡ goes (takes size t p2 s b).0
  takes_moved true = ap (row_says c row) (flag_completed t)
  takes_moved false = turns_moved (in_turn t p2)

  -- A block.
  pub block_moved : (h : Result Heard Status) → h ≡ (heard size t (block p2 s)).0 → law.takes 𝓢 c row x size t p2 s (repeats t p2 s) ≡ moved 𝓢 c row x size t p2 s h
  block_moved h e = takes_moved (repeats t p2 s) ∙ ap goes (sym e)

  pub block_in_session : x.session ≡ started size t → (h : Result Heard Status) → h ≡ (heard size t (block p2 s)).0 → in_session 𝓢 c row x p2 s x.session ≡ moved 𝓢 c row x size t p2 s h
  block_in_session q h e = ap (λ (y : Session). in_session 𝓢 c row x p2 s y) q ∙ block_moved h e

  -- A fetch.
  fetches_moved : (u : Talk) → fetches_from c row p2 s size u ≡ goes (fetches u (holds_talk u)).0
  fetches_moved idle = refl
  fetches_moved (gathering j b) = refl
  fetches_moved (answered b) = refl

  pub fetch_moved : (h : Result Heard Status) → h ≡ (heard size t fetch).0 → fetches_from c row p2 s size t ≡ moved 𝓢 c row x size t p2 s h
  fetch_moved h e = fetches_moved t ∙ ap goes (sym e)

  pub fetch_in_session : x.session ≡ started size t → (h : Result Heard Status) → h ≡ (heard size t fetch).0 → fetches_in c row p2 s x.session ≡ moved 𝓢 c row x size t p2 s h
  fetch_in_session q h e = ap (λ (y : Session). fetches_in c row p2 s y) q ∙ fetch_moved h e

  -- A discard.
  discards_moved : (r : Shape) → discards_as c row x size r ≡ goes (discards t r).0
  discards_moved bare = refl
  discards_moved (le n) = refl
  discards_moved (alone d) = refl
  discards_moved (both d n) = refl

  pub discard_moved : (h : Result Heard Status) → h ≡ (heard size t (discard s)).0 → discards_as c row x size s ≡ moved 𝓢 c row x size t p2 s h
  discard_moved h e = discards_moved s ∙ ap goes (sym e)

  pub discard_in_session : x.session ≡ started size t → (h : Result Heard Status) → h ≡ (heard size t (discard s)).0 → discards_in c row x s x.session ≡ moved 𝓢 c row x size t p2 s h
  discard_in_session q h e = ap (λ (y : Session). discards_in c row x s y) q ∙ discard_moved h e

-- The session afterwards, told from what it made of the event.
module _ (size : ℕ) (t : Talk) (p2 : ℕ) (s : Shape) where
  -- The session afterwards is the one that goes with what was heard.
  abbrev ends : Result Heard Status × Talk → Type 0
  ends r = r.1 ≡ talk_after t p2 s r.0

  joins_ends : (b : Bool) → ends (joins t p2 s b)
  joins_ends true = refl
  joins_ends false = refl

  turns_ends : (b : Bool) → ends (turns size t p2 s b)
  turns_ends true = joins_ends (fits size t s)
  turns_ends false = refl

  takes_ends : (b : Bool) → ends (takes size t p2 s b)
  takes_ends true = refl
  takes_ends false = turns_ends (in_turn t p2)

  pub block_ends : (h : Result Heard Status) → h ≡ (heard size t (block p2 s)).0 → (heard size t (block p2 s)).1 ≡ talk_after t p2 s h
  block_ends h e = takes_ends (repeats t p2 s) ∙ ap (λ (g : Result Heard Status). talk_after t p2 s g) (sym e)
