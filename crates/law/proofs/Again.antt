-- A block that was answered 92, sent again.
use Rattle.std.proofs.Common.{◌≡◌, ℕ, ◌+◌, ◌*◌, Bool, true, false, not, ◌&&◌, ◌||◌, eqb, ltb, List, [], ◌∷◌, ◌++◌, length, get_or, Some, None, Option, sym, refl, ap, ◌∙◌, subst, eq-eqb}
use Rattle.sealing.specs.Sealing.{Sealing}
use Rattle.application.specs.Acts.{Acts}
use Rattle.apdu.specs.Command.{alone}
use Rattle.apdu.specs.declared.status.Status.TheVariants as sw
use Rattle.apdu.specs.StatusWords.{status_bytes}
use Rattle.law.specs.Request.{Block, Request, block, request}
use Rattle.law.specs.Calls.{command, replied}
use Rattle.law.specs.Associations.{Hashing, transactions_limit}
use Rattle.law.specs.Tables.{Talk, gathering, answered, Session, unstarted, started, Connection, with_session}
use Rattle.law.specs.Session as session
use Rattle.law.specs.Rows.{same_bytes}
use Rattle.law.specs.Session.{same_block, repeats, completed, in_turn, before, fits, Judgement, accepts, judged}
use Rattle.law.specs.Step.{Core, Move, does, plain, runs, gives, row_says, judges, completes, gathers, turns, takes, in_session, blocks, requests, commands_at, moves_at, State, carries, step}
use Rattle.law.specs.Laws.{SameOutcome, WellSized, SentAgainRunsNothing}
use Rattle.law.proofs.Goes.{goes_to, not_taken_here, refused_here}
use Rattle.law.proofs.Rows.{never, set_here}
use Rattle.law.proofs.Ruling.{same_itself}

-- Other status words than 92.
not_92 : {P : Type 0} (a b n : ℕ) → eqb a 0x92 ≡ false → replied (a ∷ b ∷ []) ≡ replied (0x92 ∷ n ∷ []) → P
not_92 a b n e q = let h : a ≡ 0x92 = cc in never (sym (eq-eqb a 0x92 h) ∙ e)

module _ (𝓢 : Sealing) (row p2 : ℕ) (d : List ℕ) where
  abbrev again : Core → Move
  again c = blocks 𝓢 c row p2 (alone d) (get_or c.tables.connections row None)

  abbrev here : Block
  here = record { p2 = p2; bytes = d }

  -- Where the first has left the card, the block answers the same, and does nothing.
  abbrev Settled : Core → Move → Type 0
  Settled c (does c' a) = (n : ℕ) → a ≡ replied (status_bytes (sw.Taken n)) → (c'.powered ≡ c.powered) × (again c' ≡ does c' a)
  Settled c (plain z) = ⊥
  Settled c (runs c' row' x body) = (c'.powered ≡ c.powered) × (again c' ≡ does c' (replied (status_bytes (sw.Taken (row' * 2 + 1)))))
  Settled c (gives row' size n h) = ⊥

  same_here : same_block here p2 d ≡ true
  same_here = ap (λ (b : Bool). b && same_bytes d d) (eq-eqb p2 p2 refl) ∙ same_itself d

  comes_again : (c : Core) (y : Connection) (size : ℕ) (t : Talk) → get_or c.tables.connections row None ≡ Some y → y.session ≡ started size t → repeats t p2 (alone d) ≡ true
      → again c ≡ row_says c row (completed t)
  comes_again c y size t held ses rep =
      ap (λ (o : Option Connection). blocks 𝓢 c row p2 (alone d) o) held ∙ ap (λ (z : Session). in_session 𝓢 c row y p2 (alone d) z) ses
      ∙ ap (λ (b : Bool). takes 𝓢 c row y size t p2 (alone d) b) rep

  module _ (c : Core) (x : Connection) (held : get_or c.tables.connections row None ≡ Some x) (size : ℕ) where
    judges_settled : (v : Judgement) → Settled c (judges 𝓢 c row x size here v)
    judges_settled session.wrong = λ n q. not_92 0x69 0x88 n refl q
    judges_settled session.spent = λ n q. not_92 0x69 0x83 n refl q
    judges_settled (accepts body) =
        let y : Connection = with_session x (x.count + 1) (started size (answered here)) in
        (refl, comes_again _ y size (answered here) (set_here c.tables.connections row (Some y) x held) refl same_here)

    completes_settled : (z : List ℕ) (p : Bool) → Settled c (completes 𝓢 c row x size here z p)
    completes_settled z true = judges_settled (judged 𝓢 x (transactions_limit c.tables.keys c.tables.masters x.master) z)
    completes_settled z false =
        let y : Connection = with_session x x.count (started size (gathering z here)) in
        λ n q. (refl, comes_again _ y size (gathering z here) (set_here c.tables.connections row (Some y) x held) refl same_here)

    module _ (t : Talk) (ses : x.session ≡ started size t) where
      gathers_settled : (b : Bool) → Settled c (gathers 𝓢 c row x size t p2 d b)
      gathers_settled true = completes_settled (before t ++ d) (eqb p2 0)
      gathers_settled false = λ n q. not_92 0x67 0x00 n refl q

      turns_settled : (b : Bool) → Settled c (turns 𝓢 c row x size t p2 (alone d) b)
      turns_settled true = gathers_settled (fits size t (alone d))
      turns_settled false = λ n q. not_92 0x6A 0x86 n refl q

      takes_settled : (r : Bool) → repeats t p2 (alone d) ≡ r → Settled c (takes 𝓢 c row x size t p2 (alone d) r)
      takes_settled true e = λ n q. (refl, comes_again c x size t held ses e)
      takes_settled false e = turns_settled (in_turn t p2)

  session_settled : (c : Core) (x : Connection) → get_or c.tables.connections row None ≡ Some x → (z : Session) → x.session ≡ z → Settled c (in_session 𝓢 c row x p2 (alone d) z)
  session_settled c x held unstarted e = λ n q. not_92 0x69 0x85 n refl q
  session_settled c x held (started size t) e = takes_settled c x held size t e (repeats t p2 (alone d)) refl

  settled : (c : Core) (o : Option Connection) → get_or c.tables.connections row None ≡ o → Settled c (blocks 𝓢 c row p2 (alone d) o)
  settled c None e = λ n q. not_92 0x69 0x85 n refl q
  settled c (Some x) e = session_settled c x e x.session refl

module _ (𝓗 : Hashing) (𝓢 : Sealing) {M : Type 0} (𝓐 : Acts M) (apdu later sent : List ℕ) (buffer work row p2 : ℕ) (req : request apdu ≡ block row p2 (alone sent)) (sized : WellSized later buffer work) where
  second : (c : Core) → c.powered ≡ true → moves_at 𝓗 𝓢 c c.powered (command apdu later buffer work) ≡ again 𝓢 row p2 sent c
  second c pw = goes_to 𝓗 𝓢 c apdu later buffer work (block row p2 (alone sent)) pw sized req

  module _ (s : State M) (pw : s.core.powered ≡ true) (n : ℕ) where
    outcome : (mv : Move) → Settled 𝓢 row p2 sent s.core mv → (carries 𝓢 𝓐 s mv).answer ≡ replied (status_bytes (sw.Taken n))
        → SameOutcome (carries 𝓢 𝓐 s mv) (step 𝓗 𝓢 𝓐 (carries 𝓢 𝓐 s mv).after (command apdu later buffer work))
    outcome (does c a) h q =
        subst (λ (mv : Move). SameOutcome (carries 𝓢 𝓐 s (does c a)) (carries 𝓢 𝓐 (carries 𝓢 𝓐 s (does c a)).after mv)) (sym (second c ((h n q).0 ∙ pw) ∙ (h n q).1))
        (record { answer = refl; core = refl; contents = refl })
    outcome (plain z) h q = absurd h
    outcome (runs c row' x body) h q =
        subst (λ (mv : Move). SameOutcome (carries 𝓢 𝓐 s (runs c row' x body)) (carries 𝓢 𝓐 (carries 𝓢 𝓐 s (runs c row' x body)).after mv)) (sym (second c (h.0 ∙ pw) ∙ h.1))
        (record { answer = refl; core = refl; contents = refl })
    outcome (gives row' size k h') h q = absurd h

    requested : (q : Request) → q ≡ block row p2 (alone sent) → (random : List ℕ) → (carries 𝓢 𝓐 s (requests 𝓗 𝓢 s.core apdu random q)).answer ≡ replied (status_bytes (sw.Taken n))
        → SameOutcome (carries 𝓢 𝓐 s (requests 𝓗 𝓢 s.core apdu random q)) (step 𝓗 𝓢 𝓐 (carries 𝓢 𝓐 s (requests 𝓗 𝓢 s.core apdu random q)).after (command apdu later buffer work))
    requested q e random =
        subst (λ (q : Request). (carries 𝓢 𝓐 s (requests 𝓗 𝓢 s.core apdu random q)).answer ≡ replied (status_bytes (sw.Taken n))
        → SameOutcome (carries 𝓢 𝓐 s (requests 𝓗 𝓢 s.core apdu random q)) (step 𝓗 𝓢 𝓐 (carries 𝓢 𝓐 s (requests 𝓗 𝓢 s.core apdu random q)).after (command apdu later buffer work)))
        (sym e) (outcome (again 𝓢 row p2 sent s.core) (settled 𝓢 row p2 sent s.core (get_or s.core.tables.connections row None) refl))

    commanded : (random : List ℕ) (u v : Bool) → (carries 𝓢 𝓐 s (commands_at 𝓗 𝓢 s.core apdu random u v)).answer ≡ replied (status_bytes (sw.Taken n))
        → SameOutcome (carries 𝓢 𝓐 s (commands_at 𝓗 𝓢 s.core apdu random u v)) (step 𝓗 𝓢 𝓐 (carries 𝓢 𝓐 s (commands_at 𝓗 𝓢 s.core apdu random u v)).after (command apdu later buffer work))
    commanded random true v q = refused_here 5 (0x92 ∷ n ∷ []) q
    commanded random false true q = refused_here 6 (0x92 ∷ n ∷ []) q
    commanded random false false q = requested (request apdu) req random q

  powered_outcome : (s : State M) (random : List ℕ) (b w n : ℕ) (p : Bool) → s.core.powered ≡ p → (carries 𝓢 𝓐 s (moves_at 𝓗 𝓢 s.core p (command apdu random b w))).answer ≡ replied (status_bytes (sw.Taken n))
      → SameOutcome (carries 𝓢 𝓐 s (moves_at 𝓗 𝓢 s.core p (command apdu random b w))) (step 𝓗 𝓢 𝓐 (carries 𝓢 𝓐 s (moves_at 𝓗 𝓢 s.core p (command apdu random b w))).after (command apdu later buffer work))
  powered_outcome s random b w n true e q = commanded s e n random (ltb b 258 || ltb w 64) (not (eqb (length random) 32)) q
  powered_outcome s random b w n false e q = not_taken_here (0x92 ∷ n ∷ []) q

module _ (𝓗 : Hashing) (𝓢 : Sealing) {M : Type 0} (𝓐 : Acts M) where
  pub sent_again_runs_nothing : SentAgainRunsNothing 𝓗 𝓢 𝓐
  sent_again_runs_nothing s apdu random later sent buffer work buffer' work' row p2 n req sized e =
      powered_outcome 𝓗 𝓢 𝓐 apdu later sent buffer' work' row p2 req sized s random buffer work n s.core.powered refl e
