-- The session of a row has that row's byte.
use Rattle.std.proofs.Common.{◌≡◌, ℕ, ◌*◌, ◌≤◌, Bool, true, false, cond, not, ◌||◌, eqb, ltb, List, [], ◌∷◌, ◌++◌, length, take, Some, sym, refl, ap, ◌∙◌, subst, take_all, le-ltb, eq-eqb}
use Rattle.sealing.specs.Sealing.{Sealing}
use Rattle.application.specs.Acts.{Acts}
use Rattle.apdu.specs.Command.{le, alone}
use Rattle.apdu.specs.declared.status.Status.TheVariants as sw
use Rattle.apdu.specs.StatusWords.{status_bytes}
use Rattle.objects.specs.Joined.{Object, value, object}
use Rattle.objects.specs.Asked.{Asked, ask_start, asked_start}
use Rattle.law.specs.Rows.{At, found}
use Rattle.law.specs.Request.{Request, start, begin, answer, request}
use Rattle.law.specs.Calls.{command, replied}
use Rattle.law.specs.Associations.{Hashing}
use Rattle.law.specs.Tables.{Connection}
use Rattle.law.specs.Associate.{has_csa, bad_layout, unknown, no_row, not_possible, already_started, Verdict, refused, wrong_mac, spent, granted, verdict, established, session_reply}
use Rattle.law.specs.Step.{Core, waits, put, decides, joined, requests, commands_at, moves_at, State, carries, step}
use Rattle.law.specs.Laws.{WellSized, SessionsAreNamedByRow}
use Rattle.law.proofs.Rows.{never}
use Rattle.law.proofs.Goes.{goes_to, not_taken_here, refused_here}

not_62 : {P : Type 0} (a b : ℕ) → eqb a 0x62 ≡ false → replied (a ∷ b ∷ []) ≡ replied (0x62 ∷ 0xF3 ∷ []) → P
not_62 a b e q = let h : a ≡ 0x62 = cc in never (sym (eq-eqb a 0x62 h) ∙ e)

-- All five bytes of a session's object.
five : (c : Core) (z : List ℕ) (b n : ℕ) → z ≡ 0x73 ∷ 0x03 ∷ 0x53 ∷ 0x01 ∷ b ∷ [] → 5 ≤ n
    → take n z ++ cond (ltb n (length z)) (status_bytes sw.MoreToFetch) (status_bytes sw.Done) ≡ 0x73 ∷ 0x03 ∷ 0x53 ∷ 0x01 ∷ b ∷ 0x90 ∷ 0x00 ∷ []
five c z b n e h =
    ap (λ (z : List ℕ). take n z ++ cond (ltb n (length z)) (status_bytes sw.MoreToFetch) (status_bytes sw.Done)) e
    ∙ ap (λ (m : Bool). take n (0x73 ∷ 0x03 ∷ 0x53 ∷ 0x01 ∷ b ∷ []) ++ cond m (status_bytes sw.MoreToFetch) (status_bytes sw.Done)) (le-ltb n 5 h)
    ∙ ap (λ (ys : List ℕ). ys ++ 0x90 ∷ 0x00 ∷ []) (take_all n (0x73 ∷ 0x03 ∷ 0x53 ∷ 0x01 ∷ b ∷ []) h)

module _ (𝓗 : Hashing) (𝓢 : Sealing) {M : Type 0} (𝓐 : Acts M) (second later csa mac : List ℕ) (buffer work size n : ℕ) (x : At Connection)
    (req : request second ≡ answer start (le n)) (sized : WellSized later buffer work) (long : 5 ≤ n) where
  module _ (s : State M) (pw : s.core.powered ≡ true) (here : found (has_csa csa) s.core.tables.connections ≡ Some x) (random : List ℕ) where
    abbrev a : Asked
    a = ask_start csa size mac

    abbrev left : Core
    left = put s.core (established 𝓗 s.core.tables random a) (waits start (session_reply (found (has_csa csa) s.core.tables.connections)) 0)

    named : (t : State M) → t.core ≡ left → (step 𝓗 𝓢 𝓐 t (command second later buffer work)).answer ≡ replied (0x73 ∷ 0x03 ∷ 0x53 ∷ 0x01 ∷ x.row * 64 ∷ 0x90 ∷ 0x00 ∷ [])
    named t e =
        ap (λ mv. (carries 𝓢 𝓐 t mv).answer) (goes_to 𝓗 𝓢 t.core second later buffer work (answer start (le n)) (ap (λ (c : Core). c.powered) e ∙ pw) sized req
        ∙ ap (λ (c : Core). requests 𝓗 𝓢 c second later (answer start (le n))) e)
        ∙ ap replied (five t.core (session_reply (found (has_csa csa) s.core.tables.connections)) (x.row * 64) n (ap session_reply here) long)

    decided : (v : Verdict) → (carries 𝓢 𝓐 s (decides 𝓗 s.core random start a v)).answer ≡ replied (status_bytes sw.ReplyWaits)
        → (step 𝓗 𝓢 𝓐 (carries 𝓢 𝓐 s (decides 𝓗 s.core random start a v)).after (command second later buffer work)).answer ≡ replied (0x73 ∷ 0x03 ∷ 0x53 ∷ 0x01 ∷ x.row * 64 ∷ 0x90 ∷ 0x00 ∷ [])
    decided (refused bad_layout) q = not_62 0x6A 0x80 refl q
    decided (refused unknown) q = not_62 0x6A 0x88 refl q
    decided (refused no_row) q = not_62 0x6A 0x84 refl q
    decided (refused not_possible) q = not_62 0x64 0x00 refl q
    decided (refused already_started) q = not_62 0x69 0x85 refl q
    decided wrong_mac q = not_62 0x69 0x88 refl q
    decided spent q = not_62 0x69 0x83 refl q
    decided granted q = named (carries 𝓢 𝓐 s (decides 𝓗 s.core random start a granted)).after refl

    as_asked : (b : Asked) → b ≡ a → (carries 𝓢 𝓐 s (decides 𝓗 s.core random start b (verdict 𝓗 s.core.tables random b))).answer ≡ replied (status_bytes sw.ReplyWaits)
        → (step 𝓗 𝓢 𝓐 (carries 𝓢 𝓐 s (decides 𝓗 s.core random start b (verdict 𝓗 s.core.tables random b))).after (command second later buffer work)).answer ≡ replied (0x73 ∷ 0x03 ∷ 0x53 ∷ 0x01 ∷ x.row * 64 ∷ 0x90 ∷ 0x00 ∷ [])
    as_asked b e = subst (λ (b : Asked). (carries 𝓢 𝓐 s (decides 𝓗 s.core random start b (verdict 𝓗 s.core.tables random b))).answer ≡ replied (status_bytes sw.ReplyWaits)
        → (step 𝓗 𝓢 𝓐 (carries 𝓢 𝓐 s (decides 𝓗 s.core random start b (verdict 𝓗 s.core.tables random b))).after (command second later buffer work)).answer ≡ replied (0x73 ∷ 0x03 ∷ 0x53 ∷ 0x01 ∷ x.row * 64 ∷ 0x90 ∷ 0x00 ∷ []))
        (sym e) (decided (verdict 𝓗 s.core.tables random a))

    as_object : (j v : List ℕ) (o : Object) → o ≡ value v → asked_start v ≡ a → (carries 𝓢 𝓐 s (joined 𝓗 s.core random start j o)).answer ≡ replied (status_bytes sw.ReplyWaits)
        → (step 𝓗 𝓢 𝓐 (carries 𝓢 𝓐 s (joined 𝓗 s.core random start j o)).after (command second later buffer work)).answer ≡ replied (0x73 ∷ 0x03 ∷ 0x53 ∷ 0x01 ∷ x.row * 64 ∷ 0x90 ∷ 0x00 ∷ [])
    as_object j v o e ea = subst (λ (o : Object). (carries 𝓢 𝓐 s (joined 𝓗 s.core random start j o)).answer ≡ replied (status_bytes sw.ReplyWaits)
        → (step 𝓗 𝓢 𝓐 (carries 𝓢 𝓐 s (joined 𝓗 s.core random start j o)).after (command second later buffer work)).answer ≡ replied (0x73 ∷ 0x03 ∷ 0x53 ∷ 0x01 ∷ x.row * 64 ∷ 0x90 ∷ 0x00 ∷ []))
        (sym e) (as_asked (asked_start v) ea)

    requested : (first sent v : List ℕ) (q : Request) → q ≡ begin start (alone sent) → object sent ≡ value v → asked_start v ≡ a
        → (carries 𝓢 𝓐 s (requests 𝓗 𝓢 s.core first random q)).answer ≡ replied (status_bytes sw.ReplyWaits)
        → (step 𝓗 𝓢 𝓐 (carries 𝓢 𝓐 s (requests 𝓗 𝓢 s.core first random q)).after (command second later buffer work)).answer ≡ replied (0x73 ∷ 0x03 ∷ 0x53 ∷ 0x01 ∷ x.row * 64 ∷ 0x90 ∷ 0x00 ∷ [])
    requested first sent v q e eo ea = subst (λ (q : Request). (carries 𝓢 𝓐 s (requests 𝓗 𝓢 s.core first random q)).answer ≡ replied (status_bytes sw.ReplyWaits)
        → (step 𝓗 𝓢 𝓐 (carries 𝓢 𝓐 s (requests 𝓗 𝓢 s.core first random q)).after (command second later buffer work)).answer ≡ replied (0x73 ∷ 0x03 ∷ 0x53 ∷ 0x01 ∷ x.row * 64 ∷ 0x90 ∷ 0x00 ∷ []))
        (sym e) (as_object sent v (object sent) eo ea)

    commanded : (first sent v : List ℕ) → request first ≡ begin start (alone sent) → object sent ≡ value v → asked_start v ≡ a → (u w : Bool)
        → (carries 𝓢 𝓐 s (commands_at 𝓗 𝓢 s.core first random u w)).answer ≡ replied (status_bytes sw.ReplyWaits)
        → (step 𝓗 𝓢 𝓐 (carries 𝓢 𝓐 s (commands_at 𝓗 𝓢 s.core first random u w)).after (command second later buffer work)).answer ≡ replied (0x73 ∷ 0x03 ∷ 0x53 ∷ 0x01 ∷ x.row * 64 ∷ 0x90 ∷ 0x00 ∷ [])
    commanded first sent v e eo ea true w q = refused_here 5 (status_bytes sw.ReplyWaits) q
    commanded first sent v e eo ea false true q = refused_here 6 (status_bytes sw.ReplyWaits) q
    commanded first sent v e eo ea false false q = requested first sent v (request first) e eo ea q

module _ (𝓗 : Hashing) (𝓢 : Sealing) {M : Type 0} (𝓐 : Acts M) where
  pub sessions_are_named_by_row : SessionsAreNamedByRow 𝓗 𝓢 𝓐
  sessions_are_named_by_row s first random second later sent v csa mac buffer work buffer' work' size n x e eo ea here q req sized long = by s.core.powered refl q
    where
      by : (p : Bool) → s.core.powered ≡ p → (carries 𝓢 𝓐 s (moves_at 𝓗 𝓢 s.core p (command first random buffer work))).answer ≡ replied (status_bytes sw.ReplyWaits)
          → (step 𝓗 𝓢 𝓐 (carries 𝓢 𝓐 s (moves_at 𝓗 𝓢 s.core p (command first random buffer work))).after (command second later buffer' work')).answer ≡ replied (0x73 ∷ 0x03 ∷ 0x53 ∷ 0x01 ∷ x.row * 64 ∷ 0x90 ∷ 0x00 ∷ [])
      by true pw q = commanded 𝓗 𝓢 𝓐 second later csa mac buffer' work' size n x req sized long s pw here random first sent v e eo ea (ltb buffer 258 || ltb work 64) (not (eqb (length random) 32)) q
      by false pw q = not_taken_here (status_bytes sw.ReplyWaits) q
