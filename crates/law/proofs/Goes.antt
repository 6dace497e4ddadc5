-- A powered card's command that is not refused for its lengths goes by its request; and what is no reply.
use Rattle.std.proofs.Common.{◌≡◌, ℕ, Bool, true, false, not, ◌||◌, eqb, ltb, List, length, ap, ◌∙◌, arith, le-ltb, eq-eqb}
use Rattle.sealing.specs.Sealing.{Sealing}
use Rattle.law.specs.Request.{Request, request}
use Rattle.law.specs.Calls.{command, not_taken, refused_host, replied}
use Rattle.law.specs.Associations.{Hashing}
use Rattle.law.specs.Step.{Core, requests, commands_at, moves_at}
use Rattle.law.specs.Laws.{WellSized}

pub not_taken_here : {P : Type 0} (a : List ℕ) → not_taken ≡ replied a → P
not_taken_here a q = absurd (let z : ◌≡◌ {A = ℕ} 0 1 = cc in omega arith)

pub refused_here : {P : Type 0} (k : ℕ) (a : List ℕ) → refused_host k ≡ replied a → P
refused_here k a q = absurd (let z : ◌≡◌ {A = ℕ} 0 1 = cc in omega arith)

roomy : (random : List ℕ) (buffer work : ℕ) → WellSized random buffer work → (ltb buffer 258 || ltb work 64) ≡ false
roomy random buffer work sized = ap (λ (b : Bool). b || ltb work 64) (le-ltb buffer 258 sized.buffer_room) ∙ le-ltb work 64 sized.work_room

pub goes_to : (𝓗 : Hashing) (𝓢 : Sealing) (c : Core) (apdu random : List ℕ) (buffer work : ℕ) (q : Request) → c.powered ≡ true → WellSized random buffer work → request apdu ≡ q
    → moves_at 𝓗 𝓢 c c.powered (command apdu random buffer work) ≡ requests 𝓗 𝓢 c apdu random q
goes_to 𝓗 𝓢 c apdu random buffer work q pw sized req =
    ap (λ (p : Bool). moves_at 𝓗 𝓢 c p (command apdu random buffer work)) pw
    ∙ ap (λ (u : Bool). commands_at 𝓗 𝓢 c apdu random u (not (eqb (length random) 32))) (roomy random buffer work sized)
    ∙ ap (λ (v : Bool). commands_at 𝓗 𝓢 c apdu random false (not v)) (eq-eqb (length random) 32 sized.random_bytes)
    ∙ ap (λ (q : Request). requests 𝓗 𝓢 c apdu random q) req
