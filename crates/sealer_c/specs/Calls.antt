-- What a call from C gives: bytes at the start of the caller's buffer and their count, or a refusal's number and nothing written.
use Rattle.std.specs.Prelude.{◌≡◌, ℕ, ◌<◌, Bool, cond, ◌&&◌, List, ◌∷◌, ◌++◌, length, drop, Some, None, Ok, Err, Option, Result, ◌==◌, nat_le}
use Rattle.byte_lists.specs.Numbers.{octets}
use Rattle.sealing.specs.Suites.{suite_of, direction_byte, direction_of}
use Rattle.sealing.specs.Sealing.{Text, text}
use Rattle.sealer.specs.Sealers.{real}
use Rattle.sealer_c.specs.declared.refusal.Refusal.{Refusal}
use Rattle.sealer_c.specs.declared.refusal.Refusal.TheVariants.{Unfit, Shut}

-- 7: unknown suite or direction, keys that are not 40 bytes, a body outside 2 to 261 bytes, a buffer under 288 bytes.
-- 8: a string that does not open.
abbrev pub refusal_number : Refusal → ℕ
refusal_number Unfit = 7
refusal_number Shut = 8

-- What stands behind a value that may be absent.
abbrev pub upon : {X Y : Type 0} → Option X → Y → (X → Y) → Y
upon None e f = e
upon (Some x) e f = f x

-- Key bytes that are 40.
abbrev pub keys_of : List ℕ → Option (List ℕ)
keys_of k = cond (length k == 40) (Some k) None

-- Whether so many bytes can be a body, and whether a buffer of so many bytes has room for every sealed string.
abbrev pub body_fits : ℕ → Bool
body_fits n = nat_le 2 n && nat_le n 261

abbrev pub roomy : ℕ → Bool
roomy n = nat_le 288 n

-- A text as the caller gets it: direction, number in eight bytes, body.
abbrev pub plain : Text → List ℕ
plain t = direction_byte t.direction ∷ (octets 8 t.number ++ t.body)

-- What opening a string gives.
abbrev pub opened_as : Option Text → Result (List ℕ) Refusal
opened_as None = Err Shut
opened_as (Some t) = Ok (plain t)

-- Sealing into a buffer of so many bytes gives the text's sealed string.
abbrev pub sealing : ℕ → ℕ → List ℕ → ℕ → ℕ → List ℕ → ℕ → Result (List ℕ) Refusal
sealing c m k d n b room =
    upon (suite_of c m) (Err Unfit) (λ u.
    upon (keys_of k) (Err Unfit) (λ keys.
    upon (direction_of d) (Err Unfit) (λ w.
    cond (body_fits (length b) && roomy room) (Ok (real.sealed u keys (text w n b))) (Err Unfit))))

-- Opening into a buffer of so many bytes gives the text that the string is the sealing of.
abbrev pub opening : ℕ → ℕ → List ℕ → List ℕ → ℕ → Result (List ℕ) Refusal
opening c m k z room =
    upon (suite_of c m) (Err Unfit) (λ u.
    upon (keys_of k) (Err Unfit) (λ keys.
    cond (roomy room) (opened_as (real.opened u keys z)) (Err Unfit)))

-- The answer: how many bytes were written, or the refusal's number.
abbrev pub answer : Result (List ℕ) Refusal → ℕ
answer (Ok w) = length w
answer (Err e) = refusal_number e

-- The buffer: what was written, then what stood behind it; or as it was.
abbrev pub left : Result (List ℕ) Refusal → List ℕ → List ℕ
left (Ok w) before = w ++ drop (length w) before
left (Err e) before = before

-- A length is told from every refusal: it is above 8.
abbrev pub Told : Result (List ℕ) Refusal → ℕ → Type 0
Told (Ok w) r = 8 < r
Told (Err e) r = r ≡ refusal_number e

-- The number that C gets: how many bytes were written, or the refusal's.
abbrev pub number_of : Result ℕ Refusal → ℕ
number_of (Ok n) = n
number_of (Err e) = refusal_number e

-- What was to be written stands in the buffer, and the result says so.
pub record Writes (given : Result (List ℕ) Refusal) (before after : List ℕ) (r : Result ℕ Refusal) : Type 0 where
  pub answer : number_of r ≡ answer given
  pub buffer : after ≡ left given before
  pub told : Told given (number_of r)
