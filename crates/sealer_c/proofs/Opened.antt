-- What the caller of an opening gets, from what the sealer says of the working copy.
use Rattle.std.proofs.Common.{◌≡◌, ℕ, ◌+◌, ◌<◌, ◌≤◌, List, ◌++◌, length, drop, Some, None, Option, Ok, Err, sym, refl, ap, ◌∙◌, arith, length-append}
use Rattle.std.specs.Option.{option_map}
use Rattle.byte_lists.specs.Bytes.{Block}
use Rattle.byte_lists.specs.Numbers.{octets}
use Rattle.byte_lists.proofs.Digits.{length_octets}
use Rattle.sealing.specs.Lent.{OpensTo}
use Rattle.sealing.specs.Sealing.{Sealing, Faithful, Text, text}
use Rattle.sealing.specs.declared.sealer.Opened.{Opened}
use Rattle.sealing.specs.declared.suite.Suite.{Suite}
use Rattle.sealer_c.specs.declared.refusal.Refusal.TheVariants.{Shut}
use Rattle.sealer_c.specs.Calls.{opened_as, plain, Writes}

pub shut : (o : Option Text) (out : List ℕ) → o ≡ None → Writes (opened_as o) out out (Err Shut)
shut None out e = record { answer = refl; buffer = refl; told = refl }
shut (Some t) out e = absurd (let q : ◌≡◌ {A = ℕ} 0 1 = cc in omega arith)

-- A string that is longer than every sealed string does not open.
module _ (s : Sealing) (laws : Faithful s) (u : Suite) (k : List ℕ) (h : Block 40 k) where
  none_longer : (z : List ℕ) (o : Option Text) → s.opened u k z ≡ o → 288 < length z → o ≡ None
  none_longer z None e l = refl
  none_longer z (Some t) e l =
      let whole : length (s.sealed u k t) ≡ length z = ap length (laws.only u k z t h e) in
      absurd (omega (arith, l, whole, laws.short u k t h (laws.good u k z t h e)))

  pub longer_shut : (z : List ℕ) → 288 < length z → s.opened u k z ≡ None
  longer_shut z l = none_longer z (s.opened u k z) refl l

  body_fits_in : (z b : List ℕ) (o : Option Text) → s.opened u k z ≡ o → Some b ≡ option_map (λ t. t.body) o → (2 ≤ length b) × (length b ≤ 261)
  body_fits_in z b None e is = absurd (let q : ◌≡◌ {A = ℕ} 0 1 = cc in omega arith)
  body_fits_in z b (Some t) e is =
      let good = laws.good u k z t h e in
      let same : b ≡ t.body = cc in
      (omega (arith, ap length same, good.least), omega (arith, ap length same, good.most))

  pub fits : (z b : List ℕ) → Some b ≡ option_map (λ t. t.body) (s.opened u k z) → (2 ≤ length b) × (length b ≤ 261)
  fits z b is = body_fits_in z b (s.opened u k z) refl is

long_plain : (t : Text) → length (plain t) ≡ 9 + length t.body
long_plain t = omega (arith, length-append (octets 8 t.number) t.body, length_octets 8 t.number)

-- The text written from the working copy is the one that the string opens to.
pub handed : (o : Option Text) (before after : List ℕ) (r : Opened) (body out last : List ℕ) (x : ℕ) → OpensTo o before after (Some r)
    → Some body ≡ option_map (λ t. t.body) o → x ≡ 9 + length body
    → last ≡ plain (text r.direction r.number body) ++ drop (length (plain (text r.direction r.number body))) out → Writes (opened_as o) out last (Ok x)
handed None before after r body out last x g e l w = absurd g
handed (Some t) before after r body out last x g e l w =
    let is : body ≡ t.body = cc in
    let same : text r.direction r.number body ≡ t =
    ap (λ d. text d r.number body) g.direction ∙ ap (λ m. text t.direction m body) g.number ∙ ap (λ b. text t.direction t.number b) is in
    record {
      answer = l ∙ ap (λ b. 9 + length b) is ∙ sym (long_plain t);
      buffer = w ∙ ap (λ p. plain p ++ drop (length (plain p)) out) same;
      told = omega (arith, l);
    }
