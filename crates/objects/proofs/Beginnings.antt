-- The beginnings of a complete object, and what is longer than it.
use Rattle.std.proofs.Common.{◌≡◌, ℕ, ◌+◌, ◌<◌, List, ◌++◌, length, take, drop, Ok, Err, Result, sym, refl, ap, ◌∙◌, arith}
use Rattle.std.proofs.lemmas.List.{length-append, length-take-le, take-append-drop}
use Rattle.std.proofs.lemmas.Bool.Decides.{nat_tests}
use Rattle.byte_lists.specs.Bytes.{Bytes}
use Rattle.objects.specs.declared.join.Header.{Header}
use Rattle.objects.specs.declared.join.Unread.{Unread}
use Rattle.objects.specs.declared.join.Unread.TheVariants.{Incomplete, Bad}
use Rattle.objects.specs.Joined.{incomplete, bad, value, header, header_of, filled, under, object}
use Rattle.objects.specs.Laws.{PrefixFree}
use Rattle.objects.proofs.Firm.{header_stays_bad, header_stays}

-- A complete object has a header, and as many bytes as that says.
pub record Sized (hd : Result Header Unread) (bs : List ℕ) : Type 0 where
  pub head : ℕ
  pub size : ℕ
  pub is : hd ≡ header head size
  pub long : length bs ≡ head + size

sized : (hd : Result Header Unread) (bs v : List ℕ) → under hd bs ≡ value v → Sized hd bs
sized (Err Incomplete) bs v e = let z : ◌≡◌ {A = ℕ} 0 1 = cc in absurd (omega arith)
sized (Err Bad) bs v e = let z : ◌≡◌ {A = ℕ} 0 1 = cc in absurd (omega arith)
sized (Ok d) bs v e = record { head = d.head; size = d.size; is = refl; long = grind (arith, nat_tests) }

-- Short of that many bytes, with a header that is not bad and no other, an object is incomplete.
short : (hd : Result Header Unread) (bs : List ℕ) (h s : ℕ) → (hd ≡ Err Bad → ⊥) → ((a b : ℕ) → hd ≡ header a b → a + b ≡ h + s) → length bs < h + s → under hd bs ≡ incomplete
short (Err Incomplete) bs h s good same l = refl
short (Err Bad) bs h s good same l = absurd (good refl)
short (Ok d) bs h s good same l = let e : d.head + d.size ≡ h + s = same d.head d.size refl in grind (arith, nat_tests)

apart : (hd : Result Header Unread) (h s : ℕ) → hd ≡ Err Bad → hd ≡ header h s → ⊥
apart hd h s p q = let z : ◌≡◌ {A = ℕ} 0 1 = cc in omega arith

-- How many bytes a header says that its object has.
abbrev says : Result Header Unread → ℕ
says (Err e) = 0
says (Ok d) = d.head + d.size

alike : (hd : Result Header Unread) (a b h s : ℕ) → hd ≡ header a b → hd ≡ header h s → a + b ≡ h + s
alike hd a b h s p q = ap says (sym p ∙ q)

beginning : (bs v : List ℕ) → object bs ≡ value v → (n : ℕ) → n < length bs → object (take n bs) ≡ incomplete
beginning bs v e n l =
    let z = sized (header_of bs) bs v e in
    let whole : take n bs ++ drop n bs ≡ bs = take-append-drop n bs in
    let long : length (take n bs) ≡ n = length-take-le n bs (omega arith) in
    short (header_of (take n bs)) (take n bs) z.head z.size
    (λ g. apart (header_of bs) z.head z.size (sym (ap header_of whole) ∙ header_stays_bad (take n bs) (drop n bs) g) z.is)
    (λ a b g. alike (header_of bs) a b z.head z.size (sym (ap header_of whole) ∙ header_stays (take n bs) (drop n bs) a b g) z.is)
    (omega arith)

overlong : (h s : ℕ) (bs : List ℕ) → h + s < length bs → filled h s bs ≡ bad
overlong h s bs l = grind (arith, nat_tests)

longer : (bs v more : List ℕ) → object bs ≡ value v → 0 < length more → object (bs ++ more) ≡ bad
longer bs v more e l =
    let z = sized (header_of bs) bs v e in
    ap (λ hd. under hd (bs ++ more)) (header_stays bs more z.head z.size z.is)
    ∙ overlong z.head z.size (bs ++ more) (omega (arith, length-append bs more, z.long))

mended : (hd : Result Header Unread) (bs more : List ℕ) → header_of bs ≡ hd → under hd bs ≡ bad → object (bs ++ more) ≡ bad
mended (Err Incomplete) bs more g e = let z : ◌≡◌ {A = ℕ} 0 1 = cc in absurd (omega arith)
mended (Err Bad) bs more g e = ap (λ hd. under hd (bs ++ more)) (header_stays_bad bs more g)
mended (Ok d) bs more g e =
    let l : d.head + d.size < length bs = grind (arith, nat_tests) in
    ap (λ hd. under hd (bs ++ more)) (header_stays bs more d.head d.size g) ∙ overlong d.head d.size (bs ++ more) (omega (arith, length-append bs more))

-- A header of three bytes or more is judged, and its value has a byte's length at most.
judged : (hd : Result Header Unread) (bs : List ℕ) → header_of bs ≡ hd → Bytes bs → 258 < length bs → under hd bs ≡ bad
judged (Err Incomplete) bs g b l = grind (arith, nat_tests)
judged (Err Bad) bs g b l = refl
judged (Ok d) bs g b l =
    let one = b 1 in
    let two = b 2 in
    overlong d.head d.size bs (grind (arith, nat_tests))

pub prefix_free : PrefixFree
prefix_free = record {
  beginnings = beginning;
  longer = longer;
  stays_bad = λ bs more e. mended (header_of bs) bs more refl e;
  too_long = λ bs b l. judged (header_of bs) bs refl b l;
}
