-- Reading undoes writing, and reads nothing else.
use Rattle.std.proofs.Common.{◌≡◌, ℕ, ◌+◌, ◌<◌, ◌≤◌, Bool, true, false, cond, eqb, ltb, List, [], ◌∷◌, ◌++◌, length, get_or, take, drop, Some, None, Option, sym, refl, ap, ◌∙◌, subst, arith, w8, Fits}
use Rattle.std.proofs.lemmas.List.{take_all, take_at, take-append-drop, drop_more, drop_all, drop-drop, get_or_at, length-append, length-drop, length-take-le, nil_from_length}
use Rattle.std.proofs.lemmas.Bool.{eqb-true, eqb-false, ltb-false, eq-eqb, ne_eqb, le-ltb, cond-true, cond-false}
use Rattle.std.proofs.lemmas.Bool.Decides.{nat_tests}
use Rattle.std.specs.Option.{option_map}
use Rattle.byte_lists.specs.Bytes.{Bytes}
use Rattle.byte_lists.proofs.Facts.{bytes_of, bytes_drop}
use Rattle.apdu.specs.Command.{Shape, bare, le, alone, both, Command, expected, shape_in, headed, command_in}
use Rattle.apdu.specs.Writing.{le_byte, shape_bytes, command_bytes, Proper, Reads}

-- Le and its byte.
expected_written : (n : ℕ) → 1 ≤ n → n ≤ 256 → expected (le_byte n) ≡ n
expected_written n l h = grind (arith, nat_tests)

written_expected : (b : ℕ) → b < 256 → le_byte (expected b) ≡ b
written_expected b h = grind (arith, nat_tests)

expected_least : (b : ℕ) → 1 ≤ expected b
expected_least b = grind (arith, nat_tests)

expected_most : (b : ℕ) → b < 256 → expected b ≤ 256
expected_most b h = grind (arith, nat_tests)

-- The two ways of a test that came out as z.
split : {A : Type 0} (t : Bool) (x y z : A) (P : Type 0) → cond t x y ≡ z → (t ≡ true → x ≡ z → P) → (t ≡ false → y ≡ z → P) → P
split true x y z P e f g = f refl e
split false x y z P e f g = g refl e

some_same : {A : Type 0} (x y : A) → Some x ≡ Some y → x ≡ y
some_same x y e = cc

none_some : {A : Type 0} (x : A) → None ≡ Some x → ⊥
none_some x e = let z : ◌≡◌ {A = ℕ} 0 1 = cc in omega arith

-- What a shape that was read says of the bytes.
abbrev Shown : List ℕ → Shape → Type 0
Shown bs s = Proper s × (shape_bytes s ≡ bs)

first : (bs : List ℕ) → 1 ≤ length bs → bs ≡ get_or bs 0 0 ∷ drop 1 bs
first bs h = drop_more bs 0 0 h

shown_le : (bs : List ℕ) → Bytes bs → length bs ≡ 1 → Shown bs (le (expected (get_or bs 0 0)))
shown_le bs h e = (
  (expected_least (get_or bs 0 0), expected_most (get_or bs 0 0) (h 0)),
  ap (λ n. n ∷ []) (written_expected (get_or bs 0 0) (h 0)) ∙ sym (first bs (omega arith) ∙ ap (λ t. get_or bs 0 0 ∷ t) (drop_all 1 bs (omega arith))),
)

length_data : (bs : List ℕ) (n : ℕ) → n + 1 ≤ length bs → length (take n (drop 1 bs)) ≡ n
length_data bs n h = let e = length-drop 1 bs in length-take-le n (drop 1 bs) (omega arith)

shown_alone : (bs : List ℕ) (n : ℕ) → Bytes bs → get_or bs 0 0 ≡ n → (n ≡ 0 → ⊥) → length bs ≡ n + 1 → Shown bs (alone (take n (drop 1 bs)))
shown_alone bs n h f z e =
    let long = length_data bs n (omega arith) in
    let rest = length-drop 1 bs in
    let small = h 0 in (
      (omega arith, omega arith),
      (λ i. long i ∷ take_all n (drop 1 bs) (omega arith) i) ∙ sym (first bs (omega arith) ∙ ap (λ a. a ∷ drop 1 bs) f),
    )

shown_both : (bs : List ℕ) (n : ℕ) → Bytes bs → get_or bs 0 0 ≡ n → (n ≡ 0 → ⊥) → length bs ≡ n + 2
    → Shown bs (both (take n (drop 1 bs)) (expected (get_or bs (n + 1) 0)))
shown_both bs n h f z e =
    let b = get_or bs (n + 1) 0 in
    let long = length_data bs n (omega arith) in
    let small = h 0 in
    let last : drop n (drop 1 bs) ≡ b ∷ [] =
    drop-drop n 1 bs ∙ ap (λ k. drop k bs) (omega arith) ∙ drop_more bs (n + 1) 0 (omega arith) ∙ ap (λ t. b ∷ t) (drop_all (n + 1 + 1) bs (omega arith)) in
    let written : take n (drop 1 bs) ++ le_byte (expected b) ∷ [] ≡ drop 1 bs =
    ap (λ k. take n (drop 1 bs) ++ k ∷ []) (written_expected b (h (n + 1))) ∙ ap (λ t. take n (drop 1 bs) ++ t) (sym last) ∙ take-append-drop n (drop 1 bs) in (
      (omega arith, omega arith, expected_least b, expected_most b (h (n + 1))),
      (λ i. long i ∷ written i) ∙ sym (first bs (omega arith) ∙ ap (λ a. a ∷ drop 1 bs) f),
    )

shown : (bs : List ℕ) (s : Shape) → Bytes bs → shape_in bs ≡ Some s → Shown bs s
shown bs s h e =
    let P = Shown bs s in
    let at : (r : Shape) → Shown bs r → Some r ≡ Some s → P = λ r w f. subst (λ (x : Shape). Shown bs x) (some_same r s f) w in
    let n = get_or bs 0 0 in
    split (eqb (length bs) 0) _ _ (Some s) P e
    (λ t f. at bare (tt, sym (nil_from_length bs (eqb-true (length bs) 0 t))) f)
    (λ _ e. split (eqb (length bs) 1) _ _ (Some s) P e
    (λ t f. at (le (expected n)) (shown_le bs h (eqb-true (length bs) 1 t)) f)
    (λ _ e. split (eqb n 0) _ _ (Some s) P e
    (λ _ f. absurd (none_some s f))
    (λ z e. split (eqb (length bs) (n + 1)) _ _ (Some s) P e
    (λ t f. at (alone (take n (drop 1 bs))) (shown_alone bs n h refl (eqb-false n 0 z) (eqb-true (length bs) (n + 1) t)) f)
    (λ _ e. split (eqb (length bs) (n + 2)) _ _ (Some s) P e
    (λ t f. at (both (take n (drop 1 bs)) (expected (get_or bs (n + 1) 0))) (shown_both bs n h refl (eqb-false n 0 z) (eqb-true (length bs) (n + 2) t)) f)
    (λ _ f. absurd (none_some s f))))))

-- A command that was read is written so.
four : (bs : List ℕ) → 4 ≤ length bs → bs ≡ get_or bs 0 0 ∷ get_or bs 1 0 ∷ get_or bs 2 0 ∷ get_or bs 3 0 ∷ drop 4 bs
four bs h =
    drop_more bs 0 0 (omega arith)
    ∙ ap (λ t. get_or bs 0 0 ∷ t) (drop_more bs 1 0 (omega arith)
    ∙ ap (λ t. get_or bs 1 0 ∷ t) (drop_more bs 2 0 (omega arith)
    ∙ ap (λ t. get_or bs 2 0 ∷ t) (drop_more bs 3 0 (omega arith))))

abbrev Read : List ℕ → Command → Type 0
Read bs c = Proper c.shape × (command_bytes c ≡ bs)

read_behind : (bs : List ℕ) (c : Command) (o : Option Shape) → Bytes bs → 4 ≤ length bs → shape_in (drop 4 bs) ≡ o → option_map (headed bs) o ≡ Some c → Read bs c
read_behind bs c None h l e f = absurd (none_some c f)
read_behind bs c (Some s) h l e f =
    let w = shown (drop 4 bs) s (bytes_drop 4 bs h) e in
    let head : Read bs (headed bs s) = (w.0, ap (λ t. get_or bs 0 0 ∷ get_or bs 1 0 ∷ get_or bs 2 0 ∷ get_or bs 3 0 ∷ t) w.1 ∙ sym (four bs l)) in
    subst (λ (x : Command). Read bs x) (some_same (headed bs s) c f) head

read_sound : (bs : List ℕ) (c : Command) → Bytes bs → command_in bs ≡ Some c → Read bs c
read_sound bs c h e =
    split (ltb (length bs) 4) _ _ (Some c) (Read bs c) e
    (λ _ f. absurd (none_some c f))
    (λ t f. read_behind bs c (shape_in (drop 4 bs)) h (ltb-false (length bs) 4 t) refl f)

-- A proper command that is written so is read.
read_alone : (bs : List ℕ) (n : ℕ) → length bs ≡ n + 1 → get_or bs 0 0 ≡ n → 1 ≤ n → shape_in bs ≡ Some (alone (take n (drop 1 bs)))
read_alone bs n e f l =
    cond-false (eqb (length bs) 0) _ _ (ne_eqb (length bs) 0 (λ q. omega arith))
    ∙ cond-false (eqb (length bs) 1) _ _ (ne_eqb (length bs) 1 (λ q. omega arith))
    ∙ cond-false (eqb (get_or bs 0 0) 0) _ _ (ne_eqb (get_or bs 0 0) 0 (λ q. omega arith))
    ∙ cond-true (eqb (length bs) (get_or bs 0 0 + 1)) _ _ (eq-eqb (length bs) (get_or bs 0 0 + 1) (omega arith))
    ∙ ap (λ k. Some (alone (take k (drop 1 bs)))) f

read_both : (bs : List ℕ) (n : ℕ) → length bs ≡ n + 2 → get_or bs 0 0 ≡ n → 1 ≤ n → shape_in bs ≡ Some (both (take n (drop 1 bs)) (expected (get_or bs (n + 1) 0)))
read_both bs n e f l =
    cond-false (eqb (length bs) 0) _ _ (ne_eqb (length bs) 0 (λ q. omega arith))
    ∙ cond-false (eqb (length bs) 1) _ _ (ne_eqb (length bs) 1 (λ q. omega arith))
    ∙ cond-false (eqb (get_or bs 0 0) 0) _ _ (ne_eqb (get_or bs 0 0) 0 (λ q. omega arith))
    ∙ cond-false (eqb (length bs) (get_or bs 0 0 + 1)) _ _ (ne_eqb (length bs) (get_or bs 0 0 + 1) (λ q. omega arith))
    ∙ cond-true (eqb (length bs) (get_or bs 0 0 + 2)) _ _ (eq-eqb (length bs) (get_or bs 0 0 + 2) (omega arith))
    ∙ ap (λ k. Some (both (take k (drop 1 bs)) (expected (get_or bs (k + 1) 0)))) f

read_shape : (s : Shape) → Proper s → shape_in (shape_bytes s) ≡ Some s
read_shape bare p = refl
read_shape (le n) p = ap (λ k. Some (le k)) (expected_written n p.0 p.1)
read_shape (alone ds) p =
    read_alone (length ds ∷ ds) (length ds) (omega arith) refl p.0 ∙ ap (λ t. Some (alone t)) (take_all (length ds) ds (omega arith))
read_shape (both ds n) p =
    let b = le_byte n in
    let bs = length ds ∷ (ds ++ b ∷ []) in
    let long : length (ds ++ b ∷ []) ≡ length ds + 1 = length-append ds (b ∷ []) in
    read_both bs (length ds) (omega arith) refl p.0
    ∙ ap (λ t. Some (both t (expected (get_or bs (length ds + 1) 0)))) (take_at ds (b ∷ []) (length ds) refl)
    ∙ ap (λ k. Some (both ds (expected k))) (get_or_at (length ds ∷ ds) b [] 0 (length ds + 1) (omega arith))
    ∙ ap (λ k. Some (both ds k)) (expected_written n p.2 p.3)

read_whole : (c : Command) → Proper c.shape → command_in (command_bytes c) ≡ Some c
read_whole c p =
    let bs = command_bytes c in
    cond-false (ltb (length bs) 4) None (option_map (headed bs) (shape_in (drop 4 bs))) (le-ltb (length bs) 4 (omega arith))
    ∙ ap (option_map (headed bs)) (read_shape c.shape p)

reads : (bs : List ℕ) → Bytes bs → Reads bs (command_in bs)
reads bs h = record {
  sound = λ c e. read_sound bs c h e;
  whole = λ c p e. subst (λ (xs : List ℕ). command_in xs ≡ Some c) e (read_whole c p);
}

-- The same of what a function read, where it read something, and where it read nothing.
pub reads_some : (bs : List ℕ) (c : Command) → Some c ≡ command_in bs → ((i : ℕ) → Fits w8 (get_or bs i 0)) → Reads bs (Some c)
reads_some bs c e h = subst (λ (o : Option Command). Reads bs o) (sym e) (reads bs (bytes_of bs h))

pub reads_none : (bs : List ℕ) → None ≡ command_in bs → Reads bs None
reads_none bs e = record {
  sound = λ c q. absurd (none_some c q);
  whole = λ c p q. e ∙ subst (λ (xs : List ℕ). command_in xs ≡ Some c) q (read_whole c p);
}
