-- A frame is read as the text that it was made of, and only a frame is read.
use Rattle.std.proofs.Common.{◌≡◌, ℕ, zero, suc, ◌+◌, ◌^◌, ◌≤◌, Bool, true, false, cond, ◌&&◌, eqb, leb, List, [], ◌∷◌, ◌++◌, length, get_or, take, drop, replicate, Some, None, Option, sym, refl, ap, ◌∙◌, subst, arith, length-append, length-drop, eq-eqb, eqb-true, le-leb, leb-true}
use Rattle.std.proofs.lemmas.List.{length-replicate, length-take-le, append_assoc}
use Rattle.std.proofs.lemmas.Slice.Eq.{bytes_eq-Decides}
use Rattle.std.specs.Str.{bytes_eq}
use Rattle.byte_lists.specs.Bytes.{Bytes}
use Rattle.byte_lists.specs.Numbers.{octets, number}
use Rattle.byte_lists.proofs.Digits.{length_octets, octets_number, number_octets, number_below}
use Rattle.byte_lists.proofs.Facts.{bytes_drop, bytes_take}
use Rattle.sealing.specs.Suites.{direction_byte, direction_of}
use Rattle.sealing.specs.Sealing.{Text, text, Good}
use Rattle.sealing.specs.declared.suite.Direction.{Direction}
use Rattle.sealing.specs.declared.suite.Direction.TheVariants.{Command, Reply}
use Rattle.frame.specs.Frame.{front, missing, frame, stated, end_of, blank, framed, directed, text_of, told}
use Rattle.frame.proofs.Parts.{laid, number_part, length_part, body_part, front_part, check_part, fill_part, length_laid, laid_out}

and_true : (a b : Bool) → a ≡ true → b ≡ true → (a && b) ≡ true
and_true a b p q = rw (p, q)

and_left : (a b : Bool) → (a && b) ≡ true → a ≡ true
and_left true b e = refl
and_left false b e = e

and_right : (a b : Bool) → (a && b) ≡ true → b ≡ true
and_right true b e = e
and_right false b e = absurd (let z : ◌≡◌ {A = ℕ} 0 1 = cc in omega arith)

direction_again : (d : Direction) → direction_of (direction_byte d) ≡ Some d
direction_again Command = refl
direction_again Reply = refl

blank_zeros : (n : ℕ) → blank (replicate n 0) ≡ true
blank_zeros zero = refl
blank_zeros (suc n) = blank_zeros n

zeros_blank : (xs : List ℕ) → blank xs ≡ true → xs ≡ replicate (length xs) 0
zeros_blank [] e = refl
zeros_blank (x ∷ xs) e =
    let z : x ≡ 0 = eqb-true x 0 (and_left (eqb x 0) (blank xs) e) in
    ap (λ y. y ∷ xs) z ∙ ap (λ ys. 0 ∷ ys) (zeros_blank xs (and_right (eqb x 0) (blank xs) e))

pub length_front : (t : Text) → length (front t) ≡ 11 + length t.body
length_front t = simp length-append (omega (arith, length_octets 8 t.number, length_octets 2 (length t.body)))

-- The parts of a text's frame p with the check k and the fill z, each where it is looked for.
record Found (p : List ℕ) (t : Text) (k z : List ℕ) : Type 0 where
  first : get_or p 0 0 ≡ direction_byte t.direction
  numbered : take 8 (drop 1 p) ≡ octets 8 t.number
  sized : take 2 (drop 9 p) ≡ octets 2 (length t.body)
  body : take (length t.body) (drop 11 p) ≡ t.body
  before : take (11 + length t.body) p ≡ front t
  checked : take (length k) (drop (11 + length t.body) p) ≡ k
  filled : drop (11 + length t.body + length k) p ≡ z
  long : length p ≡ 11 + length t.body + length k + length z

found_laid : (t : Text) (k z : List ℕ) → Found (laid (direction_byte t.direction) (octets 8 t.number) (octets 2 (length t.body)) t.body k z) t k z
found_laid t k z =
    let d : ℕ = direction_byte t.direction in
    let o : List ℕ = octets 8 t.number in
    let e : List ℕ = octets 2 (length t.body) in
    let lo : length o ≡ 8 = length_octets 8 t.number in
    let le : length e ≡ 2 = length_octets 2 (length t.body) in
    record {
      first = refl;
      numbered = number_part d o e t.body k z lo le;
      sized = length_part d o e t.body k z lo le;
      body = body_part d o e t.body k z lo le;
      before = front_part d o e t.body k z lo le;
      checked = check_part d o e t.body k z lo le;
      filled = fill_part d o e t.body k z lo le;
      long = length_laid d o e t.body k z lo le;
    }

frame_laid : (n : ℕ) (check : List ℕ → List ℕ) (t : Text)
    → frame n check t ≡ laid (direction_byte t.direction) (octets 8 t.number) (octets 2 (length t.body)) t.body (check (front t)) (replicate (missing n (11 + length t.body + length (check (front t)))) 0)
unfolding frame
frame_laid n check t =
    let l : length (front t ++ check (front t)) ≡ 11 + length t.body + length (check (front t)) =
    length-append (front t) (check (front t)) ∙ omega (arith, length_front t) in
    ap (λ m. (front t ++ check (front t)) ++ replicate (missing n m) 0) l ∙ simp append_assoc

-- The test with the stated length as a number of its own.
abbrev framed_as : ℕ → ℕ → (List ℕ → List ℕ) → List ℕ → ℕ → Bool
framed_as n c check p s =
    leb 11 (length p) && (leb 2 s && (leb s 261 && (eqb (length p) (11 + s + c + missing n (11 + s + c))
    && (bytes_eq (check (take (11 + s) p)) (take c (drop (11 + s) p)) && blank (drop (11 + s + c) p)))))

module _ (n c : ℕ) (check : List ℕ → List ℕ) (p : List ℕ) (t : Text) where
  test_passes : (k : List ℕ) → length k ≡ c → k ≡ check (front t) → Good t → Found p t k (replicate (missing n (11 + length t.body + c)) 0) → framed_as n c check p (length t.body) ≡ true
  test_passes k lk ek g f =
      let L : ℕ = length t.body in
      let m : ℕ = missing n (11 + L + c) in
      let long : length p ≡ 11 + L + c + m = f.long ∙ omega (arith, length-replicate {A = ℕ} m 0) in
      let chk : check (take (11 + L) p) ≡ take c (drop (11 + L) p) = ap check f.before ∙ sym ek ∙ sym f.checked ∙ ap (λ j. take j (drop (11 + L) p)) lk in
      let fil : drop (11 + L + c) p ≡ replicate m 0 = ap (λ j. drop (11 + L + j) p) (sym lk) ∙ f.filled in
      and_true _ _ (le-leb 11 (length p) (omega arith))
      (and_true _ _ (le-leb 2 L g.least)
      (and_true _ _ (le-leb L 261 g.most)
      (and_true _ _ (eq-eqb (length p) (11 + L + c + m) long)
      (and_true _ _ ((bytes_eq-Decides (check (take (11 + L) p)) (take c (drop (11 + L) p))).1 chk) (ap blank fil ∙ blank_zeros m)))))

  stated_again : (k z : List ℕ) → Good t → Found p t k z → stated p ≡ length t.body
  stated_again k z g f = ap number f.sized ∙ number_octets 2 (length t.body) ∙ omega (arith, g.most)

  read_found : (k : List ℕ) → length k ≡ c → k ≡ check (front t) → Good t → Found p t k (replicate (missing n (11 + length t.body + c)) 0) → text_of n c check p ≡ Some t
  unfolding text_of
  read_found k lk ek g f =
      let s : stated p ≡ length t.body = stated_again k _ g f in
      let passes : framed n c check p ≡ true = ap (framed_as n c check p) s ∙ test_passes k lk ek g f in
      let num : number (take 8 (drop 1 p)) ≡ t.number = ap number f.numbered ∙ number_octets 8 t.number ∙ omega (arith, g.number) in
      let bod : take (stated p) (drop 11 p) ≡ t.body = ap (λ j. take j (drop 11 p)) s ∙ f.body in
      let dir : direction_of (get_or p 0 0) ≡ Some t.direction = ap direction_of f.first ∙ direction_again t.direction in
      ap (λ w. cond w (directed (direction_of (get_or p 0 0)) (number (take 8 (drop 1 p))) (take (stated p) (drop 11 p))) None) passes
      ∙ ap (λ d. directed d (number (take 8 (drop 1 p))) (take (stated p) (drop 11 p))) dir
      ∙ ap (λ m. Some (text t.direction m (take (stated p) (drop 11 p)))) num
      ∙ ap (λ b. Some (text t.direction t.number b)) bod

pub read_again : (n c : ℕ) (check : List ℕ → List ℕ) (t : Text) → Good t → length (check (front t)) ≡ c → text_of n c check (frame n check t) ≡ Some t
read_again n c check t g e =
    let z : ℕ → List ℕ = λ j. replicate (missing n (11 + length t.body + j)) 0 in
    let P : List ℕ → Type 0 = λ q. Found (frame n check t) t (check (front t)) q in
    let Q : List ℕ → Type 0 = λ q. Found q t (check (front t)) (z (length (check (front t)))) in
    let f = subst P (ap z e) (subst Q (sym (frame_laid n check t)) (found_laid t (check (front t)) (z (length (check (front t)))))) in
    read_found n c check (frame n check t) t (check (front t)) e refl g f

cond_some : (w : Bool) (o : Option Text) (t : Text) → cond w o None ≡ Some t → (w ≡ true) × (o ≡ Some t)
cond_some true o t e = (refl, e)
cond_some false o t e = absurd (let z : ◌≡◌ {A = ℕ} 0 1 = cc in omega arith)

directed_some : (d : Option Direction) (m : ℕ) (b : List ℕ) (t : Text) → directed d m b ≡ Some t → (d ≡ Some t.direction) × (text t.direction m b ≡ t)
directed_some None m b t e = absurd (let z : ◌≡◌ {A = ℕ} 0 1 = cc in omega arith)
directed_some (Some d) m b t e =
    let same : text d m b ≡ t = cc in
    (ap (λ x. Some x.direction) same, ap (λ x. text x.direction m b) (sym same) ∙ same)

direction_by : (u v : Bool) (b : ℕ) (d : Direction) → eqb b 0 ≡ u → eqb b 1 ≡ v → cond u (Some Command) (cond v (Some Reply) None) ≡ Some d → direction_byte d ≡ b
direction_by true v b d eu ev e = let s : Command ≡ d = cc in ap direction_byte (sym s) ∙ sym (eqb-true b 0 eu)
direction_by false true b d eu ev e = let s : Reply ≡ d = cc in ap direction_byte (sym s) ∙ sym (eqb-true b 1 ev)
direction_by false false b d eu ev e = absurd (let z : ◌≡◌ {A = ℕ} 0 1 = cc in omega arith)

direction_only : (b : ℕ) (d : Direction) → direction_of b ≡ Some d → direction_byte d ≡ b
direction_only b d e = direction_by (eqb b 0) (eqb b 1) b d refl refl e

-- What the test says of bytes that pass it.
record Passed (n c : ℕ) (check : List ℕ → List ℕ) (p : List ℕ) : Type 0 where
  enough : 11 ≤ length p
  least : 2 ≤ stated p
  most : stated p ≤ 261
  long : length p ≡ end_of p + c + missing n (end_of p + c)
  checked : check (take (end_of p) p) ≡ take c (drop (end_of p) p)
  filled : blank (drop (end_of p + c) p) ≡ true

passed : (n c : ℕ) (check : List ℕ → List ℕ) (p : List ℕ) → framed n c check p ≡ true → Passed n c check p
passed n c check p e =
    let e₁ = and_right _ _ e in
    let e₂ = and_right _ _ e₁ in
    let e₃ = and_right _ _ e₂ in
    let e₄ = and_right _ _ e₃ in
    record {
      enough = leb-true 11 (length p) (and_left _ _ e);
      least = leb-true 2 (stated p) (and_left _ _ e₁);
      most = leb-true (stated p) 261 (and_left _ _ e₂);
      long = eqb-true (length p) (end_of p + c + missing n (end_of p + c)) (and_left _ _ e₃);
      checked = (bytes_eq-Decides (check (take (end_of p) p)) (take c (drop (end_of p) p))).0 (and_left _ _ e₄);
      filled = and_right _ _ e₄;
    }

module _ (n c : ℕ) (check : List ℕ → List ℕ) (p : List ℕ) (h : Bytes p) (w : Passed n c check p) (d : Direction) (ed : direction_byte d ≡ get_or p 0 0) where
  body_long : length (take (stated p) (drop 11 p)) ≡ stated p
  body_long = length-take-le (stated p) (drop 11 p) (omega (arith, length-drop 11 p, w.long))

  number_long : length (take 8 (drop 1 p)) ≡ 8
  number_long = length-take-le 8 (drop 1 p) (omega (arith, length-drop 1 p, w.enough))

  stated_long : length (take 2 (drop 9 p)) ≡ 2
  stated_long = length-take-le 2 (drop 9 p) (omega (arith, length-drop 9 p, w.enough))

  number_again : octets 8 (number (take 8 (drop 1 p))) ≡ take 8 (drop 1 p)
  number_again =
      ap (λ j. octets j (number (take 8 (drop 1 p)))) (sym number_long) ∙ octets_number (take 8 (drop 1 p)) (bytes_take 8 (drop 1 p) (bytes_drop 1 p h))

  length_again : octets 2 (length (take (stated p) (drop 11 p))) ≡ take 2 (drop 9 p)
  length_again =
      ap (octets 2) body_long ∙ ap (λ j. octets j (stated p)) (sym stated_long) ∙ octets_number (take 2 (drop 9 p)) (bytes_take 2 (drop 9 p) (bytes_drop 9 p h))

  out : laid (get_or p 0 0) (take 8 (drop 1 p)) (take 2 (drop 9 p)) (take (stated p) (drop 11 p)) (take c (drop (end_of p) p)) (drop (end_of p + c) p) ≡ p
  out = laid_out p (stated p) c w.enough

  front_again : front (text d (number (take 8 (drop 1 p))) (take (stated p) (drop 11 p))) ≡ take (end_of p) p
  front_again =
      ap (λ x. x ∷ (octets 8 (number (take 8 (drop 1 p))) ++ (octets 2 (length (take (stated p) (drop 11 p))) ++ take (stated p) (drop 11 p)))) ed
      ∙ ap (λ o. get_or p 0 0 ∷ (o ++ (octets 2 (length (take (stated p) (drop 11 p))) ++ take (stated p) (drop 11 p)))) number_again
      ∙ ap (λ e. get_or p 0 0 ∷ (take 8 (drop 1 p) ++ (e ++ take (stated p) (drop 11 p)))) length_again
      ∙ sym (ap (λ j. take (11 + j) p) (sym body_long)
      ∙ ap (take (11 + length (take (stated p) (drop 11 p)))) (sym out)
      ∙ front_part (get_or p 0 0) (take 8 (drop 1 p)) (take 2 (drop 9 p)) (take (stated p) (drop 11 p)) (take c (drop (end_of p) p)) (drop (end_of p + c) p) number_long stated_long)

  check_again : check (front (text d (number (take 8 (drop 1 p))) (take (stated p) (drop 11 p)))) ≡ take c (drop (end_of p) p)
  check_again = ap check front_again ∙ w.checked

  check_long : length (take c (drop (end_of p) p)) ≡ c
  check_long = length-take-le c (drop (end_of p) p) (omega (arith, length-drop (end_of p) p, w.long))

  fill_again : replicate (missing n (end_of p + c)) 0 ≡ drop (end_of p + c) p
  fill_again =
      let l : length (drop (end_of p + c) p) ≡ missing n (end_of p + c) = length-drop (end_of p + c) p ∙ omega (arith, w.long) in
      sym (zeros_blank (drop (end_of p + c) p) w.filled ∙ ap (λ j. replicate j 0) l)

  frame_again : frame n check (text d (number (take 8 (drop 1 p))) (take (stated p) (drop 11 p))) ≡ p
  frame_again =
      let o : List ℕ = take 8 (drop 1 p) in
      let e : List ℕ = take 2 (drop 9 p) in
      let b : List ℕ = take (stated p) (drop 11 p) in
      let q : List ℕ = take c (drop (end_of p) p) in
      let t : Text = text d (number o) b in
      let size : missing n (11 + length b + length (check (front t))) ≡ missing n (end_of p + c) =
      ap (λ j. missing n (11 + j + length (check (front t)))) body_long ∙ ap (λ x. missing n (end_of p + length x)) check_again ∙ ap (λ j. missing n (end_of p + j)) check_long in
      frame_laid n check t
      ∙ ap (λ j. laid (direction_byte d) (octets 8 (number o)) (octets 2 (length b)) b (check (front t)) (replicate j 0)) size
      ∙ ap (λ x. laid (direction_byte d) (octets 8 (number o)) (octets 2 (length b)) b (check (front t)) x) fill_again
      ∙ ap (λ x. laid (direction_byte d) (octets 8 (number o)) (octets 2 (length b)) b x (drop (end_of p + c) p)) check_again
      ∙ ap (λ x. laid (direction_byte d) (octets 8 (number o)) x b q (drop (end_of p + c) p)) length_again
      ∙ ap (λ x. laid (direction_byte d) x e b q (drop (end_of p + c) p)) number_again
      ∙ ap (λ x. laid x o e b q (drop (end_of p + c) p)) ed
      ∙ out

  good_again : Good (text d (number (take 8 (drop 1 p))) (take (stated p) (drop 11 p)))
  good_again = record {
    number = omega (arith, number_below (take 8 (drop 1 p)) (bytes_take 8 (drop 1 p) (bytes_drop 1 p h)), ap (λ j. 256 ^ j) number_long);
    least = omega (arith, body_long, w.least);
    most = omega (arith, body_long, w.most);
    bytes = bytes_take (stated p) (drop 11 p) (bytes_drop 11 p h);
  }

-- Only a frame is read, and only as its text.
pub only_frames : (n c : ℕ) (check : List ℕ → List ℕ) (p : List ℕ) (t : Text) → Bytes p → text_of n c check p ≡ Some t → (frame n check t ≡ p) × Good t
unfolding text_of
only_frames n c check p t h e =
    let o : Option Text = directed (direction_of (get_or p 0 0)) (number (take 8 (drop 1 p))) (take (stated p) (drop 11 p)) in
    let a = cond_some (framed n c check p) o t e in
    let b = directed_some (direction_of (get_or p 0 0)) (number (take 8 (drop 1 p))) (take (stated p) (drop 11 p)) t a.1 in
    let w = passed n c check p a.0 in
    let ed = direction_only (get_or p 0 0) t.direction b.0 in
    let P : Text → Type 0 = λ x. (frame n check x ≡ p) × Good x in
    subst P b.1 (frame_again n c check p h w t.direction ed, good_again n c check p h w t.direction ed)

-- What the code finds out step by step.
and_skip : (a b : Bool) → a ≡ true → (a && b) ≡ b
and_skip a b e = ap (λ w. w && b) e

pub framed_rest : (n c : ℕ) (check : List ℕ → List ℕ) (p : List ℕ) (s : ℕ) → s ≡ stated p → 11 ≤ length p → 2 ≤ s → s ≤ 261
    → length p ≡ 11 + s + c + missing n (11 + s + c) → bytes_eq (check (take (11 + s) p)) (take c (drop (11 + s) p)) ≡ true
    → framed n c check p ≡ blank (drop (11 + s + c) p)
framed_rest n c check p s e enough least most long checked =
    ap (framed_as n c check p) (sym e)
    ∙ and_skip _ _ (le-leb 11 (length p) enough) ∙ and_skip _ _ (le-leb 2 s least) ∙ and_skip _ _ (le-leb s 261 most)
    ∙ and_skip _ _ (eq-eqb (length p) (11 + s + c + missing n (11 + s + c)) long) ∙ and_skip _ _ checked

module _ (n c : ℕ) (check : List ℕ → List ℕ) (p : List ℕ) where
  pub not_framed : framed n c check p ≡ false → told (text_of n c check p) ≡ None
  unfolding text_of
  not_framed e = ap (λ w. told (cond w (directed (direction_of (get_or p 0 0)) (number (take 8 (drop 1 p))) (take (stated p) (drop 11 p))) None)) e

  told_framed : (d : Option Direction) → framed n c check p ≡ true → direction_of (get_or p 0 0) ≡ d
      → told (text_of n c check p) ≡ told (directed d (number (take 8 (drop 1 p))) (take (stated p) (drop 11 p)))
  unfolding text_of
  told_framed d e q =
      ap (λ w. told (cond w (directed (direction_of (get_or p 0 0)) (number (take 8 (drop 1 p))) (take (stated p) (drop 11 p))) None)) e
      ∙ ap (λ x. told (directed x (number (take 8 (drop 1 p))) (take (stated p) (drop 11 p)))) q

  pub not_directed : framed n c check p ≡ true → direction_of (get_or p 0 0) ≡ None → told (text_of n c check p) ≡ None
  not_directed e q = told_framed None e q

  pub told_text : (d : Direction) (m s : ℕ) → framed n c check p ≡ true → direction_of (get_or p 0 0) ≡ Some d → m ≡ number (take 8 (drop 1 p)) → s ≡ stated p
      → told (text_of n c check p) ≡ Some (record { direction = d; number = m; at = 11; len = s })
  told_text d m s e q em es =
      let w = passed n c check p e in
      let l : length (take (stated p) (drop 11 p)) ≡ s = length-take-le (stated p) (drop 11 p) (omega (arith, length-drop 11 p, w.long)) ∙ sym es in
      told_framed (Some d) e q
      ∙ ap (λ x. Some (record { direction = d; number = x; at = 11; len = length (take (stated p) (drop 11 p)) })) (sym em)
      ∙ ap (λ x. Some (record { direction = d; number = m; at = 11; len = x })) l

-- A frame's text has its body behind the first eleven bytes.
pub body_placed : (n c : ℕ) (check : List ℕ → List ℕ) (p : List ℕ) (t : Text) → text_of n c check p ≡ Some t
    → (11 + length t.body ≤ length p) × (take (length t.body) (drop 11 p) ≡ t.body)
unfolding text_of
body_placed n c check p t e =
    let o : Option Text = directed (direction_of (get_or p 0 0)) (number (take 8 (drop 1 p))) (take (stated p) (drop 11 p)) in
    let a = cond_some (framed n c check p) o t e in
    let b = directed_some (direction_of (get_or p 0 0)) (number (take 8 (drop 1 p))) (take (stated p) (drop 11 p)) t a.1 in
    let w = passed n c check p a.0 in
    let body : take (stated p) (drop 11 p) ≡ t.body = ap (λ x. x.body) b.1 in
    let long : length t.body ≡ stated p = ap length (sym body) ∙ length-take-le (stated p) (drop 11 p) (omega (arith, length-drop 11 p, w.long)) in
    (omega (arith, w.long), ap (λ j. take j (drop 11 p)) long ∙ body)
