-- What stood in a line, from what was read of it.
use Rattle.std.proofs.Common.{◌≡◌, ℕ, suc, ◌^◌, ◌<◌, ◌≤◌, Bool, true, false, cond, ◌&&◌, ◌||◌, eqb, leb, List, [], ◌∷◌, ◌++◌, length, take, drop, Ok, Err, Some, None, decimal, Option, sym, refl, ap, ◌∙◌, arith}
use Rattle.std.proofs.lemmas.Slice.Eq.{bytes_eq-Decides}
use Rattle.std.proofs.lemmas.List.{take-append-drop}
use Rattle.std.proofs.lemmas.Bool.{and_parts, leb-true, eqb-true, ne_eqb}
use Rattle.std.specs.Str.{bytes_eq}
use Rattle.byte_lists.specs.Bytes.{Bytes}
use Rattle.numerals.specs.Decimal.{numeral}
use Rattle.numerals.specs.Hexadecimal.{hex, unhex, sized}
use Rattle.numerals.proofs.HexWritten.{hex_unhex}
use Rattle.numerals.proofs.Written.{decimal_numeral}
use Rattle.personalise.specs.Lines.{value, passed, past}
use Rattle.personalise.specs.Limits.{Limit, limit, numbered, malformed_limit}
use Rattle.personalise.specs.Load.{Lines, malformed, unset, loads, key_of, hexed, bit, flag, limited, keyed}
use Rattle.personalise.specs.Written.{shown_flag}
use Rattle.personalise.specs.declared.refusal.Refusal.TheVariants.{Unset, Malformed}

-- A line that has the name is the name and the value.
behind_is : (name l v : List ℕ) (t : Bool) → bytes_eq name (take (length name) l) ≡ t → cond t (Some (drop (length name) l)) None ≡ Some v → l ≡ name ++ v
behind_is name l v true e f =
    let front : name ≡ take (length name) l = (bytes_eq-Decides name (take (length name) l)).0 e in
    let rest : drop (length name) l ≡ v = cc in
    sym (take-append-drop (length name) l) ∙ ap (λ xs. xs ++ drop (length name) l) (sym front) ∙ ap (λ xs. name ++ xs) rest
behind_is name l v false e f = let z : ◌≡◌ {A = ℕ} 0 1 = cc in absurd (omega arith)

pub value_past : (name v : List ℕ) (ls : List (List ℕ)) → value name ls ≡ Some v → ls ≡ (name ++ v) ∷ past name ls
value_past name v [] e = let z : ◌≡◌ {A = ℕ} 0 1 = cc in absurd (omega arith)
value_past name v (l ∷ ls) e =
    let rest : past name (l ∷ ls) ≡ ls = ap (λ o. passed o l ls) e in
    ap (λ m. m ∷ ls) (behind_is name l v (bytes_eq name (take (length name) l)) refl e) ∙ ap (λ ms. (name ++ v) ∷ ms) (sym rest)

-- Bytes that were read.
pub record BytesRead (low high : ℕ) (o : Option (List ℕ)) (bs : List ℕ) : Type 0 where
  pub is : o ≡ Some (hex bs)
  pub bytes : Bytes bs
  pub least : low ≤ length bs
  pub most : length bs ≤ high

sized_by : (low high : ℕ) (bs cs : List ℕ) (t : Bool) → (leb low (length bs) && leb (length bs) high) ≡ t → cond t (Some bs) None ≡ Some cs → (Some bs ≡ Some cs) × (low ≤ length cs) × (length cs ≤ high)
sized_by low high bs cs true e f =
    let h = and_parts (leb low (length bs)) (leb (length bs) high) e in
    let g : bs ≡ cs = cc in
    (f, omega (arith, ap length g, leb-true low (length bs) h.0), omega (arith, ap length g, leb-true (length bs) high h.1))
sized_by low high bs cs false e f = let z : ◌≡◌ {A = ℕ} 0 1 = cc in absurd (omega arith)

sized_some : (low high : ℕ) (o : Option (List ℕ)) (bs : List ℕ) → sized low high o ≡ Some bs → (o ≡ Some bs) × (low ≤ length bs) × (length bs ≤ high)
sized_some low high None bs e = let z : ◌≡◌ {A = ℕ} 0 1 = cc in absurd (omega arith)
sized_some low high (Some cs) bs e = sized_by low high cs bs (leb low (length cs) && leb (length cs) high) refl e

pub bytes_read : (low high : ℕ) (o : Option (List ℕ)) (bs : List ℕ) → hexed low high o ≡ Some bs → BytesRead low high o bs
bytes_read low high None bs e = let z : ◌≡◌ {A = ℕ} 0 1 = cc in absurd (omega arith)
bytes_read low high (Some v) bs e =
    let s = sized_some low high (unhex v) bs e in
    let h = hex_unhex v bs s.0 in
    record { is = ap Some h.0; bytes = h.1; least = s.1; most = s.2 }

bit_is : (c : ℕ) (w a b : Bool) → eqb c 48 ≡ a → eqb c 49 ≡ b → cond a (Some false) (cond b (Some true) None) ≡ Some w → Some (c ∷ []) ≡ Some (shown_flag w)
bit_is c w true b e f g = let h : false ≡ w = cc in ap (λ x. Some (x ∷ [])) (eqb-true c 48 e) ∙ ap (λ v. Some (shown_flag v)) h
bit_is c w false true e f g = let h : true ≡ w = cc in ap (λ x. Some (x ∷ [])) (eqb-true c 49 f) ∙ ap (λ v. Some (shown_flag v)) h
bit_is c w false false e f g = let z : ◌≡◌ {A = ℕ} 0 1 = cc in absurd (omega arith)

pub flag_read : (o : Option (List ℕ)) (w : Bool) → flag o ≡ Some w → o ≡ Some (shown_flag w)
flag_read None w e = let z : ◌≡◌ {A = ℕ} 0 1 = cc in absurd (omega arith)
flag_read (Some []) w e = let z : ◌≡◌ {A = ℕ} 0 1 = cc in absurd (omega arith)
flag_read (Some (c ∷ [])) w e = bit_is c w (eqb c 48) (eqb c 49) refl refl e
flag_read (Some (c ∷ d ∷ cs)) w e =
    let long : eqb (suc (suc (length cs))) 1 ≡ false = ne_eqb (suc (suc (length cs))) 1 (λ h. omega arith) in
    let f : None ≡ Some w = sym (ap (λ t. cond t (bit c) None) long) ∙ e in
    let z : ◌≡◌ {A = ℕ} 0 1 = cc in
    absurd (omega arith)

numbered_is : (o : Option ℕ) (n : ℕ) → numbered o ≡ Ok n → o ≡ Some n
numbered_is None n e = let z : ◌≡◌ {A = ℕ} 0 1 = cc in absurd (omega arith)
numbered_is (Some m) n e = let f : m ≡ n = cc in ap Some f

-- A number that was read was written.
pub limit_read : (top n : ℕ) (o : Option (List ℕ)) → top < 2 ^ 64 → limit top o ≡ Ok n → (o ≡ Some (decimal n)) × (n ≤ top)
limit_read top n None h e = let z : ◌≡◌ {A = ℕ} 0 1 = cc in absurd (omega arith)
limit_read top n (Some []) h e = let z : ◌≡◌ {A = ℕ} 0 1 = cc in absurd (omega arith)
limit_read top n (Some (c ∷ cs)) h e =
    let r = decimal_numeral top n (c ∷ cs) h (numbered_is (numeral top (c ∷ cs)) n e) in
    (ap Some r.0, r.1)

-- What was read of each line of a load that succeeds.
pub record AllRead (r k : Option (List ℕ)) (w : Option Bool) (m c t : Limit) (l : Lines) : Type 0 where
  pub ref_is : r ≡ Some l.ref
  pub secret_is : k ≡ Some l.secret
  pub weak_is : w ≡ Some l.weak
  pub masters_is : m ≡ Ok l.masters
  pub connections_is : c ≡ Ok l.connections
  pub transactions_is : t ≡ Ok l.transactions

no_load : (b : Bool) (l : Lines) → cond b malformed unset ≡ loads l → ⊥
no_load true l e = let z : ◌≡◌ {A = ℕ} 0 1 = cc in omega arith
no_load false l e = let z : ◌≡◌ {A = ℕ} 0 1 = cc in omega arith

limits_read : (r k : List ℕ) (w : Bool) (m c t : Limit) (l : Lines) → limited (key_of r k w) m c t ≡ loads l → AllRead (Some r) (Some k) (Some w) m c t l
limits_read r k w (Ok a) (Ok b) (Ok d) l e =
    let f : key_of r k w a b d ≡ l = cc in
    record {
      ref_is = ap (λ x. Some x.ref) f;
      secret_is = ap (λ x. Some x.secret) f;
      weak_is = ap (λ x. Some x.weak) f;
      masters_is = ap (λ x. Ok x.masters) f;
      connections_is = ap (λ x. Ok x.connections) f;
      transactions_is = ap (λ x. Ok x.transactions) f;
    }
limits_read r k w (Ok a) (Ok b) (Err Unset) l e = absurd (no_load false l e)
limits_read r k w (Ok a) (Ok b) (Err Malformed) l e = absurd (no_load true l e)
limits_read r k w (Ok a) (Err Unset) t l e = absurd (no_load (malformed_limit t) l e)
limits_read r k w (Ok a) (Err Malformed) t l e = absurd (no_load true l e)
limits_read r k w (Err Unset) c t l e = absurd (no_load (malformed_limit c || malformed_limit t) l e)
limits_read r k w (Err Malformed) c t l e = absurd (no_load true l e)

pub all_read : (r k : Option (List ℕ)) (w : Option Bool) (m c t : Limit) (l : Lines) → keyed r k w m c t ≡ loads l → AllRead r k w m c t l
all_read (Some r) (Some k) (Some w) m c t l e = limits_read r k w m c t l e
all_read (Some r) (Some k) None m c t l e = absurd (no_load true l e)
all_read (Some r) None w m c t l e = absurd (no_load true l e)
all_read None k w m c t l e = absurd (no_load true l e)
