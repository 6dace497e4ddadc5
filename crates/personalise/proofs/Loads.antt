-- The lines of a load, one behind the other.
use Rattle.std.proofs.Common.{◌≡◌, ℕ, Bool, true, false, cond, List, Some, None, codes, Option, sym, refl, ap, ◌∙◌}
use Rattle.std.proofs.lemmas.Bool.{cond-true, cond-false}
use Rattle.personalise.specs.Lines.{lines_of, ended, value, past, none}
use Rattle.personalise.specs.Limits.{Limit, limit}
use Rattle.personalise.specs.Load.{Loading, malformed, hexed, flag, keyed, by_lines, loading}

-- What is made of the six lines, where none is left behind them.
abbrev pub judged : Bool → Option (List ℕ) → Option (List ℕ) → Option Bool → Limit → Limit → Limit → Loading
judged done r k w m c t = cond done (keyed r k w m c t) malformed

pub in_turn : (l0 l1 l2 l3 l4 l5 l6 : List (List ℕ))
    → l1 ≡ past (codes "ref=") l0 → l2 ≡ past (codes "key=") l1 → l3 ≡ past (codes "weak=") l2
    → l4 ≡ past (codes "masters=") l3 → l5 ≡ past (codes "connections=") l4 → l6 ≡ past (codes "transactions=") l5
    → judged (none l6)
    (hexed 22 68 (value (codes "ref=") l0))
    (hexed 32 32 (value (codes "key=") l1))
    (flag (value (codes "weak=") l2))
    (limit 65535 (value (codes "masters=") l3))
    (limit 4294967295 (value (codes "connections=") l4))
    (limit 18446744073709551615 (value (codes "transactions=") l5))
    ≡ by_lines l0
in_turn l0 l1 l2 l3 l4 l5 l6 e1 e2 e3 e4 e5 e6 = simp (e6, e5, e4, e3, e2, e1)

-- What was read in turn is what the text means.
pub told : (text : List ℕ) (l0 l1 l2 l3 l4 l5 l6 : List (List ℕ)) (done : Bool) (r k : Option (List ℕ)) (w : Option Bool) (m c t : Limit)
    → true ≡ ended text → l0 ≡ lines_of text
    → l1 ≡ past (codes "ref=") l0 → l2 ≡ past (codes "key=") l1 → l3 ≡ past (codes "weak=") l2
    → l4 ≡ past (codes "masters=") l3 → l5 ≡ past (codes "connections=") l4 → l6 ≡ past (codes "transactions=") l5
    → done ≡ none l6 → r ≡ hexed 22 68 (value (codes "ref=") l0) → k ≡ hexed 32 32 (value (codes "key=") l1) → w ≡ flag (value (codes "weak=") l2)
    → m ≡ limit 65535 (value (codes "masters=") l3) → c ≡ limit 4294967295 (value (codes "connections=") l4) → t ≡ limit 18446744073709551615 (value (codes "transactions=") l5)
    → judged done r k w m c t ≡ loading text
told text l0 l1 l2 l3 l4 l5 l6 done r k w m c t h e0 e1 e2 e3 e4 e5 e6 ed er ek ew em ec et =
    simp (ed, er, ek, ew, em, ec, et)
    (in_turn l0 l1 l2 l3 l4 l5 l6 e1 e2 e3 e4 e5 e6 ∙ ap by_lines e0 ∙ sym (cond-true (ended text) (by_lines (lines_of text)) malformed (sym h)))

-- Malformed at once, whatever is left.
either : (t : Bool) → malformed ≡ cond t malformed malformed
either true = refl
either false = refl

-- No reference, no key or no flag in its line.
pub no_reference : (text : List ℕ) (l0 : List (List ℕ)) → true ≡ ended text → l0 ≡ lines_of text
    → None ≡ hexed 22 68 (value (codes "ref=") l0) → malformed ≡ loading text
no_reference text l0 h e0 er =
    either _ ∙ told text l0 _ _ _ _ _ _ _ None _ _ _ _ _ h e0 refl refl refl refl refl refl refl er refl refl refl refl refl

pub no_key : (text : List ℕ) (l0 l1 : List (List ℕ)) (r : List ℕ) → true ≡ ended text → l0 ≡ lines_of text → l1 ≡ past (codes "ref=") l0
    → Some r ≡ hexed 22 68 (value (codes "ref=") l0) → None ≡ hexed 32 32 (value (codes "key=") l1) → malformed ≡ loading text
no_key text l0 l1 r h e0 e1 er ek =
    either _ ∙ told text l0 l1 _ _ _ _ _ _ (Some r) None _ _ _ _ h e0 e1 refl refl refl refl refl refl er ek refl refl refl refl

pub no_flag : (text : List ℕ) (l0 l1 l2 : List (List ℕ)) (r k : List ℕ) → true ≡ ended text → l0 ≡ lines_of text → l1 ≡ past (codes "ref=") l0 → l2 ≡ past (codes "key=") l1
    → Some r ≡ hexed 22 68 (value (codes "ref=") l0) → Some k ≡ hexed 32 32 (value (codes "key=") l1) → None ≡ flag (value (codes "weak=") l2) → malformed ≡ loading text
no_flag text l0 l1 l2 r k h e0 e1 e2 er ek ew =
    either _ ∙ told text l0 l1 l2 _ _ _ _ _ (Some r) (Some k) None _ _ _ h e0 e1 e2 refl refl refl refl refl er ek ew refl refl refl

-- A text whose last line has no LF.
pub unended : (text : List ℕ) → false ≡ ended text → malformed ≡ loading text
unended text e = sym (cond-false (ended text) (by_lines (lines_of text)) malformed (sym e))
