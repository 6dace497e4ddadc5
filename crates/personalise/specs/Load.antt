-- What the text of a key load means: six lines, in this order, each ended by LF.
use Rattle.std.specs.Prelude.{ℕ, Bool, true, false, cond, ◌||◌, List, length, Some, None, codes, Option, ◌==◌, slice_index}
use Rattle.numerals.specs.Hexadecimal.{unhex, sized}
use Rattle.personalise.specs.Lines.{lines_of, ended, value, past, none}
use Rattle.personalise.specs.Limits.{Limit, limit, malformed_limit, number_of}

-- What the lines say of a key.
pub record Lines : Type 0 where
  pub ref : List ℕ
  pub secret : List ℕ
  pub weak : Bool
  pub masters : ℕ
  pub connections : ℕ
  pub transactions : ℕ

-- A text is malformed, leaves a limit unset, or loads a key.
pub data Loading : Type 0 where
  malformed : Loading
  unset : Loading
  loads : Lines → Loading

-- By number.
abbrev pub load_number : Loading → ℕ
load_number (loads l) = 0
load_number malformed = 1
load_number unset = 2

-- Bytes written in digits, at least low and at most high of them.
abbrev pub hexed : ℕ → ℕ → Option (List ℕ) → Option (List ℕ)
hexed low high None = None
hexed low high (Some v) = sized low high (unhex v)

abbrev pub bit : ℕ → Option Bool
bit c = cond (c == 48) (Some false) (cond (c == 49) (Some true) None)

-- 0 or 1, and nothing else.
abbrev pub flag : Option (List ℕ) → Option Bool
flag None = None
flag (Some v) = cond (length v == 1) (bit (slice_index v 0)) None

abbrev pub all_set : (ℕ → ℕ → ℕ → Lines) → Option ℕ → Option ℕ → Option ℕ → Loading
all_set key (Some m) (Some c) (Some t) = loads (key m c t)
all_set key (Some m) (Some c) None = unset
all_set key (Some m) None t = unset
all_set key None c t = unset

-- Malformed anywhere outranks unset.
abbrev pub limited : (ℕ → ℕ → ℕ → Lines) → Limit → Limit → Limit → Loading
limited key m c t =
    cond (malformed_limit m || (malformed_limit c || malformed_limit t)) malformed (all_set key (number_of m) (number_of c) (number_of t))

abbrev pub key_of : List ℕ → List ℕ → Bool → ℕ → ℕ → ℕ → Lines
key_of r k w m c t = record { ref = r; secret = k; weak = w; masters = m; connections = c; transactions = t }

abbrev pub keyed : Option (List ℕ) → Option (List ℕ) → Option Bool → Limit → Limit → Limit → Loading
keyed (Some r) (Some k) (Some w) m c t = limited (key_of r k w) m c t
keyed (Some r) (Some k) None m c t = malformed
keyed (Some r) None w m c t = malformed
keyed None k w m c t = malformed

-- Each line is looked for behind the one before it, and none may be left.
abbrev pub by_lines : List (List ℕ) → Loading
by_lines from_ref =
    let from_key : List (List ℕ) = past (codes "ref=") from_ref in
    let from_weak : List (List ℕ) = past (codes "key=") from_key in
    let from_masters : List (List ℕ) = past (codes "weak=") from_weak in
    let from_connections : List (List ℕ) = past (codes "masters=") from_masters in
    let from_transactions : List (List ℕ) = past (codes "connections=") from_connections in
    cond (none (past (codes "transactions=") from_transactions))
    (keyed
    (hexed 22 68 (value (codes "ref=") from_ref))
    (hexed 32 32 (value (codes "key=") from_key))
    (flag (value (codes "weak=") from_weak))
    (limit 65535 (value (codes "masters=") from_masters))
    (limit 4294967295 (value (codes "connections=") from_connections))
    (limit 18446744073709551615 (value (codes "transactions=") from_transactions)))
    malformed

abbrev pub loading : List ℕ → Loading
loading text = cond (ended text) (by_lines (lines_of text)) malformed
