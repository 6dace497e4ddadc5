-- A text that loads is written so.
use Rattle.std.proofs.Common.{◌≡◌, ℕ, Bool, true, false, cond, List, [], ◌∷◌, ◌++◌, codes, decimal, sym, refl, ap, ◌∙◌, arith, lit<}
use Rattle.numerals.specs.Hexadecimal.{hex}
use Rattle.personalise.specs.Lines.{lines_of, ended, value, past, none}
use Rattle.personalise.specs.Limits.{limit}
use Rattle.personalise.specs.Load.{Lines, Loading, malformed, loads, hexed, flag, by_lines}
use Rattle.personalise.specs.Written.{text_of, six_lines, shown_flag, Good, WrittenIfLoaded}
use Rattle.personalise.proofs.Texts.{text_lines}
use Rattle.personalise.proofs.Parts.{value_past, bytes_read, flag_read, limit_read, AllRead, all_read}

-- A load that succeeds passed the test before it.
passed_test : (b : Bool) (x : Loading) (l : Lines) → cond b x malformed ≡ loads l → (b ≡ true) × (x ≡ loads l)
passed_test true x l e = (refl, e)
passed_test false x l e = let z : ◌≡◌ {A = ℕ} 0 1 = cc in absurd (omega arith)

none_is : (ls : List (List ℕ)) → none ls ≡ true → ls ≡ []
none_is [] e = refl
none_is (l ∷ ls) e = let z : ◌≡◌ {A = ℕ} 0 1 = cc in absurd (omega arith)

-- Each line in turn, from what was read of it.
lines_read : (from_ref : List (List ℕ)) (l : Lines) → by_lines from_ref ≡ loads l
    → Good l × (from_ref ≡ six_lines (hex l.ref) (hex l.secret) (shown_flag l.weak) (decimal l.masters) (decimal l.connections) (decimal l.transactions))
lines_read from_ref l e =
    let from_key = past (codes "ref=") from_ref in
    let from_weak = past (codes "key=") from_key in
    let from_masters = past (codes "weak=") from_weak in
    let from_connections = past (codes "masters=") from_masters in
    let from_transactions = past (codes "connections=") from_connections in
    let left = past (codes "transactions=") from_transactions in
    let done = passed_test (none left) _ l e in
    let all : AllRead (hexed 22 68 (value (codes "ref=") from_ref)) (hexed 32 32 (value (codes "key=") from_key)) (flag (value (codes "weak=") from_weak))
    (limit 65535 (value (codes "masters=") from_masters)) (limit 4294967295 (value (codes "connections=") from_connections)) (limit 18446744073709551615 (value (codes "transactions=") from_transactions)) l
    = all_read _ _ _ _ _ _ l done.1 in
    let r = bytes_read 22 68 (value (codes "ref=") from_ref) l.ref all.ref_is in
    let k = bytes_read 32 32 (value (codes "key=") from_key) l.secret all.secret_is in
    let w = flag_read (value (codes "weak=") from_weak) l.weak all.weak_is in
    let m = limit_read 65535 l.masters (value (codes "masters=") from_masters) (lit< tt) all.masters_is in
    let c = limit_read 4294967295 l.connections (value (codes "connections=") from_connections) (lit< tt) all.connections_is in
    let t = limit_read 18446744073709551615 l.transactions (value (codes "transactions=") from_transactions) (lit< tt) all.transactions_is in (
      record {
        ref_bytes = r.bytes;
        ref_least = r.least;
        ref_most = r.most;
        secret_block = (omega (arith, k.least, k.most), k.bytes);
        masters_top = m.1;
        connections_top = c.1;
        transactions_top = t.1;
      },
      value_past (codes "ref=") (hex l.ref) from_ref r.is
          ∙ ap (λ ls. (codes "ref=" ++ hex l.ref) ∷ ls)
          (value_past (codes "key=") (hex l.secret) from_key k.is
          ∙ ap (λ ls. (codes "key=" ++ hex l.secret) ∷ ls)
          (value_past (codes "weak=") (shown_flag l.weak) from_weak w
          ∙ ap (λ ls. (codes "weak=" ++ shown_flag l.weak) ∷ ls)
          (value_past (codes "masters=") (decimal l.masters) from_masters m.0
          ∙ ap (λ ls. (codes "masters=" ++ decimal l.masters) ∷ ls)
          (value_past (codes "connections=") (decimal l.connections) from_connections c.0
          ∙ ap (λ ls. (codes "connections=" ++ decimal l.connections) ∷ ls)
          (value_past (codes "transactions=") (decimal l.transactions) from_transactions t.0
          ∙ ap (λ ls. (codes "transactions=" ++ decimal l.transactions) ∷ ls) (none_is left done.0)))))),
    )

pub written_if_loaded : WrittenIfLoaded
written_if_loaded text l e =
    let whole = passed_test (ended text) (by_lines (lines_of text)) l e in
    let read = lines_read (lines_of text) l whole.1 in
    (read.0, sym (text_lines text whole.0) ∙ ap text_of read.1)
