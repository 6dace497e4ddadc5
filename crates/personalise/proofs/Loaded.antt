-- What is written loads, and either side of a limit.
use Rattle.std.proofs.Common.{◌≡◌, ℕ, ◌^◌, ◌<◌, ◌≤◌, Bool, true, false, List, [], ◌∷◌, ◌++◌, Ok, Err, Some, codes, decimal, refl, ap, ◌∙◌, arith, lit<}
use Rattle.std.proofs.lemmas.Bool.{cond-true}
use Rattle.numerals.specs.Hexadecimal.{hex}
use Rattle.personalise.specs.Lines.{lines_of, ended}
use Rattle.personalise.specs.Limits.{Limit, limit}
use Rattle.personalise.specs.Load.{Lines, malformed, unset, key_of, hexed, flag, limited, keyed, by_lines, loading}
use Rattle.personalise.specs.Written.{text_of, shown_flag, with_masters, without_masters, Good, EitherSide, LoadedIfWritten}
use Rattle.personalise.specs.declared.refusal.Refusal.TheVariants.{Unset}
use Rattle.personalise.proofs.Texts.{unbroken, AllUnbroken, lines_text, ended_text}
use Rattle.personalise.proofs.Values.{unbroken_hex, unbroken_decimal, hexed_hex, limit_decimal}

-- Lines without LF, written one behind the other, mean what they mean as lines.
loading_lines : (l : List ℕ) (ls : List (List ℕ)) → AllUnbroken (l ∷ ls) → loading (text_of (l ∷ ls)) ≡ by_lines (l ∷ ls)
loading_lines l ls p =
    let text = text_of (l ∷ ls) in
    cond-true (ended text) (by_lines (lines_of text)) malformed (ended_text l ls) ∙ ap by_lines (lines_text (l ∷ ls) p)

-- A number up to a top has at most 64 bits.
small : (top n : ℕ) → n ≤ top → top < 2 ^ 64 → n < 2 ^ 64
small top n h b = omega arith

flag_shown : (w : Bool) → flag (Some (shown_flag w)) ≡ Some w
flag_shown true = refl
flag_shown false = refl

unbroken_flag : (w : Bool) → unbroken (shown_flag w) ≡ true
unbroken_flag true = refl
unbroken_flag false = refl

-- A good load, whatever was read of the number of masters.
keyed_good : (l : Lines) → Good l → (m : Limit)
    → keyed (hexed 22 68 (Some (hex l.ref))) (hexed 32 32 (Some (hex l.secret))) (flag (Some (shown_flag l.weak))) m
    (limit 4294967295 (Some (decimal l.connections))) (limit 18446744073709551615 (Some (decimal l.transactions)))
    ≡ limited (key_of l.ref l.secret l.weak) m (Ok l.connections) (Ok l.transactions)
keyed_good l g m =
    let r = hexed_hex 22 68 l.ref g.ref_bytes g.ref_least g.ref_most in
    let k = hexed_hex 32 32 l.secret g.secret_block.1 (omega (arith, g.secret_block.0)) (omega (arith, g.secret_block.0)) in
    let c = limit_decimal 4294967295 l.connections g.connections_top (small 4294967295 l.connections g.connections_top (lit< tt)) in
    let t = limit_decimal 18446744073709551615 l.transactions g.transactions_top (small 18446744073709551615 l.transactions g.transactions_top (lit< tt)) in
    simp (r, k, flag_shown l.weak, c, t)

module _ (l : Lines) (g : Good l) where
  -- The last two lines hold no LF.
  unbroken_connections : unbroken (decimal l.connections) ≡ true
  unbroken_connections = unbroken_decimal l.connections (small 4294967295 l.connections g.connections_top (lit< tt))

  unbroken_transactions : unbroken (decimal l.transactions) ≡ true
  unbroken_transactions = unbroken_decimal l.transactions (small 18446744073709551615 l.transactions g.transactions_top (lit< tt))

  -- With any bytes for the number of masters.
  loading_masters : (m : List ℕ) → unbroken m ≡ true
      → loading (with_masters l m) ≡ limited (key_of l.ref l.secret l.weak) (limit 65535 (Some m)) (Ok l.connections) (Ok l.transactions)
  loading_masters m p =
      loading_lines (codes "ref=" ++ hex l.ref)
      ((codes "key=" ++ hex l.secret) ∷ (codes "weak=" ++ shown_flag l.weak) ∷ (codes "masters=" ++ m)
      ∷ (codes "connections=" ++ decimal l.connections) ∷ (codes "transactions=" ++ decimal l.transactions) ∷ [])
      (unbroken_hex l.ref, (unbroken_hex l.secret, (unbroken_flag l.weak, (p, (unbroken_connections, (unbroken_transactions, tt))))))
      ∙ keyed_good l g (limit 65535 (Some m))

  -- And without its line.
  loading_without : loading (without_masters l) ≡ unset
  loading_without =
      loading_lines (codes "ref=" ++ hex l.ref)
      ((codes "key=" ++ hex l.secret) ∷ (codes "weak=" ++ shown_flag l.weak)
      ∷ (codes "connections=" ++ decimal l.connections) ∷ (codes "transactions=" ++ decimal l.transactions) ∷ [])
      (unbroken_hex l.ref, (unbroken_hex l.secret, (unbroken_flag l.weak, (unbroken_connections, (unbroken_transactions, tt)))))
      ∙ keyed_good l g (Err Unset)

pub loaded_if_written : LoadedIfWritten
loaded_if_written l g =
    let b = small 65535 l.masters g.masters_top (lit< tt) in
    loading_masters l g (decimal l.masters) (unbroken_decimal l.masters b)
    ∙ ap (λ x. limited (key_of l.ref l.secret l.weak) x (Ok l.connections) (Ok l.transactions)) (limit_decimal 65535 l.masters g.masters_top b)

pub either_side : (l : Lines) → Good l → EitherSide l
either_side l g = record {
  zero_loads = loading_masters l g (codes "0") refl;
  empty_unset = loading_masters l g [] refl;
  absent_unset = loading_without l g;
  top_loads = loading_masters l g (codes "65535") refl;
  above_malformed = loading_masters l g (codes "65536") refl;
  leading_zero_malformed = loading_masters l g (codes "00") refl;
}
