use Rattle.std.proofs.Common.{◌≡◌, ◌∷◌, ◌∙◌, [], ℕ, List, ◌%◌, rules, fold, ap}
use Rattle.des_tables.specs.Words.{exchanged}
use Rattle.des.proofs.permute.initial.Goals as goal

pub returns : goal.returns
returns c =
    let is : c.fold.result ≡ fold (λ x (p : ℕ × ℕ). exchanged (p.0 % 64) p.1 x) c.args.block c.iter.result.rest.now = search rules in
    let list : c.iter.result.rest.now ≡ ((36, 0x0f0f0f0f) ∷ (48, 0x0000ffff) ∷ (30, 0xcccccccc) ∷ (24, 0xff00ff00) ∷ (33, 0x55555555) ∷ []) = search rules in
    is ∙ ap (λ (xs : List (ℕ × ℕ)). fold (λ x (p : ℕ × ℕ). exchanged (p.0 % 64) p.1 x) c.args.block xs) list
