-- The body that an opened text has in its string.
use Rattle.std.proofs.Common.{◌≡◌, ◌≤◌, List, ℕ, ◌+◌, true, leb, length, Some, Option, sym, ap, ◌∙◌, subst, cond, None, take, drop, le-leb}
use Rattle.std.specs.Option.{option_map}
use Rattle.sealing.specs.declared.sealer.Opened.{Opened}
use Rattle.sealing.specs.Sealing.{Text}
use Rattle.sealing.specs.Lent.{OpensTo, body_in}

-- Where a string opened, the places lie in it, and there the text's body stands.
pub body_given : (o : Option Text) (before after : List ℕ) (r : Opened) → length after ≡ length before → OpensTo o before after (Some r) → body_in r after ≡ option_map (λ t. t.body) o
body_given None before after r long g = absurd g
body_given (Some t) before after r long g =
    let within : leb (r.at + r.len) (length after) ≡ true = le-leb (r.at + r.len) (length after) (subst (λ n. r.at + r.len ≤ n) (sym long) g.inside) in
    ap (λ b. cond b (Some (take r.len (drop r.at after))) None) within ∙ ap Some g.body
