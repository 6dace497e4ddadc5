-- The memory that a command leaves, told of the buffer and the work area that were made for it.
use Rattle.std.proofs.Common.{◌≡◌, ℕ, List, ◌++◌, length, take, drop, replicate, Ok, Err, Result, ap, ◌∙◌, arith, take_all}
use lib.ListN.{length-replicate}
use lib.Seq.{take-append-le}
use Rattle.std.proofs.lemmas.List.{drop-replicate}
use Rattle.card.specs.declared.refusal.HostRefusal.{HostRefusal}
use Rattle.card.specs.View.{Memory}
use Rattle.pair.specs.declared.calls.Answer.TheVariants.{Replied}
use Rattle.pair.specs.Lent.{LentAs}

-- A vector that was lent holds what was written.
pub holds_written : (n : ℕ) (written before : List ℕ) → length written ≡ n → take n (written ++ drop (length written) before) ≡ written
holds_written n written before e = take-append-le n written (drop (length written) before) (omega arith) ∙ take_all n written (omega arith)

long : (xs : List ℕ) (n x : ℕ) → xs ≡ replicate n x → length xs ≡ n
long xs n x e = ap (λ (ys : List ℕ). length ys) e ∙ length-replicate n x

lends_as : (fill size area : ℕ) (r : Result ℕ HostRefusal) (lent written work after : List ℕ) → lent ≡ replicate size fill → work ≡ replicate area fill
    → Memory r lent written work after → LentAs fill size area (Replied r) written after
lends_as fill size area (Ok n) lent written work after f w m =
    let l : length lent ≡ size = long lent size fill f in
    record {
      inside = omega (arith, m.inside);
      length = m.size ∙ l;
      behind = m.behind ∙ ap (λ (xs : List ℕ). drop n xs) f ∙ drop-replicate n size fill;
      wiped = m.wiped ∙ ap (λ (k : ℕ). replicate k 0) (long work area fill w);
    }
lends_as fill size area (Err e) lent written work after f w m = (m.buffer ∙ f, m.area ∙ w)

pub lends : (fill size area : ℕ) (r : Result ℕ HostRefusal) (lent written buffer work after left : List ℕ) → buffer ≡ written → left ≡ after
    → lent ≡ replicate size fill → work ≡ replicate area fill
    → Memory r lent written work after → LentAs fill size area (Replied r) buffer left
lends fill size area r lent written buffer work after left same same_area f w m =
    rw (same, same_area) (lends_as fill size area r lent written work after f w m)
