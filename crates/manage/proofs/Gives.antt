-- A reply block given.
use Rattle.std.proofs.Common.{◌≡◌, ℕ, ◌+◌, ◌^◌, ◌<◌, ◌≤◌, Bool, true, false, cond, List, ◌++◌, length, take, drop, sym, refl, ap, ◌∙◌, arith}
use Rattle.std.proofs.lemmas.List.{length-take, length-drop}
use Rattle.buffer.specs.Held.{held}
use Rattle.buffer.specs.declared.Store.{Store}
use Rattle.apdu.specs.Reply.{reply, fronted}
use Rattle.apdu.specs.StatusWords.{status_bytes}
use Rattle.apdu.specs.declared.status.Status.{Status}
use Rattle.apdu.specs.declared.status.Status.TheVariants.{MoreToFetch, Done}
use Rattle.replies.specs.Blocks.{Part, block_of}
use Rattle.request.specs.View.{kind_of}
use Rattle.apdu.specs.declared.kind.Kind.{Kind}
use Rattle.law.specs.Calls.{replied}
use Rattle.law.specs.Step.{Move, does, given, put, waits}
use Rattle.manage.specs.declared.pending.Pending.TheVariants as pending
use Rattle.manage.specs.declared.card_core.Core.{Core}
use Rattle.manage.specs.declared.told.Told.{Told}
use Rattle.manage.specs.Told.{bytes_of}
use Rattle.manage.specs.View.{core_of, Replied}
use Rattle.manage.proofs.Stays.{stays}

-- A core with something else pending.
abbrev pub with_reply : Core → Kind → Store 288 → ℕ → Core
with_reply c k z n = record { tables = c.tables; pending = pending.Reply (record { kind = k; reply = z; given = n }); failures = c.failures; required = c.required }

ends : (b : Bool) → cond b (status_bytes MoreToFetch) (status_bytes Done) ≡ status_bytes (cond b MoreToFetch Done)
ends true = refl
ends false = refl

pub gives : (c : Core) (k : Kind) (z : Store 288) (at most : ℕ) (p : Part) (s : Status) (t : Told) (lent written : List ℕ) (n : ℕ)
    → p ≡ block_of (held z) at most → s ≡ cond p.more MoreToFetch Done → bytes_of t ≡ reply p.bytes s → n ≡ length (bytes_of t) → written ≡ fronted (bytes_of t) lent
    → Replied (given (core_of c) (kind_of k) (held z) at most) c (with_reply c k z (at + length p.bytes)) lent written n
gives c k z at most p s t lent written n e h w l b = record {
  reply = bytes_of t;
  move =
      ap by (sym e) ∙ ap (λ (y : List ℕ). does (core_of (with_reply c k z (at + length p.bytes))) (replied (p.bytes ++ y))) (ends p.more ∙ ap status_bytes (sym h))
      ∙ ap (λ (y : List ℕ). does (core_of (with_reply c k z (at + length p.bytes))) (replied y)) (sym w);
  answers = stays c.tables;
  len = l;
  bytes = b;
}
  where
    by : Part → Move
    by q = does (put (core_of c) (core_of c).tables (waits (kind_of k) (held z) (at + length q.bytes))) (replied (q.bytes ++ cond q.more (status_bytes MoreToFetch) (status_bytes Done)))

-- A block has no more bytes than were asked for, and ends within the reply.
pub block_length : (z : List ℕ) (at most : ℕ) (p : Part) → p ≡ block_of z at most → (length p.bytes ≤ most) × (length z < 2 ^ 63 → at < 2 ^ 64 → at + length p.bytes < 2 ^ 64)
block_length z at most p e =
    let l : length p.bytes ≡ length (take most (drop at z)) = ap (λ (q : Part). length q.bytes) e in
    let t = length-take most (drop at z) in
    let d = length-drop at z in
    (omega arith, λ a b. omega arith)
