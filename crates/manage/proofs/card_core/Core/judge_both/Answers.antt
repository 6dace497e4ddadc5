use Rattle.std.proofs.Common.{◌≡◌, ◌++◌, sym, arith, rules}
use Rattle.std.proofs.lemmas.Grind.{common_steps}
use Rattle.std.proofs.lemmas.Bool.Decides.{nat_tests}
use Rattle.byte_lists.specs.Bytes.{Bytes}
use Rattle.byte_lists.proofs.Facts.{bytes_append}
use Rattle.objects.specs.Joined.{bad, object}
use Rattle.objects.proofs.Beginnings.{prefix_free}
use Rattle.request.specs.View.{kind_of}
use Rattle.law.specs.Hashes.{keyed}
use Rattle.manage.proofs.Decided.{joined_bad}
use Rattle.manage.proofs.card_core.Core.judge_both.Goals as goal

-- What doesn't fit has more bytes than any object.
pub returns-in_default : goal.returns-in_default
returns-in_default c =
    let z = c.args.gathered.now ++ c.args.part.now in
    let bytes : Bytes z = bytes_append c.args.gathered.now c.args.part.now (λ i. search rules) (λ i. search rules) in
    let none : object z ≡ bad = prefix_free.too_long z bytes (grind (arith, common_steps, nat_tests)) in
    joined_bad keyed c.args.self.now c.args.lent.random.now (kind_of c.args.kind) z (object z) c.refuse.new.self c.refuse.result
    (sym none) c.refuse.ensures.core c.refuse.ensures.status
