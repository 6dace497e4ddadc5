-- A header once judged stays as judged, whatever follows.
use Rattle.std.proofs.Common.{◌≡◌, ℕ, List, ◌++◌, Err, arith}
use Rattle.std.proofs.lemmas.List.{get_or_append_left, length-append}
use Rattle.std.proofs.lemmas.Bool.Decides.{nat_tests}
use Rattle.objects.specs.declared.join.Unread.TheVariants.{Bad}
use Rattle.objects.specs.Joined.{header, header_of}

pub header_stays_bad : (bs more : List ℕ) → header_of bs ≡ Err Bad → header_of (bs ++ more) ≡ Err Bad
header_stays_bad bs more e = grind (arith, nat_tests, get_or_append_left, length-append)

pub header_stays : (bs more : List ℕ) (h s : ℕ) → header_of bs ≡ header h s → header_of (bs ++ more) ≡ header h s
header_stays bs more h s e = grind (arith, nat_tests, get_or_append_left, length-append)
