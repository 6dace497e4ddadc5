-- What a key load holds, and what is answered to a text, in the words of the text's meaning.
use Rattle.std.specs.Prelude.{ℕ, List, Ok, Err, Result}
use Rattle.buffer.specs.Held.{held}
use Rattle.personalise.specs.Load.{Lines, Loading, malformed, unset, loads, key_of}
use Rattle.personalise.specs.declared.key_load.KeyLoad.{KeyLoad}
use Rattle.personalise.specs.declared.reference.Reference.{Reference}
use Rattle.personalise.specs.declared.refusal.Refusal.{Refusal}
use Rattle.personalise.specs.declared.refusal.Refusal.TheVariants.{Malformed, Unset}

-- The bytes of a reference.
abbrev pub ref_of : Reference → List ℕ
ref_of k = held k.bytes

abbrev pub says : KeyLoad → Lines
says k = key_of (ref_of k.reference) k.key k.weak k.masters k.connections k.transactions

abbrev pub answered : Result KeyLoad Refusal → Loading
answered (Ok k) = loads (says k)
answered (Err Malformed) = malformed
answered (Err Unset) = unset
