-- What is known of every status word.
use Rattle.std.proofs.Common.{◌≡◌, ℕ, ◌+◌, List, length, refl, ap, ◌∙◌}
use Rattle.std.proofs.lemmas.List.{length-append}
use Rattle.apdu.specs.declared.status.Status.{Status}
use Rattle.apdu.specs.declared.status.Status.TheVariants.{Done, MoreToFetch, ReplyWaits, MoreToSend, NotPossible, WrongLength, LimitPassed, NotNow, NotAuthentic, ChannelRequired, WrongData, NoSuchRecord, NoRoom, WrongParameters, NoSuchIdentifier, UnknownInstruction, Taken}
use Rattle.apdu.specs.StatusWords.{status_bytes}
use Rattle.apdu.specs.Reply.{reply}

-- It has two bytes.
pub length_status : (s : Status) → length (status_bytes s) ≡ 2
length_status Done = refl
length_status MoreToFetch = refl
length_status ReplyWaits = refl
length_status MoreToSend = refl
length_status NotPossible = refl
length_status WrongLength = refl
length_status LimitPassed = refl
length_status NotNow = refl
length_status NotAuthentic = refl
length_status ChannelRequired = refl
length_status WrongData = refl
length_status NoSuchRecord = refl
length_status NoRoom = refl
length_status WrongParameters = refl
length_status NoSuchIdentifier = refl
length_status UnknownInstruction = refl
length_status (Taken n) = refl

pub length_reply : (ds : List ℕ) (s : Status) → length (reply ds s) ≡ length ds + 2
length_reply ds s = length-append ds (status_bytes s) ∙ ap (λ n. length ds + n) (length_status s)
