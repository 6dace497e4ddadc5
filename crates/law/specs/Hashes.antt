-- What the card derives by: HMAC-SHA-256, and its expansion into 64 bytes.
use Rattle.hmac.specs.Hmac.{hmac}
use Rattle.hmac.specs.Expansion.{expanded}
use Rattle.law.specs.Associations.{Hashing}

abbrev pub keyed : Hashing
keyed = record { hmac = hmac; expanded = expanded }
