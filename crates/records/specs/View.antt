-- The code's types, as the definitions speak of them.
use Rattle.std.specs.Prelude.{ℕ, List}
use Rattle.records.specs.declared.file.RecordFile.{RecordFile}

-- The records of a file, the first first.
abbrev pub records_of : RecordFile → List (List ℕ)
records_of s = s.records
