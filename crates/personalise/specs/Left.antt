-- What a reader has not read yet.
use Rattle.std.specs.Prelude.{ℕ, List}
use Rattle.personalise.specs.Lines.{lines_of}
use Rattle.personalise.specs.declared.reader.Reader.{Reader}

-- The lines that are left.
abbrev pub left : Reader → List (List ℕ)
left r = lines_of r.rest.now
