-- The lines of a listing. Assumes nothing.
use Rattle.std.specs.Prelude.{ℕ, List, [], ◌∷◌, ◌++◌, Some, None, Ok, Err, codes, decimal, Option, Result}
use Rattle.faults.specs.declared.fault.Fault.{Fault}
use Rattle.faults.specs.Faults.{fault_line}
use Rattle.trace.specs.declared.record.Record.{Record}
use Rattle.trace.specs.Format.{Row, row_of, numbers}
use Rattle.trace.specs.Records.{kind_of, body_of}

-- the numbers, each after a space
abbrev pub spaced : List ℕ → List ℕ
spaced [] = []
spaced (n ∷ []) = codes " " ++ decimal n
spaced (n ∷ m ∷ ns) = codes " " ++ (decimal n ++ spaced (m ∷ ns))

-- the name that the table has for a record's kind
abbrev pub named : Option Row → List ℕ
named None = []
named (Some r) = r.name

abbrev pub name_of : Record → List ℕ
name_of r = named (row_of (kind_of r))

-- the numbers of a record's body, by the widths that the table has for its kind
abbrev pub numbered : Option Row → List ℕ → List ℕ
numbered None body = []
numbered (Some r) body = numbers r.widths body

-- A record's name, and the numbers of its body.
abbrev pub record_text : Record → List ℕ
record_text r = name_of r ++ spaced (numbered (row_of (kind_of r)) (body_of r))

-- The line of a record, by its number and its byte.
abbrev pub record_line : ℕ → ℕ → Record → List ℕ
record_line n p r = codes "record " ++ (decimal n ++ (codes " byte " ++ (decimal p ++ (codes " " ++ record_text r))))

-- The last line: how many records there are, or the fault.
abbrev pub last_line : Result ℕ Fault → List ℕ
last_line (Ok n) = codes "records " ++ decimal n
last_line (Err f) = fault_line f
