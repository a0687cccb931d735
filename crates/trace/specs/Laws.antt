-- What holds of the format itself. Assumes nothing.
use Rattle.std.specs.Prelude.{◌≡◌, ℕ, List, ◌++◌}
use Rattle.trace.specs.declared.record.Record.{Record}
use Rattle.trace.specs.Format.{whole, decode}
use Rattle.trace.specs.Records.{kind_of, body_of, encode}

-- Reading a record's encoding, followed by anything, gives back that record and that rest.
abbrev pub RoundTrip : Type 0
RoundTrip = (r : Record) (rest : List ℕ) → decode (encode r ++ rest) ≡ whole (kind_of r) (body_of r) rest
