-- The meaning of a database with every code complemented. Assumes nothing.
use Rattle.std.specs.Prelude.{◌≡◌}
use Rattle.qbf.specs.Qbf.{complemented}
use Rattle.qbf.proofs.Complements.{formed_complemented}
use Rattle.database.specs.Meaning.{Meaning, Lawful}

-- The list below with every code complemented; cells and costs are those below.
abbrev pub complemented_meaning : Meaning → Meaning
complemented_meaning m = record { list = complemented m.list; cells = m.cells; left = m.left; cost = m.cost }

-- A layer over a layer means what the database below them does.
abbrev pub TwoLayers : Type 0
TwoLayers = (m : Meaning) → complemented_meaning (complemented_meaning m) ≡ m

pub complemented_lawful : (m : Meaning) → Lawful m → Lawful (complemented_meaning m)
complemented_lawful m w = record { cells = w.cells; left = w.left; costs = w.costs; formed = formed_complemented m.list w.formed }
