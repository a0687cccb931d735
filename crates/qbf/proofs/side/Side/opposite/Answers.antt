-- The law of the sides, and its worked case.
use Rattle.std.proofs.Common.{refl, rules}
use Rattle.qbf.proofs.Sides.{law_of_sides}
use Rattle.qbf.proofs.side.Side.opposite.Goals as goal

pub returns-in-Clause : goal.returns-in-Clause
returns-in-Clause c = record { value = search rules; law = law_of_sides; worked = (refl, refl) }

pub returns-in-Cube : goal.returns-in-Cube
returns-in-Cube c = record { value = search rules; law = law_of_sides; worked = (refl, refl) }
