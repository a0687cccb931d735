-- A unit constraint forces its literal, and the worked cases.
use Rattle.std.proofs.Common.{refl, rules}
use Rattle.qbf.proofs.Forced.{forcing}
use Rattle.qbf.proofs.side.Side.implied.Goals as goal

pub returns-in-Clause : goal.returns-in-Clause
returns-in-Clause c = record { value = search rules; forcing = forcing; worked = (refl, refl, refl, refl, refl) }

pub returns-in-Cube : goal.returns-in-Cube
returns-in-Cube c = record { value = search rules; forcing = forcing; worked = (refl, refl, refl, refl, refl) }
