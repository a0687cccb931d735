-- Strategies, any choice of entailed constraints, the entailed empty one, and the worked values.
use Rattle.std.proofs.Common.{refl, rules}
use Rattle.qbf.proofs.Strategies.{strategies, any_choice, empty_loses}
use Rattle.qbf.proofs.Learned.{learning}
use Rattle.qbf.proofs.side.Side.losing_value.Goals as goal

pub returns-in-Clause : goal.returns-in-Clause
returns-in-Clause c = record { value = search rules; strategies = strategies; choice = any_choice; empty = empty_loses; learning = learning; worked = (refl, refl, refl, refl, refl, refl, refl) }

pub returns-in-Cube : goal.returns-in-Cube
returns-in-Cube c = record { value = search rules; strategies = strategies; choice = any_choice; empty = empty_loses; learning = learning; worked = (refl, refl, refl, refl, refl, refl, refl) }
