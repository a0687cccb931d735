-- A table entails its constraints, and what reducing and resolving make of entailed ones.
use Rattle.std.proofs.Common.{refl, rules}
use Rattle.qbf.proofs.Strategies.{members, reducing_keeps, resolving_keeps}
use Rattle.qbf.proofs.side.Side.owns.Goals as goal

pub returns-in-Clause : goal.returns-in-Clause
returns-in-Clause c = record { value = search rules; members = members; reducing = reducing_keeps; resolving = resolving_keeps; worked = ((refl, refl, refl, refl), refl) }

pub returns-in-Cube : goal.returns-in-Cube
returns-in-Cube c = record { value = search rules; members = members; reducing = reducing_keeps; resolving = resolving_keeps; worked = ((refl, refl, refl, refl), refl) }
