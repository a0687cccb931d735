-- The first entries stay, and the others fall in number.
use Rattle.std.proofs.Common.{◌≡◌, length, take, vec_items}
use Rattle.operations.proofs.trail.Trail.truncate.Given as goal

abbrev pub invariant-entries : goal.invariant-entries
invariant-entries l = take l.most (vec_items l.self.entries) ≡ take l.most (vec_items l.initial.self.entries)

abbrev pub decreases-entries : goal.decreases-entries
decreases-entries l = length (vec_items l.self.entries)
