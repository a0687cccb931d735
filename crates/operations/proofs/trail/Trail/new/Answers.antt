-- An empty trail and a table of nothing agree.
use Rattle.std.proofs.Common.{false, List, replicate, sym, refl, subst, arith}
use Rattle.std.proofs.lemmas.Bool.{both_ways}
use Rattle.operations.specs.declared.entry.Entry.{Entry}
use Rattle.operations.proofs.Sets.{Sound, tied_none}
use Rattle.operations.proofs.trail.Trail.new.Goals as goal

pub invariant_of-result : goal.invariant_of-result
invariant_of-result c =
    let e = c.in_ok-entries.ensures in
    let P : List Entry → Type 0 = λ es. Sound (replicate 1026 false) es in
    let s = subst P (sym e.items) (tied_none 1026, refl, λ l h. absurd (both_ways false refl h)) in
    record { tied = s.0; once = s.1; ranged = s.2; room = omega arith }
