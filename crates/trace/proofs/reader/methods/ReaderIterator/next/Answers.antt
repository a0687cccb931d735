-- A call of `next` answers what stands at the reader's place, and moves the reader past it.
use Rattle.std.proofs.Common.{◌≡◌, ◌+◌, ◌-◌, length, take, drop, Some, refl, ap, arith, rules}
use Rattle.trace.specs.Format.{whole, decode}
use Rattle.trace.specs.Records.{kind_of, body_of}
use Rattle.trace.proofs.Fronts.{placed}
use Rattle.trace.proofs.Turns.{answers, next_by, next_refused}
use Rattle.trace.proofs.reader.methods.ReaderIterator.next.Goals as goal
use Rattle.trace.proofs.reader.methods.ReaderIterator.next.Goals.{In-Ok-Some}

-- the record that is answered stands at the reader's place
there : (c : In-Ok-Some) → whole (kind_of c.in-Ok-Some.record) (body_of c.in-Ok-Some.record) c.in-Ok-Some.rest.now ≡ decode (take (length c.args.self.now.trace.now - c.args.self.now.place) (drop c.args.self.now.place c.args.self.now.trace.now))
there c = answers _ _ (rw c.in-Ok-Some.field-0-is at c.in-Ok-Some.ensures)

long : (c : In-Ok-Some) → length c.args.self.now.trace.now ≡ c.args.self.now.place + (1 + length (body_of c.in-Ok-Some.record)) + length c.in-Ok-Some.rest.now
long c = placed _ _ _ _ _ (there c) (search rules)

pub overflow_sub-self : goal.overflow_sub-self
overflow_sub-self c = omega (arith, long c)

pub invariant_of-self : goal.invariant_of-self
invariant_of-self c = record { within = omega arith; few = omega (arith, long c) }

pub returns-in-Ok-Some-clause-steps : goal.returns-in-Ok-Some-clause-steps
returns-in-Ok-Some-clause-steps c =
    let l = long (goal.at.returns-in-Ok-Some-clause-steps c).In-Ok-Some in
    next_by _ _ _ _ (there (goal.at.returns-in-Ok-Some-clause-steps c).In-Ok-Some) refl refl (omega arith) refl refl

pub returns-in-Ok-Some-clause-falls : goal.returns-in-Ok-Some-clause-falls
returns-in-Ok-Some-clause-falls c =
    let l = long (goal.at.returns-in-Ok-Some-clause-falls c).In-Ok-Some in
    omega arith

pub returns-in-Err-clause-steps : goal.returns-in-Err-clause-steps
returns-in-Err-clause-steps c = next_refused _ _ _ _ c.in-Err.ensures refl refl refl refl (ap Some c.fault_here.ensures)
