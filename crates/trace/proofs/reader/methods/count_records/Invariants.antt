-- What the trace comes to is the same before each call of `next`.
use Rattle.std.proofs.Common.{◌≡◌}
use Rattle.trace.specs.Reading.{outcome}
use Rattle.trace.specs.Readers.{to_go}
use Rattle.trace.proofs.Turns.{comes}
use Rattle.trace.proofs.reader.methods.count_records.Given as goal

abbrev pub invariant-loop : goal.invariant-loop
invariant-loop l = (comes l.reader ≡ outcome l.trace) × (l.reader.trace.now ≡ l.trace)

abbrev pub decreases-loop : goal.decreases-loop
decreases-loop l = to_go l.reader
