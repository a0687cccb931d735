use Rattle.std.proofs.Common.{◌≡◌, ◌/◌, ◌%◌, ◌^◌, ◌≤◌}
use lib.Count.{ones}
use Rattle.bitset_database.proofs.select.select.Given as goal

abbrev pub invariant-loop : goal.invariant-loop
invariant-loop l = (l.rest ≡ l.word / 2 ^ l.passed) × (ones (l.word % 2 ^ l.passed) ≡ l.counter) × (l.passed ≤ 64)
