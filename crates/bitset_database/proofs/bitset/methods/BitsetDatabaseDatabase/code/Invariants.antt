use Rattle.std.proofs.Common.{◌≡◌, ◌+◌, ◌*◌, length}
use Rattle.bitset_rows.specs.Rows.{bit, chosen}
use Rattle.bitset_database.proofs.bitset.methods.BitsetDatabaseDatabase.code.Given as goal

abbrev pub invariant-loop-i : goal.invariant-loop-i
invariant-loop-i l = length (chosen (bit l.words 0) (64 * l.i)) + l.left + 1 ≡ l.place
