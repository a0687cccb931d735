use Rattle.std.proofs.Common.{◌≡◌, ◌++◌, length}
use Rattle.qbf.specs.Views.{viewed, codes_left}
use Rattle.bitset_rows.specs.Rows.{row}
use Rattle.bitset_database.proofs.bitset.methods.row_of.Given as goal

abbrev pub invariant-loop-code : goal.invariant-loop-code
invariant-loop-code l = (viewed l.constraint ≡ row l.words 0 ++ codes_left l.code-iterator) × (length l.words ≡ 16)
