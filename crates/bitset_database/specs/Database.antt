-- What a bitset database means. Assumes nothing.
use Rattle.std.specs.Prelude.{◌≡◌, ℕ, true, List}
use Rattle.std.proofs.Common.{arith}
use Rattle.qbf.specs.Qbf.{formed}
use Rattle.bitset_rows.specs.Rows.{row}
use Rattle.database.specs.Meaning.{Meaning, Lawful}
use Rattle.database.proofs.Counted.{each_counted}
use Rattle.bitset_database.specs.Table.{table_meaning}
use Rattle.bitset_database.specs.declared.bitset.BitsetDatabase.{BitsetDatabase}

-- the constraints of the rows in use, its cells in all and left, and the cost of each length
abbrev pub meaning_of : BitsetDatabase → Meaning
meaning_of x = table_meaning x.words.now x.total x.count

-- what holds of the meaning of every database
pub lawful_of : (x : BitsetDatabase) → Lawful (meaning_of x)
lawful_of x =
    let w = x.whole in
    record {
      cells = omega arith;
      left = omega arith;
      costs = λ n h. (omega arith, omega arith);
      formed = each_counted (λ (C : List ℕ). formed C ≡ true) (row x.words.now) x.count x.formed;
    }
