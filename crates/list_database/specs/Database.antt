-- What a list database means. Assumes nothing.
use Rattle.std.specs.Prelude.{◌≡◌, ℕ, true, List}
use Rattle.std.proofs.Common.{arith}
use Rattle.qbf.specs.Qbf.{formed}
use Rattle.database.specs.Meaning.{Meaning, Lawful}
use Rattle.database.proofs.Counted.{each_counted}
use Rattle.list_database.specs.Page.{held, page_meaning}
use Rattle.list_database.specs.declared.list.ListDatabase.{ListDatabase}

-- the list that its cells hold, its cells in all and left, and the cost of each length
abbrev pub meaning_of : ListDatabase → Meaning
meaning_of x = page_meaning x.cells.now x.total x.used x.count

-- what holds of the meaning of every database
pub lawful_of : (x : ListDatabase) → Lawful (meaning_of x)
lawful_of x =
    let w = x.whole in
    record {
      cells = omega arith;
      left = omega arith;
      costs = λ n h. (omega arith, omega arith);
      formed = each_counted (λ (C : List ℕ). formed C ≡ true) (held x.cells.now x.total) x.count x.formed;
    }
