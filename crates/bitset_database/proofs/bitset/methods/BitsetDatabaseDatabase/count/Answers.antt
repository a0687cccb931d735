use Rattle.std.proofs.Common.{sym}
use Rattle.std.proofs.lemmas.List.FromFn.{length-map-range_with_len}
use Rattle.bitset_rows.specs.Rows.{row}
use Rattle.bitset_database.proofs.bitset.methods.BitsetDatabaseDatabase.count.Goals as goal

pub returns : goal.returns
returns c = sym (length-map-range_with_len (row c.args.self.now.words.now) 0 c.args.self.now.count)
