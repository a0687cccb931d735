use Rattle.std.proofs.Common.{sym}
use Rattle.std.proofs.lemmas.List.FromFn.{length-map-range_with_len}
use Rattle.list_database.specs.Page.{held}
use Rattle.list_database.proofs.list.methods.ListDatabaseDatabase.count.Goals as goal

pub returns : goal.returns
returns c = sym (length-map-range_with_len (held c.args.self.now.cells.now c.args.self.now.total) 0 c.args.self.now.count)
