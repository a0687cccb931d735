use Rattle.std.proofs.Common.{length, Some, option_map, ap, ◌∙◌}
use Rattle.bitset_database.proofs.bitset.methods.BitsetDatabaseDatabase.length.Goals as goal

pub returns : goal.returns
returns c = ap Some c.size.ensures ∙ ap (option_map length) c.in_ok-row.ensures
