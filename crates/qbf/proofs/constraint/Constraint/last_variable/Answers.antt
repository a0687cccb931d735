use Rattle.std.proofs.Common.{vec_items}
use Rattle.qbf.proofs.Formed.{last_got}
use Rattle.qbf.proofs.constraint.Constraint.last_variable.Goals as goal

pub returns : goal.returns
returns c = let h = c.copied.ensures in let k = c.map_or.ensures in last_got (vec_items c.args.self.now.codes) c.copied.result c.map_or.result (cc c.last.ensures.value) c.map_or.ensures
