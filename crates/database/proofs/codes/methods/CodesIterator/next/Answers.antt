-- A code that there is is the first of what is left, and places are few.
use Rattle.std.proofs.Common.{arith}
use Rattle.database.proofs.Reading.{place_small}
use Rattle.database.proofs.codes.methods.CodesIterator.next.Goals as goal

pub overflow_add-self : goal.overflow_add-self
overflow_add-self g c = let s = place_small (g.D.Database.meaning c.args.self.now.database.now).list c.args.self.now.number (g.D.Database.lawful c.args.self.now.database.now).formed c.args.self.now.place c.in_ok-code.code c.args.self.now.counted c.in_ok-code.ensures in omega arith
