use Rattle.std.proofs.Common.{ap}
use Rattle.qbf.specs.Views.{viewed}
use Rattle.database.specs.declared.complemented.ComplementedDatabase.{ComplementedDatabase}
use Rattle.database.proofs.Complements.{adds_complemented}
use Rattle.database.proofs.complemented.ComplementedDatabaseDatabase.add.Goals as goal

pub returns : goal.returns
returns g c =
    record {
      adds = adds_complemented (g.D.Database.meaning c.args.self.now.below) (g.D.Database.meaning c.add.new.self) (viewed c.args.constraint) _ c.add.result
          c.complement.ensures c.add.ensures.adds;
      refused = λ e. ap {B = ComplementedDatabase g.row.D.Denot} (λ (x : g.row.D.Denot). record { below = x }) (c.add.ensures.refused e);
    }
