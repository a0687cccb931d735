use Rattle.std.proofs.Common.{refl}
use Rattle.database.proofs.Complements.{two_layers}
use Rattle.database.proofs.complemented.ComplementedDatabase.new.Goals as goal

pub returns : goal.returns
returns g c = record { value = refl; twice = two_layers }
