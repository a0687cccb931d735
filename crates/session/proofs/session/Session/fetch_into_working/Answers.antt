-- Where nothing is fetched, the working constraint is as it was.
use Rattle.std.proofs.Common.{refl, rules}
use Rattle.session.proofs.Same.{same}
use Rattle.session.proofs.session.Session.fetch_into_working.Goals as goal

pub returns-in-Clause : goal.returns-in-Clause
returns-in-Clause g c =
    record {
      answers = search rules;
      state = search rules;
      refused = λ e. same _ _ refl refl refl (c.fetch.ensures.refused e) refl refl refl;
    }

pub returns-in-Cube : goal.returns-in-Cube
returns-in-Cube g c =
    record {
      answers = search rules;
      state = search rules;
      refused = λ e. same _ _ refl refl refl (c.fetch-in-Cube.ensures.refused e) refl refl refl;
    }
