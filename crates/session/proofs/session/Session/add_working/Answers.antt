-- A full database refuses, and nothing has changed then.
use Rattle.std.proofs.Common.{◌≡◌, false, is_ok, refl, ◌∙◌, rules}
use Rattle.session.proofs.Same.{same}
use Rattle.session.proofs.session.Session.add_working.Goals.{in-Clause, in-Cube}
use Rattle.session.proofs.session.Session.add_working.Goals as goal

pub returns : goal.returns
returns g c =
    elim c.match-side.branch [
      | in-Clause w ↦
          record {
            answers = search rules;
            state = search rules;
            refused = λ e. (let r : is_ok w.add.result ≡ false = search rules in w.self-is ∙ same _ _ refl refl refl refl refl (w.add.ensures.refused r) refl);
          }
      | in-Cube w ↦
          record {
            answers = search rules;
            state = search rules;
            refused = λ e. (let r : is_ok w.add-in-Cube.result ≡ false = search rules in w.self-is ∙ same _ _ refl refl refl refl refl refl (w.add-in-Cube.ensures.refused r));
          }
    ]
