-- The worked cases, by computation. Assumes nothing.
use Rattle.std.proofs.Common.{refl}
use Rattle.calculus.specs.Worked.{Worked}

pub worked : Worked
worked =
    record {
      m_loaded = (refl, refl, refl);
      n_loaded = (refl, refl, refl);
      m_values = (refl, refl);
      n_values = (refl, refl);
      m_reduces = refl;
      n_whole = refl;
      m_implies = refl;
      m_answers = refl;
      n_second_clash = refl;
      n_ignoring = refl;
      blocks_implies = refl;
      blocks_refuse = refl;
      blocks_test = refl;
      blocks_lax = refl;
      puts_5 = refl;
      puts_6 = refl;
      puts_1 = refl;
      five_cells = refl;
      six_cells = refl;
      one_clause_answers = refl;
      nothing = refl;
      undo_0 = refl;
      undo_1 = refl;
      closes_false = refl;
      closed_false = refl;
      closes_true = refl;
    }
