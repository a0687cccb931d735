-- What a call, and a list of calls, does to the history of a session, and what holds of it. Assumes nothing.
use Rattle.std.specs.Prelude.{◌≡◌, ℕ, List, ◌∷◌, map, reverse, drop}
use Rattle.database.specs.declared.database.Database.{Ghosts}
use Rattle.database.specs.Meaning.{Meaning}
use Rattle.calculus.specs.declared.answer.Answer.{Answer}
use Rattle.calculus.specs.declared.call.Call.{Call}
use Rattle.calculus.specs.State.{State}
use Rattle.calculus.specs.History.{Event, Happens, taken_calls, Sound, Agrees}
use Rattle.session.specs.declared.session.Session.{Session}
use Rattle.session.specs.States.{state_of}

-- After any history, from an opening over any two databases, that led to the session as it was, the call and its answer make one event more,
-- and of the longer history all holds that holds of every one.
pub record Continues {C D : Type 0} {G : Ghosts C} {H : Ghosts D} (call : Call) (before : Session C D G H) (answer : Answer) (after : Session C D G H) : Type 0 where
  pub history : (M N : Meaning) (h : List Event) → Happens M N h (state_of before) → Happens M N ((call, answer) ∷ h) (state_of after)
  pub sound : (M N : Meaning) (h : List Event) → Happens M N h (state_of before) → Sound (taken_calls ((call, answer) ∷ h))

-- The calls make a history from the opening over two databases, the latest event first. Of it all holds that holds of every history, and so it does
-- of each that it went on from; and what it tells is what the session now holds.
pub record Replayed (M N : Meaning) (calls : List Call) (σ : State) : Type 0 where
  pub events : List Event
  pub happens : Happens M N events σ
  pub in_order : map (λ e. e.0) events ≡ reverse calls
  pub sound : (k : ℕ) → Sound (taken_calls (drop k events))
  pub agrees : Agrees (taken_calls events) σ
