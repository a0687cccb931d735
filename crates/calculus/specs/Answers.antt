-- The answers that results tell, and how an answer is written. Assumes nothing.
use Rattle.std.specs.Prelude.{ℕ, List, ◌++◌, Ok, Err, Result, codes, decimal}
use Rattle.faults.specs.declared.refusal.Refusal.{Refusal}
use Rattle.faults.specs.Refusals.{number_of}
use Rattle.calculus.specs.declared.answer.Answer.{Answer}
use Rattle.calculus.specs.declared.answer.Answer.TheVariants.{Taken, Stored, Refused}

-- the answer that a result tells
abbrev pub answer_of : Result (Unit {0}) Refusal → Answer
answer_of (Ok u) = Taken
answer_of (Err r) = Refused r

-- the answer that a store's result tells
abbrev pub number_told : Result ℕ Refusal → Answer
number_told (Ok n) = Stored n
number_told (Err r) = Refused r

-- A refusal is told by its number.
abbrev pub answer_text : Answer → List ℕ
answer_text Taken = codes "taken"
answer_text (Stored n) = codes "stored as " ++ decimal n
answer_text (Refused r) = codes "refused " ++ decimal (number_of r)
