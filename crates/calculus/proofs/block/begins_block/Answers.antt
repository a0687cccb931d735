-- Blocks are the runs of one quantifier.
use Rattle.calculus.proofs.Runs.{blocks}
use Rattle.calculus.proofs.block.begins_block.Goals as goal

pub returns-clause-blocks : goal.returns-clause-blocks
returns-clause-blocks c = blocks
