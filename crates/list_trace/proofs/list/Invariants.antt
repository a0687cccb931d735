-- With each record there are fewer bytes to go.
use Rattle.trace.specs.Readers.{to_go}
use Rattle.list_trace.proofs.list.Given as goal

abbrev pub decreases-loop-record : goal.decreases-loop-record
decreases-loop-record l = to_go l.reader
