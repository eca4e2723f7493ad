-- `runs::divide::divide` meets its contract. The loop's invariant: the bits of the dividend that are passed, divided by b, are
-- the quotient and the remainder so far (Dividing). Assumes nothing.
use Rattle.runs.proofs.LongDivision.{Dividing}
use Rattle.runs.proofs.divide.divide.Given as goal

abbrev pub invariant-loop-left : goal.invariant-loop-left
invariant-loop-left l = Dividing l.high l.low l.b l.quotient l.remainder l.left
