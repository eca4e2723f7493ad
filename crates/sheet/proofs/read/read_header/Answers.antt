-- `sheet::read::read_header` meets its contract. Field by field, the numbers are as they were read. Assumes nothing.
use Rattle.sheet.proofs.read.read_header.Goals as goal

pub returns : goal.returns
returns c = cc
