-- The program ends.
use Rattle.agreement.specs.Laws.{WritersEnd}
use Rattle.agreement.proofs.WriterMeans.{means}

pub writers_end : WritersEnd
writers_end d ws input = (0, means d ws input 0)
