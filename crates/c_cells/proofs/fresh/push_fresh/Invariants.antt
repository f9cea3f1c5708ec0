use Rattle.std.proofs.Common.{◌≡◌, ◌++◌, length}
use Rattle.c_meaning.specs.Cells.{Blocks}
use Rattle.c_meaning.specs.Fresh.{fresh_blocks}
use Rattle.c_cells.proofs.fresh.push_fresh.Given as goal

abbrev pub invariant-loop-rest : goal.invariant-loop-rest
invariant-loop-rest l = record {
  same : l.memory ++ fresh_blocks l.zeroed l.declared.list.now l.rest ≡ l.fn.memory ++ fresh_blocks l.fn.zeroed l.fn.declared.list.now l.fn.variables;
  longer : (made : Blocks) × (l.memory ≡ l.fn.memory ++ made);
}

abbrev pub decreases-loop-rest : goal.decreases-loop-rest
decreases-loop-rest l = length l.rest
