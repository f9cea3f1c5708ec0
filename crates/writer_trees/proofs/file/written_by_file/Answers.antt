use Rattle.std.proofs.Common.{ap}
use Rattle.writer_trees.specs.Unbuilt.{nodes_of}
use Rattle.writer_trees.proofs.Firsts.{whole_unbuilt}
use Rattle.writer_trees.proofs.file.written_by_file.Goals as goal

pub returns-in-UnitText-clause-err : goal.returns-in-UnitText-clause-err
returns-in-UnitText-clause-err c = whole_unbuilt c.args.dialect c.args.file.now c.in-UnitText.unit.span (ap nodes_of c.in-UnitText.is)

pub returns-in-Module-clause-err : goal.returns-in-Module-clause-err
returns-in-Module-clause-err c = whole_unbuilt c.args.dialect c.args.file.now c.in-Module.module.span (ap nodes_of c.in-Module.is)
