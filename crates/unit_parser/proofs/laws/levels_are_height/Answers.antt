use Rattle.unit_parser.proofs.Heights.{file_levels}
use Rattle.unit_parser.proofs.laws.levels_are_height.Goals as goal

pub returns : goal.returns
returns c = file_levels
