use Rattle.std.proofs.Common.{sym, subst}
use Rattle.c_scanner.specs.Fronts.{IsFront}
use Rattle.c_scanner.proofs.Pieces.{cut_front}
use Rattle.c_scanner.proofs.front.front_of.Goals as goal

pub returns : goal.returns
returns c = subst (IsFront c.args.bytes.now) (sym c.cut.ensures) (cut_front c.args.bytes.now)
