use Rattle.std.proofs.Common.{◌∷◌, sym, subst}
use Rattle.dialect_lexer.specs.Patterns.{IsFront}
use Rattle.dialect_lexer.proofs.Pieces.{cut_front}
use Rattle.dialect_lexer.proofs.lexing.front.Goals as goal

pub returns : goal.returns
returns c =
    subst (λ found. IsFront c.args.dialect (c.args.first ∷ c.args.after.now) found) (sym c.cut.ensures) (cut_front c.args.dialect c.args.first c.args.after.now)
