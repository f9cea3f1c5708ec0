use Rattle.std.proofs.Common.{◌∙◌, sym, arith}
use Rattle.c_evaluation.proofs.Lookups.{written_beyond}
use Rattle.c_evaluation.proofs.lookup.written.Goals as goal

pub returns-then-at-scope : goal.returns-then-at-scope
returns-then-at-scope c =
    let fs = c.args.scope.now.program.now.functions in
    sym (written_beyond c.args.name.now fs c.args.scope.now.reach c.in-Some.at (sym c.function_place.ensures.value ∙ c.in-Some.is) (omega arith))
