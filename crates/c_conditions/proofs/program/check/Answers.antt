use Rattle.std.proofs.lemmas.Result.{MatchResult-weaker}
use Rattle.c_conditions.specs.World.{seen}
use Rattle.c_conditions.proofs.MeetsProgram.{checked}
use Rattle.c_conditions.proofs.program.check.Goals as goal

pub returns-clause-ok : goal.returns-clause-ok
returns-clause-ok c =
    MatchResult-weaker c.program.result (checked c.args.program.now (seen c.new-checker.result) (seen c.program.new.self) c.program.result c.new-checker.ensures c.program.ensures) (λ done h. h) (λ fault h. tt)

pub returns-clause-fault : goal.returns-clause-fault
returns-clause-fault c =
    MatchResult-weaker c.program.result (checked c.args.program.now (seen c.new-checker.result) (seen c.program.new.self) c.program.result c.new-checker.ensures c.program.ensures) (λ done h. tt) (λ fault h. h)
