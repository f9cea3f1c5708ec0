use Rattle.std.proofs.Common.{subst}
use Rattle.c_grammar.specs.Demands.{program_demands}
use Rattle.c_conditions.specs.Conditions.{IsFailure}
use Rattle.c_reader.proofs.Texts.{failing_below, failing_faults}
use Rattle.c_reader.proofs.reading.unmet.Goals as goal

pub fault_at_token-requires-clause-within : goal.fault_at_token-requires-clause-within
fault_at_token-requires-clause-within c =
    let tree = c.args.program.now in
    failing_below c.args.bytes.now c.args.text.now c.requires.cut tree c.requires.parsed c.in-At.kind c.in-At.token (subst (IsFailure (program_demands tree)) c.in-At.is c.requires.failure)

pub returns-in-At : goal.returns-in-At
returns-in-At c =
    let tree = c.args.program.now in
    failing_faults c.args.bytes.now c.args.text.now c.requires.cut tree c.requires.parsed c.in-At.kind c.in-At.token (subst (IsFailure (program_demands tree)) c.in-At.is c.requires.failure)
    c.fault_at_token.result c.fault_at_token.ensures
