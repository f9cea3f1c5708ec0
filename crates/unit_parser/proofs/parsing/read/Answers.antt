use Rattle.expr_parser.specs.Tokens.{seen}
use Rattle.unit_parser.proofs.Answered.{refused_answers}
use Rattle.unit_parser.proofs.parsing.read.Goals as goal

pub returns-in-Err : goal.returns-in-Err
returns-in-Err c = refused_answers c.args.source.now.end (seen c.args.source.now.bytes.now c.args.all.now) _ c.in-Err.error c.fault_of.result c.in-Err.ensures c.fault_of.ensures
