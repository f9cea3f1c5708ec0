use Rattle.unit_parser.proofs.Answered.{given_is_parsed, parsed_is_only}
use Rattle.unit_parser.proofs.parsing.parse.Goals as goal

pub returns-clause-parsed : goal.returns-clause-parsed
returns-clause-parsed c =
    given_is_parsed c.args.dialect c.args.bytes.now c.args.tokens.now c.read.result c.end_of.result c.file.result c.as_slice.result.now c.end_of.ensures c.file.ensures c.as_slice.ensures c.requires.lexed c.read.ensures

pub returns-clause-only : goal.returns-clause-only
returns-clause-only c = parsed_is_only c.args.dialect c.args.bytes.now c.args.tokens.now c.read.result (returns-clause-parsed c)
