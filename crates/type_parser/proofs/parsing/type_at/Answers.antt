use Rattle.expr_parser.proofs.Answered.{given_is_read}
use Rattle.type_parser.specs.Writing.{write_type}
use Rattle.type_parser.specs.Grammar.{formed_type}
use Rattle.type_parser.specs.Levels.{type_node}
use Rattle.type_parser.proofs.Clauses.{types_sound, types_follow}
use Rattle.type_parser.proofs.parsing.type_at.Goals as goal

pub returns : goal.returns
returns c =
    let d = c.args.dialect in
    given_is_read d write_type (formed_type d) (type_node d) (types_sound d) (types_follow d) c.args.bytes.now c.args.tokens.now c.args.at c.args.level c.read_type.result c.end_of.result c.file.result c.as_slice.result.now
    c.end_of.ensures c.file.ensures c.as_slice.ensures c.requires.lexes c.requires.within c.requires.level c.read_type.ensures
