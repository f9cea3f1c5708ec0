use Rattle.expr_parser.proofs.Answered.{given_is_read}
use Rattle.type_parser.specs.Writing.{write_formals}
use Rattle.type_parser.specs.Grammar.{formed_formals}
use Rattle.type_parser.specs.Levels.{formals}
use Rattle.type_parser.proofs.Clauses.{formals_are_sound, formals_follow}
use Rattle.type_parser.proofs.parsing.formals_at.Goals as goal

pub returns : goal.returns
returns c =
    let d = c.args.dialect in
    given_is_read d write_formals formed_formals formals (formals_are_sound d) formals_follow c.args.bytes.now c.args.tokens.now c.args.at c.args.level c.read_formals.result c.end_of.result c.file.result c.as_slice.result.now
    c.end_of.ensures c.file.ensures c.as_slice.ensures c.requires.lexes c.requires.within c.requires.level c.read_formals.ensures
