use Rattle.expr_parser.proofs.Answered.{given_is_read}
use Rattle.stmt_parser.specs.Writing.{write_stmt}
use Rattle.stmt_parser.specs.Grammar.{stands_alone}
use Rattle.stmt_parser.specs.Levels.{stmt}
use Rattle.stmt_parser.proofs.Clauses.{sound, follows}
use Rattle.stmt_parser.proofs.parsing.statement.Goals as goal

pub returns : goal.returns
returns c =
    let d = c.args.dialect in
    given_is_read d (write_stmt d) (stands_alone d) (stmt d) (sound d) (follows d) c.args.bytes.now c.args.tokens.now c.args.at c.args.level c.read_at.result c.end_of.result c.file.result c.as_slice.result.now
    c.end_of.ensures c.file.ensures c.as_slice.ensures c.requires.lexes c.requires.within c.requires.level c.read_at.ensures
