use Rattle.std.proofs.Common.{sym, ap, ◌∙◌, arith}
use Rattle.pascal_tree.specs.declared.statements.Stmt.{Stmt}
use Rattle.expr_parser.specs.Tokens.{seen}
use Rattle.stmt_parser.specs.Levels.{stmt}
use Rattle.expr_parser.proofs.Turns.{seen_rest, seen_length}
use Rattle.expr_parser.proofs.Answered.{refused_answers}
use Rattle.token_parsing.specs.Parser.{Fails}
use Rattle.std.proofs.Common.{subst}
use Rattle.stmt_parser.proofs.parsing.read_at.Goals as goal

pub returns-in-Ok : goal.returns-in-Ok
returns-in-Ok c =
    let bytes = c.args.source.now.bytes.now in
    let long = seen_length bytes c.args.all.now in
    let left = seen_length bytes c.in-Ok.rest.now in
    (seen bytes c.in-Ok.rest.now, ap (stmt c.args.source.now.dialect c.args.source.now.end c.args.levels) (sym (seen_rest bytes c.args.at c.args.all.now)) ∙ c.in-Ok.ensures, omega (arith, long, left))

pub returns-in-Err : goal.returns-in-Err
returns-in-Err c =
    let bytes = c.args.source.now.bytes.now in
    let given = seen_rest bytes c.args.at c.args.all.now in
    refused_answers Stmt c.args.source.now.end (seen bytes c.args.all.now) _ c.in-Err.error c.fault_of.result
    (subst (λ s. Fails c.in-Err.error (stmt c.args.source.now.dialect c.args.source.now.end c.args.levels s)) given c.in-Err.ensures) c.fault_of.ensures
