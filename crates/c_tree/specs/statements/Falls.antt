-- Each part of a statement is smaller than the statement.
use Rattle.std.specs.Prelude.{◌+◌, ◌≤◌, max, List, [], ◌∷◌}
use Rattle.std.proofs.Common.{arith}
use denote.Param.Weighed.{most}
use Rattle.c_tree.specs.statements.Tree.{Statement, body_of, statement_size, body_size}
use Rattle.c_tree.specs.statements.View.{statement_of}
use Rattle.c_tree.specs.declared.statement.CStatementNode.{CStatementNode}
use Rattle.c_tree.specs.declared.statement.CStatementNode.TheVariants as node
use Rattle.c_tree.specs.declared.statement.CStatement.TheDeep.{deep-CStatementNode}

-- no statement is larger than all of them together
pub most_le-body_size : (all : List Statement) → most (λ s. statement_size s + 1) all ≤ body_size (body_of all)
most_le-body_size [] = omega arith
most_le-body_size (s ∷ rest) = omega (arith, most_le-body_size rest)

pub statement_falls : (n : CStatementNode) → max (deep-CStatementNode n) 0 ≤ statement_size (statement_of n)
statement_falls (node.If test a) = omega (arith, most_le-body_size a)
statement_falls (node.IfElse test a b) = omega (arith, most_le-body_size a, most_le-body_size b)
statement_falls (node.While test a) = omega (arith, most_le-body_size a)
statement_falls _ = omega arith
