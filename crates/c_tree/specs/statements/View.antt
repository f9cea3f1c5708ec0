-- What a level of a statement is seen as.
use Rattle.c_tree.specs.statements.Tree as tree
use Rattle.c_tree.specs.statements.Tree.{Statement, body_of}
use Rattle.c_tree.specs.declared.statement.CStatementNode.{CStatementNode}
use Rattle.c_tree.specs.declared.statement.CStatementNode.TheVariants as node

abbrev pub statement_of : CStatementNode → Statement
statement_of (node.Assign place value) = tree.Assign place value
statement_of (node.Call into callee arguments) = tree.Call into callee arguments
statement_of (node.Malloc into of) = tree.Malloc into of
statement_of (node.Free pointer) = tree.Free pointer
statement_of (node.GetChar into) = tree.GetChar into
statement_of (node.PutChar value) = tree.PutChar value
statement_of (node.If test body) = tree.If test (body_of body)
statement_of (node.IfElse test body otherwise) = tree.IfElse test (body_of body) (body_of otherwise)
statement_of (node.While test body) = tree.While test (body_of body)
statement_of (node.Goto label) = tree.Goto label
statement_of (node.Label name) = tree.Label name
statement_of (node.Return value) = tree.Return value
