-- The trees that contracts see, all in one place. The operators are in `declared.operators`.
pub use Rattle.c_tree.specs.types.Tree.{ObjectType, Int, Word, Byte, Struct, Named, VoidPointer, Pointer}
pub use Rattle.c_tree.specs.expressions.Tree.{Expr, Read, Number, WordNumber, Null, Address, Unary, Binary, Cast, Place, Variable, Pointee, Member, Index, expr_size, place_size}
pub use Rattle.c_tree.specs.statements.Tree.{Statement, Assign, Call, Malloc, Free, GetChar, PutChar, If, IfElse, While, Goto, Label, Return, Body, Empty, Then, statement_size, body_size, body_of, list_of, list_of-body_of, body_of-list_of}
