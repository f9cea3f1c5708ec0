-- What the grammar asks of a tree beyond its form: names are identifiers, numbers are in range, and a struct has a member.
use Rattle.std.specs.Prelude.{◌≡◌, ◌≢◌, ℕ, ◌^◌, ◌<◌, List, [], Some}
use Rattle.std.specs.List.{AllByRecursion}
use Rattle.std.specs.Option.{IfSome}
use Rattle.c_tree.specs.Tree.{ObjectType, Int, Word, Byte, Struct, Named, VoidPointer, Pointer, Expr, Read, Number, WordNumber, Null, Address, Unary, Binary, Cast, Place, Variable, Pointee, Member, Index, Statement, Assign, Call, Malloc, Free, GetChar, PutChar, If, IfElse, While, Goto, Label, Return, Body, Empty, Then, body_of}
use Rattle.c_tree.specs.declared.operators.CCast.{CCast}
use Rattle.c_tree.specs.declared.operators.CCast.TheVariants as cast
use Rattle.c_tree.specs.declared.statement.CCallee.{CCallee}
use Rattle.c_tree.specs.declared.statement.CCallee.TheVariants.{Direct, Indirect}
use Rattle.c_tree.specs.declared.program.CVariable.{CVariable}
use Rattle.c_tree.specs.declared.program.CMember.{CMember}
use Rattle.c_tree.specs.declared.program.CStruct.{CStruct}
use Rattle.c_tree.specs.declared.program.CTypedef.{CTypedef}
use Rattle.c_tree.specs.declared.program.CDeclaration.{CDeclaration}
use Rattle.c_tree.specs.declared.program.CDeclaration.TheVariants as declared
use Rattle.c_tree.specs.declared.program.CPrototype.{CPrototype}
use Rattle.c_tree.specs.declared.program.CFunction.{CFunction}
use Rattle.c_tree.specs.declared.program.CMain.{CMain}
use Rattle.c_tree.specs.declared.program.CProgram.{CProgram}
use Rattle.c_grammar.specs.Token.{form, Identifier}

-- a letter, then letters, digits and `_`, and no quoted word
abbrev pub IsName : List ℕ → Type 0
IsName name = form name ≡ Some (Identifier name)

-- at most 9223372036854775807
abbrev pub IsNumber : ℕ → Type 0
IsNumber n = n < 2 ^ 63

-- at most 18446744073709551615
abbrev pub IsWordNumber : ℕ → Type 0
IsWordNumber n = n < 2 ^ 64

abbrev pub IsObjectType : ObjectType → Type 0
IsObjectType (Struct n) = IsName n
IsObjectType (Named n) = IsName n
IsObjectType (Pointer of) = IsObjectType of
IsObjectType Int = Unit {0}
IsObjectType Word = Unit {0}
IsObjectType Byte = Unit {0}
IsObjectType VoidPointer = Unit {0}

abbrev pub IsCast : CCast → Type 0
IsCast cast.Int = Unit {0}
IsCast cast.Word = Unit {0}
IsCast cast.VoidPointer = Unit {0}
IsCast (cast.StructPointer n) = IsName n

abbrev mutual
  pub IsExpr : Expr → Type 0
  IsExpr (Read p) = IsPlace p
  IsExpr (Number n) = IsNumber n
  IsExpr (WordNumber n) = IsWordNumber n
  IsExpr Null = Unit {0}
  IsExpr (Address p) = IsPlace p
  IsExpr (Unary op a) = IsExpr a
  IsExpr (Binary op a b) = IsExpr a × IsExpr b
  IsExpr (Cast to a) = IsCast to × IsExpr a

  pub IsPlace : Place → Type 0
  IsPlace (Variable n) = IsName n
  IsPlace (Pointee a) = IsExpr a
  IsPlace (Member p n) = IsPlace p × IsName n
  IsPlace (Index p a) = IsPlace p × IsExpr a

abbrev pub IsCallee : CCallee → Type 0
IsCallee (Direct n) = IsName n
IsCallee (Indirect a) = IsExpr a

abbrev mutual
  pub IsStatement : Statement → Type 0
  IsStatement (Assign p a) = IsPlace p × IsExpr a
  IsStatement (Call into callee all) = IfSome into IsPlace × IsCallee callee × AllByRecursion IsExpr all
  IsStatement (Malloc p of) = IsPlace p × IsObjectType of
  IsStatement (Free a) = IsExpr a
  IsStatement (GetChar p) = IsPlace p
  IsStatement (PutChar a) = IsExpr a
  IsStatement (If test a) = IsExpr test × IsBody a
  IsStatement (IfElse test a b) = IsExpr test × IsBody a × IsBody b
  IsStatement (While test a) = IsExpr test × IsBody a
  IsStatement (Goto l) = IsName l
  IsStatement (Label l) = IsName l
  IsStatement (Return a) = IfSome a IsExpr

  pub IsBody : Body → Type 0
  IsBody Empty = Unit {0}
  IsBody (Then s more) = IsStatement s × IsBody more

abbrev pub IsVariable : CVariable → Type 0
IsVariable v = IsName v.name × IsObjectType v.of

abbrev pub IsMember : CMember → Type 0
IsMember m = IsName m.name × IsObjectType m.of × IfSome m.length IsNumber

abbrev pub IsStruct : CStruct → Type 0
IsStruct s = IsName s.name × AllByRecursion IsMember s.members × (s.members ≢ [])

abbrev pub IsTypedef : CTypedef → Type 0
IsTypedef t = IsName t.name × IfSome t.result IsObjectType × AllByRecursion IsObjectType t.parameters

abbrev pub IsDeclaration : CDeclaration → Type 0
IsDeclaration (declared.Typedef t) = IsTypedef t
IsDeclaration (declared.Struct s) = IsStruct s

abbrev pub IsPrototype : CPrototype → Type 0
IsPrototype p = IsName p.name × IfSome p.result IsObjectType × AllByRecursion IsVariable p.parameters

abbrev pub IsFunction : CFunction → Type 0
IsFunction f = IsName f.name × IfSome f.result IsObjectType × AllByRecursion IsVariable f.parameters × AllByRecursion IsVariable f.locals × IsBody (body_of f.body)

abbrev pub IsMain : CMain → Type 0
IsMain m = AllByRecursion IsVariable m.locals × IsBody (body_of m.body)

-- a tree of the grammar: its tokens are a text, whatever its depth and whatever its names mean
abbrev pub IsProgram : CProgram → Type 0
IsProgram c = AllByRecursion IsName c.forwards × AllByRecursion IsDeclaration c.declarations × AllByRecursion IsVariable c.globals
    × AllByRecursion IsPrototype c.prototypes × AllByRecursion IsFunction c.functions × IsMain c.main
