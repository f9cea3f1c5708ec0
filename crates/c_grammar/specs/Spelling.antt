-- The grammar: the tokens that each tree spells, with a line for each alternative. A tree spells one list of tokens.
use Rattle.std.specs.Prelude.{ℕ, List, [], ◌∷◌, Option, Some, None, length}
use Rattle.c_tree.specs.Tree.{ObjectType, Int, Word, Byte, Struct, Named, VoidPointer, Pointer, Expr, Read, Number, WordNumber, Null, Address, Unary, Binary, Cast, Place, Variable, Pointee, Member, Index, Statement, Assign, Call, Malloc, Free, GetChar, PutChar, If, IfElse, While, Goto, Label, Return, Body, Empty, Then, body_of}
use Rattle.c_tree.specs.declared.operators.CUnary.{CUnary}
use Rattle.c_tree.specs.declared.operators.CUnary.TheVariants.{Minus, Not, Complement}
use Rattle.c_tree.specs.declared.operators.CBinary.{CBinary}
use Rattle.c_tree.specs.declared.operators.CBinary.TheVariants.{Add, Subtract, Multiply, Divide, Remainder, Equal, NotEqual, Less, AtMost, Greater, AtLeast, And, Or, BitAnd, BitOr, BitXor, ShiftLeft, ShiftRight}
use Rattle.c_tree.specs.declared.operators.CCast.{CCast}
use Rattle.c_tree.specs.declared.operators.CCast.TheVariants as cast
use Rattle.c_tree.specs.declared.statement.CCallee.{CCallee}
use Rattle.c_tree.specs.declared.statement.CCallee.TheVariants.{Direct, Indirect}
use Rattle.c_tree.specs.declared.program.CVariable.{CVariable}
use Rattle.c_tree.specs.declared.program.CMember.{CMember}
use Rattle.c_tree.specs.declared.program.CStruct.{CStruct}
use Rattle.c_tree.specs.declared.program.CTypedef.{CTypedef}
use Rattle.c_tree.specs.declared.program.CDeclaration.{CDeclaration}
use Rattle.c_tree.specs.declared.program.CDeclaration.TheVariants as declared
use Rattle.c_tree.specs.declared.program.CPrototype.{CPrototype}
use Rattle.c_tree.specs.declared.program.CFunction.{CFunction}
use Rattle.c_tree.specs.declared.program.CMain.{CMain}
use Rattle.c_tree.specs.declared.program.CProgram.{CProgram}
use Rattle.c_grammar.specs.declared.token.Word.TheVariants as word
use Rattle.c_grammar.specs.declared.token.Mark.{Mark}
use Rattle.c_grammar.specs.declared.token.Mark.TheVariants as mark
use Rattle.c_grammar.specs.Token.{Token, Identifier, Numeral, Quoted, Sign}

-- the tokens of a tree, and then the others
abbrev pub Spelling : Type 0 → Type 0
Spelling A = A → List Token → List Token

-- how many tokens it spells
abbrev pub count : {A : Type 0} → Spelling A → A → ℕ
count spell a = length (spell a [])

-- ---- lists

-- {A}
abbrev pub spell_all : {A : Type 0} → Spelling A → Spelling (List A)
spell_all spell [] rest = rest
spell_all spell (a ∷ more) rest = spell a (spell_all spell more rest)

-- "," A
abbrev pub spell_next : {A : Type 0} → Spelling A → Spelling A
spell_next spell a rest = Sign mark.Comma ∷ spell a rest

-- [A {"," A}]
abbrev pub spell_listed : {A : Type 0} → Spelling A → Spelling (List A)
spell_listed spell [] rest = rest
spell_listed spell (a ∷ more) rest = spell a (spell_all (spell_next spell) more rest)

-- "void" | A {"," A}
abbrev pub spell_or_void : {A : Type 0} → Spelling A → Spelling (List A)
spell_or_void spell [] rest = Quoted word.Void ∷ rest
spell_or_void spell (a ∷ more) rest = spell_listed spell (a ∷ more) rest

-- ---- types

-- Type = ("int64_t" | "uint64_t" | "unsigned" "char" | "struct" Id | Id) {"*"} | "void" "*" {"*"}
abbrev pub spell_type : Spelling ObjectType
spell_type Int rest = Quoted word.Int64Type ∷ rest
spell_type Word rest = Quoted word.Uint64Type ∷ rest
spell_type Byte rest = Quoted word.Unsigned ∷ Quoted word.Char ∷ rest
spell_type (Struct n) rest = Quoted word.Struct ∷ Identifier n ∷ rest
spell_type (Named n) rest = Identifier n ∷ rest
spell_type VoidPointer rest = Quoted word.Void ∷ Sign mark.Star ∷ rest
spell_type (Pointer of) rest = spell_type of (Sign mark.Star ∷ rest)

-- Ret = "void" | Type
abbrev pub spell_result : Spelling (Option ObjectType)
spell_result None rest = Quoted word.Void ∷ rest
spell_result (Some of) rest = spell_type of rest

-- Cast = "int64_t" | "uint64_t" | "void" "*" | "struct" Id "*"
abbrev pub spell_cast : Spelling CCast
spell_cast cast.Int rest = Quoted word.Int64Type ∷ rest
spell_cast cast.Word rest = Quoted word.Uint64Type ∷ rest
spell_cast cast.VoidPointer rest = Quoted word.Void ∷ Sign mark.Star ∷ rest
spell_cast (cast.StructPointer n) rest = Quoted word.Struct ∷ Identifier n ∷ Sign mark.Star ∷ rest

-- ---- expressions

abbrev pub unary_mark : CUnary → Mark
unary_mark Minus = mark.Minus
unary_mark Not = mark.Exclamation
unary_mark Complement = mark.Tilde

abbrev pub binary_mark : CBinary → Mark
binary_mark Add = mark.Plus
binary_mark Subtract = mark.Minus
binary_mark Multiply = mark.Star
binary_mark Divide = mark.Slash
binary_mark Remainder = mark.Percent
binary_mark Equal = mark.Equal
binary_mark NotEqual = mark.NotEqual
binary_mark Less = mark.Less
binary_mark AtMost = mark.AtMost
binary_mark Greater = mark.Greater
binary_mark AtLeast = mark.AtLeast
binary_mark And = mark.AndAnd
binary_mark Or = mark.OrOr
binary_mark BitAnd = mark.Ampersand
binary_mark BitOr = mark.Bar
binary_mark BitXor = mark.Caret
binary_mark ShiftLeft = mark.ShiftLeft
binary_mark ShiftRight = mark.ShiftRight

abbrev mutual
  -- Expr = Place | "INT64_C" "(" Num ")" | "UINT64_C" "(" Num ")" | "NULL" | "(" "&" Place ")" | "(" ("-" | "!" | "~") Expr ")" | "(" Expr BinOp Expr ")" | "(" "(" Cast ")" Expr ")"
  pub spell_expr : Spelling Expr
  spell_expr (Read p) rest = spell_place p rest
  spell_expr (Number n) rest = Quoted word.Int64 ∷ Sign mark.Open ∷ Numeral n ∷ Sign mark.Close ∷ rest
  spell_expr (WordNumber n) rest = Quoted word.Uint64 ∷ Sign mark.Open ∷ Numeral n ∷ Sign mark.Close ∷ rest
  spell_expr Null rest = Quoted word.Null ∷ rest
  spell_expr (Address p) rest = Sign mark.Open ∷ Sign mark.Ampersand ∷ spell_place p (Sign mark.Close ∷ rest)
  spell_expr (Unary op a) rest = Sign mark.Open ∷ Sign (unary_mark op) ∷ spell_expr a (Sign mark.Close ∷ rest)
  spell_expr (Binary op a b) rest = Sign mark.Open ∷ spell_expr a (Sign (binary_mark op) ∷ spell_expr b (Sign mark.Close ∷ rest))
  spell_expr (Cast to a) rest = Sign mark.Open ∷ Sign mark.Open ∷ spell_cast to (Sign mark.Close ∷ spell_expr a (Sign mark.Close ∷ rest))

  -- Place = (Id | "(" "*" Expr ")") {"." Id | "[" Expr "]"}
  pub spell_place : Spelling Place
  spell_place (Variable n) rest = Identifier n ∷ rest
  spell_place (Pointee a) rest = Sign mark.Open ∷ Sign mark.Star ∷ spell_expr a (Sign mark.Close ∷ rest)
  spell_place (Member p n) rest = spell_place p (Sign mark.Dot ∷ Identifier n ∷ rest)
  spell_place (Index p a) rest = spell_place p (Sign mark.OpenBracket ∷ spell_expr a (Sign mark.CloseBracket ∷ rest))

-- ---- statements

-- [Place "="]
abbrev pub spell_into : Spelling (Option Place)
spell_into None rest = rest
spell_into (Some p) rest = spell_place p (Sign mark.Assign ∷ rest)

-- Callee = Id | "(" "*" Expr ")"
abbrev pub spell_callee : Spelling CCallee
spell_callee (Direct n) rest = Identifier n ∷ rest
spell_callee (Indirect a) rest = Sign mark.Open ∷ Sign mark.Star ∷ spell_expr a (Sign mark.Close ∷ rest)

-- [Expr]
abbrev pub spell_value : Spelling (Option Expr)
spell_value None rest = rest
spell_value (Some a) rest = spell_expr a rest

abbrev mutual
  -- Stmt, with the alternatives in the order of the tree
  pub spell_statement : Spelling Statement
  spell_statement (Assign p a) rest = spell_place p (Sign mark.Assign ∷ spell_expr a (Sign mark.Semicolon ∷ rest))
  spell_statement (Call into callee all) rest = spell_into into (spell_callee callee (Sign mark.Open ∷ spell_listed spell_expr all (Sign mark.Close ∷ Sign mark.Semicolon ∷ rest)))
  spell_statement (Malloc p of) rest = spell_place p (Sign mark.Assign ∷ Quoted word.Malloc ∷ Sign mark.Open ∷ Quoted word.SizeOf ∷ Sign mark.Open
      ∷ spell_type of (Sign mark.Close ∷ Sign mark.Close ∷ Sign mark.Semicolon ∷ rest))
  spell_statement (Free a) rest = Quoted word.Free ∷ Sign mark.Open ∷ spell_expr a (Sign mark.Close ∷ Sign mark.Semicolon ∷ rest)
  spell_statement (GetChar p) rest = spell_place p (Sign mark.Assign ∷ Quoted word.GetChar ∷ Sign mark.Open ∷ Sign mark.Close ∷ Sign mark.Semicolon ∷ rest)
  spell_statement (PutChar a) rest = Quoted word.PutChar ∷ Sign mark.Open ∷ spell_expr a (Sign mark.Close ∷ Sign mark.Semicolon ∷ rest)
  spell_statement (If test a) rest = Quoted word.If ∷ Sign mark.Open ∷ spell_expr test (Sign mark.Close ∷ Sign mark.OpenBrace ∷ spell_body a (Sign mark.CloseBrace ∷ rest))
  spell_statement (IfElse test a b) rest = Quoted word.If ∷ Sign mark.Open ∷ spell_expr test (Sign mark.Close ∷ Sign mark.OpenBrace ∷ spell_body a (Sign mark.CloseBrace
      ∷ Quoted word.Else ∷ Sign mark.OpenBrace ∷ spell_body b (Sign mark.CloseBrace ∷ rest)))
  spell_statement (While test a) rest = Quoted word.While ∷ Sign mark.Open ∷ spell_expr test (Sign mark.Close ∷ Sign mark.OpenBrace ∷ spell_body a (Sign mark.CloseBrace ∷ rest))
  spell_statement (Goto l) rest = Quoted word.Goto ∷ Identifier l ∷ Sign mark.Semicolon ∷ rest
  spell_statement (Label l) rest = Identifier l ∷ Sign mark.Colon ∷ Sign mark.Semicolon ∷ rest
  spell_statement (Return a) rest = Quoted word.Return ∷ spell_value a (Sign mark.Semicolon ∷ rest)

  -- {Stmt}
  pub spell_body : Spelling Body
  spell_body Empty rest = rest
  spell_body (Then s more) rest = spell_statement s (spell_body more rest)

-- ---- declarations

-- Type Id
abbrev pub spell_variable : Spelling CVariable
spell_variable v rest = spell_type v.of (Identifier v.name ∷ rest)

-- Type Id ";"
abbrev pub spell_variable_line : Spelling CVariable
spell_variable_line v rest = spell_variable v (Sign mark.Semicolon ∷ rest)

-- ["[" Num "]"]
abbrev pub spell_length : Spelling (Option ℕ)
spell_length None rest = rest
spell_length (Some n) rest = Sign mark.OpenBracket ∷ Numeral n ∷ Sign mark.CloseBracket ∷ rest

-- Member = Type Id ["[" Num "]"] ";"
abbrev pub spell_member : Spelling CMember
spell_member m rest = spell_type m.of (Identifier m.name ∷ spell_length m.length (Sign mark.Semicolon ∷ rest))

-- "struct" Id ";"
abbrev pub spell_forward : Spelling (List ℕ)
spell_forward name rest = Quoted word.Struct ∷ Identifier name ∷ Sign mark.Semicolon ∷ rest

-- Struct = "struct" Id "{" Member {Member} "}" ";"
abbrev pub spell_struct : Spelling CStruct
spell_struct s rest = Quoted word.Struct ∷ Identifier s.name ∷ Sign mark.OpenBrace ∷ spell_all spell_member s.members (Sign mark.CloseBrace ∷ Sign mark.Semicolon ∷ rest)

-- Typedef = "typedef" Ret "(" "*" Id ")" "(" Types ")" ";"
abbrev pub spell_typedef : Spelling CTypedef
spell_typedef t rest = Quoted word.Typedef ∷ spell_result t.result (Sign mark.Open ∷ Sign mark.Star ∷ Identifier t.name ∷ Sign mark.Close
    ∷ Sign mark.Open ∷ spell_or_void spell_type t.parameters (Sign mark.Close ∷ Sign mark.Semicolon ∷ rest))

abbrev pub spell_declaration : Spelling CDeclaration
spell_declaration (declared.Typedef t) rest = spell_typedef t rest
spell_declaration (declared.Struct s) rest = spell_struct s rest

-- "(" Params ")"
abbrev pub spell_parameters : Spelling (List CVariable)
spell_parameters all rest = Sign mark.Open ∷ spell_or_void spell_variable all (Sign mark.Close ∷ rest)

-- Proto = Ret Id "(" Params ")" ";"
abbrev pub spell_prototype : Spelling CPrototype
spell_prototype p rest = spell_result p.result (Identifier p.name ∷ spell_parameters p.parameters (Sign mark.Semicolon ∷ rest))

-- "{" {Type Id ";"} {Stmt} "}"
abbrev pub spell_block : List CVariable → Spelling (List Statement)
spell_block locals body rest = Sign mark.OpenBrace ∷ spell_all spell_variable_line locals (spell_body (body_of body) (Sign mark.CloseBrace ∷ rest))

-- Func = Ret Id "(" Params ")" "{" {Type Id ";"} {Stmt} "}"
abbrev pub spell_function : Spelling CFunction
spell_function f rest = spell_result f.result (Identifier f.name ∷ spell_parameters f.parameters (spell_block f.locals f.body rest))

-- Main = "int" "main" "(" "void" ")" "{" {Type Id ";"} {Stmt} "}"
abbrev pub spell_main : Spelling CMain
spell_main m rest = Quoted word.Int ∷ Quoted word.Main ∷ Sign mark.Open ∷ Quoted word.Void ∷ Sign mark.Close ∷ spell_block m.locals m.body rest

-- {"struct" Id ";"} {Typedef | Struct} {Global} {Proto} {Func} Main
abbrev pub program_tokens : CProgram → List Token
program_tokens c = spell_all spell_forward c.forwards (spell_all spell_declaration c.declarations (spell_all spell_variable_line c.globals
    (spell_all spell_prototype c.prototypes (spell_all spell_function c.functions (spell_main c.main [])))))
