-- The bytes of each tree: the layout that the printer gives.
use Rattle.std.specs.Prelude.{ℕ, zero, suc, ◌+◌, List, [], ◌∷◌, ◌++◌, Option, Some, None, codes, decimal}
use Rattle.c_tree.specs.Tree.{ObjectType, Int, Word, Byte, Struct, Named, VoidPointer, Pointer, Expr, Read, Number, WordNumber, Null, Address, Unary, Binary, Cast, Place, Variable, Pointee, Member, Index, Statement, Assign, Call, Malloc, Free, GetChar, PutChar, If, IfElse, While, Goto, Label, Return, Body, Empty, Then, body_of}
use Rattle.c_tree.specs.declared.operators.CUnary.{CUnary}
use Rattle.c_tree.specs.declared.operators.CUnary.TheVariants.{Minus, Not, Complement}
use Rattle.c_tree.specs.declared.operators.CBinary.{CBinary}
use Rattle.c_tree.specs.declared.operators.CBinary.TheVariants.{Add, Subtract, Multiply, Divide, Remainder, Equal, NotEqual, Less, AtMost, Greater, AtLeast, And, Or, BitAnd, BitOr, BitXor, ShiftLeft, ShiftRight}
use Rattle.c_tree.specs.declared.operators.CCast.{CCast}
use Rattle.c_tree.specs.declared.operators.CCast.TheVariants as cast
use Rattle.c_tree.specs.declared.statement.CCallee.{CCallee}
use Rattle.c_tree.specs.declared.statement.CCallee.TheVariants.{Direct, Indirect}
use Rattle.c_tree.specs.declared.program.CVariable.{CVariable}
use Rattle.c_tree.specs.declared.program.CMember.{CMember}
use Rattle.c_tree.specs.declared.program.CStruct.{CStruct}
use Rattle.c_tree.specs.declared.program.CTypedef.{CTypedef}
use Rattle.c_tree.specs.declared.program.CDeclaration.{CDeclaration}
use Rattle.c_tree.specs.declared.program.CDeclaration.TheVariants as declared
use Rattle.c_tree.specs.declared.program.CPrototype.{CPrototype}
use Rattle.c_tree.specs.declared.program.CFunction.{CFunction}
use Rattle.c_tree.specs.declared.program.CMain.{CMain}
use Rattle.c_tree.specs.declared.program.CProgram.{CProgram}

abbrev pub unary_text : CUnary → List ℕ
unary_text Minus = codes "-"
unary_text Not = codes "!"
unary_text Complement = codes "~"

abbrev pub binary_text : CBinary → List ℕ
binary_text Add = codes " + "
binary_text Subtract = codes " - "
binary_text Multiply = codes " * "
binary_text Divide = codes " / "
binary_text Remainder = codes " % "
binary_text Equal = codes " == "
binary_text NotEqual = codes " != "
binary_text Less = codes " < "
binary_text AtMost = codes " <= "
binary_text Greater = codes " > "
binary_text AtLeast = codes " >= "
binary_text And = codes " && "
binary_text Or = codes " || "
binary_text BitAnd = codes " & "
binary_text BitOr = codes " | "
binary_text BitXor = codes " ^ "
binary_text ShiftLeft = codes " << "
binary_text ShiftRight = codes " >> "

abbrev pub cast_text : CCast → List ℕ
cast_text cast.Int = codes "int64_t"
cast_text cast.Word = codes "uint64_t"
cast_text cast.VoidPointer = codes "void *"
cast_text (cast.StructPointer n) = codes "struct " ++ n ++ codes " *"

abbrev mutual
  pub expr_text : Expr → List ℕ
  expr_text (Read p) = place_text p
  expr_text (Number n) = codes "INT64_C(" ++ decimal n ++ codes ")"
  expr_text (WordNumber n) = codes "UINT64_C(" ++ decimal n ++ codes ")"
  expr_text Null = codes "NULL"
  expr_text (Address p) = codes "(&" ++ place_text p ++ codes ")"
  expr_text (Unary op a) = codes "(" ++ unary_text op ++ expr_text a ++ codes ")"
  expr_text (Binary op a b) = codes "(" ++ expr_text a ++ binary_text op ++ expr_text b ++ codes ")"
  expr_text (Cast to a) = codes "((" ++ cast_text to ++ codes ") " ++ expr_text a ++ codes ")"

  pub place_text : Place → List ℕ
  place_text (Variable n) = n
  place_text (Pointee a) = codes "(*" ++ expr_text a ++ codes ")"
  place_text (Member p n) = place_text p ++ codes "." ++ n
  place_text (Index p a) = place_text p ++ codes "[" ++ expr_text a ++ codes "]"

-- ---- types

-- the star of a pointer to this type
abbrev pub star_text : ObjectType → List ℕ
star_text VoidPointer = codes "*"
star_text (Pointer to) = codes "*"
star_text _ = codes " *"

abbrev pub type_text : ObjectType → List ℕ
type_text Int = codes "int64_t"
type_text Word = codes "uint64_t"
type_text Byte = codes "unsigned char"
type_text (Struct n) = codes "struct " ++ n
type_text (Named n) = n
type_text VoidPointer = codes "void *"
type_text (Pointer to) = type_text to ++ star_text to

-- what stands between this type and the name that it gives
abbrev pub gap_text : ObjectType → List ℕ
gap_text VoidPointer = []
gap_text (Pointer to) = []
gap_text _ = codes " "

-- a result's type before the function's name
abbrev pub result_text : Option ObjectType → List ℕ
result_text None = codes "void "
result_text (Some of) = type_text of ++ gap_text of

-- ---- statements

-- two spaces a level
abbrev pub margin : ℕ → List ℕ
margin zero = []
margin (suc level) = margin level ++ codes "  "

abbrev pub line : ℕ → List ℕ → List ℕ
line level text = margin level ++ text ++ codes "\n"

abbrev pub more_exprs_text : List Expr → List ℕ
more_exprs_text [] = []
more_exprs_text (a ∷ rest) = codes ", " ++ expr_text a ++ more_exprs_text rest

abbrev pub exprs_text : List Expr → List ℕ
exprs_text [] = []
exprs_text (a ∷ rest) = expr_text a ++ more_exprs_text rest

abbrev pub into_text : Option Place → List ℕ
into_text None = []
into_text (Some p) = place_text p ++ codes " = "

abbrev pub callee_text : CCallee → List ℕ
callee_text (Direct n) = n
callee_text (Indirect a) = codes "(*" ++ expr_text a ++ codes ")"

abbrev pub return_text : Option Expr → List ℕ
return_text None = codes "return;"
return_text (Some a) = codes "return " ++ expr_text a ++ codes ";"

abbrev mutual
  pub statement_text : ℕ → Statement → List ℕ
  statement_text k (Assign p a) = line k (place_text p ++ codes " = " ++ expr_text a ++ codes ";")
  statement_text k (Call into who args) = line k (into_text into ++ callee_text who ++ codes "(" ++ exprs_text args ++ codes ");")
  statement_text k (Malloc p of) = line k (place_text p ++ codes " = malloc(sizeof(" ++ type_text of ++ codes "));")
  statement_text k (Free a) = line k (codes "free(" ++ expr_text a ++ codes ");")
  statement_text k (GetChar p) = line k (place_text p ++ codes " = getchar();")
  statement_text k (PutChar a) = line k (codes "putchar(" ++ expr_text a ++ codes ");")
  statement_text k (If test a) = line k (codes "if (" ++ expr_text test ++ codes ") {") ++ body_text (k + 1) a ++ line k (codes "}")
  statement_text k (IfElse test a b) = line k (codes "if (" ++ expr_text test ++ codes ") {") ++ body_text (k + 1) a ++ line k (codes "}")
      ++ line k (codes "else {") ++ body_text (k + 1) b ++ line k (codes "}")
  statement_text k (While test a) = line k (codes "while (" ++ expr_text test ++ codes ") {") ++ body_text (k + 1) a ++ line k (codes "}")
  statement_text k (Goto l) = line k (codes "goto " ++ l ++ codes ";")
  statement_text k (Label l) = line k (l ++ codes ": ;")
  statement_text k (Return a) = line k (return_text a)

  pub body_text : ℕ → Body → List ℕ
  body_text k Empty = []
  body_text k (Then s rest) = statement_text k s ++ body_text k rest

-- ---- declarations

-- the texts of the items, one after another
abbrev pub all_text : {A : Type 0} → (A → List ℕ) → List A → List ℕ
all_text text [] = []
all_text text (a ∷ rest) = text a ++ all_text text rest

-- the texts of the items after the first, with a comma before each
abbrev pub more_text : {A : Type 0} → (A → List ℕ) → List A → List ℕ
more_text text = all_text (λ a. codes ", " ++ text a)

-- the items between commas, and `void` for none
abbrev pub list_text : {A : Type 0} → (A → List ℕ) → List A → List ℕ
list_text text [] = codes "void"
list_text text (a ∷ rest) = text a ++ more_text text rest

abbrev pub variable_text : CVariable → List ℕ
variable_text v = type_text v.of ++ gap_text v.of ++ v.name

abbrev pub variable_line : ℕ → CVariable → List ℕ
variable_line k v = line k (variable_text v ++ codes ";")

abbrev pub length_text : Option ℕ → List ℕ
length_text None = []
length_text (Some n) = codes "[" ++ decimal n ++ codes "]"

abbrev pub member_line : CMember → List ℕ
member_line m = line 1 (type_text m.of ++ gap_text m.of ++ m.name ++ length_text m.length ++ codes ";")

abbrev pub forward_line : List ℕ → List ℕ
forward_line name = line 0 (codes "struct " ++ name ++ codes ";")

abbrev pub struct_text : CStruct → List ℕ
struct_text s = line 0 (codes "struct " ++ s.name ++ codes " {") ++ all_text member_line s.members ++ line 0 (codes "};")

abbrev pub typedef_line : CTypedef → List ℕ
typedef_line t = line 0 (codes "typedef " ++ result_text t.result ++ codes "(*" ++ t.name ++ codes ")(" ++ list_text type_text t.parameters ++ codes ");")

abbrev pub declaration_text : CDeclaration → List ℕ
declaration_text (declared.Typedef t) = typedef_line t
declaration_text (declared.Struct s) = struct_text s

abbrev pub head_text : Option ObjectType → List ℕ → List CVariable → List ℕ
head_text returned name parameters = result_text returned ++ name ++ codes "(" ++ list_text variable_text parameters ++ codes ")"

abbrev pub prototype_line : CPrototype → List ℕ
prototype_line p = line 0 (head_text p.result p.name p.parameters ++ codes ";")

-- the locals and statements of a function, and its closing brace
abbrev pub block_text : List CVariable → List Statement → List ℕ
block_text locals body = all_text (variable_line 1) locals ++ body_text 1 (body_of body) ++ line 0 (codes "}")

abbrev pub function_text : CFunction → List ℕ
function_text f = line 0 (head_text f.result f.name f.parameters ++ codes " {") ++ block_text f.locals f.body

abbrev pub main_text : CMain → List ℕ
main_text m = line 0 (codes "int main(void) {") ++ block_text m.locals m.body

-- the four lines with which each text begins
abbrev pub head_lines : List ℕ
head_lines = line 0 (codes "/* p2c 1 */") ++ line 0 (codes "#include <stdint.h>") ++ line 0 (codes "#include <stdio.h>") ++ line 0 (codes "#include <stdlib.h>")

abbrev pub program_text : CProgram → List ℕ
program_text c = head_lines ++ all_text forward_line c.forwards ++ all_text declaration_text c.declarations ++ all_text (variable_line 0) c.globals
    ++ all_text prototype_line c.prototypes ++ all_text function_text c.functions ++ main_text c.main
