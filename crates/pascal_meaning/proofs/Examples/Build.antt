-- Typed programs, written by hand. A name is a number; the types before those of an example have the numbers below.
use Rattle.std.specs.Prelude.{◌≡◌, ℕ, ℤ, pos, negsuc, Bool, List, [], ◌∷◌, ◌++◌, Option, Some, None}
use Rattle.meanings.specs.Code.{Answer}
use Rattle.pascal_meaning.specs.Whole.{run}
use mathlib.Core.Former.{this, arity}
use Rattle.tree_lists.specs.formers.items.Items.{the_former}
use Rattle.p2c_text.specs.declared.dialect.Dialect.{Dialect}
use Rattle.typed_tree.specs.declared.types.Host.TheVariants.{Whole as WholeHost, Char as CharHost, Bool as BoolHost}
use Rattle.typed_tree.specs.declared.types.LabelRange.{LabelRange}
use Rattle.typed_tree.specs.declared.types.PasType.{PasType}
use Rattle.typed_tree.specs.declared.types.PasType.TheVariants.{Ordinal, TextValue, SetOf as SetType}
use Rattle.typed_tree.specs.declared.types.Packing.TheVariants.{Unpacked}
use Rattle.typed_tree.specs.declared.types.FieldDecl.{FieldDecl}
use Rattle.typed_tree.specs.declared.types.VariantArm as v
use Rattle.typed_tree.specs.declared.types.VariantArm.{VariantArm}
use Rattle.typed_tree.specs.declared.types.VariantPart as w
use Rattle.typed_tree.specs.declared.types.VariantPart.{VariantPart, Row_of-VariantArm}
use Rattle.typed_tree.specs.declared.declarations.Callee.{Callee}
use Rattle.typed_tree.specs.declared.declarations.Owner.{Owner}
use Rattle.typed_tree.specs.declared.declarations.FormalKind.{Value as ValueKind, Variable as VariableKind, Procedural}
use Rattle.typed_tree.specs.declared.declarations.FormalSection.{FormalSection}
use Rattle.typed_tree.specs.declared.declarations.Routine.{Routine}
use Rattle.typed_tree.specs.declared.declarations.VarDecl.{VarDecl}
use Rattle.typed_tree.specs.declared.declarations.Body.{Body}
use Rattle.typed_tree.specs.declared.declarations.Typed.{Typed}
use Rattle.typed_tree.specs.declared.expressions.Root.{Root}
use Rattle.typed_tree.specs.declared.expressions.Root.TheVariants as root
use Rattle.typed_tree.specs.declared.expressions.Selector.{Selector}
use Rattle.typed_tree.specs.declared.expressions.Place.{Place}
use Rattle.typed_tree.specs.declared.expressions.TypedExpr as X
use Rattle.typed_tree.specs.declared.expressions.TypedExpr.{TypedExpr, Row_of-TypedExpr, Row_of-Selector, Row_of-BinaryPart, Row_of-TypedArg, Row_of-SetElem}
use Rattle.typed_tree.specs.declared.expressions.TypedArg.{TypedArg}
use Rattle.typed_tree.specs.declared.expressions.TypedArg.TheVariants as arg
use Rattle.typed_tree.specs.declared.operations.BinaryOp.{BinaryOp}
use Rattle.typed_tree.specs.declared.operations.UnaryOp.{UnaryOp}
use Rattle.typed_tree.specs.declared.operations.PredefCall.{PredefCall}
use Rattle.typed_tree.specs.declared.statements.TypedStmt as S
use Rattle.typed_tree.specs.declared.statements.TypedStmt.{TypedStmt, Row_of-TypedStmt}
use Rattle.typed_tree.specs.declared.statements.WithPart.{WithPart}

-- ---- types

-- `integer` of ISO and HP, that of Turbo and UCSD, `char`, `Boolean`, a text that an operation makes
abbrev pub integer : ℕ
integer = 0

abbrev pub small : ℕ
small = 1

abbrev pub char : ℕ
char = 2

abbrev pub boolean : ℕ
boolean = 3

abbrev pub text : ℕ
text = 4

-- the first type of an example
abbrev pub own : ℕ
own = 5

abbrev pub range : ℤ → ℤ → PasType
range first last = Ordinal WholeHost first last

abbrev pub known_types : List PasType
known_types = range (negsuc 2147483647) (pos 2147483647) ∷ range (negsuc 32767) (pos 32767) ∷ Ordinal CharHost (pos 0) (pos 255) ∷ Ordinal BoolHost (pos 0) (pos 1) ∷ TextValue ∷ []

abbrev pub set_of : (base : ℕ) → PasType
set_of base = SetType Unpacked (Some base)

abbrev pub field : (name type : ℕ) → FieldDecl
field d t = record { name = []; decl = d; of = t }

abbrev pub labels : ℤ → ℤ → LabelRange
labels first last = record { first = first; last = last }

abbrev pub label_of : ℤ → LabelRange
label_of z = labels z z

-- a part in the place of one that is held
abbrev pub held_part : Option VariantPart → v.Held-VariantArm-variants
held_part None = v.None'
held_part (Some p) = v.Some' tt (v.more_of-VariantPart p v.end_of-VariantPart)

abbrev pub arm : List LabelRange → List FieldDecl → Option VariantPart → VariantArm
arm ls fs p = v.VariantArm' ls fs (held_part p)

abbrev pub units : {A : Type 0} → List A → List (Unit {0})
units [] = []
units (x ∷ xs) = tt ∷ units xs

abbrev pub variant_row : (xs : List VariantArm) → Row_of-VariantArm (arity (the_former (this {0})) (units xs))
variant_row [] = w.end_of-VariantArm
variant_row (x ∷ xs) = w.more_of-VariantArm x (variant_row xs)

-- a variant part with the number of its tag, maybe a name, and the type of the tag
abbrev pub variant_part : ℕ → Option (List ℕ) → ℕ → List VariantArm → VariantPart
variant_part tag name t xs = w.VariantPart' tag name t (units xs) (variant_row xs)

-- ---- rows

abbrev pub selector_row : (xs : List Selector) → Row_of-Selector (arity (the_former (this {0})) (units xs))
selector_row [] = X.end_of-Selector
selector_row (x ∷ xs) = X.more_of-Selector x (selector_row xs)

-- an operator, its right operand, and the type after it
abbrev pub Operation : Type 0
Operation = BinaryOp × TypedExpr × ℕ

abbrev pub part_row : (ps : List Operation) → Row_of-BinaryPart (arity (the_former (this {0})) (units ps))
part_row [] = X.end_of-BinaryPart
part_row (p ∷ ps) = X.more_of-BinaryPart p.0 p.1 p.2 (part_row ps)

abbrev pub argument_row : (xs : List TypedArg) → Row_of-TypedArg (arity (the_former (this {0})) (units xs))
argument_row [] = X.end_of-TypedArg
argument_row (x ∷ xs) = X.more_of-TypedArg x (argument_row xs)

abbrev pub statement_row : (xs : List TypedStmt) → Row_of-TypedStmt (arity (the_former (this {0})) (units xs))
statement_row [] = S.end_of-TypedStmt
statement_row (x ∷ xs) = S.more_of-TypedStmt x (statement_row xs)

-- a member of a constructor, and maybe the last one of a range that begins with it
abbrev pub Listed : Type 0
Listed = TypedExpr × Option TypedExpr

abbrev pub last_row : Option TypedExpr → X.Held-TypedArg-Written-1
last_row None = X.None'
last_row (Some e) = X.Some' e

abbrev pub element_row : (xs : List Listed) → Row_of-SetElem (arity (the_former (this {0})) (units xs))
element_row [] = X.end_of-SetElem
element_row (x ∷ xs) = X.more_of-SetElem x.0 (last_row x.1) (element_row xs)

-- ---- expressions

abbrev pub num : ℕ → TypedExpr
num n = X.Number (pos n) integer

-- a literal of one character
abbrev pub letter : ℕ → TypedExpr
letter b = X.Number (pos b) char

abbrev pub truth : ℕ → TypedExpr
truth n = X.Number (pos n) boolean

-- a literal, with its type
abbrev pub quoted : ℕ → List ℕ → TypedExpr
quoted t bs = X.TextConst bs t

abbrev pub unary : (type : ℕ) → UnaryOp → TypedExpr → TypedExpr
unary t op e = X.Unary' op tt (X.more_of-TypedExpr e X.end_of-TypedExpr) t

abbrev pub chain : TypedExpr → List Operation → TypedExpr
chain e ps = X.Binary' tt (X.more_of-TypedExpr e X.end_of-TypedExpr) (units ps) (part_row ps)

abbrev pub read : Root → List Selector → TypedExpr
read r xs = X.Read' r (units xs) (selector_row xs)

abbrev pub variable : ℕ → ℕ → Root
variable d t = root.Variable d t

abbrev pub outcome : ℕ → ℕ → Root
outcome d t = root.Outcome d t

abbrev pub call : Callee → List TypedArg → ℕ → TypedExpr
call c args t = X.Call' c (units args) (argument_row args) t

abbrev pub set : ℕ → List Listed → TypedExpr
set t xs = X.SetOf' (units xs) (element_row xs) t

abbrev pub predefined : PredefCall → List TypedArg → ℕ → TypedExpr
predefined c args t = X.Predefined' c (units args) (argument_row args) t

-- ---- places and arguments

abbrev pub place : Root → List Selector → Place
place r xs = record { root = r; selectors = xs }

abbrev pub value_for : ℕ → TypedExpr → TypedArg
value_for t e = arg.Value e t

abbrev pub by_reference : Root → List Selector → TypedArg
by_reference r xs = arg.Reference' r (units xs) (selector_row xs)

abbrev pub shown : TypedExpr → TypedArg
shown e = arg.Written' e X.None'

abbrev pub wide : TypedExpr → TypedExpr → TypedArg
wide e k = arg.Written' e (X.Some' k)

-- ---- statements

abbrev pub assign_to : ℕ → Root → List Selector → TypedExpr → TypedStmt
assign_to t r xs e = S.Assign (place r xs) e t

abbrev pub seq : List TypedStmt → TypedStmt
seq ss = S.Seq' (units ss) (statement_row ss)

abbrev pub if_then : TypedExpr → TypedStmt → TypedStmt
if_then e a = S.If' e tt (S.more_of-TypedStmt a S.end_of-TypedStmt) S.None'

abbrev pub if_else : TypedExpr → TypedStmt → TypedStmt → TypedStmt
if_else e a b = S.If' e tt (S.more_of-TypedStmt a S.end_of-TypedStmt) (S.Some' tt (S.more_of-TypedStmt b S.end_of-TypedStmt))

abbrev pub while : TypedExpr → TypedStmt → TypedStmt
while e a = S.While' e tt (S.more_of-TypedStmt a S.end_of-TypedStmt)

abbrev pub repeat_until : List TypedStmt → TypedExpr → TypedStmt
repeat_until ss e = S.Repeat' (units ss) (statement_row ss) e

abbrev pub for_of : ℕ → ℕ → Bool → TypedExpr → TypedExpr → TypedStmt → TypedStmt
for_of t d down first last a = S.For' (record { decl = d; of = t }) first down last tt (S.more_of-TypedStmt a S.end_of-TypedStmt)

abbrev pub with_part : ℕ → Root → List Selector → WithPart
with_part d r xs = record { decl = d; place = place r xs }

abbrev pub with_all : List WithPart → TypedStmt → TypedStmt
with_all ps a = S.With' ps tt (S.more_of-TypedStmt a S.end_of-TypedStmt)

abbrev pub try : List TypedStmt → TypedStmt → TypedStmt
try ss a = S.Try' (units ss) (statement_row ss) tt (S.more_of-TypedStmt a S.end_of-TypedStmt)

abbrev pub labelled : ℕ → TypedStmt → TypedStmt
labelled l a = S.Labelled' l tt (S.more_of-TypedStmt a S.end_of-TypedStmt)

abbrev pub Arm : Type 0
Arm = List LabelRange × TypedStmt

abbrev pub arm_row : (xs : List Arm) → S.Row_of-TypedArm (arity (the_former (this {0})) (units xs))
arm_row [] = S.end_of-TypedArm
arm_row (x ∷ xs) = S.more_of-TypedArm x.0 x.1 (arm_row xs)

abbrev pub case_of : TypedExpr → List Arm → TypedStmt
case_of e xs = S.Case' e (units xs) (arm_row xs) S.None'

abbrev pub case_else : TypedExpr → List Arm → TypedStmt → TypedStmt
case_else e xs a = S.Case' e (units xs) (arm_row xs) (S.Some' tt (S.more_of-TypedStmt a S.end_of-TypedStmt))

abbrev pub perform : PredefCall → List TypedArg → TypedStmt
perform c args = S.Predefined c args

-- ---- programs

abbrev pub of_type : ℕ → ℕ → VarDecl
of_type t d = record { decl = d; of = t }

abbrev pub section : (type : ℕ) → List ℕ → FormalSection
section t ds = record { decls = ds; kind = ValueKind t }

abbrev pub section_var : (type : ℕ) → List ℕ → FormalSection
section_var t ds = record { decls = ds; kind = VariableKind t }

abbrev pub section_procedures : List ℕ → FormalSection
section_procedures ds = record { decls = ds; kind = Procedural [] None }

abbrev pub section_functions : (result : ℕ) → List ℕ → FormalSection
section_functions t ds = record { decls = ds; kind = Procedural [] (Some t) }

abbrev pub procedure : ℕ → Owner → List FormalSection → List VarDecl → List ℕ → List TypedStmt → Routine
procedure k o fs vs ls body = record { name = []; number = k; parent = o; formals = fs; result = None; locals = vs; labels = ls; body = seq body }

abbrev pub function : ℕ → Owner → List FormalSection → VarDecl → List VarDecl → List TypedStmt → Routine
function k o fs r vs body = record { name = []; number = k; parent = o; formals = fs; result = Some r; locals = vs; labels = []; body = seq body }

abbrev pub unit_of : List VarDecl → List ℕ → List TypedStmt → Body
unit_of vs ls body = record { locals = vs; labels = ls; body = seq body }

abbrev pub whole : Dialect → List PasType → List Routine → List Body → List VarDecl → List ℕ → List TypedStmt → Typed
whole d ts rs us vs ls body = record { types = record { dialect = d; list = known_types ++ ts }; routines = rs; units = us; main = record { locals = vs; labels = ls; body = seq body } }

-- bytes, and a line end after them
abbrev pub line : List ℕ → List ℕ
line bs = bs ++ (10 ∷ [])

-- the answer of a program in each of these dialects
abbrev pub InEach : List Dialect → (Dialect → Typed) → (input : List ℕ) → (n : ℕ) → Answer → Type 0
InEach [] p input n a = Unit {0}
InEach (d ∷ ds) p input n a = (run (p d) input n ≡ a) × InEach ds p input n a
