-- Which primitives an operation uses.
use Rattle.std.specs.Prelude.{ℕ, ℤ, pos, negsuc, Bool, true, false, ◌||◌, List, [], ◌∷◌, ◌++◌, map, Option, Some}
use Rattle.p2c_text.specs.declared.dialect.Dialect.{Dialect}
use Rattle.p2c_text.specs.declared.dialect.Dialect.TheVariants.{Iso, Turbo, Ucsd, Hp}
use Rattle.typed_tree.specs.declared.types.Types.{Types}
use Rattle.typed_tree.specs.declared.types.PasType.{PasType}
use Rattle.typed_tree.specs.declared.types.PasType.TheVariants.{Ordinal, Array, Literal, DynString, TextValue, SetOf}
use Rattle.typed_tree.specs.declared.operations.UnaryOp.{UnaryOp}
use Rattle.typed_tree.specs.declared.operations.UnaryOp.TheVariants as unary
use Rattle.typed_tree.specs.declared.operations.BinaryOp.{BinaryOp}
use Rattle.typed_tree.specs.declared.operations.BinaryOp.TheVariants as op
use Rattle.typed_tree.specs.declared.operations.PredefCall.{PredefCall}
use Rattle.typed_tree.specs.declared.operations.PredefCall.TheVariants as call
use Rattle.typed_tree.specs.declared.expressions.Root.{Root}
use Rattle.typed_tree.specs.declared.expressions.Root.TheVariants as root
use Rattle.typed_tree.specs.declared.expressions.Selector.{Selector}
use Rattle.typed_tree.specs.declared.expressions.Selector.TheVariants as selector
use Rattle.typed_tree.specs.declared.expressions.TypedArg.{TypedArg, Held-TypedArg-Written-1}
use Rattle.typed_tree.specs.declared.expressions.TypedArg.TheVariants as arg
use Rattle.typed_tree.specs.declared.expressions.TypedExpr as X
use Rattle.typed_tree.specs.declared.expressions.TypedExpr.{TypedExpr, Row_of-BinaryPart, Row_of-TypedArg, Row_of-SetElem}
use Rattle.typed_tree.specs.declared.statements.TypedStmt as S
use Rattle.typed_tree.specs.declared.statements.TypedStmt.{TypedStmt}
use Rattle.typed_tree.specs.Ranges.{type_at}
use Rattle.typed_tree.specs.Fields.{Variant, Choice, variants_around}
use Rattle.pascal_meaning.specs.declared.operations.Primitive.{Primitive}
use Rattle.pascal_meaning.specs.declared.operations.Primitive.TheVariants as p
use Rattle.pascal_meaning.specs.Places.{root_type}
use Rattle.pascal_meaning.specs.Meaning.{place_type, expr_type}
use Rattle.program_shape.specs.Nodes.{Node, Statement, Expression, Passed, Called, Named, Rooted, Selected}

-- ---- types

unfoldable pub is_set : Option PasType → Bool
is_set (Some (SetOf packing base)) = true
is_set _ = false

-- a text that is no character
unfoldable pub is_text : Option PasType → Bool
is_text (Some (Array packed index component)) = true
is_text (Some (Literal length)) = true
is_text (Some (DynString limit)) = true
is_text (Some TextValue) = true
is_text _ = false

unfoldable pub range_uses : Option PasType → List Primitive
range_uses (Some (Ordinal host first last)) = p.Range first last ∷ []
range_uses _ = []

-- a store of a value of the second type into a variable of the first
unfoldable pub store_uses : Types → (target source : ℕ) → Option PasType → List Primitive
store_uses types t s (Some (Ordinal host first last)) = p.Range first last ∷ []
store_uses types t s (Some (SetOf packing base)) = p.StoreSet t ∷ []
store_uses types t s (Some (DynString limit)) = p.StoreText t s ∷ []
store_uses types t s _ = []

-- a value of the second type for a parameter of the first
unfoldable pub pass_uses : Types → (target source : ℕ) → Option PasType → List Primitive
pass_uses types t s (Some (DynString limit)) = p.Convert t s ∷ []
pass_uses types t s target = store_uses types t s target

-- a dynamic string is read
unfoldable pub string_uses : ℕ → Option PasType → List Primitive
string_uses t (Some (DynString limit)) = p.TextLength t ∷ p.TextRead t ∷ []
string_uses t _ = []

-- ---- operators

unfoldable pub on_sets : BinaryOp → List Primitive
on_sets op.Equal = p.SetEqual ∷ []
on_sets op.Unequal = p.SetUnequal ∷ []
on_sets op.LessEq = p.Subset ∷ []
on_sets op.GreaterEq = p.Superset ∷ []
on_sets _ = []

-- a comparison has a primitive on sets and on texts
unfoldable pub comparison : Types → BinaryOp → (left right : ℕ) → List Primitive
comparison types o l r = elim (is_set (type_at types l) || is_set (type_at types r)) [
  | true ↦ on_sets o
  | false ↦ elim (is_text (type_at types l) || is_text (type_at types r)) [ true ↦ p.Compare o l r ∷ [] | false ↦ [] ]
]

-- an operator on operands of these types
unfoldable pub operator_uses : Types → BinaryOp → (left right : ℕ) → List Primitive
operator_uses types op.Add l r = p.Add ∷ []
operator_uses types op.Sub l r = p.Subtract ∷ []
operator_uses types op.Mul l r = p.Multiply ∷ []
operator_uses types op.Div l r = p.Divide ∷ []
operator_uses types op.Mod l r = p.Modulo ∷ []
operator_uses types op.And l r = []
operator_uses types op.Or l r = []
operator_uses types op.BitAnd l r = p.BitAnd ∷ []
operator_uses types op.BitOr l r = p.BitOr ∷ []
operator_uses types op.BitXor l r = p.BitXor ∷ []
operator_uses types op.Shl l r = p.ShiftLeft ∷ []
operator_uses types op.Shr l r = p.ShiftRight ∷ []
operator_uses types op.Union l r = p.Union ∷ []
operator_uses types op.Difference l r = p.Difference ∷ []
operator_uses types op.Intersection l r = p.Intersection ∷ []
operator_uses types op.Join l r = p.Join l r ∷ []
operator_uses types op.Member l r = p.Member ∷ []
operator_uses types o l r = comparison types o l r

unfoldable pub unary_uses : UnaryOp → List Primitive
unary_uses unary.Minus = p.Negate ∷ []
unary_uses unary.BitNot = p.BitNot ∷ []
unary_uses _ = []

unfoldable pub parts_uses : Types → (left : ℕ) → {m : _} → Row_of-BinaryPart m → List Primitive
parts_uses types l X.end_of-BinaryPart = []
parts_uses types l (X.more_of-BinaryPart o e t rest) = operator_uses types o l (expr_type e) ++ parts_uses types t rest

unfoldable pub elements_uses : {m : _} → Row_of-SetElem m → List Primitive
elements_uses X.end_of-SetElem = []
elements_uses (X.more_of-SetElem e X.None' rest) = p.Include ∷ elements_uses rest
elements_uses (X.more_of-SetElem e (X.Some' f) rest) = p.IncludeRange ∷ elements_uses rest

-- ---- predefined calls

unfoldable pub is_wide : Held-TypedArg-Written-1 → Bool
is_wide X.None' = false
is_wide (X.Some' e) = true

-- the type of an argument, and whether it has a width
unfoldable pub given : TypedArg → ℕ × Bool
given (arg.Value e t) = (expr_type e, false)
given (arg.Reference' r shape row) = (place_type (root_type r) row, false)
given (arg.RoutineValue c) = (0, false)
given (arg.Written' e k) = (expr_type e, is_wide k)

unfoldable pub all_given : {m : _} → Row_of-TypedArg m → List (ℕ × Bool)
all_given X.end_of-TypedArg = []
all_given (X.more_of-TypedArg a rest) = given a ∷ all_given rest

-- texts are joined to one of the type on the left
unfoldable pub joins : (made left : ℕ) → List (ℕ × Bool) → List Primitive
joins t l [] = []
joins t l (a ∷ more) = p.Join l a.0 ∷ joins t t more

unfoldable pub concat_uses : (made : ℕ) → List (ℕ × Bool) → List Primitive
concat_uses t [] = []
concat_uses t (a ∷ more) = map (λ b. p.TextRead b.0) (a ∷ more) ++ joins t a.0 more

-- a function, by the types of its arguments and of its result
unfoldable pub function_uses : PredefCall → List (ℕ × Bool) → (result : ℕ) → List Primitive
function_uses call.Abs more t = p.Abs ∷ []
function_uses call.Sqr more t = p.Sqr ∷ []
function_uses call.Odd more t = p.Odd ∷ []
function_uses call.Ord more t = p.Ord ∷ []
function_uses call.Chr more t = p.Chr ∷ []
function_uses call.Succ more t = p.Succ t ∷ []
function_uses call.Pred more t = p.Pred t ∷ []
function_uses call.Eof more t = p.Eof ∷ []
function_uses call.Eoln more t = p.Eoln ∷ []
function_uses call.EscapeCode more t = p.EscapeCode ∷ []
function_uses call.UpCase more t = p.UpCase ∷ []
function_uses call.Concat more t = concat_uses t more
function_uses call.Length (a ∷ more) t = p.Length a.0 ∷ []
function_uses call.StrLen (a ∷ more) t = p.StrLen a.0 ∷ []
function_uses call.StrMax (a ∷ more) t = p.StrMax a.0 ∷ []
function_uses call.Copy (a ∷ more) t = p.Copy a.0 ∷ []
function_uses call.Str (a ∷ more) t = p.TextPart a.0 ∷ []
function_uses call.StrLTrim (a ∷ more) t = p.StrLTrim a.0 ∷ []
function_uses call.StrRTrim (a ∷ more) t = p.StrRTrim a.0 ∷ []
function_uses call.StrRpt (a ∷ more) t = p.StrRpt a.0 ∷ []
function_uses call.Pos (a ∷ b ∷ more) t = p.Pos a.0 b.0 ∷ []
function_uses c more t = []

unfoldable pub write_uses : ℕ × Bool → Primitive
write_uses a = p.Write a.0 a.1

unfoldable pub read_uses : ℕ × Bool → Primitive
read_uses a = p.Read a.0

-- the number with which a program ends, or that escapes
unfoldable pub status_uses : List (ℕ × Bool) → (first last : ℤ) → List Primitive
status_uses [] first last = []
status_uses (a ∷ more) first last = p.Range first last ∷ []

-- a statement, by the types of its arguments
unfoldable pub call_uses : PredefCall → List (ℕ × Bool) → List Primitive
call_uses call.Get more = p.Get ∷ []
call_uses call.Page more = p.Page ∷ []
call_uses call.Read more = map read_uses more
call_uses call.Readln more = map read_uses more ++ p.Readln ∷ []
call_uses call.Write more = map write_uses more
call_uses call.Writeln more = map write_uses more ++ p.Writeln ∷ []
call_uses call.Halt more = status_uses more (pos 0) (pos 199)
call_uses call.Escape more = status_uses more (negsuc 2147483647) (pos 2147483647)
call_uses call.New (a ∷ more) = p.New a.0 ∷ []
call_uses call.Dispose (a ∷ more) = p.Dispose a.0 ∷ []
call_uses call.Inc (a ∷ more) = p.Inc a.0 ∷ []
call_uses call.Dec (a ∷ more) = p.Dec a.0 ∷ []
call_uses call.Delete (a ∷ more) = p.Delete a.0 ∷ []
call_uses call.SetStrLen (a ∷ more) = p.SetStrLen a.0 ∷ []
call_uses call.Insert (a ∷ b ∷ more) = p.Insert a.0 b.0 ∷ []
call_uses call.StrAppend (a ∷ b ∷ more) = p.StrAppend a.0 b.0 ∷ []
call_uses call.Str (a ∷ b ∷ more) = p.NumberText a.0 b.0 a.1 ∷ []
call_uses call.Pack (a ∷ i ∷ z ∷ more) = p.Pack a.0 z.0 ∷ []
call_uses call.Unpack (z ∷ a ∷ more) = p.Unpack z.0 a.0 ∷ []
call_uses call.Val (a ∷ i ∷ k ∷ more) = p.Val a.0 i.0 k.0 ∷ []
call_uses c more = []

-- ---- nodes

unfoldable pub expression_uses : Types → TypedExpr → List Primitive
expression_uses types (X.Read' r shape row) = string_uses (place_type (root_type r) row) (type_at types (place_type (root_type r) row))
expression_uses types (X.Unary' o q row t) = unary_uses o
expression_uses types (X.Binary' q (X.more_of-TypedExpr e X.end_of-TypedExpr) shape row) = parts_uses types (expr_type e) row
expression_uses types (X.SetOf' shape row t) = elements_uses row
expression_uses types (X.Predefined' c shape row t) = function_uses c (all_given row) t
expression_uses types _ = []

unfoldable pub unmatched_uses : Dialect → S.Held-TypedStmt-If-2 → List Primitive
unmatched_uses Iso S.None' = p.NoCase ∷ []
unmatched_uses Hp S.None' = p.NoCase ∷ []
unmatched_uses _ _ = []

unfoldable pub statement_uses : Types → TypedStmt → List Primitive
statement_uses types (S.Assign q e t) = store_uses types t (expr_type e) (type_at types t)
statement_uses types (S.Predefined c more) = call_uses c (map given more)
statement_uses types (S.Case' e shape row rest) = unmatched_uses types.dialect rest
statement_uses types (S.For' v first down last q row) = range_uses (type_at types v.of)
statement_uses types _ = []

-- each variant around a field has a tag; one inside another has its own tag more a field of that
unfoldable pub variant_uses : (of field : ℕ) → List (Choice × Variant) → List Primitive
variant_uses t f [] = []
variant_uses t f (v ∷ []) = p.Selected t f ∷ []
variant_uses t f (v ∷ w ∷ vs) = p.Selected t w.0.tag ∷ variant_uses t f (w ∷ vs)

unfoldable pub index_uses : Types → (array : ℕ) → Option PasType → List Primitive
index_uses types a (Some (Array packed index component)) = range_uses (type_at types index)
index_uses types a (Some (DynString limit)) = elim types.dialect [ Turbo ↦ p.Range (pos 0) (pos limit) ∷ [] | Iso ↦ p.StringIndex a ∷ [] | Ucsd ↦ p.StringIndex a ∷ [] | Hp ↦ p.StringIndex a ∷ [] ]
index_uses types a _ = []

unfoldable pub selector_uses : Types → (before : ℕ) → Selector → List Primitive
selector_uses types t (selector.Index e a u) = index_uses types a (type_at types a)
selector_uses types t (selector.Field f u) = variant_uses t f (variants_around (type_at types t) f)
selector_uses types t (selector.Follow u) = p.NotNil t ∷ []

unfoldable pub root_uses : Root → List Primitive
root_uses root.Input = p.LookAhead ∷ []
root_uses _ = []

-- the primitives that an operation uses
unfoldable pub uses : Types → Node → List Primitive
uses types (Statement s) = statement_uses types s
uses types (Expression quiet e) = expression_uses types e
uses types (Passed t e) = pass_uses types t (expr_type e) (type_at types t)
uses types (Called c) = []
uses types (Named c) = []
uses types (Rooted r) = root_uses r
uses types (Selected is_read t s) = selector_uses types t s
