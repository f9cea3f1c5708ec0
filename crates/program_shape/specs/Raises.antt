-- Which operations raise: those for which the language names a runtime error in the dialect.
use Rattle.std.specs.Prelude.{ℕ, ℤ, Bool, true, false, not, ◌&&◌, ◌||◌, int_le, List, [], ◌∷◌, Option, Some, None}
use Rattle.p2c_text.specs.declared.dialect.Dialect.{Dialect}
use Rattle.p2c_text.specs.declared.dialect.Dialect.TheVariants.{Iso, Hp}
use Rattle.typed_tree.specs.declared.types.Types.{Types}
use Rattle.typed_tree.specs.declared.types.PasType.{PasType}
use Rattle.typed_tree.specs.declared.types.PasType.TheVariants.{Ordinal, DynString, SetOf}
use Rattle.typed_tree.specs.declared.operations.UnaryOp.{UnaryOp}
use Rattle.typed_tree.specs.declared.operations.UnaryOp.TheVariants as unary
use Rattle.typed_tree.specs.declared.operations.BinaryOp.{BinaryOp}
use Rattle.typed_tree.specs.declared.operations.BinaryOp.TheVariants as op
use Rattle.typed_tree.specs.declared.operations.PredefCall.{PredefCall}
use Rattle.typed_tree.specs.declared.operations.PredefCall.TheVariants as call
use Rattle.typed_tree.specs.declared.expressions.Root.{Root}
use Rattle.typed_tree.specs.declared.expressions.Root.TheVariants as root
use Rattle.typed_tree.specs.declared.expressions.Selector.{Selector}
use Rattle.typed_tree.specs.declared.expressions.Selector.TheVariants as selector
use Rattle.typed_tree.specs.declared.expressions.TypedArg.{TypedArg}
use Rattle.typed_tree.specs.declared.expressions.TypedArg.TheVariants as arg
use Rattle.typed_tree.specs.declared.expressions.TypedExpr as X
use Rattle.typed_tree.specs.declared.expressions.TypedExpr.{TypedExpr, Row_of-BinaryPart, Row_of-SetElem}
use Rattle.typed_tree.specs.declared.statements.TypedStmt as S
use Rattle.typed_tree.specs.declared.statements.TypedStmt.{TypedStmt}
use Rattle.typed_tree.specs.Ranges.{type_at}
use Rattle.typed_tree.specs.Fields.{Choice, Variant, variants_around}
use Rattle.pascal_meaning.specs.Places.{root_type, base_range}
use Rattle.pascal_meaning.specs.Meaning.{place_type, expr_type}
use Rattle.program_shape.specs.Nodes.{Node, Statement, Expression, Passed, Called, Named, Rooted, Selected, constant, is_settled, is_positive, is_turbo, is_string, has_named_tag}
use Rattle.program_shape.specs.Uses.{given, all_given}

-- ---- stores

unfoldable pub is_inside : Option (ℤ × ℤ) → Option (ℤ × ℤ) → Bool
is_inside (Some inner) (Some outer) = int_le outer.0 inner.0 && int_le inner.1 outer.1
is_inside _ _ = false

-- the range of an ordinal type, and of the base of a set type
unfoldable pub reach : Types → Option PasType → Option (ℤ × ℤ)
reach types (Some (Ordinal host first last)) = Some (first, last)
reach types (Some (SetOf packing base)) = base_range types base
reach types _ = None

-- a variable whose range, or base, lies inside that of the target
unfoldable pub fits : Types → (target : ℕ) → TypedExpr → Bool
fits types t (X.Read' r shape row) = is_inside (reach types (type_at types (place_type (root_type r) row))) (reach types (type_at types t))
fits types t _ = false

unfoldable pub store_raises_by : Types → (target : ℕ) → TypedExpr → Option PasType → Bool
store_raises_by types t e (Some (Ordinal host first last)) = not (is_settled types t e || fits types t e)
store_raises_by types t e (Some (SetOf packing base)) = not (fits types t e)
store_raises_by types t e (Some (DynString limit)) = true
store_raises_by types t e _ = false

-- a store, a value for a parameter, or a limit of a `for`
unfoldable pub store_raises : Types → (target : ℕ) → TypedExpr → Bool
store_raises types t e = store_raises_by types t e (type_at types t)

-- ---- operators

unfoldable pub are_strings : Types → (left right : ℕ) → Bool
are_strings types l r = is_string (type_at types l) || is_string (type_at types r)

unfoldable pub operator_raises : Types → BinaryOp → (left right : ℕ) → Bool
operator_raises types op.Add l r = true
operator_raises types op.Sub l r = true
operator_raises types op.Mul l r = true
operator_raises types op.Div l r = true
operator_raises types op.Mod l r = true
operator_raises types op.Shl l r = true
operator_raises types op.Shr l r = true
operator_raises types op.Join l r = not (is_turbo types.dialect) || are_strings types l r
operator_raises types op.Equal l r = are_strings types l r
operator_raises types op.Unequal l r = are_strings types l r
operator_raises types op.Less l r = are_strings types l r
operator_raises types op.Greater l r = are_strings types l r
operator_raises types op.LessEq l r = are_strings types l r
operator_raises types op.GreaterEq l r = are_strings types l r
operator_raises types _ l r = false

unfoldable pub parts_raise : Types → (left : ℕ) → {m : _} → Row_of-BinaryPart m → Bool
parts_raise types l X.end_of-BinaryPart = false
parts_raise types l (X.more_of-BinaryPart o e t rest) = operator_raises types o l (expr_type e) || parts_raise types t rest

-- a plus changes nothing
unfoldable pub sign_raises : UnaryOp → Bool
sign_raises unary.Minus = true
sign_raises _ = false

-- a member outside 0 to 255
unfoldable pub members_raise : {m : _} → Row_of-SetElem m → Bool
members_raise X.end_of-SetElem = false
members_raise (X.more_of-SetElem e k rest) = true

-- ---- predefined calls

unfoldable pub any_string : Types → List (ℕ × Bool) → Bool
any_string types [] = false
any_string types (a ∷ more) = is_string (type_at types a.0) || any_string types more

unfoldable pub function_raises : Types → PredefCall → List (ℕ × Bool) → Bool
function_raises types call.Odd xs = false
function_raises types call.Ord xs = false
function_raises types call.Eof xs = false
function_raises types call.Eoln xs = not (is_turbo types.dialect)
function_raises types call.EscapeCode xs = false
function_raises types call.UpCase xs = false
function_raises types call.Length xs = any_string types xs
function_raises types call.StrLen xs = any_string types xs
function_raises types call.StrMax xs = false
function_raises types call.Pos xs = any_string types xs
function_raises types call.Concat xs = not (is_turbo types.dialect) || any_string types xs
function_raises types c xs = true

-- a width below 1
unfoldable pub width_raises : Types → TypedArg → Bool
width_raises types (arg.Written' e (X.Some' k)) = not (is_turbo types.dialect) && not (is_positive (constant k))
width_raises types _ = false

unfoldable pub written_raise : Types → List TypedArg → Bool
written_raise types [] = false
written_raise types (a ∷ more) = is_string (type_at types (given a).0) || width_raises types a || written_raise types more

unfoldable pub is_some : List TypedArg → Bool
is_some [] = false
is_some (a ∷ more) = true

unfoldable pub call_raises : Types → PredefCall → List TypedArg → Bool
call_raises types call.New xs = false
call_raises types call.Read xs = is_some xs
call_raises types call.Readln xs = is_some xs || not (is_turbo types.dialect)
call_raises types call.Write xs = written_raise types xs
call_raises types call.Writeln xs = written_raise types xs
call_raises types call.Page xs = false
call_raises types call.Halt xs = is_some xs
call_raises types call.Exit xs = false
call_raises types call.ExitRoutine xs = false
call_raises types call.ExitProgram xs = false
call_raises types c xs = true

-- ---- nodes

unfoldable pub expression_raises : Types → (quiet : Bool) → TypedExpr → Bool
expression_raises types quiet (X.Unary' o q row t) = not quiet && sign_raises o
expression_raises types quiet (X.Binary' q (X.more_of-TypedExpr e X.end_of-TypedExpr) shape row) = parts_raise types (expr_type e) row
expression_raises types quiet (X.SetOf' shape row t) = members_raise row
expression_raises types quiet (X.Predefined' c shape row t) = function_raises types c (all_given row)
expression_raises types quiet _ = false

unfoldable pub unmatched_raises : Dialect → S.Held-TypedStmt-If-2 → Bool
unmatched_raises Iso S.None' = true
unmatched_raises Hp S.None' = true
unmatched_raises _ _ = false

unfoldable pub statement_raises : Types → TypedStmt → Bool
statement_raises types (S.Assign q e t) = store_raises types t e
statement_raises types (S.Predefined c xs) = call_raises types c xs
statement_raises types (S.Case' e shape row rest) = unmatched_raises types.dialect rest
statement_raises types (S.For' v first down last q row) = store_raises types v.of first || store_raises types v.of last
statement_raises types _ = false

unfoldable pub has_hidden_tag : List (Choice × Variant) → Bool
has_hidden_tag [] = false
has_hidden_tag (v ∷ vs) = v.0.hidden || has_hidden_tag vs

-- a hidden tag is checked where a field is read, each other one where it is selected
unfoldable pub selector_raises : Types → (is_read : Bool) → (before : ℕ) → Selector → Bool
selector_raises types r t (selector.Index e a u) = true
selector_raises types r t (selector.Field f u) = let vs = variants_around (type_at types t) f in has_named_tag vs || (r && has_hidden_tag vs)
selector_raises types r t (selector.Follow u) = true

unfoldable pub root_raises : Root → Bool
root_raises root.Input = true
root_raises _ = false

unfoldable pub raises : Types → Node → Bool
raises types (Statement s) = statement_raises types s
raises types (Expression quiet e) = expression_raises types quiet e
raises types (Passed t e) = store_raises types t e
raises types (Called c) = false
raises types (Named c) = false
raises types (Rooted r) = root_raises r
raises types (Selected is_read t s) = selector_raises types is_read t s
