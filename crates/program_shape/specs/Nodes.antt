-- The operations of a body.
use Rattle.std.specs.Prelude.{ℕ, ℤ, pos, neg_ℤ, Bool, true, false, not, ◌&&◌, ◌||◌, int_le, List, [], ◌∷◌, ◌++◌, map, Option, Some, None}
use Rattle.p2c_text.specs.declared.dialect.Dialect.{Dialect}
use Rattle.p2c_text.specs.declared.dialect.Dialect.TheVariants.{Turbo}
use Rattle.typed_tree.specs.declared.types.Types.{Types}
use Rattle.typed_tree.specs.declared.types.PasType.{PasType}
use Rattle.typed_tree.specs.declared.types.PasType.TheVariants.{DynString}
use Rattle.typed_tree.specs.declared.declarations.Callee.{Callee}
use Rattle.typed_tree.specs.declared.operations.UnaryOp.TheVariants as unary
use Rattle.typed_tree.specs.declared.expressions.Root.{Root}
use Rattle.typed_tree.specs.declared.expressions.Root.TheVariants as root
use Rattle.typed_tree.specs.declared.expressions.Place.{Place}
use Rattle.typed_tree.specs.declared.expressions.Selector.{Selector}
use Rattle.typed_tree.specs.declared.expressions.Selector.TheVariants as selector
use Rattle.typed_tree.specs.declared.expressions.TypedArg.{TypedArg, Held-TypedArg-Written-1}
use Rattle.typed_tree.specs.declared.expressions.TypedArg.TheVariants as arg
use Rattle.typed_tree.specs.declared.expressions.TypedExpr as X
use Rattle.typed_tree.specs.declared.expressions.TypedExpr.{TypedExpr, Row_of-TypedExpr, Row_of-Selector, Row_of-BinaryPart, Row_of-TypedArg, Row_of-SetElem}
use Rattle.typed_tree.specs.declared.statements.TypedStmt as S
use Rattle.typed_tree.specs.declared.statements.TypedStmt.{TypedStmt, Row_of-TypedStmt}
use Rattle.typed_tree.specs.declared.statements.WithPart.{WithPart}
use Rattle.typed_tree.specs.Ranges.{type_at, Range}
use Rattle.typed_tree.specs.Fields.{Variant, Choice, variants_around}
use Rattle.pascal_meaning.specs.Places.{root_type}
use Rattle.pascal_meaning.specs.Meaning.{type_after}

pub data Node : Type 0 where
  Statement : TypedStmt → Node
  -- quiet: a constant of which nothing but its value is asked, so that its sign raises nothing
  Expression : (quiet : Bool) → TypedExpr → Node
  -- a value for a parameter of this type
  Passed : (target : ℕ) → TypedExpr → Node
  -- a call of a routine
  Called : Callee → Node
  -- a routine that is named and not called
  Named : Callee → Node
  Rooted : Root → Node
  -- a selector of a place, the type before it, and whether a value is read at the place or behind it on the way
  Selected : (is_read : Bool) → (before : ℕ) → Selector → Node

-- ---- constants

unfoldable pub number_of : {m : _} → Row_of-TypedExpr m → Option ℤ
number_of (X.more_of-TypedExpr (X.Number z t) rest) = Some z
number_of _ = None

unfoldable pub negated : Option ℤ → Option ℤ
negated None = None
negated (Some z) = Some (neg_ℤ z)

-- a number, or one behind a sign
unfoldable pub constant : TypedExpr → Option ℤ
constant (X.Number z t) = Some z
constant (X.Unary' unary.Plus p row t) = number_of row
constant (X.Unary' unary.Minus p row t) = negated (number_of row)
constant _ = None

unfoldable pub lies_in : Option (ℤ × ℤ) → Option ℤ → Bool
lies_in (Some r) (Some z) = int_le r.0 z && int_le z r.1
lies_in _ _ = false

-- a constant inside the range of the type
unfoldable pub is_settled : Types → (type : ℕ) → TypedExpr → Bool
is_settled types t e = lies_in (Range types t) (constant e)

unfoldable pub is_positive : Option ℤ → Bool
is_positive None = false
is_positive (Some z) = int_le (pos 1) z

-- ---- places

-- a selector, with the operations inside it
pub record Chosen : Type 0 where
  pub selector : Selector
  pub inside : List Node

unfoldable pub has_named_tag : List (Choice × Variant) → Bool
has_named_tag [] = false
has_named_tag (v ∷ vs) = not v.0.hidden || has_named_tag vs

unfoldable pub is_turbo : Dialect → Bool
is_turbo Turbo = true
is_turbo _ = false

unfoldable pub is_string : Option PasType → Bool
is_string (Some (DynString limit)) = true
is_string _ = false

-- a selector that reads a value of the place before it: a pointer, a tag with a name, or the length of a string
unfoldable pub reads : Types → (before : ℕ) → Selector → Bool
reads types t (selector.Index e a u) = is_string (type_at types a) && not (is_turbo types.dialect)
reads types t (selector.Field f u) = has_named_tag (variants_around (type_at types t) f)
reads types t (selector.Follow u) = true

-- whether a place of the type is read, in the end or on the way through these selectors
unfoldable pub is_read_through : Types → (at_end : Bool) → (type : ℕ) → List Chosen → Bool
is_read_through types r t [] = r
is_read_through types r t (c ∷ cs) = reads types t c.selector || is_read_through types r (type_after c.selector) cs

unfoldable pub selections : Types → (at_end : Bool) → (type : ℕ) → List Chosen → List Node
selections types r t [] = []
selections types r t (c ∷ cs) = Selected (is_read_through types r (type_after c.selector) cs) t c.selector ∷ (c.inside ++ selections types r (type_after c.selector) cs)

-- `input^` is one operation
unfoldable pub from_root : Types → (at_end : Bool) → Root → List Chosen → List Node
from_root types r root.Input cs = Rooted root.Input ∷ []
from_root types r s cs = Rooted s ∷ selections types r (root_type s) cs

-- ---- expressions

unfoldable mutual
  -- the operations inside an expression
  pub inside : Types → TypedExpr → List Node
  inside types (X.Number z t) = []
  inside types (X.TextConst bs t) = []
  inside types X.Nil = []
  inside types (X.Read' r shape row) = from_root types true r (chosen types row)
  inside types (X.Call' c shape row t) = Called c ∷ arguments types row
  inside types (X.Unary' op p (X.more_of-TypedExpr e X.end_of-TypedExpr) t) = Expression false e ∷ inside types e
  inside types (X.Binary' p (X.more_of-TypedExpr e X.end_of-TypedExpr) shape row) = Expression false e ∷ (inside types e ++ parts types row)
  inside types (X.SetOf' shape row t) = elements types row
  inside types (X.Predefined' c shape row t) = operands types row

  pub index_inside : Types → Selector → List Node
  index_inside types (selector.Index e a t) = Expression false e ∷ inside types e
  index_inside types (selector.Field f t) = []
  index_inside types (selector.Follow t) = []

  pub chosen : Types → {m : _} → Row_of-Selector m → List Chosen
  chosen types X.end_of-Selector = []
  chosen types (X.more_of-Selector s rest) = record { selector = s; inside = index_inside types s } ∷ chosen types rest

  pub parts : Types → {m : _} → Row_of-BinaryPart m → List Node
  parts types X.end_of-BinaryPart = []
  parts types (X.more_of-BinaryPart op e t rest) = Expression false e ∷ (inside types e ++ parts types rest)

  pub elements : Types → {m : _} → Row_of-SetElem m → List Node
  elements types X.end_of-SetElem = []
  elements types (X.more_of-SetElem e X.None' rest) = Expression false e ∷ (inside types e ++ elements types rest)
  elements types (X.more_of-SetElem e (X.Some' f) rest) = Expression false e ∷ (inside types e ++ Expression false f ∷ (inside types f ++ elements types rest))

  -- an argument of a routine
  pub argument : Types → TypedArg → List Node
  argument types (arg.Value e t) = Passed t e ∷ Expression (is_settled types t e) e ∷ inside types e
  argument types (arg.Reference' r shape row) = from_root types false r (chosen types row)
  argument types (arg.RoutineValue c) = Named c ∷ []
  argument types (arg.Written' e k) = Expression false e ∷ (inside types e ++ width types k)

  pub arguments : Types → {m : _} → Row_of-TypedArg m → List Node
  arguments types X.end_of-TypedArg = []
  arguments types (X.more_of-TypedArg a rest) = argument types a ++ arguments types rest

  -- an argument of a predefined call
  pub operand : Types → TypedArg → List Node
  operand types (arg.Value e t) = Expression false e ∷ inside types e
  operand types (arg.Reference' r shape row) = from_root types false r (chosen types row)
  operand types (arg.RoutineValue c) = Named c ∷ []
  operand types (arg.Written' e k) = Expression false e ∷ (inside types e ++ width types k)

  pub operands : Types → {m : _} → Row_of-TypedArg m → List Node
  operands types X.end_of-TypedArg = []
  operands types (X.more_of-TypedArg a rest) = operand types a ++ operands types rest

  pub width : Types → Held-TypedArg-Written-1 → List Node
  width types X.None' = []
  width types (X.Some' e) = Expression (is_positive (constant e)) e ∷ inside types e

unfoldable pub whole : Types → (quiet : Bool) → TypedExpr → List Node
whole types q e = Expression q e ∷ inside types e

unfoldable pub choice : Types → Selector → Chosen
choice types s = record { selector = s; inside = index_inside types s }

unfoldable pub place : Types → Place → List Node
place types p = from_root types false p.root (map (choice types) p.selectors)

unfoldable pub of_each : {A : Type 0} → (A → List Node) → List A → List Node
of_each f [] = []
of_each f (x ∷ xs) = f x ++ of_each f xs

unfoldable pub with_part : Types → WithPart → List Node
with_part types p = place types p.place

-- ---- statements

unfoldable mutual
  -- a statement, and all operations inside it
  pub nodes : Types → TypedStmt → List Node
  nodes types S.Empty = Statement S.Empty ∷ []
  nodes types (S.Assign p e t) = Statement (S.Assign p e t) ∷ (place types p ++ whole types (is_settled types t e) e)
  nodes types (S.Call c args) = Statement (S.Call c args) ∷ Called c ∷ of_each (argument types) args
  nodes types (S.Predefined c args) = Statement (S.Predefined c args) ∷ of_each (operand types) args
  nodes types (S.Goto l) = Statement (S.Goto l) ∷ []
  nodes types (S.Seq' shape row) = Statement (S.Seq' shape row) ∷ all_nodes types row
  nodes types (S.If' e p (S.more_of-TypedStmt s S.end_of-TypedStmt) other) =
      Statement (S.If' e p (S.more_of-TypedStmt s S.end_of-TypedStmt) other) ∷ (whole types false e ++ nodes types s ++ otherwise types other)
  nodes types (S.Case' e shape row rest) = Statement (S.Case' e shape row rest) ∷ (whole types false e ++ arms types row ++ otherwise types rest)
  nodes types (S.While' e p (S.more_of-TypedStmt s S.end_of-TypedStmt)) =
      Statement (S.While' e p (S.more_of-TypedStmt s S.end_of-TypedStmt)) ∷ (whole types false e ++ nodes types s)
  nodes types (S.Repeat' shape row e) = Statement (S.Repeat' shape row e) ∷ (all_nodes types row ++ whole types false e)
  nodes types (S.For' v first down last p (S.more_of-TypedStmt s S.end_of-TypedStmt)) =
      Statement (S.For' v first down last p (S.more_of-TypedStmt s S.end_of-TypedStmt))
      ∷ (whole types (is_settled types v.of first) first ++ whole types (is_settled types v.of last) last ++ nodes types s)
  nodes types (S.With' ps p (S.more_of-TypedStmt s S.end_of-TypedStmt)) =
      Statement (S.With' ps p (S.more_of-TypedStmt s S.end_of-TypedStmt)) ∷ (of_each (with_part types) ps ++ nodes types s)
  nodes types (S.Try' shape row p (S.more_of-TypedStmt s S.end_of-TypedStmt)) =
      Statement (S.Try' shape row p (S.more_of-TypedStmt s S.end_of-TypedStmt)) ∷ (all_nodes types row ++ nodes types s)
  nodes types (S.Labelled' l p (S.more_of-TypedStmt s S.end_of-TypedStmt)) =
      Statement (S.Labelled' l p (S.more_of-TypedStmt s S.end_of-TypedStmt)) ∷ nodes types s

  pub all_nodes : Types → {m : _} → Row_of-TypedStmt m → List Node
  all_nodes types S.end_of-TypedStmt = []
  all_nodes types (S.more_of-TypedStmt s rest) = nodes types s ++ all_nodes types rest

  pub arms : Types → {m : _} → S.Row_of-TypedArm m → List Node
  arms types S.end_of-TypedArm = []
  arms types (S.more_of-TypedArm labels s rest) = nodes types s ++ arms types rest

  pub otherwise : Types → S.Held-TypedStmt-If-2 → List Node
  otherwise types S.None' = []
  otherwise types (S.Some' p (S.more_of-TypedStmt s S.end_of-TypedStmt)) = nodes types s
