-- The meaning of expressions, statements and programs: one line for each form of the typed tree.
use Rattle.std.specs.Prelude.{ℕ, suc, ℤ, List, [], ◌∷◌, ◌++◌, map, Option, Some, None}
use Rattle.typed_tree.specs.declared.expressions.TypedExpr as X
use Rattle.typed_tree.specs.declared.expressions.TypedExpr.{TypedExpr, Row_of-TypedExpr, Row_of-Selector, Row_of-BinaryPart, Row_of-TypedArg, Row_of-SetElem}
use Rattle.typed_tree.specs.declared.expressions.Selector.{Selector}
use Rattle.typed_tree.specs.declared.expressions.Selector.TheVariants as selector
use Rattle.typed_tree.specs.declared.expressions.TypedArg.{TypedArg, Held-TypedArg-Written-1}
use Rattle.typed_tree.specs.declared.expressions.TypedArg.TheVariants as arg
use Rattle.typed_tree.specs.declared.expressions.Place.{Place}
use Rattle.typed_tree.specs.declared.statements.TypedStmt as S
use Rattle.typed_tree.specs.declared.statements.TypedStmt.{TypedStmt, Row_of-TypedStmt}
use Rattle.typed_tree.specs.declared.statements.WithPart.{WithPart}
use Rattle.typed_tree.specs.declared.types.LabelRange.{LabelRange}
use Rattle.typed_tree.specs.declared.declarations.Owner.TheVariants.{Program, UnitPart, Routine as RoutineOwner}
use Rattle.typed_tree.specs.declared.declarations.Routine.{Routine}
use Rattle.typed_tree.specs.declared.declarations.Body.{Body}
use Rattle.typed_tree.specs.declared.declarations.Typed.{Typed}
use Rattle.typed_tree.specs.Ranges.{type_at}
use Rattle.meanings.specs.Values.{Tree, Whole, NilPointer, Reference}
use Rattle.meanings.specs.Outcomes.{Malformed, Passes, ◌&>◌}
use Rattle.meanings.specs.Programs.{Passed, ByValue, ByReference, ByRoutine, Heading, Outline, Prog, ◌>>=◌, ◌>>◌, pure, stop, check, collect}
use Rattle.meanings.specs.Code.{RoutineCode, BlockCode, Code, Answer, answer}
use Rattle.pascal_meaning.specs.Numbers.{number_of}
use Rattle.pascal_meaning.specs.Sets.{empty_set}
use Rattle.pascal_meaning.specs.Texts.{made}
use Rattle.pascal_meaning.specs.Places.{Spot, root_type, root_spot, field_spot, index_spot, follow_spot, refer, converted, assigned, store}
use Rattle.pascal_meaning.specs.Predefined.{Operand, Given, Target, Shown, Named, call_value, call_statement}
use Rattle.pascal_meaning.specs.Statements.{on_unary, choose_by, Part, go_on, Element, Member, Members, with_elements, select_all, read_place, resolve, call_routine, call_function, Item, sequence, goto, while_loop, repeat_loop, for_loop, no_case, cases, with_all, try_recover}

-- ---- types of expressions

unfoldable pub type_after : Selector → ℕ
type_after (selector.Index e a t) = t
type_after (selector.Field f t) = t
type_after (selector.Follow t) = t

unfoldable pub place_type : {m : _} → ℕ → Row_of-Selector m → ℕ
place_type t X.end_of-Selector = t
place_type t (X.more_of-Selector s rest) = place_type (type_after s) rest

unfoldable mutual
  -- the type of an expression; of `nil` none is asked
  pub expr_type : TypedExpr → ℕ
  expr_type (X.Number z t) = t
  expr_type (X.TextConst bs t) = t
  expr_type X.Nil = 0
  expr_type (X.Read' r shape row) = place_type (root_type r) row
  expr_type (X.Call' c shape row t) = t
  expr_type (X.Unary' op p row t) = t
  expr_type (X.Binary' p (X.more_of-TypedExpr e X.end_of-TypedExpr) shape row) = parts_type (expr_type e) row
  expr_type (X.SetOf' shape row t) = t
  expr_type (X.Predefined' c shape row t) = t

  pub parts_type : {m : _} → ℕ → Row_of-BinaryPart m → ℕ
  parts_type t X.end_of-BinaryPart = t
  parts_type t (X.more_of-BinaryPart op e u rest) = parts_type u rest

-- ---- expressions

unfoldable mutual
  pub Value : TypedExpr → Prog Tree
  Value (X.Number z t) = pure (Whole z)
  Value (X.TextConst bs t) = pure (made bs)
  Value X.Nil = pure NilPointer
  Value (X.Read' r shape row) = read_place r (root_spot r >>= λ p. select_all (selectors row) p)
  Value (X.Call' c shape row t) = call_function c (arguments row)
  Value (X.Unary' op p (X.more_of-TypedExpr e X.end_of-TypedExpr) t) = Value e >>= λ v. check (λ types. on_unary op v)
  Value (X.Binary' p (X.more_of-TypedExpr e X.end_of-TypedExpr) shape row) = Value e >>= λ v. go_on (parts row) (expr_type e) v
  Value (X.SetOf' shape row t) = with_elements (elements row) empty_set
  Value (X.Predefined' c shape row t) = collect (operands row) >>= λ xs. call_value c xs t

  -- what a selector does to the place before it
  pub selected : Selector → Spot → Prog Spot
  selected (selector.Index e a t) p = Value e >>= λ v. index_spot a t p v
  selected (selector.Field f t) p = field_spot f t p
  selected (selector.Follow t) p = follow_spot t p

  pub selectors : {m : _} → Row_of-Selector m → List (Spot → Prog Spot)
  selectors X.end_of-Selector = []
  selectors (X.more_of-Selector s rest) = selected s ∷ selectors rest

  pub parts : {m : _} → Row_of-BinaryPart m → List Part
  parts X.end_of-BinaryPart = []
  parts (X.more_of-BinaryPart op e t rest) = record { op = op; operand = Value e; type = expr_type e; of = t } ∷ parts rest

  pub elements : {m : _} → Row_of-SetElem m → List Element
  elements X.end_of-SetElem = []
  elements (X.more_of-SetElem e X.None' rest) = Member (Value e) ∷ elements rest
  elements (X.more_of-SetElem e (X.Some' f) rest) = Members (Value e) (Value f) ∷ elements rest

  -- an argument of a routine: a value is converted in its turn, a place becomes a reference in its turn
  pub argument : TypedArg → Prog Passed
  argument (arg.Value e t) = Value e >>= λ v. check (λ types. converted types t (type_at types (expr_type e)) v) >>= λ v. pure (ByValue v)
  argument (arg.Reference' r shape row) = (root_spot r >>= λ p. select_all (selectors row) p) >>= λ p. refer p >>= λ r. pure (ByReference r)
  argument (arg.RoutineValue c) = resolve c >>= λ r. pure (ByRoutine r)
  argument (arg.Written' e k) = stop Malformed

  pub arguments : {m : _} → Row_of-TypedArg m → List (Prog Passed)
  arguments X.end_of-TypedArg = []
  arguments (X.more_of-TypedArg a rest) = argument a ∷ arguments rest

  -- an argument of a predefined call: a place is selected, and a width comes after the written value
  pub operand : TypedArg → Prog Operand
  operand (arg.Value e t) = Value e >>= λ v. pure (Given (expr_type e) v)
  operand (arg.Reference' r shape row) = (root_spot r >>= λ p. select_all (selectors row) p) >>= λ p. pure (Target p)
  operand (arg.RoutineValue c) = pure (Named c)
  operand (arg.Written' e k) = Value e >>= λ v. width k >>= λ k. pure (Shown (expr_type e) v k)

  pub operands : {m : _} → Row_of-TypedArg m → List (Prog Operand)
  operands X.end_of-TypedArg = []
  operands (X.more_of-TypedArg a rest) = operand a ∷ operands rest

  pub width : Held-TypedArg-Written-1 → Prog (Option ℤ)
  width X.None' = pure None
  width (X.Some' e) = Value e >>= λ v. check (λ types. number_of v &> λ z. Passes (Some z))

-- the place that is selected
unfoldable pub Select : Place → Prog Spot
Select p = root_spot p.root >>= λ q. select_all (map selected p.selectors) q

-- the reference of a `with`, with its name
unfoldable pub with_part : WithPart → ℕ × Prog Reference
with_part p = (p.decl, (Select p.place >>= λ q. refer q))

-- ---- statements

unfoldable mutual
  pub Exec : TypedStmt → Prog (Unit {0})
  Exec S.Empty = pure tt
  Exec (S.Assign p e t) = Select p >>= λ q. Value e >>= λ v. check (λ types. assigned types t (type_at types (expr_type e)) v) >>= λ v. store q v
  Exec (S.Call c args) = call_routine c (map argument args) >> pure tt
  Exec (S.Predefined c args) = call_statement c (map operand args)
  Exec (S.Goto l) = goto l
  Exec (S.Seq' shape row) = sequence (items row)
  Exec (S.If' e p (S.more_of-TypedStmt body S.end_of-TypedStmt) other) = Value e >>= λ v. choose_by v (Exec body) (otherwise (pure tt) other)
  Exec (S.Case' e shape row rest) = Value e >>= λ v. cases (arms row) (otherwise no_case rest) v
  Exec (S.While' e p (S.more_of-TypedStmt body S.end_of-TypedStmt)) = while_loop (Value e) (Exec body)
  Exec (S.Repeat' shape row e) = repeat_loop (sequence (items row)) (Value e)
  Exec (S.For' v first down last p (S.more_of-TypedStmt body S.end_of-TypedStmt)) = for_loop v.decl v.of down (Value first) (Value last) (Exec body)
  Exec (S.With' ps p (S.more_of-TypedStmt body S.end_of-TypedStmt)) = with_all (map with_part ps) (Exec body)
  Exec (S.Try' shape row p (S.more_of-TypedStmt rest S.end_of-TypedStmt)) = try_recover (sequence (items row)) (Exec rest)
  Exec (S.Labelled' l p (S.more_of-TypedStmt body S.end_of-TypedStmt)) = sequence (record { label = Some l; run = Exec body } ∷ [])

  pub items : {m : _} → Row_of-TypedStmt m → List Item
  items S.end_of-TypedStmt = []
  items (S.more_of-TypedStmt (S.Labelled' l p (S.more_of-TypedStmt body S.end_of-TypedStmt)) rest) = record { label = Some l; run = Exec body } ∷ items rest
  items (S.more_of-TypedStmt s rest) = record { label = None; run = Exec s } ∷ items rest

  pub arms : {m : _} → S.Row_of-TypedArm m → List (List LabelRange × Prog (Unit {0}))
  arms S.end_of-TypedArm = []
  arms (S.more_of-TypedArm labels body rest) = (labels, Exec body) ∷ arms rest

  pub otherwise : Prog (Unit {0}) → S.Held-TypedStmt-If-2 → Prog (Unit {0})
  otherwise p S.None' = p
  otherwise p (S.Some' q (S.more_of-TypedStmt s S.end_of-TypedStmt)) = Exec s

-- ---- programs

unfoldable pub routine_heading : Routine → Heading
routine_heading r = record { owner = RoutineOwner r.number; parent = r.parent; labels = r.labels }

unfoldable pub unit_headings : (i : ℕ) → List Body → List Heading
unit_headings i [] = []
unit_headings i (b ∷ bs) = record { owner = UnitPart i; parent = UnitPart i; labels = b.labels } ∷ unit_headings (suc i) bs

unfoldable pub headings : Typed → List Heading
headings p = record { owner = Program; parent = Program; labels = p.main.labels } ∷ (unit_headings 0 p.units ++ map routine_heading p.routines)

unfoldable pub outline : Typed → Outline
outline p = record { types = p.types; blocks = headings p }

unfoldable pub routine_code : Routine → RoutineCode
routine_code r = record { number = r.number; formals = r.formals; result = r.result; locals = r.locals; run = Exec r.body }

unfoldable pub block_code : Body → BlockCode
block_code b = record { locals = b.locals; run = Exec b.body }

unfoldable pub code : Typed → Code
code p = record { outline = outline p; routines = map routine_code p.routines; units = map block_code p.units; main = block_code p.main }

-- what a typed program answers at the bound n
unfoldable pub Pas : Typed → (input : List ℕ) → (n : ℕ) → Answer
Pas p input n = answer (code p) input n
