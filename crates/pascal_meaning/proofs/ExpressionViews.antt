-- The meaning at the constructors as programs see them, where a box is what it holds and a collection is its list.
use Rattle.std.proofs.Common.{◌≡◌, ℕ, List, [], ◌∷◌, map, refl, ap, ◌∙◌, Option, Some, None}
use Rattle.typed_tree.specs.declared.expressions.TypedExpr as X
use Rattle.typed_tree.specs.declared.expressions.TypedExpr.{TypedExpr, Row_of-TypedExpr, Row_of-Selector, Row_of-BinaryPart, Row_of-TypedArg, Row_of-SetElem}
use Rattle.typed_tree.specs.declared.expressions.Selector.{Selector}
use Rattle.typed_tree.specs.declared.expressions.BinaryPart.{BinaryPart}
use Rattle.typed_tree.specs.declared.expressions.SetElem.{SetElem}
use Rattle.typed_tree.specs.declared.expressions.TypedArg.{TypedArg}
use Rattle.typed_tree.specs.declared.expressions.TypedArg.TheVariants as arg
use Rattle.typed_tree.specs.declared.expressions.Place.{Place}
use Rattle.typed_tree.specs.declared.declarations.Callee.{Callee}
use Rattle.typed_tree.specs.declared.operations.UnaryOp.{UnaryOp}
use Rattle.typed_tree.specs.declared.operations.PredefCall.{PredefCall}
use Rattle.meanings.specs.Values.{Tree}
use Rattle.meanings.specs.Outcomes.{Passes, ◌&>◌}
use Rattle.meanings.specs.Programs.{Prog, ByReference, ◌>>=◌, pure, check, collect}
use Rattle.pascal_meaning.specs.Sets.{empty_set}
use Rattle.pascal_meaning.specs.Numbers.{number_of}
use Rattle.pascal_meaning.specs.Places.{root_type, root_spot, refer}
use Rattle.pascal_meaning.specs.Predefined.{Target, Shown, call_value}
use Rattle.pascal_meaning.specs.Statements.{on_unary, Part, go_on, Element, Member, Members, with_elements, select_all, read_place, call_function}
use Rattle.pascal_meaning.specs.Meaning.{type_after, place_type, expr_type, parts_type, Value, Select, selected, selectors, parts, elements, argument, arguments, operand, operands}

-- ---- rows

selectors_list : {n : _} (row : Row_of-Selector n) → selectors row ≡ map selected (X.items-the_row-Selector n row)
unfolding Value
selectors_list X.end_of-Selector = refl
selectors_list (X.more_of-Selector s rest) = ap (λ xs. selected s ∷ xs) (selectors_list rest)

arguments_list : {n : _} (row : Row_of-TypedArg n) → arguments row ≡ map argument (X.items-the_row-TypedArg n row)
unfolding Value
arguments_list X.end_of-TypedArg = refl
arguments_list (X.more_of-TypedArg a rest) = ap (λ xs. argument a ∷ xs) (arguments_list rest)

operands_list : {n : _} (row : Row_of-TypedArg n) → operands row ≡ map operand (X.items-the_row-TypedArg n row)
unfolding Value
operands_list X.end_of-TypedArg = refl
operands_list (X.more_of-TypedArg a rest) = ap (λ xs. operand a ∷ xs) (operands_list rest)

-- an operator with its operand
pub part : BinaryPart → Part
part p = record { op = p.op; operand = Value p.operand; type = expr_type p.operand; of = p.of }

parts_list : {n : _} (row : Row_of-BinaryPart n) → parts row ≡ map part (X.items-the_row-BinaryPart n row)
unfolding Value part
parts_list X.end_of-BinaryPart = refl
parts_list (X.more_of-BinaryPart op e t rest) = ap (λ ps. record { op = op; operand = Value e; type = expr_type e; of = t } ∷ ps) (parts_list rest)

-- a member, or a range where a last one stands
pub element_of : Prog Tree → Option TypedExpr → Element
element_of p None = Member p
element_of p (Some e) = Members p (Value e)

elements_list : {n : _} (row : Row_of-SetElem n) → elements row ≡ map (λ e. element_of (Value e.first) e.last) (X.items-the_row-SetElem n row)
unfolding Value element_of
elements_list X.end_of-SetElem = refl
elements_list (X.more_of-SetElem e X.None' rest) = ap (λ es. Member (Value e) ∷ es) (elements_list rest)
elements_list (X.more_of-SetElem e (X.Some' f) rest) = ap (λ es. Members (Value e) (Value f) ∷ es) (elements_list rest)

-- ---- expressions

read_row : (p : Place) (shape : List (Unit {0})) (row : Row_of-Selector _) → X.items-the_row-Selector _ row ≡ p.selectors → Value (X.Read' p.root shape row) ≡ read_place p.root (Select p)
unfolding Value Select
read_row p shape row h = ap (λ fs. read_place p.root (root_spot p.root >>= λ q. select_all fs q)) (selectors_list row ∙ ap (map selected) h)

pub value_read : (p : Place) → Value (X.Read p) ≡ read_place p.root (Select p)
value_read p = read_row p _ _ (X.items_hidden-the_row-Selector-0 p.selectors)

call_row : (c : Callee) (shape : List (Unit {0})) (row : Row_of-TypedArg _) (args : List TypedArg) (t : ℕ) → X.items-the_row-TypedArg _ row ≡ args → Value (X.Call' c shape row t) ≡ call_function c (map argument args)
unfolding Value
call_row c shape row args t h = ap (call_function c) (arguments_list row ∙ ap (map argument) h)

pub value_call : (c : Callee) (args : List TypedArg) (t : ℕ) → Value (X.Call c args t) ≡ call_function c (map argument args)
value_call c args t = call_row c _ _ args t (X.items_hidden-the_row-TypedArg-1 args)

predefined_row : (c : PredefCall) (shape : List (Unit {0})) (row : Row_of-TypedArg _) (args : List TypedArg) (t : ℕ) → X.items-the_row-TypedArg _ row ≡ args
    → Value (X.Predefined' c shape row t) ≡ (collect (map operand args) >>= λ xs. call_value c xs t)
unfolding Value
predefined_row c shape row args t h = ap (λ ps. collect ps >>= λ xs. call_value c xs t) (operands_list row ∙ ap (map operand) h)

pub value_predefined : (c : PredefCall) (args : List TypedArg) (t : ℕ) → Value (X.Predefined c args t) ≡ (collect (map operand args) >>= λ xs. call_value c xs t)
value_predefined c args t = predefined_row c _ _ args t (X.items_hidden-the_row-TypedArg-1 args)

-- a member of a constructor
abbrev pub element : SetElem → Element
element e = element_of (Value e.first) e.last

set_row : (shape : List (Unit {0})) (row : Row_of-SetElem _) (es : List SetElem) (t : ℕ) → X.items-the_row-SetElem _ row ≡ es → Value (X.SetOf' shape row t) ≡ with_elements (map element es) empty_set
unfolding Value
set_row shape row es t h = ap (λ es. with_elements es empty_set) (elements_list row ∙ ap (map element) h)

pub value_set : (es : List SetElem) (t : ℕ) → Value (X.SetOf es t) ≡ with_elements (map element es) empty_set
value_set es t = set_row _ _ es t (X.items_hidden-the_row-SetElem-4 es)

unary_row : (op : UnaryOp) (row : Row_of-TypedExpr 1) (e : TypedExpr) (t : ℕ) → X.items-the_row-TypedExpr 1 row ≡ e ∷ [] → Value (X.Unary' op tt row t) ≡ (Value e >>= λ v. check (λ types. on_unary op v))
unfolding Value
unary_row op (X.more_of-TypedExpr x X.end_of-TypedExpr) e t h = let same : x ≡ e = cc in ap (λ e. Value e >>= λ v. check (λ types. on_unary op v)) same

pub value_unary : (op : UnaryOp) (e : TypedExpr) (t : ℕ) → Value (X.Unary op e t) ≡ (Value e >>= λ v. check (λ types. on_unary op v))
value_unary op e t = unary_row op _ e t (X.items_hidden-the_row-TypedExpr-2 e)

binary_row : (row : Row_of-TypedExpr 1) (e : TypedExpr) (shape : List (Unit {0})) (others : Row_of-BinaryPart _) (ps : List BinaryPart)
    → X.items-the_row-TypedExpr 1 row ≡ e ∷ [] → X.items-the_row-BinaryPart _ others ≡ ps → Value (X.Binary' tt row shape others) ≡ (Value e >>= λ v. go_on (map part ps) (expr_type e) v)
unfolding Value
binary_row (X.more_of-TypedExpr x X.end_of-TypedExpr) e shape others ps h k =
    let same : x ≡ e = cc in
    ap (λ e. Value e >>= λ v. go_on (parts others) (expr_type e) v) same ∙ ap (λ qs. Value e >>= λ v. go_on qs (expr_type e) v) (parts_list others ∙ ap (map part) k)

pub value_binary : (e : TypedExpr) (ps : List BinaryPart) → Value (X.Binary e ps) ≡ (Value e >>= λ v. go_on (map part ps) (expr_type e) v)
value_binary e ps = binary_row _ e _ _ ps (X.items_hidden-the_row-TypedExpr-2 e) (X.items_hidden-the_row-BinaryPart-3 ps)

-- ---- arguments

argument_row : (p : Place) (shape : List (Unit {0})) (row : Row_of-Selector _) → X.items-the_row-Selector _ row ≡ p.selectors → argument (arg.Reference' p.root shape row) ≡ (Select p >>= λ q. refer q >>= λ r. pure (ByReference r))
unfolding Value Select
argument_row p shape row h = ap (λ fs. (root_spot p.root >>= λ q. select_all fs q) >>= λ q. refer q >>= λ r. pure (ByReference r)) (selectors_list row ∙ ap (map selected) h)

pub argument_reference : (p : Place) → argument (arg.Reference p) ≡ (Select p >>= λ q. refer q >>= λ r. pure (ByReference r))
argument_reference p = argument_row p _ _ (X.items_hidden-the_row-Selector-0 p.selectors)

operand_row : (p : Place) (shape : List (Unit {0})) (row : Row_of-Selector _) → X.items-the_row-Selector _ row ≡ p.selectors → operand (arg.Reference' p.root shape row) ≡ (Select p >>= λ q. pure (Target q))
unfolding Value Select
operand_row p shape row h = ap (λ fs. (root_spot p.root >>= λ q. select_all fs q) >>= λ q. pure (Target q)) (selectors_list row ∙ ap (map selected) h)

pub operand_reference : (p : Place) → operand (arg.Reference p) ≡ (Select p >>= λ q. pure (Target q))
operand_reference p = operand_row p _ _ (X.items_hidden-the_row-Selector-0 p.selectors)

pub operand_written : (e : TypedExpr) → operand (arg.Written e None) ≡ (Value e >>= λ v. pure None >>= λ k. pure (Shown (expr_type e) v k))
unfolding Value
operand_written e = refl

pub operand_wide : (e k : TypedExpr) → operand (arg.Written e (Some k)) ≡ (Value e >>= λ v. (Value k >>= λ z. check (λ types. number_of z &> λ n. Passes (Some n))) >>= λ k. pure (Shown (expr_type e) v k))
unfolding Value
operand_wide e k = refl

-- ---- types

-- the type after these selectors
pub type_through : ℕ → List Selector → ℕ
type_through t [] = t
type_through t (s ∷ ss) = type_through (type_after s) ss

through_list : {n : _} (t : ℕ) (row : Row_of-Selector n) → place_type t row ≡ type_through t (X.items-the_row-Selector n row)
unfolding place_type type_through
through_list t X.end_of-Selector = refl
through_list t (X.more_of-Selector s rest) = through_list (type_after s) rest

type_read_row : (p : Place) (shape : List (Unit {0})) (row : Row_of-Selector _) → X.items-the_row-Selector _ row ≡ p.selectors → expr_type (X.Read' p.root shape row) ≡ type_through (root_type p.root) p.selectors
unfolding expr_type
type_read_row p shape row h = through_list (root_type p.root) row ∙ ap (type_through (root_type p.root)) h

pub type_read : (p : Place) → expr_type (X.Read p) ≡ type_through (root_type p.root) p.selectors
type_read p = type_read_row p _ _ (X.items_hidden-the_row-Selector-0 p.selectors)

-- the type after these operators
pub type_along : ℕ → List BinaryPart → ℕ
type_along t [] = t
type_along t (p ∷ ps) = type_along p.of ps

along_list : {n : _} (t : ℕ) (row : Row_of-BinaryPart n) → parts_type t row ≡ type_along t (X.items-the_row-BinaryPart n row)
unfolding expr_type type_along
along_list t X.end_of-BinaryPart = refl
along_list t (X.more_of-BinaryPart op e u rest) = along_list u rest

type_binary_row : (row : Row_of-TypedExpr 1) (e : TypedExpr) (shape : List (Unit {0})) (others : Row_of-BinaryPart _) (ps : List BinaryPart)
    → X.items-the_row-TypedExpr 1 row ≡ e ∷ [] → X.items-the_row-BinaryPart _ others ≡ ps → expr_type (X.Binary' tt row shape others) ≡ type_along (expr_type e) ps
unfolding expr_type
type_binary_row (X.more_of-TypedExpr x X.end_of-TypedExpr) e shape others ps h k =
    let same : x ≡ e = cc in
    along_list (expr_type x) others ∙ ap (type_along (expr_type x)) k ∙ ap (λ e. type_along (expr_type e) ps) same

pub type_binary : (e : TypedExpr) (ps : List BinaryPart) → expr_type (X.Binary e ps) ≡ type_along (expr_type e) ps
type_binary e ps = type_binary_row _ e _ _ ps (X.items_hidden-the_row-TypedExpr-2 e) (X.items_hidden-the_row-BinaryPart-3 ps)

pub type_call : (c : Callee) (args : List TypedArg) (t : ℕ) → expr_type (X.Call c args t) ≡ t
unfolding expr_type
type_call c args t = refl

pub type_unary : (op : UnaryOp) (e : TypedExpr) (t : ℕ) → expr_type (X.Unary op e t) ≡ t
unfolding expr_type
type_unary op e t = refl

pub type_set : (es : List SetElem) (t : ℕ) → expr_type (X.SetOf es t) ≡ t
unfolding expr_type
type_set es t = refl

pub type_predefined : (c : PredefCall) (args : List TypedArg) (t : ℕ) → expr_type (X.Predefined c args t) ≡ t
unfolding expr_type
type_predefined c args t = refl
