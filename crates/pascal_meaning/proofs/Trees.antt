-- A judgement that the combinators keep holds of every expression and every statement.
use Rattle.std.proofs.Common.{List, [], ◌∷◌, map}
use Rattle.typed_tree.specs.declared.expressions.TypedExpr as X
use Rattle.typed_tree.specs.declared.expressions.TypedExpr.{TypedExpr, Row_of-Selector, Row_of-BinaryPart, Row_of-TypedArg, Row_of-SetElem}
use Rattle.typed_tree.specs.declared.expressions.Selector.{Selector}
use Rattle.typed_tree.specs.declared.expressions.Selector.TheVariants as selector
use Rattle.typed_tree.specs.declared.expressions.TypedArg.{TypedArg, Held-TypedArg-Written-1}
use Rattle.typed_tree.specs.declared.expressions.TypedArg.TheVariants as arg
use Rattle.typed_tree.specs.declared.expressions.Place.{Place}
use Rattle.typed_tree.specs.declared.statements.TypedStmt as S
use Rattle.typed_tree.specs.declared.statements.TypedStmt.{TypedStmt, Row_of-TypedStmt}
use Rattle.typed_tree.specs.declared.statements.WithPart.{WithPart}
use Rattle.meanings.specs.Programs.{Prog}
use Rattle.meanings.specs.Judgement.{Judgement}
use Rattle.pascal_meaning.specs.Places.{Spot}
use Rattle.pascal_meaning.specs.Meaning.{Value, selected, selectors, parts, elements, argument, arguments, operand, operands, width, Select, with_part, Exec, items, arms, otherwise}
use Rattle.pascal_meaning.proofs.Steps as s
use Rattle.pascal_meaning.proofs.Steps.{Each, EachSelector, EachPart, OfElement, One, Two, EachElement, EachItem, EachArm, EachWith}

module _ (J : Judgement) where
  mutual
    unfolding Value

    pub of_value : (e : TypedExpr) → J.Holds (Value e)
    of_value (X.Number z t) = s.of_pure J _
    of_value (X.TextConst bs t) = s.of_pure J _
    of_value X.Nil = s.of_pure J _
    of_value (X.Read' r shape row) = s.of_read_place J r (s.bind J (s.of_root J r) (λ p. s.of_select_all J (of_selectors row) p))
    of_value (X.Call' c shape row t) = s.of_call_function J c (of_arguments row)
    of_value (X.Unary' op p (X.more_of-TypedExpr e X.end_of-TypedExpr) t) = s.bind J (of_value e) (λ v. s.of_check J _)
    of_value (X.Binary' p (X.more_of-TypedExpr e X.end_of-TypedExpr) shape row) = s.bind J (of_value e) (λ v. s.of_go_on J (of_parts row) _ v)
    of_value (X.SetOf' shape row t) = s.of_elements J (of_set_elements row) _
    of_value (X.Predefined' c shape row t) = s.bind J (s.of_collect J (of_operands row)) (λ xs. s.of_call_value J c xs t)

    pub of_selected : (x : Selector) (p : Spot) → J.Holds (selected x p)
    of_selected (selector.Index e a t) p = s.bind J (of_value e) (λ v. s.of_index J a t p v)
    of_selected (selector.Field f t) p = s.of_field J f t p
    of_selected (selector.Follow t) p = s.of_follow J t p

    of_selectors : {m : _} (row : Row_of-Selector m) → EachSelector J (selectors row)
    of_selectors X.end_of-Selector = EachSelector.Empty
    of_selectors (X.more_of-Selector x rest) = EachSelector.And (λ p. of_selected x p) (of_selectors rest)

    of_parts : {m : _} (row : Row_of-BinaryPart m) → EachPart J (parts row)
    of_parts X.end_of-BinaryPart = EachPart.Empty
    of_parts (X.more_of-BinaryPart op e t rest) = EachPart.And (of_value e) (of_parts rest)

    of_set_elements : {m : _} (row : Row_of-SetElem m) → EachElement J (elements row)
    of_set_elements X.end_of-SetElem = EachElement.Empty
    of_set_elements (X.more_of-SetElem e X.None' rest) = EachElement.And (One (of_value e)) (of_set_elements rest)
    of_set_elements (X.more_of-SetElem e (X.Some' f) rest) = EachElement.And (Two (of_value e) (of_value f)) (of_set_elements rest)

    pub of_argument : (a : TypedArg) → J.Holds (argument a)
    of_argument (arg.Value e t) = s.bind J (of_value e) (λ v. s.bind J (s.of_check J _) (λ v. s.of_pure J _))
    of_argument (arg.Reference' r shape row) = s.bind J (s.bind J (s.of_root J r) (λ p. s.of_select_all J (of_selectors row) p)) (λ p. s.bind J (s.of_refer J p) (λ r. s.of_pure J _))
    of_argument (arg.RoutineValue c) = s.bind J (s.of_resolve J c) (λ r. s.of_pure J _)
    of_argument (arg.Written' e k) = s.of_stop J _

    of_arguments : {m : _} (row : Row_of-TypedArg m) → Each J (arguments row)
    of_arguments X.end_of-TypedArg = Each.Empty
    of_arguments (X.more_of-TypedArg a rest) = Each.And (of_argument a) (of_arguments rest)

    pub of_operand : (a : TypedArg) → J.Holds (operand a)
    of_operand (arg.Value e t) = s.bind J (of_value e) (λ v. s.of_pure J _)
    of_operand (arg.Reference' r shape row) = s.bind J (s.bind J (s.of_root J r) (λ p. s.of_select_all J (of_selectors row) p)) (λ p. s.of_pure J _)
    of_operand (arg.RoutineValue c) = s.of_pure J _
    of_operand (arg.Written' e k) = s.bind J (of_value e) (λ v. s.bind J (of_width k) (λ k. s.of_pure J _))

    of_operands : {m : _} (row : Row_of-TypedArg m) → Each J (operands row)
    of_operands X.end_of-TypedArg = Each.Empty
    of_operands (X.more_of-TypedArg a rest) = Each.And (of_operand a) (of_operands rest)

    of_width : (k : Held-TypedArg-Written-1) → J.Holds (width k)
    of_width X.None' = s.of_pure J _
    of_width (X.Some' e) = s.bind J (of_value e) (λ v. s.of_check J _)

  each_selected : (xs : List Selector) → EachSelector J (map selected xs)
  each_selected [] = EachSelector.Empty
  each_selected (x ∷ xs) = EachSelector.And (λ p. of_selected x p) (each_selected xs)

  each_argument : (xs : List TypedArg) → Each J (map argument xs)
  each_argument [] = Each.Empty
  each_argument (x ∷ xs) = Each.And (of_argument x) (each_argument xs)

  each_operand : (xs : List TypedArg) → Each J (map operand xs)
  each_operand [] = Each.Empty
  each_operand (x ∷ xs) = Each.And (of_operand x) (each_operand xs)

  pub of_place : (p : Place) → J.Holds (Select p)
  unfolding Select
  of_place p = s.bind J (s.of_root J p.root) (λ q. s.of_select_all J (each_selected p.selectors) q)

  each_with : (ps : List WithPart) → EachWith J (map with_part ps)
  unfolding with_part
  each_with [] = EachWith.Empty
  each_with (p ∷ ps) = EachWith.And (s.bind J (of_place p.place) (λ q. s.of_refer J q)) (each_with ps)

  mutual
    unfolding Exec

    pub of_exec : (x : TypedStmt) → J.Holds (Exec x)
    of_exec S.Empty = s.of_pure J tt
    of_exec (S.Assign p e t) = s.bind J (of_place p) (λ q. s.bind J (of_value e) (λ v. s.bind J (s.of_check J _) (λ v. s.of_store J q v)))
    of_exec (S.Call c args) = s.next J (s.of_call_routine J c (each_argument args)) (s.of_pure J tt)
    of_exec (S.Predefined c args) = s.of_call_statement J c (each_operand args)
    of_exec (S.Goto l) = s.of_goto J l
    of_exec (S.Seq' shape row) = s.of_sequence J (of_items row)
    of_exec (S.If' e p (S.more_of-TypedStmt body S.end_of-TypedStmt) other) = s.bind J (of_value e) (λ v. s.of_choose_by J v (of_exec body) (of_otherwise (s.of_pure J tt) other))
    of_exec (S.Case' e shape row rest) = s.bind J (of_value e) (λ v. s.of_cases J (of_arms row) (of_otherwise (s.of_no_case J) rest) v)
    of_exec (S.While' e p (S.more_of-TypedStmt body S.end_of-TypedStmt)) = s.of_while J (of_value e) (of_exec body)
    of_exec (S.Repeat' shape row e) = s.of_repeat J (s.of_sequence J (of_items row)) (of_value e)
    of_exec (S.For' v first down last p (S.more_of-TypedStmt body S.end_of-TypedStmt)) = s.of_for J _ _ _ (of_value first) (of_value last) (of_exec body)
    of_exec (S.With' ps p (S.more_of-TypedStmt body S.end_of-TypedStmt)) = s.of_with J (each_with ps) (of_exec body)
    of_exec (S.Try' shape row p (S.more_of-TypedStmt rest S.end_of-TypedStmt)) = s.of_try J (s.of_sequence J (of_items row)) (of_exec rest)
    of_exec (S.Labelled' l p (S.more_of-TypedStmt body S.end_of-TypedStmt)) = s.of_sequence J (EachItem.And (of_exec body) EachItem.Empty)

    of_items : {m : _} (row : Row_of-TypedStmt m) → EachItem J (items row)
    of_items S.end_of-TypedStmt = EachItem.Empty
    of_items (S.more_of-TypedStmt (S.Labelled' l p (S.more_of-TypedStmt body S.end_of-TypedStmt)) rest) = EachItem.And (of_exec body) (of_items rest)
    of_items (S.more_of-TypedStmt x rest) = EachItem.And (of_exec x) (of_items rest)

    of_arms : {m : _} (row : S.Row_of-TypedArm m) → EachArm J (arms row)
    of_arms S.end_of-TypedArm = EachArm.Empty
    of_arms (S.more_of-TypedArm labels body rest) = EachArm.And (of_exec body) (of_arms rest)

    of_otherwise : {p : Prog (Unit {0})} → J.Holds p → (h : S.Held-TypedStmt-If-2) → J.Holds (otherwise p h)
    of_otherwise h S.None' = h
    of_otherwise h (S.Some' q (S.more_of-TypedStmt x S.end_of-TypedStmt)) = of_exec x
