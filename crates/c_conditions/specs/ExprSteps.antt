-- Steps over expressions and places.
use Rattle.c_tree.specs.Tree.{Expr, Read, Number, WordNumber, Null, Address, Unary, Binary, Cast, Place, Variable, Pointee, Member, Index}
use Rattle.c_tree.specs.declared.operators.CCast.{CCast}
use Rattle.c_tree.specs.declared.operators.CCast.TheVariants as cast
use Rattle.c_tree.specs.declared.expr.CSelector.{CSelector}
use Rattle.c_tree.specs.declared.expr.CSelector.TheVariants as selector
use Rattle.c_conditions.specs.Steps.{Step, ◌>>◌, pass}
use Rattle.c_conditions.specs.TypeSteps.{pointed_struct}

abbrev pub cast_step : CCast → Step
cast_step cast.Int = pass 1
cast_step cast.Word = pass 1
cast_step cast.VoidPointer = pass 2
cast_step (cast.StructPointer name) = pointed_struct name >> pass 1

unfoldable mutual
  pub expr_step : Expr → Step
  expr_step (Read p) = place_step p
  expr_step (Number n) = pass 4
  expr_step (WordNumber n) = pass 4
  expr_step Null = pass 1
  expr_step (Address p) = pass 2 >> place_step p >> pass 1
  expr_step (Unary op a) = pass 2 >> expr_step a >> pass 1
  expr_step (Binary op a b) = pass 1 >> expr_step a >> pass 1 >> expr_step b >> pass 1
  expr_step (Cast to a) = pass 2 >> cast_step to >> pass 1 >> expr_step a >> pass 1

  pub place_step : Place → Step
  place_step (Variable n) = pass 1
  place_step (Pointee a) = pass 2 >> expr_step a >> pass 1
  place_step (Member p n) = place_step p >> pass 2
  place_step (Index p a) = place_step p >> pass 1 >> expr_step a >> pass 1

abbrev pub selector_step : CSelector → Step
selector_step (selector.Member n) = pass 2
selector_step (selector.Index a) = pass 1 >> expr_step a >> pass 1
