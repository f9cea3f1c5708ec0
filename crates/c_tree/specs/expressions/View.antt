-- What an expression, level by level, and a place are seen as.
use Rattle.std.specs.Prelude.{◌≡◌, List, [], ◌∷◌, ◌++◌, refl}
use Rattle.c_tree.specs.expressions.Tree as tree
use Rattle.c_tree.specs.expressions.Tree.{Expr, Place}
use Rattle.c_tree.specs.declared.expr.CExprNode.{CExprNode}
use Rattle.c_tree.specs.declared.expr.CExprNode.TheVariants as node
use Rattle.c_tree.specs.declared.expr.CBasePlace.{CBasePlace}
use Rattle.c_tree.specs.declared.expr.CBasePlace.TheVariants as base
use Rattle.c_tree.specs.declared.expr.CSelector.{CSelector}
use Rattle.c_tree.specs.declared.expr.CSelector.TheVariants as selector

abbrev pub expr_of : CExprNode → Expr
expr_of (node.Read p) = tree.Read p
expr_of (node.Number n) = tree.Number n
expr_of (node.WordNumber n) = tree.WordNumber n
expr_of node.Null = tree.Null
expr_of (node.Address p) = tree.Address p
expr_of (node.Unary operator a) = tree.Unary operator a
expr_of (node.Binary operator a b) = tree.Binary operator a b
expr_of (node.Cast to a) = tree.Cast to a

-- a place before its selectors
abbrev pub base_place : CBasePlace → Place
base_place (base.Variable name) = tree.Variable name
base_place (base.Pointee a) = tree.Pointee a

-- what one selector selects of a place
abbrev pub select : Place → CSelector → Place
select p (selector.Member name) = tree.Member p name
select p (selector.Index a) = tree.Index p a

-- what selectors, one after another, select of a place
abbrev pub selected : Place → List CSelector → Place
selected p [] = p
selected p (s ∷ rest) = selected (select p s) rest

pub selected_more : (p : Place) (all : List CSelector) (s : CSelector) → selected p (all ++ s ∷ []) ≡ select (selected p all) s
selected_more p [] s = refl
selected_more p (first ∷ rest) s = selected_more (select p first) rest s
