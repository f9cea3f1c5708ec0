-- Which tokens a tree of the grammar has, with which tokens one begins, and where a node of some level may begin. A kind of trees is given by their layouts, and by which of them are formed as the grammar asks.
use Rattle.std.specs.Prelude.{◌≡◌, ℕ, Bool, ◌≤◌, List, [], ◌∷◌, ◌++◌, length, Ok}
use Rattle.std.specs.List.{Contains}
use Rattle.p2c_text.specs.declared.dialect.Dialect.{Dialect}
use Rattle.p2c_text.specs.declared.place.Span.{Span}
use Rattle.pascal_tree.specs.declared.expressions.Expr.{Expr}
use Rattle.token_parsing.specs.Parser.{Parser}
use Rattle.expr_parser.specs.Tokens.{Token, Placed, plain}
use Rattle.expr_parser.specs.Layout.{Layout, tokens_of, height_of, levels_of, IsWritten}
use Rattle.expr_parser.specs.Writing.{write_expr}
use Rattle.expr_parser.specs.Grammar.{AreTokens, IsTree, formed_expr}

-- ---- for each kind of trees

-- the tree is that of the tokens `from` up to `rest`, and no path of it has more counted nodes than this
pub record IsDerived {C : Type 0} (d : Dialect) (layout : C → Layout) (form : C → Bool) (end : Span) (levels : ℕ) (c : C) (from rest : List Placed) : Type 0 where
  pub of_grammar : IsTree d layout form c
  pub written : IsWritten end (layout c) from rest
  pub fits : height_of (layout c) ≤ levels

-- some tree, whatever its height, begins with these tokens
abbrev pub Begins : {C : Type 0} → Dialect → (C → Layout) → (C → Bool) → List Token → Type 0
Begins {C} d layout form tokens = (c : C) × (more : List Token) × IsTree d layout form c × (tokens_of (layout c) ≡ tokens ++ more)

-- after these tokens of a tree whose outermost nodes are of the outer level, a node of this level may begin
abbrev pub MayBeginIn : {C : Type 0} → Dialect → (C → Layout) → (C → Bool) → (outer level : ℕ) → List Token → Type 0
MayBeginIn {C} d layout form outer level front =
    (c : C) × (more : List Token) × IsTree d layout form c × (tokens_of (layout c) ≡ front ++ more) × Contains (levels_of outer 0 (layout c)) (length front, level)

-- A tree begins with the run, and with no longer front of these tokens.
pub record IsLongest {C : Type 0} (d : Dialect) (layout : C → Layout) (form : C → Bool) (from run rest : List Placed) : Type 0 where
  pub is : from ≡ run ++ rest
  pub begins : Begins d layout form (plain run)
  pub no_longer : (t : Placed) (more : List Placed) → rest ≡ t ∷ more → Begins d layout form (plain (run ++ t ∷ [])) → ⊥

-- no tree has just these tokens
abbrev pub NoTree : {C : Type 0} → Dialect → (C → Layout) → (C → Bool) → List Placed → Type 0
NoTree {C} d layout form run = (c : C) → IsTree d layout form c → tokens_of (layout c) ≡ plain run → ⊥

-- the longest run has no tree with so few levels
abbrev pub NoneFits : {C : Type 0} → Dialect → (C → Layout) → (C → Bool) → (levels : ℕ) → List Placed → Type 0
NoneFits {C} d layout form levels from =
    (run rest : List Placed) → IsLongest d layout form from run rest → (c : C) → IsTree d layout form c → tokens_of (layout c) ≡ plain run → height_of (layout c) ≤ levels → ⊥

-- no two trees are written so by the same tokens
abbrev pub AreUnique : {C : Type 0} → (Dialect → C → Layout) → (Dialect → C → Bool) → Type 0
AreUnique {C} layout form = (d : Dialect) (end : Span) (m n : ℕ) (a b : C) (from rest : List Placed) → IsDerived d (layout d) (form d) end m a from rest → IsDerived d (layout d) (form d) end n b from rest → a ≡ b

-- where the longest run has a tree within the levels, the parser gives that tree
abbrev pub ReadsLongest : {C : Type 0} → (Dialect → C → Layout) → (Dialect → C → Bool) → (Dialect → Span → ℕ → Parser Placed C) → Type 0
ReadsLongest {C} layout form p =
    (d : Dialect) (end : Span) (levels : ℕ) (from run rest : List Placed) (c : C) → AreTokens d (plain from) → IsLongest d (layout d) (form d) from run rest → IsDerived d (layout d) (form d) end levels c from rest → p d end levels from ≡ Ok (c, rest)

-- ---- for expressions

abbrev pub Derives : Dialect → Span → ℕ → Expr → List Placed → List Placed → Type 0
Derives d end levels e from rest = IsDerived d write_expr (formed_expr d) end levels e from rest

abbrev pub MayBegin : Dialect → (outer level : ℕ) → List Token → Type 0
MayBegin d outer level front = MayBeginIn d write_expr (formed_expr d) outer level front

abbrev pub IsLongestRun : Dialect → (from run rest : List Placed) → Type 0
IsLongestRun d from run rest = IsLongest d write_expr (formed_expr d) from run rest

abbrev pub NoExpr : Dialect → List Placed → Type 0
NoExpr d run = NoTree d write_expr (formed_expr d) run

abbrev pub NoFitting : Dialect → (levels : ℕ) → List Placed → Type 0
NoFitting d levels from = NoneFits d write_expr (formed_expr d) levels from
