-- Whether a call follows is seen by what stands after its callee.
use Rattle.std.proofs.Common.{◌≡◌, ℕ, suc, List, ◌∷◌, refl, ◌∙◌}
use Rattle.c_tree.specs.Tree.{Expr, Read, Number, WordNumber, Null, Address, Unary, Binary, Cast, Place, Variable, Pointee, Member, Index}
use Rattle.c_tree.specs.declared.operators.CUnary.{CUnary}
use Rattle.c_tree.specs.declared.operators.CUnary.TheVariants as unary_
use Rattle.c_tree.specs.declared.operators.CBinary.{CBinary}
use Rattle.c_tree.specs.declared.operators.CBinary.TheVariants as binary_
use Rattle.c_tree.specs.declared.operators.CCast.{CCast}
use Rattle.c_tree.specs.declared.operators.CCast.TheVariants as cast_
use Rattle.c_grammar.specs.declared.token.Mark.TheVariants as mark
use Rattle.c_grammar.specs.Token.{Token, Identifier, Sign}
use Rattle.c_grammar.specs.Spelling.{spell_cast, spell_expr, spell_place, unary_mark, binary_mark}
use Rattle.token_parsing.specs.Parser.{begins}
use Rattle.c_expr_parser.specs.Classes.{same_mark}
use Rattle.c_parser.specs.Statements.{after_group}

unary_skipped : (op : CUnary) (n : ℕ) (w : List Token) → after_group n (Sign (unary_mark op) ∷ w) ≡ after_group n w
unfolding after_group begins same_mark
unary_skipped unary_.Minus n w = refl
unary_skipped unary_.Not n w = refl
unary_skipped unary_.Complement n w = refl

binary_skipped : (op : CBinary) (n : ℕ) (w : List Token) → after_group n (Sign (binary_mark op) ∷ w) ≡ after_group n w
unfolding after_group begins same_mark
binary_skipped binary_.Add n w = refl
binary_skipped binary_.Subtract n w = refl
binary_skipped binary_.Multiply n w = refl
binary_skipped binary_.Divide n w = refl
binary_skipped binary_.Remainder n w = refl
binary_skipped binary_.Equal n w = refl
binary_skipped binary_.NotEqual n w = refl
binary_skipped binary_.Less n w = refl
binary_skipped binary_.AtMost n w = refl
binary_skipped binary_.Greater n w = refl
binary_skipped binary_.AtLeast n w = refl
binary_skipped binary_.And n w = refl
binary_skipped binary_.Or n w = refl
binary_skipped binary_.BitAnd n w = refl
binary_skipped binary_.BitOr n w = refl
binary_skipped binary_.BitXor n w = refl
binary_skipped binary_.ShiftLeft n w = refl
binary_skipped binary_.ShiftRight n w = refl

cast_skipped : (to : CCast) (n : ℕ) (w : List Token) → after_group n (spell_cast to w) ≡ after_group n w
unfolding after_group begins same_mark
cast_skipped cast_.Int n w = refl
cast_skipped cast_.Word n w = refl
cast_skipped cast_.VoidPointer n w = refl
cast_skipped (cast_.StructPointer name) n w = refl

mutual
  unfolding after_group begins same_mark

  pub expr_skipped : (e : Expr) (n : ℕ) (w : List Token) → after_group n (spell_expr e w) ≡ after_group n w
  expr_skipped (Read p) n w = place_skipped p n w
  expr_skipped (Number m) n w = refl
  expr_skipped (WordNumber m) n w = refl
  expr_skipped Null n w = refl
  expr_skipped (Address p) n w = place_skipped p (suc n) (Sign mark.Close ∷ w)
  expr_skipped (Unary op a) n w = unary_skipped op (suc n) (spell_expr a (Sign mark.Close ∷ w)) ∙ expr_skipped a (suc n) (Sign mark.Close ∷ w)
  expr_skipped (Binary op a b) n w =
      expr_skipped a (suc n) (Sign (binary_mark op) ∷ spell_expr b (Sign mark.Close ∷ w)) ∙ binary_skipped op (suc n) (spell_expr b (Sign mark.Close ∷ w)) ∙ expr_skipped b (suc n) (Sign mark.Close ∷ w)
  expr_skipped (Cast to a) n w = cast_skipped to (suc (suc n)) (Sign mark.Close ∷ spell_expr a (Sign mark.Close ∷ w)) ∙ expr_skipped a (suc n) (Sign mark.Close ∷ w)

  pub place_skipped : (p : Place) (n : ℕ) (w : List Token) → after_group n (spell_place p w) ≡ after_group n w
  place_skipped (Variable name) n w = refl
  place_skipped (Pointee a) n w = expr_skipped a (suc n) (Sign mark.Close ∷ w)
  place_skipped (Member p name) n w = place_skipped p n (Sign mark.Dot ∷ Identifier name ∷ w)
  place_skipped (Index p a) n w = place_skipped p n (Sign mark.OpenBracket ∷ spell_expr a (Sign mark.CloseBracket ∷ w)) ∙ expr_skipped a n (Sign mark.CloseBracket ∷ w)
