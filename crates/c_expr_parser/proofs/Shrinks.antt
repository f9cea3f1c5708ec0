-- No parser gives tokens back.
use Rattle.std.proofs.Common.{ℕ, zero, suc, Option, Some, None, Ok}
use Rattle.c_tree.specs.Tree.{ObjectType, VoidPointer, Expr, Place}
use Rattle.c_grammar.specs.declared.token.Word.TheVariants as word
use Rattle.c_grammar.specs.declared.token.Mark.TheVariants as mark
use Rattle.c_grammar.specs.Token.{Token}
use Rattle.token_parsing.specs.Parser.{Parser, and_then, begins, either}
use Rattle.token_parsing.proofs.Tracked.{Shrinks, one_shrinks, then_shrinks, pure_shrinks, stop_shrinks, either_shrinks, repeat_shrinks}
use Rattle.c_expr_parser.specs.Classes.{names, words, marks, unaries, expect}
use Rattle.c_expr_parser.specs.Types.{struct_type, byte_type, void_pointer, base_type, pointer_to, stars, object_type, after_void, result_type, struct_pointer, void_cast, cast_type}
use Rattle.c_expr_parser.specs.Expressions.{number, word_number, null, member, element, selected, begins_selector, selectors, pointee, variable, base_place, place, read_pointee, address, unary, binary, cast, begins_cast, opened, read_variable, expr_by, expr}
use Rattle.c_expr_parser.proofs.Closed.{closed_shrinks}

-- ---- types

pub pointer_to_shrinks : (of : ObjectType) → Shrinks (pointer_to of)
unfolding pointer_to
pointer_to_shrinks of = then_shrinks (one_shrinks _) (λ _. pure_shrinks _)

pub stars_shrinks : (of : ObjectType) → Shrinks (stars of)
unfolding stars
stars_shrinks of = repeat_shrinks (begins (marks mark.Star)) pointer_to pointer_to_shrinks of

base_type_shrinks : Shrinks base_type
unfolding base_type struct_type byte_type void_pointer
base_type_shrinks =
    either_shrinks (begins names) (then_shrinks (one_shrinks _) (λ n. pure_shrinks _))
    (either_shrinks (begins (words word.Struct)) (then_shrinks (one_shrinks _) (λ _. then_shrinks (one_shrinks _) (λ n. pure_shrinks _)))
    (either_shrinks (begins (words word.Unsigned)) (then_shrinks (one_shrinks _) (λ _. then_shrinks (one_shrinks _) (λ _. pure_shrinks _)))
    (either_shrinks (begins (words word.Void)) (then_shrinks (one_shrinks _) (λ _. then_shrinks (one_shrinks _) (λ _. pure_shrinks _)))
    (then_shrinks (one_shrinks _) (λ of. pure_shrinks _)))))

pub type_shrinks : Shrinks object_type
unfolding object_type
type_shrinks = then_shrinks base_type_shrinks stars_shrinks

-- after `void`
pub after_shrinks : (a : Unit {0}) → Shrinks {T = Token} {A = Option ObjectType} (either (begins (marks mark.Star)) (λ s. and_then (expect mark.Star s) (λ _ s. and_then (stars VoidPointer s) (λ of s. Ok (Some of, s)))) (λ s. Ok (None, s)))
after_shrinks a = either_shrinks (begins (marks mark.Star)) (then_shrinks (one_shrinks _) (λ _. then_shrinks (stars_shrinks _) (λ of. pure_shrinks _))) (pure_shrinks _)

pub result_shrinks : Shrinks result_type
unfolding result_type after_void
result_shrinks =
    either_shrinks (begins (words word.Void)) (then_shrinks (one_shrinks _) after_shrinks)
    (then_shrinks type_shrinks (λ of. pure_shrinks _))

pub cast_type_shrinks : Shrinks cast_type
unfolding cast_type struct_pointer void_cast
cast_type_shrinks =
    either_shrinks (begins (words word.Struct)) (then_shrinks (one_shrinks _) (λ _. then_shrinks (one_shrinks _) (λ n. then_shrinks (one_shrinks _) (λ _. pure_shrinks _))))
    (either_shrinks (begins (words word.Void)) (then_shrinks (one_shrinks _) (λ _. then_shrinks (one_shrinks _) (λ _. pure_shrinks _)))
    (then_shrinks (one_shrinks _) (λ to. pure_shrinks _)))

-- ---- expressions

module _ (child : Parser Token Expr) (h : Shrinks child) where
  pub selected_shrinks : (p : Place) → Shrinks (selected child p)
  unfolding selected member element
  selected_shrinks p =
      either_shrinks (begins (marks mark.Dot)) (then_shrinks (one_shrinks _) (λ _. then_shrinks (one_shrinks _) (λ n. pure_shrinks _)))
      (then_shrinks (one_shrinks _) (λ _. then_shrinks h (λ a. then_shrinks (one_shrinks _) (λ _. pure_shrinks _))))

  pub selectors_shrinks : (p : Place) → Shrinks (selectors child p)
  unfolding selectors
  selectors_shrinks p = repeat_shrinks begins_selector (selected child) selected_shrinks p

  pub pointee_shrinks : Shrinks (pointee child)
  unfolding pointee
  pointee_shrinks = then_shrinks (one_shrinks _) (λ _. then_shrinks (closed_shrinks child h) (λ a. pure_shrinks _))

  pub base_place_shrinks : Shrinks (base_place child)
  unfolding base_place variable
  base_place_shrinks = either_shrinks (begins names) (then_shrinks (one_shrinks _) (λ n. pure_shrinks _)) (then_shrinks (one_shrinks _) (λ _. pointee_shrinks))

  pub place_shrinks : Shrinks (place child)
  unfolding place
  place_shrinks = then_shrinks base_place_shrinks selectors_shrinks

  pub cast_shrinks : Shrinks (cast child)
  unfolding cast
  cast_shrinks = then_shrinks (one_shrinks _) (λ _. then_shrinks cast_type_shrinks (λ to. then_shrinks (one_shrinks _) (λ _. then_shrinks (closed_shrinks child h) (λ a. pure_shrinks _))))

  pub binary_shrinks : Shrinks (binary child)
  unfolding binary
  binary_shrinks = then_shrinks h (λ a. then_shrinks (one_shrinks _) (λ op. then_shrinks (closed_shrinks child h) (λ b. pure_shrinks _)))

  pub opened_shrinks : Shrinks (opened child)
  unfolding opened read_pointee address unary
  opened_shrinks =
      either_shrinks (begins (marks mark.Star)) (then_shrinks pointee_shrinks (λ p. then_shrinks (selectors_shrinks p) (λ q. pure_shrinks _)))
      (either_shrinks (begins (marks mark.Ampersand)) (then_shrinks (one_shrinks _) (λ _. then_shrinks place_shrinks (λ p. then_shrinks (one_shrinks _) (λ _. pure_shrinks _))))
      (either_shrinks (begins unaries) (then_shrinks (one_shrinks _) (λ op. then_shrinks (closed_shrinks child h) (λ a. pure_shrinks _)))
      (either_shrinks begins_cast cast_shrinks binary_shrinks)))

  pub expr_by_shrinks : Shrinks (expr_by child)
  unfolding expr_by read_variable variable number word_number null
  expr_by_shrinks =
      either_shrinks (begins names) (then_shrinks (then_shrinks (one_shrinks _) (λ n. pure_shrinks _)) (λ p. then_shrinks (selectors_shrinks p) (λ q. pure_shrinks _)))
      (either_shrinks (begins (marks mark.Open)) (then_shrinks (one_shrinks _) (λ _. opened_shrinks))
      (either_shrinks (begins (words word.Int64)) (then_shrinks (one_shrinks _) (λ _. then_shrinks (one_shrinks _) (λ _. then_shrinks (one_shrinks _) (λ n. then_shrinks (one_shrinks _) (λ _. pure_shrinks _)))))
      (either_shrinks (begins (words word.Uint64)) (then_shrinks (one_shrinks _) (λ _. then_shrinks (one_shrinks _) (λ _. then_shrinks (one_shrinks _) (λ n. then_shrinks (one_shrinks _) (λ _. pure_shrinks _)))))
      (then_shrinks (one_shrinks _) (λ _. pure_shrinks _)))))

pub expr_shrinks : (d : ℕ) → Shrinks (expr d)
unfolding expr
expr_shrinks zero = stop_shrinks
expr_shrinks (suc d) = expr_by_shrinks (expr d) (expr_shrinks d)
