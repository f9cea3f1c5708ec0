-- What stands before a closing parenthesis, read by itself or with what follows.
use Rattle.std.proofs.Common.{◌≡◌, ℕ, List, Ok, Err, refl, sym, subst}
use Rattle.c_tree.specs.Tree.{Expr}
use Rattle.c_grammar.specs.declared.token.Mark.TheVariants as mark
use Rattle.c_grammar.specs.Token.{Token}
use Rattle.token_parsing.specs.Parser.{Outcome, Parser, and_then}
use Rattle.token_parsing.proofs.Tracked.{Shrinks, Tracked, one_shrinks, then_shrinks, pure_shrinks}
use Rattle.c_expr_parser.specs.Classes.{expect}
use Rattle.c_expr_parser.specs.Expressions.{closed}
use Rattle.c_expr_parser.proofs.FairTokens.{FairC}

pub then_then : {A B C : Type 0} (o : Outcome Token A) (f : A → Parser Token B) (g : B → Parser Token C) → and_then (and_then o f) g ≡ and_then o (λ a s. and_then (f a s) g)
then_then (Ok p) f g = refl
then_then (Err e) f g = refl

closed_by : {A B : Type 0} (o : Outcome Token A) (f : A → Parser Token B) → and_then (and_then o (λ a s. and_then (expect mark.Close s) (λ _ s. Ok (a, s)))) f ≡ and_then o (λ a s. and_then (expect mark.Close s) (λ _ s. f a s))
closed_by (Ok p) f = then_then (expect mark.Close p.1) (λ _ s. Ok (p.0, s)) f
closed_by (Err e) f = refl

module _ {B : Type 0} (child : Parser Token Expr) (f : Expr → Parser Token B) (s : List Token) where
  closed_then : and_then (closed child s) f ≡ and_then (child s) (λ a s. and_then (expect mark.Close s) (λ _ s. f a s))
  unfolding closed
  closed_then = closed_by (child s) f

-- ---- of what is taken

pub closed_shrinks : (child : Parser Token Expr) → Shrinks child → Shrinks (closed child)
unfolding closed
closed_shrinks child h = then_shrinks h (λ a. then_shrinks (one_shrinks _) (λ _. pure_shrinks _))

-- ---- of all tokens

pub fair_closed : {B : Type 0} {all : List Token} {Q : B → List Token → Type 0} (child : Parser Token Expr) (s : List Token) (f : Expr → Parser Token B)
    → FairC all Q (and_then (child s) (λ a s. and_then (expect mark.Close s) (λ _ s. f a s))) → FairC all Q (and_then (closed child s) f)
fair_closed {all} {Q} child s f h = subst (FairC all Q) (sym (closed_then child f s)) h

module _ {n : ℕ} {W B : Type 0} {y : B} {rest : List Token} (child : Parser Token Expr) (s : List Token) where
  pub tracked_closed : (f : Expr → Parser Token B) → Tracked n W y rest (and_then (child s) (λ a s. and_then (expect mark.Close s) (λ _ s. f a s))) → Tracked n W y rest (and_then (closed child s) f)
  tracked_closed f h = subst (Tracked n W y rest) (sym (closed_then child f s)) h
