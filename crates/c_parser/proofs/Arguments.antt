-- The arguments of a call up to its semicolon, and an expression in parentheses, read by themselves or with what follows.
use Rattle.std.proofs.Common.{◌≡◌, ℕ, List, Ok, Err, refl, sym, subst}
use Rattle.c_tree.specs.Tree.{Expr}
use Rattle.c_grammar.specs.declared.token.Mark.TheVariants as mark
use Rattle.c_grammar.specs.Token.{Token}
use Rattle.token_parsing.specs.Parser.{Outcome, Parser, and_then}
use Rattle.token_parsing.proofs.Tracked.{Shrinks, Tracked, one_shrinks, then_shrinks}
use Rattle.c_expr_parser.specs.Classes.{expect}
use Rattle.c_parser.specs.Statements.{listed_arguments, arguments, enclosed}
use Rattle.c_expr_parser.proofs.Closed.{then_then, closed_shrinks}
use Rattle.c_expr_parser.proofs.FairTokens.{FairC}

-- what stands before a parenthesis and a semicolon
ended_by : {A B : Type 0} (o : Outcome Token A) (f : A → Parser Token B)
    → and_then (and_then o (λ a s. and_then (expect mark.Close s) (λ _ s. and_then (expect mark.Semicolon s) (λ _ s. Ok (a, s))))) f ≡ and_then o (λ a s. and_then (expect mark.Close s) (λ _ s. and_then (expect mark.Semicolon s) (λ _ s. f a s)))
ended_by (Ok p) f = by (expect mark.Close p.1)
  where
    by : (c : Outcome Token (Unit {0})) → and_then (and_then c (λ _ s. and_then (expect mark.Semicolon s) (λ _ s. Ok (p.0, s)))) f ≡ and_then c (λ _ s. and_then (expect mark.Semicolon s) (λ _ s. f p.0 s))
    by (Ok q) = then_then (expect mark.Semicolon q.1) (λ _ s. Ok (p.0, s)) f
    by (Err e) = refl
ended_by (Err e) f = refl

module _ {B : Type 0} (child : Parser Token Expr) (f : List Expr → Parser Token B) (s : List Token) where
  arguments_then : and_then (arguments child s) f ≡ and_then (expect mark.Open s) (λ _ s. and_then (listed_arguments child s) (λ all s. and_then (expect mark.Close s) (λ _ s. and_then (expect mark.Semicolon s) (λ _ s. f all s))))
  unfolding arguments
  arguments_then = by (expect mark.Open s)
    where
      by : (o : Outcome Token (Unit {0})) → and_then (and_then o (λ _ s. and_then (listed_arguments child s) (λ all s. and_then (expect mark.Close s) (λ _ s. and_then (expect mark.Semicolon s) (λ _ s. Ok (all, s)))))) f
          ≡ and_then o (λ _ s. and_then (listed_arguments child s) (λ all s. and_then (expect mark.Close s) (λ _ s. and_then (expect mark.Semicolon s) (λ _ s. f all s))))
      by (Ok p) = ended_by (listed_arguments child p.1) f
      by (Err e) = refl

-- ---- of what is taken

pub enclosed_shrinks : (child : Parser Token Expr) → Shrinks child → Shrinks (enclosed child)
unfolding enclosed
enclosed_shrinks child h = then_shrinks (one_shrinks _) (λ _. closed_shrinks child h)

-- ---- of all tokens

pub fair_arguments : {B : Type 0} {all : List Token} {Q : B → List Token → Type 0} (child : Parser Token Expr) (s : List Token) (f : List Expr → Parser Token B)
    → FairC all Q (and_then (expect mark.Open s) (λ _ s. and_then (listed_arguments child s) (λ items s. and_then (expect mark.Close s) (λ _ s. and_then (expect mark.Semicolon s) (λ _ s. f items s))))) → FairC all Q (and_then (arguments child s) f)
fair_arguments {all} {Q} child s f h = subst (FairC all Q) (sym (arguments_then child f s)) h

module _ {n : ℕ} {W B : Type 0} {y : B} {rest : List Token} (child : Parser Token Expr) (s : List Token) where
  pub tracked_arguments : (f : List Expr → Parser Token B)
      → Tracked n W y rest (and_then (expect mark.Open s) (λ _ s. and_then (listed_arguments child s) (λ items s. and_then (expect mark.Close s) (λ _ s. and_then (expect mark.Semicolon s) (λ _ s. f items s))))) → Tracked n W y rest (and_then (arguments child s) f)
  tracked_arguments f h = subst (Tracked n W y rest) (sym (arguments_then child f s)) h
