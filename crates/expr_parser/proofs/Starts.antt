-- With what expressions begin.
use Rattle.std.proofs.Common.{◌≡◌, false, List, [], Option, Some, None, refl, sym, subst}
use Rattle.dialect_lexer.specs.declared.token.Word.TheVariants as word
use Rattle.dialect_lexer.specs.declared.token.Symbol.TheVariants as mark
use Rattle.pascal_tree.specs.declared.constants.Sign.{Sign}
use Rattle.pascal_tree.specs.declared.constants.Sign.TheVariants as sign
use Rattle.pascal_tree.specs.declared.expressions.Expr.{Expr, out-Expr}
use Rattle.pascal_tree.specs.declared.expressions.Factor.{Factor}
use Rattle.pascal_tree.specs.declared.expressions.Simple.{Simple, out-Simple}
use Rattle.pascal_tree.specs.declared.expressions.Term.{Term, out-Term}
use Rattle.expr_parser.specs.Tokens.{Token}
use Rattle.expr_parser.specs.Layout.{Layout}
use Rattle.expr_parser.specs.Classes.{same_word, same_symbol}
use Rattle.expr_parser.specs.Writing.{optional_sign, write_expr, write_factor, write_simple, write_term}
use Rattle.expr_parser.proofs.Layouts.{spell}
use Rattle.expr_parser.proofs.WrittenNodes.{write_factor_number, write_factor_text, write_factor_nil, write_factor_place, write_factor_call, write_factor_group, write_factor_not, write_factor_set}
use Rattle.expr_parser.proofs.Spelled.{term_spelled, simple_spelled, expr_spelled, place_spelled}
use Rattle.expr_parser.proofs.Views.{factor_cases}
use Rattle.expr_parser.proofs.Followed.{on_first}
use Rattle.expr_parser.proofs.Lookahead.{on_sign, on_symbol, on_word}

-- some token, which ends no list of elements, and is no argument `program`
pub record Starts (w : List Token) : Type 0 where
  pub some : w ≡ [] → ⊥
  pub bracket : on_first (on_symbol mark.CloseBracket) w ≡ false
  pub program : on_first (on_word word.KwProgram) w ≡ false

pub record FactorStarts (w : List Token) : Type 0 where
  pub sign : on_first on_sign w ≡ false
  pub others : Starts w

abbrev FactorLaw : Factor → Type 0
FactorLaw f = (rest : List Token) → FactorStarts (spell (write_factor f) rest)

written_so : {l m : Layout} (rest : List Token) → l ≡ m → FactorStarts (spell m rest) → FactorStarts (spell l rest)
written_so rest e h = subst (λ z. FactorStarts (spell z rest)) (sym e) h

pub factor_starts : (f : Factor) → FactorLaw f
unfolding same_symbol same_word
factor_starts f = factor_cases FactorLaw (record {
  number = λ v span rest. written_so rest (write_factor_number v span) (record { sign = refl; others = record { some = λ e. absurd cc; bracket = refl; program = refl } });
  text = λ bs span rest. written_so rest (write_factor_text bs span) (record { sign = refl; others = record { some = λ e. absurd cc; bracket = refl; program = refl } });
  nil = λ span rest. written_so rest (write_factor_nil span) (record { sign = refl; others = record { some = λ e. absurd cc; bracket = refl; program = refl } });
  place = λ p rest. written_so rest (write_factor_place p) (subst FactorStarts (sym (place_spelled p rest)) (record { sign = refl; others = record { some = λ e. absurd cc; bracket = refl; program = refl } }));
  call = λ n a span rest. written_so rest (write_factor_call n a span) (record { sign = refl; others = record { some = λ e. absurd cc; bracket = refl; program = refl } });
  group = λ e span rest. written_so rest (write_factor_group e span) (record { sign = refl; others = record { some = λ e. absurd cc; bracket = refl; program = refl } });
  negation = λ g span rest. written_so rest (write_factor_not g span) (record { sign = refl; others = record { some = λ e. absurd cc; bracket = refl; program = refl } });
  set = λ all span rest. written_so rest (write_factor_set all span) (record { sign = refl; others = record { some = λ e. absurd cc; bracket = refl; program = refl } });
}) f

pub term_starts : (t : Term) (rest : List Token) → FactorStarts (spell (write_term t) rest)
term_starts t rest = subst FactorStarts (sym (term_spelled t rest)) (factor_starts (out-Term t).first _)

signed : (s : Option Sign) (t : Term) (rest : List Token) → Starts (spell (optional_sign s) (spell (write_term t) rest))
unfolding same_symbol same_word
signed None t rest = (term_starts t rest).others
signed (Some sign.Plus) t rest = record { some = λ e. absurd cc; bracket = refl; program = refl }
signed (Some sign.Minus) t rest = record { some = λ e. absurd cc; bracket = refl; program = refl }

simple_starts : (x : Simple) (rest : List Token) → Starts (spell (write_simple x) rest)
simple_starts x rest = subst Starts (sym (simple_spelled x rest)) (signed (out-Simple x).sign (out-Simple x).first _)

pub expr_starts : (e : Expr) (rest : List Token) → Starts (spell (write_expr e) rest)
expr_starts e rest = subst Starts (sym (expr_spelled e rest)) (simple_starts (out-Expr e).left _)
