-- Terms, sums and comparisons that are written are read.
use Rattle.std.proofs.Common.{◌≡◌, ℕ, suc, false, List, [], ◌∷◌, ◌++◌, map, Option, Some, None, Ok, refl, sym, ap, subst, ◌∙◌}
use Rattle.std.specs.List.{AllByRecursion}
use Rattle.p2c_text.specs.declared.dialect.Dialect.{Dialect}
use Rattle.p2c_text.specs.declared.place.Span.{Span}
use Rattle.pascal_tree.specs.declared.constants.Sign.{Sign}
use Rattle.pascal_tree.specs.declared.expressions.Relation.{Relation}
use Rattle.pascal_tree.specs.declared.expressions.AddedTerm.{AddedTerm, out-AddedTerm}
use Rattle.pascal_tree.specs.declared.expressions.Expr.{Expr, out-Expr}
use Rattle.pascal_tree.specs.declared.expressions.Factor.{Factor}
use Rattle.pascal_tree.specs.declared.expressions.MultipliedFactor.{MultipliedFactor, out-MultipliedFactor}
use Rattle.pascal_tree.specs.declared.expressions.Simple.{Simple, out-Simple}
use Rattle.pascal_tree.specs.declared.expressions.Term.{Term, out-Term}
use Rattle.token_parsing.specs.Parser.{Parser, begins}
use Rattle.expr_parser.specs.Tokens.{Placed, plain}
use Rattle.expr_parser.specs.Layout.{Layout, Done, ◌&◌, token, in_row, IsWritten}
use Rattle.expr_parser.specs.Writing.{optional_sign as write_sign, sign_token, relation_token, write_added, write_expr, write_factor, write_multiplied, write_simple, write_term}
use Rattle.expr_parser.specs.Grammar.{all, formed_added, formed_expr, formed_factor, formed_multiplied, formed_simple, formed_term}
use Rattle.expr_parser.specs.Classes.{signs, relations, addings, multiplyings}
use Rattle.expr_parser.specs.Expressions.{term_of, simple_of, expr_of, next_factor, more_factors, term, optional_sign, next_term, more_terms, simple, compared, expr_by}
use Rattle.expr_parser.proofs.Layouts.{spell, spell_join}
use Rattle.expr_parser.proofs.WrittenNodes.{write_right}
use Rattle.expr_parser.proofs.FormedNodes.{formed_right}
use Rattle.expr_parser.proofs.Views.{multiplied_is, term_is, added_is, simple_is, expr_is}
use Rattle.expr_parser.proofs.Spelled.{multiplied_written, added_written, term_written, simple_written, expr_written, multiplied_spelled, added_spelled}
use Rattle.expr_parser.proofs.Starts.{term_starts}
use Rattle.expr_parser.proofs.Followed.{on_first}
use Rattle.expr_parser.proofs.FollowedParts.{Part, part_first, part_second, part_right}
use Rattle.expr_parser.proofs.FollowedTerms.{multiplied_part, added_part, term_part, simple_part, expr_part, right_ends}
use Rattle.expr_parser.proofs.Lookahead.{looks_sign, looks_relation, looks_adding, looks_multiplying, on_sign, on_adding, on_multiplying, on_sign_here, on_relation_here, on_adding_here, on_multiplying_here, says_sign, says_relation, says_adding, says_multiplying, FactorEnds, TermEnds, SimpleEnds, ExprEnds, multiplying_ends, adding_ends}
use Rattle.expr_parser.proofs.Exact.{written_as, written_inside, written_inside_both, written_plain, ends_plain, exact_then, exact_part, exact_token, exact_made, exact_first, exact_second, looks_written, Row, row_ends, list_exact}

-- ---- what it is to read the tree that is written

module _ (d : Dialect) (end : Span) (k : ℕ) where
  abbrev pub ExprExact : Parser Placed Expr → Type 0
  ExprExact p = (e : Expr) → Part (Unit {0}) k (write_expr e) (formed_expr d e) → (s r : List Placed) → IsWritten end (write_expr e) s r → ExprEnds (plain r) → p s ≡ Ok (e, r)

  abbrev pub FactorExact : Parser Placed Factor → Type 0
  FactorExact p = (f : Factor) → Part (Unit {0}) k (write_factor f) (formed_factor d f) → (s r : List Placed) → IsWritten end (write_factor f) s r → FactorEnds (plain r) → p s ≡ Ok (f, r)

-- a sign, or none before a token that is no sign
pub sign_exact : (end : Span) (sign : Option Sign) (s r : List Placed) → IsWritten end (write_sign sign) s r → on_first on_sign (plain r) ≡ false → optional_sign s ≡ Ok (sign, r)
unfolding optional_sign
sign_exact end None s r h none = exact_second (begins signs s) _ _ (looks_written looks_sign end Done s r h ∙ none) (ap (λ z. Ok (None, z)) h)
sign_exact end (Some op) s r h none =
    exact_first (begins signs s) _ _ (looks_written looks_sign end (token (sign_token op)) s r h ∙ on_sign_here op) (exact_token _ signs (says_sign op) end Done s r h (λ m h. ap (λ z. Ok (Some op, z)) h))

-- ---- terms

module _ (d : Dialect) (end : Span) (k : ℕ) (child : Parser Placed Factor) (good : FactorExact d end k child) where
  abbrev FactorItem : MultipliedFactor → Type 0
  FactorItem x = (found : List MultipliedFactor) (s r : List Placed) → IsWritten end (write_multiplied x) s r → FactorEnds (plain r) → next_factor child found s ≡ Ok (found ++ x ∷ [], r)

  factor_item : (x : MultipliedFactor) → Part (Unit {0}) k (write_multiplied x) (formed_multiplied d x) → FactorItem x
  unfolding next_factor
  factor_item x part found s r h ends =
      exact_token _ multiplyings (says_multiplying (out-MultipliedFactor x).operator) end (write_factor (out-MultipliedFactor x).factor) s r (written_as end s r (multiplied_written x) h) (λ m h.
      exact_then _ (good (out-MultipliedFactor x).factor (multiplied_part d x part) m r h ends) (ap (λ (y : MultipliedFactor). Ok (found ++ y ∷ [], r)) (sym (multiplied_is x))))

  factor_items : (xs : List MultipliedFactor) → Part (Unit {0}) k (in_row (map write_multiplied xs)) (all (map (formed_multiplied d) xs)) → AllByRecursion FactorItem xs
  factor_items [] part = tt
  factor_items (x ∷ xs) part = (factor_item x (part_first (write_multiplied x) (in_row (map write_multiplied xs)) _ _ part), factor_items xs (part_second (write_multiplied x) (in_row (map write_multiplied xs)) _ _ part))

  factor_row : Row end write_multiplied (λ xs. in_row (map write_multiplied xs)) (begins multiplyings) on_multiplying (next_factor child) FactorEnds
  factor_row = record {
    none = refl;
    one_more = λ x more. refl;
    looks = looks_multiplying;
    starts = λ x w. ap (on_first on_multiplying) (multiplied_spelled x w) ∙ on_multiplying_here (out-MultipliedFactor x).operator;
    ends = λ x w. subst FactorEnds (sym (multiplied_spelled x w)) (multiplying_ends (out-MultipliedFactor x).operator _);
  }

  term_exact : (t : Term) → Part (Unit {0}) k (write_term t) (formed_term d t) → (s r : List Placed) → IsWritten end (write_term t) s r → TermEnds (plain r) → term end child s ≡ Ok (t, r)
  unfolding term more_factors
  term_exact t part s r h ends =
      let p = term_part d t part in
      let first = write_factor (out-Term t).first in let row = in_row (map write_multiplied (out-Term t).rest) in
      let (place, inside) = written_inside end (out-Term t).span (first & row) s r (written_as end s r (term_written t) h) in
      exact_part _ (out-Term t).first end first row s r inside (λ m left right. good (out-Term t).first (part_first first row _ _ p) s m left (row_ends end _ _ _ _ _ _ factor_row (out-Term t).rest m r right ends.factor)) (λ m right.
      exact_then _ (list_exact end _ _ _ _ _ _ factor_row (out-Term t).rest (factor_items (out-Term t).rest (part_second first row _ _ p)) [] m r right ends.factor ends.multiplying)
      (exact_made end (out-Term t).span (term_of (out-Term t).first (out-Term t).rest) s r r refl (term_is t) place))

  -- ---- sums

  abbrev TermItem : AddedTerm → Type 0
  TermItem x = (found : List AddedTerm) (s r : List Placed) → IsWritten end (write_added x) s r → TermEnds (plain r) → next_term end child found s ≡ Ok (found ++ x ∷ [], r)

  term_item : (x : AddedTerm) → Part (Unit {0}) k (write_added x) (formed_added d x) → TermItem x
  unfolding next_term
  term_item x part found s r h ends =
      exact_token _ addings (says_adding (out-AddedTerm x).operator) end (write_term (out-AddedTerm x).term) s r (written_as end s r (added_written x) h) (λ m h.
      exact_then _ (term_exact (out-AddedTerm x).term (added_part d x part) m r h ends) (ap (λ (y : AddedTerm). Ok (found ++ y ∷ [], r)) (sym (added_is x))))

  term_items : (xs : List AddedTerm) → Part (Unit {0}) k (in_row (map write_added xs)) (all (map (formed_added d) xs)) → AllByRecursion TermItem xs
  term_items [] part = tt
  term_items (x ∷ xs) part = (term_item x (part_first (write_added x) (in_row (map write_added xs)) _ _ part), term_items xs (part_second (write_added x) (in_row (map write_added xs)) _ _ part))

  term_row : Row end write_added (λ xs. in_row (map write_added xs)) (begins addings) on_adding (next_term end child) TermEnds
  term_row = record {
    none = refl;
    one_more = λ x more. refl;
    looks = looks_adding;
    starts = λ x w. ap (on_first on_adding) (added_spelled x w) ∙ on_adding_here (out-AddedTerm x).operator;
    ends = λ x w. subst TermEnds (sym (added_spelled x w)) (adding_ends (out-AddedTerm x).operator _);
  }

  simple_exact : (x : Simple) → Part (Unit {0}) k (write_simple x) (formed_simple d x) → (s r : List Placed) → IsWritten end (write_simple x) s r → SimpleEnds (plain r) → simple end child s ≡ Ok (x, r)
  unfolding simple more_terms
  simple_exact x part s r h ends =
      let p = simple_part d x part in
      let sign = write_sign (out-Simple x).sign in let first = write_term (out-Simple x).first in let row = in_row (map write_added (out-Simple x).rest) in
      let (place, inside) = written_inside end (out-Simple x).span (sign & first & row) s r (written_as end s r (simple_written x) h) in
      exact_part _ (out-Simple x).sign end sign (first & row) s r inside (λ m left right. sign_exact end (out-Simple x).sign s m left (not_signed (out-Simple x).first row m r right)) (λ m right.
      exact_part _ (out-Simple x).first end first row m r right (λ m' left right. term_exact (out-Simple x).first (part_first first row _ _ p) m m' left (row_ends end _ _ _ _ _ _ term_row (out-Simple x).rest m' r right ends.term)) (λ m right.
      exact_then _ (list_exact end _ _ _ _ _ _ term_row (out-Simple x).rest (term_items (out-Simple x).rest (part_second first row _ _ p)) [] m r right ends.term ends.adding)
      (exact_made end (out-Simple x).span (simple_of (out-Simple x).sign (out-Simple x).first (out-Simple x).rest) s r r refl (simple_is x) place)))
    where
      not_signed : (t : Term) (row : Layout) (s r : List Placed) → IsWritten end (write_term t & row) s r → on_first on_sign (plain s) ≡ false
      not_signed t row s r h = ap (on_first on_sign) (written_plain end (write_term t & row) s r h ∙ spell_join (write_term t) row (plain r)) ∙ (term_starts t (spell row (plain r))).sign

  -- ---- comparisons

  compared_exact : (right : Option (Relation × Simple)) → Part (Unit {0}) k (write_right right) (formed_right d right) → (s r : List Placed) → IsWritten end (write_right right) s r → ExprEnds (plain r) → compared end child s ≡ Ok (right, r)
  unfolding compared
  compared_exact None part s r h ends = exact_second (begins relations s) _ _ (looks_written looks_relation end Done s r h ∙ ends.relation) (ap (λ z. Ok (None, z)) h)
  compared_exact (Some (op, b)) part s r h ends =
      exact_first (begins relations s) _ _ (looks_written looks_relation end (token (relation_token op) & write_simple b) s r h ∙ on_relation_here op)
      (exact_token _ relations (says_relation op) end (write_simple b) s r h (λ m h. exact_then _ (simple_exact b (part_right (token (relation_token op)) (write_simple b) part) m r h ends.simple) refl))

  pub expr_by_exact : ExprExact d end (suc k) (expr_by end child)
  unfolding expr_by
  expr_by_exact e part s r h ends =
      let p = expr_part d e part in
      let left = write_simple (out-Expr e).left in let right = write_right (out-Expr e).right in
      let (place, inside) = written_inside_both end (out-Expr e).span (left & right) s r (written_as end s r (expr_written e) h) in
      exact_part _ (out-Expr e).left end left right s r inside (λ m a b. simple_exact (out-Expr e).left (part_first left right _ _ p) s m a (ends_plain SimpleEnds end right m r b (right_ends (out-Expr e).right (plain r) ends))) (λ m b.
      exact_then _ (compared_exact (out-Expr e).right (part_second left right _ _ p) m r b ends)
      (exact_made end (out-Expr e).span (expr_of (out-Expr e).left (out-Expr e).right) s r r refl (expr_is e) place))
