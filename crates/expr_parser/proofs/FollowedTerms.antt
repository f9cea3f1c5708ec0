-- Terms, sums and comparisons of a text are followed.
use Rattle.std.proofs.Common.{ℕ, suc, ◌&&◌, List, [], ◌∷◌, map, Option, Some, None, Ok, refl, sym, ap, subst, ◌∙◌}
use Rattle.p2c_text.specs.declared.dialect.Dialect.{Dialect}
use Rattle.p2c_text.specs.declared.place.Span.{Span}
use Rattle.pascal_tree.specs.declared.constants.Sign.{Sign}
use Rattle.pascal_tree.specs.declared.expressions.Relation.{Relation}
use Rattle.pascal_tree.specs.declared.expressions.AddedTerm.{AddedTerm, out-AddedTerm}
use Rattle.pascal_tree.specs.declared.expressions.Expr.{Expr, out-Expr}
use Rattle.pascal_tree.specs.declared.expressions.Factor.{Factor}
use Rattle.pascal_tree.specs.declared.expressions.MultipliedFactor.{MultipliedFactor, out-MultipliedFactor}
use Rattle.pascal_tree.specs.declared.expressions.Simple.{Simple, out-Simple}
use Rattle.pascal_tree.specs.declared.expressions.Term.{Term, out-Term}
use Rattle.token_parsing.specs.Parser.{Parser, and_then, begins, one_of}
use Rattle.token_parsing.proofs.Tracked.{Shrinks, pure_shrinks, then_shrinks, takes_token}
use Rattle.expr_parser.specs.Tokens.{Token, Placed}
use Rattle.expr_parser.specs.Layout.{◌&◌, token, in_row}
use Rattle.expr_parser.specs.Writing.{optional_sign as write_sign, relation_token, adding_token, multiplying_token, write_added, write_expr, write_factor, write_multiplied, write_simple, write_term}
use Rattle.expr_parser.specs.Grammar.{all, formed_added, formed_expr, formed_factor, formed_multiplied, formed_simple, formed_term}
use Rattle.expr_parser.specs.Classes.{signs, relations, addings, multiplyings}
use Rattle.expr_parser.specs.Expressions.{next_factor, more_factors, term, optional_sign, next_term, more_terms, simple, compared, expr_by}
use Rattle.expr_parser.proofs.Layouts.{spell, spell_join}
use Rattle.expr_parser.proofs.WrittenNodes.{write_right}
use Rattle.expr_parser.proofs.FormedNodes.{formed_right, formed_term_of, formed_multiplied_of, formed_added_of, formed_simple_of, formed_expr_of}
use Rattle.expr_parser.proofs.Views.{multiplied_is, term_is, added_is, simple_is, expr_is}
use Rattle.expr_parser.proofs.Spelled.{multiplied_written, added_written, term_written, simple_written, expr_written, multiplied_spelled, added_spelled, term_spelled, simple_spelled, expr_spelled}
use Rattle.expr_parser.proofs.Starts.{term_starts}
use Rattle.expr_parser.proofs.Shrinks.{next_factor_shrinks, more_factors_shrinks, term_shrinks, next_term_shrinks, more_terms_shrinks, simple_shrinks, compared_shrinks}
use Rattle.expr_parser.proofs.Followed.{Until, Along, Followed, Begun, follow_then, follow_pure, follow_token, follow_first, follow_not, begun_token, looks_at, Listing, Items, follow_list}
use Rattle.expr_parser.proofs.FollowedParts.{Part, part_as, part_first, part_second, part_right, part_inside, part_counted, along_as, FactorFollowed, ExprFollowed}
use Rattle.expr_parser.proofs.Lookahead.{looks_sign, looks_relation, looks_adding, looks_multiplying, on_adding, on_multiplying, on_sign_here, on_relation_here, on_adding_here, on_multiplying_here, accepts_sign, accepts_relation, accepts_adding, accepts_multiplying, FactorEnds, TermEnds, SimpleEnds, ExprEnds, multiplying_ends, adding_ends, relation_ends}

-- ---- parts of parts

module _ {W : Type 0} (d : Dialect) {k : ℕ} where
  pub multiplied_part : (x : MultipliedFactor) → Part W k (write_multiplied x) (formed_multiplied d x) → Part W k (write_factor (out-MultipliedFactor x).factor) (formed_factor d (out-MultipliedFactor x).factor)
  multiplied_part x h =
      part_right (token (multiplying_token (out-MultipliedFactor x).operator)) (write_factor (out-MultipliedFactor x).factor)
      (part_as (multiplied_written x) (ap (formed_multiplied d) (multiplied_is x) ∙ formed_multiplied_of d (out-MultipliedFactor x).operator (out-MultipliedFactor x).factor) h)

  pub added_part : (x : AddedTerm) → Part W k (write_added x) (formed_added d x) → Part W k (write_term (out-AddedTerm x).term) (formed_term d (out-AddedTerm x).term)
  added_part x h =
      part_right (token (adding_token (out-AddedTerm x).operator)) (write_term (out-AddedTerm x).term)
      (part_as (added_written x) (ap (formed_added d) (added_is x) ∙ formed_added_of d (out-AddedTerm x).operator (out-AddedTerm x).term) h)

  pub term_part : (x : Term) → Part W k (write_term x) (formed_term d x)
      → Part W k (write_factor (out-Term x).first & in_row (map write_multiplied (out-Term x).rest)) (formed_factor d (out-Term x).first && all (map (formed_multiplied d) (out-Term x).rest))
  term_part x h =
      part_inside (write_factor (out-Term x).first & in_row (map write_multiplied (out-Term x).rest))
      (part_as (term_written x) (ap (formed_term d) (term_is x) ∙ formed_term_of d (out-Term x).first (out-Term x).rest (out-Term x).span) h)

  pub simple_part : (x : Simple) → Part W k (write_simple x) (formed_simple d x)
      → Part W k (write_term (out-Simple x).first & in_row (map write_added (out-Simple x).rest)) (formed_term d (out-Simple x).first && all (map (formed_added d) (out-Simple x).rest))
  simple_part x h =
      let inside = write_term (out-Simple x).first & in_row (map write_added (out-Simple x).rest) in
      part_right (write_sign (out-Simple x).sign) inside (part_inside (write_sign (out-Simple x).sign & inside)
      (part_as (simple_written x) (ap (formed_simple d) (simple_is x) ∙ formed_simple_of d (out-Simple x).sign (out-Simple x).first (out-Simple x).rest (out-Simple x).span) h))

  pub expr_part : (x : Expr) → Part W (suc k) (write_expr x) (formed_expr d x)
      → Part W k (write_simple (out-Expr x).left & write_right (out-Expr x).right) (formed_simple d (out-Expr x).left && formed_right d (out-Expr x).right)
  expr_part x h =
      let inside = write_simple (out-Expr x).left & write_right (out-Expr x).right in
      part_inside inside (part_counted _ (part_as (expr_written x) (ap (formed_expr d) (expr_is x) ∙ formed_expr_of d (out-Expr x).left (out-Expr x).right (out-Expr x).span) h))

-- ---- what follows parts

abbrev pub factors : List MultipliedFactor → List Token → List Token
factors xs rest = spell (in_row (map write_multiplied xs)) rest

pub factors_end : (xs : List MultipliedFactor) (rest : List Token) → TermEnds rest → FactorEnds (factors xs rest)
factors_end [] rest ends = ends.factor
factors_end (x ∷ xs) rest ends =
    subst FactorEnds (sym (spell_join (write_multiplied x) (in_row (map write_multiplied xs)) rest ∙ multiplied_spelled x (factors xs rest))) (multiplying_ends (out-MultipliedFactor x).operator _)

abbrev pub terms : List AddedTerm → List Token → List Token
terms xs rest = spell (in_row (map write_added xs)) rest

pub terms_end : (xs : List AddedTerm) (rest : List Token) → SimpleEnds rest → TermEnds (terms xs rest)
terms_end [] rest ends = ends.term
terms_end (x ∷ xs) rest ends = subst TermEnds (sym (spell_join (write_added x) (in_row (map write_added xs)) rest ∙ added_spelled x (terms xs rest))) (adding_ends (out-AddedTerm x).operator _)

pub right_ends : (right : Option (Relation × Simple)) (rest : List Token) → ExprEnds rest → SimpleEnds (spell (write_right right) rest)
right_ends None rest ends = ends.simple
right_ends (Some r) rest ends = relation_ends r.0 _

-- ---- terms

module _ (n : Until) (W : Type 0) (d : Dialect) (end : Span) (k : ℕ) (child : Parser Placed Factor) (shrinks : Shrinks child) (good : FactorFollowed n W d k child) where
  factor_begun : (found : List MultipliedFactor) → Begun (begins multiplyings) (next_factor child found)
  unfolding next_factor
  factor_begun found s e = begun_token multiplyings s e (λ op. then_shrinks shrinks (λ f. pure_shrinks _))

  factor_listing : Listing n W (λ x rest. spell (write_multiplied x) rest) factors (begins multiplyings) on_multiplying (next_factor child)
  unfolding next_factor
  factor_listing = record {
    none = λ rest. refl;
    one_more = λ x more rest. spell_join (write_multiplied x) (in_row (map write_multiplied more)) rest;
    looks = looks_multiplying;
    takes = λ found s. takes_token multiplyings s (λ op. then_shrinks shrinks (λ f. pure_shrinks _));
    shrinks = next_factor_shrinks end child shrinks;
    starts = λ x rest. (multiplying_token (out-MultipliedFactor x).operator, spell (write_factor (out-MultipliedFactor x).factor) rest, multiplied_spelled x rest, on_multiplying_here (out-MultipliedFactor x).operator);
    begun = factor_begun;
  }

  factor_item : (x : MultipliedFactor) → Part W k (write_multiplied x) (formed_multiplied d x) → (rest : List Token) → FactorEnds rest → (found : List MultipliedFactor) (s : List Placed)
      → Along n (spell (write_multiplied x) rest) s → Followed n W rest (next_factor child found s)
  unfolding next_factor
  factor_item x part rest ends found s h =
      follow_token multiplyings (accepts_multiplying (out-MultipliedFactor x).operator) (along_as (multiplied_spelled x rest) h) (λ op. then_shrinks shrinks (λ f. pure_shrinks _)) (λ op r h.
      follow_then (good (out-MultipliedFactor x).factor (multiplied_part d x part) rest ends r h) (λ f. pure_shrinks _) (λ f r h. follow_pure _ h))

  factor_items : (xs : List MultipliedFactor) → Part W k (in_row (map write_multiplied xs)) (all (map (formed_multiplied d) xs)) → (rest : List Token) → TermEnds rest
      → Items n W (λ x rest. spell (write_multiplied x) rest) factors (begins multiplyings) on_multiplying (next_factor child) xs rest
  factor_items [] part rest ends = tt
  factor_items (x ∷ xs) part rest ends = (
    λ found s h. factor_item x (part_first (write_multiplied x) (in_row (map write_multiplied xs)) _ _ part) (factors xs rest) (factors_end xs rest ends) found s h,
    factor_items xs (part_second (write_multiplied x) (in_row (map write_multiplied xs)) _ _ part) rest ends,
  )

  factors_followed : (xs : List MultipliedFactor) → Part W k (in_row (map write_multiplied xs)) (all (map (formed_multiplied d) xs)) → (rest : List Token) → TermEnds rest → (s : List Placed)
      → Along n (factors xs rest) s → Followed n W rest (more_factors child [] s)
  unfolding more_factors
  factors_followed xs part rest ends s h =
      follow_list n W (λ x rest. spell (write_multiplied x) rest) factors (begins multiplyings) on_multiplying (next_factor child) factor_listing xs rest (factor_items xs part rest ends) ends.multiplying [] s h

  term_followed : (t : Term) → Part W k (write_term t) (formed_term d t) → (rest : List Token) → TermEnds rest → (s : List Placed) → Along n (spell (write_term t) rest) s → Followed n W rest (term end child s)
  unfolding term
  term_followed t part rest ends s h =
      let p = term_part d t part in
      let first = write_factor (out-Term t).first in let row = in_row (map write_multiplied (out-Term t).rest) in
      follow_then (good (out-Term t).first (part_first first row _ _ p) (factors (out-Term t).rest rest) (factors_end (out-Term t).rest rest ends) s (along_as (term_spelled t rest) h))
      (λ f. then_shrinks (more_factors_shrinks end child shrinks []) (λ all. λ n r k. pure_shrinks _ n r k)) (λ f r h.
      follow_then (factors_followed (out-Term t).rest (part_second first row _ _ p) rest ends r h) (λ all. λ n r k. pure_shrinks _ n r k) (λ all r h. follow_pure _ h))

  -- ---- sums

  term_begun : (found : List AddedTerm) → Begun (begins addings) (next_term end child found)
  unfolding next_term
  term_begun found s e = begun_token addings s e (λ op. then_shrinks (term_shrinks end child shrinks) (λ t. pure_shrinks _))

  term_listing : Listing n W (λ x rest. spell (write_added x) rest) terms (begins addings) on_adding (next_term end child)
  unfolding next_term
  term_listing = record {
    none = λ rest. refl;
    one_more = λ x more rest. spell_join (write_added x) (in_row (map write_added more)) rest;
    looks = looks_adding;
    takes = λ found s. takes_token addings s (λ op. then_shrinks (term_shrinks end child shrinks) (λ t. pure_shrinks _));
    shrinks = next_term_shrinks end child shrinks;
    starts = λ x rest. (adding_token (out-AddedTerm x).operator, spell (write_term (out-AddedTerm x).term) rest, added_spelled x rest, on_adding_here (out-AddedTerm x).operator);
    begun = term_begun;
  }

  term_item : (x : AddedTerm) → Part W k (write_added x) (formed_added d x) → (rest : List Token) → TermEnds rest → (found : List AddedTerm) (s : List Placed)
      → Along n (spell (write_added x) rest) s → Followed n W rest (next_term end child found s)
  unfolding next_term
  term_item x part rest ends found s h =
      follow_token addings (accepts_adding (out-AddedTerm x).operator) (along_as (added_spelled x rest) h) (λ op. then_shrinks (term_shrinks end child shrinks) (λ t. pure_shrinks _)) (λ op r h.
      follow_then (term_followed (out-AddedTerm x).term (added_part d x part) rest ends r h) (λ t. pure_shrinks _) (λ t r h. follow_pure _ h))

  term_items : (xs : List AddedTerm) → Part W k (in_row (map write_added xs)) (all (map (formed_added d) xs)) → (rest : List Token) → SimpleEnds rest
      → Items n W (λ x rest. spell (write_added x) rest) terms (begins addings) on_adding (next_term end child) xs rest
  term_items [] part rest ends = tt
  term_items (x ∷ xs) part rest ends = (
    λ found s h. term_item x (part_first (write_added x) (in_row (map write_added xs)) _ _ part) (terms xs rest) (terms_end xs rest ends) found s h,
    term_items xs (part_second (write_added x) (in_row (map write_added xs)) _ _ part) rest ends,
  )

  terms_followed : (xs : List AddedTerm) → Part W k (in_row (map write_added xs)) (all (map (formed_added d) xs)) → (rest : List Token) → SimpleEnds rest → (s : List Placed)
      → Along n (terms xs rest) s → Followed n W rest (more_terms end child [] s)
  unfolding more_terms
  terms_followed xs part rest ends s h =
      follow_list n W (λ x rest. spell (write_added x) rest) terms (begins addings) on_adding (next_term end child) term_listing xs rest (term_items xs part rest ends) ends.adding [] s h

  sign_followed : (sign : Option Sign) (t : Term) (rest : List Token) (s : List Placed) → Along n (spell (write_sign sign) (spell (write_term t) rest)) s → Followed n W (spell (write_term t) rest) (optional_sign s)
  unfolding optional_sign
  sign_followed None t rest s h =
      follow_not looks_sign (λ s. and_then (one_of signs s) (λ x s. Ok (Some x, s))) (λ s. Ok (None, s)) (term_starts t rest).sign h (λ s e. begun_token signs s e (λ op. pure_shrinks _)) (follow_pure _ h)
  sign_followed (Some op) t rest s h =
      follow_first (begins signs s) _ _ (looks_at looks_sign h ∙ on_sign_here op) (follow_token signs (accepts_sign op) h (λ op. pure_shrinks _) (λ op r h. follow_pure _ h))

  simple_followed : (x : Simple) → Part W k (write_simple x) (formed_simple d x) → (rest : List Token) → SimpleEnds rest → (s : List Placed) → Along n (spell (write_simple x) rest) s → Followed n W rest (simple end child s)
  unfolding simple
  simple_followed x part rest ends s h =
      let p = simple_part d x part in
      let first = write_term (out-Simple x).first in let row = in_row (map write_added (out-Simple x).rest) in
      follow_then (sign_followed (out-Simple x).sign (out-Simple x).first (terms (out-Simple x).rest rest) s (along_as (simple_spelled x rest) h))
      (λ op. then_shrinks (term_shrinks end child shrinks) (λ t. then_shrinks (more_terms_shrinks end child shrinks []) (λ all. λ n r k. pure_shrinks _ n r k))) (λ op r h.
      follow_then (term_followed (out-Simple x).first (part_first first row _ _ p) (terms (out-Simple x).rest rest) (terms_end (out-Simple x).rest rest ends) r h)
      (λ t. then_shrinks (more_terms_shrinks end child shrinks []) (λ all. λ n r k. pure_shrinks _ n r k)) (λ t r h.
      follow_then (terms_followed (out-Simple x).rest (part_second first row _ _ p) rest ends r h) (λ all. λ n r k. pure_shrinks _ n r k) (λ all r h. follow_pure _ h)))

  -- ---- comparisons

  compared_followed : (right : Option (Relation × Simple)) → Part W k (write_right right) (formed_right d right) → (rest : List Token) → ExprEnds rest → (s : List Placed)
      → Along n (spell (write_right right) rest) s → Followed n W rest (compared end child s)
  unfolding compared
  compared_followed None part rest ends s h =
      follow_not looks_relation (λ s. and_then (one_of relations s) (λ r s. and_then (simple end child s) (λ b s. Ok (Some (r, b), s)))) (λ s. Ok (None, s)) ends.relation h (λ s e. begun_token relations s e (λ r. then_shrinks (simple_shrinks end child shrinks) (λ b. pure_shrinks _))) (follow_pure _ h)
  compared_followed (Some (op, b)) part rest ends s h =
      follow_first (begins relations s) _ _ (looks_at looks_relation h ∙ on_relation_here op)
      (follow_token relations (accepts_relation op) h (λ r. then_shrinks (simple_shrinks end child shrinks) (λ b. pure_shrinks _)) (λ r s h.
      follow_then (simple_followed b (part_right (token (relation_token op)) (write_simple b) part) rest ends.simple s h) (λ b. pure_shrinks _) (λ b r h. follow_pure _ h)))

  pub expr_by_followed : ExprFollowed n W d (suc k) (expr_by end child)
  unfolding expr_by
  expr_by_followed e part rest ends s h =
      let p = expr_part d e part in
      let left = write_simple (out-Expr e).left in let right = write_right (out-Expr e).right in
      follow_then (simple_followed (out-Expr e).left (part_first left right _ _ p) (spell right rest) (right_ends (out-Expr e).right rest ends) s (along_as (expr_spelled e rest) h))
      (λ a. then_shrinks (compared_shrinks end child shrinks) (λ b. λ n r k. pure_shrinks _ n r k)) (λ a r h.
      follow_then (compared_followed (out-Expr e).right (part_second left right _ _ p) rest ends r h) (λ b. λ n r k. pure_shrinks _ n r k) (λ b r h. follow_pure _ h))
