-- Factors and whole expressions that are written are read.
use Rattle.std.proofs.Common.{◌≡◌, ℕ, zero, suc, ℤ, List, [], ◌∷◌, map, Option, Some, None, Ok, refl, ap, ◌∙◌, arith}
use Rattle.p2c_text.specs.declared.dialect.Dialect.{Dialect}
use Rattle.p2c_text.specs.declared.place.Span.{Span}
use Rattle.dialect_lexer.specs.declared.token.Word.TheVariants as word_
use Rattle.dialect_lexer.specs.declared.token.Symbol.TheVariants as mark
use Rattle.pascal_tree.specs.declared.names.Identifier.{Identifier}
use Rattle.pascal_tree.specs.declared.expressions.Args.{Args}
use Rattle.pascal_tree.specs.declared.expressions.Elem.{Elem, out-Elem}
use Rattle.pascal_tree.specs.declared.expressions.Expr.{Expr}
use Rattle.pascal_tree.specs.declared.expressions.Factor.{Factor}
use Rattle.pascal_tree.specs.declared.expressions.Factor.TheVariants as factor_
use Rattle.pascal_tree.specs.declared.expressions.Place.{Place, out-Place}
use Rattle.token_parsing.specs.Parser.{Parser, begins}
use Rattle.expr_parser.specs.Tokens.{Placed, Number, Text, plain}
use Rattle.expr_parser.specs.Layout.{Done, ◌&◌, token, symbol, word, in_row, with_commas, IsWritten}
use Rattle.expr_parser.specs.Writing.{identifier, optional_after as write_after, write_args, write_elem, write_expr, write_factor, write_place, write_selector}
use Rattle.expr_parser.specs.Grammar.{all, optional, formed_elem, formed_factor}
use Rattle.expr_parser.specs.Classes.{same_word, same_symbol, numbers, texts, words, symbols}
use Rattle.expr_parser.specs.Places.{optional_after}
use Rattle.expr_parser.specs.Factors.{number, text, nil, call, read_place, named, group, negation, elem_of, elem, next_elem, more_elems, some_elems, elems, set, factor_by}
use Rattle.expr_parser.specs.Expressions.{expr, factor}
use Rattle.expr_parser.proofs.WrittenNodes.{write_optional, write_factor_number, write_factor_text, write_factor_nil, write_factor_place, write_factor_call, write_factor_group, write_factor_not, write_factor_set}
use Rattle.expr_parser.proofs.FormedNodes.{formed_optional, formed_elem_of, formed_factor_place, formed_factor_call, formed_factor_group, formed_factor_not, formed_factor_set}
use Rattle.expr_parser.proofs.Views.{elem_is, factor_cases}
use Rattle.expr_parser.proofs.Spelled.{elem_written, place_written, args_spelled}
use Rattle.expr_parser.proofs.Followed.{on_first}
use Rattle.expr_parser.proofs.FollowedParts.{Part, part_as, part_first, part_second, part_left, part_right, part_inside, part_counted}
use Rattle.expr_parser.proofs.FollowedPlaces.{no_arguments}
use Rattle.expr_parser.proofs.FollowedFactors.{ElemEnds, comma_ends, close_ends, last_ends, elems_start, expr_deep, factor_deep}
use Rattle.expr_parser.proofs.Lookahead.{looks_name, looks_number, looks_text, looks_word, looks_symbol, on_symbol, on_symbol_here, says_number, says_text, says_word, says_symbol, ExprEnds, FactorEnds, mark_ends}
use Rattle.expr_parser.proofs.Exact.{written_as, written_inside, written_inside_both, written_under, written_plain, ends_plain, exact_then, exact_part, exact_token, exact_name, exact_made, exact_first, exact_second, looks_written}
use Rattle.expr_parser.proofs.ExactLists.{commas_exact}
use Rattle.expr_parser.proofs.ExactTerms.{ExprExact, FactorExact, expr_by_exact}
use Rattle.expr_parser.proofs.ExactPlaces.{optional_none, optional_some, place_from_exact, args_exact}

module _ (d : Dialect) (end : Span) (k : ℕ) (child : Parser Placed Expr) (good : ExprExact d end k child) where
  -- ---- elements of sets

  last_exact : (last : Option Expr) → Part (Unit {0}) k (write_after mark.DotDot (write_optional last)) (optional (formed_optional d last)) → (s r : List Placed) → IsWritten end (write_after mark.DotDot (write_optional last)) s r
      → ElemEnds (plain r) → optional_after mark.DotDot child s ≡ Ok (last, r)
  last_exact None part s r h ends = optional_none d end k child good mark.DotDot s r h ends.dots
  last_exact (Some e) part s r h ends = optional_some d end k child good mark.DotDot e (part_right (symbol mark.DotDot) (write_expr e) part) s r h ends.expr

  elem_exact : (x : Elem) → Part (Unit {0}) k (write_elem x) (formed_elem d x) → (s r : List Placed) → IsWritten end (write_elem x) s r → ElemEnds (plain r) → elem end child s ≡ Ok (x, r)
  unfolding elem
  elem_exact x part s r h ends =
      let first = write_expr (out-Elem x).first in let last = write_after mark.DotDot (write_optional (out-Elem x).last) in
      let p = part_inside (first & last) (part_as (elem_written x) (ap (formed_elem d) (elem_is x) ∙ formed_elem_of d (out-Elem x).first (out-Elem x).last (out-Elem x).span) part) in
      let (place, inside) = written_inside end (out-Elem x).span (first & last) s r (written_as end s r (elem_written x) h) in
      exact_part _ (out-Elem x).first end first last s r inside (λ m left right. good (out-Elem x).first (part_first first last _ _ p) s m left (ends_plain ExprEnds end last m r right (last_ends (out-Elem x).last (plain r) ends))) (λ m right.
      exact_then _ (last_exact (out-Elem x).last (part_second first last _ _ p) m r right ends)
      (exact_made end (out-Elem x).span (elem_of (out-Elem x).first (out-Elem x).last) s r r refl (elem_is x) place))

  -- up to the bracket that ends them
  elems_exact : (xs : List Elem) → Part (Unit {0}) k (with_commas (map write_elem xs)) (all (map (formed_elem d) xs)) → (s m r : List Placed) → IsWritten end (with_commas (map write_elem xs)) s m → IsWritten end (symbol mark.CloseBracket) m r
      → elems end child s ≡ Ok (xs, m)
  unfolding elems some_elems more_elems next_elem same_symbol
  elems_exact [] part s m r h closing = exact_first (begins (symbols mark.CloseBracket) s) _ _ (ap (begins (symbols mark.CloseBracket)) h ∙ looks_written (looks_symbol mark.CloseBracket) end (symbol mark.CloseBracket) m r closing) (ap (λ z. Ok ([], z)) h)
  elems_exact (x ∷ xs) part s m r h closing =
      let list = with_commas (map write_elem (x ∷ xs)) in
      exact_second (begins (symbols mark.CloseBracket) s) _ _ (looks_written (looks_symbol mark.CloseBracket) end list s m h ∙ (elems_start x xs (plain m)).bracket)
      (commas_exact end k write_elem (formed_elem d) (elem end child) ElemEnds comma_ends elem_exact x xs part s m h (ends_plain ElemEnds end (symbol mark.CloseBracket) m r closing (close_ends _)) (ap (on_first (on_symbol mark.Comma)) (written_plain end (symbol mark.CloseBracket) m r closing)))

  -- ---- factors

  abbrev FactorRead : Parser Placed Factor → Factor → Type 0
  FactorRead p f = Part (Unit {0}) (suc k) (write_factor f) (formed_factor d f) → (s r : List Placed) → IsWritten end (write_factor f) s r → FactorEnds (plain r) → p s ≡ Ok (f, r)

  module _ (inner : Parser Placed Factor) (inner_good : FactorExact d end k inner) where
    number_read : (v : ℤ) (span : Span) → FactorRead (factor_by d end child inner) (factor_.Number v span)
    unfolding factor_by number
    number_read v span part s r h ends =
        let l = token (Number v) in
        let (place, inside) = written_inside_both end span l s r (written_as end s r (write_factor_number v span) h) in
        exact_second _ _ _ (looks_written looks_name end l s r inside) (exact_first _ _ _ (looks_written looks_number end l s r inside)
        (exact_token _ numbers (says_number v) end Done s r inside (λ m h. exact_made end span (factor_.Number v) s m r h refl place)))

    text_read : (bs : List ℕ) (span : Span) → FactorRead (factor_by d end child inner) (factor_.Text bs span)
    unfolding factor_by text
    text_read bs span part s r h ends =
        let l = token (Text bs) in
        let (place, inside) = written_inside_both end span l s r (written_as end s r (write_factor_text bs span) h) in
        exact_second _ _ _ (looks_written looks_name end l s r inside) (exact_second _ _ _ (looks_written looks_number end l s r inside) (exact_first _ _ _ (looks_written looks_text end l s r inside)
        (exact_token _ texts (says_text bs) end Done s r inside (λ m h. exact_made end span (factor_.Text bs) s m r h refl place))))

    nil_read : (span : Span) → FactorRead (factor_by d end child inner) (factor_.Nil span)
    unfolding factor_by nil same_word
    nil_read span part s r h ends =
        let l = word word_.KwNil in
        let (place, inside) = written_inside_both end span l s r (written_as end s r (write_factor_nil span) h) in
        exact_second _ _ _ (looks_written looks_name end l s r inside) (exact_second _ _ _ (looks_written looks_number end l s r inside) (exact_second _ _ _ (looks_written looks_text end l s r inside)
        (exact_first _ _ _ (looks_written (looks_word word_.KwNil) end l s r inside)
        (exact_token _ (words word_.KwNil) (says_word word_.KwNil) end Done s r inside (λ m h. exact_made end span factor_.Nil s m r h refl place)))))

    place_read : (p : Place) → FactorRead (factor_by d end child inner) (factor_.Place p)
    unfolding factor_by named read_place
    place_read p part s r h ends =
        let row = in_row (map write_selector (out-Place p).selectors) in let l = identifier (out-Place p).name & row in
        let q = part_counted (write_place p) (part_as (write_factor_place p) (formed_factor_place d p) part) in
        let under = written_under end (write_place p) s r (written_as end s r (write_factor_place p) h) in
        let (place, inside) = written_inside end (out-Place p).span l s r (written_as end s r (place_written p) under) in
        exact_first _ _ _ (looks_written looks_name end l s r inside) (exact_name _ (out-Place p).name end row s r inside (λ m h.
        exact_second _ _ _ (looks_written (looks_symbol mark.Open) end row m r h ∙ no_arguments (out-Place p).selectors (plain r) ends)
        (exact_then _ (place_from_exact d end k child good p q s m r h place ends.selector) refl)))

    call_read : (name : Identifier) (a : Args) (span : Span) → FactorRead (factor_by d end child inner) (factor_.Call name a span)
    unfolding factor_by named call
    call_read name a span part s r h ends =
        let l = identifier name & write_args a in
        let q = part_right (identifier name) (write_args a) (part_inside l (part_counted _ (part_as (write_factor_call name a span) (formed_factor_call d name a span) part))) in
        let (place, inside) = written_inside_both end span l s r (written_as end s r (write_factor_call name a span) h) in
        exact_first _ _ _ (looks_written looks_name end l s r inside) (exact_name _ name end (write_args a) s r inside (λ m h.
        exact_first _ _ _ (looks_written (looks_symbol mark.Open) end (write_args a) m r h ∙ ap (on_first (on_symbol mark.Open)) (args_spelled a (plain r)) ∙ on_symbol_here mark.Open)
        (exact_then _ (args_exact d end k child good a q m r h) (exact_made end span (factor_.Call name a) s r r refl refl place))))

    group_read : (e : Expr) (span : Span) → FactorRead (factor_by d end child inner) (factor_.Group e span)
    unfolding factor_by group same_word same_symbol
    group_read e span part s r h ends =
        let close = symbol mark.Close in let l = symbol mark.Open & write_expr e & close in
        let q = part_left (write_expr e) close (part_right (symbol mark.Open) (write_expr e & close) (part_inside l (part_counted _ (part_as (write_factor_group e span) (formed_factor_group d e span) part)))) in
        let (place, inside) = written_inside_both end span l s r (written_as end s r (write_factor_group e span) h) in
        exact_second _ _ _ (looks_written looks_name end l s r inside) (exact_second _ _ _ (looks_written looks_number end l s r inside) (exact_second _ _ _ (looks_written looks_text end l s r inside)
        (exact_second _ _ _ (looks_written (looks_word word_.KwNil) end l s r inside) (exact_first _ _ _ (looks_written (looks_symbol mark.Open) end l s r inside)
        (exact_token _ (symbols mark.Open) (says_symbol mark.Open) end (write_expr e & close) s r inside (λ m h.
        exact_part _ e end (write_expr e) close m r h (λ m' left right. good e q m m' left (ends_plain ExprEnds end close m' r right (mark_ends _).0)) (λ m h.
        exact_token _ (symbols mark.Close) (says_symbol mark.Close) end Done m r h (λ m h. exact_made end span (factor_.Group e) s m r h refl place))))))))

    negation_read : (f : Factor) (span : Span) → FactorRead (factor_by d end child inner) (factor_.Not f span)
    unfolding factor_by negation same_word same_symbol
    negation_read f span part s r h ends =
        let l = word word_.KwNot & write_factor f in
        let q = part_right (word word_.KwNot) (write_factor f) (part_inside l (part_counted _ (part_as (write_factor_not f span) (formed_factor_not d f span) part))) in
        let (place, inside) = written_inside_both end span l s r (written_as end s r (write_factor_not f span) h) in
        exact_second _ _ _ (looks_written looks_name end l s r inside) (exact_second _ _ _ (looks_written looks_number end l s r inside) (exact_second _ _ _ (looks_written looks_text end l s r inside)
        (exact_second _ _ _ (looks_written (looks_word word_.KwNil) end l s r inside) (exact_second _ _ _ (looks_written (looks_symbol mark.Open) end l s r inside) (exact_first _ _ _ (looks_written (looks_word word_.KwNot) end l s r inside)
        (exact_token _ (words word_.KwNot) (says_word word_.KwNot) end (write_factor f) s r inside (λ m h.
        exact_then _ (inner_good f q m r h ends) (exact_made end span (factor_.Not f) s r r refl refl place))))))))

    set_read : (all : List Elem) (span : Span) → FactorRead (factor_by d end child inner) (factor_.Set all span)
    unfolding factor_by set same_word same_symbol
    set_read all span part s r h ends =
        let list = with_commas (map write_elem all) in let close = symbol mark.CloseBracket in let l = symbol mark.OpenBracket & list & close in
        let q = part_left list close (part_right (symbol mark.OpenBracket) (list & close) (part_inside l (part_counted _ (part_as (write_factor_set all span) (formed_factor_set d all span) part)))) in
        let (place, inside) = written_inside_both end span l s r (written_as end s r (write_factor_set all span) h) in
        exact_second _ _ _ (looks_written looks_name end l s r inside) (exact_second _ _ _ (looks_written looks_number end l s r inside) (exact_second _ _ _ (looks_written looks_text end l s r inside)
        (exact_second _ _ _ (looks_written (looks_word word_.KwNil) end l s r inside) (exact_second _ _ _ (looks_written (looks_symbol mark.Open) end l s r inside) (exact_second _ _ _ (looks_written (looks_word word_.KwNot) end l s r inside)
        (exact_token _ (symbols mark.OpenBracket) (says_symbol mark.OpenBracket) end (list & close) s r inside (λ m h.
        exact_part _ all end list close m r h (λ m' left right. elems_exact all q m m' r left right) (λ m h.
        exact_token _ (symbols mark.CloseBracket) (says_symbol mark.CloseBracket) end Done m r h (λ m h. exact_made end span (factor_.Set all) s m r h refl place)))))))))

    pub factor_by_exact : FactorExact d end (suc k) (factor_by d end child inner)
    factor_by_exact f = factor_cases (FactorRead (factor_by d end child inner)) (record {
      number = number_read;
      text = text_read;
      nil = nil_read;
      place = place_read;
      call = call_read;
      group = group_read;
      negation = negation_read;
      set = set_read;
    }) f

-- ---- expressions

mutual
  unfolding expr factor

  pub expr_exact : (d : Dialect) (end : Span) (k : ℕ) → ExprExact d end k (expr d end k)
  expr_exact d end zero e part s r h ends = let fits = part.fits tt in absurd (omega (arith, fits, expr_deep e))
  expr_exact d end (suc k) e part s r h ends = expr_by_exact d end k (factor d end k) (factor_exact d end k) e part s r h ends

  pub factor_exact : (d : Dialect) (end : Span) (k : ℕ) → FactorExact d end k (factor d end k)
  factor_exact d end zero f part s r h ends = let fits = part.fits tt in absurd (omega (arith, fits, factor_deep f))
  factor_exact d end (suc k) f part s r h ends = factor_by_exact d end k (expr d end k) (expr_exact d end k) (factor d end k) (factor_exact d end k) f part s r h ends
