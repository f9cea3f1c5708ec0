-- Factors and whole expressions of a text are followed.
use Rattle.std.proofs.Common.{◌≡◌, ℕ, zero, suc, ℤ, ◌≤◌, false, List, [], ◌∷◌, length, map, Option, Some, None, refl, sym, ap, subst, ◌∙◌, arith}
use Rattle.p2c_text.specs.declared.dialect.Dialect.{Dialect}
use Rattle.p2c_text.specs.declared.place.Span.{Span}
use Rattle.dialect_lexer.specs.declared.token.Word.TheVariants as word_
use Rattle.dialect_lexer.specs.declared.token.Symbol.TheVariants as mark
use Rattle.pascal_tree.specs.declared.names.Identifier.{Identifier}
use Rattle.pascal_tree.specs.declared.expressions.Args.{Args}
use Rattle.pascal_tree.specs.declared.expressions.Elem.{Elem, out-Elem}
use Rattle.pascal_tree.specs.declared.expressions.Expr.{Expr}
use Rattle.pascal_tree.specs.declared.expressions.Factor.{Factor}
use Rattle.pascal_tree.specs.declared.expressions.Factor.TheVariants as factor_
use Rattle.pascal_tree.specs.declared.expressions.Place.{Place, out-Place}
use Rattle.token_parsing.specs.Parser.{Parser, begins}
use Rattle.token_parsing.proofs.Tracked.{Shrinks, pure_shrinks, one_shrinks, then_shrinks, short_then}
use Rattle.expr_parser.specs.Tokens.{Token, Placed, Symbol}
use Rattle.expr_parser.specs.Layout.{Layout, ◌&◌, symbol, word, counted, with_commas, after_commas, height_of}
use Rattle.expr_parser.specs.Writing.{identifier, optional_after as write_after, write_args, write_elem, write_expr, write_factor, write_place}
use Rattle.expr_parser.specs.Grammar.{all, optional, formed_elem, formed_factor}
use Rattle.expr_parser.specs.Classes.{same_word, same_symbol, identifiers, numbers, texts, words, symbols}
use Rattle.expr_parser.specs.Places.{optional_after, args}
use Rattle.expr_parser.specs.Factors.{number, text, nil, call, read_place, named, group, negation, elem, next_elem, more_elems, some_elems, elems, set, factor_by}
use Rattle.expr_parser.specs.Expressions.{expr, factor}
use Rattle.expr_parser.proofs.Layouts.{spell, spell_join}
use Rattle.expr_parser.proofs.WrittenNodes.{write_optional, write_factor_number, write_factor_text, write_factor_nil, write_factor_place, write_factor_call, write_factor_group, write_factor_not, write_factor_set}
use Rattle.expr_parser.proofs.FormedNodes.{formed_optional, formed_elem_of, formed_factor_place, formed_factor_call, formed_factor_group, formed_factor_not, formed_factor_set}
use Rattle.expr_parser.proofs.Views.{elem_is, factor_cases}
use Rattle.expr_parser.proofs.Spelled.{elem_written, expr_written, elem_spelled, place_spelled, args_spelled}
use Rattle.expr_parser.proofs.Starts.{Starts, expr_starts}
use Rattle.expr_parser.proofs.Shrinks.{optional_shrinks, listed_args_shrinks, after_name_shrinks, elem_shrinks, elems_shrinks, expr_shrinks, factor_shrinks}
use Rattle.expr_parser.proofs.Followed.{Until, Along, Followed, too_deep, Begun, on_first, follow_then, follow_pure, follow_token, follow_first, follow_second, follow_not, begun_token, looks_at, looks_false}
use Rattle.expr_parser.proofs.FollowedParts.{Part, part_as, part_first, part_second, part_left, part_right, part_inside, part_counted, along_as, ExprFollowed, FactorFollowed}
use Rattle.expr_parser.proofs.FollowedLists.{commas_followed}
use Rattle.expr_parser.proofs.FollowedPlaces.{optional_none, optional_some, place_from_followed, no_arguments, args_followed}
use Rattle.expr_parser.proofs.FollowedTerms.{expr_by_followed}
use Rattle.expr_parser.proofs.Lookahead.{looks_name, looks_number, looks_text, looks_word, looks_symbol, on_symbol, on_symbol_here, accepts_name, accepts_number, accepts_text, accepts_word, accepts_symbol, ExprEnds, FactorEnds, mark_ends}

-- ---- elements of sets

pub record ElemEnds (w : List Token) : Type 0 where
  pub expr : ExprEnds w
  pub dots : on_first (on_symbol mark.DotDot) w ≡ false

pub comma_ends : (w : List Token) → ElemEnds (Symbol mark.Comma ∷ w)
unfolding same_symbol
comma_ends w = record { expr = (mark_ends w).2; dots = refl }

pub close_ends : (w : List Token) → ElemEnds (Symbol mark.CloseBracket ∷ w)
unfolding same_symbol
close_ends w = record { expr = (mark_ends w).1; dots = refl }

pub last_ends : (last : Option Expr) (rest : List Token) → ElemEnds rest → ExprEnds (spell (write_after mark.DotDot (write_optional last)) rest)
last_ends None rest ends = ends.expr
last_ends (Some e) rest ends = (mark_ends _).4

pub elem_starts : (x : Elem) (rest : List Token) → Starts (spell (write_elem x) rest)
elem_starts x rest = subst Starts (sym (elem_spelled x rest)) (expr_starts (out-Elem x).first _)

pub elems_start : (x : Elem) (xs : List Elem) (rest : List Token) → Starts (spell (with_commas (map write_elem (x ∷ xs))) rest)
elems_start x xs rest = subst Starts (sym (spell_join (write_elem x) (after_commas (map write_elem xs)) rest)) (elem_starts x _)

module _ (n : Until) (W : Type 0) (d : Dialect) (end : Span) (k : ℕ) (child : Parser Placed Expr) (shrinks : Shrinks child) (good : ExprFollowed n W d k child) where
  last_followed : (last : Option Expr) → Part W k (write_after mark.DotDot (write_optional last)) (optional (formed_optional d last)) → (rest : List Token) → ElemEnds rest → (s : List Placed)
      → Along n (spell (write_after mark.DotDot (write_optional last)) rest) s → Followed n W rest (optional_after mark.DotDot child s)
  last_followed None part rest ends s h = optional_none n W d end k child shrinks good mark.DotDot rest ends.dots s h
  last_followed (Some e) part rest ends s h = optional_some n W d end k child shrinks good mark.DotDot e (part_right (symbol mark.DotDot) (write_expr e) part) rest ends.expr s h

  elem_followed : (x : Elem) → Part W k (write_elem x) (formed_elem d x) → (rest : List Token) → ElemEnds rest → (s : List Placed) → Along n (spell (write_elem x) rest) s → Followed n W rest (elem end child s)
  unfolding elem
  elem_followed x part rest ends s h =
      let first = write_expr (out-Elem x).first in let last = write_after mark.DotDot (write_optional (out-Elem x).last) in
      let p = part_inside (first & last) (part_as (elem_written x) (ap (formed_elem d) (elem_is x) ∙ formed_elem_of d (out-Elem x).first (out-Elem x).last (out-Elem x).span) part) in
      follow_then (good (out-Elem x).first (part_first first last _ _ p) (spell last rest) (last_ends (out-Elem x).last rest ends) s (along_as (elem_spelled x rest) h))
      (λ a. then_shrinks (optional_shrinks d end child shrinks mark.DotDot) (λ b. λ n r k. pure_shrinks _ n r k)) (λ a r h.
      follow_then (last_followed (out-Elem x).last (part_second first last _ _ p) rest ends r h) (λ b. λ n r k. pure_shrinks _ n r k) (λ b r h. follow_pure _ h))

  elems_followed : (xs : List Elem) → Part W k (with_commas (map write_elem xs)) (all (map (formed_elem d) xs)) → (rest : List Token) (s : List Placed)
      → Along n (spell (with_commas (map write_elem xs)) (Symbol mark.CloseBracket ∷ rest)) s → Followed n W (Symbol mark.CloseBracket ∷ rest) (elems end child s)
  unfolding elems some_elems more_elems next_elem same_symbol
  elems_followed [] part rest s h = follow_first (begins (symbols mark.CloseBracket) s) _ _ (looks_at (looks_symbol mark.CloseBracket) h ∙ on_symbol_here mark.CloseBracket) (follow_pure _ h)
  elems_followed (x ∷ xs) part rest s h =
      let begin = elems_start x xs (Symbol mark.CloseBracket ∷ rest) in
      follow_second (begins (symbols mark.CloseBracket) s) _ _ (looks_false (looks_symbol mark.CloseBracket) begin.bracket begin.some h)
      (commas_followed n W k write_elem (formed_elem d) (elem end child) (elem_shrinks d end child shrinks) ElemEnds comma_ends elem_followed x xs part (Symbol mark.CloseBracket ∷ rest) (close_ends rest) refl s h)

  -- ---- factors

  abbrev FactorRead : Parser Placed Factor → Factor → Type 0
  FactorRead p f = Part W (suc k) (write_factor f) (formed_factor d f) → (rest : List Token) → FactorEnds rest → (s : List Placed) → Along n (spell (write_factor f) rest) s → Followed n W rest (p s)

  module _ (inner : Parser Placed Factor) (inner_shrinks : Shrinks inner) (inner_good : FactorFollowed n W d k inner) where
    number_read : (v : ℤ) (span : Span) → FactorRead (factor_by d end child inner) (factor_.Number v span)
    unfolding factor_by number
    number_read v span part rest ends s h =
        let h' = along_as (ap (λ l. spell l rest) (write_factor_number v span)) h in
        follow_second _ _ _ (looks_at looks_name h') (follow_first _ _ _ (looks_at looks_number h')
        (follow_token numbers (accepts_number v) h' (λ v. λ n r k. pure_shrinks _ n r k) (λ v r h. follow_pure _ h)))

    text_read : (bs : List ℕ) (span : Span) → FactorRead (factor_by d end child inner) (factor_.Text bs span)
    unfolding factor_by text
    text_read bs span part rest ends s h =
        let h' = along_as (ap (λ l. spell l rest) (write_factor_text bs span)) h in
        follow_second _ _ _ (looks_at looks_name h') (follow_second _ _ _ (looks_at looks_number h') (follow_first _ _ _ (looks_at looks_text h')
        (follow_token texts (accepts_text bs) h' (λ v. λ n r k. pure_shrinks _ n r k) (λ v r h. follow_pure _ h))))

    nil_read : (span : Span) → FactorRead (factor_by d end child inner) (factor_.Nil span)
    unfolding factor_by nil same_word
    nil_read span part rest ends s h =
        let h' = along_as (ap (λ l. spell l rest) (write_factor_nil span)) h in
        follow_second _ _ _ (looks_at looks_name h') (follow_second _ _ _ (looks_at looks_number h') (follow_second _ _ _ (looks_at looks_text h')
        (follow_first _ _ _ (looks_at (looks_word word_.KwNil) h')
        (follow_token (words word_.KwNil) (accepts_word word_.KwNil) h' (λ u. λ n r k. pure_shrinks _ n r k) (λ _ r h. follow_pure _ h)))))

    call_begun : (from : List Placed) (name : Identifier) → Begun (begins (symbols mark.Open)) (call d end child from name)
    unfolding call args
    call_begun from name s e =
        short_then (begun_token (symbols mark.Open) s e (λ _. then_shrinks (listed_args_shrinks d end child shrinks) (λ all. then_shrinks (one_shrinks _) (λ u. λ n r k. pure_shrinks _ n r k)))) (λ a. λ n r k. pure_shrinks _ n r k)

    place_read : (p : Place) → FactorRead (factor_by d end child inner) (factor_.Place p)
    unfolding factor_by named read_place
    place_read p part rest ends s h =
        let h' = along_as (ap (λ l. spell l rest) (write_factor_place p) ∙ place_spelled p rest) h in
        let q = part_counted (write_place p) (part_as (write_factor_place p) (formed_factor_place d p) part) in
        follow_first _ _ _ (looks_at looks_name h')
        (follow_token identifiers (accepts_name (out-Place p).name.name) h' (λ name. after_name_shrinks d end child shrinks s name) (λ name r h.
        follow_not (looks_symbol mark.Open) (call d end child s name) (read_place end child s name) (no_arguments (out-Place p).selectors rest ends) h (call_begun s name)
        (follow_then (place_from_followed n W d end k child shrinks good p q rest ends.selector s name r h) (λ p. pure_shrinks _) (λ p r h. follow_pure _ h))))

    call_read : (name : Identifier) (a : Args) (span : Span) → FactorRead (factor_by d end child inner) (factor_.Call name a span)
    unfolding factor_by named call
    call_read name a span part rest ends s h =
        let h' = along_as (ap (λ l. spell l rest) (write_factor_call name a span)) h in
        let q = part_right (identifier name) (write_args a) (part_inside (identifier name & write_args a) (part_counted _ (part_as (write_factor_call name a span) (formed_factor_call d name a span) part))) in
        follow_first _ _ _ (looks_at looks_name h')
        (follow_token identifiers (accepts_name name.name) h' (λ name. after_name_shrinks d end child shrinks s name) (λ name r h.
        follow_first _ _ _ (looks_at (looks_symbol mark.Open) (along_as (args_spelled a rest) h) ∙ on_symbol_here mark.Open)
        (follow_then (args_followed n W d end k child shrinks good a q rest r h) (λ a. λ n r k. pure_shrinks _ n r k) (λ a r h. follow_pure _ h))))

    group_read : (e : Expr) (span : Span) → FactorRead (factor_by d end child inner) (factor_.Group e span)
    unfolding factor_by group same_word same_symbol
    group_read e span part rest ends s h =
        let h' = along_as (ap (λ l. spell l rest) (write_factor_group e span) ∙ ap (λ w. Symbol mark.Open ∷ w) (spell_join (write_expr e) (symbol mark.Close) rest)) h in
        let q = part_left (write_expr e) (symbol mark.Close) (part_right (symbol mark.Open) (write_expr e & symbol mark.Close) (part_inside _ (part_counted _ (part_as (write_factor_group e span) (formed_factor_group d e span) part)))) in
        follow_second _ _ _ (looks_at looks_name h') (follow_second _ _ _ (looks_at looks_number h') (follow_second _ _ _ (looks_at looks_text h')
        (follow_second _ _ _ (looks_at (looks_word word_.KwNil) h') (follow_first _ _ _ (looks_at (looks_symbol mark.Open) h')
        (follow_token (symbols mark.Open) (accepts_symbol mark.Open) h' (λ _. then_shrinks shrinks (λ e. then_shrinks (one_shrinks _) (λ u. λ n r k. pure_shrinks _ n r k))) (λ _ r h.
        follow_then (good e q (Symbol mark.Close ∷ rest) (mark_ends rest).0 r h) (λ e. then_shrinks (one_shrinks _) (λ u. λ n r k. pure_shrinks _ n r k)) (λ e r h.
        follow_token (symbols mark.Close) (accepts_symbol mark.Close) h (λ u. λ n r k. pure_shrinks _ n r k) (λ _ r h. follow_pure _ h))))))))

    negation_read : (f : Factor) (span : Span) → FactorRead (factor_by d end child inner) (factor_.Not f span)
    unfolding factor_by negation same_word same_symbol
    negation_read f span part rest ends s h =
        let h' = along_as (ap (λ l. spell l rest) (write_factor_not f span)) h in
        let q = part_right (word word_.KwNot) (write_factor f) (part_inside _ (part_counted _ (part_as (write_factor_not f span) (formed_factor_not d f span) part))) in
        follow_second _ _ _ (looks_at looks_name h') (follow_second _ _ _ (looks_at looks_number h') (follow_second _ _ _ (looks_at looks_text h')
        (follow_second _ _ _ (looks_at (looks_word word_.KwNil) h') (follow_second _ _ _ (looks_at (looks_symbol mark.Open) h') (follow_first _ _ _ (looks_at (looks_word word_.KwNot) h')
        (follow_token (words word_.KwNot) (accepts_word word_.KwNot) h' (λ _. then_shrinks inner_shrinks (λ f. λ n r k. pure_shrinks _ n r k)) (λ _ r h.
        follow_then (inner_good f q rest ends r h) (λ f. λ n r k. pure_shrinks _ n r k) (λ f r h. follow_pure _ h))))))))

    set_read : (all : List Elem) (span : Span) → FactorRead (factor_by d end child inner) (factor_.Set all span)
    unfolding factor_by set same_word same_symbol
    set_read all span part rest ends s h =
        let list = with_commas (map write_elem all) in
        let h' = along_as (ap (λ l. spell l rest) (write_factor_set all span) ∙ ap (λ w. Symbol mark.OpenBracket ∷ w) (spell_join list (symbol mark.CloseBracket) rest)) h in
        let q = part_left list (symbol mark.CloseBracket) (part_right (symbol mark.OpenBracket) (list & symbol mark.CloseBracket) (part_inside _ (part_counted _ (part_as (write_factor_set all span) (formed_factor_set d all span) part)))) in
        follow_second _ _ _ (looks_at looks_name h') (follow_second _ _ _ (looks_at looks_number h') (follow_second _ _ _ (looks_at looks_text h')
        (follow_second _ _ _ (looks_at (looks_word word_.KwNil) h') (follow_second _ _ _ (looks_at (looks_symbol mark.Open) h') (follow_second _ _ _ (looks_at (looks_word word_.KwNot) h')
        (follow_token (symbols mark.OpenBracket) (accepts_symbol mark.OpenBracket) h' (λ _. then_shrinks (elems_shrinks d end child shrinks) (λ all. then_shrinks (one_shrinks _) (λ u. λ n r k. pure_shrinks _ n r k))) (λ _ r h.
        follow_then (elems_followed all q rest r h) (λ all. then_shrinks (one_shrinks _) (λ u. λ n r k. pure_shrinks _ n r k)) (λ all r h.
        follow_token (symbols mark.CloseBracket) (accepts_symbol mark.CloseBracket) h (λ u. λ n r k. pure_shrinks _ n r k) (λ _ r h. follow_pure _ h)))))))))

    pub factor_by_followed : FactorFollowed n W d (suc k) (factor_by d end child inner)
    factor_by_followed f = factor_cases (FactorRead (factor_by d end child inner)) (record {
      number = number_read;
      text = text_read;
      nil = nil_read;
      place = place_read;
      call = call_read;
      group = group_read;
      negation = negation_read;
      set = set_read;
    }) f

-- ---- expressions

pub expr_deep : (e : Expr) → 1 ≤ height_of (write_expr e)
expr_deep e = subst (λ l. 1 ≤ height_of l) (sym (expr_written e)) (omega arith)

pub factor_deep : (f : Factor) → 1 ≤ height_of (write_factor f)
factor_deep f = factor_cases (λ f. 1 ≤ height_of (write_factor f)) (record {
  number = λ v span. deep (write_factor_number v span);
  text = λ bs span. deep (write_factor_text bs span);
  nil = λ span. deep (write_factor_nil span);
  place = λ p. deep (write_factor_place p);
  call = λ n a span. deep (write_factor_call n a span);
  group = λ e span. deep (write_factor_group e span);
  negation = λ g span. deep (write_factor_not g span);
  set = λ all span. deep (write_factor_set all span);
}) f
  where
    deep : {l m : Layout} → l ≡ counted m → 1 ≤ height_of l
    deep {l} {m} e = subst (λ l. 1 ≤ height_of l) (sym e) (omega arith)

mutual
  unfolding expr factor

  pub expr_followed : (n : Until) (W : Type 0) (d : Dialect) (end : Span) (k : ℕ) → ExprFollowed n W d k (expr d end k)
  expr_followed n W d end zero e part rest ends s h = too_deep (length s) (λ w. let fits = part.fits w in absurd (omega (arith, fits, expr_deep e)))
  expr_followed n W d end (suc k) e part rest ends s h = expr_by_followed n W d end k (factor d end k) (factor_shrinks d end k) (factor_followed n W d end k) e part rest ends s h

  pub factor_followed : (n : Until) (W : Type 0) (d : Dialect) (end : Span) (k : ℕ) → FactorFollowed n W d k (factor d end k)
  factor_followed n W d end zero f part rest ends s h = too_deep (length s) (λ w. let fits = part.fits w in absurd (omega (arith, fits, factor_deep f)))
  factor_followed n W d end (suc k) f part rest ends s h = factor_by_followed n W d end k (expr d end k) (expr_shrinks d end k) (expr_followed n W d end k) (factor d end k) (factor_shrinks d end k) (factor_followed n W d end k) f part rest ends s h
