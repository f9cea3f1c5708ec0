-- Places and arguments that are written are read.
use Rattle.std.proofs.Common.{◌≡◌, ℕ, false, List, [], ◌∷◌, ◌++◌, map, Option, Some, None, Ok, refl, sym, ap, subst, ◌∙◌}
use Rattle.std.specs.List.{AllByRecursion}
use Rattle.p2c_text.specs.declared.dialect.Dialect.{Dialect}
use Rattle.p2c_text.specs.declared.place.Span.{Span}
use Rattle.dialect_lexer.specs.Dialects.{is_ucsd}
use Rattle.dialect_lexer.specs.declared.token.Word.TheVariants as word_
use Rattle.dialect_lexer.specs.declared.token.Symbol.{Symbol as SpecialSymbol}
use Rattle.dialect_lexer.specs.declared.token.Symbol.TheVariants as mark
use Rattle.pascal_tree.specs.declared.names.Identifier.{Identifier}
use Rattle.pascal_tree.specs.declared.expressions.Arg.{Arg}
use Rattle.pascal_tree.specs.declared.expressions.Arg.TheVariants as arg
use Rattle.pascal_tree.specs.declared.expressions.Args.{Args, out-Args}
use Rattle.pascal_tree.specs.declared.expressions.Expr.{Expr}
use Rattle.pascal_tree.specs.declared.expressions.Place.{Place, out-Place}
use Rattle.pascal_tree.specs.declared.expressions.Selector.{Selector}
use Rattle.pascal_tree.specs.declared.expressions.Selector.TheVariants as selector
use Rattle.token_parsing.specs.Parser.{Parser, and_then, begins}
use Rattle.expr_parser.specs.Tokens.{Placed, plain}
use Rattle.expr_parser.specs.Layout.{Layout, Done, ◌&◌, symbol, word, in_row, with_commas, IsWritten}
use Rattle.expr_parser.specs.Writing.{identifier, optional_after as write_after, write_arg, write_args, write_expr, write_place, write_selector}
use Rattle.expr_parser.specs.Grammar.{all, some_all, formatted, formed_arg, formed_args, formed_expr, formed_place, formed_selector}
use Rattle.expr_parser.specs.Spans.{span_between}
use Rattle.expr_parser.specs.Classes.{same_symbol, words, symbols}
use Rattle.expr_parser.specs.Places.{optional_after, next_expr, more_exprs, exprs, index, field, follow, selected, begins_selector, next_selector, selectors, place_of, place_from, place, value_arg, program_arg, begins_program, one_arg, next_arg, more_args, listed_args, args_of, args}
use Rattle.expr_parser.proofs.Layouts.{spell, spell_join}
use Rattle.expr_parser.proofs.WrittenNodes.{write_optional, write_selector_index, write_selector_field, write_selector_follow, write_arg_program, write_arg_value}
use Rattle.expr_parser.proofs.FormedNodes.{formed_optional, formed_place_of, formed_args_of, formed_selector_index, formed_arg_program, formed_arg_value}
use Rattle.expr_parser.proofs.Views.{place_is, args_is, selector_cases, arg_cases}
use Rattle.expr_parser.proofs.Spelled.{place_written, args_written}
use Rattle.expr_parser.proofs.Starts.{expr_starts}
use Rattle.expr_parser.proofs.Followed.{on_first}
use Rattle.expr_parser.proofs.FollowedParts.{and_in, Part, part_as, part_first, part_second, part_left, part_right, part_inside}
use Rattle.expr_parser.proofs.FollowedPlaces.{selector_starts, ArgEnds, formats_end, comma_ends, close_ends}
use Rattle.expr_parser.proofs.Lookahead.{looks_symbol, looks_selector, looks_program, not_program, on_symbol, on_word, on_selector, on_symbol_here, on_word_here, says_symbol, says_word, ExprEnds, mark_ends}
use Rattle.expr_parser.proofs.Exact.{written_as, written_inside, written_plain, ends_plain, exact_then, exact_part, exact_token, exact_name, exact_made, exact_first, exact_second, looks_plain, looks_written, Row, list_exact}
use Rattle.expr_parser.proofs.ExactLists.{commas_exact}
use Rattle.expr_parser.proofs.ExactTerms.{ExprExact}

module _ (d : Dialect) (end : Span) (k : ℕ) (child : Parser Placed Expr) (good : ExprExact d end k child) where
  -- [mark Expr]
  pub optional_none : (m : SpecialSymbol) (s r : List Placed) → s ≡ r → on_first (on_symbol m) (plain r) ≡ false → optional_after m child s ≡ Ok (None, r)
  unfolding optional_after
  optional_none m s r h closed = exact_second (begins (symbols m) s) _ _ (looks_written (looks_symbol m) end Done s r h ∙ closed) (ap (λ z. Ok (None, z)) h)

  pub optional_some : (m : SpecialSymbol) (e : Expr) → Part (Unit {0}) k (write_expr e) (formed_expr d e) → (s r : List Placed) → IsWritten end (symbol m & write_expr e) s r → ExprEnds (plain r) → optional_after m child s ≡ Ok (Some e, r)
  unfolding optional_after
  optional_some m e part s r h ends =
      exact_first (begins (symbols m) s) _ _ (looks_written (looks_symbol m) end (symbol m & write_expr e) s r h ∙ on_symbol_here m)
      (exact_token _ (symbols m) (says_symbol m) end (write_expr e) s r h (λ n h. exact_then _ (good e part n r h ends) refl))

  -- ---- selectors

  exprs_exact : (xs : List Expr) → Part (Unit {0}) k (with_commas (map write_expr xs)) (some_all (map (formed_expr d) xs)) → (s r : List Placed) → IsWritten end (with_commas (map write_expr xs)) s r
      → ExprEnds (plain r) → on_first (on_symbol mark.Comma) (plain r) ≡ false → exprs child s ≡ Ok (xs, r)
  unfolding exprs more_exprs next_expr
  exprs_exact [] part s r h ends closed = let none = part.formed in absurd cc
  exprs_exact (x ∷ xs) part s r h ends closed = commas_exact end k write_expr (formed_expr d) child ExprEnds (λ w. (mark_ends w).2) good x xs part s r h ends closed

  abbrev SelectorRead : Selector → Type 0
  SelectorRead x = Part (Unit {0}) k (write_selector x) (formed_selector d x) → (s r : List Placed) → IsWritten end (write_selector x) s r → selected end child s ≡ Ok (x, r)

  index_read : (all : List Expr) (span : Span) → SelectorRead (selector.Index all span)
  unfolding selected index same_symbol
  index_read all span part s r h =
      let list = with_commas (map write_expr all) in let close = symbol mark.CloseBracket in let l = symbol mark.OpenBracket & list & close in
      let written = write_selector_index all span in
      let p = part_left list close (part_right (symbol mark.OpenBracket) (list & close) (part_inside _ (part_as written (formed_selector_index d all span) part))) in
      let (place, inside) = written_inside end span l s r (written_as end s r written h) in
      exact_second _ _ _ (looks_written (looks_symbol mark.Dot) end l s r inside) (exact_second _ _ _ (looks_written (looks_symbol mark.Caret) end l s r inside)
      (exact_token _ (symbols mark.OpenBracket) (says_symbol mark.OpenBracket) end (list & close) s r inside (λ m h.
      exact_part _ all end list close m r h (λ m' left right. exprs_exact all p m m' left (ends_plain ExprEnds end close m' r right (mark_ends _).1) (ap (on_first (on_symbol mark.Comma)) (written_plain end close m' r right))) (λ m h.
      exact_token _ (symbols mark.CloseBracket) (says_symbol mark.CloseBracket) end Done m r h (λ m h. exact_made end span (selector.Index all) s m r h refl place)))))

  field_read : (name : Identifier) (span : Span) → SelectorRead (selector.Field name span)
  unfolding selected field same_symbol
  field_read name span part s r h =
      let l = symbol mark.Dot & identifier name in
      let (place, inside) = written_inside end span l s r (written_as end s r (write_selector_field name span) h) in
      exact_first _ _ _ (looks_written (looks_symbol mark.Dot) end l s r inside)
      (exact_token _ (symbols mark.Dot) (says_symbol mark.Dot) end (identifier name) s r inside (λ m h.
      exact_name _ name end Done m r h (λ m h. exact_made end span (selector.Field name) s m r h refl place)))

  follow_read : (span : Span) → SelectorRead (selector.Follow span)
  unfolding selected follow same_symbol
  follow_read span part s r h =
      let l = symbol mark.Caret in
      let (place, inside) = written_inside end span l s r (written_as end s r (write_selector_follow span) h) in
      exact_second _ _ _ (looks_written (looks_symbol mark.Dot) end l s r inside) (exact_first _ _ _ (looks_written (looks_symbol mark.Caret) end l s r inside)
      (exact_token _ (symbols mark.Caret) (says_symbol mark.Caret) end Done s r inside (λ m h. exact_made end span selector.Follow s m r h refl place)))

  selector_exact : (x : Selector) → SelectorRead x
  selector_exact x = selector_cases SelectorRead (record { index = index_read; field = field_read; follow = follow_read }) x

  abbrev row : List Selector → Layout
  row xs = in_row (map write_selector xs)

  selector_row : Row end write_selector row begins_selector on_selector (next_selector end child) (λ w. Unit {0})
  selector_row = record {
    none = refl;
    one_more = λ x more. refl;
    looks = looks_selector;
    starts = λ x w. let h = selector_starts x w in ap (on_first on_selector) h.is ∙ h.selector;
    ends = λ x w. tt;
  }

  abbrev SelectorItem : Selector → Type 0
  SelectorItem x = (found : List Selector) (s r : List Placed) → IsWritten end (write_selector x) s r → Unit {0} → next_selector end child found s ≡ Ok (found ++ x ∷ [], r)

  selector_item : (x : Selector) → Part (Unit {0}) k (write_selector x) (formed_selector d x) → SelectorItem x
  unfolding next_selector
  selector_item x part found s r h ends = exact_then _ (selector_exact x part s r h) refl

  selector_items : (xs : List Selector) → Part (Unit {0}) k (row xs) (all (map (formed_selector d) xs)) → AllByRecursion SelectorItem xs
  selector_items [] part = tt
  selector_items (x ∷ xs) part = (selector_item x (part_first (write_selector x) (row xs) _ _ part), selector_items xs (part_second (write_selector x) (row xs) _ _ part))

  -- the selectors of a place
  pub place_from_exact : (p : Place) → Part (Unit {0}) k (write_place p) (formed_place d p) → (from s r : List Placed) → IsWritten end (in_row (map write_selector (out-Place p).selectors)) s r
      → (out-Place p).span ≡ span_between end from r → on_first on_selector (plain r) ≡ false → place_from end child from (out-Place p).name s ≡ Ok (p, r)
  unfolding place_from selectors
  place_from_exact p part from s r h place closed =
      let name = identifier (out-Place p).name in let inside = row (out-Place p).selectors in
      let q = part_right name inside (part_inside (name & inside) (part_as (place_written p) (ap (formed_place d) (place_is p) ∙ formed_place_of d (out-Place p).name (out-Place p).selectors (out-Place p).span) part)) in
      exact_then _ (list_exact end write_selector row begins_selector on_selector (next_selector end child) (λ w. Unit {0}) selector_row (out-Place p).selectors (selector_items (out-Place p).selectors q) [] s r h tt closed)
      (exact_made end (out-Place p).span (place_of (out-Place p).name (out-Place p).selectors) from r r refl (place_is p) place)

  pub place_exact : (p : Place) → Part (Unit {0}) k (write_place p) (formed_place d p) → (s r : List Placed) → IsWritten end (write_place p) s r → on_first on_selector (plain r) ≡ false → place end child s ≡ Ok (p, r)
  unfolding place
  place_exact p part s r h closed =
      let (span, inside) = written_inside end (out-Place p).span (identifier (out-Place p).name & row (out-Place p).selectors) s r (written_as end s r (place_written p) h) in
      exact_name _ (out-Place p).name end (row (out-Place p).selectors) s r inside (λ m h. place_from_exact p part s m r h span closed)

  -- ---- arguments

  abbrev ArgRead : Arg → Type 0
  ArgRead x = Part (Unit {0}) k (write_arg x) (formed_arg d x) → (s r : List Placed) → IsWritten end (write_arg x) s r → ArgEnds (plain r) → one_arg d end child s ≡ Ok (x, r)

  abbrev format : Option Expr → Layout
  format e = write_after mark.Colon (write_optional e)

  -- [":" Expr [":" Expr]]
  formats_exact : {A : Type 0} (f : Option Expr → Option Expr → List Placed → A) (width decimals : Option Expr) → Part (Unit {0}) k (format width & format decimals) (formatted (formed_optional d width) (formed_optional d decimals))
      → (s r : List Placed) → IsWritten end (format width & format decimals) s r → ArgEnds (plain r)
      → and_then (optional_after mark.Colon child s) (λ w s. and_then (optional_after mark.Colon child s) (λ x s. Ok (f w x s, s))) ≡ Ok (f width decimals r, r)
  formats_exact f None None part s r h ends = exact_then _ (optional_none mark.Colon s r h ends.colon) (exact_then _ (optional_none mark.Colon r r refl ends.colon) refl)
  formats_exact f None (Some y) part s r h ends = let none = part.formed in absurd cc
  formats_exact f (Some x) None part s r h ends =
      let p = part_first (write_expr x) Done _ _ (part_right (symbol mark.Colon) (write_expr x & Done) part) in
      exact_part _ (Some x) end (symbol mark.Colon & write_expr x) Done s r h (λ m left right. optional_some mark.Colon x p s m left (ends_plain ExprEnds end Done m r right ends.expr)) (λ m right.
      exact_then _ (optional_none mark.Colon m r right ends.colon) refl)
  formats_exact f (Some x) (Some y) part s r h ends =
      let last = symbol mark.Colon & write_expr y in
      let both = part_right (symbol mark.Colon) (write_expr x & last) part in
      let p = part_first (write_expr x) last _ _ both in
      let q = part_right (symbol mark.Colon) (write_expr y) (part_second (write_expr x) last _ _ both) in
      exact_part _ (Some x) end (symbol mark.Colon & write_expr x) last s r h (λ m left right. optional_some mark.Colon x p s m left (ends_plain ExprEnds end last m r right (mark_ends _).3)) (λ m right.
      exact_then _ (optional_some mark.Colon y q m r right ends.expr) refl)

  value_read : (value : Expr) (width decimals : Option Expr) (span : Span) → ArgRead (arg.Value value width decimals span)
  unfolding one_arg value_arg
  value_read value width decimals span part s r h ends =
      let v = write_expr value in let others = format width & format decimals in
      let p = part_inside (v & others) (part_as (write_arg_value value width decimals span) (formed_arg_value d value width decimals span) part) in
      let q = part_second v others _ _ p in
      let (place, inside) = written_inside end span (v & others) s r (written_as end s r (write_arg_value value width decimals span) h) in
      exact_second (begins_program d s) _ _ (looks_plain (looks_program d) s ∙ not_program d (plain s) (no_word (v & others) s r inside (ap (on_first (on_word word_.KwProgram)) (spell_join v others (plain r)) ∙ (expr_starts value _).program)))
      (exact_part _ value end v others s r inside (λ m left right. good value (part_first v others _ _ p) s m left (ends_plain ExprEnds end others m r right (others_end (formats_end d width decimals (plain r) ends q.formed)))) (λ m right.
      formats_exact (λ w x r. arg.Value value w x (span_between end s r)) width decimals q m r right ends ∙ ap (λ z. Ok (arg.Value value width decimals z, r)) (sym place)))
    where
      no_word : (l : Layout) (s r : List Placed) → IsWritten end l s r → on_first (on_word word_.KwProgram) (spell l (plain r)) ≡ false → on_first (on_word word_.KwProgram) (plain s) ≡ false
      no_word l s r h none = ap (on_first (on_word word_.KwProgram)) (written_plain end l s r h) ∙ none

      others_end : ExprEnds (spell (format width) (spell (format decimals) (plain r))) → ExprEnds (spell (format width & format decimals) (plain r))
      others_end e = subst ExprEnds (sym (spell_join (format width) (format decimals) (plain r))) e

  program_read : (span : Span) → ArgRead (arg.Program span)
  unfolding one_arg program_arg
  program_read span part s r h ends =
      let l = word word_.KwProgram in
      let ucsd = part_as (write_arg_program span) (formed_arg_program d span) part in
      let (place, inside) = written_inside end span l s r (written_as end s r (write_arg_program span) h) in
      exact_first (begins_program d s) _ _ (looks_written (looks_program d) end l s r inside ∙ and_in (is_ucsd d) _ ucsd.formed (on_word_here word_.KwProgram))
      (exact_token _ (words word_.KwProgram) (says_word word_.KwProgram) end Done s r inside (λ m h. exact_made end span arg.Program s m r h refl place))

  arg_exact : (x : Arg) → ArgRead x
  arg_exact x = arg_cases ArgRead (record { value = value_read; program = program_read }) x

  listed_exact : (xs : List Arg) → Part (Unit {0}) k (with_commas (map write_arg xs)) (some_all (map (formed_arg d) xs)) → (s r : List Placed) → IsWritten end (with_commas (map write_arg xs)) s r → ArgEnds (plain r)
      → on_first (on_symbol mark.Comma) (plain r) ≡ false → listed_args d end child s ≡ Ok (xs, r)
  unfolding listed_args more_args next_arg
  listed_exact [] part s r h ends closed = let none = part.formed in absurd cc
  listed_exact (x ∷ xs) part s r h ends closed = commas_exact end k write_arg (formed_arg d) (one_arg d end child) ArgEnds comma_ends arg_exact x xs part s r h ends closed

  pub args_exact : (a : Args) → Part (Unit {0}) k (write_args a) (formed_args d a) → (s r : List Placed) → IsWritten end (write_args a) s r → args d end child s ≡ Ok (a, r)
  unfolding args same_symbol
  args_exact a part s r h =
      let list = with_commas (map write_arg (out-Args a).list) in let close = symbol mark.Close in let l = symbol mark.Open & list & close in
      let p = part_left list close (part_right (symbol mark.Open) (list & close) (part_inside _ (part_as (args_written a) (ap (formed_args d) (args_is a) ∙ formed_args_of d (out-Args a).list (out-Args a).span) part))) in
      let (place, inside) = written_inside end (out-Args a).span l s r (written_as end s r (args_written a) h) in
      exact_token _ (symbols mark.Open) (says_symbol mark.Open) end (list & close) s r inside (λ m h.
      exact_part _ (out-Args a).list end list close m r h (λ m' left right. listed_exact (out-Args a).list p m m' left (ends_plain ArgEnds end close m' r right (close_ends _)) (ap (on_first (on_symbol mark.Comma)) (written_plain end close m' r right))) (λ m h.
      exact_token _ (symbols mark.Close) (says_symbol mark.Close) end Done m r h (λ m h. exact_made end (out-Args a).span (args_of (out-Args a).list) s m r h (args_is a) place)))
