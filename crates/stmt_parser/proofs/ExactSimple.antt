-- Statements that are written are read, where they have no statements in them.
use Rattle.std.proofs.Common.{◌≡◌, ℕ, true, false, ◌||◌, List, [], ◌∷◌, map, Option, Some, None, Ok, refl, sym, ap, ◌∙◌}
use Rattle.p2c_text.specs.declared.dialect.Dialect.{Dialect}
use Rattle.p2c_text.specs.declared.place.Span.{Span}
use Rattle.dialect_lexer.specs.declared.token.Word.{Word as WordSymbol}
use Rattle.dialect_lexer.specs.declared.token.Word.TheVariants as word_
use Rattle.dialect_lexer.specs.declared.token.Symbol.TheVariants as mark
use Rattle.pascal_tree.specs.declared.names.Identifier.{Identifier}
use Rattle.pascal_tree.specs.declared.expressions.Args.{Args}
use Rattle.pascal_tree.specs.declared.expressions.Expr.{Expr}
use Rattle.pascal_tree.specs.declared.expressions.Place.{Place, out-Place}
use Rattle.pascal_tree.specs.declared.expressions.Selector.{Selector}
use Rattle.pascal_tree.specs.declared.statements.Direction.{Direction}
use Rattle.pascal_tree.specs.declared.statements.Direction.TheVariants as a_direction
use Rattle.pascal_tree.specs.declared.statements.Plain.TheVariants as plain_
use Rattle.token_parsing.specs.Parser.{Parser, Outcome, and_then, begins}
use Rattle.expr_parser.specs.Tokens.{Token, Placed, Word, Symbol, plain}
use Rattle.expr_parser.specs.Spans.{span_between}
use Rattle.expr_parser.specs.Layout.{Layout, Done, Leaf, ◌&◌, word, symbol, in_row, with_commas, IsWritten}
use Rattle.expr_parser.specs.Writing.{write_args, write_expr, write_place, write_selector}
use Rattle.expr_parser.specs.Grammar.{some_all, formed_expr, formed_place}
use Rattle.expr_parser.specs.Classes.{words, symbols, operator_of, same_symbol}
use Rattle.expr_parser.specs.Places.{place}
use Rattle.expr_parser.proofs.Layouts.{spell, spell_join, join_assoc}
use Rattle.expr_parser.proofs.Spelled.{args_spelled}
use Rattle.expr_parser.proofs.Followed.{Says, on_first}
use Rattle.expr_parser.proofs.FollowedParts.{Part}
use Rattle.expr_parser.proofs.FollowedPlaces.{selector_starts, no_arguments}
use Rattle.expr_parser.proofs.Lookahead.{looks_symbol, on_selector, on_symbol, on_symbol_here, says_word, says_symbol, ExprEnds, FactorEnds}
use Rattle.expr_parser.proofs.Exact.{written_as, written_plain, ends_plain, exact_then, exact_part, exact_token, exact_made, exact_first, exact_second, looks_written}
use Rattle.expr_parser.proofs.ExactLists.{commas_exact}
use Rattle.expr_parser.proofs.ExactTerms.{ExprExact}
use Rattle.expr_parser.proofs.ExactPlaces.{place_from_exact, place_exact, args_exact}
use Rattle.stmt_parser.specs.Classes.{direction_of, directions}
use Rattle.stmt_parser.specs.Writing.{direction_word, optional_args}
use Rattle.stmt_parser.specs.Grammar.{formed_optional_args}
use Rattle.stmt_parser.specs.Statements.{between, assignment, call_with, begins_target, after_name, limits_of, limits, next_place, more_places, places}
use Rattle.stmt_parser.specs.declared.headers.Limits.{Limits}
use Rattle.stmt_parser.proofs.Ends.{to_ends, downto_ends, do_ends}
use Rattle.stmt_parser.proofs.FollowedSimple.{on_target, looks_target}

says_direction : (w : Direction) → Says directions (Word (direction_word w)) w
says_direction a_direction.Up t e = ap (operator_of direction_of (λ s. None)) e
says_direction a_direction.Down t e = ap (operator_of direction_of (λ s. None)) e

after_first : (w : Direction) (rest : List Token) → ExprEnds (Word (direction_word w) ∷ rest)
after_first a_direction.Up rest = to_ends rest
after_first a_direction.Down rest = downto_ends rest

-- ---- what goes on after a name

after_target : (w : List Token) → FactorEnds (Symbol mark.Assign ∷ w)
unfolding same_symbol
after_target w = record { arguments = refl; selector = refl }

no_assignment : (w : List Token) → on_first on_selector w ≡ false → on_first (on_symbol mark.Assign) w ≡ false → on_first on_target w ≡ false
no_assignment [] e f = refl
no_assignment (x ∷ w) e f = ap (λ b. b || on_symbol mark.Assign x) e ∙ f

selector_or_assign : (xs : List Selector) (w : List Token) → on_first on_target (spell (in_row (map write_selector xs)) (Symbol mark.Assign ∷ w)) ≡ true
unfolding same_symbol
selector_or_assign [] w = refl
selector_or_assign (x ∷ xs) w =
    let row = in_row (map write_selector xs) in let start = selector_starts x (spell row (Symbol mark.Assign ∷ w)) in
    ap (on_first on_target) (spell_join (write_selector x) row (Symbol mark.Assign ∷ w) ∙ start.is) ∙ ap (λ b. b || on_symbol mark.Assign start.token) start.selector

module _ (d : Dialect) (end : Span) (k : ℕ) (child : Parser Placed Expr) (good : ExprExact d end k child) where
  -- ---- expressions between words

  between_exact : (opening closing : WordSymbol) (e : Expr) → Part (Unit {0}) k (write_expr e) (formed_expr d e) → ((w : List Token) → ExprEnds (Word closing ∷ w)) → (s r : List Placed)
      → IsWritten end (word opening & write_expr e & word closing) s r → between opening closing child s ≡ Ok (e, r)
  unfolding between
  between_exact opening closing e part ends s r h =
      exact_token _ (words opening) (says_word opening) end (write_expr e & word closing) s r h (λ m h.
      exact_part _ e end (write_expr e) (word closing) m r h (λ m' left right. good e part m m' left (ends_plain ExprEnds end (word closing) m' r right (ends _))) (λ m h.
      exact_token _ (words closing) (says_word closing) end Done m r h (λ m h. ap (λ z. Ok (e, z)) h)))

  pub exact_between : {B : Type 0} {out : Outcome Placed B} (f : Expr → Parser Placed B) (opening closing : WordSymbol) (e : Expr) → Part (Unit {0}) k (write_expr e) (formed_expr d e) → ((w : List Token) → ExprEnds (Word closing ∷ w))
      → (after : Layout) (s r : List Placed) → IsWritten end (word opening & write_expr e & word closing & after) s r → ((m : List Placed) → IsWritten end after m r → f e m ≡ out) → and_then (between opening closing child s) f ≡ out
  exact_between f opening closing e part ends after s r h go =
      let joined = ap (λ l. Leaf (Word opening) l) (sym (join_assoc (write_expr e) (word closing) after)) in
      exact_part f e end (word opening & write_expr e & word closing) after s r (written_as end s r joined h) (λ m left right. between_exact opening closing e part ends s m left) go

  abbrev from_to : Expr → Direction → Expr → Layout
  from_to first w last = symbol mark.Assign & write_expr first & word (direction_word w) & write_expr last & word word_.KwDo

  limits_exact : (first last : Expr) (w : Direction) → Part (Unit {0}) k (write_expr first) (formed_expr d first) → Part (Unit {0}) k (write_expr last) (formed_expr d last) → (s r : List Placed)
      → IsWritten end (from_to first w last) s r → limits child s ≡ Ok (limits_of first w last, r)
  unfolding limits
  limits_exact first last w p q s r h =
      let a = write_expr first in let z = write_expr last in let way = word (direction_word w) in let doing = word word_.KwDo in
      exact_token _ (symbols mark.Assign) (says_symbol mark.Assign) end (a & way & z & doing) s r h (λ m h.
      exact_part _ first end a (way & z & doing) m r h (λ m' left right. good first p m m' left (ends_plain ExprEnds end (way & z & doing) m' r right (after_first w _))) (λ m h.
      exact_token _ directions (says_direction w) end (z & doing) m r h (λ m h.
      exact_part _ last end z doing m r h (λ m' left right. good last q m m' left (ends_plain ExprEnds end doing m' r right (do_ends _))) (λ m h.
      exact_token _ (words word_.KwDo) (says_word word_.KwDo) end Done m r h (λ m h. ap (λ v. Ok (limits_of first w last, v)) h)))))

  pub exact_limits : {B : Type 0} {out : Outcome Placed B} (f : Limits → Parser Placed B) (first last : Expr) (w : Direction) → Part (Unit {0}) k (write_expr first) (formed_expr d first) → Part (Unit {0}) k (write_expr last) (formed_expr d last)
      → (after : Layout) (s r : List Placed) → IsWritten end (symbol mark.Assign & write_expr first & word (direction_word w) & write_expr last & word word_.KwDo & after) s r
      → ((m : List Placed) → IsWritten end after m r → f (limits_of first w last) m ≡ out) → and_then (limits child s) f ≡ out
  exact_limits f first last w p q after s r h go =
      let a = write_expr first in let z = write_expr last in let way = word (direction_word w) in let doing = word word_.KwDo in
      let joined = ap (λ l. Leaf (Symbol mark.Assign) l) (ap (λ l. a & way & l) (sym (join_assoc z doing after)) ∙ sym (join_assoc a (way & z & doing) after)) in
      exact_part f (limits_of first w last) end (from_to first w last) after s r (written_as end s r joined h) (λ m left right. limits_exact first last w p q s m left) go

  -- ---- places

  abbrev PlaceEnds : List Token → Type 0
  PlaceEnds w = on_first on_selector w ≡ false

  comma_ends : (w : List Token) → PlaceEnds (Symbol mark.Comma ∷ w)
  unfolding same_symbol
  comma_ends w = refl

  pub places_exact : (xs : List Place) → Part (Unit {0}) k (with_commas (map write_place xs)) (some_all (map (formed_place d) xs)) → (s r : List Placed) → IsWritten end (with_commas (map write_place xs)) s r → PlaceEnds (plain r)
      → on_first (on_symbol mark.Comma) (plain r) ≡ false → places end child s ≡ Ok (xs, r)
  unfolding places more_places next_place
  places_exact [] part s r h ends closed = let none = part.formed in absurd cc
  places_exact (x ∷ xs) part s r h ends closed = commas_exact end k write_place (formed_place d) (place end child) PlaceEnds comma_ends (place_exact d end k child good) x xs part s r h ends closed

  -- ---- what begins with a name, after it

  -- where the place ends at the tokens `m`
  pub assignment_exact : (p : Place) (e : Expr) (span : Span) → Part (Unit {0}) k (write_place p) (formed_place d p) → Part (Unit {0}) k (write_expr e) (formed_expr d e) → (from s m r : List Placed)
      → IsWritten end (in_row (map write_selector (out-Place p).selectors)) s m → IsWritten end (symbol mark.Assign & write_expr e) m r → (out-Place p).span ≡ span_between end from m → span ≡ span_between end from r → ExprEnds (plain r)
      → after_name d end child from (out-Place p).name s ≡ Ok (plain_.Assign p e span, r)
  unfolding after_name assignment
  assignment_exact p e span part q from s m r h others place whole ends =
      let all = (out-Place p).selectors in let row = in_row (map write_selector all) in let value = symbol mark.Assign & write_expr e in
      let closed = ends_plain FactorEnds end value m r others (after_target _) in
      exact_second (begins (symbols mark.Open) s) _ _ (looks_written (looks_symbol mark.Open) end row s m h ∙ no_arguments all (plain m) closed)
      (exact_first (begins_target s) _ _ (looks_written looks_target end row s m h ∙ ap (λ w. on_first on_target (spell row w)) (written_plain end value m r others) ∙ selector_or_assign all _)
      (exact_then _ (place_from_exact d end k child good p part from s m h place closed.selector)
      (exact_token _ (symbols mark.Assign) (says_symbol mark.Assign) end (write_expr e) m r others (λ m h. exact_then _ (good e q m r h ends) (exact_made end span (plain_.Assign p e) from r r refl refl whole)))))

  pub call_exact : (name : Identifier) (a : Option Args) (span : Span) → Part (Unit {0}) k (optional_args a) (formed_optional_args d a) → (from s r : List Placed) → IsWritten end (optional_args a) s r → span ≡ span_between end from r
      → ExprEnds (plain r) → on_first (on_symbol mark.Assign) (plain r) ≡ false → after_name d end child from name s ≡ Ok (plain_.Call name a span, r)
  unfolding after_name call_with
  call_exact name None span part from s r h whole ends assign =
      let f = ends.simple.term.factor in
      exact_second (begins (symbols mark.Open) s) _ _ (looks_written (looks_symbol mark.Open) end Done s r h ∙ f.arguments)
      (exact_second (begins_target s) _ _ (looks_written looks_target end Done s r h ∙ no_assignment (plain r) f.selector assign) (exact_made end span (plain_.Call name None) from s r h refl whole))
  call_exact name (Some x) span part from s r h whole ends assign =
      exact_first (begins (symbols mark.Open) s) _ _ (looks_written (looks_symbol mark.Open) end (write_args x) s r h ∙ ap (on_first (on_symbol mark.Open)) (args_spelled x (plain r)) ∙ on_symbol_here mark.Open)
      (exact_then _ (args_exact d end k child good x part s r h) (exact_made end span (plain_.Call name (Some x)) from r r refl refl whole))
