-- Places and arguments of a text are followed.
use Rattle.std.proofs.Common.{◌≡◌, ℕ, Bool, true, false, List, [], ◌∷◌, length, map, Option, Some, None, Ok, refl, sym, ap, subst, ◌∙◌}
use Rattle.std.specs.Prelude.{IsTrue}
use Rattle.p2c_text.specs.declared.dialect.Dialect.{Dialect}
use Rattle.p2c_text.specs.declared.place.Span.{Span}
use Rattle.dialect_lexer.specs.Dialects.{is_ucsd}
use Rattle.dialect_lexer.specs.declared.token.Word.TheVariants as word_
use Rattle.dialect_lexer.specs.declared.token.Symbol.{Symbol as SpecialSymbol}
use Rattle.dialect_lexer.specs.declared.token.Symbol.TheVariants as mark
use Rattle.pascal_tree.specs.declared.names.Identifier.{Identifier}
use Rattle.pascal_tree.specs.declared.expressions.Arg.{Arg}
use Rattle.pascal_tree.specs.declared.expressions.Arg.TheVariants as arg
use Rattle.pascal_tree.specs.declared.expressions.Args.{Args, out-Args}
use Rattle.pascal_tree.specs.declared.expressions.Expr.{Expr}
use Rattle.pascal_tree.specs.declared.expressions.Place.{Place, out-Place}
use Rattle.pascal_tree.specs.declared.expressions.Selector.{Selector}
use Rattle.pascal_tree.specs.declared.expressions.Selector.TheVariants as selector
use Rattle.token_parsing.specs.Parser.{Parser, and_then, begins}
use Rattle.token_parsing.proofs.Tracked.{Shrinks, Shorter, pure_shrinks, one_shrinks, then_shrinks, short_then, Takes, takes_token, takes_then, takes_either}
use Rattle.expr_parser.specs.Tokens.{Token, Placed, Symbol}
use Rattle.expr_parser.specs.Layout.{Layout, Done, ◌&◌, symbol, in_row, with_commas}
use Rattle.expr_parser.specs.Writing.{identifier, optional_after as write_after, write_arg, write_args, write_expr, write_place, write_selector}
use Rattle.expr_parser.specs.Grammar.{all, some_all, formatted, formed_arg, formed_args, formed_expr, formed_place, formed_selector}
use Rattle.expr_parser.specs.Spans.{span_between}
use Rattle.expr_parser.specs.Classes.{same_symbol, identifiers, words, symbols, expect}
use Rattle.expr_parser.specs.Places.{optional_after, next_expr, more_exprs, exprs, index, field, follow, selected, begins_selector, next_selector, selectors, place_from, value_arg, program_arg, begins_program, one_arg, next_arg, more_args, listed_args, args}
use Rattle.expr_parser.proofs.Layouts.{spell, spell_join}
use Rattle.expr_parser.proofs.WrittenNodes.{write_optional, write_selector_index, write_selector_field, write_selector_follow, write_arg_program, write_arg_value}
use Rattle.expr_parser.proofs.FormedNodes.{formed_optional, formed_place_of, formed_args_of, formed_selector_index, formed_arg_program, formed_arg_value}
use Rattle.expr_parser.proofs.Views.{place_is, args_is, selector_cases, arg_cases}
use Rattle.expr_parser.proofs.Spelled.{place_written, args_written, args_spelled}
use Rattle.expr_parser.proofs.Starts.{expr_starts}
use Rattle.expr_parser.proofs.Shrinks.{optional_shrinks, exprs_shrinks, next_selector_shrinks, one_arg_shrinks, listed_args_shrinks}
use Rattle.expr_parser.proofs.Followed.{Until, Along, Followed, on_first, follow_then, follow_pure, follow_token, follow_first, follow_second, follow_not, begun_token, looks_at, Listing, Items, follow_list}
use Rattle.expr_parser.proofs.FollowedParts.{and_in, and_out, Part, part_as, part_first, part_second, part_left, part_right, part_inside, along_as, ExprFollowed}
use Rattle.expr_parser.proofs.FollowedLists.{commas_followed}
use Rattle.expr_parser.proofs.Lookahead.{looks_symbol, looks_selector, looks_program, not_program, on_symbol, on_selector, on_symbol_here, on_word_here, accepts_symbol, accepts_word, accepts_name, ExprEnds, FactorEnds, mark_ends}

-- ---- selectors

-- with which token a selector begins
pub record SelectorStarts (w : List Token) : Type 0 where
  pub token : Token
  pub more : List Token
  pub is : w ≡ token ∷ more
  pub selector : on_selector token ≡ true
  pub no_arguments : on_symbol mark.Open token ≡ false

starts_so : {l m : Layout} (rest : List Token) → l ≡ m → SelectorStarts (spell m rest) → SelectorStarts (spell l rest)
starts_so rest e h = subst (λ z. SelectorStarts (spell z rest)) (sym e) h

abbrev StartLaw : Selector → Type 0
StartLaw x = (rest : List Token) → SelectorStarts (spell (write_selector x) rest)

pub selector_starts : (x : Selector) → StartLaw x
unfolding same_symbol
selector_starts x = selector_cases StartLaw (record {
  index = λ all span rest. starts_so rest (write_selector_index all span) (record { token = Symbol mark.OpenBracket; more = _; is = refl; selector = refl; no_arguments = refl });
  field = λ n span rest. starts_so rest (write_selector_field n span) (record { token = Symbol mark.Dot; more = _; is = refl; selector = refl; no_arguments = refl });
  follow = λ span rest. starts_so rest (write_selector_follow span) (record { token = Symbol mark.Caret; more = _; is = refl; selector = refl; no_arguments = refl });
}) x

abbrev pub row : List Selector → List Token → List Token
row xs rest = spell (in_row (map write_selector xs)) rest

-- no arguments follow the name of a place
pub no_arguments : (xs : List Selector) (rest : List Token) → FactorEnds rest → on_first (on_symbol mark.Open) (row xs rest) ≡ false
no_arguments [] rest ends = ends.arguments
no_arguments (x ∷ xs) rest ends =
    let h = selector_starts x (row xs rest) in ap (on_first (on_symbol mark.Open)) (spell_join (write_selector x) (in_row (map write_selector xs)) rest ∙ h.is) ∙ h.no_arguments

-- ---- what follows an argument

pub record ArgEnds (w : List Token) : Type 0 where
  pub expr : ExprEnds w
  pub colon : on_first (on_symbol mark.Colon) w ≡ false

abbrev pub format : Option Expr → List Token → List Token
format e rest = spell (write_after mark.Colon (write_optional e)) rest

pub value_spelled : (value : Expr) (width decimals : Option Expr) (span : Span) (rest : List Token)
    → spell (write_arg (arg.Value value width decimals span)) rest ≡ spell (write_expr value) (spell (write_after mark.Colon (write_optional width)) (spell (write_after mark.Colon (write_optional decimals)) rest))
value_spelled value width decimals span rest =
    let a = write_after mark.Colon (write_optional width) in let b = write_after mark.Colon (write_optional decimals) in
    ap (λ l. spell l rest) (write_arg_value value width decimals span) ∙ spell_join (write_expr value) (a & b) rest ∙ ap (λ w. spell (write_expr value) w) (spell_join a b rest)

pub formats_end : (d : Dialect) (width decimals : Option Expr) (rest : List Token) → ArgEnds rest → IsTrue (formatted (formed_optional d width) (formed_optional d decimals)) → ExprEnds (format width (format decimals rest))
formats_end d None None rest ends h = ends.expr
formats_end d None (Some y) rest ends h = absurd cc
formats_end d (Some x) decimals rest ends h = (mark_ends _).3

pub comma_ends : (w : List Token) → ArgEnds (Symbol mark.Comma ∷ w)
unfolding same_symbol
comma_ends w = record { expr = (mark_ends w).2; colon = refl }

pub close_ends : (w : List Token) → ArgEnds (Symbol mark.Close ∷ w)
unfolding same_symbol
close_ends w = record { expr = (mark_ends w).0; colon = refl }

module _ (n : Until) (W : Type 0) (d : Dialect) (end : Span) (k : ℕ) (child : Parser Placed Expr) (shrinks : Shrinks child) (good : ExprFollowed n W d k child) where
  -- [mark Expr]
  pub optional_none : (m : SpecialSymbol) (rest : List Token) → on_first (on_symbol m) rest ≡ false → (s : List Placed) → Along n rest s → Followed n W rest (optional_after m child s)
  unfolding optional_after
  optional_none m rest closed s h =
      follow_not (looks_symbol m) (λ s. and_then (expect m s) (λ _ s. and_then (child s) (λ e s. Ok (Some e, s)))) (λ s. Ok (None, s)) closed h (λ s e. begun_token (symbols m) s e (λ _. then_shrinks shrinks (λ e. pure_shrinks _))) (follow_pure _ h)

  pub optional_some : (m : SpecialSymbol) (e : Expr) → Part W k (write_expr e) (formed_expr d e) → (rest : List Token) → ExprEnds rest → (s : List Placed)
      → Along n (Symbol m ∷ spell (write_expr e) rest) s → Followed n W rest (optional_after m child s)
  unfolding optional_after
  optional_some m e part rest ends s h =
      follow_first (begins (symbols m) s) _ _ (looks_at (looks_symbol m) h ∙ on_symbol_here m)
      (follow_token (symbols m) (accepts_symbol m) h (λ _. then_shrinks shrinks (λ e. pure_shrinks _)) (λ _ r h. follow_then (good e part rest ends r h) (λ e. pure_shrinks _) (λ e r h. follow_pure _ h)))

  -- ---- selectors

  index_begun : (s : List Placed) → begins (symbols mark.OpenBracket) s ≡ true → Shorter (length s) 0 (index end child s)
  unfolding index
  index_begun s e = begun_token (symbols mark.OpenBracket) s e (λ _. then_shrinks (exprs_shrinks d end child shrinks) (λ all. then_shrinks (one_shrinks _) (λ u. λ n r k. pure_shrinks _ n r k)))

  field_begun : (s : List Placed) → begins (symbols mark.Dot) s ≡ true → Shorter (length s) 0 (field end s)
  unfolding field
  field_begun s e = begun_token (symbols mark.Dot) s e (λ _. then_shrinks (one_shrinks _) (λ x. λ n r k. pure_shrinks _ n r k))

  follow_begun : (s : List Placed) → begins (symbols mark.Caret) s ≡ true → Shorter (length s) 0 (follow end s)
  unfolding follow
  follow_begun s e = begun_token (symbols mark.Caret) s e (λ u. λ n r k. pure_shrinks _ n r k)

  selected_begun : (s : List Placed) → begins_selector s ≡ true → Shorter (length s) 0 (selected end child s)
  unfolding selected
  selected_begun s e = by (begins (symbols mark.Dot) s) (begins (symbols mark.Caret) s) refl refl e
    where
      by : (a b : Bool) → begins (symbols mark.Dot) s ≡ a → begins (symbols mark.Caret) s ≡ b → elim a [ true ↦ true | false ↦ elim b [ true ↦ true | false ↦ begins (symbols mark.OpenBracket) s ] ] ≡ true
          → Shorter (length s) 0 (elim a [ true ↦ field end s | false ↦ elim b [ true ↦ follow end s | false ↦ index end child s ] ])
      by true b e f g = field_begun s e
      by false true e f g = follow_begun s f
      by false false e f g = index_begun s g

  selected_takes : (s : List Placed) → Takes (length s) (selected end child s)
  unfolding selected index field follow
  selected_takes s =
      takes_either (length s) (begins (symbols mark.Dot) s) _ _ (takes_token (symbols mark.Dot) s (λ _. then_shrinks (one_shrinks _) (λ x. λ n r k. pure_shrinks _ n r k)))
      (takes_either (length s) (begins (symbols mark.Caret) s) _ _ (takes_token (symbols mark.Caret) s (λ u. λ n r k. pure_shrinks _ n r k))
      (takes_token (symbols mark.OpenBracket) s (λ _. then_shrinks (exprs_shrinks d end child shrinks) (λ all. then_shrinks (one_shrinks _) (λ u. λ n r k. pure_shrinks _ n r k)))))

  selector_listing : Listing n W (λ x rest. spell (write_selector x) rest) row begins_selector on_selector (next_selector end child)
  unfolding next_selector
  selector_listing = record {
    none = λ rest. refl;
    one_more = λ x more rest. spell_join (write_selector x) (in_row (map write_selector more)) rest;
    looks = looks_selector;
    takes = λ found s. takes_then (length s) (selected end child s) (selected_takes s) (λ x. pure_shrinks _);
    shrinks = next_selector_shrinks d end child shrinks;
    starts = λ x rest. let h = selector_starts x rest in (h.token, h.more, h.is, h.selector);
    begun = λ found s e. short_then (selected_begun s e) (λ x. pure_shrinks _);
  }

  abbrev IndexRead : List Expr → Type 0
  IndexRead xs = Part W k (with_commas (map write_expr xs)) (some_all (map (formed_expr d) xs)) → (rest : List Token) → ExprEnds rest → on_first (on_symbol mark.Comma) rest ≡ false → (s : List Placed)
      → Along n (spell (with_commas (map write_expr xs)) rest) s → Followed n W rest (exprs child s)

  exprs_followed : (xs : List Expr) → IndexRead xs
  unfolding exprs more_exprs next_expr
  exprs_followed [] part rest ends closed s h = let none = part.formed in absurd cc
  exprs_followed (x ∷ xs) part rest ends closed s h = commas_followed n W k write_expr (formed_expr d) child shrinks ExprEnds (λ w. (mark_ends w).2) good x xs part rest ends closed s h

  abbrev SelectorRead : Selector → Type 0
  SelectorRead x = Part W k (write_selector x) (formed_selector d x) → (rest : List Token) (s : List Placed) → Along n (spell (write_selector x) rest) s → Followed n W rest (selected end child s)

  index_read : (all : List Expr) (span : Span) → SelectorRead (selector.Index all span)
  unfolding selected index same_symbol
  index_read all span part rest s h =
      let list = with_commas (map write_expr all) in
      let written = write_selector_index all span in
      let p = part_left list (symbol mark.CloseBracket) (part_right (symbol mark.OpenBracket) (list & symbol mark.CloseBracket) (part_inside _ (part_as written (formed_selector_index d all span) part))) in
      let h' = along_as (ap (λ l. spell l rest) written ∙ ap (λ w. Symbol mark.OpenBracket ∷ w) (spell_join list (symbol mark.CloseBracket) rest)) h in
      follow_second _ _ _ (looks_at (looks_symbol mark.Dot) h') (follow_second _ _ _ (looks_at (looks_symbol mark.Caret) h')
      (follow_token (symbols mark.OpenBracket) (accepts_symbol mark.OpenBracket) h' (λ _. then_shrinks (exprs_shrinks d end child shrinks) (λ all. then_shrinks (one_shrinks _) (λ u. λ n r k. pure_shrinks _ n r k))) (λ _ r h.
      follow_then (exprs_followed all p (Symbol mark.CloseBracket ∷ rest) (mark_ends rest).1 refl r h) (λ all. then_shrinks (one_shrinks _) (λ u. λ n r k. pure_shrinks _ n r k)) (λ all r h.
      follow_token (symbols mark.CloseBracket) (accepts_symbol mark.CloseBracket) h (λ u. λ n r k. pure_shrinks _ n r k) (λ _ r h. follow_pure _ h)))))

  field_read : (name : Identifier) (span : Span) → SelectorRead (selector.Field name span)
  unfolding selected field same_symbol
  field_read name span part rest s h =
      let h' = along_as (ap (λ l. spell l rest) (write_selector_field name span)) h in
      follow_first _ _ _ (looks_at (looks_symbol mark.Dot) h')
      (follow_token (symbols mark.Dot) (accepts_symbol mark.Dot) h' (λ _. then_shrinks (one_shrinks _) (λ x. λ n r k. pure_shrinks _ n r k)) (λ _ r h.
      follow_token identifiers (accepts_name name.name) h (λ x. λ n r k. pure_shrinks _ n r k) (λ x r h. follow_pure _ h)))

  follow_read : (span : Span) → SelectorRead (selector.Follow span)
  unfolding selected follow same_symbol
  follow_read span part rest s h =
      let h' = along_as (ap (λ l. spell l rest) (write_selector_follow span)) h in
      follow_second _ _ _ (looks_at (looks_symbol mark.Dot) h') (follow_first _ _ _ (looks_at (looks_symbol mark.Caret) h')
      (follow_token (symbols mark.Caret) (accepts_symbol mark.Caret) h' (λ u. λ n r k. pure_shrinks _ n r k) (λ _ r h. follow_pure _ h)))

  selector_followed : (x : Selector) → SelectorRead x
  selector_followed x = selector_cases SelectorRead (record { index = index_read; field = field_read; follow = follow_read }) x

  selector_items : (xs : List Selector) → Part W k (in_row (map write_selector xs)) (all (map (formed_selector d) xs)) → (rest : List Token)
      → Items n W (λ x rest. spell (write_selector x) rest) row begins_selector on_selector (next_selector end child) xs rest
  unfolding next_selector
  selector_items [] part rest = tt
  selector_items (x ∷ xs) part rest = (
    λ found s h. follow_then (selector_followed x (part_first (write_selector x) (in_row (map write_selector xs)) _ _ part) (row xs rest) s h) (λ x. pure_shrinks _) (λ x r h. follow_pure _ h),
    selector_items xs (part_second (write_selector x) (in_row (map write_selector xs)) _ _ part) rest,
  )

  selectors_followed : (xs : List Selector) → Part W k (in_row (map write_selector xs)) (all (map (formed_selector d) xs)) → (rest : List Token) → on_first on_selector rest ≡ false → (s : List Placed)
      → Along n (row xs rest) s → Followed n W rest (selectors end child [] s)
  unfolding selectors
  selectors_followed xs part rest closed s h =
      follow_list n W (λ x rest. spell (write_selector x) rest) row begins_selector on_selector (next_selector end child) selector_listing xs rest (selector_items xs part rest) closed [] s h

  -- the selectors of a place
  pub place_from_followed : (p : Place) → Part W k (write_place p) (formed_place d p) → (rest : List Token) → on_first on_selector rest ≡ false → (from : List Placed) (name : Identifier) (s : List Placed)
      → Along n (row (out-Place p).selectors rest) s → Followed n W rest (place_from end child from name s)
  unfolding place_from
  place_from_followed p part rest closed from name s h =
      let inside = in_row (map write_selector (out-Place p).selectors) in
      let q = part_right (identifier (out-Place p).name) inside (part_inside (identifier (out-Place p).name & inside)
      (part_as (place_written p) (ap (formed_place d) (place_is p) ∙ formed_place_of d (out-Place p).name (out-Place p).selectors (out-Place p).span) part)) in
      follow_then (selectors_followed (out-Place p).selectors q rest closed s h) (λ all. λ n r k. pure_shrinks _ n r k) (λ all r h. follow_pure _ h)

  -- ---- arguments

  abbrev ArgRead : Arg → Type 0
  ArgRead x = Part W k (write_arg x) (formed_arg d x) → (rest : List Token) → ArgEnds rest → (s : List Placed) → Along n (spell (write_arg x) rest) s → Followed n W rest (one_arg d end child s)

  -- [":" Expr [":" Expr]]
  formats_followed : {A : Type 0} (f : Option Expr → Option Expr → List Placed → A) (width decimals : Option Expr)
      → Part W k (write_after mark.Colon (write_optional width) & write_after mark.Colon (write_optional decimals)) (formatted (formed_optional d width) (formed_optional d decimals))
      → (rest : List Token) → ArgEnds rest → (s : List Placed) → Along n (format width (format decimals rest)) s
      → Followed n W rest (and_then (optional_after mark.Colon child s) (λ w s. and_then (optional_after mark.Colon child s) (λ x s. Ok (f w x s, s))))
  formats_followed f None None part rest ends s h =
      follow_then (optional_none mark.Colon rest ends.colon s h) (λ w. then_shrinks (optional_shrinks d end child shrinks mark.Colon) (λ x. λ n r k. pure_shrinks _ n r k)) (λ w r h.
      follow_then (optional_none mark.Colon rest ends.colon r h) (λ x. λ n r k. pure_shrinks _ n r k) (λ x r h. follow_pure _ h))
  formats_followed f None (Some y) part rest ends s h = let none = part.formed in absurd cc
  formats_followed f (Some x) None part rest ends s h =
      let p = part_first (write_expr x) Done _ _ (part_right (symbol mark.Colon) (write_expr x & Done) part) in
      follow_then (optional_some mark.Colon x p rest ends.expr s h) (λ w. then_shrinks (optional_shrinks d end child shrinks mark.Colon) (λ x. λ n r k. pure_shrinks _ n r k)) (λ w r h.
      follow_then (optional_none mark.Colon rest ends.colon r h) (λ x. λ n r k. pure_shrinks _ n r k) (λ x r h. follow_pure _ h))
  formats_followed f (Some x) (Some y) part rest ends s h =
      let both = part_right (symbol mark.Colon) (write_expr x & write_after mark.Colon (Some (write_expr y))) part in
      let p = part_first (write_expr x) (write_after mark.Colon (Some (write_expr y))) _ _ both in
      let q = part_right (symbol mark.Colon) (write_expr y) (part_second (write_expr x) (write_after mark.Colon (Some (write_expr y))) _ _ both) in
      follow_then (optional_some mark.Colon x p (Symbol mark.Colon ∷ spell (write_expr y) rest) (mark_ends _).3 s h) (λ w. then_shrinks (optional_shrinks d end child shrinks mark.Colon) (λ x. λ n r k. pure_shrinks _ n r k)) (λ w r h.
      follow_then (optional_some mark.Colon y q rest ends.expr r h) (λ x. λ n r k. pure_shrinks _ n r k) (λ x r h. follow_pure _ h))

  program_begun : (s : List Placed) → begins_program d s ≡ true → Shorter (length s) 0 (program_arg end s)
  unfolding program_arg
  program_begun s e = begun_token (words word_.KwProgram) s (and_out (is_ucsd d) (begins (words word_.KwProgram) s) e).1 (λ u. λ n r k. pure_shrinks _ n r k)

  value_read : (value : Expr) (width decimals : Option Expr) (span : Span) → ArgRead (arg.Value value width decimals span)
  unfolding one_arg value_arg
  value_read value width decimals span part rest ends s h =
      let v = write_expr value in
      let others = write_after mark.Colon (write_optional width) & write_after mark.Colon (write_optional decimals) in
      let p = part_inside (v & others) (part_as (write_arg_value value width decimals span) (formed_arg_value d value width decimals span) part) in
      let q = part_second v others _ _ p in
      let h' = along_as (value_spelled value width decimals span rest) h in
      let after = format width (format decimals rest) in
      follow_not (looks_program d) (program_arg end) (value_arg end child) (not_program d (spell v after) (expr_starts value after).program) h' program_begun
      (follow_then (good value (part_first v others _ _ p) after (formats_end d width decimals rest ends q.formed) s h')
      (λ v. then_shrinks (optional_shrinks d end child shrinks mark.Colon) (λ w. then_shrinks (optional_shrinks d end child shrinks mark.Colon) (λ x. λ n r k. pure_shrinks _ n r k))) (λ v r h.
      formats_followed (λ w x r. arg.Value v w x (span_between end s r)) width decimals q rest ends r h))

  program_read : (span : Span) → ArgRead (arg.Program span)
  unfolding one_arg program_arg
  program_read span part rest ends s h =
      let ucsd = part_as (write_arg_program span) (formed_arg_program d span) part in
      let h' = along_as (ap (λ l. spell l rest) (write_arg_program span)) h in
      follow_first (begins_program d s) _ _ (looks_at (looks_program d) h' ∙ and_in (is_ucsd d) _ ucsd.formed (on_word_here word_.KwProgram))
      (follow_token (words word_.KwProgram) (accepts_word word_.KwProgram) h' (λ u. λ n r k. pure_shrinks _ n r k) (λ _ r h. follow_pure _ h))

  arg_followed : (x : Arg) → ArgRead x
  arg_followed x = arg_cases ArgRead (record { value = value_read; program = program_read }) x

  listed_followed : (xs : List Arg) → Part W k (with_commas (map write_arg xs)) (some_all (map (formed_arg d) xs)) → (rest : List Token) → (s : List Placed)
      → Along n (spell (with_commas (map write_arg xs)) (Symbol mark.Close ∷ rest)) s → Followed n W (Symbol mark.Close ∷ rest) (listed_args d end child s)
  unfolding listed_args more_args next_arg same_symbol
  listed_followed [] part rest s h = let none = part.formed in absurd cc
  listed_followed (x ∷ xs) part rest s h =
      commas_followed n W k write_arg (formed_arg d) (one_arg d end child) (one_arg_shrinks d end child shrinks) ArgEnds comma_ends arg_followed x xs part (Symbol mark.Close ∷ rest) (close_ends rest) refl s h

  pub args_followed : (a : Args) → Part W k (write_args a) (formed_args d a) → (rest : List Token) (s : List Placed) → Along n (spell (write_args a) rest) s → Followed n W rest (args d end child s)
  unfolding args
  args_followed a part rest s h =
      let list = with_commas (map write_arg (out-Args a).list) in
      let p = part_left list (symbol mark.Close) (part_right (symbol mark.Open) (list & symbol mark.Close) (part_inside _
      (part_as (args_written a) (ap (formed_args d) (args_is a) ∙ formed_args_of d (out-Args a).list (out-Args a).span) part))) in
      follow_token (symbols mark.Open) (accepts_symbol mark.Open) (along_as (args_spelled a rest) h)
      (λ _. then_shrinks (listed_args_shrinks d end child shrinks) (λ all. then_shrinks (one_shrinks _) (λ u. λ n r k. pure_shrinks _ n r k))) (λ _ r h.
      follow_then (listed_followed (out-Args a).list p rest r h) (λ all. then_shrinks (one_shrinks _) (λ u. λ n r k. pure_shrinks _ n r k)) (λ all r h.
      follow_token (symbols mark.Close) (accepts_symbol mark.Close) h (λ u. λ n r k. pure_shrinks _ n r k) (λ _ r h. follow_pure _ h)))
