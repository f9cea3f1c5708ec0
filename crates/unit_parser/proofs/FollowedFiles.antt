-- Whole texts are followed.
use Rattle.std.proofs.Common.{◌≡◌, ℕ, Bool, true, false, ◌&&◌, not, List, [], ◌∷◌, length, map, Option, Some, None, refl, sym, ap, subst, ◌∙◌}
use Rattle.std.specs.Prelude.{IsTrue}
use Rattle.std.specs.Option.{option_map}
use Rattle.p2c_text.specs.declared.dialect.Dialect.{Dialect}
use Rattle.p2c_text.specs.declared.place.Span.{Span}
use Rattle.dialect_lexer.specs.Dialects.{is_turbo}
use Rattle.dialect_lexer.specs.declared.token.Word.{Word as WordSymbol}
use Rattle.dialect_lexer.specs.declared.token.Word.TheVariants as word_
use Rattle.dialect_lexer.specs.declared.token.Symbol.TheVariants as mark
use Rattle.pascal_tree.specs.declared.names.Identifier.{Identifier}
use Rattle.pascal_tree.specs.declared.statements.Stmt.{Stmt}
use Rattle.pascal_tree.specs.declared.declarations.Declaration.{Declaration}
use Rattle.pascal_tree.specs.declared.files.Head.{Head}
use Rattle.pascal_tree.specs.declared.files.Uses.{Uses}
use Rattle.pascal_tree.specs.declared.files.Program.{Program}
use Rattle.pascal_tree.specs.declared.files.Public.{Public}
use Rattle.pascal_tree.specs.declared.files.Public.TheVariants as item
use Rattle.pascal_tree.specs.declared.files.UnitNode.{UnitNode}
use Rattle.pascal_tree.specs.declared.files.Module.{Module}
use Rattle.pascal_tree.specs.declared.files.SourceFile.{SourceFile}
use Rattle.pascal_tree.specs.declared.files.SourceFile.TheVariants as text
use Rattle.token_parsing.specs.Parser.{one_of, is_some, begins}
use Rattle.token_parsing.proofs.Tracked.{Shrinks, Takes, one_shrinks, then_shrinks, pure_shrinks, short_then, takes_then, takes_either}
use Rattle.expr_parser.specs.Tokens.{Token, Placed, Name, Number, Text, Word, Symbol}
use Rattle.expr_parser.specs.Layout.{Layout, ◌&◌, word, symbol, spanned, in_row}
use Rattle.expr_parser.specs.Semicolons.{optional_part}
use Rattle.expr_parser.specs.Writing.{identifier}
use Rattle.expr_parser.specs.Grammar.{all, optional}
use Rattle.expr_parser.specs.Classes.{identifiers, words, symbols, same_symbol, same_word}
use Rattle.expr_parser.specs.Expressions.{expr}
use Rattle.expr_parser.proofs.Layouts.{spell, spell_join}
use Rattle.expr_parser.proofs.Shrinks.{expr_shrinks}
use Rattle.expr_parser.proofs.Followed.{Until, Along, Followed, Begun, on_first, follow_then, follow_plain, follow_pure, follow_token, follow_first, follow_second, looks_at}
use Rattle.expr_parser.proofs.FollowedParts.{and_out, Part, part_first, part_second, part_left, part_right, part_inside, along_as}
use Rattle.expr_parser.proofs.FollowedFactors.{expr_followed}
use Rattle.expr_parser.proofs.Lookahead.{looks_word, looks_symbol, on_name, on_symbol, on_word, on_word_here, accepts_name, accepts_word, accepts_symbol}
use Rattle.type_parser.specs.Writing.{write_names}
use Rattle.type_parser.specs.Grammar.{some_names}
use Rattle.type_parser.specs.Names.{names}
use Rattle.type_parser.specs.Levels.{type_node, formals}
use Rattle.type_parser.proofs.Shrinks.{names_shrinks, type_shrinks, formals_shrinks}
use Rattle.type_parser.proofs.FollowedNames.{names_followed}
use Rattle.type_parser.proofs.FollowedFields.{type_followed}
use Rattle.type_parser.proofs.FollowedFormals.{formals_followed}
use Rattle.unit_parser.specs.Dialects.{uses_word}
use Rattle.unit_parser.specs.Writing.{write_heading, write_declaration, write_block, write_stmts, write_constants, optional_parameters as write_parameters, write_head, write_uses, optional_uses as write_optional_uses, write_program, write_public, optional_initial as write_initial, write_implementation, write_unit, write_module, write_file}
use Rattle.unit_parser.specs.Grammar.{formed_heading, formed_block, formed_stmts, formed_declarations, judged_declaration, formed_head, formed_uses, formed_program, formed_public, formed_interface, formed_implementation, formed_unit, formed_module, formed_file}
use Rattle.unit_parser.specs.Files.{public_word_of, uses, optional_uses, optional_parameters, head, is_headless, optional_head, program, constants_public, types_public, variables_public, heading_public, public, next_public, public_words, publics, name_after, interface, exports, implementation, optional_initial, last_end, unit, module_text, source_file}
use Rattle.unit_parser.specs.Blocks.{routine_word_of, routine_words, block}
use Rattle.unit_parser.proofs.Shrinks.{body_shrinks, block_shrinks, declarations_shrinks, uses_shrinks, optional_uses_shrinks, parameters_shrinks, head_shrinks, last_end_shrinks, public_shrinks, publics_shrinks, interface_shrinks, exports_shrinks, implementation_shrinks, initial_shrinks}
use Rattle.unit_parser.proofs.FollowedRows.{row_followed}
use Rattle.unit_parser.proofs.FollowedParts.{const_part_followed, type_part_followed, var_part_followed}
use Rattle.unit_parser.proofs.FollowedHeadings.{heading_followed}
use Rattle.unit_parser.proofs.Beginnings.{on_routine, opens_name, Closed, at_begin, at_end, place_of_constants, place_of_types, place_of_variables, other_word, heading_start}
use Rattle.unit_parser.proofs.FollowedDeclarations.{chosen, heading_takes, heading_begun, const_part_begun, const_part_takes, type_part_begun, type_part_takes, var_part_begun, var_part_takes}
use Rattle.unit_parser.proofs.FollowedBlocks.{declarations_followed, body_followed, block_followed}
use Rattle.unit_parser.proofs.FirstWords.{at_export, at_implement, at_implementation, inside_other, heads_uses_word, Begins, closed_begins, declarations_begin, block_begins, on_public, looks_public, public_start, opens_public, publics_begin, Headless, headless, program_first}

pub and_true : (b : Bool) → IsTrue b → (b && true) ≡ true
and_true true h = refl
and_true false h = h

pub and_false : (b : Bool) → (b && false) ≡ false
and_false true = refl
and_false false = refl

-- behind the parts that a routine is not, a routine is public
public_word_is : (w : WordSymbol) → is_some (public_word_of w) ≡ true → on_word word_.KwConst (Word w) ≡ false → on_word word_.KwType (Word w) ≡ false → on_word word_.KwVar (Word w) ≡ false → is_some (routine_word_of w) ≡ true
unfolding same_word
public_word_is word_.KwConst e a b c = absurd cc
public_word_is word_.KwType e a b c = absurd cc
public_word_is word_.KwVar e a b c = absurd cc
public_word_is word_.KwProcedure e a b c = refl
public_word_is word_.KwFunction e a b c = refl
public_word_is _ e a b c = absurd cc

public_token_is : (x : Token) → on_public x ≡ true → on_word word_.KwConst x ≡ false → on_word word_.KwType x ≡ false → on_word word_.KwVar x ≡ false → on_routine x ≡ true
public_token_is (Word w) e a b c = public_word_is w e a b c
public_token_is (Name n) e a b c = absurd cc
public_token_is (Number v) e a b c = absurd cc
public_token_is (Text bs) e a b c = absurd cc
public_token_is (Symbol s) e a b c = absurd cc

pub public_routine_is : (s : List Placed) → begins public_words s ≡ true → begins (words word_.KwConst) s ≡ false → begins (words word_.KwType) s ≡ false → begins (words word_.KwVar) s ≡ false → begins routine_words s ≡ true
unfolding begins
public_routine_is [] e a b c = absurd cc
public_routine_is (t ∷ s) e a b c = public_token_is t.token e a b c

module _ (n : Until) (W : Type 0) (d : Dialect) (end : Span) where
  -- ---- used units

  uses_followed : (u : Uses) → IsTrue (some_names u.names) → (rest : List Token) (s : List Placed) → Along n (spell (write_uses d u) rest) s → Followed n W rest (uses d end s)
  unfolding uses same_symbol
  uses_followed u ok rest s h =
      follow_token (words (uses_word d)) (accepts_word (uses_word d)) (along_as (ap (λ w. Word (uses_word d) ∷ w) (spell_join (write_names u.names) (symbol mark.Semicolon) rest)) h)
      (λ _. then_shrinks names_shrinks (λ ns. then_shrinks (one_shrinks _) (λ u. λ n r k. pure_shrinks _ n r k))) (λ _ r h.
      follow_then (names_followed n W u.names ok (Symbol mark.Semicolon ∷ rest) refl r h) (λ ns. then_shrinks (one_shrinks _) (λ u. λ n r k. pure_shrinks _ n r k)) (λ ns r h.
      follow_token (symbols mark.Semicolon) (accepts_symbol mark.Semicolon) h (λ u. λ n r k. pure_shrinks _ n r k) (λ _ r h. follow_pure _ h)))

  -- used units, or none before what may stand behind them
  optional_uses_followed : (u : Option Uses) → IsTrue (formed_uses u) → (rest : List Token) → Begins rest → (s : List Placed) → Along n (spell (write_optional_uses d u) rest) s → Followed n W rest (optional_uses d end s)
  unfolding optional_uses
  optional_uses_followed None ok rest b s h =
      follow_second _ _ _ (looks_at (looks_word (uses_word d)) (along_as b.is h) ∙ inside_other (heads_uses_word d) b.inside) (follow_pure _ h)
  optional_uses_followed (Some u) ok rest b s h =
      follow_first _ _ _ (looks_at (looks_word (uses_word d)) h ∙ on_word_here (uses_word d)) (follow_then (uses_followed u ok rest s h) (λ u. pure_shrinks _) (λ u r h. follow_pure _ h))

  -- ---- heads of programs

  parameters_followed : (p : Option (List Identifier)) → IsTrue (optional (option_map some_names p)) → (rest : List Token) (s : List Placed) → Along n (spell (write_parameters p) (Symbol mark.Semicolon ∷ rest)) s → Followed n W (Symbol mark.Semicolon ∷ rest) (optional_parameters s)
  unfolding optional_parameters same_symbol
  parameters_followed None ok rest s h = follow_second _ _ _ (looks_at (looks_symbol mark.Open) h) (follow_pure _ h)
  parameters_followed (Some ns) ok rest s h =
      follow_first _ _ _ (looks_at (looks_symbol mark.Open) h)
      (follow_token (symbols mark.Open) (accepts_symbol mark.Open) (along_as (ap (λ w. Symbol mark.Open ∷ w) (spell_join (write_names ns) (symbol mark.Close) (Symbol mark.Semicolon ∷ rest))) h) (λ _. then_shrinks names_shrinks (λ ns. then_shrinks (one_shrinks _) (λ _. pure_shrinks _))) (λ _ r h.
      follow_then (names_followed n W ns ok (Symbol mark.Close ∷ Symbol mark.Semicolon ∷ rest) refl r h) (λ ns. then_shrinks (one_shrinks _) (λ _. pure_shrinks _)) (λ ns r h.
      follow_token (symbols mark.Close) (accepts_symbol mark.Close) h (λ _. pure_shrinks _) (λ _ r h. follow_pure _ h))))

  head_followed : (x : Head) → IsTrue (optional (option_map some_names x.parameters)) → (rest : List Token) (s : List Placed) → Along n (spell (write_head x) rest) s → Followed n W rest (head end s)
  unfolding head
  head_followed x ok rest s h =
      let p = write_parameters x.parameters in
      follow_token (words word_.KwProgram) (accepts_word word_.KwProgram) (along_as (ap (λ w. Word word_.KwProgram ∷ Name x.name.name ∷ w) (spell_join p (symbol mark.Semicolon) rest)) h)
      (λ _. then_shrinks (one_shrinks _) (λ x. then_shrinks (parameters_shrinks d end) (λ ns. then_shrinks (one_shrinks _) (λ u. λ n r k. pure_shrinks _ n r k)))) (λ _ r h.
      follow_token identifiers (accepts_name x.name.name) h (λ i. then_shrinks (parameters_shrinks d end) (λ ns. then_shrinks (one_shrinks _) (λ u. λ n r k. pure_shrinks _ n r k))) (λ i r h.
      follow_then (parameters_followed x.parameters ok rest r h) (λ ns. then_shrinks (one_shrinks _) (λ u. λ n r k. pure_shrinks _ n r k)) (λ ns r h.
      follow_token (symbols mark.Semicolon) (accepts_symbol mark.Semicolon) h (λ u. λ n r k. pure_shrinks _ n r k) (λ _ r h. follow_pure _ h))))

  optional_head_followed : (x : Option Head) → IsTrue (formed_head d x) → (y : Token) (w : List Token) → on_word word_.KwProgram y ≡ false → (s : List Placed) → Along n (spell (optional_part (option_map write_head x)) (y ∷ w)) s → Followed n W (y ∷ w) (optional_head d end s)
  unfolding optional_head
  optional_head_followed None ok y w other s h =
      follow_first (is_headless d s) _ _ (ap (λ b. is_turbo d && not b) (looks_at (looks_word word_.KwProgram) h ∙ other) ∙ and_true (is_turbo d) ok) (follow_pure _ h)
  optional_head_followed (Some x) ok y w other s h =
      follow_second (is_headless d s) _ _ (ap (λ b. is_turbo d && not b) (looks_at (looks_word word_.KwProgram) h ∙ on_word_here word_.KwProgram) ∙ and_false (is_turbo d))
      (follow_then (head_followed x ok (y ∷ w) s h) (λ u. pure_shrinks _) (λ u r h. follow_pure _ h))

  -- ---- programs

  module _ (k : ℕ) where
    program_followed : (p : Program) → Part W k (write_program d p) (formed_program d p) → (rest : List Token) (s : List Placed) → Along n (spell (write_program d p) rest) s → Followed n W rest (program d end k s)
    unfolding program
    program_followed p part rest s h =
        let top = optional_part (option_map write_head p.head) in let used = write_optional_uses d p.uses in let body = write_block d p.block in
        let formed = and_out (formed_head d p.head && formed_uses p.uses) (formed_block d p.block) part.formed in
        let heads = and_out (formed_head d p.head) (formed_uses p.uses) formed.0 in
        let q = part_left body (symbol mark.Dot) (part_right used (body & symbol mark.Dot) (part_right top (used & body & symbol mark.Dot) (part_inside (top & used & body & symbol mark.Dot) part))) in
        let fits = q.fits in
        let block_rest = spell body (Symbol mark.Dot ∷ rest) in
        let b = block_begins d p.block (Symbol mark.Dot ∷ rest) in
        let first = headless d p.uses block_rest b in
        let whole = spell_join top (used & body & symbol mark.Dot) rest ∙ ap (λ w. spell top w) (spell_join used (body & symbol mark.Dot) rest ∙ ap (λ w. spell used w) (spell_join body (symbol mark.Dot) rest)) in
        follow_then (optional_head_followed p.head heads.0 first.token first.more first.no_program s (along_as (whole ∙ ap (λ w. spell top w) first.is) h))
        (λ h. then_shrinks (optional_uses_shrinks d end) (λ u. then_shrinks (block_shrinks d end k) (λ b. then_shrinks (one_shrinks _) (λ v. λ m r k. pure_shrinks _ m r k)))) (λ _ r h.
        follow_then (optional_uses_followed p.uses heads.1 block_rest b r (along_as (sym first.is) h)) (λ u. then_shrinks (block_shrinks d end k) (λ b. then_shrinks (one_shrinks _) (λ v. λ m r k. pure_shrinks _ m r k))) (λ u r h.
        follow_then (block_followed n W d end k p.block (record { formed = formed.1; fits = fits }) (Symbol mark.Dot ∷ rest) r h) (λ b. then_shrinks (one_shrinks _) (λ v. λ m r k. pure_shrinks _ m r k)) (λ b r h.
        follow_token (symbols mark.Dot) (accepts_symbol mark.Dot) h (λ v. λ m r k. pure_shrinks _ m r k) (λ _ r h. follow_pure _ h))))

    -- ---- what is public

    public_followed : (x : Public) → Part W k (write_public x) (formed_public d x) → (rest : List Token) → on_first on_name rest ≡ false → (s : List Placed) → Along n (spell (write_public x) rest) s → Followed n W rest (public d end k s)
    unfolding public constants_public types_public variables_public heading_public same_word
    public_followed (item.Constants p) part rest closed s h =
        follow_first _ _ _ (looks_at (looks_word word_.KwConst) h) (follow_then (const_part_followed n W d end k (expr d end k) (expr_shrinks d end k) (expr_followed n W d end k) p part rest closed s h) (λ x. pure_shrinks _) (λ x r h. follow_pure _ h))
    public_followed (item.Types p) part rest closed s h =
        follow_second _ _ _ (looks_at (looks_word word_.KwConst) h) (follow_first _ _ _ (looks_at (looks_word word_.KwType) h)
        (follow_then (type_part_followed n W d end k (type_node d end k) (type_shrinks d end k) (type_followed n W d end k) p part rest closed s h) (λ x. pure_shrinks _) (λ x r h. follow_pure _ h)))
    public_followed (item.Variables p) part rest closed s h =
        follow_second _ _ _ (looks_at (looks_word word_.KwConst) h) (follow_second _ _ _ (looks_at (looks_word word_.KwType) h) (follow_first _ _ _ (looks_at (looks_word word_.KwVar) h)
        (follow_then (var_part_followed n W d end k (type_node d end k) (type_shrinks d end k) (type_followed n W d end k) p part rest closed s h) (λ x. pure_shrinks _) (λ x r h. follow_pure _ h))))
    public_followed (item.Heading x span) part rest closed s h0 =
        let h = along_as (spell_join (write_heading x) (symbol mark.Semicolon) rest) h0 in
        let start = heading_start x (Symbol mark.Semicolon ∷ rest) in
        let first = along_as start.is h in
        follow_second _ _ _ (looks_at (looks_word word_.KwConst) first ∙ other_word place_of_constants start.opens (λ e. absurd cc)) (follow_second _ _ _ (looks_at (looks_word word_.KwType) first ∙ other_word place_of_types start.opens (λ e. absurd cc))
        (follow_second _ _ _ (looks_at (looks_word word_.KwVar) first ∙ other_word place_of_variables start.opens (λ e. absurd cc))
        (follow_then (heading_followed n W end k (formals end k) (formals_shrinks end k) (formals_followed n W end k) x (part_left (write_heading x) (symbol mark.Semicolon) (part_inside (write_heading x & symbol mark.Semicolon) part)) rest s h)
        (λ x. then_shrinks (one_shrinks _) (λ u. λ m r k. pure_shrinks _ m r k)) (λ x r h.
        follow_token (symbols mark.Semicolon) (accepts_symbol mark.Semicolon) h (λ u. λ m r k. pure_shrinks _ m r k) (λ _ r h. follow_pure _ h)))))

    public_begun : Begun (begins public_words) (public d end k)
    unfolding public constants_public types_public variables_public heading_public
    public_begun s e =
        chosen (begins (words word_.KwConst) s) (λ test. short_then (const_part_begun d end k s test) (λ p. pure_shrinks _)) (λ a.
        chosen (begins (words word_.KwType) s) (λ test. short_then (type_part_begun d end k s test) (λ p. pure_shrinks _)) (λ b.
        chosen (begins (words word_.KwVar) s) (λ test. short_then (var_part_begun d end k s test) (λ p. pure_shrinks _)) (λ c.
        short_then (heading_begun d end (formals end k) (formals_shrinks end k) s (public_routine_is s e a b c)) (λ x. then_shrinks (one_shrinks _) (λ u. λ m r k. pure_shrinks _ m r k)))))

    public_takes : (s : List Placed) → Takes (length s) (public d end k s)
    unfolding public constants_public types_public variables_public heading_public
    public_takes s =
        takes_either (length s) (begins (words word_.KwConst) s) _ _ (takes_then (length s) _ (const_part_takes d end k s) (λ p. pure_shrinks _))
        (takes_either (length s) (begins (words word_.KwType) s) _ _ (takes_then (length s) _ (type_part_takes d end k s) (λ p. pure_shrinks _))
        (takes_either (length s) (begins (words word_.KwVar) s) _ _ (takes_then (length s) _ (var_part_takes d end k s) (λ p. pure_shrinks _))
        (takes_then (length s) _ (heading_takes d end (formals end k) (formals_shrinks end k) s) (λ x. then_shrinks (one_shrinks _) (λ u. λ m r k. pure_shrinks _ m r k)))))

    publics_followed : (xs : List Public) → Part W k (in_row (map write_public xs)) (all (map (formed_public d) xs)) → (rest : List Token) → on_first on_name rest ≡ false → on_first on_public rest ≡ false → (s : List Placed)
        → Along n (spell (in_row (map write_public xs)) rest) s → Followed n W rest (publics d end k [] s)
    unfolding publics next_public
    publics_followed xs part rest no_name no_public s h =
        row_followed n W k write_public (formed_public d) (public d end k) (public_shrinks d end k) public_takes (begins public_words) on_public looks_public public_begun
        (λ x ok rest. let start = public_start x rest in (start.token, start.more, start.is, opens_public x start.opens))
        (λ w. on_first on_name w ≡ false) (λ x ok rest. let start = public_start x rest in subst (λ w. on_first on_name w ≡ false) (sym start.is) (opens_name start.opens)) public_followed xs part rest no_name no_public [] s h

    -- ---- parts of units and modules

    abbrev row : List Public → List Token → List Token
    row xs rest = spell (in_row (map write_public xs)) rest

    abbrev declared : List Declaration → List Token → List Token
    declared xs rest = spell (in_row (map (write_declaration d) xs)) rest

    interface_followed : (u : Option Uses) (xs : List Public) → IsTrue (formed_uses u) → Part W k (in_row (map write_public xs)) (all (map (formed_public d) xs)) → (w : List Token) (s : List Placed)
        → Along n (Word word_.KwInterface ∷ spell (write_optional_uses d u) (row xs (Word word_.KwImplementation ∷ w))) s → Followed n W (Word word_.KwImplementation ∷ w) (interface d end k s)
    unfolding interface
    interface_followed u xs ok part w s h =
        let after = Word word_.KwImplementation ∷ w in
        follow_token (words word_.KwInterface) (accepts_word word_.KwInterface) h (λ _. then_shrinks (optional_uses_shrinks d end) (λ u. then_shrinks (publics_shrinks d end k []) (λ all. pure_shrinks _))) (λ _ r h.
        follow_then (optional_uses_followed u ok (row xs after) (publics_begin xs after (record { token = Word word_.KwImplementation; more = w; is = refl; inside = at_implementation })) r h) (λ u. then_shrinks (publics_shrinks d end k []) (λ all. pure_shrinks _)) (λ u r h.
        follow_then (publics_followed xs part after refl refl r h) (λ all. pure_shrinks _) (λ all r h. follow_pure _ h)))

    exports_followed : (u : Option Uses) (xs : List Public) → IsTrue (formed_uses u) → Part W k (in_row (map write_public xs)) (all (map (formed_public d) xs)) → (w : List Token) (s : List Placed)
        → Along n (spell (write_optional_uses d u) (Word word_.KwExport ∷ row xs (Word word_.KwImplement ∷ w))) s → Followed n W (Word word_.KwImplement ∷ w) (exports d end k s)
    unfolding exports
    exports_followed u xs ok part w s h =
        let after = Word word_.KwImplement ∷ w in
        follow_then (optional_uses_followed u ok (Word word_.KwExport ∷ row xs after) (record { token = Word word_.KwExport; more = _; is = refl; inside = at_export }) s h) (λ u. then_shrinks (one_shrinks _) (λ _. then_shrinks (publics_shrinks d end k []) (λ all. pure_shrinks _))) (λ u r h.
        follow_token (words word_.KwExport) (accepts_word word_.KwExport) h (λ _. then_shrinks (publics_shrinks d end k []) (λ all. pure_shrinks _)) (λ _ r h.
        follow_then (publics_followed xs part after refl refl r h) (λ all. pure_shrinks _) (λ all r h. follow_pure _ h)))

    implementation_followed : (v : WordSymbol) (u : Option Uses) (xs : List Declaration) → IsTrue (formed_uses u) → Part W k (in_row (map (write_declaration d) xs)) (formed_declarations d (map (judged_declaration d) xs)) → (rest : List Token) → Closed rest
        → (s : List Placed) → Along n (Word v ∷ spell (write_optional_uses d u) (declared xs rest)) s → Followed n W rest (implementation v d end k s)
    unfolding implementation
    implementation_followed v u xs ok part rest closed s h =
        follow_token (words v) (accepts_word v) h (λ _. then_shrinks (optional_uses_shrinks d end) (λ u. then_shrinks (declarations_shrinks d end k (block d end k) (block_shrinks d end k)) (λ all. pure_shrinks _))) (λ _ r h.
        follow_then (optional_uses_followed u ok (declared xs rest) (declarations_begin d xs rest closed) r h) (λ u. then_shrinks (declarations_shrinks d end k (block d end k) (block_shrinks d end k)) (λ all. pure_shrinks _)) (λ u r h.
        follow_then (declarations_followed n W d end k (block d end k) (block_shrinks d end k) (block_followed n W d end k) xs part rest closed r h) (λ all. pure_shrinks _) (λ all r h. follow_pure _ h)))

    initial_followed : (x : Option (List Stmt)) → Part W k (write_initial d x) (optional (option_map (formed_stmts d) x)) → (w : List Token) (s : List Placed) → Along n (spell (write_initial d x) (Word word_.KwEnd ∷ w)) s → Followed n W (Word word_.KwEnd ∷ w) (optional_initial d end k s)
    unfolding optional_initial same_word
    initial_followed None part w s h = follow_second _ _ _ (looks_at (looks_word word_.KwBegin) h) (follow_pure _ h)
    initial_followed (Some xs) part w s h =
        follow_first _ _ _ (looks_at (looks_word word_.KwBegin) h) (follow_token (words word_.KwBegin) (accepts_word word_.KwBegin) h (λ _. then_shrinks (body_shrinks d end k) (λ b. pure_shrinks _)) (λ _ r h.
        follow_then (body_followed n W d end k (block d end k) (block_shrinks d end k) (block_followed n W d end k) xs (part_right (word word_.KwBegin) (write_stmts d xs) part) w r h) (λ b. pure_shrinks _) (λ b r h. follow_pure _ h)))

    initial_closed : (x : Option (List Stmt)) (w : List Token) → Closed (spell (write_initial d x) (Word word_.KwEnd ∷ w))
    initial_closed None w = at_end w
    initial_closed (Some xs) w = at_begin _

    last_end_followed : (rest : List Token) (s : List Placed) → Along n (Word word_.KwEnd ∷ Symbol mark.Dot ∷ rest) s → Followed n W rest (last_end s)
    unfolding last_end
    last_end_followed rest s h =
        follow_token (words word_.KwEnd) (accepts_word word_.KwEnd) h (λ _. one_shrinks _) (λ _ r h. follow_plain (one_of (symbols mark.Dot) r) (follow_token (symbols mark.Dot) (accepts_symbol mark.Dot) h (λ a. pure_shrinks _) (λ a r h. follow_pure _ h)))

    name_after_followed : (v : WordSymbol) (i : Identifier) (rest : List Token) (s : List Placed) → Along n (Word v ∷ Name i.name ∷ Symbol mark.Semicolon ∷ rest) s → Followed n W rest (name_after v s)
    unfolding name_after
    name_after_followed v i rest s h =
        follow_token (words v) (accepts_word v) h (λ _. then_shrinks (one_shrinks _) (λ x. then_shrinks (one_shrinks _) (λ _. pure_shrinks _))) (λ _ r h.
        follow_token identifiers (accepts_name i.name) h (λ x. then_shrinks (one_shrinks _) (λ _. pure_shrinks _)) (λ x r h.
        follow_token (symbols mark.Semicolon) (accepts_symbol mark.Semicolon) h (λ _. pure_shrinks _) (λ _ r h. follow_pure _ h)))

    -- ---- units and modules

    refit : {l : Layout} {b c : Bool} → Part W k l b → IsTrue c → Part W k l c
    refit h ok = let fits = h.fits in record { formed = ok; fits = fits }

    unit_followed : (x : UnitNode) → Part W k (write_unit d x) (formed_unit d x) → (rest : List Token) (s : List Placed) → Along n (spell (write_unit d x) rest) s → Followed n W rest (unit d end k s)
    unfolding unit
    unit_followed x part rest s h =
        let used = write_optional_uses d x.interface_uses in let shown = in_row (map write_public x.publics) in
        let using = write_optional_uses d x.implementation_uses in let hidden = in_row (map (write_declaration d) x.declarations) in
        let begun = write_initial d x.initial in let last = word word_.KwEnd & symbol mark.Dot in
        let below = (using & hidden) & begun & last in
        let above = shown & word word_.KwImplementation & below in
        let front = word word_.KwUnit & identifier x.name & symbol mark.Semicolon & word word_.KwInterface in
        let formed = and_out (formed_interface d x.interface_uses x.publics && formed_implementation d x.implementation_uses x.declarations) (optional (option_map (formed_stmts d) x.initial)) part.formed in
        let formed_both = and_out (formed_interface d x.interface_uses x.publics) (formed_implementation d x.implementation_uses x.declarations) formed.0 in
        let formed_shown = and_out (formed_uses x.interface_uses) (all (map (formed_public d) x.publics)) formed_both.0 in
        let formed_hidden = and_out (formed_uses x.implementation_uses) (formed_declarations d (map (judged_declaration d) x.declarations)) formed_both.1 in
        let p = part_right used above (part_right front (used & above) (part_inside (front & used & above) part)) in
        let q = part_right (word word_.KwImplementation) below (part_right shown (word word_.KwImplementation & below) p) in
        let ending = Word word_.KwEnd ∷ Symbol mark.Dot ∷ rest in
        let low = spell_join (using & hidden) (begun & last) rest ∙ spell_join using hidden (spell (begun & last) rest) ∙ ap (λ w. spell using (spell hidden w)) (spell_join begun last rest) in
        let whole = spell_join used above rest ∙ ap (λ w. spell used w) (spell_join shown (word word_.KwImplementation & below) rest ∙ ap (λ w. spell shown (Word word_.KwImplementation ∷ w)) low) in
        follow_then (name_after_followed word_.KwUnit x.name _ s (along_as (ap (λ w. Word word_.KwUnit ∷ Name x.name.name ∷ Symbol mark.Semicolon ∷ Word word_.KwInterface ∷ w) whole) h))
        (λ y. then_shrinks (interface_shrinks d end k) (λ i. then_shrinks (implementation_shrinks d end k word_.KwImplementation) (λ p. then_shrinks (initial_shrinks d end k) (λ b. then_shrinks (last_end_shrinks d end) (λ u. λ m r k. pure_shrinks _ m r k))))) (λ y r h.
        follow_then (interface_followed x.interface_uses x.publics formed_shown.0 (refit (part_left shown (word word_.KwImplementation & below) p) formed_shown.1) _ r h)
        (λ i. then_shrinks (implementation_shrinks d end k word_.KwImplementation) (λ p. then_shrinks (initial_shrinks d end k) (λ b. then_shrinks (last_end_shrinks d end) (λ u. λ m r k. pure_shrinks _ m r k)))) (λ i r h.
        follow_then (implementation_followed word_.KwImplementation x.implementation_uses x.declarations formed_hidden.0 (refit (part_right using hidden (part_left (using & hidden) (begun & last) q)) formed_hidden.1) (spell begun ending) (initial_closed x.initial (Symbol mark.Dot ∷ rest)) r h)
        (λ p. then_shrinks (initial_shrinks d end k) (λ b. then_shrinks (last_end_shrinks d end) (λ u. λ m r k. pure_shrinks _ m r k))) (λ m r h.
        follow_then (initial_followed x.initial (refit (part_left begun last (part_right (using & hidden) (begun & last) q)) formed.1) (Symbol mark.Dot ∷ rest) r h) (λ b. then_shrinks (last_end_shrinks d end) (λ u. λ m r k. pure_shrinks _ m r k)) (λ b r h.
        follow_then (last_end_followed rest r h) (λ u. λ m r k. pure_shrinks _ m r k) (λ u r h. follow_pure _ h)))))

    module_followed : (x : Module) → Part W k (write_module d x) (formed_module d x) → (rest : List Token) (s : List Placed) → Along n (spell (write_module d x) rest) s → Followed n W rest (module_text d end k s)
    unfolding module_text
    module_followed x part rest s h =
        let used = write_optional_uses d x.interface_uses in let shown = in_row (map write_public x.publics) in
        let using = write_optional_uses d x.implementation_uses in let hidden = in_row (map (write_declaration d) x.declarations) in
        let last = word word_.KwEnd & symbol mark.Dot in
        let below = (using & hidden) & last in
        let above = shown & word word_.KwImplement & below in
        let front = word word_.KwModule & identifier x.name & symbol mark.Semicolon in
        let formed_both = and_out (formed_interface d x.interface_uses x.publics) (formed_implementation d x.implementation_uses x.declarations) part.formed in
        let formed_shown = and_out (formed_uses x.interface_uses) (all (map (formed_public d) x.publics)) formed_both.0 in
        let formed_hidden = and_out (formed_uses x.implementation_uses) (formed_declarations d (map (judged_declaration d) x.declarations)) formed_both.1 in
        let p = part_right (word word_.KwExport) above (part_right used (word word_.KwExport & above) (part_right front (used & word word_.KwExport & above) (part_inside (front & used & word word_.KwExport & above) part))) in
        let q = part_right (word word_.KwImplement) below (part_right shown (word word_.KwImplement & below) p) in
        let ending = Word word_.KwEnd ∷ Symbol mark.Dot ∷ rest in
        let low = spell_join (using & hidden) last rest ∙ spell_join using hidden ending in
        let whole = spell_join used (word word_.KwExport & above) rest ∙ ap (λ w. spell used (Word word_.KwExport ∷ w)) (spell_join shown (word word_.KwImplement & below) rest ∙ ap (λ w. spell shown (Word word_.KwImplement ∷ w)) low) in
        follow_then (name_after_followed word_.KwModule x.name _ s (along_as (ap (λ w. Word word_.KwModule ∷ Name x.name.name ∷ Symbol mark.Semicolon ∷ w) whole) h))
        (λ y. then_shrinks (exports_shrinks d end k) (λ i. then_shrinks (implementation_shrinks d end k word_.KwImplement) (λ p. then_shrinks (last_end_shrinks d end) (λ u. λ m r k. pure_shrinks _ m r k)))) (λ y r h.
        follow_then (exports_followed x.interface_uses x.publics formed_shown.0 (refit (part_left shown (word word_.KwImplement & below) p) formed_shown.1) _ r h)
        (λ i. then_shrinks (implementation_shrinks d end k word_.KwImplement) (λ p. then_shrinks (last_end_shrinks d end) (λ u. λ m r k. pure_shrinks _ m r k))) (λ i r h.
        follow_then (implementation_followed word_.KwImplement x.implementation_uses x.declarations formed_hidden.0 (refit (part_right using hidden (part_left (using & hidden) last q)) formed_hidden.1) ending (at_end (Symbol mark.Dot ∷ rest)) r h)
        (λ p. then_shrinks (last_end_shrinks d end) (λ u. λ m r k. pure_shrinks _ m r k)) (λ m r h.
        follow_then (last_end_followed rest r h) (λ u. λ m r k. pure_shrinks _ m r k) (λ u r h. follow_pure _ h))))

    -- ---- whole texts

    pub source_file_followed : (f : SourceFile) → Part W k (write_file d f) (formed_file d f) → (rest : List Token) (s : List Placed) → Along n (spell (write_file d f) rest) s → Followed n W rest (source_file d end k s)
    unfolding source_file same_word
    source_file_followed (text.UnitText x) part rest s h = follow_first _ _ _ (looks_at (looks_word word_.KwUnit) h) (follow_then (unit_followed x part rest s h) (λ u. pure_shrinks _) (λ u r h. follow_pure _ h))
    source_file_followed (text.Module x) part rest s h =
        follow_second _ _ _ (looks_at (looks_word word_.KwUnit) h) (follow_first _ _ _ (looks_at (looks_word word_.KwModule) h) (follow_then (module_followed x part rest s h) (λ u. pure_shrinks _) (λ u r h. follow_pure _ h)))
    source_file_followed (text.Program p) part rest s h =
        let top = optional_part (option_map write_head p.head) in let used = write_optional_uses d p.uses in let body = write_block d p.block in
        let whole = spell_join top (used & body & symbol mark.Dot) rest ∙ ap (λ w. spell top w) (spell_join used (body & symbol mark.Dot) rest ∙ ap (λ w. spell used w) (spell_join body (symbol mark.Dot) rest)) in
        let (y, w, is, no_unit, no_module) = program_first d p.head p.uses (spell body (Symbol mark.Dot ∷ rest)) (block_begins d p.block (Symbol mark.Dot ∷ rest)) in
        let first = along_as (whole ∙ is) h in
        follow_second _ _ _ (looks_at (looks_word word_.KwUnit) first ∙ no_unit) (follow_second _ _ _ (looks_at (looks_word word_.KwModule) first ∙ no_module) (follow_then (program_followed p part rest s h) (λ u. pure_shrinks _) (λ u r h. follow_pure _ h)))
