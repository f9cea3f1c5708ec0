-- Whole texts that are written are read.
use Rattle.std.proofs.Common.{◌≡◌, ℕ, Bool, true, false, ◌&&◌, not, List, [], ◌∷◌, map, Option, Some, None, Ok, Err, refl, sym, ap, subst, ◌∙◌}
use Rattle.std.specs.Prelude.{IsTrue}
use Rattle.std.specs.Option.{option_map}
use Rattle.p2c_text.specs.declared.dialect.Dialect.{Dialect}
use Rattle.p2c_text.specs.declared.place.Span.{Span}
use Rattle.dialect_lexer.specs.Dialects.{is_turbo}
use Rattle.dialect_lexer.specs.declared.token.Word.{Word as WordSymbol}
use Rattle.dialect_lexer.specs.declared.token.Word.TheVariants as word_
use Rattle.dialect_lexer.specs.declared.token.Symbol.TheVariants as mark
use Rattle.pascal_tree.specs.declared.names.Identifier.{Identifier}
use Rattle.pascal_tree.specs.declared.statements.Stmt.{Stmt}
use Rattle.pascal_tree.specs.declared.declarations.Declaration.{Declaration}
use Rattle.pascal_tree.specs.declared.files.Head.{Head}
use Rattle.pascal_tree.specs.declared.files.Uses.{Uses}
use Rattle.pascal_tree.specs.declared.files.Program.{Program}
use Rattle.pascal_tree.specs.declared.files.Public.{Public}
use Rattle.pascal_tree.specs.declared.files.Public.TheVariants as item
use Rattle.pascal_tree.specs.declared.files.UnitNode.{UnitNode}
use Rattle.pascal_tree.specs.declared.files.Module.{Module}
use Rattle.pascal_tree.specs.declared.files.SourceFile.{SourceFile}
use Rattle.pascal_tree.specs.declared.files.SourceFile.TheVariants as text
use Rattle.token_parsing.specs.Parser.{Outcome, Parser, and_then, one_of, begins}
use Rattle.expr_parser.specs.Tokens.{Token, Placed, Word, Symbol, plain}
use Rattle.expr_parser.specs.Layout.{Layout, Done, Leaf, ◌&◌, word, symbol, in_row, IsWritten}
use Rattle.expr_parser.specs.Semicolons.{optional_part}
use Rattle.expr_parser.specs.Writing.{identifier}
use Rattle.expr_parser.specs.Grammar.{all, optional}
use Rattle.expr_parser.specs.Classes.{words, symbols, same_symbol, same_word}
use Rattle.expr_parser.specs.Expressions.{expr}
use Rattle.expr_parser.proofs.Layouts.{spell, spell_join, join_assoc}
use Rattle.expr_parser.proofs.Followed.{on_first}
use Rattle.expr_parser.proofs.FollowedParts.{and_out, Part, part_first, part_second, part_left, part_right, part_inside, part_as}
use Rattle.expr_parser.proofs.Lookahead.{looks_word, looks_symbol, on_name, on_symbol, on_word, on_symbol_here, on_word_here, says_word, says_symbol}
use Rattle.expr_parser.proofs.Exact.{written_as, written_inside, written_plain, ends_plain, exact_then, exact_part, exact_token, exact_name, exact_made, exact_first, exact_second, looks_written}
use Rattle.expr_parser.proofs.ExactFactors.{expr_exact}
use Rattle.type_parser.specs.Writing.{write_names}
use Rattle.type_parser.specs.Grammar.{some_names}
use Rattle.type_parser.specs.Levels.{type_node, formals}
use Rattle.type_parser.proofs.ExactNames.{names_exact}
use Rattle.type_parser.proofs.ExactFields.{type_exact}
use Rattle.type_parser.proofs.ExactFormals.{formals_exact}
use Rattle.stmt_parser.proofs.Ends.{StmtEnds, end_ends}
use Rattle.stmt_parser.proofs.ExactLevels.{statements_exact}
use Rattle.unit_parser.specs.Dialects.{uses_word}
use Rattle.unit_parser.specs.Writing.{write_heading, write_declaration, write_block, write_stmts, write_constants, write_types, write_variables, optional_parameters as write_parameters, write_head, write_uses, optional_uses as write_optional_uses, write_program, write_public, optional_initial as write_initial, write_unit, write_module, write_file}
use Rattle.unit_parser.specs.Grammar.{formed_heading, formed_block, formed_stmts, formed_declarations, judged_declaration, formed_head, formed_uses, formed_program, formed_public, formed_interface, formed_implementation, formed_unit, formed_module, formed_file}
use Rattle.unit_parser.specs.Blocks.{block}
use Rattle.unit_parser.specs.Files.{uses_of, uses, optional_uses, optional_parameters, head_of, head, is_headless, optional_head, program_of, program, constants_public, types_public, variables_public, heading_public, public, next_public, public_words, publics, name_after, interface, exports, implementation, optional_initial, last_end, unit_of, unit, module_of, module_text, source_file, file}
use Rattle.unit_parser.proofs.Beginnings.{opens_name, Closed, at_begin, at_end, place_of_constants, place_of_types, place_of_variables, other_word, heading_start}
use Rattle.unit_parser.proofs.FirstWords.{at_export, at_implement, at_implementation, inside_other, heads_uses_word, Begins, declarations_begin, block_begins, on_public, looks_public, public_start, opens_public, publics_begin, Headless, headless, program_first}
use Rattle.unit_parser.proofs.FollowedFiles.{and_true, and_false}
use Rattle.unit_parser.proofs.ExactRows.{row_exact}
use Rattle.unit_parser.proofs.ExactParts.{const_part_exact, type_part_exact, var_part_exact}
use Rattle.unit_parser.proofs.ExactHeadings.{heading_exact}
use Rattle.unit_parser.proofs.ExactBlocks.{declarations_exact, block_exact}

-- what is read, with nothing done after it
alone : {A : Type 0} (o : Outcome Placed A) → o ≡ and_then o (λ a s. Ok (a, s))
alone (Ok p) = refl
alone (Err e) = refl

module _ (d : Dialect) (end : Span) where
  -- ---- used units

  uses_exact : (u : Uses) → IsTrue (some_names u.names) → (s r : List Placed) → IsWritten end (write_uses d u) s r → uses d end s ≡ Ok (u, r)
  unfolding uses same_symbol
  uses_exact u ok s r h =
      let ns = write_names u.names in let close = symbol mark.Semicolon in let l = word (uses_word d) & ns & close in
      let (place, inside) = written_inside end u.span l s r h in
      exact_token _ (words (uses_word d)) (says_word (uses_word d)) end (ns & close) s r inside (λ m h.
      exact_part _ u.names end ns close m r h (λ m' left right. names_exact end u.names ok m m' left (ap (on_first (on_symbol mark.Comma)) (written_plain end close m' r right))) (λ m h.
      exact_token _ (symbols mark.Semicolon) (says_symbol mark.Semicolon) end Done m r h (λ m h. exact_made end u.span (uses_of u.names) s m r h refl place)))

  -- used units, or none before what may stand behind them
  optional_uses_exact : (u : Option Uses) → IsTrue (formed_uses u) → (s r : List Placed) → IsWritten end (write_optional_uses d u) s r → Begins (plain r) → optional_uses d end s ≡ Ok (u, r)
  unfolding optional_uses
  optional_uses_exact None ok s r h b = exact_second _ _ _ (looks_written (looks_word (uses_word d)) end Done s r h ∙ ap (on_first (on_word (uses_word d))) b.is ∙ inside_other (heads_uses_word d) b.inside) (ap (λ z. Ok (None, z)) h)
  optional_uses_exact (Some u) ok s r h b = exact_first _ _ _ (looks_written (looks_word (uses_word d)) end (write_uses d u) s r h ∙ on_word_here (uses_word d)) (exact_then _ (uses_exact u ok s r h) refl)

  -- ---- heads of programs

  parameters_exact : (p : Option (List Identifier)) → IsTrue (optional (option_map some_names p)) → (s r : List Placed) → IsWritten end (write_parameters p) s r → on_first (on_symbol mark.Open) (plain r) ≡ false → optional_parameters s ≡ Ok (p, r)
  unfolding optional_parameters same_symbol
  parameters_exact None ok s r h ends = exact_second _ _ _ (looks_written (looks_symbol mark.Open) end Done s r h ∙ ends) (ap (λ z. Ok (None, z)) h)
  parameters_exact (Some names) ok s r h ends =
      let ns = write_names names in let close = symbol mark.Close in let l = symbol mark.Open & ns & close in
      exact_first _ _ _ (looks_written (looks_symbol mark.Open) end l s r h) (exact_token _ (symbols mark.Open) (says_symbol mark.Open) end (ns & close) s r h (λ m h.
      exact_part _ names end ns close m r h (λ m' left right. names_exact end names ok m m' left (ap (on_first (on_symbol mark.Comma)) (written_plain end close m' r right))) (λ m h.
      exact_token _ (symbols mark.Close) (says_symbol mark.Close) end Done m r h (λ m h. ap (λ z. Ok (Some names, z)) h))))

  head_exact : (x : Head) → IsTrue (optional (option_map some_names x.parameters)) → (s r : List Placed) → IsWritten end (write_head x) s r → head end s ≡ Ok (x, r)
  unfolding head same_symbol
  head_exact x ok s r h =
      let p = write_parameters x.parameters in let close = symbol mark.Semicolon in let l = word word_.KwProgram & identifier x.name & p & close in
      let (place, inside) = written_inside end x.span l s r h in
      exact_token _ (words word_.KwProgram) (says_word word_.KwProgram) end (identifier x.name & p & close) s r inside (λ m h.
      exact_name _ x.name end (p & close) m r h (λ m h.
      exact_part _ x.parameters end p close m r h (λ m' left right. parameters_exact x.parameters ok m m' left (ap (on_first (on_symbol mark.Open)) (written_plain end close m' r right))) (λ m h.
      exact_token _ (symbols mark.Semicolon) (says_symbol mark.Semicolon) end Done m r h (λ m h. exact_made end x.span (head_of x.name x.parameters) s m r h refl place))))

  optional_head_exact : (x : Option Head) → IsTrue (formed_head d x) → (s r : List Placed) → IsWritten end (optional_part (option_map write_head x)) s r → on_first (on_word word_.KwProgram) (plain r) ≡ false → optional_head d end s ≡ Ok (x, r)
  unfolding optional_head
  optional_head_exact None ok s r h ends =
      exact_first (is_headless d s) _ _ (ap (λ b. is_turbo d && not b) (looks_written (looks_word word_.KwProgram) end Done s r h ∙ ends) ∙ and_true (is_turbo d) ok) (ap (λ z. Ok (None, z)) h)
  optional_head_exact (Some x) ok s r h ends =
      exact_second (is_headless d s) _ _ (ap (λ b. is_turbo d && not b) (looks_written (looks_word word_.KwProgram) end (write_head x) s r h ∙ on_word_here word_.KwProgram) ∙ and_false (is_turbo d)) (exact_then _ (head_exact x ok s r h) refl)

  -- ---- parts of units and modules

  name_after_exact : (v : WordSymbol) (i : Identifier) (s r : List Placed) → IsWritten end (word v & identifier i & symbol mark.Semicolon) s r → name_after v s ≡ Ok (i, r)
  unfolding name_after
  name_after_exact v i s r h =
      exact_token _ (words v) (says_word v) end (identifier i & symbol mark.Semicolon) s r h (λ m h. exact_name _ i end (symbol mark.Semicolon) m r h (λ m h.
      exact_token _ (symbols mark.Semicolon) (says_symbol mark.Semicolon) end Done m r h (λ m h. ap (λ z. Ok (i, z)) h)))

  last_end_exact : (s r : List Placed) → IsWritten end (word word_.KwEnd & symbol mark.Dot) s r → last_end s ≡ Ok (tt, r)
  unfolding last_end
  last_end_exact s r h =
      exact_token (λ _. one_of (symbols mark.Dot)) (words word_.KwEnd) (says_word word_.KwEnd) end (symbol mark.Dot) s r h (λ m h.
      alone (one_of (symbols mark.Dot) m) ∙ exact_token (λ a s. Ok (a, s)) (symbols mark.Dot) (says_symbol mark.Dot) end Done m r h (λ m h. ap (λ z. Ok (tt, z)) h))

  module _ (k : ℕ) where
    -- ---- programs

    program_exact : (p : Program) → Part (Unit {0}) k (write_program d p) (formed_program d p) → (s r : List Placed) → IsWritten end (write_program d p) s r → program d end k s ≡ Ok (p, r)
    unfolding program
    program_exact p part s r h =
        let top = optional_part (option_map write_head p.head) in let used = write_optional_uses d p.uses in let body = write_block d p.block in let close = symbol mark.Dot in
        let formed = and_out (formed_head d p.head && formed_uses p.uses) (formed_block d p.block) part.formed in
        let heads = and_out (formed_head d p.head) (formed_uses p.uses) formed.0 in
        let q = part_left body close (part_right used (body & close) (part_right top (used & body & close) (part_inside (top & used & body & close) part))) in
        let fits = q.fits in
        let begun : Begins (spell (body & close) (plain r)) = subst Begins (sym (spell_join body close (plain r))) (block_begins d p.block (Symbol mark.Dot ∷ plain r)) in
        let first = headless d p.uses (spell (body & close) (plain r)) begun in
        let (place, inside) = written_inside end p.span (top & used & body & close) s r h in
        exact_part _ p.head end top (used & body & close) s r inside
        (λ m left right. optional_head_exact p.head heads.0 s m left (ap (on_first (on_word word_.KwProgram)) (written_plain end (used & body & close) m r right ∙ spell_join used (body & close) (plain r) ∙ first.is) ∙ first.no_program)) (λ m h.
        exact_part _ p.uses end used (body & close) m r h (λ m' left right. optional_uses_exact p.uses heads.1 m m' left (ends_plain Begins end (body & close) m' r right begun)) (λ m h.
        exact_part _ p.block end body close m r h (λ m' left right. block_exact d end k p.block (record { formed = formed.1; fits = fits }) m m' left) (λ m h.
        exact_token _ (symbols mark.Dot) (says_symbol mark.Dot) end Done m r h (λ m h. exact_made end p.span (program_of p.head p.uses p.block) s m r h refl place))))

    -- ---- what is public

    abbrev PublicRead : Public → Type 0
    PublicRead x = Part (Unit {0}) k (write_public x) (formed_public d x) → (s r : List Placed) → IsWritten end (write_public x) s r → on_first on_name (plain r) ≡ false → public d end k s ≡ Ok (x, r)

    public_exact : (x : Public) → PublicRead x
    unfolding public constants_public types_public variables_public heading_public same_word
    public_exact (item.Constants p) part s r h closed =
        exact_first _ _ _ (looks_written (looks_word word_.KwConst) end (write_constants p) s r h) (exact_then _ (const_part_exact d end k (expr d end k) (expr_exact d end k) p part s r h closed) refl)
    public_exact (item.Types p) part s r h closed =
        exact_second _ _ _ (looks_written (looks_word word_.KwConst) end (write_types p) s r h) (exact_first _ _ _ (looks_written (looks_word word_.KwType) end (write_types p) s r h)
        (exact_then _ (type_part_exact d end k (type_node d end k) (type_exact d end k) p part s r h closed) refl))
    public_exact (item.Variables p) part s r h closed =
        exact_second _ _ _ (looks_written (looks_word word_.KwConst) end (write_variables p) s r h) (exact_second _ _ _ (looks_written (looks_word word_.KwType) end (write_variables p) s r h)
        (exact_first _ _ _ (looks_written (looks_word word_.KwVar) end (write_variables p) s r h) (exact_then _ (var_part_exact d end k (type_node d end k) (type_exact d end k) p part s r h closed) refl)))
    public_exact (item.Heading x span) part s r h closed =
        let top = write_heading x in let close = symbol mark.Semicolon in let l = top & close in
        let (place, inside) = written_inside end span l s r h in
        let start = heading_start x (Symbol mark.Semicolon ∷ plain r) in
        let spelled = spell_join top close (plain r) ∙ start.is in
        exact_second _ _ _ (looks_written (looks_word word_.KwConst) end l s r inside ∙ ap (on_first (on_word word_.KwConst)) spelled ∙ other_word place_of_constants start.opens (λ e. absurd cc))
        (exact_second _ _ _ (looks_written (looks_word word_.KwType) end l s r inside ∙ ap (on_first (on_word word_.KwType)) spelled ∙ other_word place_of_types start.opens (λ e. absurd cc))
        (exact_second _ _ _ (looks_written (looks_word word_.KwVar) end l s r inside ∙ ap (on_first (on_word word_.KwVar)) spelled ∙ other_word place_of_variables start.opens (λ e. absurd cc))
        (exact_part _ x end top close s r inside (λ m left right. heading_exact end k (formals end k) (formals_exact end k) x (part_left top close (part_inside l part)) s m left _ (written_plain end close m r right)) (λ m h.
        exact_token _ (symbols mark.Semicolon) (says_symbol mark.Semicolon) end Done m r h (λ m h. exact_made end span (item.Heading x) s m r h refl place)))))

    abbrev shown : List Public → Layout
    shown xs = in_row (map write_public xs)

    abbrev declared : List Declaration → Layout
    declared xs = in_row (map (write_declaration d) xs)

    publics_exact : (xs : List Public) → Part (Unit {0}) k (shown xs) (all (map (formed_public d) xs)) → (s r : List Placed) → IsWritten end (shown xs) s r → on_first on_name (plain r) ≡ false → on_first on_public (plain r) ≡ false → publics d end k [] s ≡ Ok (xs, r)
    unfolding publics next_public
    publics_exact xs part s r h no_name no_public =
        row_exact end k write_public (formed_public d) (public d end k) (begins public_words) on_public looks_public (λ x ok w. let start = public_start x w in ap (on_first on_public) start.is ∙ opens_public x start.opens)
        (λ w. on_first on_name w ≡ false) (λ x w. let start = public_start x w in ap (on_first on_name) start.is ∙ opens_name start.opens) public_exact xs part [] s r h no_name no_public

    interface_exact : (u : Option Uses) (xs : List Public) → IsTrue (formed_uses u) → Part (Unit {0}) k (shown xs) (all (map (formed_public d) xs)) → (s r : List Placed) → IsWritten end (word word_.KwInterface & write_optional_uses d u & shown xs) s r
        → (w : List Token) → plain r ≡ Word word_.KwImplementation ∷ w → interface d end k s ≡ Ok ((u, xs), r)
    unfolding interface
    interface_exact u xs ok part s r h w is =
        let used = write_optional_uses d u in
        let after : Begins (plain r) = record { token = Word word_.KwImplementation; more = w; is = is; inside = at_implementation } in
        exact_token _ (words word_.KwInterface) (says_word word_.KwInterface) end (used & shown xs) s r h (λ m h.
        exact_part _ u end used (shown xs) m r h (λ m' left right. optional_uses_exact u ok m m' left (ends_plain Begins end (shown xs) m' r right (publics_begin xs (plain r) after))) (λ m h.
        exact_then _ (publics_exact xs part m r h (ap (on_first on_name) is) (ap (on_first on_public) is)) refl))

    exports_exact : (u : Option Uses) (xs : List Public) → IsTrue (formed_uses u) → Part (Unit {0}) k (shown xs) (all (map (formed_public d) xs)) → (s r : List Placed) → IsWritten end (write_optional_uses d u & word word_.KwExport & shown xs) s r
        → (w : List Token) → plain r ≡ Word word_.KwImplement ∷ w → exports d end k s ≡ Ok ((u, xs), r)
    unfolding exports
    exports_exact u xs ok part s r h w is =
        let used = write_optional_uses d u in let tail = word word_.KwExport & shown xs in
        exact_part _ u end used tail s r h (λ m left right. optional_uses_exact u ok s m left (record { token = Word word_.KwExport; more = _; is = written_plain end tail m r right; inside = at_export })) (λ m h.
        exact_token _ (words word_.KwExport) (says_word word_.KwExport) end (shown xs) m r h (λ m h.
        exact_then _ (publics_exact xs part m r h (ap (on_first on_name) is) (ap (on_first on_public) is)) refl))

    implementation_exact : (v : WordSymbol) (u : Option Uses) (xs : List Declaration) → IsTrue (formed_uses u) → Part (Unit {0}) k (declared xs) (formed_declarations d (map (judged_declaration d) xs)) → (s r : List Placed)
        → IsWritten end (word v & write_optional_uses d u & declared xs) s r → Closed (plain r) → implementation v d end k s ≡ Ok ((u, xs), r)
    unfolding implementation
    implementation_exact v u xs ok part s r h closed =
        let used = write_optional_uses d u in
        exact_token _ (words v) (says_word v) end (used & declared xs) s r h (λ m h.
        exact_part _ u end used (declared xs) m r h (λ m' left right. optional_uses_exact u ok m m' left (ends_plain Begins end (declared xs) m' r right (declarations_begin d xs (plain r) closed))) (λ m h.
        exact_then _ (declarations_exact d end k (block d end k) (block_exact d end k) xs part m r h closed) refl))

    initial_exact : (x : Option (List Stmt)) → Part (Unit {0}) k (write_initial d x) (optional (option_map (formed_stmts d) x)) → (s r : List Placed) → IsWritten end (write_initial d x) s r → (w : List Token) → plain r ≡ Word word_.KwEnd ∷ w → optional_initial d end k s ≡ Ok (x, r)
    unfolding optional_initial same_word
    initial_exact None part s r h w is = exact_second _ _ _ (looks_written (looks_word word_.KwBegin) end Done s r h ∙ ap (on_first (on_word word_.KwBegin)) is) (ap (λ z. Ok (None, z)) h)
    initial_exact (Some xs) part s r h w is =
        let body = write_stmts d xs in let l = word word_.KwBegin & body in
        exact_first _ _ _ (looks_written (looks_word word_.KwBegin) end l s r h) (exact_token _ (words word_.KwBegin) (says_word word_.KwBegin) end body s r h (λ m h.
        exact_then _ (statements_exact d end k xs (part_right (word word_.KwBegin) body part) m r h (subst (StmtEnds false) (sym is) (end_ends w)) (ap (on_first (on_symbol mark.Semicolon)) is)) refl))

    initial_closes : (x : Option (List Stmt)) (w : List Token) → Closed (spell (write_initial d x) (Word word_.KwEnd ∷ w))
    initial_closes None w = at_end w
    initial_closes (Some xs) w = at_begin _

    -- ---- units and modules

    refit : {l : Layout} {b c : Bool} → Part (Unit {0}) k l b → IsTrue c → Part (Unit {0}) k l c
    refit h ok = let fits = h.fits in record { formed = ok; fits = fits }

    unit_exact : (x : UnitNode) → Part (Unit {0}) k (write_unit d x) (formed_unit d x) → (s r : List Placed) → IsWritten end (write_unit d x) s r → unit d end k s ≡ Ok (x, r)
    unfolding unit
    unit_exact x part s r h =
        let used = write_optional_uses d x.interface_uses in let open_ = shown x.publics in
        let using = write_optional_uses d x.implementation_uses in let hidden = declared x.declarations in
        let begun = write_initial d x.initial in let last = word word_.KwEnd & symbol mark.Dot in
        let below = (using & hidden) & begun & last in
        let tail = word word_.KwImplementation & below in
        let name = word word_.KwUnit & identifier x.name & symbol mark.Semicolon in
        let above = word word_.KwInterface & used & open_ & tail in
        let formed = and_out (formed_interface d x.interface_uses x.publics && formed_implementation d x.implementation_uses x.declarations) (optional (option_map (formed_stmts d) x.initial)) part.formed in
        let formed_both = and_out (formed_interface d x.interface_uses x.publics) (formed_implementation d x.implementation_uses x.declarations) formed.0 in
        let formed_shown = and_out (formed_uses x.interface_uses) (all (map (formed_public d) x.publics)) formed_both.0 in
        let formed_hidden = and_out (formed_uses x.implementation_uses) (formed_declarations d (map (judged_declaration d) x.declarations)) formed_both.1 in
        let p = part_right used (open_ & tail) (part_right (word word_.KwInterface) (used & open_ & tail) (part_right name above (part_inside (name & above) part))) in
        let q = part_right (word word_.KwImplementation) below (part_right open_ tail p) in
        let (place, inside) = written_inside end x.span (name & above) s r h in
        let grouped : above ≡ (word word_.KwInterface & used & open_) & tail = ap (λ l. Leaf (Word word_.KwInterface) l) (sym (join_assoc used open_ tail)) in
        exact_part _ x.name end name above s r inside (λ m left right. name_after_exact word_.KwUnit x.name s m left) (λ m h.
        exact_part _ (x.interface_uses, x.publics) end (word word_.KwInterface & used & open_) tail m r (written_as end m r grouped h)
        (λ m' left right. interface_exact x.interface_uses x.publics formed_shown.0 (refit (part_left open_ tail p) formed_shown.1) m m' left _ (written_plain end tail m' r right)) (λ m h.
        exact_part _ (x.implementation_uses, x.declarations) end (word word_.KwImplementation & using & hidden) (begun & last) m r h
        (λ m' left right. implementation_exact word_.KwImplementation x.implementation_uses x.declarations formed_hidden.0 (refit (part_right using hidden (part_left (using & hidden) (begun & last) q)) formed_hidden.1) m m' left
        (ends_plain Closed end (begun & last) m' r right (subst Closed (sym (spell_join begun last (plain r))) (initial_closes x.initial (Symbol mark.Dot ∷ plain r))))) (λ m h.
        exact_part _ x.initial end begun last m r h (λ m' left right. initial_exact x.initial (refit (part_left begun last (part_right (using & hidden) (begun & last) q)) formed.1) m m' left _ (written_plain end last m' r right)) (λ m h.
        exact_then _ (last_end_exact m r h) (exact_made end x.span (unit_of x.name (x.interface_uses, x.publics) (x.implementation_uses, x.declarations) x.initial) s r r refl refl place)))))

    module_exact : (x : Module) → Part (Unit {0}) k (write_module d x) (formed_module d x) → (s r : List Placed) → IsWritten end (write_module d x) s r → module_text d end k s ≡ Ok (x, r)
    unfolding module_text
    module_exact x part s r h =
        let used = write_optional_uses d x.interface_uses in let open_ = shown x.publics in
        let using = write_optional_uses d x.implementation_uses in let hidden = declared x.declarations in
        let last = word word_.KwEnd & symbol mark.Dot in
        let below = (using & hidden) & last in
        let tail = word word_.KwImplement & below in
        let name = word word_.KwModule & identifier x.name & symbol mark.Semicolon in
        let above = used & word word_.KwExport & open_ & tail in
        let formed_both = and_out (formed_interface d x.interface_uses x.publics) (formed_implementation d x.implementation_uses x.declarations) part.formed in
        let formed_shown = and_out (formed_uses x.interface_uses) (all (map (formed_public d) x.publics)) formed_both.0 in
        let formed_hidden = and_out (formed_uses x.implementation_uses) (formed_declarations d (map (judged_declaration d) x.declarations)) formed_both.1 in
        let p = part_right (word word_.KwExport) (open_ & tail) (part_right used (word word_.KwExport & open_ & tail) (part_right name above (part_inside (name & above) part))) in
        let q = part_right (word word_.KwImplement) below (part_right open_ tail p) in
        let (place, inside) = written_inside end x.span (name & above) s r h in
        let grouped : above ≡ (used & word word_.KwExport & open_) & tail = sym (join_assoc used (word word_.KwExport & open_) tail) in
        exact_part _ x.name end name above s r inside (λ m left right. name_after_exact word_.KwModule x.name s m left) (λ m h.
        exact_part _ (x.interface_uses, x.publics) end (used & word word_.KwExport & open_) tail m r (written_as end m r grouped h)
        (λ m' left right. exports_exact x.interface_uses x.publics formed_shown.0 (refit (part_left open_ tail p) formed_shown.1) m m' left _ (written_plain end tail m' r right)) (λ m h.
        exact_part _ (x.implementation_uses, x.declarations) end (word word_.KwImplement & using & hidden) last m r h
        (λ m' left right. implementation_exact word_.KwImplement x.implementation_uses x.declarations formed_hidden.0 (refit (part_right using hidden (part_left (using & hidden) last q)) formed_hidden.1) m m' left
        (ends_plain Closed end last m' r right (at_end _))) (λ m h.
        exact_then _ (last_end_exact m r h) (exact_made end x.span (module_of x.name (x.interface_uses, x.publics) (x.implementation_uses, x.declarations)) s r r refl refl place))))

    -- ---- whole texts

    pub source_file_exact : (f : SourceFile) → Part (Unit {0}) k (write_file d f) (formed_file d f) → (s r : List Placed) → IsWritten end (write_file d f) s r → source_file d end k s ≡ Ok (f, r)
    unfolding source_file same_word
    source_file_exact (text.UnitText x) part s r h = exact_first _ _ _ (looks_written (looks_word word_.KwUnit) end (write_unit d x) s r h) (exact_then _ (unit_exact x part s r h) refl)
    source_file_exact (text.Module x) part s r h =
        exact_second _ _ _ (looks_written (looks_word word_.KwUnit) end (write_module d x) s r h) (exact_first _ _ _ (looks_written (looks_word word_.KwModule) end (write_module d x) s r h) (exact_then _ (module_exact x part s r h) refl))
    source_file_exact (text.Program p) part s r h =
        let top = optional_part (option_map write_head p.head) in let used = write_optional_uses d p.uses in let body = write_block d p.block in let close = symbol mark.Dot in
        let whole = spell_join top (used & body & close) (plain r) ∙ ap (λ w. spell top w) (spell_join used (body & close) (plain r) ∙ ap (λ w. spell used w) (spell_join body close (plain r))) in
        let (y, w, is, no_unit, no_module) = program_first d p.head p.uses (spell body (Symbol mark.Dot ∷ plain r)) (block_begins d p.block (Symbol mark.Dot ∷ plain r)) in
        exact_second _ _ _ (looks_written (looks_word word_.KwUnit) end (write_program d p) s r h ∙ ap (on_first (on_word word_.KwUnit)) (whole ∙ is) ∙ no_unit)
        (exact_second _ _ _ (looks_written (looks_word word_.KwModule) end (write_program d p) s r h ∙ ap (on_first (on_word word_.KwModule)) (whole ∙ is) ∙ no_module) (exact_then _ (program_exact p part s r h) refl))

    pub file_exact : (f : SourceFile) → Part (Unit {0}) k (write_file d f) (formed_file d f) → (s : List Placed) → IsWritten end (write_file d f) s [] → file d end k s ≡ Ok (f, [])
    unfolding file
    file_exact f part s h = exact_then _ (source_file_exact f part s [] h) refl
