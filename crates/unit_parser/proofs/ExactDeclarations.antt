-- Routines and declarations that are written are read.
use Rattle.std.proofs.Common.{◌≡◌, ℕ, Bool, true, false, ◌&&◌, List, [], ◌∷◌, ◌++◌, map, Ok, refl, ap, ◌∙◌}
use Rattle.std.specs.Prelude.{IsTrue, ◌==◌}
use Rattle.p2c_text.specs.declared.dialect.Dialect.{Dialect}
use Rattle.p2c_text.specs.declared.place.Span.{Span}
use Rattle.dialect_lexer.specs.declared.token.Word.TheVariants as word_
use Rattle.dialect_lexer.specs.declared.token.Symbol.TheVariants as mark
use Rattle.pascal_tree.specs.declared.names.Identifier.{Identifier}
use Rattle.pascal_tree.specs.declared.declarations.LabelPart.{LabelPart}
use Rattle.pascal_tree.specs.declared.declarations.ConstPart.{ConstPart}
use Rattle.pascal_tree.specs.declared.declarations.TypePart.{TypePart}
use Rattle.pascal_tree.specs.declared.declarations.VarPart.{VarPart}
use Rattle.pascal_tree.specs.declared.declarations.RoutineBody.{RoutineBody}
use Rattle.pascal_tree.specs.declared.declarations.RoutineBody.TheVariants as body
use Rattle.pascal_tree.specs.declared.declarations.Declaration.{Declaration}
use Rattle.pascal_tree.specs.declared.declarations.Declaration.TheVariants as declaration_
use Rattle.pascal_tree.specs.declared.declarations.Block.{Block}
use Rattle.pascal_tree.specs.declared.declarations.Routine.{Routine, out-Routine}
use Rattle.token_parsing.specs.Parser.{Parser, begins}
use Rattle.expr_parser.specs.Tokens.{Token, Placed, plain}
use Rattle.expr_parser.specs.Layout.{Layout, Done, ◌&◌, symbol, in_row, IsWritten}
use Rattle.expr_parser.specs.Writing.{identifier}
use Rattle.expr_parser.specs.Grammar.{all}
use Rattle.expr_parser.specs.Classes.{symbols, same_word}
use Rattle.expr_parser.specs.Expressions.{expr}
use Rattle.expr_parser.proofs.Layouts.{spell}
use Rattle.expr_parser.proofs.Followed.{on_first}
use Rattle.expr_parser.proofs.FollowedParts.{and_out, Part, part_as, part_first, part_second, part_left, part_right, part_inside}
use Rattle.expr_parser.proofs.Lookahead.{looks_name, looks_word, on_name, on_word, says_symbol}
use Rattle.expr_parser.proofs.Exact.{written_as, written_inside, written_plain, exact_then, exact_part, exact_token, exact_name, exact_made, exact_first, exact_second, looks_written}
use Rattle.expr_parser.proofs.ExactFactors.{expr_exact}
use Rattle.type_parser.specs.Levels.{type_node, formals}
use Rattle.type_parser.proofs.ExactFields.{type_exact}
use Rattle.type_parser.proofs.ExactFormals.{formals_exact}
use Rattle.unit_parser.specs.Writing.{write_labels, write_constants, write_types, write_variables, write_heading, write_declaration, write_body, write_block, write_routine}
use Rattle.unit_parser.specs.Grammar.{Judged, judged_declaration, formed_body, formed_block, formed_routine}
use Rattle.unit_parser.specs.Blocks.{routine_of, routine_body, routine, labels_declared, constants_declared, types_declared, variables_declared, routine_declared, declaration, next_declaration, declaration_words, any_declarations, routine_words, routines}
use Rattle.unit_parser.proofs.Views.{body_cases, declaration_cases, routine_is}
use Rattle.unit_parser.proofs.WrittenNodes.{write_declaration_labels, write_declaration_constants, write_declaration_types, write_declaration_variables, write_declaration_routine, write_body_block, write_body_directive}
use Rattle.unit_parser.proofs.FormedNodes.{judged_declaration_labels, judged_declaration_constants, judged_declaration_types, judged_declaration_variables, judged_declaration_routine, formed_body_block, formed_body_directive}
use Rattle.unit_parser.proofs.Beginnings.{on_declaration, on_routine, looks_declaration, looks_routine, opens_name, opens_declaration, opens_routine, Closed, closed_name, closed_declaration, closed_routine, place_of_labels, place_of_constants, place_of_types, place_of_variables, other_word, routine_written, routine_start, declaration_start}
use Rattle.unit_parser.proofs.Order.{place, formed_one, formed_routine_one, routine_place}
use Rattle.unit_parser.proofs.FollowedDeclarations.{routine_formed, block_first}
use Rattle.unit_parser.proofs.ExactRows.{row_ends, row_exact}
use Rattle.unit_parser.proofs.ExactParts.{label_part_exact, const_part_exact, type_part_exact, var_part_exact}
use Rattle.unit_parser.proofs.ExactHeadings.{heading_exact}

module _ (d : Dialect) (end : Span) (k : ℕ) where
  -- what it is to read the blocks that are written
  abbrev pub BlockExact : Parser Placed Block → Type 0
  BlockExact p = (x : Block) → Part (Unit {0}) k (write_block d x) (formed_block d x) → (s r : List Placed) → IsWritten end (write_block d x) s r → p s ≡ Ok (x, r)

module _ (d : Dialect) (end : Span) (k : ℕ) (inner : Parser Placed Block) (inner_good : BlockExact d end k inner) where
  -- ---- routines

  abbrev BodyRead : RoutineBody → Type 0
  BodyRead x = Part (Unit {0}) k (write_body d x) (formed_body d x) → (s r : List Placed) → IsWritten end (write_body d x) s r → routine_body inner s ≡ Ok (x, r)

  block_body : (b : Block) → BodyRead (body.Block b)
  unfolding routine_body
  block_body b part s r h0 =
      let h = written_as end s r (write_body_block d b) h0 in
      let (x, w, is, other) = block_first d b (plain r) in
      exact_second _ _ _ (looks_written looks_name end (write_block d b) s r h ∙ ap (on_first on_name) is ∙ other) (exact_then _ (inner_good b (part_as (write_body_block d b) (formed_body_block d b) part) s r h) refl)

  directive_body : (i : Identifier) → BodyRead (body.Directive i)
  unfolding routine_body
  directive_body i part s r h0 =
      let h = written_as end s r (write_body_directive d i) h0 in
      exact_first _ _ _ (looks_written looks_name end (identifier i) s r h) (exact_name _ i end Done s r h (λ m h. ap (λ z. Ok (body.Directive i, z)) h))

  body_exact : (x : RoutineBody) → BodyRead x
  body_exact x = body_cases BodyRead (record { block = block_body; directive = directive_body }) x

  routine_exact : (x : Routine) → Part (Unit {0}) k (write_routine d x) (formed_routine d x) → (s r : List Placed) → IsWritten end (write_routine d x) s r → routine end k inner s ≡ Ok (x, r)
  unfolding routine
  routine_exact x part s r h =
      let top = write_heading (out-Routine x).heading in let low = write_body d (out-Routine x).body in let close = symbol mark.Semicolon in
      let tail = symbol mark.Semicolon & low & close in
      let p = part_inside (top & tail) (part_as (routine_written d x) (routine_formed d x) part) in
      let q = part_left low close (part_right (symbol mark.Semicolon) (low & close) (part_second top tail _ _ p)) in
      let (place, inside) = written_inside end (out-Routine x).span (top & tail) s r (written_as end s r (routine_written d x) h) in
      exact_part _ (out-Routine x).heading end top tail s r inside (λ m left right. heading_exact end k (formals end k) (formals_exact end k) (out-Routine x).heading (part_first top tail _ _ p) s m left _ (written_plain end tail m r right)) (λ m h.
      exact_token _ (symbols mark.Semicolon) (says_symbol mark.Semicolon) end (low & close) m r h (λ m h.
      exact_part _ (out-Routine x).body end low close m r h (λ m' left right. body_exact (out-Routine x).body q m m' left) (λ m h.
      exact_token _ (symbols mark.Semicolon) (says_symbol mark.Semicolon) end Done m r h (λ m h. exact_made end (out-Routine x).span (routine_of (out-Routine x).heading (out-Routine x).body) s m r h (routine_is x) place))))

  -- ---- declarations

  abbrev DeclarationRead : Declaration → Type 0
  DeclarationRead x = Part (Unit {0}) k (write_declaration d x) (formed_one d x) → (s r : List Placed) → IsWritten end (write_declaration d x) s r → on_first on_name (plain r) ≡ false → declaration d end k inner s ≡ Ok (x, r)

  labels_read : (p : LabelPart) → DeclarationRead (declaration_.Labels p)
  unfolding declaration labels_declared same_word
  labels_read p part s r h0 closed =
      let h = written_as end s r (write_declaration_labels d p) h0 in
      let q = part_as (write_declaration_labels d p) (ap (λ (j : Judged). j.formed) (judged_declaration_labels d p)) part in
      exact_first _ _ _ (looks_written (looks_word word_.KwLabel) end (write_labels p) s r h) (exact_then _ (label_part_exact d end k p q s r h) refl)

  constants_read : (p : ConstPart) → DeclarationRead (declaration_.Constants p)
  unfolding declaration constants_declared same_word
  constants_read p part s r h0 closed =
      let h = written_as end s r (write_declaration_constants d p) h0 in
      let q = part_as (write_declaration_constants d p) (ap (λ (j : Judged). j.formed) (judged_declaration_constants d p)) part in
      exact_second _ _ _ (looks_written (looks_word word_.KwLabel) end (write_constants p) s r h) (exact_first _ _ _ (looks_written (looks_word word_.KwConst) end (write_constants p) s r h)
      (exact_then _ (const_part_exact d end k (expr d end k) (expr_exact d end k) p q s r h closed) refl))

  types_read : (p : TypePart) → DeclarationRead (declaration_.Types p)
  unfolding declaration types_declared same_word
  types_read p part s r h0 closed =
      let h = written_as end s r (write_declaration_types d p) h0 in
      let q = part_as (write_declaration_types d p) (ap (λ (j : Judged). j.formed) (judged_declaration_types d p)) part in
      exact_second _ _ _ (looks_written (looks_word word_.KwLabel) end (write_types p) s r h) (exact_second _ _ _ (looks_written (looks_word word_.KwConst) end (write_types p) s r h)
      (exact_first _ _ _ (looks_written (looks_word word_.KwType) end (write_types p) s r h) (exact_then _ (type_part_exact d end k (type_node d end k) (type_exact d end k) p q s r h closed) refl)))

  variables_read : (p : VarPart) → DeclarationRead (declaration_.Variables p)
  unfolding declaration variables_declared same_word
  variables_read p part s r h0 closed =
      let h = written_as end s r (write_declaration_variables d p) h0 in
      let q = part_as (write_declaration_variables d p) (ap (λ (j : Judged). j.formed) (judged_declaration_variables d p)) part in
      exact_second _ _ _ (looks_written (looks_word word_.KwLabel) end (write_variables p) s r h) (exact_second _ _ _ (looks_written (looks_word word_.KwConst) end (write_variables p) s r h)
      (exact_second _ _ _ (looks_written (looks_word word_.KwType) end (write_variables p) s r h) (exact_first _ _ _ (looks_written (looks_word word_.KwVar) end (write_variables p) s r h)
      (exact_then _ (var_part_exact d end k (type_node d end k) (type_exact d end k) p q s r h closed) refl))))

  routine_read : (p : Routine) → DeclarationRead (declaration_.Routine p)
  unfolding declaration routine_declared
  routine_read p part s r h0 closed =
      let h = written_as end s r (write_declaration_routine d p) h0 in
      let q = part_as (write_declaration_routine d p) (ap (λ (j : Judged). j.formed) (judged_declaration_routine d p)) part in
      let start = routine_start d p (plain r) in
      exact_second _ _ _ (looks_written (looks_word word_.KwLabel) end (write_routine d p) s r h ∙ ap (on_first (on_word word_.KwLabel)) start.is ∙ other_word place_of_labels start.opens (λ e. absurd cc))
      (exact_second _ _ _ (looks_written (looks_word word_.KwConst) end (write_routine d p) s r h ∙ ap (on_first (on_word word_.KwConst)) start.is ∙ other_word place_of_constants start.opens (λ e. absurd cc))
      (exact_second _ _ _ (looks_written (looks_word word_.KwType) end (write_routine d p) s r h ∙ ap (on_first (on_word word_.KwType)) start.is ∙ other_word place_of_types start.opens (λ e. absurd cc))
      (exact_second _ _ _ (looks_written (looks_word word_.KwVar) end (write_routine d p) s r h ∙ ap (on_first (on_word word_.KwVar)) start.is ∙ other_word place_of_variables start.opens (λ e. absurd cc))
      (exact_then _ (routine_exact p q s r h) refl))))

  pub declaration_exact : (x : Declaration) → DeclarationRead x
  declaration_exact x = declaration_cases DeclarationRead (record { labels = labels_read; constants = constants_read; types = types_read; variables = variables_read; routine = routine_read }) x

  -- ---- rows of declarations

  abbrev pub row : List Declaration → Layout
  row xs = in_row (map (write_declaration d) xs)

  no_name : (x : Declaration) (w : List Token) → on_first on_name (spell (write_declaration d x) w) ≡ false
  no_name x w = let start = declaration_start d x w in ap (on_first on_name) start.is ∙ opens_name start.opens

  declared_begins : (x : Declaration) → IsTrue (formed_one d x) → (w : List Token) → on_first on_declaration (spell (write_declaration d x) w) ≡ true
  declared_begins x ok w = let start = declaration_start d x w in ap (on_first on_declaration) start.is ∙ opens_declaration start.opens

  routine_begins : (x : Declaration) → IsTrue (formed_routine_one d x) → (w : List Token) → on_first on_routine (spell (write_declaration d x) w) ≡ true
  routine_begins x ok w = let start = declaration_start d x w in ap (on_first on_routine) start.is ∙ opens_routine start.opens (routine_place d x ok)

  pub row_no_name : (xs : List Declaration) (s r : List Placed) → IsWritten end (row xs) s r → on_first on_name (plain r) ≡ false → on_first on_name (plain s) ≡ false
  row_no_name xs s r h ends =
      row_ends end k (write_declaration d) (formed_one d) (declaration d end k inner) (begins declaration_words) on_declaration looks_declaration declared_begins (λ w. on_first on_name w ≡ false) no_name xs s r h ends

  pub any_exact : (xs : List Declaration) → Part (Unit {0}) k (row xs) (all (map (formed_one d) xs)) → (s r : List Placed) → IsWritten end (row xs) s r → Closed (plain r) → any_declarations d end k inner [] s ≡ Ok (xs, r)
  unfolding any_declarations next_declaration
  any_exact xs part s r h closed =
      row_exact end k (write_declaration d) (formed_one d) (declaration d end k inner) (begins declaration_words) on_declaration looks_declaration declared_begins (λ w. on_first on_name w ≡ false) no_name
      declaration_exact xs part [] s r h (closed_name closed) (closed_declaration closed)

  pub routines_exact : (xs : List Declaration) → Part (Unit {0}) k (row xs) (all (map (formed_routine_one d) xs)) → (found : List Declaration) (s r : List Placed) → IsWritten end (row xs) s r → Closed (plain r) → routines d end k inner found s ≡ Ok (found ++ xs, r)
  unfolding routines next_declaration
  routines_exact xs part found s r h closed =
      row_exact end k (write_declaration d) (formed_routine_one d) (declaration d end k inner) (begins routine_words) on_routine looks_routine routine_begins (λ w. on_first on_name w ≡ false) no_name
      (λ x q s r h ends. declaration_exact x (record { formed = (and_out (formed_one d x) (place d x == 4) q.formed).0; fits = q.fits }) s r h ends) xs part found s r h (closed_name closed) (closed_routine closed)
