-- Routines and declarations of a text are followed.
use Rattle.std.proofs.Common.{◌≡◌, ℕ, Bool, true, false, ◌&&◌, List, [], ◌∷◌, length, map, None, refl, sym, ap, subst, ◌∙◌}
use Rattle.std.specs.Prelude.{IsTrue}
use Rattle.p2c_text.specs.declared.dialect.Dialect.{Dialect}
use Rattle.p2c_text.specs.declared.place.Span.{Span}
use Rattle.dialect_lexer.specs.declared.token.Word.{Word as WordSymbol}
use Rattle.dialect_lexer.specs.declared.token.Word.TheVariants as word_
use Rattle.dialect_lexer.specs.declared.token.Symbol.TheVariants as mark
use Rattle.pascal_tree.specs.declared.names.Identifier.{Identifier}
use Rattle.pascal_tree.specs.declared.declarations.Formals.{Formals}
use Rattle.pascal_tree.specs.declared.declarations.LabelPart.{LabelPart}
use Rattle.pascal_tree.specs.declared.declarations.ConstPart.{ConstPart}
use Rattle.pascal_tree.specs.declared.declarations.TypePart.{TypePart}
use Rattle.pascal_tree.specs.declared.declarations.VarPart.{VarPart}
use Rattle.pascal_tree.specs.declared.declarations.RoutineBody.{RoutineBody}
use Rattle.pascal_tree.specs.declared.declarations.RoutineBody.TheVariants as body
use Rattle.pascal_tree.specs.declared.declarations.Declaration.{Declaration}
use Rattle.pascal_tree.specs.declared.declarations.Declaration.TheVariants as declaration_
use Rattle.pascal_tree.specs.declared.declarations.Block.{Block, out-Block}
use Rattle.pascal_tree.specs.declared.declarations.Routine.{Routine, out-Routine}
use Rattle.token_parsing.specs.Parser.{Outcome, Parser, begins, is_some}
use Rattle.token_parsing.proofs.Tracked.{Shorter, Shrinks, Takes, one_shrinks, then_shrinks, pure_shrinks, short_then, takes_token, takes_then, takes_either}
use Rattle.expr_parser.specs.Tokens.{Token, Placed, Name, Number, Text, Word, Symbol}
use Rattle.expr_parser.specs.Layout.{Layout, ◌&◌, word, symbol, spanned, counted, in_row}
use Rattle.expr_parser.specs.Grammar.{all}
use Rattle.expr_parser.specs.Classes.{identifiers, words, symbols, operator_of, same_word}
use Rattle.expr_parser.specs.Expressions.{expr}
use Rattle.expr_parser.proofs.Layouts.{spell, spell_join}
use Rattle.expr_parser.proofs.Shrinks.{expr_shrinks}
use Rattle.expr_parser.proofs.Followed.{Until, Along, Followed, on_first, Begun, follow_then, follow_pure, follow_token, follow_first, follow_second, begun_token, looks_at}
use Rattle.expr_parser.proofs.FollowedParts.{Part, part_as, part_first, part_second, part_left, part_right, part_inside, along_as}
use Rattle.expr_parser.proofs.FollowedFactors.{expr_followed}
use Rattle.expr_parser.proofs.Lookahead.{looks_name, looks_word, on_name, on_word, accepts_name, accepts_symbol}
use Rattle.type_parser.specs.Levels.{type_node, formals}
use Rattle.type_parser.proofs.Shrinks.{type_shrinks, formals_shrinks, optional_formals_shrinks}
use Rattle.type_parser.proofs.FollowedFields.{type_followed}
use Rattle.type_parser.proofs.FollowedFormals.{formals_followed}
use Rattle.unit_parser.specs.Writing.{write_stmts, write_heading, write_declaration, write_body, write_block, write_routine}
use Rattle.unit_parser.specs.Grammar.{Judged, judged_declaration, formed_heading, formed_body, formed_block, formed_routine, formed_declarations, formed_stmts}
use Rattle.unit_parser.specs.Parts.{label_part, const_part, type_part, var_part, procedure_heading, function_heading, heading}
use Rattle.unit_parser.specs.Blocks.{routine_body, routine, labels_declared, constants_declared, types_declared, variables_declared, routine_declared, declaration, next_declaration, declaration_word_of, routine_word_of, declaration_words, routine_words, any_declarations, routines}
use Rattle.unit_parser.proofs.Views.{block_is, body_cases, declaration_cases, routine_is}
use Rattle.unit_parser.proofs.WrittenNodes.{write_declaration_labels, write_declaration_constants, write_declaration_types, write_declaration_variables, write_declaration_routine, write_body_block, write_body_directive, write_block_of}
use Rattle.unit_parser.proofs.FormedNodes.{judged_declaration_labels, judged_declaration_constants, judged_declaration_types, judged_declaration_variables, judged_declaration_routine, formed_body_block, formed_body_directive, formed_block_of, formed_routine_of}
use Rattle.unit_parser.proofs.Shrinks.{labels_shrinks, next_const_definition_shrinks, const_definitions_shrinks, next_type_definition_shrinks, type_definitions_shrinks, next_var_section_shrinks, var_sections_shrinks, optional_result_shrinks, routine_body_shrinks, declaration_shrinks}
use Rattle.unit_parser.proofs.FollowedRows.{row_followed}
use Rattle.unit_parser.proofs.FollowedParts.{label_part_followed, const_part_followed, type_part_followed, var_part_followed}
use Rattle.unit_parser.proofs.FollowedHeadings.{heading_followed}
use Rattle.unit_parser.proofs.Beginnings.{on_declaration, on_routine, looks_declaration, looks_routine, opens_name, opens_declaration, Closed, closed_name, closed_declaration, place_of_labels, place_of_constants, place_of_types, place_of_variables, other_word, routine_written, routine_start, declaration_start}

-- ---- what begins with a word takes it

pub chosen : {A : Type 0} {m : ℕ} (b : Bool) {o o' : Outcome Placed A} → (b ≡ true → Shorter m 0 o) → (b ≡ false → Shorter m 0 o') → Shorter m 0 (elim b [ true ↦ o | false ↦ o' ])
chosen true h k = h refl
chosen false h k = k refl

last_word_is : (w : WordSymbol) → is_some (declaration_word_of w) ≡ true → on_word word_.KwLabel (Word w) ≡ false → on_word word_.KwConst (Word w) ≡ false → on_word word_.KwType (Word w) ≡ false → on_word word_.KwVar (Word w) ≡ false → is_some (routine_word_of w) ≡ true
unfolding same_word
last_word_is word_.KwLabel e a b c f = absurd cc
last_word_is word_.KwConst e a b c f = absurd cc
last_word_is word_.KwType e a b c f = absurd cc
last_word_is word_.KwVar e a b c f = absurd cc
last_word_is word_.KwProcedure e a b c f = refl
last_word_is word_.KwFunction e a b c f = refl
last_word_is _ e a b c f = absurd cc

last_token_is : (x : Token) → on_declaration x ≡ true → on_word word_.KwLabel x ≡ false → on_word word_.KwConst x ≡ false → on_word word_.KwType x ≡ false → on_word word_.KwVar x ≡ false → on_routine x ≡ true
last_token_is (Word w) e a b c f = last_word_is w e a b c f
last_token_is (Name n) e a b c f = absurd cc
last_token_is (Number v) e a b c f = absurd cc
last_token_is (Text bs) e a b c f = absurd cc
last_token_is (Symbol s) e a b c f = absurd cc

pub last_is : (s : List Placed) → begins declaration_words s ≡ true → begins (words word_.KwLabel) s ≡ false → begins (words word_.KwConst) s ≡ false → begins (words word_.KwType) s ≡ false → begins (words word_.KwVar) s ≡ false → begins routine_words s ≡ true
unfolding begins
last_is [] e a b c f = absurd cc
last_is (t ∷ s) e a b c f = last_token_is t.token e a b c f

procedure_word_is : (w : WordSymbol) → is_some (routine_word_of w) ≡ true → on_word word_.KwFunction (Word w) ≡ false → on_word word_.KwProcedure (Word w) ≡ true
unfolding same_word
procedure_word_is word_.KwProcedure e a = refl
procedure_word_is word_.KwFunction e a = absurd cc
procedure_word_is _ e a = absurd cc

procedure_token_is : (x : Token) → on_routine x ≡ true → on_word word_.KwFunction x ≡ false → on_word word_.KwProcedure x ≡ true
procedure_token_is (Word w) e a = procedure_word_is w e a
procedure_token_is (Name n) e a = absurd cc
procedure_token_is (Number v) e a = absurd cc
procedure_token_is (Text bs) e a = absurd cc
procedure_token_is (Symbol s) e a = absurd cc

pub procedure_is : (s : List Placed) → begins routine_words s ≡ true → begins (words word_.KwFunction) s ≡ false → begins (words word_.KwProcedure) s ≡ true
unfolding begins
procedure_is [] e a = absurd cc
procedure_is (t ∷ s) e a = procedure_token_is t.token e a

routine_declared_is : (w : WordSymbol) → is_some (routine_word_of w) ≡ true → is_some (declaration_word_of w) ≡ true
routine_declared_is word_.KwProcedure e = refl
routine_declared_is word_.KwFunction e = refl
routine_declared_is _ e = absurd cc

routine_token_is : (x : Token) → on_routine x ≡ true → on_declaration x ≡ true
routine_token_is (Word w) e = routine_declared_is w e
routine_token_is (Name n) e = absurd cc
routine_token_is (Number v) e = absurd cc
routine_token_is (Text bs) e = absurd cc
routine_token_is (Symbol s) e = absurd cc

routine_word_is : (s : List Placed) → begins routine_words s ≡ true → begins declaration_words s ≡ true
unfolding begins
routine_word_is [] e = absurd cc
routine_word_is (t ∷ s) e = routine_token_is t.token e

module _ (d : Dialect) (end : Span) where
  module _ (child : Parser Placed Formals) (shrinks : Shrinks child) where
    pub heading_begun : Begun (begins routine_words) (heading end child)
    unfolding heading procedure_heading function_heading
    heading_begun s e = chosen (begins (words word_.KwFunction) s)
        (λ test. begun_token (words word_.KwFunction) s test (λ _. then_shrinks (one_shrinks _) (λ x. then_shrinks (optional_formals_shrinks end child shrinks) (λ f. then_shrinks (optional_result_shrinks d end child shrinks) (λ t. λ n r k. pure_shrinks _ n r k)))))
        (λ test. begun_token (words word_.KwProcedure) s (procedure_is s e test) (λ _. then_shrinks (one_shrinks _) (λ x. then_shrinks (optional_formals_shrinks end child shrinks) (λ f. λ n r k. pure_shrinks _ n r k))))

    pub heading_takes : (s : List Placed) → Takes (length s) (heading end child s)
    unfolding heading procedure_heading function_heading
    heading_takes s = takes_either (length s) (begins (words word_.KwFunction) s) _ _
        (takes_token (words word_.KwFunction) s (λ _. then_shrinks (one_shrinks _) (λ x. then_shrinks (optional_formals_shrinks end child shrinks) (λ f. then_shrinks (optional_result_shrinks d end child shrinks) (λ t. λ n r k. pure_shrinks _ n r k)))))
        (takes_token (words word_.KwProcedure) s (λ _. then_shrinks (one_shrinks _) (λ x. then_shrinks (optional_formals_shrinks end child shrinks) (λ f. λ n r k. pure_shrinks _ n r k))))

  pub label_part_begun : Begun (begins (words word_.KwLabel)) (label_part d end)
  unfolding label_part
  label_part_begun s e = begun_token (words word_.KwLabel) s e (λ _. then_shrinks (labels_shrinks d end) (λ all. then_shrinks (one_shrinks _) (λ u. λ n r k. pure_shrinks _ n r k)))

  pub label_part_takes : (s : List Placed) → Takes (length s) (label_part d end s)
  unfolding label_part
  label_part_takes s = takes_token (words word_.KwLabel) s (λ _. then_shrinks (labels_shrinks d end) (λ all. then_shrinks (one_shrinks _) (λ u. λ n r k. pure_shrinks _ n r k)))

  module _ (k : ℕ) where
    pub const_part_begun : Begun (begins (words word_.KwConst)) (const_part d end (expr d end k))
    unfolding const_part
    const_part_begun s e = begun_token (words word_.KwConst) s e (λ _. then_shrinks (next_const_definition_shrinks d end (expr d end k) (expr_shrinks d end k) []) (λ x. then_shrinks (const_definitions_shrinks d end (expr d end k) (expr_shrinks d end k) x) (λ all. λ n r k. pure_shrinks _ n r k)))

    pub const_part_takes : (s : List Placed) → Takes (length s) (const_part d end (expr d end k) s)
    unfolding const_part
    const_part_takes s = takes_token (words word_.KwConst) s (λ _. then_shrinks (next_const_definition_shrinks d end (expr d end k) (expr_shrinks d end k) []) (λ x. then_shrinks (const_definitions_shrinks d end (expr d end k) (expr_shrinks d end k) x) (λ all. λ n r k. pure_shrinks _ n r k)))

    pub type_part_begun : Begun (begins (words word_.KwType)) (type_part end (type_node d end k))
    unfolding type_part
    type_part_begun s e = begun_token (words word_.KwType) s e (λ _. then_shrinks (next_type_definition_shrinks d end (type_node d end k) (type_shrinks d end k) []) (λ x. then_shrinks (type_definitions_shrinks d end (type_node d end k) (type_shrinks d end k) x) (λ all. λ n r k. pure_shrinks _ n r k)))

    pub type_part_takes : (s : List Placed) → Takes (length s) (type_part end (type_node d end k) s)
    unfolding type_part
    type_part_takes s = takes_token (words word_.KwType) s (λ _. then_shrinks (next_type_definition_shrinks d end (type_node d end k) (type_shrinks d end k) []) (λ x. then_shrinks (type_definitions_shrinks d end (type_node d end k) (type_shrinks d end k) x) (λ all. λ n r k. pure_shrinks _ n r k)))

    pub var_part_begun : Begun (begins (words word_.KwVar)) (var_part end (type_node d end k))
    unfolding var_part
    var_part_begun s e = begun_token (words word_.KwVar) s e (λ _. then_shrinks (next_var_section_shrinks d end (type_node d end k) (type_shrinks d end k) []) (λ x. then_shrinks (var_sections_shrinks d end (type_node d end k) (type_shrinks d end k) x) (λ all. λ n r k. pure_shrinks _ n r k)))

    pub var_part_takes : (s : List Placed) → Takes (length s) (var_part end (type_node d end k) s)
    unfolding var_part
    var_part_takes s = takes_token (words word_.KwVar) s (λ _. then_shrinks (next_var_section_shrinks d end (type_node d end k) (type_shrinks d end k) []) (λ x. then_shrinks (var_sections_shrinks d end (type_node d end k) (type_shrinks d end k) x) (λ all. λ n r k. pure_shrinks _ n r k)))

    module _ (inner : Parser Placed Block) (inner_shrinks : Shrinks inner) where
      pub declaration_begun : Begun (begins declaration_words) (declaration d end k inner)
      unfolding declaration labels_declared constants_declared types_declared variables_declared routine_declared routine
      declaration_begun s e =
          chosen (begins (words word_.KwLabel) s) (λ test. short_then (label_part_begun s test) (λ p. pure_shrinks _)) (λ a.
          chosen (begins (words word_.KwConst) s) (λ test. short_then (const_part_begun s test) (λ p. pure_shrinks _)) (λ b.
          chosen (begins (words word_.KwType) s) (λ test. short_then (type_part_begun s test) (λ p. pure_shrinks _)) (λ c.
          chosen (begins (words word_.KwVar) s) (λ test. short_then (var_part_begun s test) (λ p. pure_shrinks _)) (λ f.
          short_then (short_then (heading_begun (formals end k) (formals_shrinks end k) s (last_is s e a b c f))
          (λ x. then_shrinks (one_shrinks _) (λ _. then_shrinks (routine_body_shrinks d end k inner inner_shrinks) (λ b. then_shrinks (one_shrinks _) (λ u. λ m r k. pure_shrinks _ m r k))))) (λ r. pure_shrinks _)))))

      pub routine_begun : Begun (begins routine_words) (declaration d end k inner)
      routine_begun s e = declaration_begun s (routine_word_is s e)

      pub declaration_takes : (s : List Placed) → Takes (length s) (declaration d end k inner s)
      unfolding declaration labels_declared constants_declared types_declared variables_declared routine_declared routine
      declaration_takes s =
          takes_either (length s) (begins (words word_.KwLabel) s) _ _ (takes_then (length s) _ (label_part_takes s) (λ p. pure_shrinks _))
          (takes_either (length s) (begins (words word_.KwConst) s) _ _ (takes_then (length s) _ (const_part_takes s) (λ p. pure_shrinks _))
          (takes_either (length s) (begins (words word_.KwType) s) _ _ (takes_then (length s) _ (type_part_takes s) (λ p. pure_shrinks _))
          (takes_either (length s) (begins (words word_.KwVar) s) _ _ (takes_then (length s) _ (var_part_takes s) (λ p. pure_shrinks _))
          (takes_then (length s) _ (takes_then (length s) _ (heading_takes (formals end k) (formals_shrinks end k) s)
          (λ x. then_shrinks (one_shrinks _) (λ _. then_shrinks (routine_body_shrinks d end k inner inner_shrinks) (λ b. then_shrinks (one_shrinks _) (λ u. λ m r k. pure_shrinks _ m r k))))) (λ r. pure_shrinks _)))))

-- ---- blocks and their parts, as they are written

pub block_written : (d : Dialect) (x : Block) → write_block d x ≡ counted (spanned (out-Block x).span (in_row (map (write_declaration d) (out-Block x).declarations) & word word_.KwBegin & write_stmts d (out-Block x).body & word word_.KwEnd))
block_written d x = ap (λ y. write_block d y) (block_is x) ∙ write_block_of d (out-Block x).declarations (out-Block x).body (out-Block x).span

pub block_formed : (d : Dialect) (x : Block) → formed_block d x ≡ (formed_declarations d (map (judged_declaration d) (out-Block x).declarations) && formed_stmts d (out-Block x).body)
block_formed d x = ap (λ y. formed_block d y) (block_is x) ∙ formed_block_of d (out-Block x).declarations (out-Block x).body (out-Block x).span

pub routine_formed : (d : Dialect) (x : Routine) → formed_routine d x ≡ (formed_heading (out-Routine x).heading && formed_body d (out-Routine x).body)
routine_formed d x = ap (λ y. formed_routine d y) (routine_is x) ∙ formed_routine_of d (out-Routine x).heading (out-Routine x).body (out-Routine x).span

-- a block begins with no name
no_name_first : (d : Dialect) (xs : List Declaration) (tail : Layout) (rest : List Token) → (x : Token) × (w : List Token) × (spell (in_row (map (write_declaration d) xs) & word word_.KwBegin & tail) rest ≡ x ∷ w) × (on_name x ≡ false)
no_name_first d [] tail rest = (Word word_.KwBegin, spell tail rest, refl, refl)
no_name_first d (y ∷ ys) tail rest =
    let others = in_row (map (write_declaration d) ys) in let more = word word_.KwBegin & tail in
    let start = declaration_start d y (spell others (spell more rest)) in
    (start.token, start.more, spell_join (write_declaration d y & others) more rest ∙ spell_join (write_declaration d y) others (spell more rest) ∙ start.is, opens_name start.opens)

pub block_first : (d : Dialect) (x : Block) (rest : List Token) → (y : Token) × (w : List Token) × (spell (write_block d x) rest ≡ y ∷ w) × (on_name y ≡ false)
block_first d x rest =
    let (y, w, is, other) = no_name_first d (out-Block x).declarations (write_stmts d (out-Block x).body & word word_.KwEnd) rest in
    (y, w, ap (λ l. spell l rest) (block_written d x) ∙ is, other)

module _ (n : Until) (W : Type 0) (d : Dialect) (k : ℕ) where
  -- what it is to follow blocks
  abbrev pub BlockFollowed : Parser Placed Block → Type 0
  BlockFollowed p = (x : Block) → Part W k (write_block d x) (formed_block d x) → (rest : List Token) (s : List Placed) → Along n (spell (write_block d x) rest) s → Followed n W rest (p s)

module _ (n : Until) (W : Type 0) (d : Dialect) (end : Span) (k : ℕ) (inner : Parser Placed Block) (inner_shrinks : Shrinks inner) (inner_good : BlockFollowed n W d k inner) where
  -- ---- routines

  abbrev BodyLaw : RoutineBody → Type 0
  BodyLaw x = Part W k (write_body d x) (formed_body d x) → (rest : List Token) (s : List Placed) → Along n (spell (write_body d x) rest) s → Followed n W rest (routine_body inner s)

  block_body : (b : Block) → BodyLaw (body.Block b)
  unfolding routine_body
  block_body b part rest s h0 =
      let h = along_as (ap (λ l. spell l rest) (write_body_block d b)) h0 in
      let (x, w, is, other) = block_first d b rest in
      follow_second _ _ _ (looks_at looks_name (along_as is h) ∙ other) (follow_then (inner_good b (part_as (write_body_block d b) (formed_body_block d b) part) rest s h) (λ x. pure_shrinks _) (λ x r h. follow_pure _ h))

  directive_body : (i : Identifier) → BodyLaw (body.Directive i)
  unfolding routine_body
  directive_body i part rest s h0 =
      let h = along_as (ap (λ l. spell l rest) (write_body_directive d i)) h0 in
      follow_first _ _ _ (looks_at looks_name h) (follow_token identifiers (accepts_name i.name) h (λ x. pure_shrinks _) (λ x r h. follow_pure _ h))

  body_followed : (x : RoutineBody) → BodyLaw x
  body_followed x = body_cases BodyLaw (record { block = block_body; directive = directive_body }) x

  routine_followed : (x : Routine) → Part W k (write_routine d x) (formed_routine d x) → (rest : List Token) (s : List Placed) → Along n (spell (write_routine d x) rest) s → Followed n W rest (routine end k inner s)
  unfolding routine
  routine_followed x part rest s h =
      let top = write_heading (out-Routine x).heading in let low = write_body d (out-Routine x).body in
      let tail = symbol mark.Semicolon & low & symbol mark.Semicolon in
      let p = part_inside (top & tail) (part_as (routine_written d x) (routine_formed d x) part) in
      let q = part_left low (symbol mark.Semicolon) (part_right (symbol mark.Semicolon) (low & symbol mark.Semicolon) (part_second top tail _ _ p)) in
      follow_then (heading_followed n W end k (formals end k) (formals_shrinks end k) (formals_followed n W end k) (out-Routine x).heading (part_first top tail _ _ p) (spell low (Symbol mark.Semicolon ∷ rest)) s
      (along_as (ap (λ l. spell l rest) (routine_written d x) ∙ spell_join top tail rest ∙ ap (λ w. spell top (Symbol mark.Semicolon ∷ w)) (spell_join low (symbol mark.Semicolon) rest)) h))
      (λ y. then_shrinks (one_shrinks _) (λ _. then_shrinks (routine_body_shrinks d end k inner inner_shrinks) (λ b. then_shrinks (one_shrinks _) (λ u. λ m r k. pure_shrinks _ m r k)))) (λ y r h.
      follow_token (symbols mark.Semicolon) (accepts_symbol mark.Semicolon) h (λ _. then_shrinks (routine_body_shrinks d end k inner inner_shrinks) (λ b. then_shrinks (one_shrinks _) (λ u. λ m r k. pure_shrinks _ m r k))) (λ _ r h.
      follow_then (body_followed (out-Routine x).body q (Symbol mark.Semicolon ∷ rest) r h) (λ b. then_shrinks (one_shrinks _) (λ u. λ m r k. pure_shrinks _ m r k)) (λ b r h.
      follow_token (symbols mark.Semicolon) (accepts_symbol mark.Semicolon) h (λ u. λ m r k. pure_shrinks _ m r k) (λ _ r h. follow_pure _ h))))

  -- ---- declarations

  abbrev DeclarationLaw : Declaration → Type 0
  DeclarationLaw x = Part W k (write_declaration d x) (judged_declaration d x).formed → (rest : List Token) → on_first on_name rest ≡ false → (s : List Placed) → Along n (spell (write_declaration d x) rest) s → Followed n W rest (declaration d end k inner s)

  labels_law : (p : LabelPart) → DeclarationLaw (declaration_.Labels p)
  unfolding declaration labels_declared same_word
  labels_law p part rest closed s h0 =
      let h = along_as (ap (λ l. spell l rest) (write_declaration_labels d p)) h0 in
      let q = part_as (write_declaration_labels d p) (ap (λ (j : Judged). j.formed) (judged_declaration_labels d p)) part in
      follow_first _ _ _ (looks_at (looks_word word_.KwLabel) h) (follow_then (label_part_followed n W d end k p q rest s h) (λ x. pure_shrinks _) (λ x r h. follow_pure _ h))

  constants_law : (p : ConstPart) → DeclarationLaw (declaration_.Constants p)
  unfolding declaration constants_declared same_word
  constants_law p part rest closed s h0 =
      let h = along_as (ap (λ l. spell l rest) (write_declaration_constants d p)) h0 in
      let q = part_as (write_declaration_constants d p) (ap (λ (j : Judged). j.formed) (judged_declaration_constants d p)) part in
      follow_second _ _ _ (looks_at (looks_word word_.KwLabel) h) (follow_first _ _ _ (looks_at (looks_word word_.KwConst) h)
      (follow_then (const_part_followed n W d end k (expr d end k) (expr_shrinks d end k) (expr_followed n W d end k) p q rest closed s h) (λ x. pure_shrinks _) (λ x r h. follow_pure _ h)))

  types_law : (p : TypePart) → DeclarationLaw (declaration_.Types p)
  unfolding declaration types_declared same_word
  types_law p part rest closed s h0 =
      let h = along_as (ap (λ l. spell l rest) (write_declaration_types d p)) h0 in
      let q = part_as (write_declaration_types d p) (ap (λ (j : Judged). j.formed) (judged_declaration_types d p)) part in
      follow_second _ _ _ (looks_at (looks_word word_.KwLabel) h) (follow_second _ _ _ (looks_at (looks_word word_.KwConst) h) (follow_first _ _ _ (looks_at (looks_word word_.KwType) h)
      (follow_then (type_part_followed n W d end k (type_node d end k) (type_shrinks d end k) (type_followed n W d end k) p q rest closed s h) (λ x. pure_shrinks _) (λ x r h. follow_pure _ h))))

  variables_law : (p : VarPart) → DeclarationLaw (declaration_.Variables p)
  unfolding declaration variables_declared same_word
  variables_law p part rest closed s h0 =
      let h = along_as (ap (λ l. spell l rest) (write_declaration_variables d p)) h0 in
      let q = part_as (write_declaration_variables d p) (ap (λ (j : Judged). j.formed) (judged_declaration_variables d p)) part in
      follow_second _ _ _ (looks_at (looks_word word_.KwLabel) h) (follow_second _ _ _ (looks_at (looks_word word_.KwConst) h) (follow_second _ _ _ (looks_at (looks_word word_.KwType) h) (follow_first _ _ _ (looks_at (looks_word word_.KwVar) h)
      (follow_then (var_part_followed n W d end k (type_node d end k) (type_shrinks d end k) (type_followed n W d end k) p q rest closed s h) (λ x. pure_shrinks _) (λ x r h. follow_pure _ h)))))

  routine_law : (p : Routine) → DeclarationLaw (declaration_.Routine p)
  unfolding declaration routine_declared
  routine_law p part rest closed s h0 =
      let h = along_as (ap (λ l. spell l rest) (write_declaration_routine d p)) h0 in
      let q = part_as (write_declaration_routine d p) (ap (λ (j : Judged). j.formed) (judged_declaration_routine d p)) part in
      let start = routine_start d p rest in
      let first = along_as start.is h in
      follow_second _ _ _ (looks_at (looks_word word_.KwLabel) first ∙ other_word place_of_labels start.opens (λ e. absurd cc)) (follow_second _ _ _ (looks_at (looks_word word_.KwConst) first ∙ other_word place_of_constants start.opens (λ e. absurd cc))
      (follow_second _ _ _ (looks_at (looks_word word_.KwType) first ∙ other_word place_of_types start.opens (λ e. absurd cc)) (follow_second _ _ _ (looks_at (looks_word word_.KwVar) first ∙ other_word place_of_variables start.opens (λ e. absurd cc))
      (follow_then (routine_followed p q rest s h) (λ x. pure_shrinks _) (λ x r h. follow_pure _ h)))))

  pub declaration_followed : (x : Declaration) → Part W k (write_declaration d x) (judged_declaration d x).formed → (rest : List Token) → on_first on_name rest ≡ false → (s : List Placed) → Along n (spell (write_declaration d x) rest) s
      → Followed n W rest (declaration d end k inner s)
  declaration_followed x = declaration_cases DeclarationLaw (record { labels = labels_law; constants = constants_law; types = types_law; variables = variables_law; routine = routine_law }) x

  -- ---- rows of declarations

  abbrev formed_one : Declaration → Bool
  formed_one x = (judged_declaration d x).formed

  pub any_followed : (xs : List Declaration) → Part W k (in_row (map (write_declaration d) xs)) (all (map formed_one xs)) → (rest : List Token) → Closed rest → (s : List Placed) → Along n (spell (in_row (map (write_declaration d) xs)) rest) s
      → Followed n W rest (any_declarations d end k inner [] s)
  unfolding any_declarations next_declaration
  any_followed xs part rest closed s h =
      row_followed n W k (write_declaration d) formed_one (declaration d end k inner) (declaration_shrinks d end k inner inner_shrinks) (declaration_takes d end k inner inner_shrinks) (begins declaration_words) on_declaration looks_declaration
      (declaration_begun d end k inner inner_shrinks) (λ x ok rest. let start = declaration_start d x rest in (start.token, start.more, start.is, opens_declaration start.opens))
      (λ w. on_first on_name w ≡ false) (λ x ok rest. let start = declaration_start d x rest in subst (λ w. on_first on_name w ≡ false) (sym start.is) (opens_name start.opens)) declaration_followed xs part rest (closed_name closed) (closed_declaration closed) [] s h
