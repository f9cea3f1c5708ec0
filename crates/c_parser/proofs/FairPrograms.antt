-- Declarations and programs that are read.
use Rattle.std.proofs.Common.{◌≡◌, ◌≢◌, ℕ, ◌+◌, ◌≤◌, List, [], ◌∷◌, ◌++◌, Option, Some, None, Ok, refl, sym, ap, subst, ◌∙◌, arith}
use Rattle.std.specs.List.{AllByRecursion}
use Rattle.std.specs.Option.{IfSome}
use Rattle.std.proofs.lemmas.List.{append-nil}
use Rattle.c_tree.specs.Tree.{ObjectType, Struct, Statement, body_of, list_of, body_of-list_of}
use Rattle.c_tree.specs.declared.program.CVariable.{CVariable}
use Rattle.c_tree.specs.declared.program.CMember.{CMember}
use Rattle.c_tree.specs.declared.program.CDeclaration.TheVariants as declared
use Rattle.c_tree.specs.declared.program.CFunction.{CFunction}
use Rattle.c_tree.specs.declared.program.CMain.{CMain}
use Rattle.c_tree.specs.declared.program.CProgram.{CProgram}
use Rattle.c_grammar.specs.declared.token.Word.TheVariants as word
use Rattle.c_grammar.specs.declared.token.Mark.TheVariants as mark
use Rattle.c_grammar.specs.Token.{Token, Identifier, Numeral, Quoted, Sign}
use Rattle.c_grammar.specs.Spelling.{Spelling, count, spell_all, spell_next, spell_listed, spell_or_void, spell_type, spell_result, spell_body, spell_variable, spell_variable_line, spell_length, spell_member, spell_typedef, spell_parameters, spell_block, spell_function, spell_main, program_tokens}
use Rattle.c_grammar.specs.Grammar.{IsName, IsNumber, IsObjectType, IsBody, IsVariable, IsMember, IsTypedef, IsDeclaration, IsPrototype, IsFunction, IsMain, IsProgram}
use Rattle.c_grammar.specs.Seen.{AreTokens}
use Rattle.c_grammar.specs.Types.{Known}
use Rattle.c_grammar.specs.Demands.{Names, and_variables, own_labels, block_demands, body_demands}
use Rattle.c_grammar.specs.Text.{Begins}
use Rattle.c_grammar.proofs.Spelled.{count_more}
use Rattle.c_grammar.proofs.SpelledProgram.{or_void_follow, result_follow, variable_follow}
use Rattle.token_parsing.specs.Parser.{Parser, and_then, begins, repeat}
use Rattle.token_parsing.proofs.Fair.{At, reads, at_first, at_token, at_same, fair_then, fair_either, fair_repeat, fair_so, fair_token, fair_refuse}
use Rattle.c_parser.specs.declared.program.Parts.{Parts}
use Rattle.c_expr_parser.specs.Classes.{numbers, marks, words, expect}
use Rattle.c_expr_parser.specs.Types.{object_type}
use Rattle.c_expr_parser.specs.Expressions.{largest_int, expr}
use Rattle.c_parser.specs.Statements.{no_brace, statement}
use Rattle.c_parser.specs.Programs.{variable_of, variable, array_length, member_of, member, next_member, members, next_type, types_after, types, typedef_of, pointer_name, typedef, next_parameter, parameters_after, parameters, begins_local, next_local, locals, block, no_functions, no_prototypes, no_globals, no_declarations, with_forward, with_declaration, with_global, with_prototype, with_function, forward, struct_of, structure, type_definition, global, prototype_of, prototype, function_of, function, after_parameters, after_name, after_result, after_struct_name, after_struct, next_part, no_int, no_parts, parts, main_of, main, program_of, end_of, program}
use Rattle.c_expr_parser.specs.Depth.{body_depth, Fits}
use Rattle.c_expr_parser.proofs.FairTokens.{FairC, mark_fair, word_fair, name_fair, number_is, number_most, a_name, a_name_is}
use Rattle.c_expr_parser.proofs.FairTypes.{type_fair, stars_fair, result_fair}
use Rattle.c_expr_parser.proofs.FairExpressions.{expr_fair}
use Rattle.c_parser.proofs.FairStatements.{BodyHole, statements_fair, statement_fair}
use Rattle.c_expr_parser.proofs.Holes.{Law, Among, Filled, begins_by, inner, in_second, in_after, NoLevel, ResultHole}
use Rattle.c_parser.proofs.PartsHoles.{spell_parts, AreParts, forward_pushed, declaration_pushed, global_pushed, prototype_pushed, function_pushed, empty_main, FunctionHas, filled_function, filled_main, filled_declaration}
use Rattle.c_parser.proofs.Pushed.{all_pushed, each_pushed}

-- ---- holes without levels

abbrev Hole : {A : Type 0} → Spelling A → (A → Type 0) → (List Token → List Token) → Type 0
Hole {A} spell Is front = (a : A) → Is a → Filled front (spell a) NoLevel

-- the same text, seen from its other parts
abbrev seen_as : {front spelled spelled' : List Token → List Token} {Has : ℕ → ℕ → Type 0} (f : Filled front spelled Has) (more : List Token) → front (spelled f.more) ≡ front (spelled' more) → Filled front spelled' NoLevel
seen_as f more e = record { c = f.c; more = more; of_grammar = f.of_grammar; is_spelled = f.is_spelled ∙ e; kept = λ n l h. absurd h }

abbrev Read : {A : Type 0} → Spelling A → (A → Type 0) → List Token → (List Token → List Token) → A → List Token → Type 0
Read spell Is all front a r = At all (λ u. front (spell a u)) r × Is a

module _ (all : List Token) (formed : AreTokens all) where
  variable_fair : (front : List Token → List Token) (s : List Token) → At all front s → Hole spell_variable IsVariable front → FairC all (Read spell_variable IsVariable all front) (variable s)
  unfolding variable
  variable_fair front s at hole =
      fair_then (type_fair all formed front s at (λ of is. let f = hole (variable_of of a_name) (a_name_is, is) in seen_as f (Identifier a_name ∷ f.more) refl)) (λ of r (at1, is).
      name_fair formed r at1 (let f = hole (variable_of of a_name) (a_name_is, is) in begins_by at1 f (Identifier a_name ∷ f.more) refl) (λ n r isn at2. reads (variable_of of n) r (at2, (isn, is))))

  -- ---- lists with commas

  module _ {A : Type 0} (spell : Spelling A) (Is : A → Type 0) (item : Parser Token A) (next : List A → Parser Token (List A)) (front : List Token → List Token) (law : Law front) where
    -- there is at least one
    abbrev Listed : List A → List Token → Type 0
    Listed items r = (a : A) × (more : List A) × (items ≡ a ∷ more) × At all (λ u. front (spell_listed spell (a ∷ more) u)) r × Is a × AllByRecursion Is more

    pub listed_fair : ((items : List A) (s : List Token) → next items s ≡ and_then (expect mark.Comma s) (λ _ s. and_then (item s) (λ a s. Ok (items ++ a ∷ [], s))))
        → ((items : List A) → AllByRecursion Is items → Filled front (spell_or_void spell items) NoLevel)
        → ((front : List Token → List Token) (s : List Token) → At all front s → Hole spell Is front → FairC all (Read spell Is all front) (item s))
        → (a : A) (s : List Token) → At all (λ u. front (spell a u)) s → Is a → FairC all (λ items r. At all (λ u. front (spell_or_void spell items u)) r × AllByRecursion Is items) (repeat (begins (marks mark.Comma)) next (a ∷ []) s)
    listed_fair same hole fair a s at is =
        fair_so (fair_repeat {P = Listed} (begins (marks mark.Comma)) next
        (λ items s (a, more, e, at, is, each) _. subst (λ o. FairC all Listed o) (sym (same items s))
        (mark_fair mark.Comma s at (let f = hole (a ∷ more) (is, each) in begins_by at f f.more refl) (λ _ r at1.
        fair_then (fair (λ u. front (spell_listed spell (a ∷ more) (Sign mark.Comma ∷ u))) r at1
        (λ x isx. let f = hole (a ∷ (more ++ x ∷ [])) (is, each_pushed Is more x each isx) in
        inner law (λ u. spell_listed spell (a ∷ more) (Sign mark.Comma ∷ u)) _ refl f f.more (ap (spell a) (all_pushed (spell_next spell) more x f.more)) (λ n l h. absurd h))) (λ x r (at2, isx).
        reads (items ++ x ∷ []) r (
          a,
          more ++ x ∷ [],
          ap (λ z. z ++ x ∷ []) e,
          at_same at2 (λ u. front (spell_listed spell (a ∷ (more ++ x ∷ [])) u)) (λ u. ap (λ z. front (spell a z)) (sym (all_pushed (spell_next spell) more x u))),
          is,
          each_pushed Is more x each isx,
        )))))
        (a ∷ []) s (a, [], refl, at, is, tt))
        (λ items r (a, more, e, at, is, each). subst (λ z. At all (λ u. front (spell_or_void spell z u)) r × AllByRecursion Is z) (sym e) (at, (is, each)))

  types_fair : (front : List Token → List Token) (s : List Token) → At all front s → ((items : List ObjectType) → AllByRecursion IsObjectType items → Filled front (spell_or_void spell_type items) NoLevel)
      → FairC all (λ items r. At all (λ u. front (spell_or_void spell_type items u)) r × AllByRecursion IsObjectType items) (types s)
  unfolding types next_type
  types_fair front s at hole = fair_then (result_fair all formed front s at start) after
    where
      start : ResultHole front
      start None is = hole [] tt
      start (Some of) is = let f = hole (of ∷ []) (is, tt) in seen_as f f.more refl

      after : (o : Option ObjectType) (r : List Token) → At all (λ u. front (spell_result o u)) r × IfSome o IsObjectType
          → FairC all (λ items r. At all (λ u. front (spell_or_void spell_type items u)) r × AllByRecursion IsObjectType items) (types_after o r)
      after None r (at1, is) = reads [] r (at1, tt)
      after (Some of) r (at1, is) = listed_fair spell_type IsObjectType object_type next_type front at.law (λ items s. refl) hole (type_fair all formed) of r at1 is

  abbrev opened : (List Token → List Token) → List Token → List Token
  opened front u = front (Sign mark.Open ∷ u)

  parameters_fair : (front : List Token → List Token) (s : List Token) → At all front s → Begins (front []) → ((items : List CVariable) → AllByRecursion IsVariable items → Filled front (spell_parameters items) NoLevel)
      → FairC all (λ items r. At all (λ u. front (spell_parameters items u)) r × AllByRecursion IsVariable items) (parameters s)
  unfolding parameters next_parameter
  parameters_fair front s at begun hole = mark_fair mark.Open s at begun (λ _ r at1.
      fair_then (result_fair all formed (opened front) r at1 start) (λ o r h.
      fair_then (after at1.law o r h) (λ items r (at2, each).
      mark_fair mark.Close r at2 (let f = hole items each in begins_by at2 f (Sign mark.Close ∷ f.more) refl) (λ _ r at3. reads items r (at3, each)))))
    where
      inside : (items : List CVariable) → AllByRecursion IsVariable items → Filled (opened front) (spell_or_void spell_variable items) NoLevel
      inside items each = let f = hole items each in record { c = f.c; more = Sign mark.Close ∷ f.more; of_grammar = f.of_grammar; is_spelled = f.is_spelled; kept = λ n l h. absurd h }

      start : ResultHole (opened front)
      start None is = inside [] tt
      start (Some of) is = let f = inside (variable_of of a_name ∷ []) ((a_name_is, is), tt) in seen_as f (Identifier a_name ∷ f.more) refl

      after : Law (opened front) → (o : Option ObjectType) (r : List Token) → At all (λ u. (opened front) (spell_result o u)) r × IfSome o IsObjectType
          → FairC all (λ items r. At all (λ u. (opened front) (spell_or_void spell_variable items u)) r × AllByRecursion IsVariable items) (parameters_after o r)
      after law None r (at1, is) = reads [] r (at1, tt)
      after law (Some of) r (at1, is) =
          name_fair formed r at1 (let f = inside (variable_of of a_name ∷ []) ((a_name_is, is), tt) in begins_by at1 f (Identifier a_name ∷ f.more) refl) (λ n r isn at2.
          listed_fair spell_variable IsVariable variable next_parameter (opened front) law (λ items s. refl) inside variable_fair (variable_of of n) r at2 (isn, is))

  -- ---- structs and typedefs

  length_fair : (front : List Token → List Token) (v : CVariable) (s : List Token) → IsVariable v → Hole spell_member IsMember front → At all (λ u. front (spell_variable v u)) s
      → FairC all (λ l r. At all (λ u. front (spell_variable v (spell_length l u))) r × IfSome l IsNumber) (array_length s)
  unfolding array_length
  length_fair front v s is hole at =
      fair_either (begins (marks mark.OpenBracket) s)
      (λ _. mark_fair mark.OpenBracket s at (let f = hole (member_of v None) (is.0, is.1, tt) in begins_by at f (Sign mark.Semicolon ∷ f.more) refl) (λ _ r at1.
      let zero_is : IsNumber 0 = omega arith in
      fair_token (numbers largest_int) r at1 (let f = hole (member_of v (Some 0)) (is.0, is.1, zero_is) in begins_by at1 f (Numeral 0 ∷ Sign mark.CloseBracket ∷ Sign mark.Semicolon ∷ f.more) refl) (λ t n r c e.
      let small = number_most largest_int t n c in let isn : IsNumber n = omega (arith, small) in
      let at2 = at_token at1 (Numeral n) r (e ∙ ap (λ z. z ∷ r) (number_is largest_int t n c)) in
      mark_fair mark.CloseBracket r at2 (let f = hole (member_of v (Some n)) (is.0, is.1, isn) in begins_by at2 f (Sign mark.CloseBracket ∷ Sign mark.Semicolon ∷ f.more) refl) (λ _ r at3. reads (Some n) r (at3, isn)))))
      (λ _. reads None s (at, tt))

  member_fair : (front : List Token → List Token) (s : List Token) → At all front s → Hole spell_member IsMember front → FairC all (Read spell_member IsMember all front) (member s)
  unfolding member
  member_fair front s at hole =
      fair_then (variable_fair front s at (λ v is. let f = hole (member_of v None) (is.0, is.1, tt) in seen_as f (Sign mark.Semicolon ∷ f.more) refl)) (λ v r (at1, is).
      fair_then (length_fair front v r is hole at1) (λ l r (at2, isl).
      mark_fair mark.Semicolon r at2 (let f = hole (member_of v l) (is.0, is.1, isl) in begins_by at2 f (Sign mark.Semicolon ∷ f.more) refl) (λ _ r at3. reads (member_of v l) r (at3, (is.0, is.1, isl)))))

  not_empty : {A : Type 0} (items : List A) (a : A) → items ++ a ∷ [] ≢ []
  not_empty [] a e = absurd cc
  not_empty (x ∷ items) a e = absurd cc

  abbrev braced : List CMember → List Token → List Token
  braced items u = Sign mark.OpenBrace ∷ spell_all spell_member items (Sign mark.CloseBrace ∷ Sign mark.Semicolon ∷ u)

  abbrev ReadMembers : (List Token → List Token) → List CMember → List Token → Type 0
  ReadMembers front items r = At all (λ u. front (Sign mark.OpenBrace ∷ spell_all spell_member items u)) r × AllByRecursion IsMember items × (items ≢ [])

  members_fair : (front : List Token → List Token) (s : List Token) → At all front s → Begins (front []) → ((items : List CMember) → AllByRecursion IsMember items → items ≢ [] → Filled front (braced items) NoLevel)
      → FairC all (λ items r. At all (λ u. front (braced items u)) r × AllByRecursion IsMember items × (items ≢ [])) (members s)
  unfolding members next_member
  members_fair front s at begun hole =
      mark_fair mark.OpenBrace s at begun (λ _ r at1.
      fair_then (member_fair (λ u. front (Sign mark.OpenBrace ∷ u)) r at1 (next at1.law [] tt)) (λ m r (at2, is).
      fair_then (fair_repeat {P = ReadMembers front} no_brace next_member
      (λ items s (at, each, some) _. fair_then (member_fair (λ u. front (Sign mark.OpenBrace ∷ spell_all spell_member items u)) s at (next at1.law items each)) (λ m r (at2, is).
      reads (items ++ m ∷ []) r (
        at_same at2 (λ u. front (Sign mark.OpenBrace ∷ spell_all spell_member (items ++ m ∷ []) u)) (λ u. ap (λ z. front (Sign mark.OpenBrace ∷ z)) (sym (all_pushed spell_member items m u))),
        each_pushed IsMember items m each is,
        not_empty items m,
      )))
      (m ∷ []) r (at2, (is, tt), not_empty [] m)) (λ items r (at3, each, some).
      let f = hole items each some in
      mark_fair mark.CloseBrace r at3 (begins_by at3 f (Sign mark.CloseBrace ∷ Sign mark.Semicolon ∷ f.more) refl) (λ _ r at4.
      mark_fair mark.Semicolon r at4 (begins_by at4 f (Sign mark.Semicolon ∷ f.more) refl) (λ _ r at5. reads items r (at5, each, some))))))
    where
      next : Law (λ u. front (Sign mark.OpenBrace ∷ u)) → (items : List CMember) → AllByRecursion IsMember items → Hole spell_member IsMember (λ u. front (Sign mark.OpenBrace ∷ spell_all spell_member items u))
      next law items each m is =
          let f = hole (items ++ m ∷ []) (each_pushed IsMember items m each is) (not_empty items m) in
          record {
            c = f.c;
            more = Sign mark.CloseBrace ∷ Sign mark.Semicolon ∷ f.more;
            of_grammar = f.of_grammar;
            is_spelled = f.is_spelled ∙ ap (λ z. front (Sign mark.OpenBrace ∷ z)) (all_pushed spell_member items m (Sign mark.CloseBrace ∷ Sign mark.Semicolon ∷ f.more));
            kept = λ n l h. absurd h;
          }

  abbrev after_returned : List ℕ → List Token → List Token
  after_returned n u = Sign mark.Open ∷ Sign mark.Star ∷ Identifier n ∷ Sign mark.Close ∷ Sign mark.Open ∷ u

  typedef_fair : (front : List Token → List Token) (s : List Token) → At all front s → Hole spell_typedef IsTypedef front → FairC all (Read spell_typedef IsTypedef all front) (typedef s)
  unfolding typedef pointer_name
  typedef_fair front s at hole =
      let f = hole (typedef_of None a_name []) (a_name_is, tt, tt) in
      word_fair word.Typedef s at (begins_by at f (spell_typedef (typedef_of None a_name []) f.more) refl) (λ _ r at1.
      fair_then (result_fair all formed (λ u. front (Quoted word.Typedef ∷ u)) r at1
      (λ o is. let g = hole (typedef_of o a_name []) (a_name_is, is, tt) in record {
        c = g.c;
        more = after_returned a_name (spell_or_void spell_type [] (Sign mark.Close ∷ Sign mark.Semicolon ∷ g.more));
        of_grammar = g.of_grammar;
        is_spelled = g.is_spelled;
        kept = λ n l h. absurd h;
      })) (λ o r (at2, iso).
      let g = hole (typedef_of o a_name []) (a_name_is, iso, tt) in
      let after = spell_or_void spell_type [] (Sign mark.Close ∷ Sign mark.Semicolon ∷ g.more) in
      fair_then (mark_fair {Q = λ n r. At all (λ u. front (Quoted word.Typedef ∷ spell_result o (Sign mark.Open ∷ Sign mark.Star ∷ Identifier n ∷ Sign mark.Close ∷ u))) r × IsName n} mark.Open r at2 (begins_by at2 g (after_returned a_name after) refl) (λ _ r at3.
      mark_fair mark.Star r at3 (begins_by at3 g (Sign mark.Star ∷ Identifier a_name ∷ Sign mark.Close ∷ Sign mark.Open ∷ after) refl) (λ _ r at4.
      name_fair formed r at4 (begins_by at4 g (Identifier a_name ∷ Sign mark.Close ∷ Sign mark.Open ∷ after) refl) (λ n r isn at5.
      mark_fair mark.Close r at5 (let h = hole (typedef_of o n []) (isn, iso, tt) in begins_by at5 h (Sign mark.Close ∷ Sign mark.Open ∷ spell_or_void spell_type [] (Sign mark.Close ∷ Sign mark.Semicolon ∷ h.more)) refl) (λ _ r at6. reads n r (at6, isn)))))) (λ n r (at6, isn).
      mark_fair mark.Open r at6 (let h = hole (typedef_of o n []) (isn, iso, tt) in begins_by at6 h (Sign mark.Open ∷ spell_or_void spell_type [] (Sign mark.Close ∷ Sign mark.Semicolon ∷ h.more)) refl) (λ _ r at7.
      fair_then (types_fair (λ u. front (Quoted word.Typedef ∷ spell_result o (after_returned n u))) r at7
      (λ items each. let h = hole (typedef_of o n items) (isn, iso, each) in record { c = h.c; more = Sign mark.Close ∷ Sign mark.Semicolon ∷ h.more; of_grammar = h.of_grammar; is_spelled = h.is_spelled; kept = λ n l h. absurd h })) (λ items r (at8, each).
      let h = hole (typedef_of o n items) (isn, iso, each) in
      mark_fair mark.Close r at8 (begins_by at8 h (Sign mark.Close ∷ Sign mark.Semicolon ∷ h.more) refl) (λ _ r at9.
      mark_fair mark.Semicolon r at9 (begins_by at9 h (Sign mark.Semicolon ∷ h.more) refl) (λ _ r at10. reads (typedef_of o n items) r (at10, (isn, iso, each)))))))))

  -- ---- blocks

  -- after the brace
  abbrev spell_inside : List CVariable → List Statement → List Token → List Token
  spell_inside ls body u = spell_all spell_variable_line ls (spell_body (body_of body) (Sign mark.CloseBrace ∷ u))

  abbrev BlockHas : List CVariable → List Statement → ℕ → ℕ → Type 0
  BlockHas ls body n l = (k : Known) (above : Names) → Among (block_demands k above ls body) n l

  abbrev BlockHole : (List Token → List Token) → Type 0
  BlockHole front = (ls : List CVariable) (body : List Statement) → AllByRecursion IsVariable ls → IsBody (body_of body) → Filled front (spell_inside ls body) (BlockHas ls body)

  local_hole : {front : List Token → List Token} (ls : List CVariable) → AllByRecursion IsVariable ls → BlockHole front → Hole spell_variable IsVariable (λ u. front (spell_all spell_variable_line ls u))
  local_hole {front} ls each hole v is =
      let f = hole (ls ++ v ∷ []) [] (each_pushed IsVariable ls v each is) tt in
      record { c = f.c; more = Sign mark.Semicolon ∷ Sign mark.CloseBrace ∷ f.more; of_grammar = f.of_grammar; is_spelled = f.is_spelled ∙ ap front (all_pushed spell_variable_line ls v (Sign mark.CloseBrace ∷ f.more)); kept = λ n l h. absurd h }

  body_hole : {front : List Token → List Token} (ls : List CVariable) → Law front → AllByRecursion IsVariable ls → BlockHole front → BodyHole 1 (λ u. front (spell_all spell_variable_line ls u))
  body_hole ls law each hole b is =
      let same = body_of-list_of b in
      let f = hole ls (list_of b) each (subst IsBody (sym same) is) in
      inner law (spell_all spell_variable_line ls) (count (spell_all spell_variable_line) ls) refl f (Sign mark.CloseBrace ∷ f.more)
      (ap (λ z. spell_all spell_variable_line ls (spell_body z (Sign mark.CloseBrace ∷ f.more))) same)
      (λ n l h k above. in_second _ (in_after (count (spell_all spell_variable_line) ls) (subst (λ z. Among (body_demands k (own_labels z) [] 1 z) n l) (sym same) (h k (own_labels b) []))))

  abbrev ReadBlock : (List Token → List Token) → List CVariable × List Statement → List Token → Type 0
  ReadBlock front b r = At all (λ u. front (spell_block b.0 b.1 u)) r × AllByRecursion IsVariable b.0 × IsBody (body_of b.1) × (body_depth (body_of b.1) ≤ 2400)

  locals_fair : (front : List Token → List Token) (s : List Token) → At all front s → BlockHole front
      → FairC all (λ ls r. At all (λ u. front (spell_all spell_variable_line ls u)) r × AllByRecursion IsVariable ls) (locals s)
  unfolding locals next_local
  locals_fair front s at hole = fair_repeat begins_local next_local
      (λ ls s (at, each) _. fair_then (variable_fair (λ u. front (spell_all spell_variable_line ls u)) s at (local_hole ls each hole)) (λ v r (at1, is).
      mark_fair mark.Semicolon r at1 (let f = local_hole ls each hole v is in begins_by at1 f f.more refl) (λ _ r at2.
      reads (ls ++ v ∷ []) r (at_same at2 (λ u. front (spell_all spell_variable_line (ls ++ v ∷ []) u)) (λ u. ap front (sym (all_pushed spell_variable_line ls v u))), each_pushed IsVariable ls v each is))))
      [] s (at, tt)

  block_fair : (front : List Token → List Token) (s : List Token) → At all front s → Begins (front []) → BlockHole (λ u. front (Sign mark.OpenBrace ∷ u)) → FairC all (ReadBlock front) (block s)
  unfolding block
  block_fair front s at begun hole =
      mark_fair mark.OpenBrace s at begun (λ _ r at1.
      fair_then (locals_fair (λ u. front (Sign mark.OpenBrace ∷ u)) r at1 hole) (λ ls r (at2, each).
      fair_then (statements_fair all formed 2400 (expr 2400) (expr_fair all formed 2400) (statement 2400) (statement_fair all formed 2400) 1 (λ u. front (Sign mark.OpenBrace ∷ spell_all spell_variable_line ls u)) r refl at2 (body_hole ls at1.law each hole)) (λ body r (at3, is, deep).
      mark_fair mark.CloseBrace r at3 (let f = hole ls body each is in begins_by at3 f (Sign mark.CloseBrace ∷ f.more) refl) (λ _ r at4. reads (ls, body) r (at4, each, is, deep)))))

  -- ---- the parts of a program

  abbrev FitParts : Parts → Type 0
  FitParts p = AllByRecursion (λ (f : CFunction). body_depth (body_of f.body) ≤ 2400) p.functions

  abbrev ReadParts : Parts → List Token → Type 0
  ReadParts p r = At all (spell_parts p) r × AreParts p × FitParts p

  -- a function that can stand after all parts
  abbrev small : Option ObjectType → List ℕ → List CVariable → CFunction
  small o n items = function_of o n items ([], [])

  -- the parts so far
  module _ (p : Parts) (is : AreParts p) (fit : FitParts p) (law : Law (spell_parts p)) where
    function_hole : (o : Option ObjectType) (n : List ℕ) (items : List CVariable) → IfSome o IsObjectType → IsName n → AllByRecursion IsVariable items
        → BlockHole (λ u. spell_parts p (spell_result o (Identifier n ∷ spell_parameters items (Sign mark.OpenBrace ∷ u))))
    function_hole o n items iso isn each ls body eachl isb =
        let f = filled_function p is (function_of o n items (ls, body)) (isn, iso, each, eachl, isb) in
        let before : List Token → List Token = λ u. spell_result o (Identifier n ∷ spell_parameters items (Sign mark.OpenBrace ∷ u)) in
        let long = count_more spell_result result_follow o (Identifier n ∷ spell_parameters items (Sign mark.OpenBrace ∷ [])) in
        let long' = count_more (spell_or_void spell_variable) (or_void_follow spell_variable variable_follow) items (Sign mark.Close ∷ Sign mark.OpenBrace ∷ []) in
        inner law before (count spell_result o + count (spell_or_void spell_variable) items + 4) (omega (arith, long, long')) f f.more refl
        (λ n l h k above. in_second _ (in_after (count spell_result o + count (spell_or_void spell_variable) items + 4) (h k (and_variables [] items))))

    function_fair : (o : Option ObjectType) (n : List ℕ) (items : List CVariable) (s : List Token) → IfSome o IsObjectType → IsName n → AllByRecursion IsVariable items
        → At all (λ u. spell_parts p (spell_result o (Identifier n ∷ spell_parameters items u))) s → FairC all ReadParts (function p o n items s)
    unfolding function
    function_fair o n items s iso isn each at =
        fair_then (block_fair (λ u. spell_parts p (spell_result o (Identifier n ∷ spell_parameters items u))) s at
        (let f = filled_function p is (small o n items) (isn, iso, each, tt, tt) in begins_by at f (spell_block [] [] f.more) refl) (function_hole o n items iso isn each)) (λ b r (at1, eachl, isb, deep).
        let f = function_of o n items b in
        reads (with_function p f) r (
          at_same at1 (spell_parts (with_function p f)) (λ u. sym (function_pushed p f u)),
          (is.0, is.1, is.2, is.3, each_pushed IsFunction p.functions f is.4 (isn, iso, each, eachl, isb)),
          each_pushed _ p.functions f fit deep,
        ))

    prototype_fair : (o : Option ObjectType) (n : List ℕ) (items : List CVariable) (s : List Token) → IfSome o IsObjectType → IsName n → AllByRecursion IsVariable items
        → At all (λ u. spell_parts p (spell_result o (Identifier n ∷ spell_parameters items u))) s → FairC all ReadParts (prototype p o n items s)
    unfolding prototype
    prototype_fair o n items s iso isn each at =
        let f = filled_function p is (small o n items) (isn, iso, each, tt, tt) in
        let begun = begins_by at f (spell_block [] [] f.more) refl in
        let x = prototype_of o n items in
        fair_either (no_functions p)
        (λ e. mark_fair mark.Semicolon s at begun (λ _ r at1.
        reads (with_prototype p x) r (at_same at1 (spell_parts (with_prototype p x)) (λ u. sym (prototype_pushed p x u e)), (is.0, is.1, is.2, each_pushed IsPrototype p.prototypes x is.3 (isn, iso, each), is.4), fit)))
        (λ _. fair_refuse at begun)

    global_fair : (o : Option ObjectType) (n : List ℕ) (s : List Token) → IfSome o IsObjectType → IsName n → At all (λ u. spell_parts p (spell_result o (Identifier n ∷ u))) s → Begins (spell_parts p (spell_result o (Identifier n ∷ [])))
        → FairC all ReadParts (global p o n s)
    global_fair None n s iso isn at begun = fair_refuse at begun
    global_fair (Some of) n s iso isn at begun =
        let v = variable_of of n in
        fair_either (no_prototypes p)
        (λ e. mark_fair mark.Semicolon s at begun (λ _ r at1.
        reads (with_global p v) r (at_same at1 (spell_parts (with_global p v)) (λ u. sym (global_pushed p v u e)), (is.0, is.1, each_pushed IsVariable p.globals v is.2 (isn, iso), is.3, is.4), fit)))
        (λ _. fair_refuse at begun)

    after_result_fair : (o : Option ObjectType) (s : List Token) → IfSome o IsObjectType → At all (λ u. spell_parts p (spell_result o u)) s → FairC all ReadParts (after_result p o s)
    unfolding after_result after_name after_parameters
    after_result_fair o s iso at =
        name_fair formed s at (let f = filled_function p is (small o a_name []) (a_name_is, iso, tt, tt, tt) in begins_by at f (Identifier a_name ∷ spell_parameters [] (spell_block [] [] f.more)) refl) (λ n r isn at1.
        let f = filled_function p is (small o n []) (isn, iso, tt, tt, tt) in
        let begun = begins_by at1 f (spell_parameters [] (spell_block [] [] f.more)) refl in
        fair_either (begins (marks mark.Semicolon) r) (λ _. global_fair o n r iso isn at1 begun)
        (λ _. fair_then (parameters_fair (λ u. spell_parts p (spell_result o (Identifier n ∷ u))) r at1 begun
        (λ items each. let g = filled_function p is (small o n items) (isn, iso, each, tt, tt) in
        record { c = g.c; more = spell_block [] [] g.more; of_grammar = g.of_grammar; is_spelled = g.is_spelled; kept = λ n l h. absurd h })) (λ items r (at2, each).
        fair_either (begins (marks mark.Semicolon) r) (λ _. prototype_fair o n items r iso isn each at2) (λ _. function_fair o n items r iso isn each at2))))

    forward_fair : (n : List ℕ) (s : List Token) → IsName n → At all (λ u. spell_parts p (Quoted word.Struct ∷ Identifier n ∷ u)) s → Begins (spell_parts p (Quoted word.Struct ∷ Identifier n ∷ [])) → FairC all ReadParts (forward p n s)
    unfolding forward
    forward_fair n s isn at begun =
        fair_either (no_declarations p)
        (λ e. mark_fair mark.Semicolon s at begun (λ _ r at1.
        reads (with_forward p n) r (at_same at1 (spell_parts (with_forward p n)) (λ u. sym (forward_pushed p n u e)), (each_pushed IsName p.forwards n is.0 isn, is.1, is.2, is.3, is.4), fit)))
        (λ _. fair_refuse at begun)

    structure_fair : (n : List ℕ) (s : List Token) → IsName n → At all (λ u. spell_parts p (Quoted word.Struct ∷ Identifier n ∷ u)) s → Begins (spell_parts p (Quoted word.Struct ∷ Identifier n ∷ [])) → FairC all ReadParts (structure p n s)
    unfolding structure
    structure_fair n s isn at begun =
        fair_either (no_globals p)
        (λ e. fair_then (members_fair (λ u. spell_parts p (Quoted word.Struct ∷ Identifier n ∷ u)) s at begun
        (λ items each some. let f = filled_declaration p is e (declared.Struct (struct_of n items)) (isn, each, some) in
        record { c = f.c; more = f.more; of_grammar = f.of_grammar; is_spelled = f.is_spelled; kept = λ n l h. absurd h })) (λ items r (at1, each, some).
        let d = declared.Struct (struct_of n items) in
        reads (with_declaration p d) r (at_same at1 (spell_parts (with_declaration p d)) (λ u. sym (declaration_pushed p d u e)), (is.0, each_pushed IsDeclaration p.declarations d is.1 (isn, each, some), is.2, is.3, is.4), fit)))
        (λ _. fair_refuse at begun)

    type_definition_fair : (s : List Token) → At all (spell_parts p) s → FairC all ReadParts (type_definition p s)
    unfolding type_definition
    type_definition_fair s at =
        fair_either (no_globals p)
        (λ e. fair_then (typedef_fair (spell_parts p) s at (λ t ist. filled_declaration p is e (declared.Typedef t) ist)) (λ t r (at1, ist).
        let d = declared.Typedef t in
        reads (with_declaration p d) r (at_same at1 (spell_parts (with_declaration p d)) (λ u. sym (declaration_pushed p d u e)), (is.0, each_pushed IsDeclaration p.declarations d is.1 ist, is.2, is.3, is.4), fit)))
        (λ _. fair_refuse at (let f = filled_main p is empty_main (tt, tt) in begins_by at f (spell_main empty_main f.more) refl))

    struct_function : (n : List ℕ) → IsName n → Filled (spell_parts p) (spell_function (small (Some (Struct n)) a_name [])) (FunctionHas (small (Some (Struct n)) a_name []))
    struct_function n isn = filled_function p is (small (Some (Struct n)) a_name []) (a_name_is, isn, tt, tt, tt)

    after_struct_fair : (s : List Token) → At all (spell_parts p) s → FairC all ReadParts (after_struct p s)
    unfolding after_struct after_struct_name
    after_struct_fair s at =
        let any = struct_function a_name a_name_is in
        let heading : List Token → List Token = λ u. Identifier a_name ∷ spell_parameters [] (spell_block [] [] u) in
        word_fair word.Struct s at (begins_by at any (Quoted word.Struct ∷ Identifier a_name ∷ heading any.more) refl) (λ _ r at1.
        name_fair formed r at1 (begins_by at1 any (Identifier a_name ∷ heading any.more) refl) (λ n r isn at2.
        let f = struct_function n isn in
        let begun = begins_by at2 f (heading f.more) refl in
        fair_either (begins (marks mark.Semicolon) r) (λ _. forward_fair n r isn at2 begun)
        (λ _. fair_either (begins (marks mark.OpenBrace) r) (λ _. structure_fair n r isn at2 begun)
        (λ _. fair_then (stars_fair all formed (spell_parts p) (Struct n) r
        (λ of ist. let g = filled_function p is (small (Some of) a_name []) (a_name_is, ist, tt, tt, tt) in
        record { c = g.c; more = heading g.more; of_grammar = g.of_grammar; is_spelled = g.is_spelled; kept = λ n l h. absurd h }) (at2, isn)) (λ of r (at3, ist).
        after_result_fair (Some of) r ist at3)))))

    next_part_fair : (s : List Token) → At all (spell_parts p) s → FairC all ReadParts (next_part p s)
    unfolding next_part
    next_part_fair s at =
        fair_either (begins (words word.Typedef) s) (λ _. type_definition_fair s at)
        (λ _. fair_either (begins (words word.Struct) s) (λ _. after_struct_fair s at)
        (λ _. fair_then (result_fair all formed (spell_parts p) s at
        (λ o iso. let g = filled_function p is (small o a_name []) (a_name_is, iso, tt, tt, tt) in
        record { c = g.c; more = Identifier a_name ∷ spell_parameters [] (spell_block [] [] g.more); of_grammar = g.of_grammar; is_spelled = g.is_spelled; kept = λ n l h. absurd h })) (λ o r (at1, iso).
        after_result_fair o r iso at1)))

    -- ---- main

    main_hole : BlockHole (λ u. spell_parts p (Quoted word.Int ∷ Quoted word.Main ∷ Sign mark.Open ∷ Quoted word.Void ∷ Sign mark.Close ∷ Sign mark.OpenBrace ∷ u))
    main_hole ls body each isb =
        let f = filled_main p is (main_of (ls, body)) (each, isb) in
        inner law (λ u. Quoted word.Int ∷ Quoted word.Main ∷ Sign mark.Open ∷ Quoted word.Void ∷ Sign mark.Close ∷ Sign mark.OpenBrace ∷ u) 6 refl f f.more refl (λ n l h k. in_after 6 (h k []))

    main_fair : (s : List Token) → At all (spell_parts p) s → FairC all (λ m r. At all (λ u. spell_parts p (spell_main m u)) r × IsMain m × (body_depth (body_of m.body) ≤ 2400)) (main s)
    unfolding main
    main_fair s at =
        let f = filled_main p is empty_main (tt, tt) in
        let inside = spell_block [] [] f.more in
        word_fair word.Int s at (begins_by at f (Quoted word.Int ∷ Quoted word.Main ∷ Sign mark.Open ∷ Quoted word.Void ∷ Sign mark.Close ∷ inside) refl) (λ _ r at1.
        word_fair word.Main r at1 (begins_by at1 f (Quoted word.Main ∷ Sign mark.Open ∷ Quoted word.Void ∷ Sign mark.Close ∷ inside) refl) (λ _ r at2.
        mark_fair mark.Open r at2 (begins_by at2 f (Sign mark.Open ∷ Quoted word.Void ∷ Sign mark.Close ∷ inside) refl) (λ _ r at3.
        word_fair word.Void r at3 (begins_by at3 f (Quoted word.Void ∷ Sign mark.Close ∷ inside) refl) (λ _ r at4.
        mark_fair mark.Close r at4 (begins_by at4 f (Sign mark.Close ∷ inside) refl) (λ _ r at5.
        fair_then (block_fair (λ u. spell_parts p (Quoted word.Int ∷ Quoted word.Main ∷ Sign mark.Open ∷ Quoted word.Void ∷ Sign mark.Close ∷ u)) r at5 (begins_by at5 f inside refl) main_hole) (λ b r (at6, each, isb, deep).
        reads (main_of b) r (at6, (each, isb), deep)))))))

  parts_fair : FairC all ReadParts (parts all)
  unfolding parts
  parts_fair = fair_repeat no_int next_part (λ p s (at, is, fit) _. next_part_fair p is fit at.law s at) no_parts all (at_first all, (tt, tt, tt, tt, tt), tt)

  -- a whole text was read
  abbrev pub ReadProgram : CProgram → List Token → Type 0
  ReadProgram c r = (all ≡ program_tokens c) × IsProgram c × Fits 2400 c

  end_fair : (p : Parts) (m : CMain) (s : List Token) → AreParts p → FitParts p → At all (λ u. spell_parts p (spell_main m u)) s → IsMain m → body_depth (body_of m.body) ≤ 2400 → FairC all ReadProgram (end_of (program_of p m) s)
  end_fair p m [] is fit at ism deep = reads (program_of p m) [] (at.is, (is.0, is.1, is.2, is.3, is.4, ism), (fit, deep))
  end_fair p m (t ∷ s) is fit at ism deep =
      fair_refuse at (program_of p m, [], record { of_grammar = (is.0, is.1, is.2, is.3, is.4, ism); spelled = sym (append-nil (program_tokens (program_of p m))) })

  pub program_fair : FairC all ReadProgram (program all)
  unfolding program
  program_fair = fair_then parts_fair (λ p r (at, is, fit). fair_then (main_fair p is fit at.law r at) (λ m r (at1, ism, deep). end_fair p m r is fit at1 ism deep))
