-- Formal parameters that are written are read.
use Rattle.std.proofs.Common.{◌≡◌, ℕ, zero, suc, Bool, true, false, List, [], ◌∷◌, map, Option, Some, None, Ok, refl, ap, ◌∙◌, arith}
use Rattle.std.specs.Option.{option_map}
use Rattle.p2c_text.specs.declared.place.Span.{Span}
use Rattle.dialect_lexer.specs.declared.token.Word.TheVariants as word_
use Rattle.dialect_lexer.specs.declared.token.Symbol.TheVariants as mark
use Rattle.pascal_tree.specs.declared.names.Identifier.{Identifier}
use Rattle.pascal_tree.specs.declared.types.TypeName.{TypeName}
use Rattle.pascal_tree.specs.declared.declarations.Formal.{Formal}
use Rattle.pascal_tree.specs.declared.declarations.Formal.TheVariants as formal_
use Rattle.pascal_tree.specs.declared.declarations.Formals.{Formals, out-Formals}
use Rattle.token_parsing.specs.Parser.{Parser, begins}
use Rattle.expr_parser.specs.Tokens.{Token, Placed, Name, plain}
use Rattle.expr_parser.specs.Layout.{Done, ◌&◌, word, symbol, IsWritten}
use Rattle.expr_parser.specs.Semicolons.{with_semicolons, optional_part}
use Rattle.expr_parser.specs.Writing.{identifier}
use Rattle.expr_parser.specs.Grammar.{some_all, optional}
use Rattle.expr_parser.specs.Classes.{words, symbols, same_word, same_symbol}
use Rattle.expr_parser.proofs.Layouts.{spell, spell_join}
use Rattle.expr_parser.proofs.Lookahead.{looks_word, looks_symbol, on_word, on_symbol, on_symbol_here, says_word, says_symbol}
use Rattle.expr_parser.proofs.Followed.{on_first}
use Rattle.expr_parser.proofs.FollowedParts.{Part, part_as, part_left, part_right, part_inside, part_counted}
use Rattle.expr_parser.proofs.Exact.{written_as, written_inside, written_inside_both, written_plain, ends_plain, exact_then, exact_part, exact_token, exact_name, exact_made, exact_first, exact_second, looks_written}
use Rattle.expr_parser.proofs.ExactLists.{semicolons_exact}
use Rattle.type_parser.specs.Writing.{write_names, write_type_name, optional_word, write_formal, write_formals}
use Rattle.type_parser.specs.Grammar.{formed_formal, formed_formals}
use Rattle.type_parser.specs.Names.{type_name}
use Rattle.type_parser.specs.Formals.{optional_formals, optional_var, result, variables, procedure, function, formal, next_formal, more_formals, listed_formals, formals_of, formals_by}
use Rattle.type_parser.specs.Levels.{formals}
use Rattle.type_parser.proofs.WrittenNodes.{write_formal_variables, write_formal_procedure, write_formal_function}
use Rattle.type_parser.proofs.FormedNodes.{formed_formal_variables, formed_formal_procedure, formed_formal_function}
use Rattle.type_parser.proofs.Views.{formal_cases, formals_is}
use Rattle.type_parser.proofs.FollowedFormals.{FormalEnds, semicolon_ends, close_ends, first_name, formals_written, formals_formed, formals_deep}
use Rattle.type_parser.proofs.ExactNames.{names_exact, type_name_exact}

module _ (end : Span) (k : ℕ) where
  abbrev pub FormalsExact : Parser Placed Formals → Type 0
  FormalsExact p = (f : Formals) → Part (Unit {0}) k (write_formals f) (formed_formals f) → (s r : List Placed) → IsWritten end (write_formals f) s r → p s ≡ Ok (f, r)

module _ (end : Span) where
  -- ":" TypeName
  pub result_exact : (t : TypeName) (s r : List Placed) → IsWritten end (symbol mark.Colon & write_type_name t) s r → result end s ≡ Ok (t, r)
  unfolding result
  result_exact t s r h = exact_token (λ _. type_name end) (symbols mark.Colon) (says_symbol mark.Colon) end (write_type_name t) s r h (λ m h. type_name_exact end t m r h)

  -- with what a formal parameter of variables begins
  record VariablesStart (r : Bool) (w : List Token) : Type 0 where
    procedure : on_first (on_word word_.KwProcedure) w ≡ false
    function : on_first (on_word word_.KwFunction) w ≡ false
    by_reference : on_first (on_word word_.KwVar) w ≡ r

  variables_start : (r : Bool) (x : List ℕ) (w : List Token) → VariablesStart r (spell (optional_word word_.KwVar r) (Name x ∷ w))
  unfolding same_word
  variables_start true x w = record { procedure = refl; function = refl; by_reference = refl }
  variables_start false x w = record { procedure = refl; function = refl; by_reference = refl }

  var_exact : (b : Bool) (s r : List Placed) → IsWritten end (optional_word word_.KwVar b) s r → begins (words word_.KwVar) s ≡ b → optional_var s ≡ Ok (b, r)
  unfolding optional_var
  var_exact true s r h is = exact_first _ _ _ is (exact_token _ (words word_.KwVar) (says_word word_.KwVar) end Done s r h (λ m h. ap (λ z. Ok (true, z)) h))
  var_exact false s r h is = exact_second _ _ _ is (ap (λ z. Ok (false, z)) h)

  module _ (k : ℕ) (child : Parser Placed Formals) (good : FormalsExact end k child) where
    pub optional_formals_exact : (f : Option Formals) → Part (Unit {0}) k (optional_part (option_map write_formals f)) (optional (option_map formed_formals f)) → (s r : List Placed) → IsWritten end (optional_part (option_map write_formals f)) s r
        → on_first (on_symbol mark.Open) (plain r) ≡ false → optional_formals child s ≡ Ok (f, r)
    unfolding optional_formals
    optional_formals_exact None part s r h ends = exact_second _ _ _ (looks_written (looks_symbol mark.Open) end Done s r h ∙ ends) (ap (λ z. Ok (None, z)) h)
    optional_formals_exact (Some f) part s r h ends =
        exact_first _ _ _ (looks_written (looks_symbol mark.Open) end (write_formals f) s r h ∙ ap (λ l. on_first (on_symbol mark.Open) (spell l (plain r))) (formals_written f) ∙ on_symbol_here mark.Open) (exact_then _ (good f part s r h) refl)

    abbrev FormalRead : Formal → Type 0
    FormalRead x = Part (Unit {0}) k (write_formal x) (formed_formal x) → (s r : List Placed) → IsWritten end (write_formal x) s r → FormalEnds (plain r) → formal end child s ≡ Ok (x, r)

    variables_read : (b : Bool) (ns : List Identifier) (t : TypeName) (span : Span) → FormalRead (formal_.Variables b ns t span)
    unfolding formal variables same_symbol
    variables_read b ns t span part s r h ends =
        let by_reference = optional_word word_.KwVar b in let list = write_names ns in let name = symbol mark.Colon & write_type_name t in let l = by_reference & list & name in
        let formed = (part_as (write_formal_variables b ns t span) (formed_formal_variables b ns t span) part).formed in
        let (place, inside) = written_inside end span l s r (written_as end s r (write_formal_variables b ns t span) h) in
        let (x, v, is) = first_name ns formed (spell name (plain r)) in
        let start : VariablesStart b (spell by_reference (Name x ∷ v)) = variables_start b x v in
        let spelled : spell l (plain r) ≡ spell by_reference (Name x ∷ v) = spell_join by_reference (list & name) (plain r) ∙ ap (λ w. spell by_reference w) (spell_join list name (plain r) ∙ is) in
        exact_second _ _ _ (looks_written (looks_word word_.KwProcedure) end l s r inside ∙ ap (on_first (on_word word_.KwProcedure)) spelled ∙ start.procedure)
        (exact_second _ _ _ (looks_written (looks_word word_.KwFunction) end l s r inside ∙ ap (on_first (on_word word_.KwFunction)) spelled ∙ start.function)
        (exact_part _ b end by_reference (list & name) s r inside (λ m left right. var_exact b s m left (looks_written (looks_word word_.KwVar) end l s r inside ∙ ap (on_first (on_word word_.KwVar)) spelled ∙ start.by_reference)) (λ m h.
        exact_part _ ns end list name m r h (λ m' left right. names_exact end ns formed m m' left (ap (on_first (on_symbol mark.Comma)) (written_plain end name m' r right))) (λ m h.
        exact_then _ (result_exact t m r h) (exact_made end span (formal_.Variables b ns t) s r r refl refl place)))))

    procedure_read : (i : Identifier) (f : Option Formals) (span : Span) → FormalRead (formal_.Procedure i f span)
    unfolding formal procedure same_word
    procedure_read i f span part s r h ends =
        let inner = optional_part (option_map write_formals f) in let l = word word_.KwProcedure & identifier i & inner in
        let p = part_right (word word_.KwProcedure & identifier i) inner (part_inside _ (part_as (write_formal_procedure i f span) (formed_formal_procedure i f span) part)) in
        let (place, inside) = written_inside end span l s r (written_as end s r (write_formal_procedure i f span) h) in
        exact_first _ _ _ (looks_written (looks_word word_.KwProcedure) end l s r inside)
        (exact_token _ (words word_.KwProcedure) (says_word word_.KwProcedure) end (identifier i & inner) s r inside (λ m h.
        exact_name _ i end inner m r h (λ m h.
        exact_then _ (optional_formals_exact f p m r h ends.formals) (exact_made end span (formal_.Procedure i f) s r r refl refl place))))

    function_read : (i : Identifier) (f : Option Formals) (t : TypeName) (span : Span) → FormalRead (formal_.Function i f t span)
    unfolding formal function same_word same_symbol
    function_read i f t span part s r h ends =
        let inner = optional_part (option_map write_formals f) in let name = symbol mark.Colon & write_type_name t in let l = word word_.KwFunction & identifier i & inner & name in
        let p = part_left inner name (part_right (word word_.KwFunction & identifier i) (inner & name) (part_inside _ (part_as (write_formal_function i f t span) (formed_formal_function i f t span) part))) in
        let (place, inside) = written_inside end span l s r (written_as end s r (write_formal_function i f t span) h) in
        exact_second _ _ _ (looks_written (looks_word word_.KwProcedure) end l s r inside) (exact_first _ _ _ (looks_written (looks_word word_.KwFunction) end l s r inside)
        (exact_token _ (words word_.KwFunction) (says_word word_.KwFunction) end (identifier i & inner & name) s r inside (λ m h.
        exact_name _ i end (inner & name) m r h (λ m h.
        exact_part _ f end inner name m r h (λ m' left right. optional_formals_exact f p m m' left (ap (on_first (on_symbol mark.Open)) (written_plain end name m' r right))) (λ m h.
        exact_then _ (result_exact t m r h) (exact_made end span (formal_.Function i f t) s r r refl refl place))))))

    formal_exact : (x : Formal) → FormalRead x
    formal_exact x = formal_cases FormalRead (record { variables = variables_read; procedure = procedure_read; function = function_read }) x

    listed_exact : (xs : List Formal) → Part (Unit {0}) k (with_semicolons (map write_formal xs)) (some_all (map formed_formal xs)) → (s r : List Placed) → IsWritten end (with_semicolons (map write_formal xs)) s r → FormalEnds (plain r)
        → on_first (on_symbol mark.Semicolon) (plain r) ≡ false → listed_formals end child s ≡ Ok (xs, r)
    unfolding listed_formals more_formals next_formal
    listed_exact [] part s r h ends closed = let none = part.formed in absurd cc
    listed_exact (x ∷ xs) part s r h ends closed = semicolons_exact end k write_formal formed_formal (formal end child) FormalEnds semicolon_ends formal_exact x xs part s r h ends closed

    pub formals_by_exact : FormalsExact end (suc k) (formals_by end child)
    unfolding formals_by same_symbol
    formals_by_exact f part s r h =
        let list = with_semicolons (map write_formal (out-Formals f).list) in let close = symbol mark.Close in let l = symbol mark.Open & list & close in
        let p = part_left list close (part_right (symbol mark.Open) (list & close) (part_inside _ (part_counted _ (part_as (formals_written f) (formals_formed f) part)))) in
        let (place, inside) = written_inside_both end (out-Formals f).span l s r (written_as end s r (formals_written f) h) in
        exact_token _ (symbols mark.Open) (says_symbol mark.Open) end (list & close) s r inside (λ m h.
        exact_part _ (out-Formals f).list end list close m r h (λ m' left right. listed_exact (out-Formals f).list p m m' left (ends_plain FormalEnds end close m' r right (close_ends _)) (ap (on_first (on_symbol mark.Semicolon)) (written_plain end close m' r right))) (λ m h.
        exact_token _ (symbols mark.Close) (says_symbol mark.Close) end Done m r h (λ m h. exact_made end (out-Formals f).span (formals_of (out-Formals f).list) s m r h (formals_is f) place)))

pub formals_exact : (end : Span) (k : ℕ) → FormalsExact end k (formals end k)
unfolding formals
formals_exact end zero f part s r h = let fits = part.fits tt in absurd (omega (arith, fits, formals_deep f))
formals_exact end (suc k) f part s r h = formals_by_exact end k (formals end k) (formals_exact end k) f part s r h
