-- Headings that are written are read.
use Rattle.std.proofs.Common.{◌≡◌, ℕ, Bool, false, true, List, ◌∷◌, Option, Some, None, Ok, refl, ap, ◌∙◌}
use Rattle.std.specs.Option.{option_map}
use Rattle.p2c_text.specs.declared.place.Span.{Span}
use Rattle.dialect_lexer.specs.declared.token.Word.TheVariants as word_
use Rattle.dialect_lexer.specs.declared.token.Symbol.TheVariants as mark
use Rattle.pascal_tree.specs.declared.types.TypeName.{TypeName}
use Rattle.pascal_tree.specs.declared.declarations.Formals.{Formals}
use Rattle.pascal_tree.specs.declared.declarations.Heading.{Heading}
use Rattle.pascal_tree.specs.declared.declarations.Heading.TheVariants as heading_
use Rattle.token_parsing.specs.Parser.{Parser}
use Rattle.expr_parser.specs.Tokens.{Token, Placed, Symbol, plain}
use Rattle.expr_parser.specs.Layout.{Done, ◌&◌, word, symbol, IsWritten}
use Rattle.expr_parser.specs.Writing.{identifier}
use Rattle.expr_parser.specs.Classes.{words, same_symbol, same_word}
use Rattle.expr_parser.proofs.Layouts.{spell}
use Rattle.expr_parser.proofs.Followed.{on_first}
use Rattle.expr_parser.proofs.FollowedParts.{Part, part_left, part_right, part_inside}
use Rattle.expr_parser.proofs.Lookahead.{looks_word, looks_symbol, on_symbol, on_symbol_here, says_word}
use Rattle.expr_parser.proofs.Exact.{written_inside, written_plain, exact_then, exact_part, exact_token, exact_name, exact_made, exact_first, exact_second, looks_written}
use Rattle.type_parser.specs.Writing.{write_type_name}
use Rattle.type_parser.proofs.ExactFormals.{FormalsExact, result_exact, optional_formals_exact}
use Rattle.unit_parser.specs.Writing.{optional_result as write_result, write_heading}
use Rattle.unit_parser.specs.Grammar.{formed_heading}
use Rattle.unit_parser.specs.Parts.{procedure_heading, optional_result, function_heading, heading}
use Rattle.unit_parser.proofs.FollowedHeadings.{write_optional}

-- a result, or none before a semicolon, is no list of formal parameters
result_no_formals : (t : Option TypeName) (w : List Token) → on_first (on_symbol mark.Open) (spell (write_result t) (Symbol mark.Semicolon ∷ w)) ≡ false
unfolding same_symbol
result_no_formals None w = refl
result_no_formals (Some t) w = refl

module _ (end : Span) (k : ℕ) (child : Parser Placed Formals) (good : FormalsExact end k child) where
  optional_result_exact : (t : Option TypeName) (s r : List Placed) → IsWritten end (write_result t) s r → (w : List Token) → plain r ≡ Symbol mark.Semicolon ∷ w → optional_result end s ≡ Ok (t, r)
  unfolding optional_result same_symbol
  optional_result_exact None s r h w is = exact_second _ _ _ (looks_written (looks_symbol mark.Colon) end Done s r h ∙ ap (on_first (on_symbol mark.Colon)) is) (ap (λ z. Ok (None, z)) h)
  optional_result_exact (Some t) s r h w is = exact_first _ _ _ (looks_written (looks_symbol mark.Colon) end (symbol mark.Colon & write_type_name t) s r h) (exact_then _ (result_exact end t s r h) refl)

  pub heading_exact : (x : Heading) → Part (Unit {0}) k (write_heading x) (formed_heading x) → (s r : List Placed) → IsWritten end (write_heading x) s r → (w : List Token) → plain r ≡ Symbol mark.Semicolon ∷ w → heading end child s ≡ Ok (x, r)
  unfolding heading procedure_heading function_heading same_word same_symbol
  heading_exact (heading_.Procedure name formals span) part s r h w is =
      let f = write_optional formals in let l = word word_.KwProcedure & identifier name & f in
      let p = part_right (word word_.KwProcedure & identifier name) f (part_inside l part) in
      let (place, inside) = written_inside end span l s r h in
      exact_second _ _ _ (looks_written (looks_word word_.KwFunction) end l s r inside)
      (exact_token _ (words word_.KwProcedure) (says_word word_.KwProcedure) end (identifier name & f) s r inside (λ m h.
      exact_name _ name end f m r h (λ m h.
      exact_then _ (optional_formals_exact end k child good formals p m r h (ap (on_first (on_symbol mark.Open)) is)) (exact_made end span (heading_.Procedure name formals) s r r refl refl place))))
  heading_exact (heading_.Function name formals t span) part s r h w is =
      let f = write_optional formals in let last = write_result t in let l = word word_.KwFunction & identifier name & f & last in
      let p = part_left f last (part_right (word word_.KwFunction & identifier name) (f & last) (part_inside l part)) in
      let (place, inside) = written_inside end span l s r h in
      exact_first _ _ _ (looks_written (looks_word word_.KwFunction) end l s r inside)
      (exact_token _ (words word_.KwFunction) (says_word word_.KwFunction) end (identifier name & f & last) s r inside (λ m h.
      exact_name _ name end (f & last) m r h (λ m h.
      exact_part _ formals end f last m r h
      (λ m' left right. optional_formals_exact end k child good formals p m m' left (ap (on_first (on_symbol mark.Open)) (written_plain end last m' r right ∙ ap (spell last) is) ∙ result_no_formals t w)) (λ m h.
      exact_then _ (optional_result_exact t m r h w is) (exact_made end span (heading_.Function name formals t) s r r refl refl place)))))
