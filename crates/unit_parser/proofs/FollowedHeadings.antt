-- Headings of a text are followed.
use Rattle.std.proofs.Common.{◌≡◌, ℕ, Bool, false, ◌&&◌, List, ◌∷◌, Option, Some, None, refl, sym, ap, ◌∙◌}
use Rattle.std.specs.Prelude.{IsTrue}
use Rattle.std.specs.Option.{option_map}
use Rattle.p2c_text.specs.declared.dialect.Dialect.{Dialect}
use Rattle.p2c_text.specs.declared.dialect.Dialect.TheVariants as dialect
use Rattle.p2c_text.specs.declared.place.Span.{Span}
use Rattle.dialect_lexer.specs.declared.token.Word.TheVariants as word_
use Rattle.dialect_lexer.specs.declared.token.Symbol.TheVariants as mark
use Rattle.pascal_tree.specs.declared.names.Identifier.{Identifier}
use Rattle.pascal_tree.specs.declared.types.TypeName.{TypeName}
use Rattle.pascal_tree.specs.declared.declarations.Formals.{Formals}
use Rattle.pascal_tree.specs.declared.declarations.Heading.{Heading}
use Rattle.pascal_tree.specs.declared.declarations.Heading.TheVariants as heading_
use Rattle.token_parsing.specs.Parser.{Parser, begins}
use Rattle.token_parsing.proofs.Tracked.{Shrinks, one_shrinks, then_shrinks, pure_shrinks}
use Rattle.expr_parser.specs.Tokens.{Token, Placed, Name, Word, Symbol}
use Rattle.expr_parser.specs.Layout.{Layout, ◌&◌, word, symbol}
use Rattle.expr_parser.specs.Semicolons.{optional_part}
use Rattle.expr_parser.specs.Writing.{identifier}
use Rattle.expr_parser.specs.Grammar.{optional}
use Rattle.expr_parser.specs.Classes.{identifiers, words, symbols, same_symbol, same_word}
use Rattle.expr_parser.proofs.Layouts.{spell, spell_join}
use Rattle.expr_parser.proofs.Followed.{Until, Along, Followed, follow_then, follow_pure, follow_token, follow_first, follow_second, looks_at}
use Rattle.expr_parser.proofs.FollowedParts.{Part, part_left, part_right, part_inside, along_as}
use Rattle.expr_parser.proofs.Lookahead.{looks_word, looks_symbol, on_symbol, accepts_name, accepts_word, accepts_symbol}
use Rattle.type_parser.specs.Writing.{write_formals}
use Rattle.type_parser.specs.Grammar.{formed_formals}
use Rattle.type_parser.proofs.Shrinks.{optional_formals_shrinks}
use Rattle.type_parser.proofs.FollowedFormals.{FormalEnds, FormalsFollowed, result_followed, optional_formals_followed}
use Rattle.unit_parser.specs.Writing.{optional_result as write_result, write_heading}
use Rattle.unit_parser.specs.Grammar.{formed_heading}
use Rattle.unit_parser.specs.Parts.{procedure_heading, optional_result, function_heading, heading}
use Rattle.unit_parser.proofs.Shrinks.{optional_result_shrinks}

abbrev pub write_optional : Option Formals → Layout
write_optional f = optional_part (option_map write_formals f)

module _ (n : Until) (W : Type 0) (end : Span) (k : ℕ) where
  -- a result, or none before a semicolon
  module _ (child : Parser Placed Formals) (shrinks : Shrinks child) (good : FormalsFollowed n W k child) where
    optional_result_followed : (t : Option TypeName) (w : List Token) (s : List Placed) → Along n (spell (write_result t) (Symbol mark.Semicolon ∷ w)) s → Followed n W (Symbol mark.Semicolon ∷ w) (optional_result end s)
    unfolding optional_result same_symbol
    optional_result_followed None w s h = follow_second _ _ _ (looks_at (looks_symbol mark.Colon) h) (follow_pure _ h)
    optional_result_followed (Some t) w s h =
        follow_first _ _ _ (looks_at (looks_symbol mark.Colon) h) (follow_then (result_followed n W end t (Symbol mark.Semicolon ∷ w) s h) (λ a. pure_shrinks _) (λ a r h. follow_pure _ h))

    -- what follows formal parameters before a result, or none, and a semicolon
    result_ends : (t : Option TypeName) (w : List Token) → FormalEnds (spell (write_result t) (Symbol mark.Semicolon ∷ w))
    unfolding same_symbol
    result_ends None w = record { some = λ e. absurd cc; formals = refl }
    result_ends (Some t) w = record { some = λ e. absurd cc; formals = refl }

    pub heading_followed : (h : Heading) → Part W k (write_heading h) (formed_heading h) → (w : List Token) (s : List Placed) → Along n (spell (write_heading h) (Symbol mark.Semicolon ∷ w)) s → Followed n W (Symbol mark.Semicolon ∷ w) (heading end child s)
    unfolding heading procedure_heading function_heading same_word same_symbol
    heading_followed (heading_.Procedure name formals span) part w s h =
        let f = write_optional formals in
        let p = part_right (word word_.KwProcedure & identifier name) f (part_inside (word word_.KwProcedure & identifier name & f) part) in
        follow_second _ _ _ (looks_at (looks_word word_.KwFunction) h) (follow_token (words word_.KwProcedure) (accepts_word word_.KwProcedure) h
        (λ _. then_shrinks (one_shrinks _) (λ x. then_shrinks (optional_formals_shrinks end child shrinks) (λ f. λ n r k. pure_shrinks _ n r k))) (λ _ r h.
        follow_token identifiers (accepts_name name.name) h (λ x. then_shrinks (optional_formals_shrinks end child shrinks) (λ f. λ n r k. pure_shrinks _ n r k)) (λ x r h.
        follow_then (optional_formals_followed n W end k child shrinks good formals p (Symbol mark.Semicolon ∷ w) (result_ends None w) r h) (λ f. λ n r k. pure_shrinks _ n r k) (λ f r h. follow_pure _ h))))
    heading_followed (heading_.Function name formals t span) part w s h =
        let f = write_optional formals in
        let p = part_left f (write_result t) (part_right (word word_.KwFunction & identifier name) (f & write_result t) (part_inside (word word_.KwFunction & identifier name & f & write_result t) part)) in
        follow_first _ _ _ (looks_at (looks_word word_.KwFunction) h) (follow_token (words word_.KwFunction) (accepts_word word_.KwFunction) h
        (λ _. then_shrinks (one_shrinks _) (λ x. then_shrinks (optional_formals_shrinks end child shrinks) (λ f. then_shrinks (optional_result_shrinks dialect.Iso end child shrinks) (λ t. λ n r k. pure_shrinks _ n r k)))) (λ _ r h.
        follow_token identifiers (accepts_name name.name) h (λ x. then_shrinks (optional_formals_shrinks end child shrinks) (λ f. then_shrinks (optional_result_shrinks dialect.Iso end child shrinks) (λ t. λ n r k. pure_shrinks _ n r k))) (λ y r h.
        follow_then (optional_formals_followed n W end k child shrinks good formals p (spell (write_result t) (Symbol mark.Semicolon ∷ w)) (result_ends t w) r (along_as (spell_join f (write_result t) (Symbol mark.Semicolon ∷ w)) h)) (λ f. then_shrinks (optional_result_shrinks dialect.Iso end child shrinks) (λ t. λ n r k. pure_shrinks _ n r k)) (λ f r h.
        follow_then (optional_result_followed t w r h) (λ t. λ n r k. pure_shrinks _ n r k) (λ t r h. follow_pure _ h)))))
