-- From what the parser gives to what is answered.
use Rattle.std.proofs.Common.{◌≡◌, ◌⊎◌, ℕ, List, Result, Ok, Err, IfOk, refl, sym, ap, subst, ◌∙◌}
use Rattle.p2c_text.specs.declared.dialect.Dialect.{Dialect}
use Rattle.p2c_text.specs.declared.place.Span.{Span}
use Rattle.dialect_lexer.specs.FileTokens.{FileTokens}
use Rattle.dialect_lexer.specs.Tokens.{Lexes}
use Rattle.dialect_lexer.specs.declared.token.Token.{Token as LexedToken}
use Rattle.pascal_tree.specs.declared.files.SourceFile.{SourceFile}
use Rattle.token_parsing.specs.declared.refusal.Refusal.TheVariants as refusal
use Rattle.token_parsing.specs.declared.refusal.ParseError.{ParseError}
use Rattle.token_parsing.specs.declared.refusal.ParseError.TheVariants as error_
use Rattle.token_parsing.specs.Parser.{Outcome, Fails}
use Rattle.expr_parser.specs.declared.fault.SyntaxFault.{SyntaxFault}
use Rattle.expr_parser.specs.declared.fault.SyntaxFault.TheVariants as fault
use Rattle.expr_parser.specs.Tokens.{Placed, seen}
use Rattle.expr_parser.specs.Parsed.{end_of, Means}
use Rattle.expr_parser.proofs.Answered.{tokens_known}
use Rattle.unit_parser.specs.Files.{file}
use Rattle.unit_parser.specs.Parsed.{Answers}
use Rattle.unit_parser.specs.Text.{UnexpectedToken, UnexpectedEnd, IsTooDeep, IsOnlyTree, Parses}
use Rattle.unit_parser.proofs.Clauses.{read_is_derived, unexpected_is_first, too_deep_is_deep}
use Rattle.unit_parser.proofs.ExactLaws.{derived_is_unique}

pub refused_answers : (end : Span) (tokens : List Placed) (given : Outcome Placed SourceFile) (e : ParseError) (f : SyntaxFault) → Fails e given → Means end tokens e f → Answers end tokens given (Err f)
refused_answers end tokens given (error_.At (refusal.Unexpected left)) f fails m = subst (λ z. Answers end tokens given (Err z)) (sym m) (left, fails, refl)
refused_answers end tokens given (error_.At (refusal.TooDeep left)) f fails m = subst (λ z. Answers end tokens given (Err z)) (sym m) (left, fails, refl)
refused_answers end tokens given (error_.Memory e) f fails m = subst (λ z. Answers end tokens given (Err z)) (sym m) tt

answer_is_parsed : (d : Dialect) (bytes : List ℕ) (list : FileTokens) (result : Result SourceFile SyntaxFault) → Lexes d bytes list
    → Answers (end_of list.file bytes) (seen bytes list.tokens) (file d (end_of list.file bytes) 400 (seen bytes list.tokens)) result → Parses d bytes list result
answer_is_parsed d bytes list (Ok f) lexes is = read_is_derived d (end_of list.file bytes) (seen bytes list.tokens) f (tokens_known d bytes list lexes) is
answer_is_parsed d bytes list (Err (fault.Unexpected place)) lexes (left, is, at) =
    let end = end_of list.file bytes in let tokens = seen bytes list.tokens in
    subst (λ p. UnexpectedToken d tokens p ⊎ UnexpectedEnd d end tokens p) (sym at) (unexpected_is_first d end tokens left (tokens_known d bytes list lexes) is)
answer_is_parsed d bytes list (Err (fault.TooDeep place)) lexes (left, is, at) =
    let end = end_of list.file bytes in let tokens = seen bytes list.tokens in
    subst (λ p. IsTooDeep d end tokens p) (sym at) (too_deep_is_deep d end tokens left (tokens_known d bytes list lexes) is)
answer_is_parsed d bytes list (Err (fault.Memory e)) lexes h = tt

pub given_is_parsed : (d : Dialect) (bytes : List ℕ) (list : FileTokens) (result : Result SourceFile SyntaxFault) (end : Span) (number : ℕ) (slice : List LexedToken)
    → end ≡ end_of number bytes → number ≡ list.file → slice ≡ list.tokens → Lexes d bytes list → Answers end (seen bytes slice) (file d end 400 (seen bytes slice)) result → Parses d bytes list result
given_is_parsed d bytes list result end number slice is_end is_number is_slice lexes h =
    let here : end ≡ end_of list.file bytes = is_end ∙ ap (λ f. end_of f bytes) is_number in
    let of_list : Answers end (seen bytes list.tokens) (file d end 400 (seen bytes list.tokens)) result = subst (λ s. Answers end (seen bytes s) (file d end 400 (seen bytes s)) result) is_slice h in
    answer_is_parsed d bytes list result lexes (subst (λ z. Answers z (seen bytes list.tokens) (file d z 400 (seen bytes list.tokens)) result) here of_list)

pub parsed_is_only : (d : Dialect) (bytes : List ℕ) (list : FileTokens) (result : Result SourceFile SyntaxFault) → Parses d bytes list result → IfOk result (IsOnlyTree d bytes list)
parsed_is_only d bytes list (Ok f) h = λ g k. derived_is_unique d (end_of list.file bytes) g f (seen bytes list.tokens) k h
parsed_is_only d bytes list (Err e) h = tt
