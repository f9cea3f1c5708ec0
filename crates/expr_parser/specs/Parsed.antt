-- What a call of the parser answers.
use Rattle.std.specs.Prelude.{◌≡◌, ℕ, Bool, ◌+◌, ◌-◌, List, ◌++◌, length, drop, Result, Ok, Err}
use Rattle.p2c_text.specs.declared.dialect.Dialect.{Dialect}
use Rattle.p2c_text.specs.declared.place.Span.{Span}
use Rattle.dialect_lexer.specs.FileTokens.{FileTokens}
use Rattle.dialect_lexer.specs.Tokens.{span_of}
use Rattle.pascal_tree.specs.declared.expressions.Expr.{Expr}
use Rattle.token_parsing.specs.declared.refusal.Refusal.TheVariants as refusal
use Rattle.token_parsing.specs.declared.refusal.ParseError.{ParseError}
use Rattle.token_parsing.specs.declared.refusal.ParseError.TheVariants as error
use Rattle.token_parsing.specs.Parser.{Outcome}
use Rattle.expr_parser.specs.declared.fault.SyntaxFault.{SyntaxFault}
use Rattle.expr_parser.specs.declared.fault.SyntaxFault.TheVariants as fault
use Rattle.expr_parser.specs.Tokens.{Placed, seen, plain}
use Rattle.expr_parser.specs.Spans.{next_place}
use Rattle.expr_parser.specs.Layout.{Layout}
use Rattle.expr_parser.specs.Writing.{write_expr}
use Rattle.expr_parser.specs.Grammar.{formed_expr}
use Rattle.expr_parser.specs.Text.{IsDerived, MayBeginIn, IsLongest, NoTree, NoneFits}

-- the empty place at the end of a text
abbrev pub end_of : ℕ → List ℕ → Span
end_of file bytes = span_of file bytes (length bytes) (length bytes)

-- the place of the token from which so many are left
abbrev pub place_left : Span → List Placed → ℕ → Span
place_left end tokens left = next_place end (drop (length tokens - left) tokens)

-- the fault that a refusal becomes
abbrev pub Means : Span → List Placed → ParseError → SyntaxFault → Type 0
Means end tokens (error.At (refusal.Unexpected left)) f = f ≡ fault.Unexpected (place_left end tokens left)
Means end tokens (error.At (refusal.TooDeep left)) f = f ≡ fault.TooDeep (place_left end tokens left)
Means end tokens (error.Memory e) f = f ≡ fault.Memory e

-- The answer is what the parser gives for the tokens from `at` on: a tree with the number of tokens up to its end, or a refused place.
abbrev pub Answers : {A : Type 0} → Span → List Placed → Outcome Placed A → Result (A × ℕ) SyntaxFault → Type 0
Answers end tokens given (Ok p) = (rest : List Placed) × (given ≡ Ok (p.0, rest)) × (p.1 ≡ length tokens - length rest)
Answers end tokens given (Err (fault.Unexpected place)) = (left : ℕ) × (given ≡ Err (refusal.Unexpected left)) × (place ≡ place_left end tokens left)
Answers end tokens given (Err (fault.TooDeep place)) = (left : ℕ) × (given ≡ Err (refusal.TooDeep left)) × (place ≡ place_left end tokens left)
Answers end tokens given (Err (fault.Memory e)) = Unit {0}

-- What a tree of some kind, with outermost nodes of this level, from `at` on, of tokens of these bytes, is read as. The longest run of tokens with which such a tree begins is looked at: its tree, which has no node above the level 400, and
-- the number of tokens up to its end; or the token after it, where it is none; or a token at which a node of the level 401 may begin, where it has no tree with fewer levels.
abbrev pub IsReadAs : {C : Type 0} → Dialect → (C → Layout) → (C → Bool) → List ℕ → FileTokens → (at level : ℕ) → Result (C × ℕ) SyntaxFault → Type 0
IsReadAs d layout form bytes list at level (Ok p) =
    let end = end_of list.file bytes in
    let from = drop at (seen bytes list.tokens) in
    (run rest : List Placed) × IsLongest d layout form from run rest × IsDerived d layout form end (401 - level) p.0 from rest × (p.1 ≡ at + length run)
IsReadAs d layout form bytes list at level (Err (fault.Unexpected place)) =
    let end = end_of list.file bytes in
    let from = drop at (seen bytes list.tokens) in
    (run rest : List Placed) × IsLongest d layout form from run rest × NoTree d layout form run × (place ≡ next_place end rest)
IsReadAs d layout form bytes list at level (Err (fault.TooDeep place)) =
    let end = end_of list.file bytes in
    let from = drop at (seen bytes list.tokens) in
    (front bad : List Placed) × (from ≡ front ++ bad) × MayBeginIn d layout form level 401 (plain front) × (place ≡ next_place end bad) × NoneFits d layout form (401 - level) from
IsReadAs d layout form bytes list at level (Err (fault.Memory e)) = Unit {0}

-- what an expression is read as
abbrev pub IsRead : Dialect → List ℕ → FileTokens → (at level : ℕ) → Result (Expr × ℕ) SyntaxFault → Type 0
IsRead d bytes list at level result = IsReadAs d write_expr (formed_expr d) bytes list at level result
