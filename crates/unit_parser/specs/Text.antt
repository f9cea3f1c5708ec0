-- Which tokens are a text with which tree, and where and why tokens are none.
use Rattle.std.specs.Prelude.{◌≡◌, ◌⊎◌, ℕ, ◌≤◌, List, [], ◌∷◌, ◌++◌, Result, Ok, Err}
use Rattle.p2c_text.specs.declared.dialect.Dialect.{Dialect}
use Rattle.p2c_text.specs.declared.place.Span.{Span}
use Rattle.dialect_lexer.specs.FileTokens.{FileTokens}
use Rattle.pascal_tree.specs.declared.files.SourceFile.{SourceFile}
use Rattle.expr_parser.specs.declared.fault.SyntaxFault.{SyntaxFault}
use Rattle.expr_parser.specs.declared.fault.SyntaxFault.TheVariants as fault
use Rattle.expr_parser.specs.Tokens.{Token, Placed, plain, seen}
use Rattle.expr_parser.specs.Spans.{next_place}
use Rattle.expr_parser.specs.Layout.{tokens_of, height_of}
use Rattle.expr_parser.specs.Text.{IsDerived, Begins, MayBeginIn, NoTree}
use Rattle.expr_parser.specs.Parsed.{end_of}
use Rattle.unit_parser.specs.Writing.{write_file}
use Rattle.unit_parser.specs.Grammar.{IsFile, formed_file}

-- The tree is that of the tokens, each span is that of the tokens of its node, and no path has more than 400 counted nodes. The text ends at the place `end`.
abbrev pub Derives : Dialect → Span → SourceFile → List Placed → Type 0
Derives d end f tokens = IsDerived d (write_file d) (formed_file d) end 400 f tokens []

-- some text of the grammar, whatever its height, begins with these tokens
abbrev pub BeginsText : Dialect → List Token → Type 0
BeginsText d tokens = Begins d (write_file d) (formed_file d) tokens

-- after these tokens a node of this level may begin, in some text of the grammar
abbrev pub MayBegin : Dialect → (level : ℕ) → List Token → Type 0
MayBegin d level front = MayBeginIn d (write_file d) (formed_file d) 1 level front

-- no text of the grammar has just these tokens
abbrev pub NoText : Dialect → List Placed → Type 0
NoText d tokens = NoTree d (write_file d) (formed_file d) tokens

-- no text of the grammar with just these tokens has at most so many counted nodes on each path
abbrev pub NoFlatText : Dialect → (levels : ℕ) → List Placed → Type 0
NoFlatText d levels tokens = (f : SourceFile) → IsFile d f → tokens_of (write_file d f) ≡ plain tokens → height_of (write_file d f) ≤ levels → ⊥

-- ---- faults

-- the first token with which no text begins
abbrev pub UnexpectedToken : Dialect → List Placed → Span → Type 0
UnexpectedToken d tokens place = (front : List Placed) × (t : Placed) × (more : List Placed)
    × (tokens ≡ front ++ t ∷ more) × BeginsText d (plain front) × (BeginsText d (plain (front ++ t ∷ [])) → ⊥) × (place ≡ t.span)

-- a text begins with the tokens, and they are none themselves
abbrev pub UnexpectedEnd : Dialect → Span → List Placed → Span → Type 0
UnexpectedEnd d end tokens place = BeginsText d (plain tokens) × NoText d tokens × (place ≡ end)

-- No tree of the tokens has at most 400 levels. At the place, which is that of a token or the end of the text, a node of the next level may begin.
abbrev pub IsTooDeep : Dialect → Span → List Placed → Span → Type 0
IsTooDeep d end tokens place = NoFlatText d 400 tokens × (front bad : List Placed) × (tokens ≡ front ++ bad) × MayBegin d 401 (plain front) × (place ≡ next_place end bad)

abbrev pub Faults : Dialect → Span → List Placed → SyntaxFault → Type 0
Faults d end tokens (fault.Unexpected place) = UnexpectedToken d tokens place ⊎ UnexpectedEnd d end tokens place
Faults d end tokens (fault.TooDeep place) = IsTooDeep d end tokens place
Faults d end tokens (fault.Memory error) = Unit {0}

-- ---- the answer

abbrev pub Answered : Dialect → Span → List Placed → Result SourceFile SyntaxFault → Type 0
Answered d end tokens (Ok f) = Derives d end f tokens
Answered d end tokens (Err e) = Faults d end tokens e

-- the tokens of these bytes have no other tree
abbrev pub IsOnlyTree : Dialect → List ℕ → FileTokens → SourceFile → Type 0
IsOnlyTree d bytes list f = (g : SourceFile) → Derives d (end_of list.file bytes) g (seen bytes list.tokens) → g ≡ f

-- the tree of the tokens of these bytes, or why there is none
abbrev pub Parses : Dialect → List ℕ → FileTokens → Result SourceFile SyntaxFault → Type 0
Parses d bytes list result = Answered d (end_of list.file bytes) (seen bytes list.tokens) result
