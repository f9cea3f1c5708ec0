-- How a tree is written: its tokens, and around them the nodes with their spans.
use Rattle.std.specs.Prelude.{◌≡◌, ℕ, suc, ◌+◌, max, List, [], ◌∷◌, ◌++◌, length}
use Rattle.p2c_text.specs.declared.place.Span.{Span}
use Rattle.dialect_lexer.specs.declared.token.Word.{Word as WordSymbol}
use Rattle.dialect_lexer.specs.declared.token.Symbol.{Symbol as SpecialSymbol}
use Rattle.dialect_lexer.specs.declared.token.Symbol.TheVariants.{Comma}
use Rattle.expr_parser.specs.Tokens.{Token, Placed, Word, Symbol}
use Rattle.expr_parser.specs.Spans.{span_between}

-- a token, the parts of a node with their span, or the parts of a node that counts for the height; and what comes after
pub data Layout : Type 0 where
  Done : Layout
  Leaf : (token : Token) → (after : Layout) → Layout
  Spanned : (span : Span) → (inside after : Layout) → Layout
  Counted : (inside after : Layout) → Layout

-- one after the other
infixr 20 ◌&◌
abbrev pub ◌&◌ : Layout → Layout → Layout
Done & other = other
(Leaf t after) & other = Leaf t (after & other)
(Spanned span inside after) & other = Spanned span inside (after & other)
(Counted inside after) & other = Counted inside (after & other)

abbrev pub token : Token → Layout
token t = Leaf t Done

abbrev pub word : WordSymbol → Layout
word w = token (Word w)

abbrev pub symbol : SpecialSymbol → Layout
symbol s = token (Symbol s)

abbrev pub spanned : Span → Layout → Layout
spanned span inside = Spanned span inside Done

abbrev pub counted : Layout → Layout
counted inside = Counted inside Done

-- {A}
abbrev pub in_row : List Layout → Layout
in_row [] = Done
in_row (part ∷ more) = part & in_row more

-- {"," A}
abbrev pub after_commas : List Layout → Layout
after_commas [] = Done
after_commas (part ∷ more) = symbol Comma & part & after_commas more

-- [A {"," A}]
abbrev pub with_commas : List Layout → Layout
with_commas [] = Done
with_commas (part ∷ more) = part & after_commas more

-- ---- what is read off

abbrev pub tokens_of : Layout → List Token
tokens_of Done = []
tokens_of (Leaf t after) = t ∷ tokens_of after
tokens_of (Spanned span inside after) = tokens_of inside ++ tokens_of after
tokens_of (Counted inside after) = tokens_of inside ++ tokens_of after

-- the greatest number of counted nodes on one path
abbrev pub height_of : Layout → ℕ
height_of Done = 0
height_of (Leaf t after) = height_of after
height_of (Spanned span inside after) = max (height_of inside) (height_of after)
height_of (Counted inside after) = max (suc (height_of inside)) (height_of after)

-- Each counted node with the number of tokens before it and its level. The outermost have the level given, and so many tokens stand before the first part.
abbrev pub levels_of : (level before : ℕ) → Layout → List (ℕ × ℕ)
levels_of level before Done = []
levels_of level before (Leaf t after) = levels_of level (suc before) after
levels_of level before (Spanned span inside after) = levels_of level before inside ++ levels_of level (before + length (tokens_of inside)) after
levels_of level before (Counted inside after) = (before, level) ∷ levels_of (suc level) before inside ++ levels_of level (before + length (tokens_of inside)) after

-- It is written by the tokens `from` up to `rest`, and each span is that of the tokens of its node.
abbrev pub IsWritten : Span → Layout → List Placed → List Placed → Type 0
IsWritten end Done from rest = from ≡ rest
IsWritten end (Leaf t after) from rest = (first : Placed) × (more : List Placed) × (from ≡ first ∷ more) × (first.token ≡ t) × IsWritten end after more rest
IsWritten end (Spanned span inside after) from rest = (middle : List Placed) × (span ≡ span_between end from middle) × IsWritten end inside from middle × IsWritten end after middle rest
IsWritten end (Counted inside after) from rest = (middle : List Placed) × IsWritten end inside from middle × IsWritten end after middle rest
