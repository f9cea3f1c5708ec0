-- What the answers of `program` mean, in the words of the grammar.
use Rattle.std.specs.Prelude.{◌≡◌, ℕ, List, [], ◌∷◌, ◌++◌, length, Ok, Err}
use Rattle.c_tree.specs.declared.program.CProgram.{CProgram}
use Rattle.c_grammar.specs.Token.{Token}
use Rattle.c_grammar.specs.Seen.{AreTokens}
use Rattle.c_grammar.specs.Text.{Spells, Begins, MayBegin}
use Rattle.token_parsing.specs.declared.refusal.Refusal.TheVariants.{Unexpected, TooDeep}
use Rattle.c_expr_parser.specs.Depth.{Fits}
use Rattle.c_parser.specs.Programs.{program}

-- the tokens before a refused place, and those from it on, of which there are so many
pub record Split (tokens front bad : List Token) (left : ℕ) : Type 0 where
  pub is : tokens ≡ front ++ bad
  pub long : length bad ≡ left

-- no text of the grammar begins with the tokens up to the first of those from the place on; where there is none, the tokens are no text
abbrev pub Ends : List Token → List Token → Type 0
Ends front [] = (c : CProgram) → Spells c front → ⊥
Ends front (t ∷ more) = Begins (front ++ t ∷ []) → ⊥

-- The tree that is read spells the tokens, and no more than 2,400 statements and expressions are nested in it.
abbrev pub ReadIsSpelled : Type 0
ReadIsSpelled = (tokens : List Token) (c : CProgram) (rest : List Token) → AreTokens tokens → program tokens ≡ Ok (c, rest) → Spells c tokens × Fits 2400 c

-- An unexpected token is the first with which no text begins.
abbrev pub UnexpectedIsFirst : Type 0
UnexpectedIsFirst = (tokens : List Token) (left : ℕ) → AreTokens tokens → program tokens ≡ Err (Unexpected left)
    → (front bad : List Token) × Split tokens front bad left × Begins front × Ends front bad

-- Where something is too deep, a text exists that is nested so deep there, and the tokens are no text within the levels.
abbrev pub TooDeepIsDeep : Type 0
TooDeepIsDeep = (tokens : List Token) (left : ℕ) → AreTokens tokens → program tokens ≡ Err (TooDeep left)
    → (front bad : List Token) × Split tokens front bad left × MayBegin 2401 front × ((c : CProgram) → Spells c tokens → Fits 2400 c → ⊥)

-- each tree within the levels is read from its tokens
abbrev pub SpelledIsRead : Type 0
SpelledIsRead = (tokens : List Token) (c : CProgram) → Spells c tokens → Fits 2400 c → program tokens ≡ Ok (c, [])
