-- Which bytes are a text with which tree, and where the conditions fail.
use Rattle.std.specs.Prelude.{◌≡◌, ◌⊎◌, ℕ, ◌+◌, false, List, [], ◌∷◌, ◌++◌, length, Some, None, map, slice_get}
use Rattle.std.specs.List.{Contains}
use Rattle.c_tree.specs.declared.program.CProgram.{CProgram}
use Rattle.c_grammar.specs.declared.fault.CTextKind.{CTextKind}
use Rattle.c_grammar.specs.declared.fault.CTextKind.TheVariants as kind
use Rattle.c_grammar.specs.declared.token.Word.TheVariants as word
use Rattle.c_grammar.specs.Token.{Token, Quoted, Placed, form, is_white, head_lines, CutsTo, IsTokens}
use Rattle.c_grammar.specs.Spelling.{program_tokens}
use Rattle.c_grammar.specs.Grammar.{IsProgram}
use Rattle.c_grammar.specs.Demands.{Demand, Level, Holds, HoldAll, kind_of, program_demands}

-- the tokens without their places
abbrev pub plain : List Placed → List Token
plain tokens = map (λ (t : Placed). t.token) tokens

-- the tokens are a text of the grammar with this tree, whatever its depth and whatever its names mean
pub record Spells (c : CProgram) (tokens : List Token) : Type 0 where
  pub of_grammar : IsProgram c
  pub spelled : program_tokens c ≡ tokens

-- a tree of the subset: of the grammar, and with all further conditions
pub record IsCTree (c : CProgram) : Type 0 where
  pub of_grammar : IsProgram c
  pub conditions : HoldAll (program_demands c)

-- the bytes are a text with the tree c
pub record CText (bytes : List ℕ) (c : CProgram) : Type 0 where
  pub tokens : List Placed
  pub cut : IsTokens bytes tokens
  pub spelled : program_tokens c ≡ plain tokens
  pub tree : IsCTree c

-- ---- where the conditions fail

-- some text of the grammar, whatever its depth, begins with these tokens
abbrev pub Begins : List Token → Type 0
Begins tokens = (c : CProgram) × (more : List Token) × Spells c (tokens ++ more)

-- after these tokens a statement or expression of this level may begin, in some text of the grammar
abbrev pub MayBegin : ℕ → List Token → Type 0
MayBegin level front = (c : CProgram) × (more : List Token) × Spells c (front ++ more) × Contains (program_demands c) (length front, Level level)

-- the bytes and the head lines agree up to this place and not at it
abbrev pub HeadFails : List ℕ → ℕ → Type 0
HeadFails bytes place = (front : List ℕ) × (wanted : ℕ) × (lines after : List ℕ)
    × (head_lines ≡ front ++ wanted ∷ lines) × (bytes ≡ front ++ after) × ((more : List ℕ) → after ≡ wanted ∷ more → ⊥) × (place ≡ length front)

-- after the tokens and white space before it, no token begins at this place
abbrev pub NoTokenAt : List ℕ → ℕ → Type 0
NoTokenAt bytes place = (tokens : List Placed) × (b : ℕ) × (rest : List ℕ)
    × CutsTo bytes tokens (b ∷ rest) × (is_white b ≡ false) × ((front after : List ℕ) → b ∷ rest ≡ front ++ after → form front ≡ None) × (place + length (b ∷ rest) ≡ length bytes)

-- of all tokens of the bytes up to this one, the last is t
abbrev pub TokenAt : List ℕ → List Placed → Placed → Type 0
TokenAt bytes before t = (rest : List ℕ) × CutsTo bytes (before ++ t ∷ []) rest

abbrev pub UnexpectedToken : List ℕ → ℕ → Type 0
UnexpectedToken bytes place = (before : List Placed) × (t : Placed) × TokenAt bytes before t × (Begins (plain (before ++ t ∷ [])) → ⊥) × (place ≡ t.place)

abbrev pub UnexpectedEnd : List ℕ → ℕ → Type 0
UnexpectedEnd bytes place = (tokens : List Placed) × IsTokens bytes tokens × ((c : CProgram) → Spells c (plain tokens) → ⊥) × (place ≡ length bytes)

-- a condition of this kind fails at this place of the bytes
abbrev pub DemandFails : CTextKind → List ℕ → ℕ → Type 0
DemandFails kind bytes place = (tokens : List Placed) × (c : CProgram) × IsTokens bytes tokens × Spells c (plain tokens)
    × (n : ℕ) × (d : Demand) × Contains (program_demands c) (n, d) × (kind_of d ≡ kind) × (Holds d → ⊥)
    × (t : Placed) × (slice_get tokens n ≡ Some t) × (place ≡ t.place)

-- the condition of this kind fails, and the fault may name this place, which is a count of bytes
abbrev pub Faults : List ℕ → CTextKind → ℕ → Type 0
Faults bytes kind.BadByte place = HeadFails bytes place ⊎ NoTokenAt bytes place
Faults bytes kind.Unexpected place = UnexpectedToken bytes place ⊎ UnexpectedEnd bytes place
Faults bytes kind.TooDeep place = (before : List Placed) × (t : Placed) × TokenAt bytes before t × MayBegin 2401 (plain before) × (place ≡ t.place)
Faults bytes kind.BadGoto place = DemandFails kind.BadGoto bytes place
Faults bytes kind.DoubleName place = DemandFails kind.DoubleName bytes place
Faults bytes kind.NoMain place = (tokens : List Placed) × IsTokens bytes tokens × (Contains (plain tokens) (Quoted word.Main) → ⊥) × (place ≡ length bytes)
Faults bytes kind.BadType place = DemandFails kind.BadType bytes place
