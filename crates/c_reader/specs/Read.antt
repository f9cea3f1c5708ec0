-- What reading answers.
use Rattle.std.specs.Prelude.{◌≡◌, ◌⊎◌, ℕ, ◌+◌, ◌==◌, List, length, take, count_by, Result, Ok, Err}
use Rattle.c_tree.specs.declared.program.CProgram.{CProgram}
use Rattle.c_grammar.specs.declared.fault.CTextKind.{CTextKind}
use Rattle.c_grammar.specs.declared.fault.CTextKind.TheVariants as kind
use Rattle.c_grammar.specs.Seen.{tokens_of, AreTokens}
use Rattle.c_grammar.specs.Text.{CText, Begins, Faults, TokenAt, plain}
use Rattle.c_grammar.specs.Token.{Placed, IsTokens}
use Rattle.c_scanner.specs.declared.text.PlacedTokens.{PlacedTokens}
use Rattle.c_scanner.specs.Seen.{seen}
use Rattle.c_reader.specs.declared.fault.CTextFault.{CTextFault}
use Rattle.c_reader.specs.declared.fault.CTextFault.TheVariants.{At, Memory}

-- the text is cut into these tokens
pub record IsCut (bytes : List ℕ) (text : PlacedTokens) : Type 0 where
  pub cut : IsTokens bytes (seen text)
  pub names : AreTokens (tokens_of text.tokens.items)

-- the line of a place: one more than the line ends before it
abbrev pub line_at : List ℕ → ℕ → ℕ
line_at bytes place = 1 + count_by (λ byte. byte == 10) (take place bytes)

-- some text of the grammar begins with the tokens before this place, which is that of a token or the end
abbrev pub BeginsUpTo : List ℕ → ℕ → Type 0
BeginsUpTo bytes place = ((before : List Placed) × (t : Placed) × TokenAt bytes before t × Begins (plain before) × (place ≡ t.place))
    ⊎ ((tokens : List Placed) × IsTokens bytes tokens × Begins (plain tokens) × (place ≡ length bytes))

-- nothing before the place is unexpected
abbrev pub IsFirst : List ℕ → CTextKind → ℕ → Type 0
IsFirst bytes kind.Unexpected place = BeginsUpTo bytes place
IsFirst bytes kind.NoMain place = BeginsUpTo bytes place
IsFirst bytes _ place = Unit {0}

-- no tree has the bytes, and a condition of this kind fails at a place of this line: where tokens are
-- unexpected, the first such place
pub record IsNoText (bytes : List ℕ) (kind : CTextKind) (line : ℕ) : Type 0 where
  pub none : (c : CProgram) → CText bytes c → ⊥
  pub place : ℕ
  pub fails : Faults bytes kind place
  pub first : IsFirst bytes kind place
  pub on_line : line ≡ line_at bytes place

abbrev pub IsFault : List ℕ → CTextFault → Type 0
IsFault bytes (At kind line) = IsNoText bytes kind line
IsFault bytes (Memory e) = Unit {0}

-- the answer is this tree, unless memory was wanting
abbrev pub IsTree : CProgram → Result CProgram CTextFault → Type 0
IsTree c (Ok d) = d ≡ c
IsTree c (Err (At kind line)) = ⊥
IsTree c (Err (Memory e)) = Unit {0}
