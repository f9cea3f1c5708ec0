-- Tokens of texts: those that each dialect has, and those that stand in units and modules.
use Rattle.std.proofs.Common.{◌≡◌, ℕ, Bool, true, false, List, [], ◌∷◌, refl}
use Rattle.p2c_text.specs.declared.dialect.Dialect.{Dialect}
use Rattle.p2c_text.specs.declared.dialect.Dialect.TheVariants as dialect
use Rattle.dialect_lexer.specs.Bytes.{start_of}
use Rattle.dialect_lexer.specs.Ends.{run}
use Rattle.dialect_lexer.specs.Words.{is_word_in, word_of, words_with}
use Rattle.dialect_lexer.specs.Cut.{cut_by, cut_name, cut_symbol}
use Rattle.dialect_lexer.specs.declared.token.TokenKind.TheVariants as kind
use Rattle.dialect_lexer.specs.declared.token.Word.TheVariants as word_
use Rattle.dialect_lexer.specs.declared.token.Symbol.TheVariants as mark
use Rattle.dialect_lexer.proofs.Pieces.{cut_front}
use Rattle.expr_parser.specs.Tokens.{Word, Symbol}
use Rattle.expr_parser.specs.Grammar.{IsToken}
use Rattle.expr_parser.proofs.KnownTokens.{whole_known}
use Rattle.expr_parser.proofs.WordsKnown.{word_of_dialect}

pub dot_known : (d : Dialect) → IsToken d (Symbol mark.Dot)
unfolding start_of cut_by cut_symbol
dot_known dialect.Iso = whole_known dialect.Iso (46 ∷ []) (kind.Symbol mark.Dot) (cut_front dialect.Iso 46 [])
dot_known dialect.Turbo = whole_known dialect.Turbo (46 ∷ []) (kind.Symbol mark.Dot) (cut_front dialect.Turbo 46 [])
dot_known dialect.Ucsd = whole_known dialect.Ucsd (46 ∷ []) (kind.Symbol mark.Dot) (cut_front dialect.Ucsd 46 [])
dot_known dialect.Hp = whole_known dialect.Hp (46 ∷ []) (kind.Symbol mark.Dot) (cut_front dialect.Hp 46 [])

-- `program`
abbrev program_bytes : List ℕ
program_bytes = 112 ∷ 114 ∷ 111 ∷ 103 ∷ 114 ∷ 97 ∷ 109 ∷ []

pub program_known : (d : Dialect) → IsToken d (Word word_.KwProgram)
unfolding start_of cut_by cut_name run word_of words_with
program_known dialect.Iso = whole_known dialect.Iso program_bytes (kind.Word word_.KwProgram) (cut_front dialect.Iso 112 (114 ∷ 111 ∷ 103 ∷ 114 ∷ 97 ∷ 109 ∷ []))
program_known dialect.Turbo = whole_known dialect.Turbo program_bytes (kind.Word word_.KwProgram) (cut_front dialect.Turbo 112 (114 ∷ 111 ∷ 103 ∷ 114 ∷ 97 ∷ 109 ∷ []))
program_known dialect.Ucsd = whole_known dialect.Ucsd program_bytes (kind.Word word_.KwProgram) (cut_front dialect.Ucsd 112 (114 ∷ 111 ∷ 103 ∷ 114 ∷ 97 ∷ 109 ∷ []))
program_known dialect.Hp = whole_known dialect.Hp program_bytes (kind.Word word_.KwProgram) (cut_front dialect.Hp 112 (114 ∷ 111 ∷ 103 ∷ 114 ∷ 97 ∷ 109 ∷ []))

-- `interface`
abbrev interface_bytes : List ℕ
interface_bytes = 105 ∷ 110 ∷ 116 ∷ 101 ∷ 114 ∷ 102 ∷ 97 ∷ 99 ∷ 101 ∷ []

-- `implementation`
abbrev implementation_bytes : List ℕ
implementation_bytes = 105 ∷ 109 ∷ 112 ∷ 108 ∷ 101 ∷ 109 ∷ 101 ∷ 110 ∷ 116 ∷ 97 ∷ 116 ∷ 105 ∷ 111 ∷ 110 ∷ []

interface_by : (d : Dialect) → is_word_in d word_.KwUnit ≡ true → IsToken d (Word word_.KwInterface)
unfolding start_of cut_by cut_name run word_of words_with
interface_by dialect.Turbo h = whole_known dialect.Turbo interface_bytes (kind.Word word_.KwInterface) (cut_front dialect.Turbo 105 (110 ∷ 116 ∷ 101 ∷ 114 ∷ 102 ∷ 97 ∷ 99 ∷ 101 ∷ []))
interface_by dialect.Ucsd h = whole_known dialect.Ucsd interface_bytes (kind.Word word_.KwInterface) (cut_front dialect.Ucsd 105 (110 ∷ 116 ∷ 101 ∷ 114 ∷ 102 ∷ 97 ∷ 99 ∷ 101 ∷ []))
interface_by dialect.Iso h = absurd cc
interface_by dialect.Hp h = absurd cc

implementation_by : (d : Dialect) → is_word_in d word_.KwUnit ≡ true → IsToken d (Word word_.KwImplementation)
unfolding start_of cut_by cut_name run word_of words_with
implementation_by dialect.Turbo h = whole_known dialect.Turbo implementation_bytes (kind.Word word_.KwImplementation) (cut_front dialect.Turbo 105 (109 ∷ 112 ∷ 108 ∷ 101 ∷ 109 ∷ 101 ∷ 110 ∷ 116 ∷ 97 ∷ 116 ∷ 105 ∷ 111 ∷ 110 ∷ []))
implementation_by dialect.Ucsd h = whole_known dialect.Ucsd implementation_bytes (kind.Word word_.KwImplementation) (cut_front dialect.Ucsd 105 (109 ∷ 112 ∷ 108 ∷ 101 ∷ 109 ∷ 101 ∷ 110 ∷ 116 ∷ 97 ∷ 116 ∷ 105 ∷ 111 ∷ 110 ∷ []))
implementation_by dialect.Iso h = absurd cc
implementation_by dialect.Hp h = absurd cc

-- `export`
abbrev export_bytes : List ℕ
export_bytes = 101 ∷ 120 ∷ 112 ∷ 111 ∷ 114 ∷ 116 ∷ []

-- `implement`
abbrev implement_bytes : List ℕ
implement_bytes = 105 ∷ 109 ∷ 112 ∷ 108 ∷ 101 ∷ 109 ∷ 101 ∷ 110 ∷ 116 ∷ []

export_by : (d : Dialect) → is_word_in d word_.KwModule ≡ true → IsToken d (Word word_.KwExport)
unfolding start_of cut_by cut_name run word_of words_with
export_by dialect.Hp h = whole_known dialect.Hp export_bytes (kind.Word word_.KwExport) (cut_front dialect.Hp 101 (120 ∷ 112 ∷ 111 ∷ 114 ∷ 116 ∷ []))
export_by dialect.Iso h = absurd cc
export_by dialect.Turbo h = absurd cc
export_by dialect.Ucsd h = absurd cc

implement_by : (d : Dialect) → is_word_in d word_.KwModule ≡ true → IsToken d (Word word_.KwImplement)
unfolding start_of cut_by cut_name run word_of words_with
implement_by dialect.Hp h = whole_known dialect.Hp implement_bytes (kind.Word word_.KwImplement) (cut_front dialect.Hp 105 (109 ∷ 112 ∷ 108 ∷ 101 ∷ 109 ∷ 101 ∷ 110 ∷ 116 ∷ []))
implement_by dialect.Iso h = absurd cc
implement_by dialect.Turbo h = absurd cc
implement_by dialect.Ucsd h = absurd cc

-- ---- a dialect that has units or modules has their words

pub interface_known : (d : Dialect) → IsToken d (Word word_.KwUnit) → IsToken d (Word word_.KwInterface)
interface_known d h = interface_by d (word_of_dialect d word_.KwUnit h)

pub implementation_known : (d : Dialect) → IsToken d (Word word_.KwUnit) → IsToken d (Word word_.KwImplementation)
implementation_known d h = implementation_by d (word_of_dialect d word_.KwUnit h)

pub export_known : (d : Dialect) → IsToken d (Word word_.KwModule) → IsToken d (Word word_.KwExport)
export_known d h = export_by d (word_of_dialect d word_.KwModule h)

pub implement_known : (d : Dialect) → IsToken d (Word word_.KwModule) → IsToken d (Word word_.KwImplement)
implement_known d h = implement_by d (word_of_dialect d word_.KwModule h)
