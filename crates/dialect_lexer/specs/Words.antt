-- Word symbols: how they are spelled, in which dialects they are ones, and which name is one.
use Rattle.std.specs.Prelude.{ℕ, Bool, true, not, ◌&&◌, ◌||◌, ◌==◌, if◌then◌else◌, List, [], ◌∷◌, Option, codes, find}
use Rattle.std.specs.Str.{bytes_eq, str_to_ascii_lowercase}
use Rattle.std.specs.Char.{to_ascii_lowercase}
use Rattle.p2c_text.specs.declared.dialect.Dialect.{Dialect}
use Rattle.dialect_lexer.specs.Dialects.{is_iso, is_turbo, is_ucsd, is_hp}
use Rattle.dialect_lexer.specs.declared.token.Word.{Word}
use Rattle.dialect_lexer.specs.declared.token.Word.TheVariants as word

abbrev pub word_bytes : Word → List ℕ
word_bytes word.KwAnd = codes "and"
word_bytes word.KwArray = codes "array"
word_bytes word.KwBegin = codes "begin"
word_bytes word.KwCase = codes "case"
word_bytes word.KwConst = codes "const"
word_bytes word.KwDiv = codes "div"
word_bytes word.KwDo = codes "do"
word_bytes word.KwDownto = codes "downto"
word_bytes word.KwElse = codes "else"
word_bytes word.KwEnd = codes "end"
word_bytes word.KwExport = codes "export"
word_bytes word.KwFile = codes "file"
word_bytes word.KwFor = codes "for"
word_bytes word.KwFunction = codes "function"
word_bytes word.KwGoto = codes "goto"
word_bytes word.KwIf = codes "if"
word_bytes word.KwImplement = codes "implement"
word_bytes word.KwImplementation = codes "implementation"
word_bytes word.KwImport = codes "import"
word_bytes word.KwIn = codes "in"
word_bytes word.KwInterface = codes "interface"
word_bytes word.KwLabel = codes "label"
word_bytes word.KwMod = codes "mod"
word_bytes word.KwModule = codes "module"
word_bytes word.KwNil = codes "nil"
word_bytes word.KwNot = codes "not"
word_bytes word.KwOf = codes "of"
word_bytes word.KwOr = codes "or"
word_bytes word.KwOtherwise = codes "otherwise"
word_bytes word.KwPacked = codes "packed"
word_bytes word.KwProcedure = codes "procedure"
word_bytes word.KwProgram = codes "program"
word_bytes word.KwRecord = codes "record"
word_bytes word.KwRecover = codes "recover"
word_bytes word.KwRepeat = codes "repeat"
word_bytes word.KwSet = codes "set"
word_bytes word.KwShl = codes "shl"
word_bytes word.KwShr = codes "shr"
word_bytes word.KwString = codes "string"
word_bytes word.KwThen = codes "then"
word_bytes word.KwTo = codes "to"
word_bytes word.KwTry = codes "try"
word_bytes word.KwType = codes "type"
word_bytes word.KwUnit = codes "unit"
word_bytes word.KwUntil = codes "until"
word_bytes word.KwUses = codes "uses"
word_bytes word.KwVar = codes "var"
word_bytes word.KwWhile = codes "while"
word_bytes word.KwWith = codes "with"
word_bytes word.KwXor = codes "xor"

-- whether it is a word symbol of the dialect
abbrev pub is_word_in : Dialect → Word → Bool
is_word_in d word.KwExport = is_hp d
is_word_in d word.KwImplement = is_hp d
is_word_in d word.KwImplementation = is_turbo d || is_ucsd d
is_word_in d word.KwImport = is_hp d
is_word_in d word.KwInterface = is_turbo d || is_ucsd d
is_word_in d word.KwModule = is_hp d
is_word_in d word.KwOtherwise = is_hp d
is_word_in d word.KwRecover = is_hp d
is_word_in d word.KwShl = is_turbo d
is_word_in d word.KwShr = is_turbo d
is_word_in d word.KwString = not (is_iso d)
is_word_in d word.KwTry = is_hp d
is_word_in d word.KwUnit = is_turbo d || is_ucsd d
is_word_in d word.KwUses = is_turbo d || is_ucsd d
is_word_in d word.KwXor = is_turbo d
is_word_in d other = true

-- the word symbols that begin with this small letter
unfoldable pub words_with : ℕ → List Word
words_with letter =
    if letter == 97 then word.KwAnd ∷ word.KwArray ∷ []
    else if letter == 98 then word.KwBegin ∷ []
    else if letter == 99 then word.KwCase ∷ word.KwConst ∷ []
    else if letter == 100 then word.KwDiv ∷ word.KwDo ∷ word.KwDownto ∷ []
    else if letter == 101 then word.KwElse ∷ word.KwEnd ∷ word.KwExport ∷ []
    else if letter == 102 then word.KwFile ∷ word.KwFor ∷ word.KwFunction ∷ []
    else if letter == 103 then word.KwGoto ∷ []
    else if letter == 105 then word.KwIf ∷ word.KwImplement ∷ word.KwImplementation ∷ word.KwImport ∷ word.KwIn ∷ word.KwInterface ∷ []
    else if letter == 108 then word.KwLabel ∷ []
    else if letter == 109 then word.KwMod ∷ word.KwModule ∷ []
    else if letter == 110 then word.KwNil ∷ word.KwNot ∷ []
    else if letter == 111 then word.KwOf ∷ word.KwOr ∷ word.KwOtherwise ∷ []
    else if letter == 112 then word.KwPacked ∷ word.KwProcedure ∷ word.KwProgram ∷ []
    else if letter == 114 then word.KwRecord ∷ word.KwRecover ∷ word.KwRepeat ∷ []
    else if letter == 115 then word.KwSet ∷ word.KwShl ∷ word.KwShr ∷ word.KwString ∷ []
    else if letter == 116 then word.KwThen ∷ word.KwTo ∷ word.KwTry ∷ word.KwType ∷ []
    else if letter == 117 then word.KwUnit ∷ word.KwUntil ∷ word.KwUses ∷ []
    else if letter == 118 then word.KwVar ∷ []
    else if letter == 119 then word.KwWhile ∷ word.KwWith ∷ []
    else if letter == 120 then word.KwXor ∷ []
    else []

-- the word symbol of the dialect that the name b ∷ more is, in capital or small letters
unfoldable pub word_of : Dialect → ℕ → List ℕ → Option Word
word_of d b more = find (λ w. is_word_in d w && bytes_eq (word_bytes w) (str_to_ascii_lowercase (b ∷ more))) (words_with (to_ascii_lowercase b))
