-- The answers, their statuses and the lines on standard error.
use Rattle.std.specs.Prelude.{ℕ, List, [], ◌++◌, codes, decimal}
use Rattle.dialect_lexer.specs.declared.fault.LexKind.TheVariants as lex
use Rattle.c_grammar.specs.declared.fault.CTextKind.{CTextKind}
use Rattle.c_grammar.specs.declared.fault.CTextKind.TheVariants as text
use Rattle.c_meaning.specs.declared.StuckKind.{StuckKind}
use Rattle.c_meaning.specs.declared.StuckKind.TheVariants as stuck
use Rattle.p2c_top.specs.declared.outcome.SourceFault.{SourceFault}
use Rattle.p2c_top.specs.declared.outcome.SourceFault.TheVariants as source
use Rattle.p2c_top.specs.declared.outcome.Outcome.{Outcome}
use Rattle.p2c_top.specs.declared.outcome.Outcome.TheVariants.{Done, Ended, Usage, TooLong, BadSource, BadText, Missing, ReadFault, WriteFault, OutOfMemory, Spent, Stuck}

abbrev pub status_of : Outcome → ℕ
status_of Done = 0
status_of (Ended status) = status
status_of Usage = 240
status_of TooLong = 241
status_of (BadSource fault file line) = 241
status_of (BadText kind line) = 241
status_of (Missing file) = 242
status_of ReadFault = 243
status_of WriteFault = 244
status_of OutOfMemory = 245
status_of Spent = 246
status_of (Stuck kind) = 247

-- the number of the file of which the answer speaks, from 0 on
abbrev pub file_of : Outcome → ℕ
file_of (BadSource fault file line) = file
file_of (Missing file) = file
file_of _ = 0

-- ---- the lines

-- what follows the line's number where a text is none of the C subset
abbrev pub kind_text : CTextKind → List ℕ
kind_text text.BadByte = codes ": C BadByte\n"
kind_text text.Unexpected = codes ": C Unexpected\n"
kind_text text.TooDeep = codes ": C TooDeep\n"
kind_text text.BadGoto = codes ": C BadGoto\n"
kind_text text.DoubleName = codes ": C DoubleName\n"
kind_text text.NoMain = codes ": C NoMain\n"
kind_text text.BadType = codes ": C BadType\n"

-- what follows the line's number where a text is not translated
abbrev pub source_text : SourceFault → List ℕ
source_text (source.Lexical lex.BadByte) = codes ": lexical BadByte\n"
source_text (source.Lexical lex.OpenComment) = codes ": lexical OpenComment\n"
source_text (source.Lexical lex.OpenString) = codes ": lexical OpenString\n"
source_text (source.Lexical lex.NumberTooBig) = codes ": lexical NumberTooBig\n"
source_text (source.Lexical lex.RealLiteral) = codes ": lexical RealLiteral\n"
source_text (source.Lexical lex.IncludeFile) = codes ": lexical IncludeFile\n"
source_text source.Unexpected = codes ": syntax Unexpected\n"
source_text source.TooDeep = codes ": syntax TooDeep\n"
source_text source.Unbuilt = codes ": typing Unbuilt\n"

-- the line where a program does what C leaves undefined
abbrev pub stuck_text : StuckKind → List ℕ
stuck_text stuck.Overflow = codes "p2c: undefined in C: Overflow\n"
stuck_text stuck.ZeroDivide = codes "p2c: undefined in C: ZeroDivide\n"
stuck_text stuck.Indeterminate = codes "p2c: undefined in C: Indeterminate\n"
stuck_text stuck.NullUse = codes "p2c: undefined in C: NullUse\n"
stuck_text stuck.GoneUse = codes "p2c: undefined in C: GoneUse\n"
stuck_text stuck.BadIndex = codes "p2c: undefined in C: BadIndex\n"
stuck_text stuck.BadShift = codes "p2c: undefined in C: BadShift\n"
stuck_text stuck.BadByteValue = codes "p2c: undefined in C: BadByteValue\n"
stuck_text stuck.BadFree = codes "p2c: undefined in C: BadFree\n"
stuck_text stuck.NoValue = codes "p2c: undefined in C: NoValue\n"
stuck_text stuck.UnknownName = codes "p2c: undefined in C: UnknownName\n"
stuck_text stuck.Mismatch = codes "p2c: undefined in C: Mismatch\n"
stuck_text stuck.BadStatus = codes "p2c: undefined in C: BadStatus\n"

-- the line for an answer about the file of this name
abbrev pub message_of : Outcome → List ℕ → List ℕ
message_of Done name = []
message_of (Ended status) name = []
message_of Usage name = codes "p2c: usage: translate [-L iso|turbo|ucsd|hp] FILE.. | run [--steps N] FILE | sample --seed N --size N\n"
message_of TooLong name = codes "p2c: text too long\n"
message_of (BadSource fault file line) name = name ++ codes ":" ++ decimal line ++ source_text fault
message_of (BadText kind line) name = name ++ codes ":" ++ decimal line ++ kind_text kind
message_of (Missing file) name = codes "p2c: no file " ++ name ++ codes "\n"
message_of ReadFault name = codes "p2c: read fault\n"
message_of WriteFault name = codes "p2c: write fault\n"
message_of OutOfMemory name = codes "p2c: out of memory\n"
message_of Spent name = codes "p2c: steps spent\n"
message_of (Stuck kind) name = stuck_text kind
