-- What the translation of files is, and why they are not translated.
use Rattle.std.specs.Prelude.{◌≡◌, ◌⊎◌, ℕ, ◌<◌, Option, None, Some, List, ⊤}
use Rattle.p2c_text.specs.declared.dialect.Dialect.{Dialect}
use Rattle.p2c_text.specs.declared.place.Span.{Span}
use Rattle.p2c_text.specs.Text.{NamedBytes}
use Rattle.dialect_lexer.specs.declared.fault.LexFault.TheVariants as lex
use Rattle.expr_parser.specs.declared.fault.SyntaxFault.TheVariants as syntax
use Rattle.p2c_outside.specs.Told.{Named, Gains}
use Rattle.held_bytes.specs.Written.{GainsPart}
use Rattle.agreement.specs.Writers.{Writing}
use Rattle.translate_core.specs.Accepted.{size, Accepts}
use Rattle.translate_core.specs.Refused as core
use Rattle.translate_core.specs.Translated.{IsTranslation}
use Rattle.translate_core.specs.declared.refusal.Refusal.{Refusal}
use Rattle.translate_core.specs.declared.refusal.Refusal.TheVariants as refusal
use Rattle.p2c_top.specs.Reading.{AreTexts, Passes}
use Rattle.p2c_top.specs.Words.{Translating, task_asked}
use Rattle.p2c_top.specs.declared.outcome.SourceFault.{SourceFault}
use Rattle.p2c_top.specs.declared.outcome.SourceFault.TheVariants as source
use Rattle.p2c_top.specs.declared.outcome.Outcome.{Outcome}
use Rattle.p2c_top.specs.declared.outcome.Outcome.TheVariants.{Ended, Usage, TooLong, BadSource, BadText, OutOfMemory, Spent, Stuck}

-- what was written gained the translation of the texts of the files
abbrev pub Translates : Option Named → Dialect → (names : List (List ℕ)) → (old new : Option (List ℕ)) → Type 0
Translates told d names old new = (texts : List NamedBytes) × (text : List ℕ) × AreTexts told names texts × IsTranslation d texts text × Gains old new text

-- what was written gained a proper prefix of such a translation
abbrev pub TranslatesPart : Option Named → Dialect → (names : List (List ℕ)) → (old new : Option (List ℕ)) → Type 0
TranslatesPart told d names old new = (texts : List NamedBytes) × (text : List ℕ) × AreTexts told names texts × IsTranslation d texts text × GainsPart old new text

-- ---- refusals

-- the answer to a refusal: its kind, and the file and the line of its place
abbrev pub at : SourceFault → Span → Outcome
at fault span = BadSource fault span.file span.line

abbrev pub answer_to : Refusal → Outcome
answer_to refusal.TooLong = TooLong
answer_to (refusal.Lex (lex.At kind span)) = at (source.Lexical kind) span
answer_to (refusal.Lex (lex.Memory error)) = OutOfMemory
answer_to (refusal.Syntax (syntax.Unexpected span)) = at source.Unexpected span
answer_to (refusal.Syntax (syntax.TooDeep span)) = at source.TooDeep span
answer_to (refusal.Syntax (syntax.Memory error)) = OutOfMemory
answer_to (refusal.Unbuilt span) = at source.Unbuilt span
answer_to (refusal.Memory error) = OutOfMemory

-- the texts of the files are refused, and this is the answer to it
abbrev pub RefusedWith : Option Named → Dialect → (names : List (List ℕ)) → Outcome → Type 0
RefusedWith told d names outcome = (texts : List NamedBytes) × (r : Refusal) × AreTexts told names texts × core.Refuses d texts r × (outcome ≡ answer_to r)

-- the files read so far are too long, or the texts are not accepted
abbrev pub Refused : Option Named → Dialect → (names : List (List ℕ)) → Type 0
Refused told d names = Passes told 8388608 names ⊎ ((texts : List NamedBytes) × AreTexts told names texts × ((ws : List Writing) → Accepts d texts ws → ⊥))

-- the words ask to translate files that are told, and their texts are accepted
abbrev pub AsksForAccepted : Option Named → (words : List (List ℕ)) → Type 0
AsksForAccepted None words = ⊥
AsksForAccepted (Some files) words = (d : Dialect) × (names : List (List ℕ)) × (texts : List NamedBytes) × (ws : List Writing) × (task_asked words ≡ Some (Translating d names)) × AreTexts (Some files) names texts × Accepts d texts ws

-- an answer of a translation
abbrev pub IsOfTranslation : Outcome → Type 0
IsOfTranslation (Ended status) = ⊥
IsOfTranslation Usage = ⊥
IsOfTranslation (BadText kind line) = ⊥
IsOfTranslation Spent = ⊥
IsOfTranslation (Stuck kind) = ⊥
IsOfTranslation _ = ⊤
