-- Why texts are refused: the first of the phases that fails, and in it the first text.
use Rattle.std.specs.Prelude.{◌≡◌, ◌⊎◌, ℕ, ◌≤◌, ◌<◌, List, [], ◌∷◌, ◌++◌, length}
use Rattle.p2c_text.specs.declared.dialect.Dialect.{Dialect}
use Rattle.p2c_text.specs.declared.place.Span.{Span}
use Rattle.p2c_text.specs.Text.{NamedBytes}
use Rattle.dialect_lexer.specs.FileTokens.{FileTokens}
use Rattle.dialect_lexer.specs.Tokens.{IsRefused}
use Rattle.dialect_lexer.specs.declared.fault.LexFault.{LexFault}
use Rattle.dialect_lexer.specs.declared.fault.LexFault.TheVariants as lex
use Rattle.pascal_tree.specs.declared.files.SourceFile.{SourceFile}
use Rattle.pascal_tree.specs.declared.files.SourceFile.TheVariants as text
use Rattle.expr_parser.specs.Parsed.{end_of}
use Rattle.expr_parser.specs.Tokens.{seen}
use Rattle.expr_parser.specs.declared.fault.SyntaxFault.{SyntaxFault}
use Rattle.expr_parser.specs.declared.fault.SyntaxFault.TheVariants as syntax
use Rattle.unit_parser.specs.Text.{Faults}
use Rattle.agreement.specs.Writers.{Writing}
use Rattle.writer_trees.specs.Files.{IsWriterFile}
use Rattle.writer_trees.specs.Unbuilt.{FirstUnbuilt}
use Rattle.translate_core.specs.Accepted.{size, AllLex, AllDerive, HaveTrees}
use Rattle.translate_core.specs.declared.refusal.Refusal.{Refusal}
use Rattle.translate_core.specs.declared.refusal.Refusal.TheVariants as refusal

-- the text has a fault, and no tokens
abbrev pub HasNoTokens : Dialect → (file : ℕ) → (bytes : List ℕ) → LexFault → Type 0
HasNoTokens d file bytes (lex.At kind span) = IsRefused d file bytes (lex.At kind span)
HasNoTokens d file bytes (lex.Memory error) = ⊥

-- the tokens of the text have a fault, and no tree
abbrev pub HasNoTree : Dialect → NamedBytes → FileTokens → SyntaxFault → Type 0
HasNoTree d t list (syntax.Unexpected span) = Faults d (end_of list.file t.bytes) (seen t.bytes list.tokens) (syntax.Unexpected span)
HasNoTree d t list (syntax.TooDeep span) = Faults d (end_of list.file t.bytes) (seen t.bytes list.tokens) (syntax.TooDeep span)
HasNoTree d t list (syntax.Memory error) = ⊥

-- the first text without tokens, and its fault
pub record FailsToLex (d : Dialect) (texts : List NamedBytes) (fault : LexFault) : Type 0 where
  pub before : List NamedBytes
  pub failing : NamedBytes
  pub after : List NamedBytes
  pub texts_are : texts ≡ before ++ failing ∷ after
  pub lists : List FileTokens
  pub lexed : AllLex d 0 before lists
  pub refused : HasNoTokens d (length before) failing.bytes fault

-- all texts have tokens; the first without a tree, and its fault
pub record FailsToParse (d : Dialect) (texts : List NamedBytes) (fault : SyntaxFault) : Type 0 where
  pub before : List NamedBytes
  pub failing : NamedBytes
  pub after : List NamedBytes
  pub texts_are : texts ≡ before ++ failing ∷ after
  pub lists : List FileTokens
  pub list : FileTokens
  pub more : List FileTokens
  pub lexed : AllLex d 0 texts (lists ++ list ∷ more)
  pub trees : List SourceFile
  pub derived : AllDerive d before lists trees
  pub refused : HasNoTree d failing list fault

abbrev pub span_of : SourceFile → Span
span_of (text.Program p) = p.span
span_of (text.UnitText u) = u.span
span_of (text.Module m) = m.span

-- the first node that is not built, in the order of the files; a second file is such a node
abbrev pub FirstUnbuiltIn : Dialect → List SourceFile → Span → Type 0
FirstUnbuiltIn d [] span = ⊥
FirstUnbuiltIn d (file ∷ []) span = FirstUnbuilt d file span
FirstUnbuiltIn d (file ∷ second ∷ more) span = FirstUnbuilt d file span ⊎ ((ws : List Writing) × IsWriterFile d file ws × (span ≡ span_of second))

abbrev pub IsUnbuilt : Dialect → List NamedBytes → Span → Type 0
IsUnbuilt d texts span = (trees : List SourceFile) × HaveTrees d texts trees × FirstUnbuiltIn d trees span

abbrev pub Refuses : Dialect → List NamedBytes → Refusal → Type 0
Refuses d texts refusal.TooLong = 8388608 < size texts
Refuses d texts (refusal.Lex fault) = (size texts ≤ 8388608) × FailsToLex d texts fault
Refuses d texts (refusal.Syntax fault) = (size texts ≤ 8388608) × FailsToParse d texts fault
Refuses d texts (refusal.Unbuilt span) = (size texts ≤ 8388608) × IsUnbuilt d texts span
Refuses d texts (refusal.Memory error) = Unit {0}
