-- What the reading of texts answers, phase by phase.
use Rattle.std.specs.Prelude.{◌≡◌, ℕ, List, ◌++◌, length}
use Rattle.p2c_text.specs.declared.dialect.Dialect.{Dialect}
use Rattle.p2c_text.specs.Text.{NamedBytes}
use Rattle.dialect_lexer.specs.FileTokens.{FileTokens}
use Rattle.dialect_lexer.specs.Tokens.{Lexes}
use Rattle.pascal_tree.specs.declared.files.SourceFile.{SourceFile}
use Rattle.translate_core.specs.Accepted.{AllLex, AllDerive}
use Rattle.translate_core.specs.Refused.{HasNoTokens, HasNoTree, FailsToLex, FailsToParse}
use Rattle.translate_core.specs.declared.refusal.Refusal.{Refusal}
use Rattle.translate_core.specs.declared.refusal.Refusal.TheVariants as refusal

-- ---- of one text

abbrev pub IsLexed : Dialect → (file : ℕ) → (bytes : List ℕ) → FileTokens → Type 0
IsLexed d file bytes list = Lexes d bytes list × (list.file ≡ file)

abbrev pub LexRefusal : Dialect → (file : ℕ) → (bytes : List ℕ) → Refusal → Type 0
LexRefusal d file bytes (refusal.Lex fault) = HasNoTokens d file bytes fault
LexRefusal d file bytes (refusal.Memory error) = Unit {0}
LexRefusal d file bytes _ = ⊥

abbrev pub ParseRefusal : Dialect → NamedBytes → FileTokens → Refusal → Type 0
ParseRefusal d t list (refusal.Syntax fault) = HasNoTree d t list fault
ParseRefusal d t list (refusal.Memory error) = Unit {0}
ParseRefusal d t list _ = ⊥

-- ---- of all texts

abbrev pub LexRefuses : Dialect → List NamedBytes → Refusal → Type 0
LexRefuses d texts (refusal.Lex fault) = FailsToLex d texts fault
LexRefuses d texts (refusal.Memory error) = Unit {0}
LexRefuses d texts _ = ⊥

abbrev pub ParseRefuses : Dialect → List NamedBytes → Refusal → Type 0
ParseRefuses d texts (refusal.Syntax fault) = FailsToParse d texts fault
ParseRefuses d texts (refusal.Memory error) = Unit {0}
ParseRefuses d texts _ = ⊥

-- ---- part of the way

-- the tokens of the texts before `rest`
pub record LexedUpTo (d : Dialect) (texts rest : List NamedBytes) (file : ℕ) (lists : List FileTokens) : Type 0 where
  pub before : List NamedBytes
  pub is : texts ≡ before ++ rest
  pub count : file ≡ length before
  pub lexed : AllLex d 0 before lists

-- the trees of the texts before `rest`, of whose tokens these are left
pub record ParsedUpTo (d : Dialect) (texts rest : List NamedBytes) (lists left : List FileTokens) (trees : List SourceFile) : Type 0 where
  pub before : List NamedBytes
  pub used : List FileTokens
  pub is : texts ≡ before ++ rest
  pub lists_are : lists ≡ used ++ left
  pub to_read : AllLex d (length before) rest left
  pub derived : AllDerive d before used trees
