-- Which texts are translated.
use Rattle.std.specs.Prelude.{◌≡◌, ℕ, suc, ◌+◌, ◌≤◌, List, [], ◌∷◌, length}
use Rattle.p2c_text.specs.declared.dialect.Dialect.{Dialect}
use Rattle.p2c_text.specs.Text.{NamedBytes}
use Rattle.dialect_lexer.specs.FileTokens.{FileTokens}
use Rattle.dialect_lexer.specs.Tokens.{Lexes}
use Rattle.pascal_tree.specs.declared.files.SourceFile.{SourceFile}
use Rattle.expr_parser.specs.Parsed.{end_of}
use Rattle.expr_parser.specs.Tokens.{seen}
use Rattle.unit_parser.specs.Text.{Derives}
use Rattle.agreement.specs.Writers.{Writing, all_bytes}
use Rattle.writer_trees.specs.Files.{IsWriterFile}

-- the bytes of all texts
abbrev pub size : List NamedBytes → ℕ
size [] = 0
size (t ∷ texts) = length t.bytes + size texts

-- these are the tokens of the texts, of which the first has this number
abbrev pub AllLex : Dialect → (file : ℕ) → List NamedBytes → List FileTokens → Type 0
AllLex d file [] [] = Unit {0}
AllLex d file [] (list ∷ lists) = ⊥
AllLex d file (t ∷ texts) [] = ⊥
AllLex d file (t ∷ texts) (list ∷ lists) = Lexes d t.bytes list × (list.file ≡ file) × AllLex d (suc file) texts lists

-- the tree is that of the tokens of this text
abbrev pub DerivesText : Dialect → NamedBytes → FileTokens → SourceFile → Type 0
DerivesText d t list tree = Derives d (end_of list.file t.bytes) tree (seen t.bytes list.tokens)

-- these are the trees of the texts with these tokens
abbrev pub AllDerive : Dialect → List NamedBytes → List FileTokens → List SourceFile → Type 0
AllDerive d [] lists trees = (lists ≡ []) × (trees ≡ [])
AllDerive d (t ∷ texts) [] trees = ⊥
AllDerive d (t ∷ texts) (list ∷ lists) [] = ⊥
AllDerive d (t ∷ texts) (list ∷ lists) (tree ∷ trees) = DerivesText d t list tree × AllDerive d texts lists trees

-- the texts have these trees
pub record HaveTrees (d : Dialect) (texts : List NamedBytes) (trees : List SourceFile) : Type 0 where
  pub lists : List FileTokens
  pub lexed : AllLex d 0 texts lists
  pub derived : AllDerive d texts lists trees

-- the texts are one program that writes literal texts, with these statements, and not too long
pub record Accepts (d : Dialect) (texts : List NamedBytes) (ws : List Writing) : Type 0 where
  pub short : size texts ≤ 8388608
  pub tree : SourceFile
  pub one : HaveTrees d texts (tree ∷ [])
  pub writer : IsWriterFile d tree ws

-- the program that the texts are writes these bytes
abbrev pub Write : Dialect → List NamedBytes → (bytes : List ℕ) → Type 0
Write d texts bytes = (ws : List Writing) × Accepts d texts ws × (bytes ≡ all_bytes ws)
