-- What the texts write becomes their translation.
use Rattle.std.proofs.Common.{◌≡◌, ℕ, ◌≤◌, List, [], ◌∷◌, refl, subst, ◌∙◌, ap, sym}
use Rattle.std.specs.List.{AllByRecursion}
use Rattle.p2c_text.specs.declared.dialect.Dialect.{Dialect}
use Rattle.p2c_text.specs.Text.{NamedBytes}
use Rattle.dialect_lexer.specs.FileTokens.{FileTokens}
use Rattle.pascal_tree.specs.declared.files.SourceFile.{SourceFile}
use Rattle.c_tree.specs.declared.program.CProgram.{CProgram}
use Rattle.c_grammar.specs.Text.{CText, IsCTree}
use Rattle.c_printer.specs.Text.{program_text}
use Rattle.c_printer.proofs.ReadBack.{text_read_back}
use Rattle.agreement.specs.Laws.{IsByte}
use Rattle.agreement.specs.Agrees.{pascal, told}
use Rattle.agreement.specs.Writers.{Writing, all_bytes, typed_writer, writer_of}
use Rattle.c_meaning.specs.Follows.{FollowsAlways}
use Rattle.c_meaning.specs.Runs as c
use Rattle.c_meaning.specs.Runs.{CRun}
use Rattle.program_shape.specs.OfTyped.{outline_of}
use Rattle.program_shape.specs.Shape.{Shape}
use Rattle.program_shape.specs.Laws.{NothingPerforms}
use Rattle.agreement.proofs.WritersAgree.{writers_follow}
use Rattle.agreement.proofs.WritersEnd.{writers_end}
use Rattle.program_shape.proofs.Writers.{writers_have_shape}
use Rattle.translate_core.specs.Accepted.{size, AllLex, AllDerive, Write}
use Rattle.translate_core.specs.Translated.{IsTranslation, IsTree}
use Rattle.translate_core.specs.Written.{AreWritten}

-- the one tree of the texts is that of a program that writes these bytes
pub accepted : (d : Dialect) (texts : List NamedBytes) (lists : List FileTokens) (trees : List SourceFile) (bytes : List ℕ) → size texts ≤ 8388608
    → AllLex d 0 texts lists → AllDerive d texts lists trees → AreWritten d trees bytes → Write d texts bytes
accepted d texts lists [] bytes short lexed derived none = absurd none
accepted d texts lists (tree ∷ []) bytes short lexed derived (ws, writer, put) =
    (ws, record { short = short; tree = tree; one = record { lists = lists; lexed = lexed; derived = derived }; writer = writer }, put)
accepted d texts lists (tree ∷ second ∷ more) bytes short lexed derived none = absurd none

-- where a program of texts ends, a C program that follows it ends
c_ends : (d : Dialect) (ws : List Writing) (program : CProgram) → FollowsAlways (pascal (typed_writer d ws)) program → (input : List ℕ) → (m : ℕ) × (CRun program input m ≡ c.End (all_bytes ws) 0 [])
c_ends d ws program follows input = let (n, is) = writers_end d ws input in (follows input).ends n (all_bytes ws) 0 [] (ap told is)

-- the tree of the C program is that of its printed text, which is a translation
pub made : (d : Dialect) (texts : List NamedBytes) (bytes : List ℕ) (program : CProgram) → Write d texts bytes → AllByRecursion IsByte bytes → program ≡ writer_of bytes → IsCTree program → IsTree d texts program
made d texts bytes program (ws, accepts, put) small value tree =
    let is : program ≡ writer_of (all_bytes ws) = value ∙ ap writer_of put in
    let follows : FollowsAlways (pascal (typed_writer d ws)) program = subst (λ c. FollowsAlways (pascal (typed_writer d ws)) c) (sym is) (writers_follow d ws (subst (AllByRecursion IsByte) put small)) in (
      program_text program,
      record {
        writings = ws;
        accepts = accepts;
        agrees = record {
          program = program;
          text = text_read_back (program_text program) program refl tree;
          follows = follows;
        };
        shape = λ variable_name. subst (λ c. Shape NothingPerforms (outline_of variable_name (typed_writer d ws)) c) (sym is) (writers_have_shape variable_name d ws (all_bytes ws));
        ends = writers_end d ws;
        c_ends = c_ends d ws program follows;
      },
      refl,
    )

pub is_tree : (d : Dialect) (texts : List NamedBytes) (program : CProgram) → IsTree d texts program → IsCTree program
is_tree d texts program (text, t, is) = subst IsCTree is t.agrees.text.tree

-- another text with this tree is a translation too
pub printed : (d : Dialect) (texts : List NamedBytes) (program : CProgram) (text : List ℕ) → IsTree d texts program → CText text program → IsTranslation d texts text
printed d texts program text (other, t, is) read = record {
  writings = t.writings;
  accepts = t.accepts;
  agrees = record { program = t.agrees.program; text = subst (λ c. CText text c) (sym is) read; follows = t.agrees.follows };
  shape = t.shape;
  ends = t.ends;
  c_ends = t.c_ends;
}
