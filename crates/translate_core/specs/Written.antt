-- What trees write, or the first node that is not built.
use Rattle.std.specs.Prelude.{ℕ, List, [], ◌∷◌}
use Rattle.p2c_text.specs.declared.dialect.Dialect.{Dialect}
use Rattle.pascal_tree.specs.declared.files.SourceFile.{SourceFile}
use Rattle.writer_trees.specs.Unbuilt.{FileWrites}
use Rattle.translate_core.specs.Refused.{FirstUnbuiltIn}
use Rattle.translate_core.specs.declared.refusal.Refusal.{Refusal}
use Rattle.translate_core.specs.declared.refusal.Refusal.TheVariants as refusal

abbrev pub AreWritten : Dialect → List SourceFile → List ℕ → Type 0
AreWritten d (file ∷ []) bytes = FileWrites d file bytes
AreWritten d _ bytes = ⊥

abbrev pub WritingRefuses : Dialect → List SourceFile → Refusal → Type 0
WritingRefuses d files (refusal.Unbuilt span) = FirstUnbuiltIn d files span
WritingRefuses d files (refusal.Memory error) = Unit {0}
WritingRefuses d files _ = ⊥
