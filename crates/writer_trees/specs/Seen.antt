-- What the code finds in a statement.
use Rattle.agreement.specs.Writers.{Writing, Nothing, LineEnd, Text, Line}
use Rattle.writer_trees.specs.declared.statements.Found.{Found}
use Rattle.writer_trees.specs.declared.statements.Found.TheVariants as found

abbrev pub seen : Found → Writing
seen found.Nothing = Nothing
seen found.LineEnd = LineEnd
seen (found.Text bytes) = Text bytes.now
seen (found.Line bytes) = Line bytes.now
