-- The tree of a whole text is the one that is read, and there is no other.
use Rattle.std.proofs.Common.{[]}
use Rattle.expr_parser.proofs.Unique as unique
use Rattle.unit_parser.specs.Writing.{write_file}
use Rattle.unit_parser.specs.Grammar.{formed_file}
use Rattle.unit_parser.specs.Files.{file}
use Rattle.unit_parser.specs.Laws.{TreeIsUnique, DerivedIsRead, DerivedIsUnique}
use Rattle.unit_parser.proofs.ExactFiles.{file_exact}

pub tree_is_unique : TreeIsUnique
tree_is_unique d end m n f g from rest h k = unique.derived_is_unique d (write_file d) (formed_file d) (file d) (file_exact d) end m n f g from rest h k

pub derived_is_read : DerivedIsRead
derived_is_read d end f tokens h = let fits = h.fits in file_exact d end 400 f (record { formed = h.of_grammar.formed; fits = λ _. fits }) tokens h.written

pub derived_is_unique : DerivedIsUnique
derived_is_unique d end f g tokens h k = tree_is_unique d end 400 400 f g tokens [] h k
