-- Worked examples: what the code finds at the front of bytes.
use Rattle.std.proofs.Common.{◌≡◌, [], ◌∷◌, refl}
use Rattle.std.specs.Prelude.{codes}
use Rattle.c_grammar.specs.declared.token.Word.TheVariants as word
use Rattle.c_grammar.specs.declared.token.Mark.TheVariants as mark
use Rattle.c_grammar.specs.Token.{Identifier, Numeral, Quoted, Sign}
use Rattle.c_scanner.specs.Words.{words_with, word_of}
use Rattle.c_scanner.specs.Cut.{Piece, Nothing, start_of, run, cut_name, cut_number, cut_mark, cut_by, cut}

a_pair_of_marks : cut (codes "<=1") ≡ Piece (Sign mark.AtMost) 2
unfolding start_of cut_by cut_mark
a_pair_of_marks = refl

a_word : cut (codes "int64_t a") ≡ Piece (Quoted word.Int64Type) 7
unfolding start_of cut_by cut_name run word_of words_with
a_word = refl

longer_than_a_word : cut (codes "iff") ≡ Piece (Identifier (codes "iff")) 3
unfolding start_of cut_by cut_name run word_of words_with
longer_than_a_word = refl

a_leading_zero : cut (codes "07") ≡ Piece (Numeral 0) 1
unfolding start_of cut_by
a_leading_zero = refl

a_number : cut (codes "70;") ≡ Piece (Numeral 70) 2
unfolding start_of cut_by cut_number run
a_number = refl

no_name_begins_so : cut (codes "_a") ≡ Nothing
unfolding start_of cut_by cut_mark
no_name_begins_so = refl

carriage_return : cut (13 ∷ 10 ∷ []) ≡ Nothing
unfolding start_of cut_by cut_mark
carriage_return = refl
