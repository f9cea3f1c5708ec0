-- Words by their first letter.
use Rattle.std.specs.Prelude.{ℕ, ◌==◌, if◌then◌else◌, List, [], ◌∷◌, Option, slice_index}
use Rattle.std.specs.List.{find}
use Rattle.std.specs.Str.{bytes_eq}
use Rattle.c_grammar.specs.declared.token.Word.{Word}
use Rattle.c_grammar.specs.declared.token.Word.TheVariants as word
use Rattle.c_grammar.specs.Token.{word_bytes}

unfoldable pub words_with : ℕ → List Word
words_with letter =
    if letter == 115 then word.Struct ∷ word.SizeOf ∷ []
    else if letter == 116 then word.Typedef ∷ []
    else if letter == 118 then word.Void ∷ []
    else if letter == 105 then word.Int64Type ∷ word.Int ∷ word.If ∷ []
    else if letter == 117 then word.Uint64Type ∷ word.Unsigned ∷ []
    else if letter == 99 then word.Char ∷ []
    else if letter == 109 then word.Main ∷ word.Malloc ∷ []
    else if letter == 102 then word.Free ∷ []
    else if letter == 103 then word.GetChar ∷ word.Goto ∷ []
    else if letter == 112 then word.PutChar ∷ []
    else if letter == 101 then word.Else ∷ []
    else if letter == 119 then word.While ∷ []
    else if letter == 114 then word.Return ∷ []
    else if letter == 73 then word.Int64 ∷ []
    else if letter == 85 then word.Uint64 ∷ []
    else if letter == 78 then word.Null ∷ []
    else []

-- the word that the bytes are
unfoldable pub word_of : List ℕ → Option Word
word_of bytes = find (λ w. bytes_eq (word_bytes w) bytes) (words_with (slice_index bytes 0))
