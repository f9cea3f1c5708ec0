-- The word `main` among tokens.
use Rattle.std.specs.Prelude.{Bool, true, false, List}
use Rattle.std.specs.List.{list_any}
use Rattle.c_grammar.specs.declared.token.Word.TheVariants as word
use Rattle.c_grammar.specs.Token.{Token, Quoted}

abbrev pub is_main : Token → Bool
is_main (Quoted word.Main) = true
is_main _ = false

abbrev pub has_main : List Token → Bool
has_main tokens = list_any is_main tokens
