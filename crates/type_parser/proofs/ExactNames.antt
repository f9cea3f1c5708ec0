-- Lists of names, and names of types, that are written are read.
use Rattle.std.proofs.Common.{◌≡◌, true, false, List, [], ◌∷◌, Ok, refl, ap, arith}
use Rattle.std.specs.Prelude.{IsTrue}
use Rattle.p2c_text.specs.declared.place.Span.{Span}
use Rattle.dialect_lexer.specs.declared.token.Word.TheVariants as word_
use Rattle.dialect_lexer.specs.declared.token.Symbol.TheVariants as mark
use Rattle.pascal_tree.specs.declared.names.Identifier.{Identifier}
use Rattle.pascal_tree.specs.declared.types.TypeName.{TypeName}
use Rattle.pascal_tree.specs.declared.types.TypeName.TheVariants as name_
use Rattle.token_parsing.specs.Parser.{one_of}
use Rattle.expr_parser.specs.Tokens.{Placed, plain}
use Rattle.expr_parser.specs.Layout.{Done, word, IsWritten}
use Rattle.expr_parser.specs.Writing.{identifier}
use Rattle.expr_parser.specs.Classes.{identifiers, words}
use Rattle.expr_parser.proofs.Lookahead.{looks_name, on_symbol, says_word}
use Rattle.expr_parser.proofs.Followed.{on_first}
use Rattle.expr_parser.proofs.Exact.{written_inside, exact_name, name_exact, exact_token, exact_made, exact_first, exact_second, looks_written}
use Rattle.expr_parser.proofs.ExactLists.{commas_exact}
use Rattle.type_parser.specs.Writing.{write_names, write_type_name}
use Rattle.type_parser.specs.Grammar.{some_names}
use Rattle.type_parser.specs.Names.{next_name, more_names, names, string_name, type_name}
use Rattle.type_parser.proofs.FollowedNames.{trues, flat}

pub names_exact : (end : Span) (ns : List Identifier) → IsTrue (some_names ns) → (s r : List Placed) → IsWritten end (write_names ns) s r → on_first (on_symbol mark.Comma) (plain r) ≡ false → names s ≡ Ok (ns, r)
unfolding names more_names next_name
names_exact end [] formed s r h closed = absurd cc
names_exact end (x ∷ xs) formed s r h closed =
    commas_exact end 0 identifier (λ x. true) (one_of identifiers) (λ w. Unit {0}) (λ w. tt) (λ x part s r h ends. name_exact end x s r h) x xs (record { formed = trues xs; fits = λ w. omega (arith, flat xs) }) s r h tt closed

pub type_name_exact : (end : Span) (t : TypeName) (s r : List Placed) → IsWritten end (write_type_name t) s r → type_name end s ≡ Ok (t, r)
unfolding type_name string_name
type_name_exact end (name_.Name i) s r h = exact_first _ _ _ (looks_written looks_name end (identifier i) s r h) (exact_name _ i end Done s r h (λ m h. ap (λ z. Ok (name_.Name i, z)) h))
type_name_exact end (name_.String span) s r h =
    let l = word word_.KwString in
    let (place, inside) = written_inside end span l s r h in
    exact_second _ _ _ (looks_written looks_name end l s r inside) (exact_token _ (words word_.KwString) (says_word word_.KwString) end Done s r inside (λ m h. exact_made end span name_.String s m r h refl place))
