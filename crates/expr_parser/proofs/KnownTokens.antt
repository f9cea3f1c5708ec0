-- Tokens that texts of the dialects have: each of these texts is one token.
use Rattle.std.proofs.Common.{◌≡◌, ℕ, ◌+◌, pos, List, [], ◌∷◌, length, drop, refl, sym, subst, arith}
use Rattle.p2c_text.specs.declared.dialect.Dialect.{Dialect}
use Rattle.p2c_text.specs.declared.dialect.Dialect.TheVariants as dialect
use Rattle.dialect_lexer.specs.Bytes.{start_of}
use Rattle.dialect_lexer.specs.Ends.{run}
use Rattle.dialect_lexer.specs.Words.{word_of, words_with}
use Rattle.dialect_lexer.specs.Cut.{cut_by, cut_name, cut_decimal, decimal_from, read_digits, cut_symbol}
use Rattle.dialect_lexer.specs.Patterns.{IsPiece}
use Rattle.dialect_lexer.specs.Tokens.{Cut, placed, nothing, piece, span_of}
use Rattle.dialect_lexer.specs.FileTokens.{FileTokens}
use Rattle.dialect_lexer.specs.declared.piece.PieceKind.TheVariants as piece_kind
use Rattle.dialect_lexer.specs.declared.token.TokenKind.{TokenKind}
use Rattle.dialect_lexer.specs.declared.token.TokenKind.TheVariants as kind
use Rattle.dialect_lexer.specs.declared.token.Word.TheVariants as word
use Rattle.dialect_lexer.specs.declared.token.Symbol.TheVariants as mark
use Rattle.dialect_lexer.proofs.Pieces.{cut_front}
use Rattle.expr_parser.specs.Tokens.{Name, Number, Word, Symbol, token_of, spelling_of}
use Rattle.expr_parser.specs.Grammar.{IsToken}

drop_all : (bytes : List ℕ) → drop (length bytes) bytes ≡ []
drop_all [] = refl
drop_all (b ∷ bytes) = drop_all bytes

-- the token that a text is, all of it
pub whole_known : (d : Dialect) (bytes : List ℕ) (kind : TokenKind) → IsPiece d bytes (length bytes) (piece_kind.Token kind) → IsToken d (token_of kind (spelling_of bytes (span_of 0 bytes 0 (0 + length bytes))))
whole_known d bytes kind is =
    let end : Cut d (0 + length bytes) (drop (length bytes) bytes) [] [] = subst (λ s. Cut d (0 + length bytes) s [] []) (sym (drop_all bytes)) (nothing (0 + length bytes) []) in
    let list : FileTokens = record { file = 0; tokens = record { kind = kind; span = span_of 0 bytes 0 (0 + length bytes) } ∷ [] } in
    (bytes, list, (placed (piece_kind.Token kind) 0 (0 + length bytes) ∷ [], piece 0 bytes (length bytes) (piece_kind.Token kind) [] [] is end, refl), (0, omega arith, refl))

-- `a`
pub name_known : (d : Dialect) → IsToken d (Name (97 ∷ []))
unfolding start_of cut_by cut_name run word_of words_with
name_known dialect.Iso = whole_known dialect.Iso (97 ∷ []) (kind.Name) (cut_front dialect.Iso 97 [])
name_known dialect.Turbo = whole_known dialect.Turbo (97 ∷ []) (kind.Name) (cut_front dialect.Turbo 97 [])
name_known dialect.Ucsd = whole_known dialect.Ucsd (97 ∷ []) (kind.Name) (cut_front dialect.Ucsd 97 [])
name_known dialect.Hp = whole_known dialect.Hp (97 ∷ []) (kind.Name) (cut_front dialect.Hp 97 [])

-- `1`
pub number_known : (d : Dialect) → IsToken d (Number (pos 1))
unfolding start_of cut_by cut_decimal decimal_from read_digits run
number_known dialect.Iso = whole_known dialect.Iso (49 ∷ []) (kind.Number (pos 1)) (cut_front dialect.Iso 49 [])
number_known dialect.Turbo = whole_known dialect.Turbo (49 ∷ []) (kind.Number (pos 1)) (cut_front dialect.Turbo 49 [])
number_known dialect.Ucsd = whole_known dialect.Ucsd (49 ∷ []) (kind.Number (pos 1)) (cut_front dialect.Ucsd 49 [])
number_known dialect.Hp = whole_known dialect.Hp (49 ∷ []) (kind.Number (pos 1)) (cut_front dialect.Hp 49 [])

-- ---- symbols

-- `)`
pub close_known : (d : Dialect) → IsToken d (Symbol mark.Close)
unfolding start_of cut_by cut_symbol
close_known dialect.Iso = whole_known dialect.Iso (41 ∷ []) (kind.Symbol mark.Close) (cut_front dialect.Iso 41 [])
close_known dialect.Turbo = whole_known dialect.Turbo (41 ∷ []) (kind.Symbol mark.Close) (cut_front dialect.Turbo 41 [])
close_known dialect.Ucsd = whole_known dialect.Ucsd (41 ∷ []) (kind.Symbol mark.Close) (cut_front dialect.Ucsd 41 [])
close_known dialect.Hp = whole_known dialect.Hp (41 ∷ []) (kind.Symbol mark.Close) (cut_front dialect.Hp 41 [])

-- `]`
pub bracket_known : (d : Dialect) → IsToken d (Symbol mark.CloseBracket)
unfolding start_of cut_by cut_symbol
bracket_known dialect.Iso = whole_known dialect.Iso (93 ∷ []) (kind.Symbol mark.CloseBracket) (cut_front dialect.Iso 93 [])
bracket_known dialect.Turbo = whole_known dialect.Turbo (93 ∷ []) (kind.Symbol mark.CloseBracket) (cut_front dialect.Turbo 93 [])
bracket_known dialect.Ucsd = whole_known dialect.Ucsd (93 ∷ []) (kind.Symbol mark.CloseBracket) (cut_front dialect.Ucsd 93 [])
bracket_known dialect.Hp = whole_known dialect.Hp (93 ∷ []) (kind.Symbol mark.CloseBracket) (cut_front dialect.Hp 93 [])

-- `[`
pub open_bracket_known : (d : Dialect) → IsToken d (Symbol mark.OpenBracket)
unfolding start_of cut_by cut_symbol
open_bracket_known dialect.Iso = whole_known dialect.Iso (91 ∷ []) (kind.Symbol mark.OpenBracket) (cut_front dialect.Iso 91 [])
open_bracket_known dialect.Turbo = whole_known dialect.Turbo (91 ∷ []) (kind.Symbol mark.OpenBracket) (cut_front dialect.Turbo 91 [])
open_bracket_known dialect.Ucsd = whole_known dialect.Ucsd (91 ∷ []) (kind.Symbol mark.OpenBracket) (cut_front dialect.Ucsd 91 [])
open_bracket_known dialect.Hp = whole_known dialect.Hp (91 ∷ []) (kind.Symbol mark.OpenBracket) (cut_front dialect.Hp 91 [])

-- `:=`
pub assign_known : (d : Dialect) → IsToken d (Symbol mark.Assign)
unfolding start_of cut_by cut_symbol
assign_known dialect.Iso = whole_known dialect.Iso (58 ∷ 61 ∷ []) (kind.Symbol mark.Assign) (cut_front dialect.Iso 58 (61 ∷ []))
assign_known dialect.Turbo = whole_known dialect.Turbo (58 ∷ 61 ∷ []) (kind.Symbol mark.Assign) (cut_front dialect.Turbo 58 (61 ∷ []))
assign_known dialect.Ucsd = whole_known dialect.Ucsd (58 ∷ 61 ∷ []) (kind.Symbol mark.Assign) (cut_front dialect.Ucsd 58 (61 ∷ []))
assign_known dialect.Hp = whole_known dialect.Hp (58 ∷ 61 ∷ []) (kind.Symbol mark.Assign) (cut_front dialect.Hp 58 (61 ∷ []))

-- `;`
pub semicolon_known : (d : Dialect) → IsToken d (Symbol mark.Semicolon)
unfolding start_of cut_by cut_symbol
semicolon_known dialect.Iso = whole_known dialect.Iso (59 ∷ []) (kind.Symbol mark.Semicolon) (cut_front dialect.Iso 59 [])
semicolon_known dialect.Turbo = whole_known dialect.Turbo (59 ∷ []) (kind.Symbol mark.Semicolon) (cut_front dialect.Turbo 59 [])
semicolon_known dialect.Ucsd = whole_known dialect.Ucsd (59 ∷ []) (kind.Symbol mark.Semicolon) (cut_front dialect.Ucsd 59 [])
semicolon_known dialect.Hp = whole_known dialect.Hp (59 ∷ []) (kind.Symbol mark.Semicolon) (cut_front dialect.Hp 59 [])

-- `:`
pub colon_known : (d : Dialect) → IsToken d (Symbol mark.Colon)
unfolding start_of cut_by cut_symbol
colon_known dialect.Iso = whole_known dialect.Iso (58 ∷ []) (kind.Symbol mark.Colon) (cut_front dialect.Iso 58 [])
colon_known dialect.Turbo = whole_known dialect.Turbo (58 ∷ []) (kind.Symbol mark.Colon) (cut_front dialect.Turbo 58 [])
colon_known dialect.Ucsd = whole_known dialect.Ucsd (58 ∷ []) (kind.Symbol mark.Colon) (cut_front dialect.Ucsd 58 [])
colon_known dialect.Hp = whole_known dialect.Hp (58 ∷ []) (kind.Symbol mark.Colon) (cut_front dialect.Hp 58 [])

-- `=`
pub equal_known : (d : Dialect) → IsToken d (Symbol mark.Equal)
unfolding start_of cut_by cut_symbol
equal_known dialect.Iso = whole_known dialect.Iso (61 ∷ []) (kind.Symbol mark.Equal) (cut_front dialect.Iso 61 [])
equal_known dialect.Turbo = whole_known dialect.Turbo (61 ∷ []) (kind.Symbol mark.Equal) (cut_front dialect.Turbo 61 [])
equal_known dialect.Ucsd = whole_known dialect.Ucsd (61 ∷ []) (kind.Symbol mark.Equal) (cut_front dialect.Ucsd 61 [])
equal_known dialect.Hp = whole_known dialect.Hp (61 ∷ []) (kind.Symbol mark.Equal) (cut_front dialect.Hp 61 [])

-- `..`
pub dots_known : (d : Dialect) → IsToken d (Symbol mark.DotDot)
unfolding start_of cut_by cut_symbol
dots_known dialect.Iso = whole_known dialect.Iso (46 ∷ 46 ∷ []) (kind.Symbol mark.DotDot) (cut_front dialect.Iso 46 (46 ∷ []))
dots_known dialect.Turbo = whole_known dialect.Turbo (46 ∷ 46 ∷ []) (kind.Symbol mark.DotDot) (cut_front dialect.Turbo 46 (46 ∷ []))
dots_known dialect.Ucsd = whole_known dialect.Ucsd (46 ∷ 46 ∷ []) (kind.Symbol mark.DotDot) (cut_front dialect.Ucsd 46 (46 ∷ []))
dots_known dialect.Hp = whole_known dialect.Hp (46 ∷ 46 ∷ []) (kind.Symbol mark.DotDot) (cut_front dialect.Hp 46 (46 ∷ []))

-- ---- words

-- `nil`
pub nil_known : (d : Dialect) → IsToken d (Word word.KwNil)
unfolding start_of cut_by cut_name run word_of words_with
nil_known dialect.Iso = whole_known dialect.Iso (110 ∷ 105 ∷ 108 ∷ []) (kind.Word word.KwNil) (cut_front dialect.Iso 110 (105 ∷ 108 ∷ []))
nil_known dialect.Turbo = whole_known dialect.Turbo (110 ∷ 105 ∷ 108 ∷ []) (kind.Word word.KwNil) (cut_front dialect.Turbo 110 (105 ∷ 108 ∷ []))
nil_known dialect.Ucsd = whole_known dialect.Ucsd (110 ∷ 105 ∷ 108 ∷ []) (kind.Word word.KwNil) (cut_front dialect.Ucsd 110 (105 ∷ 108 ∷ []))
nil_known dialect.Hp = whole_known dialect.Hp (110 ∷ 105 ∷ 108 ∷ []) (kind.Word word.KwNil) (cut_front dialect.Hp 110 (105 ∷ 108 ∷ []))

-- `begin`
pub begin_known : (d : Dialect) → IsToken d (Word word.KwBegin)
unfolding start_of cut_by cut_name run word_of words_with
begin_known dialect.Iso = whole_known dialect.Iso (98 ∷ 101 ∷ 103 ∷ 105 ∷ 110 ∷ []) (kind.Word word.KwBegin) (cut_front dialect.Iso 98 (101 ∷ 103 ∷ 105 ∷ 110 ∷ []))
begin_known dialect.Turbo = whole_known dialect.Turbo (98 ∷ 101 ∷ 103 ∷ 105 ∷ 110 ∷ []) (kind.Word word.KwBegin) (cut_front dialect.Turbo 98 (101 ∷ 103 ∷ 105 ∷ 110 ∷ []))
begin_known dialect.Ucsd = whole_known dialect.Ucsd (98 ∷ 101 ∷ 103 ∷ 105 ∷ 110 ∷ []) (kind.Word word.KwBegin) (cut_front dialect.Ucsd 98 (101 ∷ 103 ∷ 105 ∷ 110 ∷ []))
begin_known dialect.Hp = whole_known dialect.Hp (98 ∷ 101 ∷ 103 ∷ 105 ∷ 110 ∷ []) (kind.Word word.KwBegin) (cut_front dialect.Hp 98 (101 ∷ 103 ∷ 105 ∷ 110 ∷ []))

-- `do`
pub do_known : (d : Dialect) → IsToken d (Word word.KwDo)
unfolding start_of cut_by cut_name run word_of words_with
do_known dialect.Iso = whole_known dialect.Iso (100 ∷ 111 ∷ []) (kind.Word word.KwDo) (cut_front dialect.Iso 100 (111 ∷ []))
do_known dialect.Turbo = whole_known dialect.Turbo (100 ∷ 111 ∷ []) (kind.Word word.KwDo) (cut_front dialect.Turbo 100 (111 ∷ []))
do_known dialect.Ucsd = whole_known dialect.Ucsd (100 ∷ 111 ∷ []) (kind.Word word.KwDo) (cut_front dialect.Ucsd 100 (111 ∷ []))
do_known dialect.Hp = whole_known dialect.Hp (100 ∷ 111 ∷ []) (kind.Word word.KwDo) (cut_front dialect.Hp 100 (111 ∷ []))

-- `end`
pub end_known : (d : Dialect) → IsToken d (Word word.KwEnd)
unfolding start_of cut_by cut_name run word_of words_with
end_known dialect.Iso = whole_known dialect.Iso (101 ∷ 110 ∷ 100 ∷ []) (kind.Word word.KwEnd) (cut_front dialect.Iso 101 (110 ∷ 100 ∷ []))
end_known dialect.Turbo = whole_known dialect.Turbo (101 ∷ 110 ∷ 100 ∷ []) (kind.Word word.KwEnd) (cut_front dialect.Turbo 101 (110 ∷ 100 ∷ []))
end_known dialect.Ucsd = whole_known dialect.Ucsd (101 ∷ 110 ∷ 100 ∷ []) (kind.Word word.KwEnd) (cut_front dialect.Ucsd 101 (110 ∷ 100 ∷ []))
end_known dialect.Hp = whole_known dialect.Hp (101 ∷ 110 ∷ 100 ∷ []) (kind.Word word.KwEnd) (cut_front dialect.Hp 101 (110 ∷ 100 ∷ []))

-- `of`
pub of_known : (d : Dialect) → IsToken d (Word word.KwOf)
unfolding start_of cut_by cut_name run word_of words_with
of_known dialect.Iso = whole_known dialect.Iso (111 ∷ 102 ∷ []) (kind.Word word.KwOf) (cut_front dialect.Iso 111 (102 ∷ []))
of_known dialect.Turbo = whole_known dialect.Turbo (111 ∷ 102 ∷ []) (kind.Word word.KwOf) (cut_front dialect.Turbo 111 (102 ∷ []))
of_known dialect.Ucsd = whole_known dialect.Ucsd (111 ∷ 102 ∷ []) (kind.Word word.KwOf) (cut_front dialect.Ucsd 111 (102 ∷ []))
of_known dialect.Hp = whole_known dialect.Hp (111 ∷ 102 ∷ []) (kind.Word word.KwOf) (cut_front dialect.Hp 111 (102 ∷ []))

-- `then`
pub then_known : (d : Dialect) → IsToken d (Word word.KwThen)
unfolding start_of cut_by cut_name run word_of words_with
then_known dialect.Iso = whole_known dialect.Iso (116 ∷ 104 ∷ 101 ∷ 110 ∷ []) (kind.Word word.KwThen) (cut_front dialect.Iso 116 (104 ∷ 101 ∷ 110 ∷ []))
then_known dialect.Turbo = whole_known dialect.Turbo (116 ∷ 104 ∷ 101 ∷ 110 ∷ []) (kind.Word word.KwThen) (cut_front dialect.Turbo 116 (104 ∷ 101 ∷ 110 ∷ []))
then_known dialect.Ucsd = whole_known dialect.Ucsd (116 ∷ 104 ∷ 101 ∷ 110 ∷ []) (kind.Word word.KwThen) (cut_front dialect.Ucsd 116 (104 ∷ 101 ∷ 110 ∷ []))
then_known dialect.Hp = whole_known dialect.Hp (116 ∷ 104 ∷ 101 ∷ 110 ∷ []) (kind.Word word.KwThen) (cut_front dialect.Hp 116 (104 ∷ 101 ∷ 110 ∷ []))

-- `to`
pub to_known : (d : Dialect) → IsToken d (Word word.KwTo)
unfolding start_of cut_by cut_name run word_of words_with
to_known dialect.Iso = whole_known dialect.Iso (116 ∷ 111 ∷ []) (kind.Word word.KwTo) (cut_front dialect.Iso 116 (111 ∷ []))
to_known dialect.Turbo = whole_known dialect.Turbo (116 ∷ 111 ∷ []) (kind.Word word.KwTo) (cut_front dialect.Turbo 116 (111 ∷ []))
to_known dialect.Ucsd = whole_known dialect.Ucsd (116 ∷ 111 ∷ []) (kind.Word word.KwTo) (cut_front dialect.Ucsd 116 (111 ∷ []))
to_known dialect.Hp = whole_known dialect.Hp (116 ∷ 111 ∷ []) (kind.Word word.KwTo) (cut_front dialect.Hp 116 (111 ∷ []))

-- `until`
pub until_known : (d : Dialect) → IsToken d (Word word.KwUntil)
unfolding start_of cut_by cut_name run word_of words_with
until_known dialect.Iso = whole_known dialect.Iso (117 ∷ 110 ∷ 116 ∷ 105 ∷ 108 ∷ []) (kind.Word word.KwUntil) (cut_front dialect.Iso 117 (110 ∷ 116 ∷ 105 ∷ 108 ∷ []))
until_known dialect.Turbo = whole_known dialect.Turbo (117 ∷ 110 ∷ 116 ∷ 105 ∷ 108 ∷ []) (kind.Word word.KwUntil) (cut_front dialect.Turbo 117 (110 ∷ 116 ∷ 105 ∷ 108 ∷ []))
until_known dialect.Ucsd = whole_known dialect.Ucsd (117 ∷ 110 ∷ 116 ∷ 105 ∷ 108 ∷ []) (kind.Word word.KwUntil) (cut_front dialect.Ucsd 117 (110 ∷ 116 ∷ 105 ∷ 108 ∷ []))
until_known dialect.Hp = whole_known dialect.Hp (117 ∷ 110 ∷ 116 ∷ 105 ∷ 108 ∷ []) (kind.Word word.KwUntil) (cut_front dialect.Hp 117 (110 ∷ 116 ∷ 105 ∷ 108 ∷ []))

-- `recover`, in HP alone
pub recover_known : IsToken dialect.Hp (Word word.KwRecover)
unfolding start_of cut_by cut_name run word_of words_with
recover_known = whole_known dialect.Hp (114 ∷ 101 ∷ 99 ∷ 111 ∷ 118 ∷ 101 ∷ 114 ∷ []) (kind.Word word.KwRecover) (cut_front dialect.Hp 114 (101 ∷ 99 ∷ 111 ∷ 118 ∷ 101 ∷ 114 ∷ []))
