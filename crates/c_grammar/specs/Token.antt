-- Tokens: which bytes are one, and how bytes are cut into them.
use Rattle.std.specs.Prelude.{◌≡◌, ◌≢◌, ℕ, ◌+◌, Bool, true, false, ◌&&◌, ◌||◌, ◌==◌, nat_le, if◌then◌else◌, IsTrue, List, [], ◌∷◌, ◌++◌, length, Option, Some, None, codes}
use Rattle.std.specs.List.{list_all, find}
use Rattle.std.specs.Str.{bytes_eq}
use Rattle.std.specs.Str.Parse.{digits_value}
use Rattle.c_grammar.specs.declared.token.Word.{Word}
use Rattle.c_grammar.specs.declared.token.Word.TheVariants as word
use Rattle.c_grammar.specs.declared.token.Mark.{Mark}
use Rattle.c_grammar.specs.declared.token.Mark.TheVariants as mark

-- a name by its bytes, a number by its value, and a quoted word or mark
pub data Token : Type 0 where
  Identifier : (name : List ℕ) → Token
  Numeral : (value : ℕ) → Token
  Quoted : (word : Word) → Token
  Sign : (mark : Mark) → Token

abbrev pub word_bytes : Word → List ℕ
word_bytes word.Struct = codes "struct"
word_bytes word.Typedef = codes "typedef"
word_bytes word.Void = codes "void"
word_bytes word.Int64Type = codes "int64_t"
word_bytes word.Uint64Type = codes "uint64_t"
word_bytes word.Unsigned = codes "unsigned"
word_bytes word.Char = codes "char"
word_bytes word.Int = codes "int"
word_bytes word.Main = codes "main"
word_bytes word.Malloc = codes "malloc"
word_bytes word.SizeOf = codes "sizeof"
word_bytes word.Free = codes "free"
word_bytes word.GetChar = codes "getchar"
word_bytes word.PutChar = codes "putchar"
word_bytes word.If = codes "if"
word_bytes word.Else = codes "else"
word_bytes word.While = codes "while"
word_bytes word.Goto = codes "goto"
word_bytes word.Return = codes "return"
word_bytes word.Int64 = codes "INT64_C"
word_bytes word.Uint64 = codes "UINT64_C"
word_bytes word.Null = codes "NULL"

abbrev pub words : List Word
words = word.Struct ∷ word.Typedef ∷ word.Void ∷ word.Int64Type ∷ word.Uint64Type ∷ word.Unsigned ∷ word.Char ∷ word.Int ∷ word.Main ∷ word.Malloc ∷ word.SizeOf
    ∷ word.Free ∷ word.GetChar ∷ word.PutChar ∷ word.If ∷ word.Else ∷ word.While ∷ word.Goto ∷ word.Return ∷ word.Int64 ∷ word.Uint64 ∷ word.Null ∷ []

abbrev pub mark_bytes : Mark → List ℕ
mark_bytes mark.OpenBrace = codes "{"
mark_bytes mark.CloseBrace = codes "}"
mark_bytes mark.Open = codes "("
mark_bytes mark.Close = codes ")"
mark_bytes mark.OpenBracket = codes "["
mark_bytes mark.CloseBracket = codes "]"
mark_bytes mark.Semicolon = codes ";"
mark_bytes mark.Comma = codes ","
mark_bytes mark.Dot = codes "."
mark_bytes mark.Colon = codes ":"
mark_bytes mark.Assign = codes "="
mark_bytes mark.Plus = codes "+"
mark_bytes mark.Minus = codes "-"
mark_bytes mark.Star = codes "*"
mark_bytes mark.Slash = codes "/"
mark_bytes mark.Percent = codes "%"
mark_bytes mark.Equal = codes "=="
mark_bytes mark.NotEqual = codes "!="
mark_bytes mark.Less = codes "<"
mark_bytes mark.AtMost = codes "<="
mark_bytes mark.Greater = codes ">"
mark_bytes mark.AtLeast = codes ">="
mark_bytes mark.AndAnd = codes "&&"
mark_bytes mark.OrOr = codes "||"
mark_bytes mark.Ampersand = codes "&"
mark_bytes mark.Bar = codes "|"
mark_bytes mark.Caret = codes "^"
mark_bytes mark.ShiftLeft = codes "<<"
mark_bytes mark.ShiftRight = codes ">>"
mark_bytes mark.Tilde = codes "~"
mark_bytes mark.Exclamation = codes "!"

abbrev pub marks : List Mark
marks = mark.OpenBrace ∷ mark.CloseBrace ∷ mark.Open ∷ mark.Close ∷ mark.OpenBracket ∷ mark.CloseBracket ∷ mark.Semicolon ∷ mark.Comma ∷ mark.Dot ∷ mark.Colon ∷ mark.Assign
    ∷ mark.Plus ∷ mark.Minus ∷ mark.Star ∷ mark.Slash ∷ mark.Percent ∷ mark.Equal ∷ mark.NotEqual ∷ mark.Less ∷ mark.AtMost ∷ mark.Greater ∷ mark.AtLeast ∷ mark.AndAnd ∷ mark.OrOr
    ∷ mark.Ampersand ∷ mark.Bar ∷ mark.Caret ∷ mark.ShiftLeft ∷ mark.ShiftRight ∷ mark.Tilde ∷ mark.Exclamation ∷ []

-- ---- the forms

abbrev pub is_letter : ℕ → Bool
is_letter b = (nat_le 65 b && nat_le b 90) || (nat_le 97 b && nat_le b 122)

abbrev pub is_digit : ℕ → Bool
is_digit b = nat_le 48 b && nat_le b 57

-- a letter, a digit or `_`
abbrev pub is_name_byte : ℕ → Bool
is_name_byte b = is_letter b || is_digit b || b == 95

abbrev pub is_white : ℕ → Bool
is_white b = b == 9 || b == 10 || b == 32

-- a quoted word, or else a name
abbrev pub named : Option Word → List ℕ → Token
named None name = Identifier name
named (Some w) name = Quoted w

abbrev pub signed : Option Mark → Option Token
signed None = None
signed (Some m) = Some (Sign m)

abbrev pub quoted_word : List ℕ → Option Word
quoted_word bytes = find (λ w. bytes_eq (word_bytes w) bytes) words

abbrev pub quoted_mark : List ℕ → Option Mark
quoted_mark bytes = find (λ m. bytes_eq (mark_bytes m) bytes) marks

abbrev pub when : Bool → Token → Option Token
when holds t = if holds then Some t else None

abbrev pub is_nil : List ℕ → Bool
is_nil [] = true
is_nil (b ∷ more) = false

unfoldable pub form_by : ℕ → List ℕ → Option Token
form_by b more =
    if is_letter b then when (list_all is_name_byte more) (named (quoted_word (b ∷ more)) (b ∷ more))
    else if b == 48 then when (is_nil more) (Numeral 0)
    else if is_digit b then when (list_all is_digit more) (Numeral (digits_value 10 (b ∷ more)))
    else signed (quoted_mark (b ∷ more))

-- Which token these bytes are, all of them together: a letter and letters, digits and `_`; 0, or digits from another on; a mark.
abbrev pub form : List ℕ → Option Token
form [] = None
form (b ∷ more) = form_by b more

-- the four head lines
abbrev pub head_lines : List ℕ
head_lines = codes "/* p2c 1 */\n#include <stdint.h>\n#include <stdio.h>\n#include <stdlib.h>\n"

-- ---- how bytes are cut

-- a token, and the number of bytes before it
pub record Placed : Type 0 where
  pub token : Token
  pub place : ℕ

abbrev pub placed : Token → ℕ → Placed
placed t n = record { token = t; place = n }

-- of the bytes front ++ after, the token t is front, and no longer part from there is a token
pub record IsLongest (front after : List ℕ) (t : Token) : Type 0 where
  pub is : form front ≡ Some t
  pub no_longer : (more rest : List ℕ) → after ≡ more ++ rest → more ≢ [] → form (front ++ more) ≡ None

-- The bytes, of which the first has this many before it, begin with these tokens and white space, without gap or overlap; the rest follows.
pub data Cut : ℕ → List ℕ → List Placed → List ℕ → Type 0 where
  nothing : (n : ℕ) (rest : List ℕ) → Cut n rest [] rest
  white : (n b : ℕ) (bytes : List ℕ) (tokens : List Placed) (rest : List ℕ) → IsTrue (is_white b) → Cut (n + 1) bytes tokens rest → Cut n (b ∷ bytes) tokens rest
  token : (n : ℕ) (front bytes : List ℕ) (t : Token) (tokens : List Placed) (rest : List ℕ)
      → IsLongest front bytes t → Cut (n + length front) bytes tokens rest → Cut n (front ++ bytes) (placed t n ∷ tokens) rest

-- the text begins with the head lines and these tokens; the rest follows
abbrev pub CutsTo : List ℕ → List Placed → List ℕ → Type 0
CutsTo bytes tokens rest = (body : List ℕ) × (bytes ≡ head_lines ++ body) × Cut (length head_lines) body tokens rest

-- the text is the head lines and these tokens
abbrev pub IsTokens : List ℕ → List Placed → Type 0
IsTokens bytes tokens = CutsTo bytes tokens []
