-- What the code finds at the front of bytes.
use Rattle.std.specs.Prelude.{ℕ, suc, ◌==◌, Bool, if◌then◌else◌, List, [], ◌∷◌, take, Option, Some, None}
use Rattle.std.specs.Str.Parse.{digits_value}
use Rattle.c_grammar.specs.declared.token.Mark.{Mark}
use Rattle.c_grammar.specs.Token.{Token, Numeral, Sign, named, is_letter, is_digit, is_name_byte, is_white}
use Rattle.c_scanner.specs.declared.bytes.Start.{Start}
use Rattle.c_scanner.specs.declared.bytes.Start.TheVariants as start
use Rattle.c_scanner.specs.Words.{word_of}
use Rattle.c_scanner.specs.Marks.{mark_of, pair_of}

-- white space, a token with the number of its bytes, or nothing
pub data Found : Type 0 where
  White : Found
  Piece : (token : Token) (len : ℕ) → Found
  Nothing : Found

unfoldable pub start_of : ℕ → Start
start_of b =
    if is_white b then start.White
    else if is_letter b then start.Letter
    else if b == 48 then start.Zero
    else if is_digit b then start.Digit
    else start.Other

-- how many bytes at the front pass
unfoldable pub run : (ℕ → Bool) → List ℕ → ℕ
run test [] = 0
run test (b ∷ more) = if test b then suc (run test more) else 0

unfoldable pub cut_name : List ℕ → Found
cut_name bytes = let n = run is_name_byte bytes in Piece (named (word_of (take n bytes)) (take n bytes)) n

unfoldable pub cut_number : List ℕ → Found
cut_number bytes = let n = run is_digit bytes in Piece (Numeral (digits_value 10 (take n bytes))) n

abbrev pub single : Option Mark → Found
single None = Nothing
single (Some m) = Piece (Sign m) 1

abbrev pub double_or : Option Mark → Found → Found
double_or None other = other
double_or (Some m) other = Piece (Sign m) 2

unfoldable pub cut_mark : ℕ → List ℕ → Found
cut_mark b [] = single (mark_of b)
cut_mark b (c ∷ more) = double_or (pair_of b c) (single (mark_of b))

-- of b ∷ more
unfoldable pub cut_by : Start → ℕ → List ℕ → Found
cut_by start.White b more = White
cut_by start.Letter b more = cut_name (b ∷ more)
cut_by start.Zero b more = Piece (Numeral (digits_value 10 (b ∷ []))) 1
cut_by start.Digit b more = cut_number (b ∷ more)
cut_by start.Other b more = cut_mark b more

abbrev pub cut : List ℕ → Found
cut [] = Nothing
cut (b ∷ more) = cut_by (start_of b) b more
