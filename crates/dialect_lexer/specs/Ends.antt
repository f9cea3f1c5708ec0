-- Where what has been opened ends, counted in bytes after its opening.
use Rattle.std.specs.Prelude.{ℕ, suc, ◌+◌, Bool, false, ◌&&◌, ◌||◌, ◌==◌, if◌then◌else◌, List, [], ◌∷◌, Option, Some, None}
use Rattle.p2c_text.specs.declared.dialect.Dialect.{Dialect}
use Rattle.dialect_lexer.specs.Dialects.{is_iso}
use Rattle.dialect_lexer.specs.Bytes.{is_line_end, is_digit}
use Rattle.dialect_lexer.specs.declared.ends.Closer.{Closer}
use Rattle.dialect_lexer.specs.declared.ends.Closer.TheVariants.{Either, Brace, Star, Dollar}

-- how many bytes at the front pass
unfoldable pub run : (ℕ → Bool) → List ℕ → ℕ
run test [] = 0
run test (b ∷ more) = if test b then suc (run test more) else 0

abbrev pub further : ℕ → Option ℕ → Option ℕ
further k None = None
further k (Some n) = Some (k + n)

abbrev pub begins_with : ℕ → List ℕ → Bool
begins_with c [] = false
begins_with c (b ∷ more) = b == c

-- ---- comments

-- a comment that `{` opened
abbrev pub closer_of_brace : Dialect → Closer
closer_of_brace d = if is_iso d then Either else Brace

-- a comment that `(*` opened
abbrev pub closer_of_star : Dialect → Closer
closer_of_star d = if is_iso d then Either else Star

abbrev pub star_length : ℕ → List ℕ → ℕ
star_length b more = if b == 42 && begins_with 41 more then 2 else 0

-- the number of bytes of the closing mark that begins with b, or 0
unfoldable pub closing_length : Closer → ℕ → List ℕ → ℕ
closing_length Either b more = if b == 125 then 1 else star_length b more
closing_length Brace b more = if b == 125 then 1 else 0
closing_length Star b more = star_length b more
closing_length Dollar b more = if b == 36 then 1 else 0

-- no mark begins at the byte before, or it has n bytes
abbrev pub ended : ℕ → Option ℕ → Option ℕ
ended n other = if n == 0 then further 1 other else Some n

-- how many bytes there are up to the end of the first closing mark
unfoldable pub closing_end : Closer → List ℕ → Option ℕ
closing_end c [] = None
closing_end c (b ∷ more) = ended (closing_length c b more) (closing_end c more)

-- ---- quoted texts

-- How many bytes there are up to the closing quote and with it. Two quotes are none that closes. There is none where the line
-- or the bytes end before it.
unfoldable pub quote_end : List ℕ → Option ℕ
quote_end [] = None
quote_end (b ∷ []) = if b == 39 then Some 1 else None
quote_end (b ∷ c ∷ more) =
    if b == 39 then (if c == 39 then further 2 (quote_end more) else Some 1)
    else (if is_line_end b then None else further 1 (quote_end (c ∷ more)))

-- ---- reals

abbrev pub begins_digit : List ℕ → Bool
begins_digit [] = false
begins_digit (b ∷ more) = is_digit b

abbrev pub when : Bool → ℕ → Option ℕ
when holds n = if holds then Some n else None

abbrev pub exponent_end : List ℕ → Option ℕ
exponent_end [] = None
exponent_end (b ∷ more) = if b == 43 || b == 45 then when (begins_digit more) 3 else when (is_digit b) 2

-- how many bytes after the digits of a number make it a real one
abbrev pub real_end : List ℕ → Option ℕ
real_end [] = None
real_end (b ∷ more) = if b == 46 then when (begins_digit more) 2 else if b == 101 || b == 69 then exponent_end more else None
