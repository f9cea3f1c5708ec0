-- How bytes are cut, whatever the number of bytes before them, from the last token to the first.
use Rattle.std.proofs.Common.{◌≡◌, ℕ, ◌+◌, Bool, true, false, List, [], ◌∷◌, ◌++◌, length, Option, Some, None, refl, ap, sym, subst}
use Rattle.std.specs.Prelude.{IsTrue, ◌==◌, ◌||◌, if◌then◌else◌}
use Rattle.std.specs.List.{list_all}
use Rattle.std.specs.Str.Parse.{digits_value}
use Rattle.c_grammar.specs.declared.token.Word.{Word}
use Rattle.c_grammar.specs.declared.token.Word.TheVariants as word
use Rattle.c_grammar.specs.declared.token.Mark.{Mark}
use Rattle.c_grammar.specs.declared.token.Mark.TheVariants as mark
use Rattle.c_grammar.specs.Token.{Token, Identifier, Numeral, Quoted, Sign, Placed, placed, form, form_by, named, signed, when, quoted_word, quoted_mark, word_bytes, is_letter, is_digit, is_name_byte, is_white, is_nil, IsLongest, Cut, nothing, white, token}
use Rattle.c_grammar.specs.Grammar.{IsName}
use Rattle.c_grammar.specs.Text.{plain}
use Rattle.c_grammar.proofs.Longest.{Stops, NoPair, word_longest, pair_longest, mark_longest}

-- the bytes, of which the first has n before it, are cut into these tokens
pub record CutInto (n : ℕ) (bytes : List ℕ) (tokens : List Token) : Type 0 where
  pub places : List Placed
  pub cut : Cut n bytes places []
  pub same : plain places ≡ tokens

-- the bytes are cut into these tokens wherever they stand
pub record Reads (bytes : List ℕ) (tokens : List Token) : Type 0 where
  pub from : (n : ℕ) → CutInto n bytes tokens

pub reads_nothing : Reads [] []
reads_nothing = record { from = λ n. record { places = []; cut = nothing n []; same = refl } }

reads_white : (b : ℕ) {after : List ℕ} {tokens : List Token} → IsTrue (is_white b) → Reads after tokens → Reads (b ∷ after) tokens
reads_white b {after} w r = record { from = λ n. let c = r.from (n + 1) in record { places = c.places; cut = white n b after c.places [] w c.cut; same = c.same } }

pub reads_token : {front after : List ℕ} {t : Token} {tokens : List Token} → IsLongest front after t → Reads after tokens → Reads (front ++ after) (t ∷ tokens)
reads_token {front} {after} {t} longest r = record {
  from = λ n. let c = r.from (n + length front) in
      record { places = placed t n ∷ c.places; cut = token n front after t c.places [] longest c.cut; same = ap (λ l. t ∷ l) c.same };
}

pub space : {after : List ℕ} {tokens : List Token} → Reads after tokens → Reads (32 ∷ after) tokens
space r = reads_white 32 refl r

pub newline : {after : List ℕ} {tokens : List Token} → Reads after tokens → Reads (10 ∷ after) tokens
newline r = reads_white 10 refl r

-- ---- words and names

-- a token that begins with a letter
abbrev Lettered : Token → Type 0
Lettered (Identifier name) = Unit {0}
Lettered (Quoted w) = Unit {0}
Lettered (Numeral n) = ⊥
Lettered (Sign m) = ⊥

-- a letter, and then letters, digits and `_`
record Letters (front : List ℕ) : Type 0 where
  first : ℕ
  more : List ℕ
  whole : front ≡ first ∷ more
  letter : is_letter first ≡ true
  pass : list_all is_name_byte more ≡ true

others : (zero' alone digit pass : Bool) (n : ℕ) (found : Option Mark) (t : Token)
    → (if zero' then when alone (Numeral 0) else if digit then when pass (Numeral n) else signed found) ≡ Some t → Lettered t → ⊥
others true true digit pass n found t e l = let same : Numeral 0 ≡ t = cc in subst Lettered (sym same) l
others true false digit pass n found t e l = absurd (cc)
others false alone true true n found t e l = let same : Numeral n ≡ t = cc in subst Lettered (sym same) l
others false alone true false n found t e l = absurd (cc)
others false alone false pass n None t e l = absurd (cc)
others false alone false pass n (Some m) t e l = let same : Sign m ≡ t = cc in subst Lettered (sym same) l

letters_of : (front : List ℕ) (t : Token) → form front ≡ Some t → Lettered t → Letters front
unfolding form_by
letters_of [] t f l = absurd (cc)
letters_of (b ∷ more) t f l = by (is_letter b) refl (list_all is_name_byte more) refl f
  where
    by : (x : Bool) → is_letter b ≡ x → (y : Bool) → list_all is_name_byte more ≡ y
        → (if x then when y (named (quoted_word (b ∷ more)) (b ∷ more))
        else if b == 48 then when (is_nil more) (Numeral 0)
        else if is_digit b then when (list_all is_digit more) (Numeral (digits_value 10 (b ∷ more)))
        else signed (quoted_mark (b ∷ more))) ≡ Some t
        → Letters (b ∷ more)
    by true x true y g = record { first = b; more = more; whole = refl; letter = x; pass = y }
    by true x false y g = absurd (cc)
    by false x p y g = absurd (others (b == 48) (is_nil more) (is_digit b) (list_all is_digit more) (digits_value 10 (b ∷ more)) (quoted_mark (b ∷ more)) t g l)

lettered_longest : (front after : List ℕ) (t : Token) → form front ≡ Some t → Lettered t → Stops is_name_byte after → IsLongest front after t
lettered_longest front after t f l s =
    let k = letters_of front t f l in
    record { is = f; no_longer = λ more rest. rw k.whole ((word_longest k.first k.more after k.letter k.pass s).no_longer more rest) }

pub name : (n : List ℕ) {after : List ℕ} {tokens : List Token} → IsName n → Stops is_name_byte after → Reads after tokens → Reads (n ++ after) (Identifier n ∷ tokens)
name n {after} f s r = reads_token (lettered_longest n after (Identifier n) f tt s) r

word_form : (w : Word) → form (word_bytes w) ≡ Some (Quoted w)
unfolding form_by
word_form word.Struct = refl
word_form word.Typedef = refl
word_form word.Void = refl
word_form word.Int64Type = refl
word_form word.Uint64Type = refl
word_form word.Unsigned = refl
word_form word.Char = refl
word_form word.Int = refl
word_form word.Main = refl
word_form word.Malloc = refl
word_form word.SizeOf = refl
word_form word.Free = refl
word_form word.GetChar = refl
word_form word.PutChar = refl
word_form word.If = refl
word_form word.Else = refl
word_form word.While = refl
word_form word.Goto = refl
word_form word.Return = refl
word_form word.Int64 = refl
word_form word.Uint64 = refl
word_form word.Null = refl

pub quoted : (w : Word) {after : List ℕ} {tokens : List Token} → Stops is_name_byte after → Reads after tokens → Reads (word_bytes w ++ after) (Quoted w ∷ tokens)
quoted w {after} s r = reads_token (lettered_longest (word_bytes w) after (Quoted w) (word_form w) tt s) r

-- the first byte is a letter or `(`
abbrev pub Opens : List ℕ → Type 0
Opens [] = ⊥
Opens (b ∷ more) = (is_letter b || b == 40) ≡ true

pub opens_name : (n after : List ℕ) → IsName n → Opens (n ++ after)
opens_name n after f = let k = letters_of n (Identifier n) f tt in rw (k.whole, k.letter) refl

-- ---- marks

-- the mark is this byte
pub record IsMark (b : ℕ) (m : Mark) : Type 0 where
  pub letter : is_letter b ≡ false
  pub digit : is_digit b ≡ false
  pub zero' : (b == 48) ≡ false
  pub found : quoted_mark (b ∷ []) ≡ Some m

pub mark_before : (b : ℕ) (m : Mark) {after : List ℕ} {tokens : List Token} → IsMark b m → NoPair b after → Reads after tokens → Reads (b ∷ after) (Sign m ∷ tokens)
mark_before b m {after} i p r = reads_token (mark_longest b after m i.letter i.digit i.zero' i.found p) r

-- no byte continues this mark
record IsAlone (b : ℕ) (m : Mark) : Type 0 where
  is : IsMark b m
  alone : (c : ℕ) → quoted_mark (b ∷ c ∷ []) ≡ None

alone_before : (b : ℕ) (m : Mark) {after : List ℕ} {tokens : List Token} → IsAlone b m → Reads after tokens → Reads (b ∷ after) (Sign m ∷ tokens)
alone_before b m {after} i r = mark_before b m i.is (by after) r
  where
    by : (after : List ℕ) → NoPair b after
    by [] = tt
    by (c ∷ more) = i.alone c

-- a mark of two bytes
pub pair_before : (b c : ℕ) (m : Mark) {after : List ℕ} {tokens : List Token} → is_letter b ≡ false → is_digit b ≡ false → (b == 48) ≡ false → quoted_mark (b ∷ c ∷ []) ≡ Some m
    → Reads after tokens → Reads (b ∷ c ∷ after) (Sign m ∷ tokens)
pair_before b c m {after} l d z f r = reads_token (pair_longest b c after m l d z f) r

pub open_brace : {after : List ℕ} {tokens : List Token} → Reads after tokens → Reads (123 ∷ after) (Sign mark.OpenBrace ∷ tokens)
open_brace r = alone_before 123 mark.OpenBrace (record { is = record { letter = refl; digit = refl; zero' = refl; found = refl }; alone = λ c. refl }) r

pub close_brace : {after : List ℕ} {tokens : List Token} → Reads after tokens → Reads (125 ∷ after) (Sign mark.CloseBrace ∷ tokens)
close_brace r = alone_before 125 mark.CloseBrace (record { is = record { letter = refl; digit = refl; zero' = refl; found = refl }; alone = λ c. refl }) r

pub open_parenthesis : {after : List ℕ} {tokens : List Token} → Reads after tokens → Reads (40 ∷ after) (Sign mark.Open ∷ tokens)
open_parenthesis r = alone_before 40 mark.Open (record { is = record { letter = refl; digit = refl; zero' = refl; found = refl }; alone = λ c. refl }) r

pub close : {after : List ℕ} {tokens : List Token} → Reads after tokens → Reads (41 ∷ after) (Sign mark.Close ∷ tokens)
close r = alone_before 41 mark.Close (record { is = record { letter = refl; digit = refl; zero' = refl; found = refl }; alone = λ c. refl }) r

pub open_bracket : {after : List ℕ} {tokens : List Token} → Reads after tokens → Reads (91 ∷ after) (Sign mark.OpenBracket ∷ tokens)
open_bracket r = alone_before 91 mark.OpenBracket (record { is = record { letter = refl; digit = refl; zero' = refl; found = refl }; alone = λ c. refl }) r

pub close_bracket : {after : List ℕ} {tokens : List Token} → Reads after tokens → Reads (93 ∷ after) (Sign mark.CloseBracket ∷ tokens)
close_bracket r = alone_before 93 mark.CloseBracket (record { is = record { letter = refl; digit = refl; zero' = refl; found = refl }; alone = λ c. refl }) r

pub semicolon : {after : List ℕ} {tokens : List Token} → Reads after tokens → Reads (59 ∷ after) (Sign mark.Semicolon ∷ tokens)
semicolon r = alone_before 59 mark.Semicolon (record { is = record { letter = refl; digit = refl; zero' = refl; found = refl }; alone = λ c. refl }) r

pub comma : {after : List ℕ} {tokens : List Token} → Reads after tokens → Reads (44 ∷ after) (Sign mark.Comma ∷ tokens)
comma r = alone_before 44 mark.Comma (record { is = record { letter = refl; digit = refl; zero' = refl; found = refl }; alone = λ c. refl }) r

pub dot : {after : List ℕ} {tokens : List Token} → Reads after tokens → Reads (46 ∷ after) (Sign mark.Dot ∷ tokens)
dot r = alone_before 46 mark.Dot (record { is = record { letter = refl; digit = refl; zero' = refl; found = refl }; alone = λ c. refl }) r

pub colon : {after : List ℕ} {tokens : List Token} → Reads after tokens → Reads (58 ∷ after) (Sign mark.Colon ∷ tokens)
colon r = alone_before 58 mark.Colon (record { is = record { letter = refl; digit = refl; zero' = refl; found = refl }; alone = λ c. refl }) r

pub star : {after : List ℕ} {tokens : List Token} → Reads after tokens → Reads (42 ∷ after) (Sign mark.Star ∷ tokens)
star r = alone_before 42 mark.Star (record { is = record { letter = refl; digit = refl; zero' = refl; found = refl }; alone = λ c. refl }) r

pub minus : {after : List ℕ} {tokens : List Token} → Reads after tokens → Reads (45 ∷ after) (Sign mark.Minus ∷ tokens)
minus r = alone_before 45 mark.Minus (record { is = record { letter = refl; digit = refl; zero' = refl; found = refl }; alone = λ c. refl }) r

pub tilde : {after : List ℕ} {tokens : List Token} → Reads after tokens → Reads (126 ∷ after) (Sign mark.Tilde ∷ tokens)
tilde r = alone_before 126 mark.Tilde (record { is = record { letter = refl; digit = refl; zero' = refl; found = refl }; alone = λ c. refl }) r
