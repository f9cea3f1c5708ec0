-- A function that cuts bytes into tokens, for worked examples, and that it cuts as the definition says.
use Rattle.std.proofs.Common.{◌≡◌, ℕ, zero, suc, ◌+◌, Bool, true, false, List, [], ◌∷◌, ◌++◌, length, Option, Some, None, refl, sym, ap, subst, arith}
use Rattle.std.specs.Prelude.{◌==◌}
use Rattle.std.specs.List.{list_all}
use Rattle.std.specs.Str.Parse.{digits_value}
use Rattle.c_grammar.specs.declared.token.Mark.{Mark}
use Rattle.c_grammar.specs.Token.{Token, Numeral, Sign, Placed, placed, named, quoted_word, quoted_mark, is_letter, is_digit, is_name_byte, is_white, IsLongest, Cut, nothing, white, token}
use Rattle.c_grammar.proofs.Longest.{Stops, NoPair, word_longest, zero_longest, number_longest, pair_longest, mark_longest}

-- the bytes from the front on that pass, and the others
pub record Span : Type 0 where
  pub front : List ℕ
  pub after : List ℕ

unfoldable pub span : (ℕ → Bool) → List ℕ → Span
span test [] = record { front = []; after = [] }
span test (b ∷ more) = let s = span test more in elim (test b) [ true ↦ record s { front = b ∷ s.front } | false ↦ record { front = []; after = b ∷ more } ]

pub record IsSpan (test : ℕ → Bool) (bytes : List ℕ) (s : Span) : Type 0 where
  pub whole : bytes ≡ s.front ++ s.after
  pub pass : list_all test s.front ≡ true
  pub stops : Stops test s.after

pub span_is : (test : ℕ → Bool) (bytes : List ℕ) → IsSpan test bytes (span test bytes)
unfolding span
span_is test [] = record { whole = refl; pass = refl; stops = tt }
span_is test (b ∷ more) = by (test b) refl (span test more) (span_is test more)
  where
    by : (x : Bool) → test b ≡ x → (s : Span) → IsSpan test more s
        → IsSpan test (b ∷ more) (elim x [ true ↦ record s { front = b ∷ s.front } | false ↦ record { front = []; after = b ∷ more } ])
    by true e s i = record { whole = ap (λ l. b ∷ l) i.whole; pass = rw e i.pass; stops = i.stops }
    by false e s i = record { whole = refl; pass = refl; stops = e }

-- a token with the bytes after it
pub record Piece (bytes : List ℕ) : Type 0 where
  pub front : List ℕ
  pub after : List ℕ
  pub token : Token
  pub whole : bytes ≡ front ++ after
  pub longest : IsLongest front after token

unfoldable pub word_piece : (b : ℕ) (more : List ℕ) → is_letter b ≡ true → Piece (b ∷ more)
word_piece b more l =
    let s = span is_name_byte more in let i = span_is is_name_byte more in
    record { front = b ∷ s.front; after = s.after; token = named (quoted_word (b ∷ s.front)) (b ∷ s.front); whole = ap (λ k. b ∷ k) i.whole; longest = word_longest b s.front s.after l i.pass i.stops }

pub is_zero : (b : ℕ) → (b == 48) ≡ true → b ≡ 48
is_zero b z = grind arith

unfoldable pub zero_piece : (b : ℕ) (more : List ℕ) → (b == 48) ≡ true → Piece (b ∷ more)
zero_piece b more z = record { front = 48 ∷ []; after = more; token = Numeral 0; whole = ap (λ k. k ∷ more) (is_zero b z); longest = zero_longest more }

unfoldable pub number_piece : (b : ℕ) (more : List ℕ) → is_letter b ≡ false → (b == 48) ≡ false → is_digit b ≡ true → Piece (b ∷ more)
number_piece b more l z d =
    let s = span is_digit more in let i = span_is is_digit more in
    record { front = b ∷ s.front; after = s.after; token = Numeral (digits_value 10 (b ∷ s.front)); whole = ap (λ k. b ∷ k) i.whole; longest = number_longest b s.front s.after l z d i.pass i.stops }

-- the tests of a byte that begins a mark, if any
pub record Other (b : ℕ) : Type 0 where
  pub letter : is_letter b ≡ false
  pub zero' : (b == 48) ≡ false
  pub digit : is_digit b ≡ false

unfoldable pub single_piece : (b : ℕ) (more : List ℕ) → Other b → NoPair b more → Option (Piece (b ∷ more))
single_piece b more o n = by (quoted_mark (b ∷ [])) refl
  where
    by : (found : Option Mark) → quoted_mark (b ∷ []) ≡ found → Option (Piece (b ∷ more))
    by None e = None
    by (Some m) e = Some (record { front = b ∷ []; after = more; token = Sign m; whole = refl; longest = mark_longest b more m o.letter o.digit o.zero' e n })

unfoldable pub mark_piece : (b : ℕ) (more : List ℕ) → Other b → Option (Piece (b ∷ more))
mark_piece b [] o = single_piece b [] o tt
mark_piece b (c ∷ more) o = by (quoted_mark (b ∷ c ∷ [])) refl
  where
    by : (found : Option Mark) → quoted_mark (b ∷ c ∷ []) ≡ found → Option (Piece (b ∷ c ∷ more))
    by None e = single_piece b (c ∷ more) o e
    by (Some m) e = Some (record { front = b ∷ c ∷ []; after = more; token = Sign m; whole = refl; longest = pair_longest b c more m o.letter o.digit o.zero' e })

unfoldable pub piece : (b : ℕ) (more : List ℕ) → Option (Piece (b ∷ more))
piece b more = by (is_letter b) (b == 48) (is_digit b) refl refl refl
  where
    by : (letter z digit : Bool) → is_letter b ≡ letter → (b == 48) ≡ z → is_digit b ≡ digit → Option (Piece (b ∷ more))
    by true z digit l e d = Some (word_piece b more l)
    by false true digit l e d = Some (zero_piece b more e)
    by false false true l e d = Some (number_piece b more l e d)
    by false false false l e d = mark_piece b more (record { letter = l; zero' = e; digit = d })

pub record Cutting (n : ℕ) (bytes : List ℕ) : Type 0 where
  pub tokens : List Placed
  pub cut : Cut n bytes tokens []

unfoldable pub after_white : (n b : ℕ) (more : List ℕ) → is_white b ≡ true → Option (Cutting (n + 1) more) → Option (Cutting n (b ∷ more))
after_white n b more w None = None
after_white n b more w (Some c) = Some (record { tokens = c.tokens; cut = white n b more c.tokens [] w c.cut })

unfoldable pub after_token : (n : ℕ) (bytes : List ℕ) (p : Piece bytes) → Option (Cutting (n + length p.front) p.after) → Option (Cutting n bytes)
after_token n bytes p None = None
after_token n bytes p (Some c) = Some (record {
  tokens = placed p.token n ∷ c.tokens;
  cut = subst (λ x. Cut n x (placed p.token n ∷ c.tokens) []) (sym p.whole) (token n p.front p.after p.token c.tokens [] p.longest c.cut);
})

-- the tokens of the bytes, in at most so many pieces
unfoldable pub cuts : ℕ → (n : ℕ) (bytes : List ℕ) → Option (Cutting n bytes)
cuts zero n bytes = None
cuts (suc fuel) n [] = Some (record { tokens = []; cut = nothing n [] })
cuts (suc fuel) n (b ∷ more) = by (cuts fuel) (is_white b) refl (piece b more)
  where
    by : ((n : ℕ) (bytes : List ℕ) → Option (Cutting n bytes)) → (w : Bool) → is_white b ≡ w → Option (Piece (b ∷ more)) → Option (Cutting n (b ∷ more))
    by go true w p = after_white n b more w (go (n + 1) more)
    by go false w None = None
    by go false w (Some p) = after_token n (b ∷ more) p (go (n + length p.front) p.after)
