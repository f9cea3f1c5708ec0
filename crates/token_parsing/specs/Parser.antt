-- Parsers, as functions of the tokens that are left.
use Rattle.std.specs.Prelude.{◌≡◌, ℕ, zero, suc, Bool, true, false, List, [], ◌∷◌, length, Option, Some, None, Result, Ok, Err}
use Rattle.token_parsing.specs.declared.refusal.Refusal.{Refusal}
use Rattle.token_parsing.specs.declared.refusal.Refusal.TheVariants.{Unexpected, TooDeep}
use Rattle.token_parsing.specs.declared.refusal.ParseError.{ParseError}
use Rattle.token_parsing.specs.declared.refusal.ParseError.TheVariants as error

-- What was read and the tokens after it, or a refusal.
abbrev pub Outcome : Type 0 → Type 0 → Type 0
Outcome T A = Result (A × List T) Refusal

abbrev pub Parser : Type 0 → Type 0 → Type 0
Parser T A = List T → Outcome T A

-- What a function returned, seen by view, is what the parser gives, unless memory ran out.
abbrev pub Fails : {Y : Type 0} → ParseError → Result Y Refusal → Type 0
Fails (error.Memory a) read = Unit {0}
Fails (error.At f) read = read ≡ Err f

abbrev pub Gives : {X Y : Type 0} → (X → Y) → Result X ParseError → Result Y Refusal → Type 0
Gives view (Ok x) read = read ≡ Ok (view x)
Gives view (Err e) read = Fails e read

-- ---- one after the other

abbrev pub and_then : {T A B : Type 0} → Outcome T A → (A → Parser T B) → Outcome T B
and_then (Ok p) f = f p.0 p.1
and_then (Err e) f = Err e

infixl 10 ◌>>=◌
abbrev pub ◌>>=◌ : {T A B : Type 0} → Parser T A → (A → Parser T B) → Parser T B
p >>= f = λ s. and_then (p s) f

abbrev pub pure : {T A : Type 0} → A → Parser T A
pure a = λ s. Ok (a, s)

-- the next token is not one that may stand here
abbrev pub refuse : {T A : Type 0} → Parser T A
refuse = λ s. Err (Unexpected (length s))

-- what begins here is nested too deep
abbrev pub stop : {T A : Type 0} → Parser T A
stop = λ s. Err (TooDeep (length s))

-- ---- the next token

-- what a token says, where it is one of the class
abbrev pub Class : Type 0 → Type 0 → Type 0
Class T A = T → Option A

abbrev pub next : {T A : Type 0} → Class T A → List T → Option A
next class [] = None
next class (t ∷ s) = class t

abbrev pub rest : {T : Type 0} → List T → List T
rest [] = []
rest (t ∷ s) = s

abbrev pub take_of : {T A : Type 0} → Option A → Parser T A
take_of None = refuse
take_of (Some x) = λ s. Ok (x, rest s)

-- the next token, which is to be of a class
unfoldable pub one_of : {T A : Type 0} → Class T A → Parser T A
one_of class = λ s. take_of (next class s) s

abbrev pub is_some : {A : Type 0} → Option A → Bool
is_some None = false
is_some (Some x) = true

unfoldable pub begins : {T A : Type 0} → Class T A → List T → Bool
begins class s = is_some (next class s)

-- ---- ways to go on

-- one way or another, by the tokens that are next
abbrev pub either : {T A : Type 0} → (List T → Bool) → Parser T A → Parser T A → Parser T A
either test p q = λ s. elim (test s) [ true ↦ p s | false ↦ q s ]

-- A part after another, again and again as long as one begins, at most so many times. The part is given what was read before it.
unfoldable pub again : {T A : Type 0} → (List T → Bool) → (A → Parser T A) → ℕ → A → Parser T A
again test part zero a = pure a
again test part (suc n) a = either test (part a >>= again test part n) (pure a)

-- as many as there are
unfoldable pub repeat : {T A : Type 0} → (List T → Bool) → (A → Parser T A) → A → Parser T A
repeat test part a = λ s. again test part (length s) a s
