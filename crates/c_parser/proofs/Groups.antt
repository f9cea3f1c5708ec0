-- One token of a group of parentheses is skipped.
use Rattle.std.proofs.Common.{◌≡◌, ℕ, zero, suc, ◌+◌, ◌-◌, ◌<◌, Bool, true, false, List, [], ◌∷◌, length, refl, ap, ◌∙◌, arith}
use Rattle.c_grammar.specs.declared.token.CToken.{CToken}
use Rattle.c_grammar.specs.declared.token.Mark.TheVariants as mark
use Rattle.c_grammar.specs.Token.{Token}
use Rattle.c_grammar.specs.Seen.{tokens_of}
use Rattle.token_parsing.specs.Parser.{begins, rest}
use Rattle.c_expr_parser.specs.Classes.{marks}
use Rattle.c_parser.specs.Statements.{after_group}
use Rattle.c_expr_parser.proofs.Turns.{as_long}

-- what is after the group, by whether the next token opens or closes a group
abbrev by_tests : Bool → Bool → ℕ → List Token → List Token
by_tests opens closes n s = elim opens [ true ↦ after_group (suc n) s | false ↦ elim closes [ true ↦ elim n [ zero ↦ s | suc m ↦ after_group m s ] | false ↦ after_group n s ] ]

next_by : (n : ℕ) (t : Token) (s : List Token) → after_group n (t ∷ s) ≡ by_tests (begins (marks mark.Open) (t ∷ s)) (begins (marks mark.Close) (t ∷ s)) n s
unfolding after_group
next_by n t s = refl

pub group_opens : (n : ℕ) (s : List Token) → begins (marks mark.Open) s ≡ true → after_group n s ≡ after_group (n + 1) (rest s)
unfolding begins
group_opens n [] e = absurd cc
group_opens n (t ∷ s) e =
    let same : suc n ≡ n + 1 = omega arith in
    next_by n t s ∙ ap (λ b. by_tests b (begins (marks mark.Close) (t ∷ s)) n s) e ∙ ap (λ k. after_group k s) same

pub group_ends : (s : List Token) → begins (marks mark.Open) s ≡ false → begins (marks mark.Close) s ≡ true → after_group 0 s ≡ rest s
unfolding begins
group_ends [] e f = absurd cc
group_ends (t ∷ s) e f = next_by 0 t s ∙ ap (λ b. by_tests b (begins (marks mark.Close) (t ∷ s)) 0 s) e ∙ ap (λ b. by_tests false b 0 s) f

pub group_closes : (n : ℕ) (s : List Token) → begins (marks mark.Open) s ≡ false → begins (marks mark.Close) s ≡ true → 0 < n → after_group n s ≡ after_group (n - 1) (rest s)
unfolding begins
group_closes n [] e f some = absurd cc
group_closes n (t ∷ s) e f some =
    let same : n ≡ suc (n - 1) = omega arith in
    next_by n t s ∙ ap (λ b. by_tests b (begins (marks mark.Close) (t ∷ s)) n s) e ∙ ap (λ b. by_tests false b n s) f ∙ ap (λ k. by_tests false true k s) same

pub group_goes_on : (n : ℕ) (s : List Token) → begins (marks mark.Open) s ≡ false → begins (marks mark.Close) s ≡ false → after_group n s ≡ after_group n (rest s)
unfolding after_group
group_goes_on n [] e f = refl
group_goes_on n (t ∷ s) e f = next_by n t s ∙ ap (λ b. by_tests b (begins (marks mark.Close) (t ∷ s)) n s) e ∙ ap (λ b. by_tests false b n s) f

pub group_over : (n : ℕ) (now : List CToken) → length now ≡ 0 → tokens_of now ≡ after_group n (tokens_of now)
unfolding after_group
group_over n [] e = refl
group_over n (t ∷ now) e = absurd (omega arith)

-- what is behind a token is shorter by one
pub behind_shorter : (now behind : List CToken) → tokens_of behind ≡ rest (tokens_of now) → 0 < length now → suc (length behind) ≡ length now
behind_shorter [] behind e some = absurd (omega arith)
behind_shorter (t ∷ now) behind e some = omega (arith, as_long behind, as_long now, ap length e)
