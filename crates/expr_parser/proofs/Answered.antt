-- From the parser's answer at a place to what it means in the words of the grammar.
use Rattle.std.proofs.Common.{◌≡◌, ℕ, Bool, zero, suc, ◌+◌, ◌-◌, ◌≤◌, List, [], ◌∷◌, ◌++◌, length, drop, Result, Ok, Err, refl, sym, ap, subst, ◌∙◌, append_assoc, arith, length-append}
use Rattle.std.specs.List.{Contains}
use Rattle.std.proofs.lemmas.List.Elements.{Contains-append_right}
use Rattle.p2c_text.specs.declared.dialect.Dialect.{Dialect}
use Rattle.p2c_text.specs.declared.place.Span.{Span}
use Rattle.dialect_lexer.specs.FileTokens.{FileTokens}
use Rattle.dialect_lexer.specs.Tokens.{Lexes}
use Rattle.dialect_lexer.specs.declared.token.Token.{Token as LexedToken}
use Rattle.token_parsing.specs.declared.refusal.Refusal.TheVariants as refusal
use Rattle.token_parsing.specs.declared.refusal.ParseError.{ParseError}
use Rattle.token_parsing.specs.declared.refusal.ParseError.TheVariants as error_
use Rattle.token_parsing.specs.Parser.{Outcome, Parser, Fails}
use Rattle.expr_parser.specs.declared.fault.SyntaxFault.{SyntaxFault}
use Rattle.expr_parser.specs.declared.fault.SyntaxFault.TheVariants as fault
use Rattle.expr_parser.specs.Tokens.{Token, Placed, seen, plain}
use Rattle.expr_parser.specs.Spans.{next_place}
use Rattle.expr_parser.specs.Grammar.{AreTokens}
use Rattle.expr_parser.specs.Layout.{Layout}
use Rattle.expr_parser.specs.Text.{MayBeginIn}
use Rattle.expr_parser.specs.Parsed.{end_of, Means, Answers, IsReadAs}
use Rattle.expr_parser.proofs.Turns.{seen_length}
use Rattle.expr_parser.proofs.Layouts.{spell}
use Rattle.expr_parser.proofs.Followed.{Until, Along, Followed}
use Rattle.expr_parser.proofs.FollowedParts.{Part}
use Rattle.expr_parser.proofs.Spots.{Answer, Reads}
use Rattle.expr_parser.proofs.Longest.{read_is_longest, unexpected_is_after, too_deep_is_deep}

-- ---- the tokens of a text are those of the dialect

known_behind : (d : Dialect) (bytes : List ℕ) (list : FileTokens) → Lexes d bytes list → (before after : List Token) → plain (seen bytes list.tokens) ≡ before ++ after → AreTokens d after
known_behind d bytes list lexes before [] e = tt
known_behind d bytes list lexes before (t ∷ after) e = (
  (bytes, list, lexes, subst (λ z. Contains z t) (sym e) (Contains-append_right before (t ∷ after) t (0, omega arith, refl))),
  known_behind d bytes list lexes (before ++ t ∷ []) after (e ∙ sym (append_assoc before (t ∷ []) after)),
)

pub tokens_known : (d : Dialect) (bytes : List ℕ) (list : FileTokens) → Lexes d bytes list → AreTokens d (plain (seen bytes list.tokens))
tokens_known d bytes list lexes = known_behind d bytes list lexes [] (plain (seen bytes list.tokens)) refl

known_from : (d : Dialect) (n : ℕ) (s : List Placed) → AreTokens d (plain s) → AreTokens d (plain (drop n s))
known_from d zero s h = h
known_from d (suc n) [] h = tt
known_from d (suc n) (t ∷ s) h = known_from d n s h.1

-- ---- places

-- what is left behind `at`, where `before` stands in between
left_behind : (at : ℕ) (s before rest : List Placed) → at ≤ length s → drop at s ≡ before ++ rest → drop (length s - length rest) s ≡ rest
left_behind zero s before rest h e = subst (λ z. drop (length z - length rest) z ≡ rest) (sym e) (only before)
  where
    only : (before : List Placed) → drop (length (before ++ rest) - length rest) (before ++ rest) ≡ rest
    only before = dropped before (length (before ++ rest) - length rest) (let long = length-append before rest in omega (arith, long))
      where
        dropped : (before : List Placed) (n : ℕ) → n ≡ length before → drop n (before ++ rest) ≡ rest
        dropped [] n e = subst (λ k. drop k rest ≡ rest) (sym e) refl
        dropped (t ∷ before) n e = subst (λ k. drop k (t ∷ before ++ rest) ≡ rest) (sym e) (dropped before (length before) refl)
left_behind (suc at) [] before rest h e = absurd (omega (arith, h))
left_behind (suc at) (t ∷ s) before rest h e =
    let long = drop_length at s before rest e (omega arith) in
    let n : length (t ∷ s) - length rest ≡ suc (length s - length rest) = omega (arith, long) in
    subst (λ k. drop k (t ∷ s) ≡ rest) (sym n) (left_behind at s before rest (omega arith) e)
  where
    drop_length : (at : ℕ) (s before rest : List Placed) → drop at s ≡ before ++ rest → at ≤ length s → length rest ≤ length s
    drop_length zero s before rest e h = let same = ap length e in let long = length-append before rest in omega (arith, same, long)
    drop_length (suc at) [] before rest e h = absurd (omega (arith, h))
    drop_length (suc at) (t ∷ s) before rest e h = let l = drop_length at s before rest e (omega arith) in omega (arith, l)

split_length : (at : ℕ) (s before rest : List Placed) → at ≤ length s → drop at s ≡ before ++ rest → length s ≡ at + length before + length rest
split_length zero s before rest h e = let same = ap length e in let long = length-append before rest in omega (arith, same, long)
split_length (suc at) [] before rest h e = absurd (omega (arith, h))
split_length (suc at) (t ∷ s) before rest h e = let l = split_length at s before rest (omega arith) e in omega (arith, l)

-- ---- what the code's steps give

pub refused_answers : (A : Type 0) (end : Span) (tokens : List Placed) (given : Outcome Placed A) (error : ParseError) (f : SyntaxFault) → Fails error given → Means end tokens error f → Answers {A = A} end tokens given (Err f)
refused_answers A end tokens given (error_.At (refusal.Unexpected left)) f refused means = subst (λ z. Answers {A = A} end tokens given (Err z)) (sym means) (left, refused, refl)
refused_answers A end tokens given (error_.At (refusal.TooDeep left)) f refused means = subst (λ z. Answers {A = A} end tokens given (Err z)) (sym means) (left, refused, refl)
refused_answers A end tokens given (error_.Memory e) f refused means = subst (λ z. Answers {A = A} end tokens given (Err z)) (sym means) tt

-- ---- answers of a parser as in Longest, for all ends and levels

module _ (d : Dialect) {C : Type 0} (layout : C → Layout) (form : C → Bool) (p : Span → ℕ → Parser Placed C)
    (sound : (end : Span) (k outer : ℕ) (from : List Placed) → AreTokens d (plain from) → Answer d layout form end outer k from (Reads d layout form end outer k from layout form k from) (p end k from))
    (follows : (end : Span) (k : ℕ) (n : Until) (W : Type 0) (c : C) → Part W k (layout c) (form c) → (s : List Placed) → Along n (spell (layout c) []) s → Followed n W [] (p end k s)) where
  answer_is_read : (bytes : List ℕ) (list : FileTokens) (at level : ℕ) (result : Result (C × ℕ) SyntaxFault) → Lexes d bytes list → at ≤ length (seen bytes list.tokens) → level ≤ 401
      → Answers (end_of list.file bytes) (seen bytes list.tokens) (p (end_of list.file bytes) (401 - level) (drop at (seen bytes list.tokens))) result → IsReadAs d layout form bytes list at level result
  answer_is_read bytes list at level (Ok x) lexes within deep (rest, is, count) =
      let all = seen bytes list.tokens in let end = end_of list.file bytes in let k = 401 - level in
      let (tree, run, longest) = read_is_longest d layout form end k (p end k) (sound end k) (follows end k) (drop at all) rest x.0 (known_from d at all (tokens_known d bytes list lexes)) is in
      (run, rest, longest, tree, let long = split_length at all run rest within longest.is in omega (arith, count, long))
  answer_is_read bytes list at level (Err (fault.Unexpected place)) lexes within deep (left, is, at_place) =
      let all = seen bytes list.tokens in let end = end_of list.file bytes in let k = 401 - level in
      let (run, rest, longest, long, none) = unexpected_is_after d layout form end k (p end k) (sound end k) (follows end k) left (drop at all) (known_from d at all (tokens_known d bytes list lexes)) is in
      (run, rest, longest, none, at_place ∙ ap (λ n. next_place end (drop (length all - n) all)) (sym long) ∙ ap (next_place end) (left_behind at all run rest within longest.is))
  answer_is_read bytes list at level (Err (fault.TooDeep place)) lexes within deep (left, is, at_place) =
      let all = seen bytes list.tokens in let end = end_of list.file bytes in let k = 401 - level in
      let ((front, bad, split, long, may), none) = too_deep_is_deep d layout form end k (p end k) (sound end k) (follows end k) level left (drop at all) (known_from d at all (tokens_known d bytes list lexes)) is in
      let levels : level + (401 - level) ≡ 401 = omega arith in (
        front,
        bad,
        split,
        subst (λ n. MayBeginIn d layout form level n (plain front)) levels may,
        at_place ∙ ap (λ n. next_place end (drop (length all - n) all)) (sym long) ∙ ap (next_place end) (left_behind at all front bad within split),
        none,
      )
  answer_is_read bytes list at level (Err (fault.Memory e)) lexes within deep h = tt

  pub given_is_read : (bytes : List ℕ) (list : FileTokens) (at level : ℕ) (result : Result (C × ℕ) SyntaxFault) (end : Span) (file : ℕ) (slice : List LexedToken)
      → end ≡ end_of file bytes → file ≡ list.file → slice ≡ list.tokens → Lexes d bytes list → at ≤ length list.tokens → level ≤ 401
      → Answers end (seen bytes slice) (p end (401 - level) (drop at (seen bytes slice))) result → IsReadAs d layout form bytes list at level result
  given_is_read bytes list at level result end file slice is_end is_file is_slice lexes within deep h =
      let here : end ≡ end_of list.file bytes = is_end ∙ ap (λ f. end_of f bytes) is_file in
      let of_list : Answers end (seen bytes list.tokens) (p end (401 - level) (drop at (seen bytes list.tokens))) result =
      subst (λ s. Answers end (seen bytes s) (p end (401 - level) (drop at (seen bytes s))) result) is_slice h in
      answer_is_read bytes list at level result lexes (subst (λ n. at ≤ n) (sym (seen_length bytes list.tokens)) within) deep
      (subst (λ z. Answers z (seen bytes list.tokens) (p z (401 - level) (drop at (seen bytes list.tokens))) result) here of_list)
