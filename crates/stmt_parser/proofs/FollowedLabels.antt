-- A label of a text is followed, and where the text has none, none is read.
use Rattle.std.proofs.Common.{◌≡◌, ◌⊎◌, inl, inr, ℕ, ◌≤◌, Bool, true, false, ◌&&◌, ◌||◌, List, [], ◌∷◌, length, Option, Some, None, Ok, refl, ap, ◌∙◌, arith}
use Rattle.std.specs.Prelude.{IsTrue}
use Rattle.p2c_text.specs.declared.dialect.Dialect.{Dialect}
use Rattle.p2c_text.specs.declared.place.Span.{Span}
use Rattle.dialect_lexer.specs.declared.token.Symbol.TheVariants as mark
use Rattle.pascal_tree.specs.declared.names.Identifier.{Identifier}
use Rattle.pascal_tree.specs.declared.names.Label.{Label}
use Rattle.pascal_tree.specs.declared.names.Label.TheVariants as a_label
use Rattle.token_parsing.specs.Parser.{Parser, Outcome, and_then, take_of, one_of, is_some, begins, rest}
use Rattle.token_parsing.proofs.Tracked.{Shorter, Shrinks, short_then, one_shrinks, then_shrinks, pure_shrinks}
use Rattle.expr_parser.specs.Tokens.{Token, Placed, Symbol}
use Rattle.expr_parser.specs.Classes.{identifiers, numbers, symbols, expect}
use Rattle.expr_parser.proofs.Layouts.{spell}
use Rattle.expr_parser.proofs.Followed.{Until, Along, done, last, longer, Followed, limit, short_followed, follow_then, follow_pure, follow_token, begun_token, looks_at}
use Rattle.expr_parser.proofs.Lookahead.{looks_name, looks_number, looks_symbol, on_name, on_number, on_symbol, on_symbol_here, accepts_symbol}
use Rattle.expr_parser.specs.Dialects.{has_named_labels}
use Rattle.expr_parser.specs.ConstantNodes.{write_label, formed_label}
use Rattle.expr_parser.specs.Constants.{named_label, number_label, begins_named_label, label, begins_label, optional_label}
use Rattle.expr_parser.proofs.FollowedConstants.{label_followed}
use Rattle.stmt_parser.proofs.FollowedArms.{two_known, shorter_still}
use Rattle.expr_parser.proofs.FollowedParts.{and_in, and_out}

-- a text that begins without a label
pub data NoLabel : List Token → Type 0 where
  nothing : NoLabel []
  no_name : (x : Token) (w : List Token) → on_number x ≡ false → on_name x ≡ false → NoLabel (x ∷ w)
  alone : (x : Token) → on_number x ≡ false → NoLabel (x ∷ [])
  name : (x y : Token) (w : List Token) → on_number x ≡ false → on_symbol mark.Colon y ≡ false → NoLabel (x ∷ y ∷ w)

-- ---- tests

neither : (a b c d : Bool) → a ≡ false → b ≡ false → (a || (d && b && c)) ≡ false
neither true b c d e f = absurd cc
neither false true c d e f = absurd cc
neither false false c true e f = refl
neither false false c false e f = refl

no_second : (a b c : Bool) → a ≡ false → c ≡ false → (a || (b && c)) ≡ false
no_second true b c e f = absurd cc
no_second false b true e f = absurd cc
no_second false true false e f = refl
no_second false false false e f = refl

first_is : (a b : Bool) → a ≡ true → (a || b) ≡ true
first_is true b e = refl
first_is false b e = absurd cc

second_is : (a b c : Bool) → a ≡ false → b ≡ true → c ≡ true → (a || (b && c)) ≡ true
second_is true b c e f g = absurd cc
second_is false true c e f g = g
second_is false false c e f g = absurd cc

-- ---- what a label takes

-- a label and a colon
abbrev pub labelled : Dialect → Span → Parser Placed (Option Label)
labelled d end = λ s. and_then (label d end s) (λ l s. and_then (expect mark.Colon s) (λ _ s. Ok (Some l, s)))

module _ (d : Dialect) (end : Span) where
  colon_shrinks : (l : Label) → Shrinks (λ s. and_then (expect mark.Colon s) (λ _ s. Ok (Some l, s)))
  colon_shrinks l = then_shrinks (one_shrinks _) (λ _. pure_shrinks _)

  number_begun : (s : List Placed) → begins numbers s ≡ true → Shorter (length s) 0 (number_label end s)
  unfolding number_label
  number_begun s e = begun_token numbers s e (λ v. λ n r k. pure_shrinks _ n r k)

  named_begun : (s : List Placed) → begins identifiers s ≡ true → Shorter (length s) 0 (named_label s)
  unfolding named_label
  named_begun s e = begun_token identifiers s e (λ n. pure_shrinks _)

  label_begun : (s : List Placed) → begins_label d s ≡ true → Shorter (length s) 0 (label d end s)
  unfolding label
  label_begun s e = by (begins_named_label d s) (begins numbers s) refl refl e
    where
      by : (a b : Bool) → begins_named_label d s ≡ a → begins numbers s ≡ b → (b || (a && begins (symbols mark.Colon) (rest s))) ≡ true → Shorter (length s) 0 (elim a [ true ↦ named_label s | false ↦ number_label end s ])
      by true b f g e = named_begun s (and_out (has_named_labels d) (begins identifiers s) f).1
      by false true f g e = number_begun s g
      by false false f g e = absurd cc

  pub labelled_begun : (s : List Placed) → begins_label d s ≡ true → Shorter (length s) 0 (labelled d end s)
  labelled_begun s e = short_then (label_begun s e) colon_shrinks

  after_name : {B : Type 0} {m : ℕ} (found : Option Identifier) (t : Placed) (r : List Placed) (f : Label → Parser Placed B) → is_some found ≡ true → ((l : Label) → Shorter m 0 (f l r))
      → Shorter m 0 (and_then (and_then (take_of found (t ∷ r)) (λ n s. Ok (a_label.Name n, s))) f)
  after_name None t r f e k = absurd cc
  after_name (Some i) t r f e k = k (a_label.Name i)

  -- a name and a colon are two tokens
  named_labelled : (t : Placed) (r : List Placed) → begins numbers (t ∷ r) ≡ false → begins_label d (t ∷ r) ≡ true → Shorter (length r) 0 (labelled d end (t ∷ r))
  unfolding label named_label one_of begins
  named_labelled t r none e = by (begins_named_label d (t ∷ r)) (begins numbers (t ∷ r)) refl none e
    where
      by : (a b : Bool) → begins_named_label d (t ∷ r) ≡ a → b ≡ false → (b || (a && begins (symbols mark.Colon) r)) ≡ true
          → Shorter (length r) 0 (and_then (elim a [ true ↦ named_label (t ∷ r) | false ↦ number_label end (t ∷ r) ]) (λ l s. and_then (expect mark.Colon s) (λ _ s. Ok (Some l, s))))
      by a true f g e = absurd cc
      by false false f g e = absurd cc
      by true false f g e = after_name (identifiers t) t r _ (and_out (has_named_labels d) (begins identifiers (t ∷ r)) f).1 (λ l. begun_token (symbols mark.Colon) r e (λ _. pure_shrinks _))

-- nothing of the text is left
all_left : {n : Until} {s : List Placed} → Along n [] s → length s ≤ limit n
all_left (done r) = omega arith

-- one token of the text is left, and what follows the text may be a colon
only_known : {n : Until} (d : Dialect) (end : Span) {x : Token} {s : List Placed} → begins numbers s ≡ false → Along n (x ∷ []) s → begins_label d s ≡ true → Shorter (limit n) 0 (labelled d end s)
only_known d end none (last t x w r e) is = labelled_begun d end (t ∷ r) is
only_known d end none (longer n t x w r e h) is = shorter_still (all_left h) (named_labelled d end t r none is)

-- ---- what is read

module _ {B : Type 0} (n : Until) (W : Type 0) (d : Dialect) (end : Span) (rest' : List Token) (f : Option Label → Parser Placed B) (f_shrinks : (l : Option Label) → Shrinks (f l)) where
  read_none : (s : List Placed) (b : Bool) → b ≡ false → Followed n W rest' (f None s) → (o : Outcome Placed (Option Label)) → Followed n W rest' (and_then (elim b [ true ↦ o | false ↦ Ok (None, s) ]) f)
  read_none s true e h o = absurd cc
  read_none s false e h o = h

  -- what may be read otherwise takes all that is known
  either_way : (s : List Placed) → Followed n W rest' (f None s) → ((begins_label d s ≡ true) → Shorter (limit n) 0 (labelled d end s)) → Followed n W rest' (and_then (optional_label d end s) f)
  unfolding optional_label
  either_way s h k = by (begins_label d s) refl
    where
      by : (b : Bool) → begins_label d s ≡ b → Followed n W rest' (and_then (elim b [ true ↦ labelled d end s | false ↦ Ok (None, s) ]) f)
      by true e = short_followed (short_then (k e) f_shrinks)
      by false e = h

  not_labelled : (s : List Placed) → begins_label d s ≡ false → Followed n W rest' (f None s) → Followed n W rest' (and_then (optional_label d end s) f)
  unfolding optional_label
  not_labelled s e h = read_none s (begins_label d s) e h (labelled d end s)

  pub no_label_followed : (w : List Token) → NoLabel w → (s : List Placed) → Along n w s → Followed n W rest' (f None s) → Followed n W rest' (and_then (optional_label d end s) f)
  no_label_followed _ nothing s h k = either_way s k (λ e. shorter_still (all_left h) (labelled_begun d end s e))
  no_label_followed _ (no_name x w number other) s h k =
      not_labelled s (neither (begins numbers s) (begins identifiers s) (begins (symbols mark.Colon) (rest s)) (has_named_labels d) (looks_at looks_number h ∙ number) (looks_at looks_name h ∙ other)) k
  no_label_followed _ (alone x number) s h k = either_way s k (λ e. only_known d end (looks_at looks_number h ∙ number) h e)
  no_label_followed _ (name x y w number colon) s h k = by (two_known h)
    where
      by : (length s ≤ limit n) ⊎ ((t : Placed) × (r : List Placed) × (s ≡ t ∷ r) × Along n (y ∷ w) r) → Followed n W rest' (and_then (optional_label d end s) f)
      by (inl most) = either_way s k (λ e. shorter_still most (labelled_begun d end s e))
      by (inr (t, r, is, known)) =
          not_labelled s (no_second (begins numbers s) (begins_named_label d s) (begins (symbols mark.Colon) (rest s)) (looks_at looks_number h ∙ number) (ap (λ z. begins (symbols mark.Colon) (rest z)) is ∙ looks_at (looks_symbol mark.Colon) known ∙ colon)) k

  labelled_followed : (l : Label) → IsTrue (formed_label d l) → (w : List Token) (s : List Placed) → Along n (spell (write_label l) (Symbol mark.Colon ∷ w)) s → Followed n W w (labelled d end s)
  labelled_followed l formed w s h =
      follow_then (label_followed n W d end l formed (Symbol mark.Colon ∷ w) s h) (λ l. colon_shrinks d end l) (λ l r h. follow_token (symbols mark.Colon) (accepts_symbol mark.Colon) h (λ _. pure_shrinks _) (λ _ r h. follow_pure _ h))

  read_some : (s : List Placed) (b : Bool) → b ≡ true → Followed n W rest' (and_then (labelled d end s) f) → Followed n W rest' (and_then (elim b [ true ↦ labelled d end s | false ↦ Ok (None, s) ]) f)
  read_some s true e h = h
  read_some s false e h = absurd cc

  is_labelled : (s : List Placed) → begins_label d s ≡ true → Followed n W rest' (and_then (labelled d end s) f) → Followed n W rest' (and_then (optional_label d end s) f)
  unfolding optional_label
  is_labelled s e h = read_some s (begins_label d s) e h

  either_taken : (s : List Placed) → length s ≤ limit n → Shorter (length s) 0 (f None s) → Followed n W rest' (and_then (optional_label d end s) f)
  unfolding optional_label
  either_taken s most h = by (begins_label d s) refl
    where
      by : (b : Bool) → begins_label d s ≡ b → Followed n W rest' (and_then (elim b [ true ↦ labelled d end s | false ↦ Ok (None, s) ]) f)
      by true e = short_followed (shorter_still most (short_then (labelled_begun d end s e) f_shrinks))
      by false e = short_followed (shorter_still most h)

  pub label_read : (l : Label) → IsTrue (formed_label d l) → (w : List Token) (s : List Placed) → Along n (spell (write_label l) (Symbol mark.Colon ∷ w)) s → (begins identifiers s ≡ true → Shorter (length s) 0 (f None s))
      → ((l : Option Label) (r : List Placed) → Along n w r → Followed n W rest' (f l r)) → Followed n W rest' (and_then (optional_label d end s) f)
  label_read (a_label.Number v span) formed w s h taken k =
      is_labelled s (first_is (begins numbers s) _ (looks_at looks_number h)) (follow_then (labelled_followed (a_label.Number v span) formed w s h) f_shrinks k)
  label_read (a_label.Name i) formed w s h taken k = by (two_known h)
    where
      by : (length s ≤ limit n) ⊎ ((t : Placed) × (r : List Placed) × (s ≡ t ∷ r) × Along n (Symbol mark.Colon ∷ w) r) → Followed n W rest' (and_then (optional_label d end s) f)
      by (inl most) = either_taken s most (taken (looks_at looks_name h))
      by (inr (t, r, is, known)) =
          let named : begins_named_label d s ≡ true = ap (λ b. has_named_labels d && b) (looks_at looks_name h) ∙ and_in (has_named_labels d) true formed refl in
          let colon : begins (symbols mark.Colon) (rest s) ≡ true = ap (λ z. begins (symbols mark.Colon) (rest z)) is ∙ looks_at (looks_symbol mark.Colon) known ∙ on_symbol_here mark.Colon in
          is_labelled s (second_is (begins numbers s) (begins_named_label d s) _ (looks_at looks_number h) named colon) (follow_then (labelled_followed (a_label.Name i) formed w s h) f_shrinks k)
