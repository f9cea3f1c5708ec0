-- The tree that is written is the one that is read: what parsers give for it, as equations.
use Rattle.std.proofs.Common.{◌≡◌, ℕ, zero, suc, ◌<◌, ◌≤◌, Bool, true, false, List, [], ◌∷◌, ◌++◌, length, Some, Ok, refl, sym, ap, subst, ◌∙◌, append_assoc, arith, length-append}
use Rattle.std.specs.List.{AllByRecursion}
use Rattle.std.proofs.lemmas.List.{append-nil}
use Rattle.p2c_text.specs.declared.place.Span.{Span}
use Rattle.token_parsing.specs.Parser.{Outcome, Parser, Class, and_then, take_of, one_of, rest, again, repeat}
use Rattle.pascal_tree.specs.declared.names.Identifier.{Identifier}
use Rattle.expr_parser.specs.Tokens.{Token, Placed, Name, plain}
use Rattle.expr_parser.specs.Spans.{span_between}
use Rattle.expr_parser.specs.Layout.{Layout, Done, Leaf, Spanned, Counted, ◌&◌, spanned, counted, tokens_of, IsWritten}
use Rattle.expr_parser.specs.Writing.{identifier}
use Rattle.expr_parser.specs.Classes.{identifier_of, identifiers}
use Rattle.expr_parser.specs.Places.{made}
use Rattle.expr_parser.proofs.Layouts.{spell, spell_tokens, written_taken}
use Rattle.expr_parser.proofs.Followed.{Looks, Says, on_first}
use Rattle.expr_parser.proofs.SoundTokens.{one_span}

-- ---- what is written

pub written_as : (end : Span) {l m : Layout} (s r : List Placed) → l ≡ m → IsWritten end l s r → IsWritten end m s r
written_as end s r e h = subst (λ z. IsWritten end z s r) e h

-- up to the end of the first part, and from there
pub written_split : (end : Span) (a b : Layout) (s r : List Placed) → IsWritten end (a & b) s r → (m : List Placed) × IsWritten end a s m × IsWritten end b m r
written_split end Done b s r h = (s, refl, h)
written_split end (Leaf t x) b s r (first, more, is, same, h) = let (m, left, right) = written_split end x b more r h in (m, (first, more, is, same, left), right)
written_split end (Spanned span i x) b s r (middle, is, inside, h) = let (m, left, right) = written_split end x b middle r h in (m, (middle, is, inside, left), right)
written_split end (Counted i x) b s r (middle, inside, h) = let (m, left, right) = written_split end x b middle r h in (m, (middle, inside, left), right)

-- the span and the inside of a node
pub written_inside : (end span : Span) (l : Layout) (s r : List Placed) → IsWritten end (spanned span l) s r → (span ≡ span_between end s r) × IsWritten end l s r
written_inside end span l s r (middle, is, inside, done) = (subst (λ z. span ≡ span_between end s z) done is, subst (λ z. IsWritten end l s z) done inside)

pub written_under : (end : Span) (l : Layout) (s r : List Placed) → IsWritten end (counted l) s r → IsWritten end l s r
written_under end l s r (middle, inside, done) = subst (λ z. IsWritten end l s z) done inside

pub written_inside_both : (end span : Span) (l : Layout) (s r : List Placed) → IsWritten end (counted (spanned span l)) s r → (span ≡ span_between end s r) × IsWritten end l s r
written_inside_both end span l s r h = written_inside end span l s r (written_under end (spanned span l) s r h)

-- the tokens that are written, and then those that are left
pub written_plain : (end : Span) (l : Layout) (s r : List Placed) → IsWritten end l s r → plain s ≡ spell l (plain r)
written_plain end Done s r h = ap plain h
written_plain end (Leaf t x) s r (first, more, is, same, h) = ap plain is ∙ ap (λ z. z ∷ plain more) same ∙ ap (λ z. t ∷ z) (written_plain end x more r h)
written_plain end (Spanned span i x) s r (middle, is, inside, h) = written_plain end i s middle inside ∙ ap (λ z. spell i z) (written_plain end x middle r h)
written_plain end (Counted i x) s r (middle, inside, h) = written_plain end i s middle inside ∙ ap (λ z. spell i z) (written_plain end x middle r h)

-- what holds of the tokens that are written holds of those that are there
pub ends_plain : (P : List Token → Type 0) (end : Span) (l : Layout) (s r : List Placed) → IsWritten end l s r → P (spell l (plain r)) → P (plain s)
ends_plain P end l s r h holds = subst P (sym (written_plain end l s r h)) holds

-- ---- one after the other

pub exact_then : {A B : Type 0} {o : Outcome Placed A} {a : A} {m : List Placed} {out : Outcome Placed B} (f : A → Parser Placed B) → o ≡ Ok (a, m) → f a m ≡ out → and_then o f ≡ out
exact_then f is h = ap (λ z. and_then z f) is ∙ h

-- a part, where another is written after it
pub exact_part : {A B : Type 0} {o : Outcome Placed A} {out : Outcome Placed B} (f : A → Parser Placed B) (x : A) (end : Span) (a b : Layout) (s r : List Placed) → IsWritten end (a & b) s r
    → ((m : List Placed) → IsWritten end a s m → IsWritten end b m r → o ≡ Ok (x, m)) → ((m : List Placed) → IsWritten end b m r → f x m ≡ out) → and_then o f ≡ out
exact_part f x end a b s r h reads k = let (m, left, right) = written_split end a b s r h in exact_then f (reads m left right) (k m right)

-- a token of a class
token_read : {A : Type 0} (class : Class Placed A) (a : A) (t : Placed) (s r : List Placed) → s ≡ t ∷ r → class t ≡ Some a → one_of class s ≡ Ok (a, r)
unfolding one_of
token_read class a t s r is says = ap (λ z. one_of class z) is ∙ ap (λ z. take_of z (t ∷ r)) says

pub exact_token : {A B : Type 0} {out : Outcome Placed B} (f : A → Parser Placed B) (class : Class Placed A) {a : A} {x : Token} → Says class x a → (end : Span) (after : Layout) (s r : List Placed) → IsWritten end (Leaf x after) s r
    → ((m : List Placed) → IsWritten end after m r → f a m ≡ out) → and_then (one_of class s) f ≡ out
exact_token f class {a} says end after s r (first, more, is, same, h) k = exact_then f (token_read class a first s more is (says first same)) (k more h)

-- a name
name_says : (end : Span) (i : Identifier) (t : Placed) (s r : List Placed) → s ≡ t ∷ r → t.token ≡ Name i.name → i.span ≡ span_between end s r → identifiers t ≡ Some i
name_says end i t s r is same place =
    let span : i.span ≡ t.span = place ∙ ap (λ z. span_between end z r) is ∙ one_span end t r in
    let found : Identifier = record { name = i.name; span = t.span } in
    let all : found ≡ i = ap (λ z. record { name = i.name; span = z }) (sym span) in ap (λ x. identifier_of x t.span) same ∙ ap (λ z. Some z) all

pub name_exact : (end : Span) (i : Identifier) (s r : List Placed) → IsWritten end (identifier i) s r → one_of identifiers s ≡ Ok (i, r)
name_exact end i s r (middle, place, (first, more, is, same, done), closed) =
    let here : more ≡ r = done ∙ closed in
    token_read identifiers i first s more is (name_says end i first s more is same (place ∙ ap (λ z. span_between end s z) (sym done))) ∙ ap (λ z. Ok (i, z)) here

-- what stands behind a name
pub name_rest : (end : Span) (i : Identifier) (s r : List Placed) → IsWritten end (identifier i) s r → rest s ≡ r
name_rest end i s r (middle, place, (first, more, is, same, done), closed) = ap rest is ∙ done ∙ closed

pub exact_name : {B : Type 0} {out : Outcome Placed B} (f : Identifier → Parser Placed B) (i : Identifier) (end : Span) (after : Layout) (s r : List Placed) → IsWritten end (identifier i & after) s r
    → ((m : List Placed) → IsWritten end after m r → f i m ≡ out) → and_then (one_of identifiers s) f ≡ out
exact_name f i end after s r (middle, place, inside, h) k = exact_then f (name_exact end i s middle (middle, place, inside, refl)) (k middle h)

-- a node with its span, where nothing more is written
pub exact_made : {A : Type 0} {x : A} (end span : Span) (node : Span → A) (s m r : List Placed) → m ≡ r → x ≡ node span → span ≡ span_between end s r → made end s node m ≡ Ok (x, r)
exact_made end span node s m r done is place = ap (λ z. made end s node z) done ∙ ap (λ z. Ok (z, r)) (ap node (sym place) ∙ sym is)

-- ---- one way or another

pub exact_first : {A : Type 0} {out : Outcome Placed A} (b : Bool) (o o' : Outcome Placed A) → b ≡ true → o ≡ out → elim b [ true ↦ o | false ↦ o' ] ≡ out
exact_first true o o' e h = h
exact_first false o o' e h = absurd cc

pub exact_second : {A : Type 0} {out : Outcome Placed A} (b : Bool) (o o' : Outcome Placed A) → b ≡ false → o' ≡ out → elim b [ true ↦ o | false ↦ o' ] ≡ out
exact_second true o o' e h = absurd cc
exact_second false o o' e h = h

pub looks_plain : {test : List Placed → Bool} {on : Token → Bool} → Looks test on → (s : List Placed) → test s ≡ on_first on (plain s)
looks_plain l [] = l.none
looks_plain l (t ∷ s) = l.some t s

-- a test where this is written
pub looks_written : {test : List Placed → Bool} {on : Token → Bool} → Looks test on → (end : Span) (l : Layout) (s r : List Placed) → IsWritten end l s r → test s ≡ on_first on (spell l (plain r))
looks_written {on} looks end l s r h = looks_plain looks s ∙ ap (on_first on) (written_plain end l s r h)

-- ---- again and again

-- what is written with some token takes one at least
pub some_taken : (on : Token → Bool) (end : Span) (l : Layout) (s r : List Placed) → IsWritten end l s r → on_first on (spell l []) ≡ true → length r < length s
some_taken on end l s r h starts = by (tokens_of l) refl (ap (on_first on) (sym (append-nil (tokens_of l)) ∙ sym (spell_tokens l [])) ∙ starts)
  where
    by : (w : List Token) → w ≡ tokens_of l → on_first on w ≡ true → length r < length s
    by [] e on_w = absurd cc
    by (x ∷ w) e on_w = longer (written_taken end l s r h).tokens (written_taken end l s r h).is ((written_taken end l s r h).are ∙ sym e)
      where
        longer : (taken : List Placed) → s ≡ taken ++ r → plain taken ≡ x ∷ w → length r < length s
        longer [] is are = absurd cc
        longer (t ∷ taken) is are = let same = ap length is in let long = length-append taken r in omega (arith, same, long)

-- Items in a row, each read by a part that puts it behind those before, where P holds of what follows.
module _ {A : Type 0} (end : Span) (item : A → Layout) (list : List A → Layout) (test : List Placed → Bool) (part : List A → Parser Placed (List A)) (P : List Token → Type 0) where
  pub record Chain : Type 0 where
    pub none : list [] ≡ Done
    pub one_more : (x : A) (more : List A) → list (x ∷ more) ≡ (item x & list more)
    pub ends : (x : A) (w : List Token) → P (spell (item x) w)

  -- a turn begins, takes some token, and reads the item
  abbrev pub Turn : A → Type 0
  Turn x = (found : List A) (s r : List Placed) → IsWritten end (item x) s r → P (plain r) → (test s ≡ true) × (length r < length s) × (part found s ≡ Ok (found ++ x ∷ [], r))

  -- what may follow the last may stand before the first
  pub chain_ends : Chain → (xs : List A) (s r : List Placed) → IsWritten end (list xs) s r → P (plain r) → P (plain s)
  chain_ends chain [] s r h ends = let same : IsWritten end Done s r = written_as end s r chain.none h in subst (λ z. P (plain z)) (sym same) ends
  chain_ends chain (x ∷ xs) s r h ends =
      let (m, one, others) = written_split end (item x) (list xs) s r (written_as end s r (chain.one_more x xs) h) in ends_plain P end (item x) s m one (chain.ends x (plain m))

  one_turn : (g : ℕ) (found : List A) (s : List Placed) {more : List A} {m : List Placed} {out : Outcome Placed (List A)} → test s ≡ true → length m < length s → length s ≤ g → part found s ≡ Ok (more, m)
      → ((g : ℕ) → length m ≤ g → again test part g more m ≡ out) → again test part g found s ≡ out
  unfolding again
  one_turn zero found s begins below enough is k = absurd (omega arith)
  one_turn (suc g) found s begins below enough is k = exact_first (test s) _ _ begins (exact_then (again test part g) is (k g (omega arith)))

  no_turn : (g : ℕ) (found : List A) (s : List Placed) → test s ≡ false → again test part g found s ≡ Ok (found, s)
  unfolding again
  no_turn zero found s ends = refl
  no_turn (suc g) found s ends = exact_second (test s) _ _ ends refl

  again_exact : Chain → (xs : List A) → AllByRecursion Turn xs → (found : List A) (g : ℕ) (s r : List Placed) → IsWritten end (list xs) s r → P (plain r) → test r ≡ false → length s ≤ g → again test part g found s ≡ Ok (found ++ xs, r)
  again_exact chain [] turns found g s r h ends stops enough =
      let same : IsWritten end Done s r = written_as end s r chain.none h in no_turn g found s (ap test same ∙ stops) ∙ ap (λ z. Ok (z, s)) (sym (append-nil found)) ∙ ap (λ z. Ok (found ++ [], z)) same
  again_exact chain (x ∷ xs) turns found g s r h ends stops enough =
      let (m, one, others) = written_split end (item x) (list xs) s r (written_as end s r (chain.one_more x xs) h) in
      let (begins, below, is) = turns.0 found s m one (chain_ends chain xs m r others ends) in
      one_turn g found s begins below enough is (λ g enough. again_exact chain xs turns.1 (found ++ x ∷ []) g m r others ends stops enough ∙ ap (λ z. Ok (z, r)) (append_assoc found (x ∷ []) xs))

  pub chain_exact : Chain → (xs : List A) → AllByRecursion Turn xs → (found : List A) (s r : List Placed) → IsWritten end (list xs) s r → P (plain r) → test r ≡ false → repeat test part found s ≡ Ok (found ++ xs, r)
  unfolding repeat
  chain_exact chain xs turns found s r h ends stops = again_exact chain xs turns found (length s) s r h ends stops (omega arith)

-- Items of which the next token tells that one begins.
module _ {A : Type 0} (end : Span) (item : A → Layout) (list : List A → Layout) (test : List Placed → Bool) (on : Token → Bool) (part : List A → Parser Placed (List A)) (P : List Token → Type 0) where
  pub record Row : Type 0 where
    pub none : list [] ≡ Done
    pub one_more : (x : A) (more : List A) → list (x ∷ more) ≡ (item x & list more)
    pub looks : Looks test on
    pub starts : (x : A) (w : List Token) → on_first on (spell (item x) w) ≡ true
    pub ends : (x : A) (w : List Token) → P (spell (item x) w)

  abbrev pub ItemExact : A → Type 0
  ItemExact x = (found : List A) (s r : List Placed) → IsWritten end (item x) s r → P (plain r) → part found s ≡ Ok (found ++ x ∷ [], r)

  chain_of : Row → Chain end item list test part P
  chain_of row = record { none = row.none; one_more = row.one_more; ends = row.ends }

  turns_of : Row → (xs : List A) → AllByRecursion ItemExact xs → AllByRecursion (Turn end item list test part P) xs
  turns_of row [] items = tt
  turns_of row (x ∷ xs) items = (
    λ found s r h ends. (looks_written row.looks end (item x) s r h ∙ row.starts x (plain r), some_taken on end (item x) s r h (row.starts x []), items.0 found s r h ends),
    turns_of row xs items.1,
  )

  pub row_ends : Row → (xs : List A) (s r : List Placed) → IsWritten end (list xs) s r → P (plain r) → P (plain s)
  row_ends row xs s r h ends = chain_ends end item list test part P (chain_of row) xs s r h ends

  pub list_exact : Row → (xs : List A) → AllByRecursion ItemExact xs → (found : List A) (s r : List Placed) → IsWritten end (list xs) s r → P (plain r) → on_first on (plain r) ≡ false
      → repeat test part found s ≡ Ok (found ++ xs, r)
  list_exact row xs items found s r h ends stops = chain_exact end item list test part P (chain_of row) xs (turns_of row xs items) found s r h ends (looks_plain row.looks r ∙ stops)
