-- A text of the grammar is followed: as long as the tokens are those of the text, none is refused.
use Rattle.std.proofs.Common.{◌≡◌, ℕ, zero, suc, ◌+◌, ◌<◌, ◌≤◌, Bool, true, false, List, [], ◌∷◌, ◌++◌, length, Option, Some, None, Ok, Err, ◌⊎◌, inl, inr, refl, sym, ap, subst, ◌∙◌, append_assoc, arith}
use Rattle.std.specs.List.{AllByRecursion}
use Rattle.std.proofs.lemmas.List.{append-nil}
use Rattle.token_parsing.specs.declared.refusal.Refusal.TheVariants.{Unexpected, TooDeep}
use Rattle.token_parsing.specs.Parser.{Outcome, Parser, Class, and_then, take_of, one_of, is_some, begins, either, again, repeat}

-- ---- no tokens are given back

-- fewer than n tokens are left, and fewer than n + m where something is too deep
pub data Shorter {T A : Type 0} (n m : ℕ) : Outcome T A → Type 0 where
  short : (a : A) (r : List T) → length r < n → Shorter n m (Ok (a, r))
  refuses_short : (k : ℕ) → k < n → Shorter n m (Err (Unexpected k))
  stops_short : (k : ℕ) → k < n + m → Shorter n m (Err (TooDeep k))

-- at a parser that takes one token or two, or stops before them
abbrev pub Short : {T A : Type 0} → ℕ → Outcome T A → Type 0
Short n o = Shorter n 2 o

abbrev pub Shrinks : {T A : Type 0} → Parser T A → Type 0
Shrinks {T} p = (n : ℕ) (s : List T) → length s < n → Shorter n 0 (p s)

pub relaxed : {T A : Type 0} {n m : ℕ} {o : Outcome T A} → Shorter n 0 o → Shorter n m o
relaxed (short a r h) = short a r h
relaxed (refuses_short k h) = refuses_short k h
relaxed (stops_short k h) = stops_short k (omega arith)

pub short_then : {T A B : Type 0} {n m : ℕ} {o : Outcome T A} {f : A → Parser T B} → Shorter n m o → ((a : A) → Shrinks (f a)) → Shorter n m (and_then o f)
short_then (short a r h) k = relaxed (k a _ r h)
short_then (refuses_short i h) k = refuses_short i h
short_then (stops_short i h) k = stops_short i h

short_taken : {T A : Type 0} (found : Option A) (n : ℕ) (t : T) (s : List T) → length (t ∷ s) < n → Shorter n 0 (take_of found (t ∷ s))
short_taken None n t s h = refuses_short (length (t ∷ s)) h
short_taken (Some a) n t s h = short a s (omega arith)

pub one_shrinks : {T A : Type 0} (class : Class T A) → Shrinks (one_of class)
unfolding one_of
one_shrinks class n [] h = refuses_short 0 h
one_shrinks class n (t ∷ s) h = short_taken (class t) n t s h

pub then_shrinks : {T A B : Type 0} {p : Parser T A} {f : A → Parser T B} → Shrinks p → ((a : A) → Shrinks (f a)) → Shrinks (λ s. and_then (p s) f)
then_shrinks hp hf n s h = short_then (hp n s h) hf

pub pure_shrinks : {T A : Type 0} (a : A) → Shrinks {T = T} (λ s. Ok (a, s))
pure_shrinks a n s h = short a s h

pub refuse_shrinks : {T A : Type 0} → Shrinks {T = T} {A = A} (λ s. Err (Unexpected (length s)))
refuse_shrinks n s h = refuses_short (length s) h

pub stop_shrinks : {T A : Type 0} → Shrinks {T = T} {A = A} (λ s. Err (TooDeep (length s)))
stop_shrinks n s h = stops_short (length s) (omega arith)

pub either_shrinks : {T A : Type 0} (test : List T → Bool) {p q : Parser T A} → Shrinks p → Shrinks q → Shrinks (either test p q)
either_shrinks test {p} {q} hp hq n s h = by (test s)
  where
    by : (b : Bool) → Shorter n 0 (elim b [ true ↦ p s | false ↦ q s ])
    by true = hp n s h
    by false = hq n s h

pub again_shrinks : {T A : Type 0} (test : List T → Bool) (part : A → Parser T A) → ((a : A) → Shrinks (part a)) → (g : ℕ) (a : A) → Shrinks (again test part g a)
unfolding again
again_shrinks test part h zero a = pure_shrinks a
again_shrinks test part h (suc g) a = either_shrinks test (then_shrinks (h a) (λ b. again_shrinks test part h g b)) (pure_shrinks a)

pub repeat_shrinks : {T A : Type 0} (test : List T → Bool) (part : A → Parser T A) → ((a : A) → Shrinks (part a)) → (a : A) → Shrinks (repeat test part a)
unfolding repeat
repeat_shrinks test part h a n s l = again_shrinks test part h (length s) a n s l

-- ---- a token at least is taken

abbrev pub Takes : {T A : Type 0} → ℕ → Outcome T A → Type 0
Takes n (Ok p) = length p.1 < n
Takes n (Err e) = Unit {0}

pub short_takes : {T A : Type 0} {n m : ℕ} {o : Outcome T A} → Shorter n m o → Takes n o
short_takes (short a r h) = h
short_takes (refuses_short k h) = tt
short_takes (stops_short k h) = tt

pub takes_then : {T A B : Type 0} (n : ℕ) (o : Outcome T A) {f : A → Parser T B} → Takes n o → ((a : A) → Shrinks (f a)) → Takes n (and_then o f)
takes_then n (Ok p) h k = short_takes (k p.0 n p.1 h)
takes_then n (Err e) h k = tt

one_taken : {T A : Type 0} (found : Option A) (t : T) (s : List T) → Takes (length (t ∷ s)) (take_of found (t ∷ s))
one_taken None t s = tt
one_taken (Some a) t s = omega arith

one_takes : {T A : Type 0} (class : Class T A) (s : List T) → Takes (length s) (one_of class s)
unfolding one_of
one_takes class [] = tt
one_takes class (t ∷ s) = one_taken (class t) t s

-- what begins with a token
pub takes_token : {T A B : Type 0} (class : Class T A) (s : List T) {f : A → Parser T B} → ((a : A) → Shrinks (f a)) → Takes (length s) (and_then (one_of class s) f)
takes_token class s k = takes_then (length s) (one_of class s) (one_takes class s) k

pub takes_either : {T A : Type 0} (n : ℕ) (b : Bool) (o o' : Outcome T A) → Takes n o → Takes n o' → Takes n (elim b [ true ↦ o | false ↦ o' ])
takes_either n true o o' h k = h
takes_either n false o o' h k = k

-- ---- the tokens of a text

-- The tokens are those of the text until fewer than n of them are left. Where n is 0, all are the same.
pub data Along {T : Type 0} : ℕ → List T → List T → Type 0 where
  ended : Along 0 [] []
  last : (t : T) (w r : List T) → Along (suc (length r)) (t ∷ w) (t ∷ r)
  longer : (n : ℕ) (t : T) (w r : List T) → Along n w r → Along n (t ∷ w) (t ∷ r)

pub along_all : {T : Type 0} (s : List T) → Along 0 s s
along_all [] = ended
along_all (t ∷ s) = longer 0 t s s (along_all s)

pub along_front : {T : Type 0} (u : List T) (t : T) (w r : List T) → Along (suc (length r)) (u ++ t ∷ w) (u ++ t ∷ r)
along_front [] t w r = last t w r
along_front (a ∷ u) t w r = longer (suc (length r)) a (u ++ t ∷ w) (u ++ t ∷ r) (along_front u t w r)

-- where the tokens after a front are known no more, others may follow the front
pub along_split : {T : Type 0} (n : ℕ) (u w s : List T) → Along n (u ++ w) s → ((0 < n) × ((z : List T) → Along n (u ++ z) s)) ⊎ ((r : List T) × (s ≡ u ++ r) × Along n w r)
along_split n [] w s h = inr (s, refl, h)
along_split _ (t ∷ u) w _ (last _ _ r) = inl (omega arith, λ z. last t (u ++ z) r)
along_split n (t ∷ u) w _ (longer _ _ _ r h) = elim (along_split n u w r h) [ inl x ↦ inl (x.0, λ z. longer n t (u ++ z) r (x.1 z)) | inr y ↦ inr (y.0, ap (λ z. t ∷ z) y.1, y.2) ]

-- a test of the next token sees that of the text
pub same_begins : {T A : Type 0} (class : Class T A) {n : ℕ} {w s : List T} → Along n w s → begins class s ≡ begins class w
unfolding begins
same_begins class ended = refl
same_begins class (last t w r) = refl
same_begins class (longer n t w r h) = refl

-- In a text of x, which rest follows: x was read and rest is next, or the tokens are past those that are known, or it is nested too deep, which W excludes.
pub data Tracked {T A : Type 0} (n : ℕ) (W : Type 0) (x : A) (rest : List T) : Outcome T A → Type 0 where
  meets : (r : List T) → Along n rest r → Tracked n W x rest (Ok (x, r))
  past : (a : A) (r : List T) → length r < n → Tracked n W x rest (Ok (a, r))
  refuses_past : (k : ℕ) → k < n → Tracked n W x rest (Err (Unexpected k))
  too_deep : (k : ℕ) → (W → 0 < n) → Tracked n W x rest (Err (TooDeep k))

pub short_tracked : {T A : Type 0} {n m : ℕ} {W : Type 0} {x : A} {rest : List T} {o : Outcome T A} → 0 < n → Shorter n m o → Tracked n W x rest o
short_tracked some (short a r h) = past a r h
short_tracked some (refuses_short k h) = refuses_past k h
short_tracked some (stops_short k h) = too_deep k (λ w. some)

pub track_then : {T A B : Type 0} {n : ℕ} {W : Type 0} {x : A} {y : B} {rest rest' : List T} {o : Outcome T A} {f : A → Parser T B}
    → Tracked n W x rest o → ((a : A) → Shrinks (f a)) → ((r : List T) → Along n rest r → Tracked n W y rest' (f x r)) → Tracked n W y rest' (and_then o f)
track_then (meets r h) shrinks k = k r h
track_then (past a r h) shrinks k = short_tracked (omega arith) (shrinks a _ r h)
track_then (refuses_past m h) shrinks k = refuses_past m h
track_then (too_deep m h) shrinks k = too_deep m h

taken : {T A B : Type 0} {n : ℕ} {W : Type 0} {y : B} {rest' : List T} (found : Option A) (a : A) → found ≡ Some a → (t : T) (r : List T) (f : A → Parser T B)
    → Tracked n W y rest' (f a r) → Tracked n W y rest' (and_then (take_of found (t ∷ r)) f)
taken None a e t r f k = absurd cc
taken {n} {W} {y} {rest'} (Some b) a e t r f k = let same : b ≡ a = cc in subst (λ z. Tracked n W y rest' (f z r)) (sym same) k

-- a token of the text
pub track_token : {T A B : Type 0} {n : ℕ} {W : Type 0} {y : B} {rest' : List T} (class : Class T A) {t : T} (a : A) → class t ≡ Some a → {w s : List T} {f : A → Parser T B}
    → Along n (t ∷ w) s → ((a : A) → Shrinks (f a)) → ((r : List T) → Along n w r → Tracked n W y rest' (f a r)) → Tracked n W y rest' (and_then (one_of class s) f)
unfolding one_of
track_token class a e {f} (last t w r) shrinks k = taken (class t) a e t r f (short_tracked (omega arith) (shrinks a _ r (omega arith)))
track_token class a e {f} (longer n t w r h) shrinks k = taken (class t) a e t r f (k r h)

pub track_first : {T A : Type 0} {n : ℕ} {W : Type 0} {x : A} {rest : List T} (b : Bool) (o o' : Outcome T A) → b ≡ true → Tracked n W x rest o → Tracked n W x rest (elim b [ true ↦ o | false ↦ o' ])
track_first true o o' e h = h
track_first false o o' e h = absurd cc

pub track_second : {T A : Type 0} {n : ℕ} {W : Type 0} {x : A} {rest : List T} (b : Bool) (o o' : Outcome T A) → b ≡ false → Tracked n W x rest o' → Tracked n W x rest (elim b [ true ↦ o | false ↦ o' ])
track_second true o o' e h = absurd cc
track_second false o o' e h = h

-- the end of a production
pub track_pure : {T A : Type 0} {n : ℕ} {W : Type 0} (x : A) {rest s : List T} → Along n rest s → Tracked n W x rest (Ok (x, s))
track_pure x h = meets _ h

begun : {T A B : Type 0} (found : Option A) (t : T) (r : List T) (f : A → Parser T B) → is_some found ≡ true → ((a : A) → Shrinks (f a)) → Short (suc (length r)) (and_then (take_of found (t ∷ r)) f)
begun None t r f e k = absurd cc
begun (Some a) t r f e k = relaxed (k a (suc (length r)) r (omega arith))

-- the next token is one of the class, and so it is taken
pub begun_short : {T A B : Type 0} (class : Class T A) (t : T) (r : List T) {f : A → Parser T B} → begins class (t ∷ r) ≡ true → ((a : A) → Shrinks (f a)) → Short (suc (length r)) (and_then (one_of class (t ∷ r)) f)
unfolding one_of begins
begun_short class t r {f} e k = begun (class t) t r f e k

along_nothing : {T : Type 0} {n : ℕ} {s : List T} → Along n [] s → n ≡ 0
along_nothing ended = refl

-- In a text that ends before the known tokens do, the tokens are past those.
pub other_text : {T A : Type 0} {n : ℕ} {V W : Type 0} {x y : A} {rest : List T} {o : Outcome T A} → 0 < n → Tracked n V x [] o → Tracked n W y rest o
other_text some (meets r h) = let none = along_nothing h in absurd (omega (arith, some, none))
other_text some (past a r h) = past a r h
other_text some (refuses_past k h) = refuses_past k h
other_text some (too_deep k h) = too_deep k (λ w. some)

-- ---- one after the other, grouped otherwise

pub track_right : {T A B C : Type 0} {n : ℕ} {W : Type 0} {y : C} {rest : List T} (o : Outcome T A) (f : A → Parser T B) (g : B → Parser T C)
    → Tracked n W y rest (and_then (and_then o f) g) → Tracked n W y rest (and_then o (λ a s. and_then (f a s) g))
track_right (Ok p) f g h = h
track_right (Err e) f g h = h

pub track_left : {T A B C : Type 0} {n : ℕ} {W : Type 0} {y : C} {rest : List T} (o : Outcome T A) (f : A → Parser T B) (g : B → Parser T C)
    → Tracked n W y rest (and_then o (λ a s. and_then (f a s) g)) → Tracked n W y rest (and_then (and_then o f) g)
track_left (Ok p) f g h = h
track_left (Err e) f g h = h

pub track_plain : {T A : Type 0} {n : ℕ} {W : Type 0} {y : A} {rest : List T} (o : Outcome T A) → Tracked n W y rest (and_then o (λ a s. Ok (a, s))) → Tracked n W y rest o
track_plain (Ok p) h = h
track_plain (Err e) h = h

-- ---- again and again

pub along_some : {T : Type 0} {n : ℕ} {t : T} {w s : List T} → Along n (t ∷ w) s → 0 < length s
along_some (last t w r) = omega arith
along_some (longer n t w r h) = omega arith

taken_further : {T A B : Type 0} {n m : ℕ} {W : Type 0} {x : A} {y : B} {rest rest' : List T} {o : Outcome T A} {f : A → Parser T B}
    → Tracked n W x rest o → Takes m o → ((a : A) → Shrinks (f a)) → ((r : List T) → length r < m → Along n rest r → Tracked n W y rest' (f x r)) → Tracked n W y rest' (and_then o f)
taken_further (meets r h) takes shrinks k = k r takes h
taken_further (past a r h) takes shrinks k = short_tracked (omega arith) (shrinks a _ r h)
taken_further (refuses_past j h) takes shrinks k = refuses_past j h
taken_further (too_deep j h) takes shrinks k = too_deep j h

-- one turn, and then the others
pub track_turn : {T A B : Type 0} {n : ℕ} {W : Type 0} {b : A} {y : B} {rest rest' : List T} (test : List T → Bool) (part : A → Parser T A) (f : A → Parser T B) (g : ℕ) (a : A) (s : List T)
    → test s ≡ true → length s ≤ g → 0 < length s → Takes (length s) (part a s) → ((a : A) → Shrinks (part a)) → ((a : A) → Shrinks (f a)) → Tracked n W b rest (part a s)
    → ((g : ℕ) (r : List T) → length r ≤ g → Along n rest r → Tracked n W y rest' (and_then (again test part g b r) f)) → Tracked n W y rest' (and_then (again test part g a s) f)
unfolding again
track_turn test part f zero a s e enough some takes shrinks shrinks' h k = absurd (omega arith)
track_turn {n} {W} {b} {y} {rest} {rest'} test part f (suc g) a s e enough some takes shrinks shrinks' h k = turned (test s) e
  where
    turned : (z : Bool) → z ≡ true → Tracked n W y rest' (and_then (elim z [ true ↦ and_then (part a s) (again test part g) | false ↦ Ok (a, s) ]) f)
    turned true i = track_left (part a s) (again test part g) f (taken_further h takes (λ c. then_shrinks (again_shrinks test part shrinks g c) shrinks') (λ r below l. k g r (omega arith) l))
    turned false i = absurd cc

-- no turn more
pub track_no_turn : {T A B : Type 0} {n : ℕ} {W : Type 0} {y : B} {rest' : List T} (test : List T → Bool) (part : A → Parser T A) (f : A → Parser T B) (g : ℕ) (a : A) (s : List T)
    → test s ≡ false → Tracked n W y rest' (f a s) → Tracked n W y rest' (and_then (again test part g a s) f)
unfolding again
track_no_turn test part f zero a s e h = h
track_no_turn {n} {W} {y} {rest'} test part f (suc g) a s e h = turned (test s) e
  where
    turned : (z : Bool) → z ≡ false → Tracked n W y rest' (and_then (elim z [ true ↦ and_then (part a s) (again test part g) | false ↦ Ok (a, s) ]) f)
    turned true i = absurd cc
    turned false i = h

-- a turn that takes a token
pub short_turn : {T A B : Type 0} {n : ℕ} (test : List T → Bool) (part : A → Parser T A) (f : A → Parser T B) (g : ℕ) (a : A) (s : List T)
    → test s ≡ true → length s ≤ g → 0 < length s → Short n (part a s) → ((a : A) → Shrinks (part a)) → ((a : A) → Shrinks (f a)) → Short n (and_then (again test part g a s) f)
unfolding again
short_turn test part f zero a s e enough some h shrinks shrinks' = absurd (omega arith)
short_turn {n} test part f (suc g) a s e enough some h shrinks shrinks' = turned (test s) e
  where
    turned : (z : Bool) → z ≡ true → Short n (and_then (elim z [ true ↦ and_then (part a s) (again test part g) | false ↦ Ok (a, s) ]) f)
    turned true i = short_then (short_then h (λ b. again_shrinks test part shrinks g b)) shrinks'
    turned false i = absurd cc

-- a test that sees the next token alone
abbrev pub Steady : {T : Type 0} → (List T → Bool) → Type 0
Steady {T} test = (n : ℕ) (w s : List T) → Along n w s → test s ≡ test w

-- ---- lists

moved : {T A : Type 0} {n : ℕ} {W : Type 0} {x y : A} {rest : List T} {o : Outcome T A} → x ≡ y → Tracked n W x rest o → Tracked n W y rest o
moved {n} {W} {rest} {o} e h = subst (λ z. Tracked n W z rest o) e h

some_left : {T : Type 0} {n : ℕ} (w : List T) {s : List T} → (w ≡ [] → ⊥) → Along n w s → 0 < length s
some_left [] some h = absurd (some refl)
some_left (t ∷ w) some h = along_some h

-- items in a row, each read by a part that puts it behind those before
module _ {T A : Type 0} (n : ℕ) (W : Type 0) (spell : A → List T → List T) (spell_list : List A → List T → List T) (test : List T → Bool) (part : List A → Parser T (List A)) (Follow : List T → Type 0) where
  abbrev pub Item : A → Type 0
  Item x = (found : List A) (rest s : List T) → Follow rest → Along n (spell x rest) s → Tracked n W (found ++ x ∷ []) rest (part found s)

  pub record Listing : Type 0 where
    pub none : (rest : List T) → spell_list [] rest ≡ rest
    pub one_more : (x : A) (more : List A) (rest : List T) → spell_list (x ∷ more) rest ≡ spell x (spell_list more rest)
    pub steady : Steady test
    pub takes : (found : List A) (s : List T) → Takes (length s) (part found s)
    pub shrinks : (found : List A) → Shrinks (part found)
    pub some : (x : A) (rest : List T) → spell x rest ≡ [] → ⊥
    pub goes : (x : A) (rest : List T) → test (spell x rest) ≡ true
    pub follows : (x : A) (rest : List T) → Follow (spell x rest)

  follow_list : Listing → (xs : List A) (rest : List T) → Follow rest → Follow (spell_list xs rest)
  follow_list l [] rest h = subst Follow (sym (l.none rest)) h
  follow_list l (x ∷ more) rest h = subst Follow (sym (l.one_more x more rest)) (l.follows x (spell_list more rest))

  again_list : Listing → (xs : List A) → AllByRecursion Item xs → (rest : List T) → Follow rest → test rest ≡ false → (found : List A) (g : ℕ) (s : List T) → length s ≤ g
      → Along n (spell_list xs rest) s → Tracked n W (found ++ xs) rest (and_then (again test part g found s) (λ a s. Ok (a, s)))
  again_list l [] items rest follow stops found g s enough h =
      let h' = subst (λ w. Along n w s) (l.none rest) h in
      track_no_turn test part (λ a s. Ok (a, s)) g found s (l.steady n rest s h' ∙ stops) (moved (sym (append-nil found)) (track_pure found h'))
  again_list l (x ∷ more) items rest follow stops found g s enough h =
      let after = spell_list more rest in
      let h' = subst (λ w. Along n w s) (l.one_more x more rest) h in
      track_turn test part (λ a s. Ok (a, s)) g found s (l.steady n (spell x after) s h' ∙ l.goes x after) enough (some_left (spell x after) (l.some x after) h') (l.takes found s) l.shrinks (λ a. pure_shrinks a)
      (items.0 found after s (follow_list l more rest follow) h')
      (λ g r enough h. moved (append_assoc found (x ∷ []) more) (again_list l more items.1 rest follow stops (found ++ x ∷ []) g r enough h))

  pub track_list : Listing → (xs : List A) → AllByRecursion Item xs → (rest : List T) → Follow rest → test rest ≡ false → (found : List A) (s : List T)
      → Along n (spell_list xs rest) s → Tracked n W (found ++ xs) rest (repeat test part found s)
  unfolding repeat
  track_list l xs items rest follow stops found s h =
      track_plain (again test part (length s) found s) (again_list l xs items rest follow stops found (length s) s (omega arith) h)
