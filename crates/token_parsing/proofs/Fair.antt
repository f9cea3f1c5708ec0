-- What a parser's answer says of all tokens: of those taken, and of those before a refused one.
use Rattle.std.proofs.Common.{◌≡◌, ℕ, zero, suc, Bool, true, false, List, [], ◌∷◌, ◌++◌, length, Option, Some, None, Ok, Err, refl, sym, ap, ◌∙◌, append_assoc}
use Rattle.token_parsing.specs.declared.refusal.Refusal.TheVariants.{Unexpected, TooDeep}
use Rattle.token_parsing.specs.Parser.{Outcome, Parser, Class, and_then, take_of, one_of, again, repeat}

-- Among all tokens: of what was read and the tokens after it P holds; U holds of the tokens before an unexpected one, and D of those before what is too deep.
pub data Fair {T A : Type 0} (all : List T) (U D : List T → Type 0) (P : A → List T → Type 0) : Outcome T A → Type 0 where
  reads : (a : A) (r : List T) → P a r → Fair all U D P (Ok (a, r))
  refuses : (v bad : List T) → all ≡ v ++ bad → U v → Fair all U D P (Err (Unexpected (length bad)))
  stops : (v bad : List T) → all ≡ v ++ bad → D v → Fair all U D P (Err (TooDeep (length bad)))

-- all tokens are some in front, which `front` puts there, and those that are left
pub record At {T : Type 0} (all : List T) (front : List T → List T) (s : List T) : Type 0 where
  pub is : all ≡ front s
  pub law : (u : List T) → front u ≡ front [] ++ u

pub at_first : {T : Type 0} (all : List T) → At all (λ s. s) all
at_first all = record { is = refl; law = λ u. refl }

-- what is spelled before other tokens is what is spelled alone, and then those
abbrev pub Follows : {T : Type 0} → (List T → List T) → Type 0
Follows {T} spelled = (u v : List T) → spelled (u ++ v) ≡ spelled u ++ v

pub at_spelled : {T : Type 0} {all : List T} {front : List T → List T} {s : List T} → At all front s → (spelled : List T → List T) → Follows spelled
    → (r : List T) → s ≡ spelled r → At all (λ u. front (spelled u)) r
at_spelled {front} at spelled follows r e = record {
  is = at.is ∙ ap front e;
  law = λ u. at.law (spelled u) ∙ ap (λ z. front [] ++ z) (follows [] u) ∙ sym (append_assoc (front []) (spelled []) u) ∙ ap (λ z. z ++ u) (sym (at.law (spelled [])));
}

pub at_token : {T : Type 0} {all : List T} {front : List T → List T} {s : List T} → At all front s → (t : T) (r : List T) → s ≡ t ∷ r → At all (λ u. front (t ∷ u)) r
at_token at t r e = at_spelled at (λ u. t ∷ u) (λ u v. refl) r e

-- the same place, where what stands in front is written otherwise
pub at_same : {T : Type 0} {all : List T} {front : List T → List T} {s : List T} → At all front s → (front' : List T → List T) → ((u : List T) → front u ≡ front' u) → At all front' s
at_same {s} at front' same = record { is = at.is ∙ same s; law = λ u. sym (same u) ∙ at.law u ∙ ap (λ z. z ++ u) (same []) }

-- ---- the parts

pub fair_then : {T A B : Type 0} {all : List T} {U D : List T → Type 0} {P : A → List T → Type 0} {Q : B → List T → Type 0} {o : Outcome T A} {f : A → Parser T B}
    → Fair all U D P o → ((a : A) (r : List T) → P a r → Fair all U D Q (f a r)) → Fair all U D Q (and_then o f)
fair_then (reads a r h) k = k a r h
fair_then (refuses v bad e h) k = refuses v bad e h
fair_then (stops v bad e h) k = stops v bad e h

pub fair_refuse : {T A : Type 0} {all : List T} {U D : List T → Type 0} {P : A → List T → Type 0} {front : List T → List T} {s : List T}
    → At all front s → U (front []) → Fair all U D P (Err (Unexpected (length s)))
fair_refuse {front} {s} at h = refuses (front []) s (at.is ∙ at.law s) h

pub fair_stop : {T A : Type 0} {all : List T} {U D : List T → Type 0} {P : A → List T → Type 0} {front : List T → List T} {s : List T}
    → At all front s → D (front []) → Fair all U D P (Err (TooDeep (length s)))
fair_stop {front} {s} at h = stops (front []) s (at.is ∙ at.law s) h

taking : {T A B : Type 0} {all : List T} {U D : List T → Type 0} {Q : B → List T → Type 0} {front : List T → List T} (t : T) (r : List T) (found : Option A) (f : A → Parser T B)
    → At all front (t ∷ r) → U (front []) → ((a : A) → found ≡ Some a → Fair all U D Q (f a r)) → Fair all U D Q (and_then (take_of found (t ∷ r)) f)
taking t r None f at h k = fair_refuse at h
taking t r (Some a) f at h k = k a refl

-- a token of a class
pub fair_token : {T A B : Type 0} {all : List T} {U D : List T → Type 0} {Q : B → List T → Type 0} {front : List T → List T} (class : Class T A) (s : List T) {f : A → Parser T B}
    → At all front s → U (front []) → ((t : T) (a : A) (r : List T) → class t ≡ Some a → s ≡ t ∷ r → Fair all U D Q (f a r)) → Fair all U D Q (and_then (one_of class s) f)
unfolding one_of
fair_token class [] at h k = fair_refuse at h
fair_token class (t ∷ r) {f} at h k = taking t r (class t) f at h (λ a e. k t a r e refl)

-- a token of a class whose tokens are known
pub fair_spelled : {T A B : Type 0} {all : List T} {U D : List T → Type 0} {Q : B → List T → Type 0} {front : List T → List T} (class : Class T A) (token : A → T)
    → ((t : T) (a : A) → class t ≡ Some a → t ≡ token a) → (s : List T) {f : A → Parser T B} → At all front s → U (front [])
    → ((a : A) (r : List T) → s ≡ token a ∷ r → At all (λ u. front (token a ∷ u)) r → Fair all U D Q (f a r)) → Fair all U D Q (and_then (one_of class s) f)
fair_spelled class token is s at h k = fair_token class s at h (λ t a r c e. let same = e ∙ ap (λ z. z ∷ r) (is t a c) in k a r same (at_token at (token a) r same))

pub fair_either : {T A : Type 0} {all : List T} {U D : List T → Type 0} {P : A → List T → Type 0} (b : Bool) {o o' : Outcome T A}
    → (b ≡ true → Fair all U D P o) → (b ≡ false → Fair all U D P o') → Fair all U D P (elim b [ true ↦ o | false ↦ o' ])
fair_either true h k = h refl
fair_either false h k = k refl

-- what holds before a part holds after it
pub fair_again : {T A : Type 0} {all : List T} {U D : List T → Type 0} {P : A → List T → Type 0} (test : List T → Bool) (part : A → Parser T A)
    → ((a : A) (s : List T) → P a s → test s ≡ true → Fair all U D P (part a s)) → (n : ℕ) (a : A) (s : List T) → P a s → Fair all U D P (again test part n a s)
unfolding again
fair_again test part step zero a s h = reads a s h
fair_again test part step (suc n) a s h = fair_either (test s) (λ e. fair_then (step a s h e) (λ b r k. fair_again test part step n b r k)) (λ e. reads a s h)

pub fair_repeat : {T A : Type 0} {all : List T} {U D : List T → Type 0} {P : A → List T → Type 0} (test : List T → Bool) (part : A → Parser T A)
    → ((a : A) (s : List T) → P a s → test s ≡ true → Fair all U D P (part a s)) → (a : A) (s : List T) → P a s → Fair all U D P (repeat test part a s)
unfolding repeat
fair_repeat test part step a s h = fair_again test part step (length s) a s h

-- what was read, said otherwise
pub fair_so : {T A : Type 0} {all : List T} {U D : List T → Type 0} {P Q : A → List T → Type 0} {o : Outcome T A}
    → Fair all U D P o → ((a : A) (r : List T) → P a r → Q a r) → Fair all U D Q o
fair_so (reads a r h) k = reads a r (k a r h)
fair_so (refuses v bad e h) k = refuses v bad e h
fair_so (stops v bad e h) k = stops v bad e h
