-- What holds of an answer where there is one.
use Rattle.std.proofs.Common.{◌≡◌, Bool, true, false, Option, Some, None, refl, subst}
use Rattle.c_meaning.specs.declared.StuckKind.{StuckKind}
use Rattle.c_meaning.specs.Answer.{Answer, Got, Bad, ◌>>=◌, or_bad, when}

pub data Gives {A : Type 0} (P : A → Type 0) : Answer A → Type 0 where
  Ok : (x : A) → P x → Gives P (Got x)
  Not : (kind : StuckKind) → Gives P (Bad kind)

pub bind : {A B : Type 0} {P : B → Type 0} (a : Answer A) (f : A → Answer B) → ((x : A) → a ≡ Got x → Gives P (f x)) → Gives P (a >>= f)
unfolding ◌>>=◌
bind (Got x) f h = h x refl
bind (Bad kind) f h = Not kind

-- the same where something is known of what is bound
pub bind_given : {A B : Type 0} {Q : A → Type 0} {P : B → Type 0} (a : Answer A) (f : A → Answer B) → Gives Q a → ((x : A) → Q x → Gives P (f x)) → Gives P (a >>= f)
unfolding ◌>>=◌
bind_given a f (Ok x q) h = h x q
bind_given a f (Not kind) h = Not kind

pub if_when : {A : Type 0} {P : A → Type 0} (test : Bool) (kind : StuckKind) (a : Answer A) → (test ≡ true → Gives P a) → Gives P (when test kind a)
unfolding when
if_when true kind a h = h refl
if_when false kind a h = Not kind

pub if_there : {A : Type 0} {P : A → Type 0} (kind : StuckKind) (o : Option A) → ((x : A) → o ≡ Some x → P x) → Gives P (or_bad kind o)
unfolding or_bad
if_there kind None h = Not kind
if_there kind (Some x) h = Ok x (h x refl)

-- what is known of an answer that is there
pub given : {A : Type 0} (P : A → Type 0) (a : Answer A) (x : A) → Gives P a → a ≡ Got x → P x
given P a x (Ok y h) e = let same : y ≡ x = cc in subst P same h
given P a x (Not kind) e = cc
