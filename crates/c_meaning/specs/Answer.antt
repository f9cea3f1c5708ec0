-- What an evaluation gives: an answer, or the first kind of being stuck that it meets.
use Rattle.std.specs.Prelude.{Bool, true, false, Option, Some, None}
use Rattle.c_meaning.specs.declared.StuckKind.{StuckKind}

-- an answer, or the kind of being stuck in its place
pub data Answer (A : Type 0) : Type 0 where
  Got : A → Answer A
  Bad : (kind : StuckKind) → Answer A

-- what is done with an answer; where there is none, nothing further is met
infixl 10 ◌>>=◌
unfoldable pub ◌>>=◌ : {A B : Type 0} → Answer A → (A → Answer B) → Answer B
Got x >>= f = f x
Bad kind >>= f = Bad kind

-- what is there, or else this kind
unfoldable pub or_bad : {A : Type 0} → StuckKind → Option A → Answer A
or_bad kind (Some x) = Got x
or_bad kind None = Bad kind

-- the answer where the test holds, or else this kind
unfoldable pub when : {A : Type 0} → Bool → StuckKind → Answer A → Answer A
when true kind answer = answer
when false kind answer = Bad kind

-- the first of two that is there
unfoldable pub or_else : {A : Type 0} → Option A → Option A → Option A
or_else (Some x) o = Some x
or_else None o = o
