-- What C does is what the Pascal program does, since C has one answer.
use Rattle.std.proofs.Common.{◌≡◌, ℕ, zero, suc, ◌+◌, ◌≤◌, List, refl, sym, subst, ◌∙◌, arith, ◌⊎◌, inl, inr}
use Rattle.c_tree.specs.declared.program.CProgram.{CProgram}
use Rattle.c_meaning.specs.declared.StuckKind.{StuckKind}
use Rattle.c_meaning.specs.Runs.{CAnswer, Going, End, Stuck, CRun}
use Rattle.c_meaning.specs.Follows as p
use Rattle.c_meaning.specs.Follows.{PascalAnswer, output_of, calls_of, Extends, IsDefined, IsWellFormed, Follows}
use Rattle.c_meaning.specs.Laws.{IsFinal, Shows, FollowsByThree}
use Rattle.c_meaning.proofs.Later.{final_stays, going_is_extended}

order : (m j : ℕ) → (m ≤ j) ⊎ (j ≤ m)
order zero j = inl (omega arith)
order (suc m) zero = inr (omega arith)
order (suc m) (suc j) = elim (order m j) [ inl l ↦ inl (omega (arith, l)) | inr l ↦ inr (omega (arith, l)) ]

-- two final answers are one
one_answer : (c : CProgram) (input : List ℕ) (m j : ℕ) (q r : CAnswer) → IsFinal q → IsFinal r → CRun c input m ≡ q → CRun c input j ≡ r → q ≡ r
one_answer c input m j q r f g h k =
    sym (final_stays c input m (m + j) q f (omega arith) h) ∙ final_stays c input j (m + j) r g (omega arith) k

-- and none comes before a state that is reached
not_before : (c : CProgram) (input : List ℕ) (m j : ℕ) (q : CAnswer) (o k : List ℕ) → IsFinal q → m ≤ j → CRun c input m ≡ q → CRun c input j ≡ Going o k → ⊥
not_before c input m j q o k f l h g =
    let e : Going o k ≡ q = sym g ∙ final_stays c input m j q f l h in
    subst IsFinal (sym e) f

module _ (pascal : ℕ → PascalAnswer) (c : CProgram) (input : List ℕ) (well : IsWellFormed pascal)
    (ends : (n : ℕ) (output : List ℕ) (status : ℕ) (calls : List ℕ) → pascal n ≡ p.End output status calls → (m : ℕ) × (CRun c input m ≡ End output status calls))
    (goes_on : (n : ℕ) (output calls : List ℕ) → pascal n ≡ p.Cut output calls → (m : ℕ) × (n ≤ m) × (CRun c input m ≡ Going output calls))
    (defined : IsDefined pascal) where
  -- where C has a final answer after m steps, the Pascal program ends so at the bound m
  found : (m : ℕ) (q : CAnswer) → IsFinal q → CRun c input m ≡ q → (a : PascalAnswer) → pascal m ≡ a → (o : List ℕ) × (s : ℕ) × (k : List ℕ) × (pascal m ≡ p.End o s k) × (q ≡ End o s k)
  found m q f h (p.End o s k) e = let j = ends m o s k e in (o, s, k, e, one_answer c input m j.0 q (End o s k) f tt h j.1)
  found m q f h (p.Cut o k) e = let j = goes_on m o k e in absurd (not_before c input m j.0 q o k f j.1 h j.2)
  found m q f h (p.Undefined o k) e = absurd (defined m o k e)
  found m q f h (p.Malformed o k) e = absurd (well m o k e)

  ends_only : (m : ℕ) (o : List ℕ) (s : ℕ) (k : List ℕ) → CRun c input m ≡ End o s k → (n : ℕ) × (pascal n ≡ p.End o s k)
  ends_only m o s k h =
      let r = found m (End o s k) tt h (pascal m) refl in
      let same : p.End r.0 r.1 r.2 ≡ p.End o s k = cc in
      (m, r.3 ∙ same)

  never_stuck : (m : ℕ) (kind : StuckKind) (o : List ℕ) → CRun c input m ≡ Stuck kind o → ⊥
  never_stuck m kind o h =
      let r = found m (Stuck kind o) tt h (pascal m) refl in
      let no : Stuck kind o ≡ End r.0 r.1 r.2 = r.4 in cc

  -- what the bound m shows, where C goes on after m steps
  covered : (m : ℕ) (o k : List ℕ) → CRun c input m ≡ Going o k → (a : PascalAnswer) → pascal m ≡ a → Extends o (output_of a) × Extends k (calls_of a)
  covered m o k h (p.End o' s k') e =
      let j = ends m o' s k' e in
      elim (order m j.0) [ inl l ↦ subst (Shows o k) j.1 (going_is_extended c input m j.0 o k l h) | inr l ↦ absurd (not_before c input j.0 m (End o' s k') o k tt l j.1 h) ]
  covered m o k h (p.Cut o' k') e = let j = goes_on m o' k' e in subst (Shows o k) j.2 (going_is_extended c input m j.0 o k j.1 h)
  covered m o k h (p.Undefined o' k') e = absurd (defined m o' k' e)
  covered m o k h (p.Malformed o' k') e = absurd (well m o' k' e)

  goes_on_only : (m : ℕ) (o k : List ℕ) → CRun c input m ≡ Going o k → (n : ℕ) × Extends o (output_of (pascal n)) × Extends k (calls_of (pascal n))
  goes_on_only m o k h = let both = covered m o k h (pascal m) refl in (m, both.0, both.1)

pub follows_by_three : FollowsByThree
follows_by_three pascal c input well ends goes_on reaches = record {
  well_formed = well;
  ends = ends;
  never_stuck = λ d. never_stuck pascal c input well ends goes_on d;
  ends_only = λ d. ends_only pascal c input well ends goes_on d;
  goes_on = goes_on;
  goes_on_only = λ d. goes_on_only pascal c input well ends goes_on d;
  reaches_undefined = reaches;
}
