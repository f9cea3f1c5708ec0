-- The block of a variable, by its place among a function's variables.
use Rattle.std.proofs.Common.{◌≡◌, ℕ, suc, ◌+◌, List, [], ◌∷◌, ◌++◌, length, take, true, false, Option, Some, None, refl, ap, ◌∙◌, arith}
use Rattle.std.specs.Prelude.{if◌then◌else◌}
use Rattle.std.specs.Str.{bytes_eq}
use Rattle.c_tree.specs.declared.program.CVariable.{CVariable}
use Rattle.c_tree.specs.declared.program.CProgram.{CProgram}
use Rattle.c_meaning.specs.Cells.{Name}
use Rattle.c_meaning.specs.Answer.{or_else}
use Rattle.c_meaning.specs.Types.{Signature}
use Rattle.c_meaning.specs.States.{lookup, global_from, number_of, announced, written, signature_of}
use Rattle.c_meaning.specs.Steps.{names_from}

abbrev pub plus : ℕ → Option ℕ → Option ℕ
plus base None = None
plus base (Some i) = Some (base + i)

names_at : (x : Name) (vs : List CVariable) (base i : ℕ) → lookup x (names_from (base + i) vs) ≡ plus base (global_from i x vs)
unfolding lookup names_from global_from
names_at x [] base i = refl
names_at x (v ∷ vs) base i =
    let next : base + i + 1 ≡ base + (i + 1) = omega arith in
    elim (bytes_eq x v.name) as (λ q. (if q then Some (base + i) else lookup x (names_from (base + i + 1) vs)) ≡ plus base (if q then Some i else global_from (i + 1) x vs))
    [ true ↦ refl | false ↦ ap (λ n. lookup x (names_from n vs)) next ∙ names_at x vs base (i + 1) ]

names_is : (x : Name) (vs : List CVariable) (base : ℕ) → lookup x (names_from base vs) ≡ plus base (global_from 0 x vs)
names_is x vs base = let e : base ≡ base + 0 = omega arith in ap (λ n. lookup x (names_from n vs)) e ∙ names_at x vs base 0

later : (x : Name) (vs : List CVariable) (n i : ℕ) → global_from (n + i) x vs ≡ plus n (global_from i x vs)
unfolding global_from
later x [] n i = refl
later x (v ∷ vs) n i =
    let next : n + i + 1 ≡ n + (i + 1) = omega arith in
    elim (bytes_eq x v.name) as (λ q. (if q then Some (n + i) else global_from (n + i + 1) x vs) ≡ plus n (if q then Some i else global_from (i + 1) x vs))
    [ true ↦ refl | false ↦ ap (λ k. global_from k x vs) next ∙ later x vs n (i + 1) ]

both : (x : Name) (ps ls : List CVariable) (i : ℕ) → global_from i x (ps ++ ls) ≡ or_else (global_from i x ps) (global_from (i + length ps) x ls)
unfolding global_from or_else
both x [] ls i = let e : i ≡ i + 0 = omega arith in ap (λ n. global_from n x ls) e
both x (p ∷ ps) ls i =
    let next : i + 1 + length ps ≡ i + suc (length ps) = omega arith in
    elim (bytes_eq x p.name) as (λ q. (if q then Some i else global_from (i + 1) x (ps ++ ls)) ≡ or_else (if q then Some i else global_from (i + 1) x ps) (global_from (i + suc (length ps)) x ls))
    [ true ↦ refl | false ↦ both x ps ls (i + 1) ∙ ap (λ n. or_else (global_from (i + 1) x ps) (global_from n x ls)) next ]

module _ (c : CProgram) (x : Name) (base : ℕ) (ps ls : List CVariable) where
  number : number_of c (names_from base (ps ++ ls)) x ≡ or_else (plus base (or_else (global_from 0 x ps) (plus (length ps) (global_from 0 x ls)))) (global_from 0 x c.globals)
  unfolding number_of
  number =
      let zero_first : 0 + length ps ≡ length ps + 0 = omega arith in
      ap (λ o. or_else o (global_from 0 x c.globals)) (names_is x (ps ++ ls) base ∙ ap (plus base) (both x ps ls 0 ∙ ap (or_else (global_from 0 x ps)) (ap (λ n. global_from n x ls) zero_first ∙ later x ls (length ps) 0)))

  pub parameter : (i : ℕ) → global_from 0 x ps ≡ Some i → number_of c (names_from base (ps ++ ls)) x ≡ Some (base + i)
  unfolding or_else
  parameter i h = number ∙ ap (λ o. or_else (plus base (or_else o (plus (length ps) (global_from 0 x ls)))) (global_from 0 x c.globals)) h

  pub local : (i : ℕ) → global_from 0 x ps ≡ None → global_from 0 x ls ≡ Some i → number_of c (names_from base (ps ++ ls)) x ≡ Some (base + length ps + i)
  unfolding or_else
  local i h l =
      let e : base + (length ps + i) ≡ base + length ps + i = omega arith in
      number ∙ ap (λ o. or_else (plus base (or_else o (plus (length ps) (global_from 0 x ls)))) (global_from 0 x c.globals)) h
      ∙ ap (λ o. or_else (plus base (plus (length ps) o)) (global_from 0 x c.globals)) l ∙ ap Some e

  pub global : global_from 0 x ps ≡ None → global_from 0 x ls ≡ None → number_of c (names_from base (ps ++ ls)) x ≡ global_from 0 x c.globals
  unfolding or_else
  global h l =
      number ∙ ap (λ o. or_else (plus base (or_else o (plus (length ps) (global_from 0 x ls)))) (global_from 0 x c.globals)) h
      ∙ ap (λ o. or_else (plus base (plus (length ps) o)) (global_from 0 x c.globals)) l

module _ (c : CProgram) (reach : ℕ) (x : Name) where
  pub is_announced : (s : Signature) → announced x c.prototypes ≡ Some s → signature_of c reach x ≡ Some s
  unfolding signature_of or_else
  is_announced s h = ap (λ o. or_else o (written x (take reach c.functions))) h

  pub is_written : announced x c.prototypes ≡ None → signature_of c reach x ≡ written x (take reach c.functions)
  unfolding signature_of or_else
  is_written h = ap (λ o. or_else o (written x (take reach c.functions))) h
