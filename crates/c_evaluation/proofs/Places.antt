-- Steps into places.
use Rattle.std.proofs.Common.{◌≡◌, ℕ, ◌≤◌, ◌<◌, true, false, List, Some, None, refl, ap, ◌∙◌, arith, w64}
use Rattle.std.specs.Prelude.{ℤ, pos, negsuc, ◌<ℤ◌, ◌≤ℤ◌, nat_lt}
use Rattle.std.specs.Int.{cast_unsigned}
use Rattle.std.proofs.lemmas.Int.{ints}
use Rattle.std.proofs.lemmas.Bool.Decides.{nat_tests}
use Rattle.c_tree.specs.Tree as t
use Rattle.c_tree.specs.Tree.{ObjectType}
use Rattle.c_tree.specs.declared.program.CMember.{CMember}
use Rattle.c_tree.specs.declared.program.CDeclaration.{CDeclaration}
use Rattle.c_meaning.specs.declared.StuckKind.TheVariants as k
use Rattle.c_meaning.specs.Cells.{Name}
use Rattle.c_meaning.specs.Answer.{Got, Bad, ◌>>=◌, or_bad, when}
use Rattle.c_meaning.specs.Types.{Plain, Array, Step, members_of, member_from}
use Rattle.c_meaning.specs.Evaluate.{member, element}

module _ (ds : List CDeclaration) (n s : Name) where
  pub no_struct : members_of s ds ≡ None → member ds n (Plain (t.Struct s)) ≡ Bad k.UnknownName
  unfolding member ◌>>=◌ or_bad
  no_struct h = ap (λ o. or_bad k.UnknownName o >>= (λ ms. or_bad k.UnknownName (member_from 0 n ms))) h

  pub no_member : (members : List CMember) → members_of s ds ≡ Some members → member_from 0 n members ≡ None → member ds n (Plain (t.Struct s)) ≡ Bad k.UnknownName
  unfolding member ◌>>=◌ or_bad
  no_member members h l = ap (λ o. or_bad k.UnknownName o >>= (λ ms. or_bad k.UnknownName (member_from 0 n ms))) h ∙ ap (or_bad k.UnknownName) l

  pub member_found : (members : List CMember) (step : Step) → members_of s ds ≡ Some members → member_from 0 n members ≡ Some step → member ds n (Plain (t.Struct s)) ≡ Got step
  unfolding member ◌>>=◌ or_bad
  member_found members step h l = ap (λ o. or_bad k.UnknownName o >>= (λ ms. or_bad k.UnknownName (member_from 0 n ms))) h ∙ ap (or_bad k.UnknownName) l

module _ (of : ObjectType) (n : ℕ) (z : ℤ) where
  pub element_below : z <ℤ pos 0 → element z (Array n of) ≡ Bad k.BadIndex
  unfolding element
  element_below h = elim z as (λ z. z <ℤ pos 0 → element z (Array n of) ≡ Bad k.BadIndex) [ pos i ↦ (λ h. absurd (omega (arith, ints))) | negsuc i ↦ (λ h. refl) ] h

  past_at : (i : ℕ) → n ≤ i → element (pos i) (Array n of) ≡ Bad k.BadIndex
  unfolding element when
  past_at i h =
      let past : nat_lt i n ≡ false = grind (arith, nat_tests) in
      ap (λ q. when q k.BadIndex (Got (record { child = i; of = Plain of }))) past

  pub element_past : pos 0 ≤ℤ z → n ≤ cast_unsigned w64 z → element z (Array n of) ≡ Bad k.BadIndex
  element_past low h = elim z as (λ z. pos 0 ≤ℤ z → n ≤ cast_unsigned w64 z → element z (Array n of) ≡ Bad k.BadIndex)
      [ pos i ↦ (λ low h. past_at i h) | negsuc i ↦ (λ low h. absurd (omega (arith, ints))) ] low h

  pub element_within : (i : ℕ) → z ≡ pos i → i < n → element z (Array n of) ≡ Got (record { child = i; of = Plain of })
  unfolding element when
  element_within i e h =
      let within : nat_lt i n ≡ true = grind (arith, nat_tests) in
      ap (λ z. element z (Array n of)) e ∙ ap (λ q. when q k.BadIndex (Got (record { child = i; of = Plain of }))) within

  pub element_of_plain : element z (Plain of) ≡ Bad k.Mismatch
  unfolding element
  element_of_plain = elim z as (λ z. element z (Plain of) ≡ Bad k.Mismatch) [ pos i ↦ refl | negsuc i ↦ refl ]
