-- Lists are read back where their items are.
use Rattle.std.proofs.Common.{◌≡◌, ℕ, zero, suc, ◌+◌, ◌≤◌, Bool, true, false, List, [], ◌∷◌, length, refl, ◌∙◌, ap, arith}
use Rattle.std.specs.List.{AllByRecursion}
use Rattle.c_grammar.specs.declared.token.Mark.TheVariants as mark
use Rattle.c_grammar.specs.Token.{Token, Sign}
use Rattle.c_grammar.specs.Spelling.{Spelling, spell_all, spell_next, spell_listed}
use Rattle.c_grammar.proofs.Reading.{Reader, tail, many, many_by, cons_with, no_comma, listed}

-- an item of a list is read back before what may follow, and may follow itself
pub record Item {A : Type 0} (spell : Spelling A) (r : Reader A) (stop : List Token → Bool) (Follow : List Token → Type 0) (a : A) : Type 0 where
  pub read : (rest : List Token) → Follow rest → r (spell a rest) ≡ (a, rest)
  pub goes_on : (rest : List Token) → stop (spell a rest) ≡ false
  pub follows : (rest : List Token) → Follow (spell a rest)

module _ {A : Type 0} (spell : Spelling A) (r : Reader A) (stop : List Token → Bool) (Follow : List Token → Type 0) where
  follow_all : (all : List A) (rest : List Token) → AllByRecursion (Item spell r stop Follow) all → Follow rest → Follow (spell_all spell all rest)
  follow_all [] rest items f = f
  follow_all (a ∷ more) rest items f = items.0.follows (spell_all spell more rest)

  pub many_read : (all : List A) (g : ℕ) (rest : List Token) → AllByRecursion (Item spell r stop Follow) all → length all ≤ g → Follow rest → stop rest ≡ true
      → many stop r g (spell_all spell all rest) ≡ (all, rest)
  unfolding many
  many_read [] zero rest items h f s = refl
  many_read [] (suc g) rest items h f s = ap (λ b. many_by (many stop r g) r b rest) s
  many_read (a ∷ more) zero rest items h f s = absurd (grind arith)
  many_read (a ∷ more) (suc g) rest items h f s =
      ap (λ b. many_by (many stop r g) r b (spell_all spell (a ∷ more) rest)) (items.0.goes_on (spell_all spell more rest))
      ∙ ap (cons_with (many stop r g)) (items.0.read (spell_all spell more rest) (follow_all more rest items.1 f))
      ∙ ap (λ (o : List A × List Token). (a ∷ o.0, o.1)) (many_read more g rest items.1 (omega arith) f s)

-- what each item needs, and one more for each
abbrev pub list_need : {A : Type 0} → (A → ℕ) → List A → ℕ
list_need need [] = 0
list_need need (a ∷ more) = suc (need a + list_need need more)

pub length_needed : {A : Type 0} (need : A → ℕ) (all : List A) → length all ≤ list_need need all
length_needed need [] = omega arith
length_needed need (a ∷ more) = grind (arith, length_needed need more)

module _ {A : Type 0} (spell : Spelling A) (r : Reader A) (Follow : List Token → Type 0) (need : A → ℕ) (g : ℕ) where
  -- items that are read back where they need no more than g
  abbrev pub Each : Type 0
  Each = (a : A) (rest : List Token) → need a ≤ g → Follow rest → r (spell a rest) ≡ (a, rest)

  -- a comma may follow
  abbrev pub Commas : Type 0
  Commas = (rest : List Token) → Follow (Sign mark.Comma ∷ rest)

  after_commas : Each → Commas → (all : List A) → list_need need all ≤ g → AllByRecursion (Item (spell_next spell) (λ ts. r (tail ts)) no_comma Follow) all
  after_commas each commas [] h = tt
  after_commas each commas (a ∷ more) h =
      (record { read = λ rest f. each a rest (omega arith) f; goes_on = λ rest. refl; follows = λ rest. commas (spell a rest) }, after_commas each commas more (omega arith))

  pub listed_read : Each → Commas → (a : A) (more : List A) (rest : List Token) → list_need need (a ∷ more) ≤ g → Follow rest → no_comma rest ≡ true
      → listed r g (spell_listed spell (a ∷ more) rest) ≡ (a ∷ more, rest)
  listed_read each commas a more rest h f s =
      let items = after_commas each commas more (omega arith) in
      let next = spell_next spell in let from : Reader A = λ ts. r (tail ts) in
      ap (cons_with (many no_comma from g)) (each a (spell_all next more rest) (omega arith) (follow_all next from no_comma Follow more rest items f))
      ∙ ap (λ (o : List A × List Token). (a ∷ o.0, o.1)) (many_read next from no_comma Follow more g rest items (omega (arith, length_needed need more)) f s)
