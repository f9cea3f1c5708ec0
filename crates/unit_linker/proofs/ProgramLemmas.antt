-- Finding the one program.
use Rattle.std.proofs.Common.{◌≡◌, ℕ, suc, ◌+◌, ◌-◌, ◌≤◌, Bool, true, false, cond, List, [], ◌∷◌, length, Option, Some, None, IsSome, refl, sym, ap, ◌∙◌, subst, arith, slice_get}
use Rattle.pascal_tree.specs.declared.files.SourceFile.{SourceFile}
use Rattle.unit_linker.specs.declared.fault.LinkFault.{LinkFault}
use Rattle.unit_linker.specs.declared.fault.LinkFault.TheVariants.{NoProgram, TwoPrograms, DoubleUnit, MissingUnit, Cycle, Memory}
use Rattle.unit_linker.specs.Files.{is_program, programs, next_found, IsOneProgram}
use Rattle.unit_linker.specs.Faults.{IsSecond, IsNotOne}

-- what was found in front of `rest`
abbrev pub Found : List SourceFile → List SourceFile → Option ℕ → Type 0
Found files rest None = programs rest ≡ programs files
Found files rest (Some place) = (file : SourceFile) × (slice_get files place ≡ Some file) × (is_program file ≡ true) × (programs files ≡ file ∷ programs rest)

pub record Finding (files rest : List SourceFile) (found : Option ℕ) : Type 0 where
  pub within : length rest ≤ length files
  pub there : (k : ℕ) → slice_get rest k ≡ slice_get files (length files - length rest + k)
  pub before : Found files rest found

pub finding_begins : (files : List SourceFile) → Finding files files None
finding_begins files = record {
  within = omega arith;
  there = λ k. let e : length files - length files + k ≡ k = omega arith in ap (slice_get files) (sym e);
  before = refl;
}

program_first : (file : SourceFile) (after : List SourceFile) → is_program file ≡ true → programs (file ∷ after) ≡ file ∷ programs after
unfolding programs
program_first file after h = ap (λ b. cond b (file ∷ programs after) (programs after)) h

no_program_first : (file : SourceFile) (after : List SourceFile) → is_program file ≡ false → programs (file ∷ after) ≡ programs after
unfolding programs
no_program_first file after h = ap (λ b. cond b (file ∷ programs after) (programs after)) h

there_next : (files rest after : List SourceFile) (file : SourceFile) → length rest ≤ length files → ((k : ℕ) → slice_get rest k ≡ slice_get files (length files - length rest + k)) → rest ≡ file ∷ after
    → (k : ℕ) → slice_get after k ≡ slice_get files (length files - length after + k)
there_next files rest after file w t h k =
    let l = ap length h in
    let e : length files - length rest + suc k ≡ length files - length after + k = omega (arith, l, w) in
    sym (ap (λ r. slice_get r (suc k)) h) ∙ t (suc k) ∙ ap (slice_get files) e

other_next : (files rest after : List SourceFile) (file : SourceFile) (found : Option ℕ) → rest ≡ file ∷ after → is_program file ≡ false → Found files rest found → Found files after found
other_next files rest after file None h p f = sym (ap programs h ∙ no_program_first file after p) ∙ f
other_next files rest after file (Some place) h p f = (f.0, f.1, f.2, f.3 ∙ ap (λ l. f.0 ∷ l) (ap programs h ∙ no_program_first file after p))

by_kind : (b : Bool) (files rest after : List SourceFile) (file : SourceFile) (found : Option ℕ) → is_program file ≡ b → rest ≡ file ∷ after → slice_get files (length files - length rest) ≡ Some file
    → (b ≡ true → found ≡ None) → Found files rest found → Found files after (next_found b found (length files - length rest))
unfolding next_found
by_kind false files rest after file found p h at none f = other_next files rest after file found h p f
by_kind true files rest after file found p h at none f =
    let before : programs rest ≡ programs files = subst (Found files rest) (none refl) f in
    (file, at, p, sym before ∙ ap programs h ∙ program_first file after p)

pub finding_next : (files rest after : List SourceFile) (file : SourceFile) (found next : Option ℕ) → Finding files rest found → rest ≡ file ∷ after
    → next ≡ next_found (is_program file) found (length files - length rest) → (is_program file ≡ true → found ≡ None) → Finding files after next
finding_next files rest after file found next f h e none =
    let l = ap length h in
    let zero_more : length files - length rest + 0 ≡ length files - length rest = omega arith in
    let at = sym (f.there 0 ∙ ap (slice_get files) zero_more) ∙ ap (λ r. slice_get r 0) h in
    record {
      within = omega (arith, f.within, l);
      there = there_next files rest after file f.within f.there h;
      before = subst (Found files after) (sym e) (by_kind (is_program file) files rest after file found refl h at none f.before);
    }

second_of : (files rest after : List SourceFile) (file : SourceFile) (found : Option ℕ) → rest ≡ file ∷ after → is_program file ≡ true → IsSome found → Found files rest found
    → (first : SourceFile) × (programs files ≡ first ∷ file ∷ programs after)
second_of files rest after file None h p some f = absurd cc
second_of files rest after file (Some place) h p some f = (f.0, f.3 ∙ ap (λ l. f.0 ∷ l) (ap programs h ∙ program_first file after p))

pub second_found : (files rest after : List SourceFile) (file : SourceFile) (found : Option ℕ) (fault : LinkFault) → Finding files rest found → rest ≡ file ∷ after → IsSecond found file fault → IsNotOne files fault
second_found files rest after file found (TwoPrograms span) f h s =
    let both = second_of files rest after file found h s.0 s.1 f.before in
    (both.0, file, programs after, both.1, s.2)
second_found files rest after file found NoProgram f h s = absurd s
second_found files rest after file found (DoubleUnit span) f h s = s
second_found files rest after file found (MissingUnit span) f h s = s
second_found files rest after file found (Cycle names span) f h s = s
second_found files rest after file found (Memory e) f h s = s

no_items : (xs : List SourceFile) → length xs ≡ 0 → xs ≡ []
no_items [] h = refl
no_items (x ∷ xs) h = absurd (omega arith)

programs_of_none : programs [] ≡ []
unfolding programs
programs_of_none = refl

pub none_found : (files rest : List SourceFile) (found : Option ℕ) → Finding files rest found → length rest ≡ 0 → found ≡ None → programs files ≡ []
none_found files rest found f h e =
    let before : programs rest ≡ programs files = subst (Found files rest) e f.before in
    sym before ∙ ap programs (no_items rest h) ∙ programs_of_none

pub one_found : (files rest : List SourceFile) (found : Option ℕ) (place : ℕ) → Finding files rest found → length rest ≡ 0 → found ≡ Some place → IsOneProgram files place
one_found files rest found place f h e =
    let it = subst (Found files rest) e f.before in
    record { program = it.0; there = it.1; is = it.2; one = it.3 ∙ ap (λ l. it.0 ∷ l) (ap programs (no_items rest h) ∙ programs_of_none) }
