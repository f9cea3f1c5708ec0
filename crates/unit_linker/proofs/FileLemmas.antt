-- Names of given files, and uses without a unit.
use Rattle.std.proofs.Common.{◌≡◌, ℕ, suc, ◌-◌, ◌≤◌, Bool, true, false, cond, List, [], ◌∷◌, ◌++◌, length, Option, Some, None, is_none, refl, sym, ap, ◌∙◌, subst, append_assoc, arith}
use Rattle.std.specs.Option.{option_map}
use Rattle.p2c_text.specs.declared.place.Span.{Span}
use Rattle.pascal_tree.specs.declared.names.Identifier.{Identifier}
use Rattle.pascal_tree.specs.declared.files.SourceFile.{SourceFile}
use Rattle.unit_linker.specs.declared.fault.LinkFault.{LinkFault}
use Rattle.unit_linker.specs.declared.fault.LinkFault.TheVariants.{NoProgram, TwoPrograms, DoubleUnit, MissingUnit, Cycle, Memory}
use Rattle.unit_linker.specs.Files.{unit_name, interface_uses, implementation_uses, Names, with_name, named_from, named, place_of, is_known, double_from, double, all_uses, first_missing}
use Rattle.unit_linker.specs.Faults.{IsKnown, IsDouble}

no_items : {A : Type 0} (xs : List A) → length xs ≡ 0 → xs ≡ []
no_items [] h = refl
no_items (x ∷ xs) h = absurd (omega arith)

append_nil : {A : Type 0} (xs : List A) → xs ≡ xs ++ []
append_nil [] = refl
append_nil (x ∷ xs) = ap (λ l. x ∷ l) (append_nil xs)

-- ---- uses without a unit

abbrev spanned : Option Identifier → Option Span
spanned o = option_map (λ (name : Identifier). name.span) o

cond_found : (b : Bool) (x : Identifier) (a c : Option Identifier) (s : Span) → (spanned a ≡ Some s → spanned c ≡ Some s) → spanned (cond b (Some x) a) ≡ Some s → spanned (cond b (Some x) c) ≡ Some s
cond_found true x a c s f h = h
cond_found false x a c s f h = f h

cond_none : (b : Bool) (x : Identifier) (a c d : Option Identifier) → (spanned a ≡ None → c ≡ d) → spanned (cond b (Some x) a) ≡ None → cond b (Some x) c ≡ d
cond_none true x a c d f h = absurd cc
cond_none false x a c d f h = f h

found_in_first : (names : Names) (xs ys : List Identifier) (s : Span) → spanned (first_missing names xs) ≡ Some s → spanned (first_missing names (xs ++ ys)) ≡ Some s
unfolding first_missing
found_in_first names [] ys s h = absurd cc
found_in_first names (x ∷ xs) ys s h = cond_found (is_none (place_of names x.name)) x _ _ s (found_in_first names xs ys s) h

found_in_second : (names : Names) (xs ys : List Identifier) → spanned (first_missing names xs) ≡ None → first_missing names (xs ++ ys) ≡ first_missing names ys
unfolding first_missing
found_in_second names [] ys h = refl
found_in_second names (x ∷ xs) ys h = cond_none (is_none (place_of names x.name)) x _ _ _ (found_in_second names xs ys) h

missing_first : (names : Names) (x : Identifier) (xs : List Identifier) → is_none (place_of names x.name) ≡ true → first_missing names (x ∷ xs) ≡ Some x
unfolding first_missing
missing_first names x xs h = ap (λ b. cond b (Some x) (first_missing names xs)) h

missing_not_first : (names : Names) (x : Identifier) (xs : List Identifier) → is_none (place_of names x.name) ≡ false → first_missing names (x ∷ xs) ≡ first_missing names xs
unfolding first_missing
missing_not_first names x xs h = ap (λ b. cond b (Some x) (first_missing names xs)) h

pub missing_here : (names : Names) (x : Identifier) (xs rest : List Identifier) (all : Option Identifier) → rest ≡ x ∷ xs → place_of names x.name ≡ None → first_missing names rest ≡ all → Some x.span ≡ spanned all
missing_here names x xs rest all h t e = sym (ap spanned (sym e ∙ ap (first_missing names) h ∙ missing_first names x xs (ap is_none t)))

pub missing_later : (names : Names) (x : Identifier) (xs rest : List Identifier) (all : Option Identifier) (place : ℕ) → rest ≡ x ∷ xs → place_of names x.name ≡ Some place → first_missing names rest ≡ all → first_missing names xs ≡ all
missing_later names x xs rest all place h t e = sym (ap (first_missing names) h ∙ missing_not_first names x xs (ap is_none t)) ∙ e

none_of_none : (names : Names) → first_missing names [] ≡ None
unfolding first_missing
none_of_none names = refl

pub missing_nowhere : (names : Names) (rest : List Identifier) (all : Option Identifier) → length rest ≡ 0 → first_missing names rest ≡ all → None ≡ spanned all
missing_nowhere names rest all h e = sym (ap spanned (sym e ∙ ap (first_missing names) (no_items rest h) ∙ none_of_none names))

pub missing_in_first : (names : Names) (xs ys : List Identifier) (o : Option Span) (s : Span) → o ≡ spanned (first_missing names xs) → o ≡ Some s → Some s ≡ spanned (first_missing names (xs ++ ys))
missing_in_first names xs ys o s h e = sym (found_in_first names xs ys s (sym h ∙ e))

pub missing_in_second : (names : Names) (xs ys : List Identifier) (o p : Option Span) → o ≡ spanned (first_missing names xs) → o ≡ None → p ≡ spanned (first_missing names ys) → p ≡ spanned (first_missing names (xs ++ ys))
missing_in_second names xs ys o p h e k = k ∙ ap spanned (sym (found_in_second names xs ys (sym h ∙ e)))

uses_first : (file : SourceFile) (files : List SourceFile) → all_uses (file ∷ files) ≡ (interface_uses file ++ implementation_uses file) ++ all_uses files
unfolding all_uses
uses_first file files = refl

uses_none : all_uses [] ≡ []
unfolding all_uses
uses_none = refl

pub file_misses : (names : Names) (file : SourceFile) (files rest : List SourceFile) (all : Option Identifier) (o : Option Span) (s : Span) → rest ≡ file ∷ files
    → o ≡ spanned (first_missing names (interface_uses file ++ implementation_uses file)) → o ≡ Some s → first_missing names (all_uses rest) ≡ all → Some s ≡ spanned all
file_misses names file files rest all o s h k e l =
    missing_in_first names (interface_uses file ++ implementation_uses file) (all_uses files) o s k e
    ∙ ap spanned (ap (first_missing names) (sym (ap all_uses h ∙ uses_first file files)) ∙ l)

pub file_misses_none : (names : Names) (file : SourceFile) (files rest : List SourceFile) (all : Option Identifier) (o : Option Span) → rest ≡ file ∷ files
    → o ≡ spanned (first_missing names (interface_uses file ++ implementation_uses file)) → o ≡ None → first_missing names (all_uses rest) ≡ all → first_missing names (all_uses files) ≡ all
file_misses_none names file files rest all o h k e l =
    sym (ap (first_missing names) (ap all_uses h ∙ uses_first file files) ∙ found_in_second names (interface_uses file ++ implementation_uses file) (all_uses files) (sym k ∙ e)) ∙ l

pub files_miss_none : (names : Names) (rest : List SourceFile) (all : Option Identifier) → length rest ≡ 0 → first_missing names (all_uses rest) ≡ all → None ≡ spanned all
files_miss_none names rest all h e = sym (ap spanned (sym e ∙ ap (λ fs. first_missing names (all_uses fs)) (no_items rest h) ∙ ap (first_missing names) uses_none ∙ none_of_none names))

-- ---- names

with_name_apart : (o : Option (List ℕ)) (place : ℕ) (names : Names) → with_name o place names ≡ with_name o place [] ++ names
with_name_apart None place names = refl
with_name_apart (Some name) place names = refl

-- a loop through the files, of which `rest` are left
pub record Naming (files rest : List SourceFile) (known : Names) : Type 0 where
  pub within : length rest ≤ length files
  pub named : known ++ named_from (length files - length rest) rest ≡ named files
  pub once : double_from known (length files - length rest) rest ≡ double files

begin : (files : List SourceFile) → Naming files files []
unfolding named double
begin files =
    let none : length files - length files ≡ 0 = omega arith in
    record { within = omega arith; named = ap (λ n. named_from n files) none; once = ap (λ n. double_from [] n files) none }

pub naming_begins : (files : List SourceFile) (known : Names) → known ≡ [] → Naming files files known
naming_begins files known h = subst (Naming files files) (sym h) (begin files)

next_named : (file : SourceFile) (after : List SourceFile) (known : Names) (place : ℕ) → known ++ named_from place (file ∷ after) ≡ (known ++ with_name (unit_name file) place []) ++ named_from (suc place) after
unfolding named_from
next_named file after known place = ap (λ l. known ++ l) (with_name_apart (unit_name file) place (named_from (suc place) after)) ∙ sym (append_assoc known _ _)

next_once : (file : SourceFile) (after : List SourceFile) (known : Names) (place : ℕ) → is_known known (unit_name file) ≡ false → double_from known place (file ∷ after) ≡ double_from (known ++ with_name (unit_name file) place []) (suc place) after
unfolding double_from
next_once file after known place h = ap (λ b. cond b (Some file) (double_from (known ++ with_name (unit_name file) place []) (suc place) after)) h

here_double : (file : SourceFile) (after : List SourceFile) (known : Names) (place : ℕ) → is_known known (unit_name file) ≡ true → double_from known place (file ∷ after) ≡ Some file
unfolding double_from
here_double file after known place h = ap (λ b. cond b (Some file) (double_from (known ++ with_name (unit_name file) place []) (suc place) after)) h

pub naming_next : (files rest after : List SourceFile) (file : SourceFile) (known known' : Names) → Naming files rest known → rest ≡ file ∷ after
    → known' ≡ known ++ with_name (unit_name file) (length files - length rest) [] → is_known known (unit_name file) ≡ false → Naming files after known'
naming_next files rest after file known known' n h k f =
    let l = ap length h in
    let next : length files - length after ≡ suc (length files - length rest) = omega (arith, n.within, l) in
    record {
      within = omega (arith, n.within, l);
      named = ap (λ i. known' ++ named_from i after) next ∙ ap (λ m. m ++ named_from (suc (length files - length rest)) after) k
          ∙ sym (ap (λ r. known ++ named_from (length files - length rest) r) h ∙ next_named file after known (length files - length rest)) ∙ n.named;
      once = ap (λ i. double_from known' i after) next ∙ ap (λ m. double_from m (suc (length files - length rest)) after) k
          ∙ sym (ap (λ r. double_from known (length files - length rest) r) h ∙ next_once file after known (length files - length rest) f) ∙ n.once;
    }

named_of_none : (place : ℕ) → named_from place [] ≡ []
unfolding named_from
named_of_none place = refl

double_of_none : (known : Names) (place : ℕ) → double_from known place [] ≡ None
unfolding double_from
double_of_none known place = refl

pub naming_ends : (files rest : List SourceFile) (known : Names) → Naming files rest known → length rest ≡ 0 → known ≡ named files
naming_ends files rest known n h = append_nil known ∙ ap (λ l. known ++ l) (sym (named_of_none (length files - length rest))) ∙ ap (λ r. known ++ named_from (length files - length rest) r) (sym (no_items rest h)) ∙ n.named

pub none_double : (files rest : List SourceFile) (known : Names) → Naming files rest known → length rest ≡ 0 → double files ≡ None
none_double files rest known n h = sym n.once ∙ ap (double_from known (length files - length rest)) (no_items rest h) ∙ double_of_none known (length files - length rest)

pub double_found : (files rest after : List SourceFile) (file : SourceFile) (known : Names) (fault : LinkFault) → Naming files rest known → rest ≡ file ∷ after → IsKnown known file fault → IsDouble files fault
double_found files rest after file known (DoubleUnit span) n h k =
    (file, sym n.once ∙ ap (double_from known (length files - length rest)) h ∙ here_double file after known (length files - length rest) k.0, k.1)
double_found files rest after file known (Memory e) n h k = tt
double_found files rest after file known NoProgram n h k = k
double_found files rest after file known (TwoPrograms s) n h k = k
double_found files rest after file known (MissingUnit s) n h k = k
double_found files rest after file known (Cycle names s) n h k = k
