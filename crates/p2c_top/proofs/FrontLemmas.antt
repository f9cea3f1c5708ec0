-- The bytes read so far are the first bytes of the file, where it is told and there.
use Rattle.std.proofs.Common.{◌≡◌, ℕ, ◌+◌, ◌<◌, ◌≤◌, ◌↔◌, List, [], ◌++◌, length, take, drop, Option, Some, None, refl, sym, ap, ◌∙◌, arith, take_all}
use Rattle.std.specs.Bool.{⊤}
use Rattle.std.proofs.lemmas.List.{length-append, length-take, length-drop}
use Rattle.std.proofs.Math.Seq.{take-add}
use Rattle.p2c_outside.specs.Told.{Named, HasFile, WhereTold, IsAbsence}
use Rattle.p2c_top.specs.Reading.{Lacks}

abbrev pub IsFrontOf : Option (List ℕ) → List ℕ → Type 0
IsFrontOf None bytes = ⊤
IsFrontOf (Some file) bytes = bytes ≡ take (length bytes) file

abbrev pub IsFront : Option Named → List ℕ → List ℕ → Type 0
IsFront None name bytes = ⊤
IsFront (Some files) name bytes = IsFrontOf (files name) bytes

pub IsFront-nil : (told : Option Named) (name : List ℕ) → IsFront told name []
IsFront-nil None name = tt
IsFront-nil (Some files) name = elim (files name) as (λ f. IsFrontOf f []) [ None ↦ tt | Some b ↦ refl ]

-- a piece that was read after them goes on with the file
IsFrontOf-append : (f : Option (List ℕ)) (bytes piece : List ℕ) (n : ℕ) → n ≤ length piece
    → IsFrontOf f bytes → HasFile f (λ b. take n piece ≡ take n (drop (length bytes) b)) → IsFrontOf f (bytes ++ take n piece)
IsFrontOf-append None bytes piece n within front given = tt
IsFrontOf-append (Some file) bytes piece n within front given =
    let longer : length (bytes ++ take n piece) ≡ length bytes + n = simp (length-append, length-take) (omega arith) in
    (λ i. front i ++ given i) ∙ sym (take-add (length bytes) n file) ∙ sym (ap (λ k. take k file) longer)

pub IsFront-append : (told : Option Named) (name bytes piece : List ℕ) (n : ℕ) → n ≤ length piece
    → IsFront told name bytes → WhereTold told name (λ b. take n piece ≡ take n (drop (length bytes) b)) → IsFront told name (bytes ++ take n piece)
IsFront-append None name bytes piece n within front given = tt
IsFront-append (Some files) name bytes piece n within front given = IsFrontOf-append (files name) bytes piece n within front given

-- where nothing follows them, they are the file
IsFrontOf-end : (f : Option (List ℕ)) (bytes : List ℕ) (n : ℕ) → n ≡ 0 → IsFrontOf f bytes
    → HasFile f (λ b. (n ≡ 0) ↔ (length b ≤ length bytes)) → HasFile f (λ b. bytes ≡ b)
IsFrontOf-end None bytes n none front end = end
IsFrontOf-end (Some file) bytes n none front end = front ∙ take_all (length bytes) file (end.0 none)

-- where something follows them, the file is longer
IsFrontOf-longer : (f : Option (List ℕ)) (bytes piece : List ℕ) (n limit : ℕ) → 1 ≤ n → n ≤ length piece → limit < length bytes + n
    → HasFile f (λ b. take n piece ≡ take n (drop (length bytes) b)) → HasFile f (λ b. limit < length b)
IsFrontOf-longer None bytes piece n limit some within over given = given
IsFrontOf-longer (Some file) bytes piece n limit some within over given =
    let same = simp (length-take, length-drop) at (ap length given) in omega arith

pub IsFront-end : (told : Option Named) (name bytes : List ℕ) (n : ℕ) → n ≡ 0 → IsFront told name bytes
    → WhereTold told name (λ b. (n ≡ 0) ↔ (length b ≤ length bytes)) → WhereTold told name (λ b. bytes ≡ b)
IsFront-end None name bytes n none front end = tt
IsFront-end (Some files) name bytes n none front end = IsFrontOf-end (files name) bytes n none front end

pub longer_than : (told : Option Named) (name bytes piece : List ℕ) (n limit : ℕ) → 1 ≤ n → n ≤ length piece → limit < length bytes + n
    → WhereTold told name (λ b. take n piece ≡ take n (drop (length bytes) b)) → WhereTold told name (λ b. limit < length b)
longer_than None name bytes piece n limit some within over given = tt
longer_than (Some files) name bytes piece n limit some within over given = IsFrontOf-longer (files name) bytes piece n limit some within over given

-- a call that finds no file tells that there is none
pub Lacks-from_absence : (told : Option Named) (name : List ℕ) (P : Type 0) → IsAbsence told name P → P → Lacks told name
Lacks-from_absence None name P absent missed = tt
Lacks-from_absence (Some files) name P absent missed = absent.0 missed
