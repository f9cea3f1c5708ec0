-- Files that are read, and why they cannot be.
use Rattle.std.specs.Prelude.{◌≡◌, ◌⊎◌, ℕ, zero, suc, ◌+◌, ◌-◌, ◌<◌, ◌≤◌, Option, None, Some, List, [], ◌∷◌, ◌++◌, length, ⊤, Result, Ok, Err}
use Rattle.p2c_text.specs.Text.{NamedBytes}
use Rattle.p2c_outside.specs.Told.{Named, HasFile, WhereTold}
use Rattle.translate_core.specs.Accepted.{size}
use Rattle.p2c_top.specs.declared.outcome.Outcome.{Outcome}
use Rattle.p2c_top.specs.declared.outcome.Outcome.TheVariants as outcome
use Rattle.p2c_top.specs.declared.reading.Unread.{Unread}
use Rattle.p2c_top.specs.declared.reading.ReadRefusal.{ReadRefusal}
use Rattle.p2c_top.specs.declared.reading.ReadRefusal.TheVariants.{Missing, Failed, TooLong, OutOfMemory}

-- where the files are told, none has the name
abbrev pub Lacks : Option Named → List ℕ → Type 0
Lacks None name = ⊤
Lacks (Some files) name = files name ≡ None

-- where the files are told, that with this number is the first that is absent
abbrev pub FirstAbsent : Named → List (List ℕ) → (file : ℕ) → Type 0
FirstAbsent files [] file = ⊥
FirstAbsent files (name ∷ names) zero = files name ≡ None
FirstAbsent files (name ∷ names) (suc file) = HasFile (files name) (λ bytes. ⊤) × FirstAbsent files names file

-- the file with this number is the first that is absent, or one of them where the files are not told
abbrev pub LacksFirst : Option Named → List (List ℕ) → (file : ℕ) → Type 0
LacksFirst None names file = file < length names
LacksFirst (Some files) names file = FirstAbsent files names file

-- the texts are the files of these names, in order
abbrev pub AreTexts : Option Named → List (List ℕ) → List NamedBytes → Type 0
AreTexts told [] [] = ⊤
AreTexts told [] (t ∷ texts) = ⊥
AreTexts told (name ∷ names) [] = ⊥
AreTexts told (name ∷ names) (t ∷ texts) = (t.name ≡ name) × WhereTold told name (λ bytes. t.bytes ≡ bytes) × AreTexts told names texts

-- the files read so far have more bytes together than this
abbrev pub Passes : Option Named → (most : ℕ) → List (List ℕ) → Type 0
Passes told most [] = ⊥
Passes told most (name ∷ names) = WhereTold told name (λ bytes. most < length bytes)
    ⊎ ((bytes : List ℕ) × WhereTold told name (λ b. bytes ≡ b) × (length bytes ≤ most) × Passes told (most - length bytes) names)

-- the answer to a refusal of the file with this number
abbrev pub outcome_of : (file : ℕ) → ReadRefusal → Outcome
outcome_of file Missing = outcome.Missing file
outcome_of file Failed = outcome.ReadFault
outcome_of file TooLong = outcome.TooLong
outcome_of file OutOfMemory = outcome.OutOfMemory

-- ---- what the code finds

-- a file was read: its text is behind the others, and so much is left of the room
abbrev pub AddsFile : Option Named → (name : List ℕ) → (room : ℕ) → (old new : List NamedBytes) → (left : ℕ) → Type 0
AddsFile told name room old new left = (t : NamedBytes) × (new ≡ old ++ t ∷ []) × (t.name ≡ name) × WhereTold told name (λ bytes. t.bytes ≡ bytes) × (length t.bytes + left ≡ room)

-- the files before `rest` were read
pub record ReadUpTo (told : Option Named) (names rest : List (List ℕ)) (texts : List NamedBytes) (room : ℕ) : Type 0 where
  pub before : List (List ℕ)
  pub is : names ≡ before ++ rest
  pub texts_are : AreTexts told before texts
  pub left : size texts + room ≡ 8388608

abbrev pub refusal_of : Result (List NamedBytes) Unread → Option ReadRefusal
refusal_of (Ok texts) = None
refusal_of (Err unread) = Some unread.refusal
