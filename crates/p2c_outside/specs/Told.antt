-- What the outside tells of its bytes. It tells them (`Some`), or it tells nothing (`None`).
use Rattle.std.specs.Prelude.{◌≡◌, ℕ, Option, None, Some, List, [], ◌++◌, ⊤, ◌↔◌}

-- what was left begins with the bytes that were taken, and the rest is left now
abbrev pub Loses : Option (List ℕ) → Option (List ℕ) → List ℕ → Type 0
Loses None None taken = ⊤
Loses (Some old) (Some new) taken = old ≡ taken ++ new
Loses None (Some new) taken = ⊥
Loses (Some old) None taken = ⊥

-- what was written has the bytes that were put at its end now
abbrev pub Gains : Option (List ℕ) → Option (List ℕ) → List ℕ → Type 0
Gains None None added = ⊤
Gains (Some old) (Some new) added = new ≡ old ++ added
Gains None (Some new) added = ⊥
Gains (Some old) None added = ⊥

-- where what is left is told, nothing is left
abbrev pub IsEmpty : Option (List ℕ) → Type 0
IsEmpty None = ⊤
IsEmpty (Some bytes) = bytes ≡ []

-- the bytes of each name that is there
abbrev pub Named : Type 0
Named = List ℕ → Option (List ℕ)

-- the file is there, and this holds of its bytes
abbrev pub HasFile : Option (List ℕ) → (List ℕ → Type 0) → Type 0
HasFile None P = ⊥
HasFile (Some bytes) P = P bytes

-- where the files are told, the name's file is there, and this holds of its bytes
abbrev pub WhereTold : Option Named → List ℕ → (List ℕ → Type 0) → Type 0
WhereTold None name P = ⊤
WhereTold (Some files) name P = HasFile (files name) P

-- where the files are told, the fact holds exactly where none has the name
abbrev pub IsAbsence : Option Named → List ℕ → Type 0 → Type 0
IsAbsence None name P = ⊤
IsAbsence (Some files) name P = P ↔ (files name ≡ None)
