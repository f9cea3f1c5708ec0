-- What the words after the program's name ask for.
use Rattle.std.specs.Prelude.{◌≡◌, ℕ, ◌&&◌, nat_le, nat_lt, if◌then◌else◌, Option, None, Some, List, [], length, slice_get, ⊤, option_and_then, option_map, Result, IfOk}
use Rattle.p2c_text.specs.declared.dialect.Dialect.{Dialect}
use Rattle.command_words.specs.Asked.{Asked, Translate, Run, Sample, asked, seen}
use Rattle.command_words.specs.declared.setting.Setting.{Setting}

-- what is built of what can be asked for
pub data Task : Type 0 where
  Translating : (dialect : Dialect) (names : List (List ℕ)) → Task
  Running : (steps : ℕ) (name : List ℕ) → Task

-- files to translate, of which there are 1 to 64, or one text to run; nothing else is built
abbrev pub task_of : Asked → Option Task
task_of (Translate d names) = if nat_lt 0 (length names) && nat_le (length names) 64 then Some (Translating d names) else None
task_of (Run steps name) = Some (Running steps name)
task_of (Sample seed size) = None

-- the words ask for this task
abbrev pub task_asked : List (List ℕ) → Option Task
task_asked words = option_and_then task_of (asked words)

abbrev pub or_nothing : Option (List ℕ) → List ℕ
or_nothing None = []
or_nothing (Some name) = name

-- the name of the file with this number, from 0 on, or nothing
abbrev pub name_in : Option Asked → (file : ℕ) → List ℕ
name_in None file = []
name_in (Some (Translate d names)) file = or_nothing (slice_get names file)
name_in (Some (Run steps name)) file = name
name_in (Some (Sample seed size)) file = []

abbrev pub name_asked : List (List ℕ) → (file : ℕ) → List ℕ
name_asked words file = name_in (asked words) file

-- the task is a run
abbrev pub IsRunning : Option Task → Type 0
IsRunning (Some (Running steps name)) = ⊤
IsRunning _ = ⊥

-- ---- what the code finds

-- what is asked for was found, unless memory was wanting
abbrev pub Finds : {E : Type 0} → Result (Option Setting) E → Option Asked → Type 0
Finds found what = IfOk found (λ some. option_map seen some ≡ what)
