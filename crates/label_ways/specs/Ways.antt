-- Ways by labels.
use Rattle.std.specs.Prelude.{◌≡◌, ℕ, if◌then◌else◌, List, [], ◌++◌, map, Option, Some, None, slice_get}
use Rattle.std.specs.Option.{option_map}
use Rattle.std.specs.Str.{bytes_eq}
use Rattle.std.specs.Map.{lookup}
use Rattle.c_tree.specs.Tree.{Statement}
use Rattle.c_tree.specs.declared.program.CFunction.{CFunction}
use Rattle.c_tree.specs.declared.program.CProgram.{CProgram}
use Rattle.c_meaning.specs.Cells.{Name}
use Rattle.label_ways.specs.Labels as l
use Rattle.label_ways.specs.Labels.{path_of}
use Rattle.label_ways.specs.declared.level.Level.{Level}
use Rattle.label_ways.specs.declared.ways.Way.{Way}
use Rattle.label_ways.specs.declared.ways.Ways.{Ways}
use Rattle.label_ways.specs.declared.note.ProgramWays.{ProgramWays}

abbrev pub way_of : Way → List Level × ℕ
way_of w = (w.outer.items, w.at)

-- the way that is noted for a label
abbrev pub way_in : Ways → Name → l.Way
way_in t x = option_map way_of (lookup (bytes_eq x) t.entries.entries)

-- this way, where the names are the same
abbrev pub way_if : Name → Name → List Level × ℕ → l.Way
way_if x y w = if bytes_eq x y then Some w else None

-- a way inside of these levels
abbrev pub below : List Level → l.Way → l.Way
below outer None = None
below outer (Some p) = Some (outer ++ p.0, p.1)

-- the way to each label is the one to the first label of its name
abbrev pub Leads : Ways → List Statement → Type 0
Leads t body = (x : Name) → way_in t x ≡ path_of x 0 body

-- the same for each function
abbrev pub LeadEach : List Ways → List CFunction → Type 0
LeadEach ts functions = (x : Name) → map (λ t. way_in t x) ts ≡ map (λ f. path_of x 0 f.body) functions

abbrev pub body_if : Option CFunction → List Statement
body_if None = []
body_if (Some f) = f.body

-- the body of `main`, or of the function with a number
abbrev pub body_in : CProgram → Option ℕ → List Statement
body_in c None = c.main.body
body_in c (Some n) = body_if (slice_get c.functions n)

-- the same for `main` and for each function of a program
pub record Guides (c : CProgram) (t : ProgramWays) : Type 0 where
  pub main : Leads t.main c.main.body
  pub functions : LeadEach t.functions.items c.functions
