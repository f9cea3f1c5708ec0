-- What an evaluation that may want memory tells of an answer.
use Rattle.std.specs.Prelude.{◌≡◌, Result, Ok, Err}
use Rattle.c_meaning.specs.declared.StuckKind.{StuckKind}
use Rattle.c_meaning.specs.Answer.{Answer, Got, Bad}
use Rattle.c_cells.specs.declared.halt.Halt.{Halt}
use Rattle.c_cells.specs.declared.halt.Halt.TheVariants.{Stuck, Memory}

-- the answer of an evaluation that wants no memory
abbrev pub said : {A B : Type 0} → (A → B) → Result A StuckKind → Answer B
said f (Ok x) = Got (f x)
said f (Err kind) = Bad kind

-- the answer is this one; nothing is told where memory is short
abbrev pub Tells : {A B : Type 0} → (A → B) → Result A Halt → Answer B → Type 0
Tells f (Ok x) answer = Got (f x) ≡ answer
Tells f (Err (Stuck kind)) answer = Bad kind ≡ answer
Tells f (Err Memory) answer = Unit {0}

-- the answer is not there for this cause; nothing is told where memory is short
abbrev pub Refuses : {B : Type 0} → Halt → Answer B → Type 0
Refuses (Stuck kind) answer = answer ≡ Bad kind
Refuses Memory answer = Unit {0}
