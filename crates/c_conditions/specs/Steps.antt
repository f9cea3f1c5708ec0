-- Steps over the tokens of a program, each of which may refuse it.
use Rattle.std.specs.Prelude.{◌≡◌, ℕ, ◌+◌, Bool, not, if◌then◌else◌, List, [], ◌∷◌, Result, Ok, Err}
use Rattle.c_grammar.specs.declared.fault.CTextKind.TheVariants.{DoubleName}
use Rattle.c_grammar.specs.declared.fault.CTextKind.{CTextKind}
use Rattle.c_conditions.specs.declared.fault.ConditionFault.{ConditionFault}
use Rattle.c_conditions.specs.declared.fault.ConditionFault.TheVariants.{At, Memory}
use Rattle.c_conditions.specs.Names.{empty, none, zero, with_name}
use Rattle.c_conditions.specs.World.{World}

pub record Failure : Type 0 where
  pub kind : CTextKind
  pub token : ℕ

abbrev pub Outcome : Type 0
Outcome = Result World Failure

abbrev pub Step : Type 0
Step = World → Outcome

abbrev pub go_on : Outcome → Step → Outcome
go_on (Ok w) next = next w
go_on (Err f) next = Err f

infixl 10 ◌>>◌
abbrev pub ◌>>◌ : Step → Step → Step
(first >> next) w = go_on (first w) next

-- each of them in turn
unfoldable pub each : {A : Type 0} → (A → Step) → List A → Step
each step [] w = Ok w
each step (a ∷ more) w = go_on (step a w) (each step more)

-- ---- what the code does

-- Where memory runs out, nothing is said.
abbrev pub Fails : ConditionFault → Outcome → Type 0
Fails (At kind token) outcome = outcome ≡ Err (record { kind = kind; token = token })
Fails (Memory e) outcome = Unit {0}

-- the code came to this world, or failed, as the step says
abbrev pub Gives : Result (Unit {0}) ConditionFault → World → Outcome → Type 0
Gives (Ok done) w outcome = outcome ≡ Ok w
Gives (Err fault) w outcome = Fails fault outcome

-- ---- the least steps

abbrev pub pass : ℕ → Step
pass tokens w = Ok (record w { place = w.place + tokens })

abbrev pub demand : Bool → CTextKind → Step
demand holds kind w = if holds then Ok w else Err (record { kind = kind; token = w.place })

-- a name that has to differ from those of the same struct or function
abbrev pub inner_name : List ℕ → Step
inner_name name = (λ w. demand (not (w.inner name)) DoubleName w) >> (λ w. Ok (record w { inner = with_name name w.inner })) >> pass 1

-- the names of a struct or a function are forgotten at its end
abbrev pub forget : Step
forget w = Ok (record w { inner = none; labels = none })

abbrev pub first : World
first = record { place = 0; structs = empty; pointed = none; typedefs = none; names = none; inner = none; labels = none; reached = zero }
