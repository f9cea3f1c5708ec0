-- The answers of a program at two bounds.
use Rattle.std.proofs.Common.{◌≡◌, ℕ, ◌≤◌, List, [], ◌∷◌, map, subst}
use Rattle.typed_tree.specs.declared.declarations.Routine.{Routine}
use Rattle.typed_tree.specs.declared.declarations.Body.{Body}
use Rattle.typed_tree.specs.declared.declarations.Typed.{Typed}
use Rattle.meanings.specs.Code.{Answer, End, UndefinedAfter, MalformedAfter, CutAfter}
use Rattle.meanings.specs.Bounds.{EachRoutine, NoRoutine, OneRoutine, EachBlock, NoBlock, OneBlock, SteadyCode, Keeps}
use Rattle.meanings.proofs.Growth.{steady}
use Rattle.meanings.proofs.SteadyCode.{bounds_agree}
use Rattle.pascal_meaning.specs.Meaning.{routine_code, block_code, code, Pas}
use Rattle.pascal_meaning.specs.Laws.{IsFinal, FinalStays, CutIsExtended}
use Rattle.pascal_meaning.proofs.Trees.{of_exec}

each_routine : (rs : List Routine) → EachRoutine (map routine_code rs)
unfolding routine_code
each_routine [] = NoRoutine
each_routine (r ∷ rs) = OneRoutine {r = routine_code r} (of_exec steady r.body) (each_routine rs)

each_block : (bs : List Body) → EachBlock (map block_code bs)
unfolding block_code
each_block [] = NoBlock
each_block (b ∷ bs) = OneBlock {b = block_code b} (of_exec steady b.body) (each_block bs)

pub steady_code : (p : Typed) → SteadyCode (code p)
unfolding code block_code
steady_code p = record { routines = each_routine p.routines; units = each_block p.units; main = of_exec steady p.main.body }

pub keeps : (p : Typed) (input : List ℕ) (m n : ℕ) → m ≤ n → Keeps (Pas p input m) (Pas p input n)
unfolding Pas
keeps p input m n le = bounds_agree (code p) (steady_code p) input m n le

of_final : (a b : Answer) → IsFinal a → Keeps a b → b ≡ a
of_final (End o s k) b f h = h
of_final (UndefinedAfter o k) b f h = h
of_final (MalformedAfter o k) b f h = h
of_final (CutAfter o k) b f h = absurd f

pub final_stays : FinalStays
final_stays p input m n answer f le e = of_final answer _ f (subst (λ a. Keeps a (Pas p input n)) e (keeps p input m n le))

pub cut_is_extended : CutIsExtended
cut_is_extended p input m n output entries le e = subst (λ a. Keeps a (Pas p input n)) e (keeps p input m n le)
