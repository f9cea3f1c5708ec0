-- The generator's text.
use Rattle.std.specs.Prelude.{ℕ, zero, suc, ◌+◌, List, [], ◌++◌, codes, decimal}
use Rattle.pascal_samples.specs.declared.routine.RoutineKind.{RoutineKind}
use Rattle.pascal_samples.specs.declared.routine.RoutineKind.TheVariants.{Plain, Calling, Nested, Jumping}
use Rattle.pascal_samples.specs.declared.routine.Drawn.{Drawn}
use Rattle.pascal_samples.specs.Draws.{draws}

-- the lines after a routine's heading, with its amount and the number of the routine that it calls
abbrev pub body_text : RoutineKind → ℕ → ℕ → List ℕ
body_text Plain a j = codes "begin g := (g + n * " ++ decimal a ++ codes ") mod 10000 end;\n"
body_text Calling a j = codes "begin g := (g + " ++ decimal a ++ codes ") mod 10000; if n < 20 then p" ++ decimal j ++ codes "(n + 1) end;\n"
body_text Nested a j =
    codes "var v: integer;\nprocedure q;\nbegin v := v + " ++ decimal a ++ codes "; if n < 20 then p" ++ decimal j
    ++ codes "(n + 1) end;\nbegin v := n; q; g := (g + v) mod 10000 end;\n"
body_text Jumping a j =
    codes "label 1;\nprocedure q;\nbegin if n mod 2 = 0 then goto 1; g := (g + " ++ decimal a ++ codes ") mod 10000 end;\nbegin q; if n < 20 then p" ++ decimal j
    ++ codes "(n + 1); 1: g := (g + 1) mod 10000 end;\n"

abbrev pub routine_text : ℕ → Drawn → List ℕ
routine_text number d = codes "procedure p" ++ decimal number ++ codes "(n: integer);\n" ++ body_text d.kind d.amount d.callee

-- so many routines, from this number and state on
unfoldable pub routines_text : ℕ → ℕ → ℕ → List ℕ
routines_text x number zero = []
routines_text x number (suc more) = let d = draws number x in routine_text number d ++ routines_text d.state (number + 1) more

-- the calls of so many routines, from this number on
unfoldable pub calls_text : ℕ → ℕ → List ℕ
calls_text number zero = []
calls_text number (suc more) = codes "p" ++ decimal number ++ codes "(1);\n" ++ calls_text (number + 1) more

-- a program of so many routines
abbrev pub sample_text : ℕ → ℕ → List ℕ
sample_text seed size =
    codes "program sample(output);\nvar g: integer;\n" ++ routines_text seed 1 size ++ codes "begin\ng := 0;\n" ++ calls_text 1 size ++ codes "writeln(g)\nend.\n"
