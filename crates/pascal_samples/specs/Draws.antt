-- The numbers that the generator draws.
use Rattle.std.specs.Prelude.{ℕ, zero, suc, ◌+◌, ◌-◌, ◌*◌, ◌/◌, ◌%◌, ◌^◌, ◌==◌, if◌then◌else◌}
use Rattle.pascal_samples.specs.declared.routine.Drawn.{Drawn}
use Rattle.pascal_samples.specs.declared.routine.RoutineKind.{RoutineKind}
use Rattle.pascal_samples.specs.declared.routine.RoutineKind.TheVariants.{Plain, Calling, Nested, Jumping}

-- the linear congruence
abbrev pub next : ℕ → ℕ
next x = (x * 6364136223846793005 + 1442695040888963407) % (2 ^ 64)

-- the number below m that a state gives
abbrev pub below : ℕ → ℕ → ℕ
below m x = x / 2 ^ 33 % m

abbrev pub kind_of : ℕ → RoutineKind
kind_of zero = Plain
kind_of (suc zero) = Calling
kind_of (suc (suc zero)) = Nested
kind_of _ = Jumping

-- for the first routine only the amount is drawn
abbrev pub first_draws : ℕ → Drawn
first_draws x = let a = next x in record { kind = Plain; amount = below 900 a + 1; callee = 0; state = a }

-- for the routine with a number above 1 its kind, its amount, and one of the routines before it
abbrev pub later_draws : ℕ → ℕ → Drawn
later_draws number x =
    let k = next x in let a = next k in let j = next a in
    record { kind = kind_of (below 4 k); amount = below 900 a + 1; callee = below (number - 1) j + 1; state = j }

abbrev pub draws : ℕ → ℕ → Drawn
draws number x = if number == 1 then first_draws x else later_draws number x
