-- The numbers of the kinds of being stuck.
use Rattle.std.specs.Prelude.{ℕ}
use Rattle.c_meaning.specs.declared.StuckKind.{StuckKind}
use Rattle.c_meaning.specs.declared.StuckKind.TheVariants.{Overflow, ZeroDivide, Indeterminate, NullUse, GoneUse, BadIndex, BadShift, BadByteValue, BadFree, NoValue, UnknownName, Mismatch, BadStatus}

-- the number of a kind
abbrev pub kind_number : StuckKind → ℕ
kind_number Overflow = 1
kind_number ZeroDivide = 2
kind_number Indeterminate = 3
kind_number NullUse = 4
kind_number GoneUse = 5
kind_number BadIndex = 6
kind_number BadShift = 7
kind_number BadByteValue = 8
kind_number BadFree = 9
kind_number NoValue = 10
kind_number UnknownName = 11
kind_number Mismatch = 12
kind_number BadStatus = 13
