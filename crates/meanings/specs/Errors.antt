-- The numbers of runtime errors.
use Rattle.std.specs.Prelude.{ℕ}
use Rattle.meanings.specs.declared.errors.RuntimeError.{RuntimeError}
use Rattle.meanings.specs.declared.errors.RuntimeError.TheVariants.{BadDivisor, OutOfRange, NilUse, Overflow, NoLabel, InactiveVariant, BadNumber, LongText, PastEnd}

-- the number of an error
abbrev pub error_number : RuntimeError → ℕ
error_number BadDivisor = 200
error_number OutOfRange = 201
error_number NilUse = 202
error_number Overflow = 203
error_number NoLabel = 204
error_number InactiveVariant = 205
error_number BadNumber = 206
error_number LongText = 207
error_number PastEnd = 208
