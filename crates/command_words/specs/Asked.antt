-- What the words after the program's name ask for.
use Rattle.std.specs.Prelude.{ℕ, true, if◌then◌else◌, List, [], ◌∷◌, map, codes, Option, Some, None, option_and_then, option_map}
use Rattle.std.specs.Str.{bytes_eq}
use Rattle.std.specs.Str.Parse.{digits_value, without_leading_plus}
use Rattle.clap.specs.Words.{App, Kinds, Row, Rule, Text, all_of, fault_of, first_of, matches_of, new_app, new_rule, with_rule}
use Rattle.clap.specs.ValueTests.{is_unsigned_in}
use Rattle.p2c_text.specs.declared.dialect.Dialect.{Dialect}
use Rattle.p2c_text.specs.declared.dialect.Dialect.TheVariants.{Iso, Turbo, Ucsd, Hp}
use Rattle.command_words.specs.declared.setting.Setting.{Setting}
use Rattle.command_words.specs.declared.setting.Setting.TheVariants as setting

-- a command of the program
pub data Asked : Type 0 where
  Translate : (dialect : Dialect) (files : List Text) → Asked
  Run : (steps : ℕ) (file : Text) → Asked
  Sample : (seed size : ℕ) → Asked

abbrev pub seen : Setting → Asked
seen (setting.Translate dialect files) = Translate dialect (map (λ name. name.now) files.items)
seen (setting.Run steps file) = Run steps file.now
seen (setting.Sample seed size) = Sample seed size

-- ---- the command lines

abbrev pub dialect_rule : Rule
dialect_rule = record (new_rule (codes "dialect")) { short = Some 76; defaults = codes "iso" ∷ [] }

abbrev pub files_rule : Rule
files_rule = record (new_rule (codes "files")) { required = true; range = Some (record { start_inclusive = 1; end_inclusive = 64 }) }

-- `translate [-L DIALECT] FILE..`, of 1 to 64 files
abbrev pub translate_app : App
translate_app = with_rule (with_rule (new_app (codes "translate")) dialect_rule) files_rule

-- `run [--steps N] FILE`
abbrev pub run_app : App
run_app = with_rule (with_rule (new_app (codes "run")) (record (new_rule (codes "steps")) { long = Some (codes "steps"); defaults = codes "1000000000000" ∷ [] }))
    (record (new_rule (codes "file")) { required = true })

-- `sample --seed N --size N`
abbrev pub sample_app : App
sample_app = with_rule (with_rule (new_app (codes "sample")) (record (new_rule (codes "seed")) { long = Some (codes "seed"); required = true }))
    (record (new_rule (codes "size")) { long = Some (codes "size"); required = true })

-- the matches of a command line, where it takes the words
abbrev pub where_none : Kinds → List Row → Option (List Row)
where_none [] rows = Some rows
where_none (k ∷ ks) rows = None

abbrev pub matched : App → List Text → Option (List Row)
matched app words = where_none (fault_of app words) (matches_of app words)

-- ---- their values

abbrev pub dialect_of : Text → Option Dialect
dialect_of text = if bytes_eq text (codes "iso") then Some Iso
    else if bytes_eq text (codes "turbo") then Some Turbo
    else if bytes_eq text (codes "ucsd") then Some Ucsd
    else if bytes_eq text (codes "hp") then Some Hp
    else None

-- a number of 64 bits in a range
abbrev pub number_in : (least most : ℕ) → Text → Option ℕ
number_in least most text = if is_unsigned_in least most text then Some (digits_value 10 (without_leading_plus text)) else None

abbrev pub translation : List Row → Option Asked
translation rows = option_and_then (λ d. option_map (λ files. Translate d files) (all_of (codes "files") rows)) (option_and_then dialect_of (first_of (codes "dialect") rows))

abbrev pub running : List Row → Option Asked
running rows = option_and_then (λ n. option_map (λ file. Run n file) (first_of (codes "file") rows)) (option_and_then (number_in 1 1000000000000000000) (first_of (codes "steps") rows))

abbrev pub sampling : List Row → Option Asked
sampling rows = option_and_then (λ seed. option_map (λ size. Sample seed size) (option_and_then (number_in 1 10000) (first_of (codes "size") rows)))
    (option_and_then (number_in 0 1000000000) (first_of (codes "seed") rows))

-- ---- the first word says which command line

abbrev pub asked : List Text → Option Asked
asked [] = None
asked (word ∷ rest) = if bytes_eq word (codes "translate") then option_and_then translation (matched translate_app (word ∷ rest))
    else if bytes_eq word (codes "run") then option_and_then running (matched run_app (word ∷ rest))
    else if bytes_eq word (codes "sample") then option_and_then sampling (matched sample_app (word ∷ rest))
    else None
