use Rattle.std.proofs.Common.{◌≡◌, drop}
use Rattle.p2c_outside.specs.Files.{file_of}
use Rattle.p2c_outside.proofs.memory_files.find_file.Given as goal

abbrev pub invariant-loop-text : goal.invariant-loop-text
invariant-loop-text l = file_of (drop l.text-index l.files) l.name ≡ file_of l.files l.name
