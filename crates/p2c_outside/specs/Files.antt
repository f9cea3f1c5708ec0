-- Files in memory: what a name stands for.
use Rattle.std.specs.Prelude.{if◌then◌else◌, None, Some, List, [], ◌∷◌}
use Rattle.std.specs.Str.{bytes_eq}
use Rattle.p2c_text.specs.Text.{NamedBytes}
use Rattle.p2c_outside.specs.Told.{Named}

-- the bytes of the first file that has the name
abbrev pub file_of : List NamedBytes → Named
file_of [] name = None
file_of (file ∷ files) name =
    if bytes_eq file.name name then Some file.bytes else file_of files name
