-- The bytes of what follows a place.
use Rattle.std.specs.Prelude.{ℕ, List, [], ◌∷◌, ◌++◌, codes}
use Rattle.c_tree.specs.declared.expr.CSelector.{CSelector}
use Rattle.c_tree.specs.declared.expr.CSelector.TheVariants.{Member, Index}
use Rattle.c_printer.specs.Text.{expr_text}

abbrev pub selector_text : CSelector → List ℕ
selector_text (Member n) = codes "." ++ n
selector_text (Index a) = codes "[" ++ expr_text a ++ codes "]"

abbrev pub selectors_text : List CSelector → List ℕ
selectors_text [] = []
selectors_text (s ∷ rest) = selector_text s ++ selectors_text rest
