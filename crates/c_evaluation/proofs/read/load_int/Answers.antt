use Rattle.std.proofs.Common.{◌≡◌, ◌≤◌, ◌<◌, ℕ, List, [], ◌∷◌, length, refl, sym, subst, arith}
use Rattle.c_meaning.specs.Answer.{Bad}
use Rattle.c_meaning.specs.Cells.{Cell, Leaf}
use Rattle.c_meaning.specs.Evaluate.{View, Site}
use Rattle.c_meaning.specs.declared.StuckKind.TheVariants as k
use Rattle.c_cells.specs.Halts.{Tells}
use Rattle.c_cells.specs.Slots.{int_cell}
use Rattle.c_evaluation.specs.Values.{value_of}
use Rattle.c_evaluation.specs.Scopes.{view_at, site_of, tree_value}
use Rattle.c_evaluation.proofs.Reading.{whole_int, no_part_of_int}
use Rattle.c_evaluation.proofs.read.load_int.Goals as goal

empty : (path : List ℕ) → length path < 1 → path ≡ []
empty [] h = cc
empty (i ∷ rest) h = absurd (omega arith)

pub returns-in-empty : goal.returns-in-empty
returns-in-empty c =
    let v : View = view_at c.args.scope.now in
    let at = site_of c.args.site.now in
    let whole : at.path ≡ [] = empty at.path (subst (λ (p : List ℕ). length p < 1) c.as_slice.ensures c.in-empty.len_below) in
    subst (Tells value_of c.read_int_as.result) (sym (whole_int v at (int_cell c.args.number) whole)) c.read_int_as.ensures

no_part : (v : View) (at : Site) (cell : Cell) (path : List ℕ) → at.path ≡ path → 1 ≤ length path → Bad k.Mismatch ≡ tree_value v at (Leaf cell)
no_part v at cell [] h l = absurd (omega arith)
no_part v at cell (i ∷ rest) h l = sym (no_part_of_int v at cell i rest h)

pub returns-in-len1-up : goal.returns-in-len1-up
returns-in-len1-up c =
    let at = site_of c.args.site.now in
    no_part (view_at c.args.scope.now) at (int_cell c.args.number) at.path refl (subst (λ (p : List ℕ). 1 ≤ length p) c.as_slice.ensures c.in-len1-up.len_at_least)
