-- The C program that writes bytes calls nothing, and has no loop and no jump back.
use Rattle.std.proofs.Common.{◌≡◌, ℕ, zero, suc, List, [], ◌∷◌, ◌++◌, map, Some, refl, subst, sym, ◌∙◌, arith}
use Rattle.std.specs.List.{Contains}
use Rattle.c_tree.specs.Tree.{Return, Number}
use Rattle.agreement.specs.Writers.{put_of, writer_of}
use Rattle.program_shape.specs.OfTyped.{outline_of}
use Rattle.program_shape.specs.Functions.{whiles, statement_whiles, jumps, statement_jumps, Jump, sites, statement_sites, texts, main_text, function_names, runtime_functions}
use Rattle.program_shape.specs.Laws.{WritersHaveShape}

nothing_in : {X : Type 0} (x : X) → Contains {X = X} [] x → ⊥
nothing_in x (k, below, is) = absurd (omega (arith, below))

only_in : {X : Type 0} (y x : X) → Contains (y ∷ []) x → y ≡ x
only_in y x (zero, below, is) = is
only_in y x (suc k, below, is) = absurd (omega (arith, below))

no_whiles : (bytes : List ℕ) → whiles (map put_of bytes ++ Return (Some (Number 0)) ∷ []) ≡ 0
unfolding whiles statement_whiles
no_whiles [] = refl
no_whiles (b ∷ bytes) = let e = no_whiles bytes in omega (arith, e)

no_jumps : (bytes : List ℕ) → jumps (map put_of bytes ++ Return (Some (Number 0)) ∷ []) ≡ []
unfolding jumps statement_jumps
no_jumps [] = refl
no_jumps (b ∷ bytes) = no_jumps bytes

no_sites : (bytes : List ℕ) → sites (map put_of bytes ++ Return (Some (Number 0)) ∷ []) ≡ []
unfolding sites statement_sites
no_sites [] = refl
no_sites (b ∷ bytes) = no_sites bytes

some_jump : (before after : List Jump) (j : Jump) → before ++ (j ∷ after) ≡ [] → ⊥
some_jump [] after j e = absurd cc
some_jump (b ∷ before) after j e = absurd cc

pub writers_have_shape : WritersHaveShape
unfolding outline_of function_names runtime_functions texts main_text
writers_have_shape variable_name d ws bytes = record {
  one_function_each = record {
    one = λ r is. absurd (nothing_in r is);
    no_other = λ name k is e. absurd (nothing_in name is);
  };
  primitives_only = record {
    given = [];
    each = refl;
    all = λ g is. absurd (nothing_in g is);
    unlike = λ i j g less within. absurd (omega (arith, less, within));
  };
  captured_only = refl;
  checked_only = λ t s target is called c.
      let e : main_text (writer_of bytes) ≡ t = only_in _ t is in
      absurd (nothing_in s (subst (λ l. Contains l s) (no_sites bytes) (subst (λ u. Contains (sites u.statements) s) (sym e) called)));
  no_more_loops = record {
    routines = λ r f is. absurd (nothing_in r is);
    main = record {
      loops = let e = no_whiles bytes in omega (arith, e);
      back = λ g. absurd (some_jump g.before _ _ (sym g.is ∙ no_jumps bytes));
    };
  };
}
