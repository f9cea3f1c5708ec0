-- Words, and what they ask for.
use Rattle.std.proofs.Common.{◌≡◌, [], ◌∷◌, Some, None, refl, codes}
use Rattle.clap.proofs.OnLiterals.{clap_on_literals}
use Rattle.p2c_text.specs.declared.dialect.Dialect.TheVariants.{Iso, Turbo}
use Rattle.command_words.specs.Asked.{Translate, Run, Sample, asked}

one_file : asked (codes "translate" ∷ codes "a.pas" ∷ []) ≡ Some (Translate Iso (codes "a.pas" ∷ []))
unfolding clap_on_literals
one_file = refl

a_dialect_and_two_files : asked (codes "translate" ∷ codes "-L" ∷ codes "turbo" ∷ codes "u.pas" ∷ codes "p.pas" ∷ []) ≡ Some (Translate Turbo (codes "u.pas" ∷ codes "p.pas" ∷ []))
unfolding clap_on_literals
a_dialect_and_two_files = refl

no_such_dialect : asked (codes "translate" ∷ codes "-L" ∷ codes "delphi" ∷ codes "p.pas" ∷ []) ≡ None
unfolding clap_on_literals
no_such_dialect = refl

an_option_twice : asked (codes "translate" ∷ codes "-L" ∷ codes "hp" ∷ codes "-L" ∷ codes "hp" ∷ codes "p.pas" ∷ []) ≡ None
unfolding clap_on_literals
an_option_twice = refl

no_file : asked (codes "translate" ∷ []) ≡ None
unfolding clap_on_literals
no_file = refl

after_two_minus_signs_all_are_files : asked (codes "translate" ∷ codes "--" ∷ codes "-L" ∷ []) ≡ Some (Translate Iso (codes "-L" ∷ []))
unfolding clap_on_literals
after_two_minus_signs_all_are_files = refl

help : asked (codes "translate" ∷ codes "--help" ∷ []) ≡ None
unfolding clap_on_literals
help = refl

many_steps_where_none_are_asked : asked (codes "run" ∷ codes "a.c" ∷ []) ≡ Some (Run 1000000000000 (codes "a.c"))
unfolding clap_on_literals
many_steps_where_none_are_asked = refl

so_many_steps : asked (codes "run" ∷ codes "--steps" ∷ codes "12" ∷ codes "a.c" ∷ []) ≡ Some (Run 12 (codes "a.c"))
unfolding clap_on_literals
so_many_steps = refl

no_steps : asked (codes "run" ∷ codes "--steps=0" ∷ codes "a.c" ∷ []) ≡ None
unfolding clap_on_literals
no_steps = refl

one_file_is_run : asked (codes "run" ∷ codes "a.c" ∷ codes "b.c" ∷ []) ≡ None
unfolding clap_on_literals
one_file_is_run = refl

a_sample : asked (codes "sample" ∷ codes "--seed" ∷ codes "1" ∷ codes "--size" ∷ codes "10000" ∷ []) ≡ Some (Sample 1 10000)
unfolding clap_on_literals
a_sample = refl

a_sample_that_is_too_large : asked (codes "sample" ∷ codes "--seed" ∷ codes "1" ∷ codes "--size" ∷ codes "10001" ∷ []) ≡ None
unfolding clap_on_literals
a_sample_that_is_too_large = refl

another_word : asked (codes "compile" ∷ codes "a.pas" ∷ []) ≡ None
unfolding clap_on_literals
another_word = refl
