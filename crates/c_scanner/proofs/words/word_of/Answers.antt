use Rattle.std.proofs.Common.{◌≡◌, ℕ, ◌<◌, List, [], ◌∷◌, length, None, refl, arith}
use Rattle.c_scanner.specs.Words.{words_with, word_of}
use Rattle.c_scanner.proofs.words.word_of.Goals as goal

no_word : (name : List ℕ) → length name < 1 → None ≡ word_of name
unfolding words_with word_of
no_word [] h = refl
no_word (b ∷ more) h = absurd (omega arith)

pub returns-in-empty : goal.returns-in-empty
returns-in-empty c = no_word c.args.name.now c.in-empty.len_below
