-- A printed program is a text with its tree.
use Rattle.std.proofs.Common.{◌≡◌, ℕ, List, append_assoc, ◌++◌, length, sym, append-nil}
use Rattle.c_tree.specs.declared.program.CProgram.{CProgram}
use Rattle.c_grammar.specs.Token.{head_lines}
use Rattle.c_grammar.specs.Text.{IsCTree, CText}
use Rattle.c_grammar.specs.Grammar.{IsProgram}
use Rattle.c_grammar.specs.Spelling.{program_tokens}
use Rattle.c_printer.specs.Text.{all_text, forward_line, declaration_text, variable_line, prototype_line, function_text, main_text, program_text}
use Rattle.c_printer.proofs.ReadsDeclaration.{all_reads, forward_reads, declaration_reads, variable_line_reads, prototype_reads, function_reads, main_reads}
use Rattle.c_printer.proofs.ReadsToken.{Reads, reads_nothing}

-- the bytes after the head lines
abbrev rest_text : CProgram → List ℕ
rest_text c = all_text forward_line c.forwards ++ all_text declaration_text c.declarations ++ all_text (variable_line 0) c.globals
    ++ all_text prototype_line c.prototypes ++ all_text function_text c.functions ++ main_text c.main

rest_reads : (c : CProgram) → IsProgram c → Reads (rest_text c) (program_tokens c)
rest_reads c h = rw (append_assoc, append_assoc, append_assoc, append_assoc)
    (all_reads forward_reads c.forwards h.0 (all_reads declaration_reads c.declarations h.1 (all_reads (variable_line_reads 0) c.globals h.2
    (all_reads prototype_reads c.prototypes h.3 (all_reads function_reads c.functions h.4 (rw append-nil at (main_reads c.main h.5 reads_nothing)))))))

pub text_read_back : (bytes : List ℕ) (c : CProgram) → bytes ≡ program_text c → IsCTree c → CText bytes c
text_read_back bytes c e t =
    let k = (rest_reads c t.of_grammar).from (length head_lines) in
    record { tokens = k.places; cut = (rest_text c, e, k.cut); spelled = sym k.same; tree = t }
