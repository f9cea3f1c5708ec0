use Rattle.std.proofs.Common.{map, sym, ap, subst, ◌∙◌}
use Rattle.writer_trees.specs.Files.{parameters_in, parameters_of}
use Rattle.writer_trees.specs.Unbuilt.{Parameter, IsFirstOf}
use Rattle.writer_trees.proofs.nodes.unbuilt_parameter.Goals as goal

pub returns-in-Some-parameters : goal.returns-in-Some-parameters
returns-in-Some-parameters c = λ d.
    subst (λ names. IsFirstOf d (map Parameter names) c.unbuilt_name.result)
    (c.as_slice.ensures ∙ sym (ap parameters_in c.in-Some-parameters.is) ∙ sym (ap parameters_of c.in-Some.is))
    (c.unbuilt_name.ensures d)
