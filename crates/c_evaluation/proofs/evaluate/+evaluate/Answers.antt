use Rattle.std.proofs.Common.{◌≡◌, ◌∙◌, sym, ap, subst, arith, Ok, Some, None}
use Rattle.std.specs.Option.{option_map, option_copied}
use Rattle.c_tree.specs.Tree as t
use Rattle.c_tree.specs.Tree.{place_size}
use Rattle.c_tree.specs.expressions.View.{base_place}
use Rattle.c_tree.specs.expressions.Sizes.{selectors_size, selected_size}
use Rattle.c_meaning.specs.Answer.{Got}
use Rattle.c_meaning.specs.Values as w
use Rattle.c_meaning.specs.Values.{int, word}
use Rattle.c_meaning.specs.Evaluate as m
use Rattle.c_meaning.specs.Evaluate.{View, value, place}
use Rattle.c_cells.specs.Halts.{Tells}
use Rattle.c_evaluation.specs.Values.{value_of}
use Rattle.c_evaluation.specs.Scopes.{view_at, site_of}
use Rattle.c_evaluation.specs.Evaluations.{onto_element, onto_selector, onto_selectors, decision, name_in}
use Rattle.c_evaluation.proofs.Evaluations.{exit, onward_with, after_first, joined_is, read_name, read_part}
use Rattle.c_evaluation.proofs.Selected.{selected_place, none_selected, next_selected, first_of}
use Rattle.c_evaluation.proofs.Signatures.{after}
use Rattle.c_evaluation.proofs.evaluate.+evaluate.Goals as goal

pub address_of-returns-in_err-site : goal.address_of-returns-in_err-site
unfolding value place
address_of-returns-in_err-site t c =
    let view : View = view_at c.args.scope.now in
    exit site_of value_of c.in_err-site.field-0.0 c.from_residual.result (m.place view c.args.place.now) (m.address view) c.from_residual.ensures.1 c.in_err-site.ensures

pub address_of-returns : goal.address_of-returns
unfolding value place
address_of-returns t c =
    let view : View = view_at c.args.scope.now in
    onward_with value_of c.address.result (m.place view c.args.place.now) (site_of c.in_ok-site.site) (m.address view) c.in_ok-site.ensures c.address.ensures

pub unary_of-returns-in_err-x : goal.unary_of-returns-in_err-x
unfolding value place
unary_of-returns-in_err-x t c =
    let view : View = view_at c.args.scope.now in
    exit value_of value_of c.in_err-x.field-0.0 c.from_residual.result (m.value view c.args.a.now) (w.unary c.args.op) c.from_residual.ensures.1 c.in_err-x.ensures

pub unary_of-returns : goal.unary_of-returns
unfolding value place
unary_of-returns t c =
    let view : View = view_at c.args.scope.now in
    onward_with value_of c.operate.result (m.value view c.args.a.now) (value_of c.in_ok-x.x) (w.unary c.args.op) c.in_ok-x.ensures c.operate.ensures

pub cast_of-returns-in_err-x : goal.cast_of-returns-in_err-x
unfolding value place
cast_of-returns-in_err-x t c =
    let view : View = view_at c.args.scope.now in
    exit value_of value_of c.in_err-x.field-0.0 c.from_residual.result (m.value view c.args.a.now) (m.cast view c.args.to.now) c.from_residual.ensures.1 c.in_err-x.ensures

pub cast_of-returns : goal.cast_of-returns
unfolding value place
cast_of-returns t c =
    let view : View = view_at c.args.scope.now in
    onward_with value_of c.cast.result (m.value view c.args.a.now) (value_of c.in_ok-x.x) (m.cast view c.args.to.now) c.in_ok-x.ensures c.cast.ensures

pub pointee_of-returns-in_err-x : goal.pointee_of-returns-in_err-x
unfolding value place
pointee_of-returns-in_err-x t c =
    let view : View = view_at c.args.scope.now in
    exit value_of site_of c.in_err-x.field-0.0 c.from_residual.result (m.value view c.args.a.now) (m.follow view) c.from_residual.ensures.1 c.in_err-x.ensures

pub pointee_of-returns : goal.pointee_of-returns
unfolding value place
pointee_of-returns t c =
    let view : View = view_at c.args.scope.now in
    onward_with site_of c.follow.result (m.value view c.args.a.now) (value_of c.in_ok-x.x) (m.follow view) c.in_ok-x.ensures c.follow.ensures

pub place_of-selected_site-requires : goal.place_of-selected_site-requires
place_of-selected_site-requires t c =
    (omega (arith, ap place_size c.place.view_is, ap selectors_size c.as_slice.ensures, selected_size (base_place c.place.inside.base) c.place.inside.selectors), c.requires)

pub place_of-returns-in_err-site : goal.place_of-returns-in_err-site
place_of-returns-in_err-site t c =
    let view : View = view_at c.args.scope.now in
    let base = base_place c.place.inside.base in
    let all = c.place.inside.selectors in
    let r = c.from_residual.result in
    subst (Tells site_of r) (sym (selected_place view base all) ∙ ap (m.place view) c.place.view_is)
    (exit site_of site_of c.in_err-site.field-0.0 r (m.place view base) (onto_selectors view all) c.from_residual.ensures.1 c.in_err-site.ensures)

pub place_of-returns : goal.place_of-returns
place_of-returns t c =
    let view : View = view_at c.args.scope.now in
    let base = base_place c.place.inside.base in
    let all = c.place.inside.selectors in
    let r = c.selected_site.result in
    let site = site_of c.in_ok-site.site in
    subst (Tells site_of r) (sym (selected_place view base all) ∙ ap (m.place view) c.place.view_is)
    (onward_with site_of r (m.place view base) site (onto_selectors view all) c.in_ok-site.ensures (subst (λ l. Tells site_of r (onto_selectors view l site)) c.as_slice.ensures c.selected_site.ensures))

pub selected_site-step_to-requires : goal.selected_site-step_to-requires
selected_site-step_to-requires t c =
    let split = first_of c.loop-rest.rest.now c.first-item.result (omega arith) c.first-item.is in
    (omega (arith, ap selectors_size split, c.loop-rest.invariant.smaller), c.requires)

pub selected_site-returns-in_err-site : goal.selected_site-returns-in_err-site
selected_site-returns-in_err-site t c =
    let v : View = view_at c.args.scope.now in
    let rest = c.loop-rest.rest.now in
    let first = c.first-item.result in
    let at = site_of c.loop-rest.site in
    let r = c.from_residual.result in
    let split = first_of rest first (omega arith) c.first-item.is in
    subst (Tells site_of r) (ap (λ l. onto_selectors v l at) (sym split) ∙ c.loop-rest.invariant.same)
    (exit site_of site_of c.in_err-site.field-0.0 r (onto_selector v first at) (onto_selectors v (after rest)) c.from_residual.ensures.1 c.in_err-site.ensures)

pub selected_site-loop-rest-preserved : goal.selected_site-loop-rest-preserved
selected_site-loop-rest-preserved t c =
    let v : View = view_at c.args.scope.now in
    let rest = c.loop-rest.rest.now in
    let first = c.first-item.result in
    let at = site_of c.loop-rest.site in
    let split = first_of rest first (omega arith) c.first-item.is in
    record {
      same = next_selected v first (after rest) at (site_of c.in_ok-site.site) c.in_ok-site.ensures ∙ ap (λ l. onto_selectors v l at) (sym split) ∙ c.loop-rest.invariant.same;
      smaller = omega (arith, ap selectors_size split, c.loop-rest.invariant.smaller);
    }

pub selected_site-returns : goal.selected_site-returns
selected_site-returns t c =
    let v : View = view_at c.args.scope.now in
    sym (none_selected v c.loop-rest.rest.now (site_of c.loop-rest.site) (omega arith)) ∙ c.loop-rest.invariant.same

pub read-returns-in-Some : goal.read-returns-in-Some
read-returns-in-Some t c =
    let view : View = view_at c.args.scope.now in
    let named : name_in c.args.place.now ≡ Some c.in-Some.name.now = sym c.single_name.ensures ∙ ap option_copied c.in-Some.is in
    subst (Tells value_of c.name_value.result) (sym (read_name view c.args.place.now c.in-Some.name.now named)) c.name_value.ensures

pub read-returns-in_err-site-in-None : goal.read-returns-in_err-site-in-None
read-returns-in_err-site-in-None t c =
    let view : View = view_at c.args.scope.now in
    let r = c.from_residual.result in
    let part : name_in c.args.place.now ≡ None = sym c.single_name.ensures ∙ ap option_copied c.in-None.is in
    subst (Tells value_of r) (sym (read_part view c.args.place.now part)) (exit site_of value_of c.in_err-site-in-None.field-0.0 r (m.place view c.args.place.now) (m.load view) c.from_residual.ensures.1 c.in_err-site-in-None.ensures)

pub read-returns-in_ok-site-in-None : goal.read-returns-in_ok-site-in-None
read-returns-in_ok-site-in-None t c =
    let view : View = view_at c.args.scope.now in
    let r = c.load.result in
    let part : name_in c.args.place.now ≡ None = sym c.single_name.ensures ∙ ap option_copied c.in-None.is in
    subst (Tells value_of r) (sym (read_part view c.args.place.now part)) (onward_with value_of r (m.place view c.args.place.now) (site_of c.in_ok-site-in-None.site) (m.load view) c.in_ok-site-in-None.ensures c.load.ensures)

pub value_of-returns-in-Number : goal.value_of-returns-in-Number
unfolding value place
value_of-returns-in-Number size c =
    let is : t.Number c.in-Number.n ≡ c.args.e.now = cc in
    subst (λ e. Tells value_of c.number.result (m.value (view_at c.args.scope.now) e)) is c.number.ensures

pub value_of-returns-in-WordNumber : goal.value_of-returns-in-WordNumber
unfolding value place word
value_of-returns-in-WordNumber size c =
    let is : t.WordNumber c.in-WordNumber.n ≡ c.args.e.now = cc in
    ap (m.value (view_at c.args.scope.now)) is

pub value_of-returns-in-Null : goal.value_of-returns-in-Null
unfolding value place
value_of-returns-in-Null size c =
    let is : t.Null ≡ c.args.e.now = cc in
    ap Got c.null.ensures ∙ ap (m.value (view_at c.args.scope.now)) is

pub index_of-returns-in_err-x : goal.index_of-returns-in_err-x
index_of-returns-in_err-x t c =
    let view : View = view_at c.args.scope.now in
    exit value_of site_of c.in_err-x.field-0.0 c.from_residual.result (m.value view c.args.a.now) (onto_element (site_of c.args.site)) c.from_residual.ensures.1 c.in_err-x.ensures

pub index_of-returns : goal.index_of-returns
index_of-returns t c =
    let view : View = view_at c.args.scope.now in
    onward_with site_of c.step_to_element.result (m.value view c.args.a.now) (value_of c.in_ok-x.x) (onto_element (site_of c.args.site)) c.in_ok-x.ensures c.step_to_element.ensures

pub binary_of-returns-in_err-x : goal.binary_of-returns-in_err-x
unfolding value place
binary_of-returns-in_err-x t c =
    let view : View = view_at c.args.scope.now in
    exit value_of value_of c.in_err-x.field-0.0 c.from_residual.result (m.value view c.args.a.now) (λ x. w.joined view.declared c.args.op x (m.value view c.args.b.now)) c.from_residual.ensures.1 c.in_err-x.ensures

pub binary_of-returns-in_err-value : goal.binary_of-returns-in_err-value
unfolding value place
binary_of-returns-in_err-value t c =
    let view : View = view_at c.args.scope.now in
    let x = value_of c.in_ok-x.x in
    let y = m.value view c.args.b.now in
    let r = c.from_residual-in_err-value.result in
    onward_with value_of r (m.value view c.args.a.now) x (λ x. w.joined view.declared c.args.op x y) c.in_ok-x.ensures
    (subst (Tells value_of r) (sym (joined_is view.declared c.args.op x y))
    (exit (option_map value_of) value_of c.in_err-value.field-0.0 r (decision c.args.op x) (after_first view.declared c.args.op x y) c.from_residual-in_err-value.ensures.1 c.in_err-value.ensures))

pub binary_of-returns-in-Some : goal.binary_of-returns-in-Some
unfolding value place
binary_of-returns-in-Some t c =
    let view : View = view_at c.args.scope.now in
    let x = value_of c.in_ok-x.x in
    let y = m.value view c.args.b.now in
    let decided : Got (Some (value_of c.in-Some.value)) ≡ decision c.args.op x = sym (ap (λ o. Got (option_map value_of o)) c.in-Some.is) ∙ c.in_ok-value.ensures in
    onward_with value_of (Ok c.in-Some.value) (m.value view c.args.a.now) x (λ x. w.joined view.declared c.args.op x y) c.in_ok-x.ensures
    (subst (Tells value_of (Ok c.in-Some.value)) (sym (joined_is view.declared c.args.op x y))
    (onward_with value_of (Ok c.in-Some.value) (decision c.args.op x) (Some (value_of c.in-Some.value)) (after_first view.declared c.args.op x y) decided (λ i. Got (value_of c.in-Some.value))))

pub binary_of-returns-in_err-y : goal.binary_of-returns-in_err-y
unfolding value place
binary_of-returns-in_err-y t c =
    let view : View = view_at c.args.scope.now in
    let x = value_of c.in_ok-x.x in
    let y = m.value view c.args.b.now in
    let r = c.from_residual-in_err-y.result in
    let undecided : Got None ≡ decision c.args.op x = sym (ap (λ o. Got (option_map value_of o)) c.in_default.is) ∙ c.in_ok-value.ensures in
    onward_with value_of r (m.value view c.args.a.now) x (λ x. w.joined view.declared c.args.op x y) c.in_ok-x.ensures
    (subst (Tells value_of r) (sym (joined_is view.declared c.args.op x y))
    (onward_with value_of r (decision c.args.op x) None (after_first view.declared c.args.op x y) undecided
    (exit value_of value_of c.in_err-y.field-0.0 r y (w.binary view.declared c.args.op x) c.from_residual-in_err-y.ensures.1 c.in_err-y.ensures)))

pub binary_of-returns : goal.binary_of-returns
unfolding value place
binary_of-returns t c =
    let view : View = view_at c.args.scope.now in
    let x = value_of c.in_ok-x.x in
    let y = m.value view c.args.b.now in
    let r = c.combine.result in
    let undecided : Got None ≡ decision c.args.op x = sym (ap (λ o. Got (option_map value_of o)) c.in_default.is) ∙ c.in_ok-value.ensures in
    onward_with value_of r (m.value view c.args.a.now) x (λ x. w.joined view.declared c.args.op x y) c.in_ok-x.ensures
    (subst (Tells value_of r) (sym (joined_is view.declared c.args.op x y))
    (onward_with value_of r (decision c.args.op x) None (after_first view.declared c.args.op x y) undecided
    (onward_with value_of r y (value_of c.in_ok-y.y) (w.binary view.declared c.args.op x) c.in_ok-y.ensures c.combine.ensures)))
