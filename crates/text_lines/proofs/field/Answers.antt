-- Each way out is a case of the definition: no end byte, no number before it, a number outside its range, or in it.
use mathlib.Core.Path.{sym, ap, ◌∙◌}
use Rattle.std.specs.Result.{result_ok}
use Rattle.refusals.proofs.Laws.{passed_on}
use Rattle.text_lines.proofs.Reading.{read_err, no_number, field-none, field_malformed, field_in, field_out}
use Rattle.text_lines.proofs.field.Goals as goal

pub returns-then-s-n-clause-s_value : goal.returns-then-s-n-clause-s_value
returns-then-s-n-clause-s_value c = field-none _ _ _ _ c.index_of-n.ensures c.if-s-n.true

pub returns-in_err-value-clause-s_value : goal.returns-in_err-value-clause-s_value
returns-in_err-value-clause-s_value c =
    let none = no_number _ c.ok_or.ensures.value c.in_err-value.was in
    read_err c.args.s.now (passed_on _ _ c.from_residual.ensures.1)
    ∙ rw none.1 (field_malformed _ _ _ _ c.index_of-n.ensures c.if-s-n.false (sym c.read_number.ensures ∙ none.0))

pub returns-then-not-holds-clause-s_value : goal.returns-then-not-holds-clause-s_value
returns-then-not-holds-clause-s_value c =
    let some = sym c.read_number.ensures ∙ c.ok_or.ensures.ok_part ∙ ap result_ok c.in_ok-value.was in
    field_out _ _ _ _ c.index_of-n.ensures c.if-s-n.false _ some (sym c.holds.ensures ∙ c.if-not-holds.true)

pub returns-clause-s_value : goal.returns-clause-s_value
returns-clause-s_value c =
    let some = sym c.read_number.ensures ∙ c.ok_or.ensures.ok_part ∙ ap result_ok c.in_ok-value.was in
    field_in _ _ _ _ c.index_of-n.ensures c.if-s-n.false _ some (sym c.holds.ensures ∙ c.if-not-holds.false)
