-- The fields left, read on from the place reached with the values so far, give what the whole line gives.
-- Another letter, no comma behind it, or a field that is refused refuses the line in the definition too.
use mathlib.Core.Path.{sym, ap, ◌∙◌}
use native.Mathlib.Omega.{arith}
use lib.ListN.{drop, length-set, length-replicate}
use lib.Seq.{take_all}
use Prim.Native.Nat.{ℕ}
use mathlib.Core.List.{List}
use Rattle.refusals.proofs.Laws.{passed_on}
use Rattle.text.specs.Text.{got}
use Rattle.text_lines.proofs.Reading.{line_end, line_step, line_step_stop, rest_used, then_got, read_err, line-letter, line_comma, line-opened, two_bytes}
use Rattle.text_lines.proofs.line.Goals as goal

pub returns-then-at_or-letter-clause-s_value : goal.returns-then-at_or-letter-clause-s_value
returns-then-at_or-letter-clause-s_value g c = sym (line-letter _ _ _ (λ e. c.if-at_or-letter.true (c.at_or.ensures ∙ e)))

pub loop-i-init : goal.loop-i-init
loop-i-init g c =
    let comma = sym c.at_or-2.ensures ∙ c.if-at_or-ne44.false in
    record {
      within = two_bytes c.args.s.now comma;
      size = length-replicate g.row.N 0 ∙ sym c.told-ranges;
      rest = then_got _ ∙ sym (line-opened _ _ _ (sym c.at_or.ensures ∙ c.if-at_or-letter.false) comma);
    }

pub returns-in_err-f-clause-s_value : goal.returns-in_err-f-clause-s_value
returns-in_err-f-clause-s_value g c =
    read_err c.args.s.now (passed_on _ _ c.from_residual.ensures.1)
    ∙ line_step_stop c.args.ranges.now c.args.s.now c.loop-i.values c.loop-i.at c.loop-i.i _ c.loop-i.invariant.rest (omega arith) c.field.result _ (rw c.told-ranges c.end_byte.ensures)
    c.field.ensures.s_value c.in_err-f.was

pub loop-i-preserved : goal.loop-i-preserved
loop-i-preserved g c = record {
  within = rest_used c.args.s.now _ _ c.loop-i.invariant.within c.in_ok-f.ensures.used_in_bounds;
  size = simp length-set c.loop-i.invariant.size;
  rest =
      line_step c.args.ranges.now c.args.s.now c.loop-i.values c.loop-i.at c.loop-i.i _ c.loop-i.invariant.rest (omega arith) c.field.result _ (rw c.told-ranges c.end_byte.ensures)
      c.field.ensures.s_value c.in_ok-f.was (omega arith);
}

pub returns-clause-s_value : goal.returns-clause-s_value
returns-clause-s_value g c =
    let i = c.loop-i in
    let all = take_all i.i i.values (omega arith) in
    ap (λ (v : List ℕ). got v (drop i.at c.args.s.now)) (sym all) ∙ line_end c.args.ranges.now c.args.s.now i.values i.at i.i _ i.invariant.rest (omega arith)
