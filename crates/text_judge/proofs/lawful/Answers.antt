-- Counts that do not fit make the definition false, and so the code; else the edges, the terminals and the number 0 of `judged` are the tests that it joins to them.
use mathlib.Core.Path.{sym, ◌∙◌}
use Rattle.lists.specs.Choice.{both}
use Rattle.std.proofs.Common.{rules}
use borrow.Author.Tests.{tests}
use Rattle.text_judge.proofs.Every.{all_below}
use Rattle.text_judge.proofs.Refused.{answered}
use Rattle.text_rules.specs.Rules.{edge_fits, terminal_fits, lawful}
use Rattle.text_judge.proofs.lawful.Goals as goal

pub returns-then-not-counts_fit : goal.returns-then-not-counts_fit
unfolding lawful both
returns-then-not-counts_fit c = rw (sym c.counts_fit.ensures ∙ c.if-not-counts_fit.true)

pub returns : goal.returns
unfolding lawful both
returns c =
    let edges = all_below (edge_fits c.args.net) _ _ _ c.all-edges.ensures.ran (λ x b q k. search (rules, tests)) in
    let terminals = all_below (terminal_fits c.args.net) _ _ _ c.all-terminals.ensures.ran (λ x b q k. search (rules, tests)) in
    rw (sym c.counts_fit.ensures ∙ c.if-not-counts_fit.false, ← edges, ← terminals, ← c.judged.ensures, ← answered c.judged.result, ← c.is_ok.ensures.value, ← c.and.ensures)
    c.and-2.ensures
