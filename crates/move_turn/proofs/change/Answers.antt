-- A turn whose steps pass the tests is made by the sets, which are those of the lists.
use mathlib.Core.Path.{◌≡◌, sym, ap, ◌∙◌}
use mathlib.Core.Bool.{true}
use mathlib.Core.List.{[]}
use Rattle.std.specs.Prelude.{Result}
use Rattle.refusals.specs.declared.Refusal.{Refusal}
use Rattle.refusals.specs.Refusals.{answer_of}
use Rattle.refusals.proofs.Laws.{passed_on}
use Rattle.move_carry.specs.Frames.{net_of}
use Rattle.move_cycle.specs.Steps.{code_steps}
use Rattle.move_turn.specs.declared.Augmented.{Augmented}
use Rattle.move_turn.specs.Turns.{turn_refusal_in}
use Rattle.move_turn.specs.Lent.{made_of}
use Prim.Native.Nat.{◌<◌, ◌^◌}
use Rattle.sets.specs.Inner.{set_width}
use Rattle.move_turn.proofs.Lent.{turn_sets, turn_not_made, turn_is_made}
use borrow.Author.Rules.{rules}
use Rattle.move_turn.proofs.change.Lts as lts
use Rattle.move_turn.proofs.change.Tie as tie
use Rattle.move_turn.proofs.change.Reads as reads
use Rattle.move_turn.proofs.change.Goals as goal

none : (c : lts.Past-After-known_told tie.the-claims reads.Pre reads.Post tie.handed_clauses) → turn_refusal_in true c.args.any_open (net_of c.args.frame c.args.tails.now c.args.heads.now []) c.args.flows.now (code_steps c.args.steps.now) ≡ 0
none c = sym c.judge_in.ensures ∙ ap answer_of c.in_ok-judge_in.was

pub returns-in_err-judge_in : goal.returns-in_err-judge_in
returns-in_err-judge_in c =
    ap (λ (x : Result Augmented Refusal). made_of c.args.frame.marks x c.args.flows.now c.args.places.now) (passed_on _ _ c.from_residual.ensures.1)
    ∙ turn_not_made _ _ _ _ _ _ c.requires _ _ _ _ (sym c.judge_in.ensures ∙ ap answer_of c.in_err-judge_in.was)

pub augment-requires : goal.augment-requires
augment-requires c =
    let can = c.requires in record {
      at_most = can.small;
      at_most_2 = can.asked;
      in_sets = turn_sets _ _ _ _ _ _ can _ _ (none c.before.before.before.before.before);
    }

pub returns : goal.returns
returns c =
    -- what owning the frame tells of its set
    let fits : c.args.frame.positive < 2 ^ set_width = search (rules, c.well_formed.1.0.1.1.1.1.1.1.1.0) in
    turn_is_made _ _ _ _ _ _ c.requires _ _ _ _ fits (none c.before.before.before.before.before.before) c.augment.ensures
