-- The ways out are the definition's: all at the source, the carry that the search finds, or the cycle.
use mathlib.Core.Path.{sym, refl, ◌∙◌}
use Rattle.std.specs.Prelude.{Some}
use Rattle.move_carry.specs.Frames.{net_of}
use Rattle.solve_carry.proofs.Finds.{open_found, open_carry_bare, some_open_bare}
use Rattle.solve_next.proofs.Advised.{advice_none, advice_carry, advice_turn, movable_searched, movable_resumes, movable_charted}
use Rattle.solve_next.proofs.next_move.Goals as goal

pub open_carry-requires : goal.open_carry-requires
open_carry-requires c = record { searched = movable_searched _ _ _ _ _ _ _ _ c.requires; resumes = movable_resumes _ _ _ _ _ _ _ _ c.requires }

pub returns-then-all_home_after : goal.returns-then-all_home_after
returns-then-all_home_after c = advice_none _ _ _ _ (sym c.all_home_after.ensures ∙ c.if-all_home_after.true)

pub returns-in-Some : goal.returns-in-Some
returns-in-Some c =
    let a = c.args in
    let net = net_of a.frame a.tails.now a.heads.now a.demands.now in
    advice_carry net a.flows.now a.frame.marks a.places.now (sym c.all_home_after.ensures ∙ c.if-all_home_after.false) c.in-Some.carry
    (open_found net a.flows.now a.frame.marks a.places.now (Some c.in-Some.carry)
    (c.in-Some.ensures.found ∙ open_carry_bare net a.flows.now a.frame.marks a.frame.positive a.places.now)
    (c.in-Some.ensures.some ∙ some_open_bare net a.flows.now a.frame.marks a.frame.positive a.places.now) c.in-Some.carry refl)

pub returns-then-all_home : goal.returns-then-all_home
returns-then-all_home c = advice_none _ _ _ _ (sym c.all_home.ensures ∙ c.if-all_home.true)

pub cycle-walk-requires : goal.cycle-walk-requires
cycle-walk-requires c =
    let m = c.requires in record {
      vertices_le_max_vertices = m.bounds.vertices;
      charted = movable_charted _ _ _ _ _ _ _ _ m;
      source_lt_max_vertices = m.bounds.source;
    }

pub returns : goal.returns
returns c =
    let a = c.args in
    let net = net_of a.frame a.tails.now a.heads.now a.demands.now in
    advice_turn net a.flows.now a.frame.marks a.places.now (sym c.all_home.ensures ∙ c.if-all_home.false) _
    (sym (c.in_default.ensures.some ∙ some_open_bare net a.flows.now a.frame.marks a.frame.positive a.places.now)) c.cycle-walk.ensures
