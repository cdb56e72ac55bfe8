-- Each case of the code is the case of the walk that the laws state; the count of vertices left falls at each call.
use mathlib.Core.Path.{◌≡◌, refl, sym, ◌∙◌}
use mathlib.Core.Bool.{Bool}
use Prim.Native.Nat.{ℕ, ◌<◌}
use native.Mathlib.Omega.{arith}
use borrow.Author.Rules.{rules}
use lib.Dec.{eqb}
use Rattle.lists.specs.Choice.{either}
use Rattle.sets.specs.Sets.{has_bit}
use Rattle.board.specs.Limits.{max_vertices}
use Rattle.graph_flows.specs.Trails.{down, up}
use Rattle.solve_walk.specs.Walk.{another, parts}
use Rattle.solve_walk.specs.Inner.{StopsWith}
use Rattle.solve_walk.proofs.Charts.{falls_in, climbs_in, parting_in, seen_more}
use Rattle.solve_walk.proofs.Walks.{room_now, room_step, room_on, left_some}
use Rattle.solve_walk.proofs.Walks.{down_stops, up_stops, down_falls, down_climbs, up_falls, up_climbs}
use Rattle.solve_walk.proofs.+down_walk_up_walk.Goals.{down_walk-Else-or, down_walk-After-another-e, down_walk-After-another-c}
use Rattle.solve_walk.proofs.+down_walk_up_walk.Goals.{up_walk-Else-or, up_walk-After-parts, up_walk-After-another-e, up_walk-After-another-c}
use Rattle.solve_walk.proofs.+down_walk_up_walk.Goals as goal

-- where the walk stops
stop_is : (left seen v : ℕ) (met stop : Bool) → met ≡ has_bit seen v → stop ≡ either (eqb left 0) met → stop ≡ either (eqb left 0) (has_bit seen v)
stop_is left seen v met stop m s = rw m at s

-- ---- the walk came down

-- where it goes on, a vertex is left
down_some : (t : ℕ) (c : down_walk-Else-or t) → c.args.left ≡ 0 → ⊥
down_some t c = left_some _ _ _ c.or.ensures c.if-or.false

-- the edge that it goes on by
down_fell : (t : ℕ) (c : down_walk-After-another-e t) → c.another-e.result ≡ another c.args.net.now.tails.now c.args.net.now.flows.now c.args.way.now.vertex c.args.way.now.edge
down_fell t c = c.another-e.ensures ∙ falls_in _ _ _ _ _ _ _ c.requires.charted (search rules) c.requires.vertex_lt_max_vertices _

down_climbed : (t : ℕ) (c : down_walk-After-another-c t) → c.another-c.result ≡ another c.args.net.now.heads.now c.args.net.now.flows.now c.args.way.now.vertex c.args.way.now.edge
down_climbed t c = c.another-c.ensures ∙ climbs_in _ _ _ _ _ _ _ c.requires.charted (search rules) c.requires.vertex_lt_max_vertices _

pub down_walk-returns-then-or : goal.down_walk-returns-then-or
down_walk-returns-then-or t c =
    down_stops _ _ _ _ _ _ _ _ _ (λ w. StopsWith c.args.net.now.tails.now c.args.net.now.heads.now w c.args.way.now) (c.requires.seen _ c.requires.vertex_lt_max_vertices) (stop_is _ _ _ _ _ c.has.ensures c.or.ensures) c.if-or.true
    (record { cycle = refl; short = room_now _ _ c.requires.left_bound })

pub down_walk-step_on-requires-clause-count_lt_max_vertices : goal.down_walk-step_on-requires-clause-count_lt_max_vertices
down_walk-step_on-requires-clause-count_lt_max_vertices t c =
    omega (arith, down_some t (goal.at.down_walk-step_on-requires-clause-count_lt_max_vertices t c).Else-or)

pub down_walk-overflow_sub-left : goal.down_walk-overflow_sub-left
down_walk-overflow_sub-left t c = omega (arith, down_some t (goal.at.down_walk-overflow_sub-left t c).Else-or)

pub down_walk-down_walk-requires : goal.down_walk-down_walk-requires
down_walk-down_walk-requires t c =
    let some = down_some t (goal.at.down_walk-down_walk-requires t c).Else-or in
    let longer = c.step_on.ensures in
    let room = room_on _ _ c.requires.left_bound _ some longer.count in
    let met = seen_more _ _ _ _ _ _ (down c.another-e.result) longer.steps longer.seen c.requires.seen in
    let small : c.step_on.new.way.vertex < max_vertices = rw longer.vertex (c.requires.charted.headed _) in
    (omega (arith, some, c.decreases), (room, (c.requires.charted, (met, small))))

pub down_walk-returns-then-e-net : goal.down_walk-returns-then-e-net
down_walk-returns-then-e-net t c =
    down_falls _ _ _ _ _ _ _ _ _ (λ w. StopsWith c.args.net.now.tails.now c.args.net.now.heads.now w c.down_walk.new.way) (c.requires.seen _ c.requires.vertex_lt_max_vertices) (stop_is _ _ _ _ _ c.has.ensures c.or.ensures) c.if-or.false _ _ _
    (down_fell t (goal.at.down_walk-returns-then-e-net t c).After-another-e) c.if-e-net.true
    c.step_on.ensures.steps c.step_on.ensures.vertex (rw c.step_on.ensures.edge at c.down_walk.ensures)

pub down_walk-step_on-requires-2-clause-count_lt_max_vertices : goal.down_walk-step_on-requires-2-clause-count_lt_max_vertices
down_walk-step_on-requires-2-clause-count_lt_max_vertices t c =
    omega (arith, down_some t (goal.at.down_walk-step_on-requires-2-clause-count_lt_max_vertices t c).Else-or)

pub down_walk-step_on-requires-2-clause-e_lt_code_up : goal.down_walk-step_on-requires-2-clause-e_lt_code_up
down_walk-step_on-requires-2-clause-e_lt_code_up t c =
    let at = goal.at.down_walk-step_on-requires-2-clause-e_lt_code_up t c in
    (room_step _ _ c.requires.left_bound _ _ _ _ _ (down_some t at.Else-or) c.requires.charted.all (down_climbed t at.After-another-c)).1

pub down_walk-overflow_sub-left-2 : goal.down_walk-overflow_sub-left-2
down_walk-overflow_sub-left-2 t c = omega (arith, down_some t (goal.at.down_walk-overflow_sub-left-2 t c).Else-or)

pub down_walk-up_walk-requires : goal.down_walk-up_walk-requires
down_walk-up_walk-requires t c =
    let some = down_some t (goal.at.down_walk-up_walk-requires t c).Else-or in
    let longer = c.step_on-2.ensures in
    let room = room_on _ _ c.requires.left_bound _ some longer.count in
    let met = seen_more _ _ _ _ _ _ (up c.another-c.result) longer.steps longer.seen c.requires.seen in
    let small : c.step_on-2.new.way.vertex < max_vertices = rw longer.vertex (c.requires.charted.tailed _) in
    (omega (arith, some, c.decreases), (room, (c.requires.charted, (met, small))))

pub down_walk-returns : goal.down_walk-returns
down_walk-returns t c =
    let at = goal.at.down_walk-returns t c in
    down_climbs _ _ _ _ _ _ _ _ _ (λ w. StopsWith c.args.net.now.tails.now c.args.net.now.heads.now w c.up_walk.new.way) (c.requires.seen _ c.requires.vertex_lt_max_vertices) (stop_is _ _ _ _ _ c.has.ensures c.or.ensures) c.if-or.false _ _ _ _
    (down_fell t at.After-another-e) c.if-e-net.false (down_climbed t at.After-another-c)
    c.step_on-2.ensures.steps c.step_on-2.ensures.vertex (rw c.step_on-2.ensures.edge at c.up_walk.ensures)

-- ---- the walk came up

-- where it goes on, a vertex is left
up_some : (t : ℕ) (c : up_walk-Else-or t) → c.args.left ≡ 0 → ⊥
up_some t c = left_some _ _ _ c.or.ensures c.if-or.false

-- whether it parts there
up_parted : (t : ℕ) (c : up_walk-After-parts t) → c.parts.result ≡ parts c.args.net.now.tails.now c.args.net.now.flows.now c.args.way.now.vertex
up_parted t c = c.parts.ensures ∙ parting_in _ _ _ _ _ _ _ c.requires.charted (search rules) c.requires.vertex_lt_max_vertices

-- the edge that it goes on by
up_fell : (t : ℕ) (c : up_walk-After-another-e t) → c.another-e.result ≡ another c.args.net.now.tails.now c.args.net.now.flows.now c.args.way.now.vertex c.args.way.now.edge
up_fell t c = c.another-e.ensures ∙ falls_in _ _ _ _ _ _ _ c.requires.charted (search rules) c.requires.vertex_lt_max_vertices _

up_climbed : (t : ℕ) (c : up_walk-After-another-c t) → c.another-c.result ≡ another c.args.net.now.heads.now c.args.net.now.flows.now c.args.way.now.vertex c.args.way.now.edge
up_climbed t c = c.another-c.ensures ∙ climbs_in _ _ _ _ _ _ _ c.requires.charted (search rules) c.requires.vertex_lt_max_vertices _

pub up_walk-returns-then-or : goal.up_walk-returns-then-or
up_walk-returns-then-or t c =
    up_stops _ _ _ _ _ _ _ _ _ (λ w. StopsWith c.args.net.now.tails.now c.args.net.now.heads.now w c.args.way.now) (c.requires.seen _ c.requires.vertex_lt_max_vertices) (stop_is _ _ _ _ _ c.has.ensures c.or.ensures) c.if-or.true
    (record { cycle = refl; short = room_now _ _ c.requires.left_bound })

pub up_walk-step_on-requires-clause-count_lt_max_vertices : goal.up_walk-step_on-requires-clause-count_lt_max_vertices
up_walk-step_on-requires-clause-count_lt_max_vertices t c =
    omega (arith, up_some t (goal.at.up_walk-step_on-requires-clause-count_lt_max_vertices t c).Else-or)

pub up_walk-step_on-requires-clause-e_lt_code_up : goal.up_walk-step_on-requires-clause-e_lt_code_up
up_walk-step_on-requires-clause-e_lt_code_up t c =
    let at = goal.at.up_walk-step_on-requires-clause-e_lt_code_up t c in
    (room_step _ _ c.requires.left_bound _ _ _ _ _ (up_some t at.Else-or) c.requires.charted.all (up_fell t at.After-another-e)).1

pub up_walk-overflow_sub-left : goal.up_walk-overflow_sub-left
up_walk-overflow_sub-left t c = omega (arith, up_some t (goal.at.up_walk-overflow_sub-left t c).Else-or)

pub up_walk-down_walk-requires : goal.up_walk-down_walk-requires
up_walk-down_walk-requires t c =
    let some = up_some t (goal.at.up_walk-down_walk-requires t c).Else-or in
    let longer = c.step_on.ensures in
    let room = room_on _ _ c.requires.left_bound _ some longer.count in
    let met = seen_more _ _ _ _ _ _ (down c.another-e.result) longer.steps longer.seen c.requires.seen in
    let small : c.step_on.new.way.vertex < max_vertices = rw longer.vertex (c.requires.charted.headed _) in
    (omega (arith, some, c.decreases), (room, (c.requires.charted, (met, small))))

pub up_walk-returns-then-parts : goal.up_walk-returns-then-parts
up_walk-returns-then-parts t c =
    let at = goal.at.up_walk-returns-then-parts t c in
    up_falls _ _ _ _ _ _ _ _ _ (λ w. StopsWith c.args.net.now.tails.now c.args.net.now.heads.now w c.down_walk.new.way) (c.requires.seen _ c.requires.vertex_lt_max_vertices) (stop_is _ _ _ _ _ c.has.ensures c.or.ensures) c.if-or.false _ _ _
    (sym (up_parted t at.After-parts) ∙ c.if-parts.true) (up_fell t at.After-another-e)
    c.step_on.ensures.steps c.step_on.ensures.vertex (rw c.step_on.ensures.edge at c.down_walk.ensures)

pub up_walk-step_on-requires-2-clause-count_lt_max_vertices : goal.up_walk-step_on-requires-2-clause-count_lt_max_vertices
up_walk-step_on-requires-2-clause-count_lt_max_vertices t c =
    omega (arith, up_some t (goal.at.up_walk-step_on-requires-2-clause-count_lt_max_vertices t c).Else-or)

pub up_walk-step_on-requires-2-clause-e_lt_code_up : goal.up_walk-step_on-requires-2-clause-e_lt_code_up
up_walk-step_on-requires-2-clause-e_lt_code_up t c =
    let at = goal.at.up_walk-step_on-requires-2-clause-e_lt_code_up t c in
    (room_step _ _ c.requires.left_bound _ _ _ _ _ (up_some t at.Else-or) c.requires.charted.all (up_climbed t at.After-another-c)).1

pub up_walk-overflow_sub-left-2 : goal.up_walk-overflow_sub-left-2
up_walk-overflow_sub-left-2 t c = omega (arith, up_some t (goal.at.up_walk-overflow_sub-left-2 t c).Else-or)

pub up_walk-up_walk-requires : goal.up_walk-up_walk-requires
up_walk-up_walk-requires t c =
    let some = up_some t (goal.at.up_walk-up_walk-requires t c).Else-or in
    let longer = c.step_on-2.ensures in
    let room = room_on _ _ c.requires.left_bound _ some longer.count in
    let met = seen_more _ _ _ _ _ _ (up c.another-c.result) longer.steps longer.seen c.requires.seen in
    let small : c.step_on-2.new.way.vertex < max_vertices = rw longer.vertex (c.requires.charted.tailed _) in
    (omega (arith, some, c.decreases), (room, (c.requires.charted, (met, small))))

pub up_walk-returns : goal.up_walk-returns
up_walk-returns t c =
    let at = goal.at.up_walk-returns t c in
    up_climbs _ _ _ _ _ _ _ _ _ (λ w. StopsWith c.args.net.now.tails.now c.args.net.now.heads.now w c.up_walk.new.way) (c.requires.seen _ c.requires.vertex_lt_max_vertices) (stop_is _ _ _ _ _ c.has.ensures c.or.ensures) c.if-or.false _ _ _
    (sym (up_parted t at.After-parts) ∙ c.if-parts.false) (up_climbed t at.After-another-c)
    c.step_on-2.ensures.steps c.step_on-2.ensures.vertex (rw c.step_on-2.ensures.edge at c.up_walk.ensures)
