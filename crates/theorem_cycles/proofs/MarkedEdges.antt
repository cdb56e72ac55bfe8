-- What a mark means. A turn marks the positive singular edges and no other, and no mark goes. On a board that keeps the invariant a positive marked edge is
-- singular: at its head one positive edge leaves at most, which is marked, too; so whatever vertex is reached from its head over positive edges is the head of a
-- positive marked edge, and one positive edge leaves it at most.
use mathlib.Core.Path.{◌≡◌, refl, sym, ◌∙◌}
use mathlib.Core.Bool.{true}
use mathlib.Core.Logic.{◌⊎◌, inl, inr, ◌↔◌}
use mathlib.Core.List.{List}
use Prim.Native.Nat.{ℕ, ◌<◌}
use Rattle.board.specs.Whole.{Board}
use Rattle.graph_flows.specs.Paths.{Path, here, on}
use Rattle.graph_flows.specs.Trails.{Step}
use Rattle.move_guard.specs.Parts.{flow, head, marked}
use Rattle.move_edges.specs.Marking.{singular}
use Rattle.move_turn.specs.Turns.{turned, turned_in}
use Rattle.theorem_cycles.specs.Invariant.{Invariant, Marked}
use Rattle.theorem_cycles.proofs.TurnedMarks.{Fresh, now_cases, now_old, now_single, unparted_single}

-- the marks after a turn: those of before, and the edges that were positive and singular
pub turn_marks : (b : Board) (w : List Step) (e : ℕ) → (marked (turned b w) e ≡ true) ↔ ((marked b e ≡ true) ⊎ ((0 < flow b e) × (singular b e ≡ true)))
unfolding turned_in
turn_marks b w e = (λ h. from (now_cases b e h), to)
  where
    from : (marked b e ≡ true) ⊎ Fresh b e → (marked b e ≡ true) ⊎ ((0 < flow b e) × (singular b e ≡ true))
    from (inl m) = inl m
    from (inr f) = inr (f.above, f.single)

    to : (marked b e ≡ true) ⊎ ((0 < flow b e) × (singular b e ≡ true)) → marked (turned b w) e ≡ true
    to (inl m) = now_old b e m
    to (inr f) = now_single b e f.0 f.1

module _ (b : Board) (inv : Invariant b) where
  -- a positive marked edge into v
  record MarkedInto (v : ℕ) : Type 0 where
    edge : ℕ
    mark : Marked b edge
    into : head b edge ≡ v

  marked_along : {v u : ℕ} → MarkedInto v → Path b.network.tails b.network.heads b.flows v u → MarkedInto u
  marked_along first here = first
  marked_along first (on p d) =
      let i = marked_along first p in
      record {
        edge = d.edge;
        mark = record { mark = inv.down_closed i.edge d.edge i.mark (d.start ∙ sym i.into) d.above; above = d.above };
        into = d.end;
      }

  pub marked-singular : (e : ℕ) → Marked b e → singular b e ≡ true
  marked-singular e m =
      unparted_single b inv e (λ u p g g' q h q' h'.
      let i = marked_along (record { edge = e; mark = m; into = refl }) p in inv.one_out i.edge g g' i.mark (q ∙ sym i.into) h (q' ∙ sym i.into) h')
