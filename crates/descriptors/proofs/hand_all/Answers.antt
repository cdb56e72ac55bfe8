-- The session behind the first `from` bytes goes on as one that is served all of them from the start; a piece takes a byte at least, so that the bytes
-- run out.
use mathlib.Core.Path.{◌≡◌, sym, ap, ◌∙◌}
use mathlib.Core.Bool.{true, not, true≢false}
use Prim.Native.Nat.{ℕ}
use native.Mathlib.Omega.{arith}
use lib.Dec.{eqb}
use lib.ListN.{length}
use lib.Seq.{length-sets}
use Rattle.play_session.specs.Machine.{over_stage}
use Rattle.descriptors.proofs.Taking.{served_handed, served_here, served_end}
use Rattle.descriptors.proofs.hand_all.Goals as goal

-- a stage that is not over has another number
goes_on : (n : ℕ) → not (eqb n over_stage) ≡ true → n ≡ over_stage → ⊥
goes_on n e is = true≢false (sym e ∙ ap (λ m. not (eqb m over_stage)) is)

pub overflow_add-from : goal.overflow_add-from
overflow_add-from g c =
    let at_loop = c.loop-from in
    let handed = c.hand_on-handed in
    let step = served_handed _ _ _ _ at_loop.invariant.2 c.loop-from-test.true _ _ handed.ensures.journal_after handed.ensures.taken_value in
    omega (arith, step.1)

pub returns-then-not-handed : goal.returns-then-not-handed
returns-then-not-handed g c =
    let at_loop = c.loop-from in
    let handed = c.hand_on-handed in
    let step = served_handed _ _ _ _ at_loop.invariant.2 c.loop-from-test.true _ _ handed.ensures.journal_after handed.ensures.taken_value in
    record {
      count = _;
      within = step.1;
      session = served_here _ _ _ _ step.2;
      whole = λ e. absurd (true≢false (sym e));
      unrefused = λ e. absurd (true≢false (sym e));
    }

pub loop-from-smaller : goal.loop-from-smaller
loop-from-smaller g c =
    let at_loop = c.loop-from in
    let handed = c.hand_on-handed in
    let step = served_handed _ _ _ _ at_loop.invariant.2 c.loop-from-test.true _ _ handed.ensures.journal_after handed.ensures.taken_value in
    omega (arith, step.0, c.loop-from-test.true)

pub loop-from-preserved : goal.loop-from-preserved
loop-from-preserved g c =
    let at_loop = c.loop-from in
    let handed = c.hand_on-handed in
    let step = served_handed _ _ _ _ at_loop.invariant.2 c.loop-from-test.true _ _ handed.ensures.journal_after handed.ensures.taken_value in
    (step.1, ap length handed.ensures.out_after ∙ simp length-sets at_loop.invariant.1, step.2)

pub returns : goal.returns
returns g c =
    let at_loop = c.loop-from in
    record {
      count = at_loop.from;
      within = at_loop.invariant.0;
      session = served_here _ _ _ _ at_loop.invariant.2;
      whole = λ e. served_end _ _ _ _ at_loop.invariant.2 c.loop-from-test.false;
      unrefused = λ e. goes_on _ (ap not (sym c.is_over.ensures) ∙ e);
    }
