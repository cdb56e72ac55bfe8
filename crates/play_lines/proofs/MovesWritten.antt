-- A move written into a buffer part by part. What is left of its steps, written into the buffer as it is now, gives all of them; and the line of a carry is a
-- line of two numbers.
use mathlib.Core.Path.{◌≡◌, sym, ap}
use mathlib.Core.List.{List, [], ◌∷◌, ◌++◌, append_assoc}
use Prim.Native.Nat.{ℕ, suc, ◌+◌, ◌<◌, ◌≤◌}
use native.Mathlib.Numerals.{add-one}
use lib.ListN.{length, get_or, drop, drop_of_length-le}
use lib.Seq.{sets, drop-cons}
use Rattle.decimal.specs.Decimal.{decimal}
use Rattle.text.specs.Text.{numbers_text, line_text}
use Rattle.text_writer.proofs.Writing.{TextLeft, left_part, left_none}
use Rattle.move_cycle.specs.Steps.{code_step, code_steps}
use Rattle.solve_next.specs.Choosing.{relocate}
use Rattle.play_lines.specs.MoveLines.{step_text, steps_text, move_line}

-- one step of them
steps_cut : (steps : List ℕ) (i : ℕ) → i < length steps
    → steps_text (code_steps (drop i steps)) ≡ step_text (code_step (get_or steps i 0)) ++ steps_text (code_steps (drop (suc i) steps))
unfolding steps_text code_steps
steps_cut steps i h = rw (drop-cons steps i 0 h)

-- one round of the loop, at step i, and its end
module _ (steps : List ℕ) (i : ℕ) {buf total : List ℕ} {to end : ℕ} (l : TextLeft buf total to end (steps_text (code_steps (drop i steps)))) where
  pub steps_turned : i < length steps → (b : List ℕ) (p : ℕ) → b ≡ sets buf to (step_text (code_step (get_or steps i 0)))
      → p ≡ to + length (step_text (code_step (get_or steps i 0))) → TextLeft b total p end (steps_text (code_steps (drop (i + 1) steps)))
  steps_turned h b p e q =
      rw (add-one i) (left_part (step_text (code_step (get_or steps i 0))) (steps_text (code_steps (drop (suc i) steps))) b p (rw (steps_cut steps i h) at l) e q)

  pub steps_done : length steps ≤ i → (to ≡ end) × (buf ≡ total)
  unfolding steps_text code_steps
  steps_done h = left_none (rw (drop_of_length-le steps h) at l)

-- a carry's line is a line of two numbers
pub carry_line : (i e : ℕ) → line_text 75 (i ∷ e ∷ []) ≡ move_line (relocate i e)
unfolding line_text numbers_text move_line
carry_line i e = ap (λ (l : List ℕ). 75 ∷ 44 ∷ l) (sym (append_assoc (decimal i) (44 ∷ decimal e) (10 ∷ [])))
