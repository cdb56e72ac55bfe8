-- A line as the machine keeps it is answered as the order that it stands for. Only a turn needs a reason: where not all of its steps were kept, its greatest
-- edge says what it is refused with (move_turn/proofs/Unkept.antt).
use mathlib.Core.Path.{◌≡◌, refl, ap, sym, ◌∙◌}
use mathlib.Core.Bool.{Bool, true, false}
use mathlib.Core.Logic.{◌⊎◌, inl, inr}
use mathlib.Core.List.{List, [], append-nil}
use Prim.Native.Nat.{ℕ, ◌≤◌, ◌<◌}
use native.Mathlib.Omega.{arith}
use lib.Dec.{leb, ltb, eqb}
use lib.ListN.{length, take}
use borrow.Author.Tests.{leb-true, leb-false, ltb-true, ltb-false}
use Rattle.lists.specs.Choice.{pick, both}
use Rattle.lists.proofs.Laws.{Known, was_true, was_false, known, lt_or_ge, pick_yes, both_true}
use Rattle.board.specs.Limits.{max_edges}
use Rattle.board.specs.Whole.{Board}
use Rattle.board.specs.Whole.{Played}
use Rattle.move_guard.specs.Guard.{playing}
use Rattle.move_guard.proofs.Facts.{playing_edges}
use Rattle.graph_flows.specs.Trails.{Step}
use Rattle.move_cycle.specs.Steps.{code_steps}
use Rattle.move_turn.specs.Turns.{turn_call, turn_unkept}
use Rattle.move_turn.proofs.Unkept.{closed_alike, unkept_number}
use Rattle.solve_next.specs.Hints.{hint_call}
use Rattle.move_list.specs.Calls.{carry, turn, undo, hint, finish}
use Rattle.play_lines.specs.declared.Kind.{Kind}
use Rattle.play_lines.specs.declared.Kind.TheVariants.{Hint, Undo, Finish, CarryWhole, Turn}
use Rattle.play_lines.specs.declared.Form.{Form}
use Rattle.play_lines.specs.Orders.{Order, call, other}
use Rattle.play_lines.specs.Scans.{is_hint, is_finish}
use Rattle.play_lines.specs.Inner.{KeepsSteps, NoLine, StandsFor}
use Rattle.sheet_output.specs.Outputs.{number_line}
use Rattle.play_session.specs.Replies.{replied, behind_zero, reply_text}
use Rattle.play_session.specs.Machine.{turn_replied, replied_by, form_replied, suggestion_text, played_text, form_text}

module _ (b : Board) where
  module _ (w : List Step) (f : Form) (k : KeepsSteps w f) where
    abbrev Answer : Played → Type 0
    Answer p = p ≡ turn_call b w

    few_steps : f.count ≤ max_edges → length w ≤ max_edges
    few_steps h = split (lt_or_ge max_edges (length w))
      where
        split : (max_edges < length w) ⊎ (length w ≤ max_edges) → length w ≤ max_edges
        split (inl m) = absurd (omega (arith, h, k.many m))
        split (inr m) = m

    -- the steps were kept
    turn_kept : f.count ≤ max_edges → f.greatest < b.network.edges → Answer (turn_call b (code_steps (take f.count f.steps)))
    turn_kept h g = split (known (playing b))
      where
        split : Known (playing b) → Answer (turn_call b (code_steps (take f.count f.steps)))
        split (was_true p) = rw (k.steps (few_steps h) (omega (arith, g, k.greatest, playing_edges b p)))
        split (was_false p) = closed_alike b (code_steps (take f.count f.steps)) w p

    -- not all of them were
    turn_unkept_lem : (f.count ≤ max_edges → b.network.edges ≤ f.greatest) → Answer (record { answer = turn_unkept b f.greatest; board = b })
    turn_unkept_lem n = unkept_number b w f.greatest k.greatest (λ l. n (omega (arith, k.few l, l)))

    turn_replied_lem : Answer (turn_replied b f)
    unfolding turn_replied both pick
    turn_replied_lem = split (known (leb f.count max_edges)) (known (ltb f.greatest b.network.edges))
      where
        split : Known (leb f.count max_edges) → Known (ltb f.greatest b.network.edges) → Answer (turn_replied b f)
        split (was_true s) (was_true t) =
            pick_yes _ _ _ (both_true _ _ s t) ∙ turn_kept (leb-true _ _ s) (ltb-true _ _ t)
        split (was_true s) (was_false t) = rw (s, t, both, pick) (turn_unkept_lem (λ h. ltb-false _ _ t))
        split (was_false s) t = rw (s, both, pick) (turn_unkept_lem (λ h. absurd (omega (arith, h, leb-false f.count max_edges s))))

-- a line of another form
other_replied : (b : Board) (f : Form) (k : Kind) → NoLine k → replied_by k b f ≡ record { answer = 1; board = b }
other_replied b f Hint n = absurd n
other_replied b f Undo n = absurd n
other_replied b f Finish n = absurd n
other_replied b f CarryWhole n = absurd n
other_replied b f Turn n = absurd n
other_replied b f _ n = refl

no_hint : (k : Kind) → NoLine k → is_hint k ≡ false
no_hint Hint n = absurd n
no_hint _ n = refl

no_finish : (k : Kind) → NoLine k → is_finish k ≡ false
no_finish Finish n = absurd n
no_finish _ n = refl

pub form_replied_lem : (b : Board) (o : Order) (f : Form) → StandsFor o f → form_replied b f ≡ replied b o
unfolding form_replied replied
form_replied_lem b (call (carry i e)) f s = rw (s.0, s.1, s.2)
form_replied_lem b (call (turn w)) f s = ap (λ (k : Kind). replied_by k b f) s.kind ∙ turn_replied_lem b w f s
form_replied_lem b (call undo) f s = rw s
form_replied_lem b (call hint) f s = rw s
form_replied_lem b (call finish) f s = rw s
form_replied_lem b other f s = other_replied b f f.kind s

-- what is printed: the number alone, but for a finish and a hint
no_more : (t : Bool) → pick {A = List ℕ} t [] [] ≡ []
unfolding pick
no_more true = refl
no_more false = refl

pub reply_alone : (b : Board) (o : Order) → behind_zero b o ≡ [] → reply_text b o ≡ number_line (replied b o).answer
unfolding reply_text
reply_alone b o e = rw (e, no_more (eqb (replied b o).answer 0)) (append-nil _)

module _ (b : Board) (f : Form) where
  form_alone : is_hint f.kind ≡ false → is_finish f.kind ≡ false → form_text b f ≡ number_line (form_replied b f).answer
  unfolding form_text played_text both pick
  form_alone h n = rw (h, n) (append-nil _)

  -- so the line of such an order is printed as the order is
  alone_text : (o : Order) → StandsFor o f → is_hint f.kind ≡ false → is_finish f.kind ≡ false → behind_zero b o ≡ []
      → form_text b f ≡ reply_text b o
  alone_text o s h n e = form_alone h n ∙ ap (λ (p : Played). number_line p.answer) (form_replied_lem b o f s) ∙ sym (reply_alone b o e)

  finish_text : StandsFor (call finish) f → form_text b f ≡ reply_text b (call finish)
  unfolding form_text played_text reply_text replied both pick
  finish_text s = rw (form_replied_lem b (call finish) f s, s)

  hint_text : StandsFor (call hint) f → form_text b f ≡ reply_text b (call hint)
  unfolding form_text suggestion_text reply_text replied hint_call pick
  hint_text s = rw s

pub form_text_lem : (b : Board) (o : Order) (f : Form) → StandsFor o f → form_text b f ≡ reply_text b o
form_text_lem b (call (carry i e)) f s = alone_text b f (call (carry i e)) s (rw s.0) (rw s.0) refl
form_text_lem b (call (turn w)) f s = alone_text b f (call (turn w)) s (rw s.kind) (rw s.kind) refl
form_text_lem b (call undo) f s = alone_text b f (call undo) s (rw s) (rw s) refl
form_text_lem b (call hint) f s = hint_text b f s
form_text_lem b (call finish) f s = finish_text b f s
form_text_lem b other f s = alone_text b f other s (no_hint f.kind s) (no_finish f.kind s) refl
