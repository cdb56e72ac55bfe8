-- An entry is stored after both tests, and at the place of its move; where one of them fails nothing changes.
use mathlib.Core.Path.{◌≡◌, refl, sym, ap, ◌∙◌, subst}
use mathlib.Core.Bool.{true, false}
use Prim.Native.Nat.{ℕ}
use native.Mathlib.Omega.{arith}
use lib.ListN.{set}
use Rattle.board.specs.Whole.{entry_of}
use Rattle.journal.specs.Words.{packed, entries_of}
use Rattle.journal.specs.Inner.{is_blank_at}
use Rattle.solve_finish.specs.Run.{stored, passed}
use Rattle.solve_finish.proofs.store.Goals as goal

pub returns-then-filled-moves : goal.returns-then-filled-moves
returns-then-filled-moves c = passed (λ e. absurd (c.if-filled-moves.true e)) refl refl

pub returns-then-not-is_blank : goal.returns-then-not-is_blank
returns-then-not-is_blank c =
    let old = c.args.journal.now in
    passed (λ e. subst (λ (i : ℕ). is_blank_at old i ≡ false) (sym e) (sym c.is_blank.ensures ∙ c.if-not-is_blank.true)) refl refl

pub returns : goal.returns
returns c =
    let old = c.args.journal.now in
    let entry = entry_of c.args.entry in
    let e = sym c.if-filled-moves.false in
    stored c.if-filled-moves.false (subst (λ (i : ℕ). is_blank_at old i ≡ true) e (sym c.is_blank.ensures ∙ c.if-not-is_blank.false))
    (c.put_entry.ensures.journal_after ∙ ap (λ (i : ℕ). set old i (packed entry)) e) (c.put_entry.ensures.journal_after_2 ∙ ap (λ (i : ℕ). set (entries_of old) i entry) e)
    (omega (arith, e))
