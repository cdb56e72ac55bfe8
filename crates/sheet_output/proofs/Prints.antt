-- A number on a line of its own is its digits and a line feed, stored one behind the other. What is printed is one text of three, by the tests that the code makes.
-- How many lines a text wants follows from its first line: where that is refused nothing follows it, and else its counts are those of the network that it opens.
use mathlib.Core.Path.{◌≡◌, refl, sym, ap, ◌∙◌}
use mathlib.Core.Bool.{true, false}
use mathlib.Core.List.{List, [], ◌∷◌}
use Prim.Native.Nat.{ℕ, ◌+◌}
use native.Mathlib.Omega.{arith}
use lib.Dec.{eqb}
use lib.ListN.{length, set, length-append}
use lib.Seq.{sets}
use borrow.Author.Tests.{eq-eqb, ne_eqb}
use Rattle.std.specs.Prelude.{Result, Ok, Err}
use Rattle.lists.proofs.Laws.{pick_yes, pick_no}
use Rattle.lists.specs.Choice.{pick}
use Rattle.decimal.specs.Decimal.{decimal}
use Rattle.board.specs.Whole.{Board}
use Rattle.board.specs.declared.Network.{Network}
use Rattle.text.specs.Text.{Read, refused, got, then, header, headed, numbers_text}
use Rattle.refusals.specs.declared.Refusal.{Refusal}
use Rattle.refusals.specs.Refusals.{number}
use Rattle.refusals.proofs.Laws.{refused as refused_number}
use Rattle.text.specs.Views.{as_read, header_part}
use Rattle.text.specs.declared.Taken.{Taken}
use Rattle.text.specs.Results.{Written, as_written}
use Rattle.text_lines.proofs.Reading.{read_ok, read_err}
use Rattle.text_writer.proofs.Writing.{sets_append}
use Rattle.sheet_output.specs.Inputs.{lines_of, lines_wanted}
use Rattle.load.specs.Load.{Loaded}
use Rattle.load.specs.Load.{load_text}
use Rattle.solve_finish.specs.Finishes.{Finished}
use Rattle.solve_finish.specs.Finishes.{finish_call}
use Rattle.report.specs.Reports.{unreported, put_call, put_in}
use Rattle.sheet_output.specs.Outputs.{number_line, report_of, finish_output, sheet_output}

-- ---- a number on its line

pub number_put : (buf b1 b2 : List ℕ) (at end n : ℕ) → end ≡ at + length (decimal n) → b1 ≡ sets buf at (decimal n) → b2 ≡ set b1 end 10
    → (end + 1 ≡ at + length (number_line n)) × (b2 ≡ sets buf at (number_line n))
unfolding numbers_text
number_put buf b1 b2 at end n p e f =
    (omega (arith, length-append (decimal n) (10 ∷ [])), f ∙ rw (e, p) (sym (sets_append (decimal n) buf (10 ∷ []) at)))

-- ---- a report, or its number

-- what the writing of the report answers, and leaves in the buffer
module _ (b : Board) (buf out : List ℕ) (at : ℕ) (w : Result ℕ Refusal) (e : as_written w ≡ put_call b false (length buf)) (o : out ≡ put_in b false buf at) where
  number_so : (as_written w).answer ≡ unreported b
  unfolding pick
  number_so = ap (λ (x : Written). x.answer) e

  pub report_refused : {r : Refusal} → w ≡ Err r → (number_line (number r) ≡ report_of b) × (out ≡ buf)
  unfolding report_of pick
  report_refused {r} q =
      let same : number r ≡ unreported b = ap (λ v. (as_written v).answer) (sym q) ∙ number_so in
      let none : eqb (unreported b) 0 ≡ false = ne_eqb _ _ (λ z. refused_number r (same ∙ z)) in
      (rw (same, none), o ∙ rw none)

  pub report_given : {n : ℕ} → w ≡ Ok n → (n ≡ length (report_of b)) × (out ≡ sets buf at (report_of b))
  unfolding report_of pick
  report_given {n} q =
      let all_of : eqb (unreported b) 0 ≡ true = eq-eqb _ _ (sym number_so ∙ ap (λ v. (as_written v).answer) q) in
      (ap (λ v. (as_written v).used) (sym q) ∙ ap (λ (x : Written). x.used) e ∙ rw all_of, o ∙ rw all_of)

-- ---- what is printed of an input that was loaded, and finished

module _ (input : List ℕ) (l : Loaded) (e : l ≡ load_text input) where
  loaded_so : sheet_output input ≡ pick (eqb l.answer 0) (finish_output (finish_call l.board)) (number_line l.answer)
  unfolding sheet_output
  loaded_so = rw e

  pub sheet_refused : (l.answer ≡ 0 → ⊥) → number_line l.answer ≡ sheet_output input
  sheet_refused z = sym (loaded_so ∙ pick_no _ _ _ (ne_eqb _ 0 z))

  module _ (z : l.answer ≡ 0) (f : Finished) (fe : f ≡ finish_call l.board) where
    finished_so : sheet_output input ≡ pick (eqb f.answer 0) (report_of f.board) (number_line f.answer)
    unfolding finish_output
    finished_so = loaded_so ∙ pick_yes _ _ _ (eq-eqb _ 0 z) ∙ rw fe

    pub sheet_unfinished : (f.answer ≡ 0 → ⊥) → number_line f.answer ≡ sheet_output input
    sheet_unfinished y = sym (finished_so ∙ pick_no _ _ _ (ne_eqb _ 0 y))

    pub sheet_reported : f.answer ≡ 0 → report_of f.board ≡ sheet_output input
    sheet_reported y = sym (finished_so ∙ pick_yes _ _ _ (eq-eqb _ 0 y))

-- ---- the lines of a board

-- the first line as the reader gives it
same_refusal : (n : ℕ) (o : Read (List ℕ)) → then o (λ ns s. got (headed ns) s) ≡ refused n → lines_of o ≡ 1
unfolding then lines_of
same_refusal n (refused m) e = refl
same_refusal n (got ns s) e = let z : ◌≡◌ {A = ℕ} 0 1 = cc in absurd (omega arith)

same_counts : (net : Network) (rest : List ℕ) (o : Read (List ℕ)) → then o (λ ns s. got (headed ns) s) ≡ got net rest
    → lines_of o ≡ 1 + net.edges + net.terminals
unfolding then lines_of
same_counts net rest (refused m) e = let z : ◌≡◌ {A = ℕ} 0 1 = cc in absurd (omega arith)
same_counts net rest (got ns s) e = let same : headed ns ≡ net = cc in rw (← same)

module _ (s : List ℕ) (h : Result (Taken Network) Refusal) (hr : as_read h s ≡ header_part s) where
  pub wanted_refused : {r : Refusal} → h ≡ Err r → 1 ≡ lines_wanted s
  unfolding lines_wanted header_part
  wanted_refused {r} q = sym (same_refusal (number r) (header s) (sym hr ∙ read_err s q))

  pub wanted_counted : {t : Taken Network} → h ≡ Ok t → 1 + t.value.edges + t.value.terminals ≡ lines_wanted s
  unfolding lines_wanted header_part
  wanted_counted {t} q = sym (same_counts t.value _ (header s) (sym hr ∙ read_ok s q))
