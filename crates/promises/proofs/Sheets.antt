-- The shelf, the sheets and what the programs print: each is proved where its definition stands, and gathered here.
use mathlib.Core.Path.{◌≡◌, refl, ap, ◌∙◌}
use mathlib.Core.Logic.{◌≢◌}
use mathlib.Core.List.{List}
use Prim.Native.Nat.{ℕ, ◌≤◌, ◌<◌}
use native.Mathlib.Omega.{arith}
use lib.Dec.{leb}
use lib.ListN.{length, get_or}
use borrow.Author.Tests.{ne_eqb, le-leb, lt-leb, leb-true}
use Rattle.text.specs.Sizes.{longest_report}
use Rattle.lists.proofs.Laws.{pick_yes, pick_no}
use Rattle.board.specs.Whole.{Board}
use Rattle.board.specs.declared.Network.{Network}
use Rattle.text.specs.Results.{read_text}
use Rattle.graph_flows.proofs.Cancel.{nothing_cancelled}
use Rattle.load.specs.Load.{acyclic_of, load_text}
use Rattle.load.proofs.Loads.{loaded-lawful}
use Rattle.report.specs.Reports.{load_row, report_text, unreported}
use Rattle.sheet_output.specs.Outputs.{number_line, sheet_output}
use Rattle.sheet_output.proofs.Prefix.{sheet_prefix}
use Rattle.descriptors.proofs.PrintedPieces.{pieces_printed}
use Rattle.catalog.specs.Table.{table}
use Rattle.catalog.specs.Catalog.{boards, catalog_text, catalog_call}
use Rattle.catalog.proofs.Rule.{all_accepted_lem}
use Rattle.catalog.proofs.Assured.{loads}
use Rattle.theorem_cycles.proofs.Network.{acyclic_of_below}
use Rattle.theorem_list.proofs.Reports.{finished_reported, every_report, sheet_printed}
use Rattle.theorem_list.proofs.Longest.{report_short}
use Rattle.promises.specs.Plays.{OfFinish}
use Rattle.promises.specs.Sheets.{FirstFlow, AboutSheets}
use Rattle.promises.proofs.Plays.{play_open, before_standing, finish_acyclic}
use Rattle.promises.proofs.Lines.{play_printed, play_refused}

large : 1500 ≤ length table
unfolding table
large = leb-true 1500 (length table) refl

above : (k n : ℕ) → 39 < k → catalog_call k n ≡ record { answer = 2; used = 0 }
unfolding catalog_call
above k n h = pick_yes (leb boards k) _ _ (le-leb boards k (omega arith))

short : (k n : ℕ) → k ≤ 39 → n < length (catalog_text k) → catalog_call k n ≡ record { answer = 8; used = 0 }
unfolding catalog_call
short k n low h =
    pick_no (leb boards k) _ _ (lt-leb boards k (omega (arith, low))) ∙ pick_no (leb (length (catalog_text k)) n) _ _ (lt-leb (length (catalog_text k)) n h)

-- a board that finish gave, by the board before it
after : (text : List ℕ) (f : Board) → OfFinish text f → unreported f ≡ 0
after text f p = rw p.given (finished_reported p.before (before_standing text f p))

-- the third field of a line is the acyclic flow of the text, whatever was played
first : (text : List ℕ) (f : Board) → OfFinish text f → (e : ℕ) → FirstFlow (read_text text).network e (get_or (load_row f e) 1 0)
first text f p e =
    let q = p.play in
    let net : Network = (read_text text).network in
    let same : get_or f.acyclic e 0 ≡ get_or (acyclic_of net) e 0 = ap (λ (l : List ℕ). get_or l e 0) (finish_acyclic text f p) in
    record {
      acyclic = same;
      below = omega (arith, same, acyclic_of_below net (loaded-lawful text q.accepted).sound e);
      whole = λ none. same ∙ ap (λ (l : List ℕ). get_or l e 0) (nothing_cancelled net.tails net.heads net.vertices net.flows none);
    }

room : (text : List ℕ) (f : Board) → OfFinish text f → length (report_text f) ≤ longest_report
room text f p = let q = p.play in rw (p.given, q.after) (report_short text q.calls q.accepted (play_open text p.before q))

refused : (text : List ℕ) → (load_text text).answer ≢ 0 → sheet_output text ≡ number_line (load_text text).answer
unfolding sheet_output
refused text h = pick_no _ _ _ (ne_eqb _ 0 h)

pub about_sheets : AboutSheets
about_sheets = record {
  table_size = large;
  forty_boards = all_accepted_lem;
  catalog_accepted = loads;
  catalog_above = above;
  catalog_short = short;
  sheet_before = λ text b p. rw p.after ((every_report text p.calls p.accepted).goes_on (play_open text b p)).before;
  sheet_after = after;
  sheet_first = first;
  sheet_printed = λ text h. (sheet_printed text h).printed;
  sheet_refused = refused;
  sheet_reads = sheet_prefix;
  play_printed = play_printed;
  play_refused = play_refused;
  play_pieces = pieces_printed;
  sheet_room = room;
}
