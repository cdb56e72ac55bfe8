-- Every board of the catalog can be played: its text is accepted, so demand 3 holds of it, and `sheet` prints the report of its finish.
use mathlib.Core.Path.{◌≡◌, ◌∙◌}
use mathlib.Core.List.{List}
use Prim.Native.Nat.{ℕ, ◌<◌}
use lib.ListN.{length, take}
use Rattle.load.specs.Load.{load_text}
use Rattle.load.proofs.Loads.{load_answer}
use Rattle.move_list.specs.Calls.{Call, game_of, played}
use Rattle.theorem_list.specs.Faithful.{Faithful}
use Rattle.theorem_list.proofs.EveryList.{every_list}
use Rattle.theorem_list.specs.Reported.{Printed}
use Rattle.theorem_list.proofs.Reports.{sheet_printed}
use Rattle.catalog.specs.Catalog.{boards, catalog_text, catalog_call, catalogued}
use Rattle.catalog.proofs.Rule.{board_accepted, written_accepted}

pub loads : (k : ℕ) → k < boards → (load_text (catalog_text k)).answer ≡ 0
loads k h = load_answer (catalog_text k) ∙ board_accepted k h

-- what a call that answers 0 has written is loaded
pub written_loads : (k : ℕ) (buf : List ℕ) → (catalog_call k (length buf)).answer ≡ 0
    → (load_text (take (catalog_call k (length buf)).used (catalogued k buf))).answer ≡ 0
written_loads k buf h = load_answer (take (catalog_call k (length buf)).used (catalogued k buf)) ∙ written_accepted k buf h

-- after any list of calls, finish included
pub plays : (k : ℕ) (cs : List Call) → k < boards → Faithful (catalog_text k) cs (played (game_of (load_text (catalog_text k)).board) cs).board
plays k cs h = every_list (catalog_text k) cs (loads k h)

pub prints : (k : ℕ) → k < boards → Printed (catalog_text k) (load_text (catalog_text k)).board
prints k h = sheet_printed (catalog_text k) (loads k h)
