-- What the call answers, from the tests of the code: each is a test of the definition. A board that was not loaded is refused whatever its routes are.
use mathlib.Core.Path.{◌≡◌, refl, sym, ◌∙◌}
use mathlib.Core.Bool.{Bool, true, false}
use mathlib.Core.List.{List, [], ◌∷◌, ◌++◌, append-nil}
use Prim.Native.Nat.{ℕ, ◌+◌, ◌≤◌}
use native.Mathlib.Nat.{zero-add}
use native.Mathlib.Omega.{arith}
use lib.Dec.{leb, eqb}
use lib.ListN.{length, get_or}
use lib.Seq.{sets, sets-eq}
use borrow.Author.Tests.{eq-eqb, ne_eqb, eqb-true, eqb-false, le-leb, leb-true}
use Rattle.lists.specs.Choice.{pick, both}
use Rattle.lists.specs.Lists.{all}
use Rattle.lists.proofs.Laws.{Known, was_true, was_false, known, pick_yes, pick_no, pick_passed, both_left, both_right}
use Rattle.board.specs.Limits.{max_vertices, max_terminals}
use Rattle.board.specs.Whole.{Board}
use Rattle.board.specs.declared.Network.{Network}
use Rattle.text.specs.Sizes.{report_bytes}
use Rattle.text.specs.Text.{line_text, lines_text}
use Rattle.move_guard.specs.Guard.{intact, loaded}
use Rattle.move_guard.proofs.Facts.{loaded_then_intact, intact_edges, intact_terminals, intact-demand}
use Rattle.text_writer.proofs.Writing.{TextLeft, left_part, left_none}
use Rattle.report_routes.specs.Tables.{routes_fit}
use Rattle.report_routes.proofs.Read.{fits_route}
use Rattle.report.specs.Reports.{report_text, started, unreported, unreported_in, sheet_refusal, sheet_call, sheeted, put_refusal, put_call, put_in}
use Rattle.report.specs.Rows.{table_route_row, table_load_row, table_text, Printable}
use Rattle.report.proofs.Rows.{counts_by, rows_by, counts_small, route-lines, load-lines}

module _ (b : Board) where
  pub not-loaded : loaded b ≡ false → 29 ≡ unreported b
  unfolding unreported started both
  not-loaded h = sym (pick_no _ _ _ (rw h))

  -- the counts of a loaded board are within the limits, so the test of the counted routes is the test of the board's
  pub number_made : (fit : Bool) (n : ℕ) → loaded b ≡ true → fit ≡ all (λ i. leb (get_or (counts_by b) i 0) max_vertices) 0 b.network.terminals
      → n ≡ unreported_in b.stage fit → n ≡ unreported b
  unfolding unreported started both
  number_made fit n h ef en = en ∙ rw (h, ef, fits_route b (intact_terminals b (loaded_then_intact b h)))

-- a board with a report
module _ (b : Board) (reported : unreported b ≡ 0) where
  tests : started b ≡ true
  unfolding unreported
  tests = (pick_passed _ _ 28 reported).0

  report_intact : intact b ≡ true
  unfolding started
  report_intact = loaded_then_intact b (both_left _ _ tests)

  report_fits : routes_fit b ≡ true
  unfolding started
  report_fits = both_right _ _ tests

  report_terminals : b.network.terminals ≤ max_terminals
  report_terminals = intact_terminals b report_intact

  pub report_printable : (counts : List ℕ) → counts ≡ counts_by b → length b.network.demands ≡ max_terminals → Printable b.network counts
  report_printable counts e long = rw e (record {
    edges = intact_edges b report_intact;
    terminals = report_terminals;
    demands = intact-demand b report_intact long;
    steps = counts_small b report_terminals report_fits;
  })

  -- the text over the tables that were filled is the text of the board
  pub report_text_lem : (counts : List ℕ) (rows : List (List ℕ)) → counts ≡ counts_by b → rows ≡ rows_by b → table_text b.network b.acyclic counts rows ≡ report_text b
  unfolding table_text report_text
  report_text_lem counts rows e r = rw (e, r, route-lines b report_terminals report_fits, load-lines b report_terminals report_fits)

-- the three parts of the report, one behind the other
module _ (net : Network) (acyclic counts : List ℕ) (rows : List (List ℕ)) (buf b1 b2 b3 : List ℕ) (at p1 p2 p3 : ℕ) where
  abbrev head : List ℕ
  head = line_text 82 (net.terminals ∷ net.edges ∷ [])

  abbrev routes : List ℕ
  routes = lines_text 77 (table_route_row counts rows) 0 net.terminals

  abbrev loads : List ℕ
  loads = lines_text 76 (table_load_row net acyclic counts rows) 0 net.edges

  pub tables_written : p1 ≡ at + length head → b1 ≡ sets buf at head → p2 ≡ p1 + length routes → b2 ≡ sets b1 p1 routes → p3 ≡ p2 + length loads
      → b3 ≡ sets b2 p2 loads → (p3 ≡ at + length (table_text net acyclic counts rows)) × (b3 ≡ sets buf at (table_text net acyclic counts rows))
  unfolding table_text
  tables_written q1 e1 q2 e2 q3 e3 =
      let whole : TextLeft buf (sets buf at (table_text net acyclic counts rows)) at (at + length (table_text net acyclic counts rows)) (head ++ (routes ++ loads)) =
      record { size = refl; gives = refl } in
      let behind-head = left_part head (routes ++ loads) b1 p1 whole e1 q1 in
      let behind_routes = left_part routes loads b2 p2 behind-head e2 q2 in
      left_none (left_part loads [] b3 p3 (rw append-nil behind_routes) e3 q3)

-- the answers: the number of a board without a report, 8 where a text that is to be whole has no room, and the text
module _ (b : Board) (whole : Bool) (buf : List ℕ) (at : ℕ) where
  abbrev PutAnswer : ℕ → ℕ → List ℕ → Type 0
  PutAnswer answer used out = (record { answer = answer; used = used } ≡ put_call b whole (length buf)) × ((used ≤ report_bytes) × (out ≡ put_in b whole buf at))

  refused_so : (n : ℕ) → n ≡ put_refusal b whole (length buf) → (n ≡ 0 → ⊥) → PutAnswer n 0 buf
  refused_so n p some =
      let no : eqb (put_refusal b whole (length buf)) 0 ≡ false = ne_eqb _ _ (λ z. some (p ∙ z)) in
      (λ i. record { answer = p i; used = sym (pick_no _ (length (report_text b)) 0 no) i }, (omega arith, sym (pick_no _ _ _ no)))

  pub put_refused : (n : ℕ) → n ≡ unreported b → (n ≡ 0 → ⊥) → PutAnswer n 0 buf
  unfolding pick sheet_refusal
  put_refused n e some = refused_so n (e ∙ go whole) some
    where
      no : eqb (unreported b) 0 ≡ false
      no = ne_eqb _ _ (λ z. some (e ∙ z))

      go : (w : Bool) → unreported b ≡ put_refusal b w (length buf)
      go true = rw no
      go false = refl

  -- a board with a report
  module _ (reported : unreported b ≡ 0) where
    -- a text that is to be whole, in a buffer that is shorter than the longest of them
    pub put_short : whole ≡ true → leb (length (report_text b)) (length buf) ≡ false → PutAnswer 8 0 buf
    unfolding sheet_refusal
    put_short w less =
        let p : 8 ≡ put_refusal b whole (length buf) = sym (pick_yes _ _ _ w ∙ pick_yes _ _ _ (eq-eqb _ _ reported) ∙ pick_no _ _ _ less) in
        refused_so 8 p (λ z. omega (arith, z))

    pub put_done : (used : ℕ) (out : List ℕ) → (whole ≡ true → length (report_text b) ≤ length buf) → used ≡ length (report_text b) → used ≤ report_bytes
        → out ≡ sets buf at (report_text b) → PutAnswer 0 used out
    unfolding sheet_refusal
    put_done used out room len small stored = (λ i. record { answer = p i; used = (len ∙ sym (pick_yes _ (length (report_text b)) 0 none)) i }, (small, stored ∙ sym (pick_yes _ _ _ none)))
      where
        go : Known whole → put_refusal b whole (length buf) ≡ 0
        go (was_true w) = pick_yes _ _ _ w ∙ pick_yes _ _ _ (eq-eqb _ _ reported) ∙ pick_yes _ _ _ (le-leb _ _ (room w))
        go (was_false w) = pick_no _ _ _ w ∙ reported

        p : 0 ≡ put_refusal b whole (length buf)
        p = sym (go (known whole))

        none : eqb (put_refusal b whole (length buf)) 0 ≡ true
        none = eq-eqb _ _ (sym p)

-- the call `sheet` is the writing of a whole text at the front of the buffer
module _ (b : Board) (buf : List ℕ) where
  roomy : sheet_refusal b (length buf) ≡ 0 → length (report_text b) ≤ length buf
  unfolding sheet_refusal
  roomy h = go (known (eqb (unreported b) 0))
    where
      go : Known (eqb (unreported b) 0) → length (report_text b) ≤ length buf
      go (was_true t) =
          let inner : ◌≡◌ {A = ℕ} (pick (leb (length (report_text b)) (length buf)) 0 8) 0 = sym (pick_yes _ _ _ t) ∙ h in
          leb-true _ _ (pick_passed (leb (length (report_text b)) (length buf)) 0 7 inner).0
      go (was_false t) = absurd (eqb-false _ _ t (sym (pick_no _ _ _ t) ∙ h))

  pub sheet_call_lem : put_call b true (length buf) ≡ sheet_call b (length buf)
  unfolding sheet_call pick
  sheet_call_lem = go (known (eqb (sheet_refusal b (length buf)) 0))
    where
      go : Known (eqb (sheet_refusal b (length buf)) 0) → put_call b true (length buf) ≡ sheet_call b (length buf)
      go (was_true t) = rw (t, eqb-true (sheet_refusal b (length buf)) 0 t)
      go (was_false t) = rw t

  pub sheet_buffer : put_in b true buf 0 ≡ sheeted b buf
  unfolding sheeted pick
  sheet_buffer = go (known (eqb (sheet_refusal b (length buf)) 0))
    where
      go : Known (eqb (sheet_refusal b (length buf)) 0) → put_in b true buf 0 ≡ sheeted b buf
      go (was_true t) =
          let all_of = sets-eq (report_text b) buf 0 (rw zero-add (roomy (eqb-true _ _ t))) in
          rw t (rw zero-add at all_of)
      go (was_false t) = rw t
