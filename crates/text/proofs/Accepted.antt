-- A board text is accepted exactly where it is the text of a lawful network, and then it is read as that network.
-- The layout is read part by part, each part exactly what it prints, so a text that goes through is the text of the network built from its
-- rows, and the text of a network gives back its rows and so its arrays. The rules are the three tests of `judged`, said of each place.
use mathlib.Core.Path.{◌≡◌, refl, sym, ap, ◌∙◌}
use mathlib.Core.Logic.{◌↔◌}
use mathlib.Core.Bool.{true}
use mathlib.Core.List.{List, [], ◌∷◌, ◌++◌, append-nil}
use Prim.Native.Nat.{ℕ, ◌<◌, ◌≤◌}
use native.Mathlib.Omega.{arith}
use lib.Dec.{eqb}
use lib.ListN.{get_or}
use borrow.Author.Tests.{eq-eqb, eqb-true, eqb-false}
use Rattle.lists.proofs.Laws.{Known, was_true, was_false, known, pick_yes, pick_no}
use Rattle.board.specs.declared.Network.{Network}
use Rattle.text.specs.Results.{Reading}
use Rattle.board.specs.Limits.{max_edges, max_terminals}
use Rattle.text.specs.Text.{Read, refused, got, header, headed, head_ranges, edge_ranges, terminal_ranges, lines, with_edges}
use Rattle.text.specs.Text.{with_terminals, nothing_follows, layout, line_text, lines_text, head_row, edge_row, terminal_row, text_of}
use Rattle.text_rules.specs.Rules.{judged, counts_fit, Lawful}
use Rattle.text_rules.proofs.Meaning.{Kept, kept, judged_zero, Sized, counts_tested, lawful_sized}
use Rattle.text.specs.Results.{judgement, reading_of, read_text}
use Rattle.text.proofs.Fields.{InRanges, Rows, Heading, rows_text, parts, parts_in, after, after_in, header_of_text, header_only}
use Rattle.text.proofs.Fields.{lines_of_text, lines_only, refused_above}
use Rattle.text.proofs.FieldColumns.{run, lines_run, lines_of, rows_length, row_spelled, row_within, rows_run, spelled, spelled_within}
use Rattle.text.proofs.FieldColumns.{stored, stored_length, stored_at, stored_past, stored_back}

abbrev pub accepted_as : Network → Reading
accepted_as net = record { answer = 0; network = net }

-- ---- the rows of a text

-- the rows of a text that goes through
record Laid (ns : List ℕ) (rows homes : List (List ℕ)) : Type 0 where
  pub heading : Heading ns
  pub edges : Rows (edge_ranges (get_or ns 0 0)) (get_or ns 1 0) rows
  pub terminals : Rows (terminal_ranges (get_or ns 0 0)) (get_or ns 2 0) homes

-- the network and the text of such rows
abbrev built : List ℕ → List (List ℕ) → List (List ℕ) → Network
built ns rows homes = with_terminals (with_edges (headed ns) 0 rows) 0 homes

abbrev laid_text : List ℕ → List (List ℕ) → List (List ℕ) → List ℕ
laid_text ns rows homes = line_text 66 ns ++ (rows_text 67 rows ++ rows_text 87 homes)

record LaidText (s : List ℕ) (net : Network) : Type 0 where
  pub head : List ℕ
  pub rows : List (List ℕ)
  pub homes : List (List ℕ)
  pub laid : Laid head rows homes
  pub text : s ≡ laid_text head rows homes
  pub network : net ≡ built head rows homes

layout_of_text : (ns : List ℕ) (rows homes : List (List ℕ)) → Laid ns rows homes → layout (laid_text ns rows homes) ≡ got (built ns rows homes) []
unfolding layout
layout_of_text ns rows homes laid =
    let first = spelled_within head_ranges ns laid.heading.within in
    after _ (header_of_text ns (rows_text 67 rows ++ rows_text 87 homes) laid.heading)
    ∙ (after_in _ _ (lines_of_text 67 (rows_text 87 homes) (omega arith) laid.edges)
    ∙ after_in _ _ (rw append-nil at (lines_of_text 87 [] (omega arith) laid.terminals)))

record EndsThere (whole net : Network) (s : List ℕ) : Type 0 where
  pub nothing : s ≡ []
  pub same : net ≡ whole

nothing_follows_only : (whole net : Network) (s rest : List ℕ) → nothing_follows whole s ≡ got net rest → EndsThere whole net s
unfolding nothing_follows
nothing_follows_only whole net [] rest h = record { nothing = refl; same = cc }
nothing_follows_only whole net (c ∷ s) rest h = let z : ◌≡◌ {A = ℕ} 0 1 = cc in absurd (omega arith)

layout_only : (s : List ℕ) (net : Network) (rest : List ℕ) → layout s ≡ got net rest → LaidText s net
unfolding layout
layout_only s net rest h =
    parts (header s) _ h λ ns s1 e1 h1.
    parts_in (lines 67 (edge_ranges (get_or ns 0 0)) (get_or ns 1 0) s1) _ _ h1 λ rows s2 e2 h2.
    parts_in (lines 87 (terminal_ranges (get_or ns 0 0)) (get_or ns 2 0) s2) _ _ h2 λ homes s3 e3 h3.
    let f1 = header_only ns s s1 e1 in
    let f2 = lines_only 67 _ _ rows s1 s2 e2 in
    let f3 = lines_only 87 _ _ homes s2 s3 e3 in
    let f4 = nothing_follows_only (built ns rows homes) net s3 rest h3 in
    record {
      head = ns;
      rows = rows;
      homes = homes;
      laid = record { heading = f1.facts; edges = f2.facts; terminals = f3.facts };
      text = cc (f1.start, f2.start, f3.start, f4.nothing, append-nil (rows_text 87 homes));
      network = f4.same;
    }

-- ---- the network of rows that were read

text_of_lem : (net : Network)
    → text_of net ≡ line_text 66 (head_row net) ++ (lines_text 67 (edge_row net) 0 net.edges ++ lines_text 87 (terminal_row net) 0 net.terminals)
unfolding text_of
text_of_lem net = refl

module _ (ns : List ℕ) (rows homes : List (List ℕ)) (laid : Laid ns rows homes) where
  first : InRanges head_ranges (head_row (headed ns))
  first = spelled_within head_ranges ns laid.heading.within

  edge_held : (c i : ℕ) → get_or (stored max_edges c rows) i 0 ≡ get_or (get_or rows i []) c 0
  edge_held c i = stored_at max_edges c rows i (rows_length laid.edges) (omega (arith, first))

  terminal_held : (c j : ℕ) → get_or (stored max_terminals c homes) j 0 ≡ get_or (get_or homes j []) c 0
  terminal_held c j = stored_at max_terminals c homes j (rows_length laid.terminals) (omega (arith, first))

  no_edge_held : (c i : ℕ) → get_or ns 1 0 ≤ i → get_or (stored max_edges c rows) i 0 ≡ 0
  no_edge_held c i h = stored_past max_edges c rows i (rows_length laid.edges) (omega (arith, first)) h

  no_terminal_held : (c j : ℕ) → get_or ns 2 0 ≤ j → get_or (stored max_terminals c homes) j 0 ≡ 0
  no_terminal_held c j h = stored_past max_terminals c homes j (rows_length laid.terminals) (omega (arith, first)) h

  text_built : text_of (built ns rows homes) ≡ laid_text ns rows homes
  text_built =
      let edges : lines_text 67 (edge_row (built ns rows homes)) 0 (get_or ns 1 0) ≡ rows_text 67 rows =
      lines_of 67 _ _ rows (rows_length laid.edges)
      (λ i h. cc (edge_held 0 i, edge_held 1 i, edge_held 2 i, row_spelled laid.edges i h)) in
      let terminals : lines_text 87 (terminal_row (built ns rows homes)) 0 (get_or ns 2 0) ≡ rows_text 87 homes =
      lines_of 87 _ _ homes (rows_length laid.terminals)
      (λ j h. cc (terminal_held 0 j, terminal_held 1 j, row_spelled laid.terminals j h)) in
      cc (text_of_lem (built ns rows homes), spelled head_ranges ns laid.heading.within)

  lawful_built : Kept (built ns rows homes) → Lawful (built ns rows homes)
  lawful_built k =
      let f = first in
      record {
        sound = record {
          tails_size = stored_length max_edges 0 rows ∙ sym (stored_length max_edges 2 rows);
          heads_size = stored_length max_edges 1 rows ∙ sym (stored_length max_edges 2 rows);
          homes_size = stored_length max_terminals 0 homes ∙ sym (stored_length max_terminals 1 homes);
          edges = omega (arith, stored_length max_edges 2 rows);
          terminals = omega (arith, stored_length max_terminals 1 homes);
          source = laid.heading.source_below;
          tail = λ i h. omega (arith, edge_held 0 i, row_within laid.edges i h);
          head = λ i h. omega (arith, edge_held 1 i, row_within laid.edges i h);
          home = λ j h. omega (arith, terminal_held 0 j, row_within laid.terminals j h);
          demand = λ j h. omega (arith, terminal_held 1 j, row_within laid.terminals j h);
          no_edge = λ i h. (no_edge_held 0 i h, no_edge_held 1 i h, no_edge_held 2 i h);
          no_terminal = λ j h. (no_terminal_held 0 j h, no_terminal_held 1 j h);
          no_loop = k.no_loop;
          away = k.away;
        };
        within = record {
          flows_size = stored_length max_edges 2 rows;
          demands_size = stored_length max_terminals 1 homes;
          vertices = omega arith;
          edges = omega arith;
          terminals = omega arith;
          flow = λ i h. omega (arith, edge_held 2 i, row_within laid.edges i h);
          demand = λ j h. omega (arith, terminal_held 1 j, row_within laid.terminals j h);
        };
        balanced = k.balanced;
      }

-- a text that keeps the layout has counts and a source in their ranges, whatever rule its network breaks
pub laid_counts : (s : List ℕ) (net : Network) (rest : List ℕ) → layout s ≡ got net rest → counts_fit net ≡ true
laid_counts s net rest h =
    let l = layout_only s net rest h in
    let f = first _ _ _ l.laid in
    rw l.network (counts_tested (built l.head l.rows l.homes) (omega arith) (omega arith) (omega arith) l.laid.heading.source_below)

-- ---- the rows of a lawful network

abbrev edges_of : Network → List (List ℕ)
edges_of net = run (edge_row net) 0 net.edges

abbrev terminals_of : Network → List (List ℕ)
terminals_of net = run (terminal_row net) 0 net.terminals

text_of_rows : (net : Network) → text_of net ≡ laid_text (head_row net) (edges_of net) (terminals_of net)
text_of_rows net = cc (text_of_lem net, lines_run 67 (edge_row net) 0 net.edges, lines_run 87 (terminal_row net) 0 net.terminals)

module _ (net : Network) (law : Lawful net) where
  laid_of : Laid (head_row net) (edges_of net) (terminals_of net)
  laid_of = record {
    heading = record {
      within = omega arith;
      source_below = law.sound.source;
    };
    edges = rows_run (edge_row net) 0 net.edges λ i low h.
        let less : i < net.edges = omega arith in
        omega (arith, law.sound.tail i less, law.sound.head i less, law.within.flow i less);
    terminals = rows_run (terminal_row net) 0 net.terminals λ j low h.
        let less : j < net.terminals = omega arith in
        omega (arith, law.sound.home j less, law.sound.demand j less, law.within.demand j less);
  }

  size : Sized net
  size = lawful_sized net law

  built_of : built (head_row net) (edges_of net) (terminals_of net) ≡ net
  built_of = λ t. record {
    vertices = net.vertices;
    edges = net.edges;
    terminals = net.terminals;
    source = net.source;
    tails = stored_back net.tails max_edges 0 net.edges (edge_row net) size.tails law.within.edges.1
        (λ i h. (law.sound.no_edge i h).0) (λ i. refl) t;
    heads = stored_back net.heads max_edges 1 net.edges (edge_row net) size.heads law.within.edges.1
        (λ i h. (law.sound.no_edge i h).1) (λ i. refl) t;
    flows = stored_back net.flows max_edges 2 net.edges (edge_row net) size.flows law.within.edges.1
        (λ i h. (law.sound.no_edge i h).2) (λ i. refl) t;
    homes = stored_back net.homes max_terminals 0 net.terminals (terminal_row net) size.homes law.within.terminals.1
        (λ j h. (law.sound.no_terminal j h).0) (λ j. refl) t;
    demands = stored_back net.demands max_terminals 1 net.terminals (terminal_row net) size.demands law.within.terminals.1
        (λ j h. (law.sound.no_terminal j h).1) (λ j. refl) t;
  }

-- ---- the theorem

-- a reading that answers 0
record Through (s : List ℕ) (net : Network) : Type 0 where
  pub rest : List ℕ
  pub went : layout s ≡ got net rest
  pub fine : judged net ≡ 0

through : (s : List ℕ) (net : Network) → read_text s ≡ accepted_as net → Through s net
unfolding read_text
through s net h = go (layout s) refl h
  where
    judge : (n : ℕ) (whole : Network) → Known (eqb n 0) → judgement n whole ≡ accepted_as net → (n ≡ 0) × (whole ≡ net)
    judge n whole (was_true t) g = (eqb-true n 0 t, ap (λ (r : Reading). r.network) (sym (pick_yes _ _ _ t) ∙ g))
    judge n whole (was_false t) g = absurd (eqb-false n 0 t (ap (λ (r : Reading). r.answer) (sym (pick_no _ _ _ t) ∙ g)))

    go : (o : Read Network) → layout s ≡ o → reading_of o ≡ accepted_as net → Through s net
    go (refused n) e g = let z : n ≡ 0 = ap (λ (r : Reading). r.answer) g in absurd (omega (arith, refused_above s n e))
    go (got whole rest) e g =
        let j = judge (judged whole) whole (known _) g in
        record { rest = rest; went = cc (e, j.1); fine = cc (j.0, j.1) }

pub accepted_text : (s : List ℕ) (net : Network) → read_text s ≡ accepted_as net → (s ≡ text_of net) × Lawful net
accepted_text s net h =
    let t = through s net h in
    let l = layout_only s net t.rest t.went in
    rw l.network (l.text ∙ sym (text_built _ _ _ l.laid), lawful_built _ _ _ l.laid (kept _ (rw l.network at t.fine)))

pub accepts : (net : Network) → Lawful net → read_text (text_of net) ≡ accepted_as net
unfolding read_text
accepts net law =
    let went : layout (text_of net) ≡ got net [] =
    cc (text_of_rows net, layout_of_text _ _ _ (laid_of net law), built_of net law) in
    ap reading_of went ∙ pick_yes _ _ _ (eq-eqb (judged net) 0 (judged_zero net law))

pub accepted_iff : (s : List ℕ) (net : Network) → (read_text s ≡ accepted_as net) ↔ ((s ≡ text_of net) × Lawful net)
accepted_iff s net = (accepted_text s net, λ h. ap read_text h.0 ∙ accepts net h.1)

pub written_back : (s : List ℕ) (net : Network) → read_text s ≡ accepted_as net → text_of net ≡ s
written_back s net h = sym (accepted_text s net h).0
