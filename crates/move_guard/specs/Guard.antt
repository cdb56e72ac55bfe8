-- Which records the calls work on: counts within the limits, indices within the counts, numbers small enough that no sum wraps. A board is plain
-- data, so a caller may hand in any; one that fails this test was never loaded.
use Rattle.std.specs.Prelude.{Bool, true, List, ℕ, leb, ltb, eqb, get_or}
use Rattle.lists.specs.Choice.{pick, both}
use Rattle.lists.specs.Lists.{all}
use Rattle.board.specs.Limits.{max_edges, max_terminals, max_moves, max_total}
use Rattle.board.specs.Record.{play_stage, staged}
use Rattle.board.specs.Whole.{Move, Carry, Turn, Board}
use Rattle.board.specs.declared.Network.{Network}
use Rattle.text_rules.specs.Rules.{edge_numbers_fit, terminal_numbers_fit, counts_fit}
use Rattle.move_guard.specs.Moved.{last_entry}

-- an edge's numbers fit; its acyclic flow is at most the text's, and where that is 0 its flow is 0
abbrev pub edge_numbers_intact : Bool → ℕ → ℕ → ℕ → ℕ → ℕ → ℕ → Bool
edge_numbers_intact is_edge tail head text acyclic flow vertices =
    both (edge_numbers_fit is_edge tail head text vertices) (both (leb acyclic text) (pick (eqb acyclic 0) (eqb flow 0) (leb flow max_total)))

-- the same at place i of lists: the tails, the heads, the flows of the text, the acyclic flows and the flows
abbrev pub edge_lists_intact : ℕ → ℕ → List ℕ → List ℕ → List ℕ → List ℕ → List ℕ → ℕ → Bool
edge_lists_intact edges vertices tails heads texts acyclic flows i =
    edge_numbers_intact (ltb i edges) (get_or tails i 0) (get_or heads i 0) (get_or texts i 0) (get_or acyclic i 0) (get_or flows i 0) vertices

-- the same at place i of a network, the acyclic flows and the flows
abbrev pub edge_intact_in : Network → List ℕ → List ℕ → ℕ → Bool
edge_intact_in net acyclic flows i = edge_lists_intact net.edges net.vertices net.tails net.heads net.flows acyclic flows i

-- the same at place i of a board
abbrev pub edge_intact : Board → ℕ → Bool
edge_intact b i = edge_intact_in b.network b.acyclic b.flows i

-- a terminal's numbers fit, and it is at a vertex; the numbers of a place past the terminals are 0
abbrev pub terminal_numbers_intact : Bool → ℕ → ℕ → ℕ → ℕ → Bool
terminal_numbers_intact is_terminal home demand place vertices =
    both (terminal_numbers_fit is_terminal home demand vertices) (pick is_terminal (ltb place vertices) (eqb place 0))

-- the same at place j of lists: the homes, the demands and the places
abbrev pub terminal_lists_intact : ℕ → ℕ → List ℕ → List ℕ → List ℕ → ℕ → Bool
terminal_lists_intact terminals vertices homes demands places j =
    terminal_numbers_intact (ltb j terminals) (get_or homes j 0) (get_or demands j 0) (get_or places j 0) vertices

-- the same at place j of a network and the places
abbrev pub terminal_intact_in : Network → List ℕ → ℕ → Bool
terminal_intact_in net places j = terminal_lists_intact net.terminals net.vertices net.homes net.demands places j

-- the same at place j of a board
abbrev pub terminal_intact : Board → ℕ → Bool
terminal_intact b j = terminal_intact_in b.network b.places j

-- the numbers of a place past the edges, and those of a place past the terminals, are 0
abbrev pub edge_blank_in : List ℕ → List ℕ → List ℕ → List ℕ → List ℕ → ℕ → Bool
edge_blank_in tails heads texts acyclic flows i =
    both (eqb (get_or tails i 0) 0) (both (eqb (get_or heads i 0) 0) (both (eqb (get_or texts i 0) 0) (both (eqb (get_or acyclic i 0) 0) (eqb (get_or flows i 0) 0))))

abbrev pub terminal_blank_in : List ℕ → List ℕ → List ℕ → ℕ → Bool
terminal_blank_in homes demands places j = both (eqb (get_or homes j 0) 0) (both (eqb (get_or demands j 0) 0) (eqb (get_or places j 0) 0))

-- a turn's amount is one that can be taken back
abbrev pub move_intact : Move → Bool
move_intact (Carry r) = true
move_intact (Turn a) = leb a.amount max_total

-- every edge and terminal is intact, the journal has room for the moves, and the last move is intact: of the parts of a board, as the code computes it
abbrev pub intact_in : Network → List ℕ → List ℕ → List ℕ → ℕ → Move → Bool
intact_in net acyclic flows places moves last =
    both (counts_fit net)
    (both (all (edge_intact_in net acyclic flows) 0 max_edges) (both (all (terminal_intact_in net places) 0 max_terminals) (both (leb moves max_moves) (move_intact last))))

-- the same of a board
unfoldable pub intact : Board → Bool
intact b = intact_in b.network b.acyclic b.flows b.places b.moves (last_entry b).step

-- a board that a load gave: in play or finished, and intact
unfoldable pub loaded : Board → Bool
loaded b = both (staged b.stage) (intact b)

-- 20: "play is over (a finish was accepted), or no board was loaded"
unfoldable pub playing : Board → Bool
playing b = both (eqb b.stage play_stage) (loaded b)
