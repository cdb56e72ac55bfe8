-- The board text: how it is read, with refusals 1 and 2, and how it is printed.
use Rattle.std.specs.Prelude.{List, [], ◌∷◌, ◌++◌, ℕ, zero, suc, ◌-◌, leb, ltb, eqb, length, get_or, take, drop, replicate}
use Rattle.std.proofs.lemmas.List.Edits.{sets}
use Rattle.lists.specs.Choice.{pick, both}
use Rattle.lists.specs.Lists.{index_of}
use Rattle.std.specs.Prelude.{Option, Some, None}
use Rattle.decimal.specs.Decimal.{number_of, decimal}
use Rattle.board.specs.Limits.{max_vertices, max_edges, max_terminals, max_flow}
use Rattle.board.specs.declared.Network.{Network}
use Rattle.text.specs.declared.Range.{Range}

-- ---- reading

-- what reading at the start of a text gives: a value and the text behind it, or a refusal
pub data Read (A : Type 0) : Type 0 where
  refused : ℕ → Read A
  got : A → List ℕ → Read A

-- reading goes on where the part before it stopped, and stops at the first refusal
unfoldable pub then : {A B : Type 0} → Read A → (A → List ℕ → Read B) → Read B
then (refused n) f = refused n
then (got a s) f = f a s

-- the letter that opens a line, with its comma: else 1 (a byte past the end reads 0)
unfoldable pub letter : ℕ → List ℕ → Read ℕ
letter x s = pick (both (eqb (get_or s 0 0) x) (eqb (get_or s 1 0) 44)) (got x (drop 2 s)) (refused 1)

-- the numbers that a field may hold
abbrev pub between : ℕ → ℕ → Range
between a b = record { low = a; high = b }

-- a number that was read, with the text behind it: 1 where it is none, else 2 where it is out of range
unfoldable pub ranged : Range → Option ℕ → List ℕ → Read ℕ
ranged r None s = refused 1
ranged r (Some n) s = pick (both (leb r.low n) (leb n r.high)) (got n s) (refused 2)

-- a number field: the bytes before the first `end`, which belongs to it; 1 where no `end` follows
unfoldable pub field : Range → ℕ → List ℕ → Read ℕ
unfolding ranged
field r end s =
    pick (ltb (index_of end s) (length s))
    (ranged r (number_of (take (index_of end s) s)) (drop (suc (index_of end s)) s))
    (refused 1)

-- what ends a field before these: a line feed where it is the last of its line, else a comma
abbrev pub end_byte : {A : Type 0} → List A → ℕ
end_byte [] = 10
end_byte (x ∷ xs) = 44

-- the numbers of a line, one for each range
unfoldable pub numbers : List Range → List ℕ → Read (List ℕ)
unfolding field then
numbers [] s = got [] s
numbers (r ∷ rs) s = then (field r (end_byte rs) s) (λ n s1. then (numbers rs s1) (λ ns s2. got (n ∷ ns) s2))

-- a line: its letter, and its numbers
unfoldable pub line : ℕ → List Range → List ℕ → Read (List ℕ)
unfolding letter numbers then
line x rs s = then (letter x s) (λ c s1. numbers rs s1)

-- k lines of one kind
unfoldable pub lines : ℕ → List Range → ℕ → List ℕ → Read (List (List ℕ))
unfolding line then
lines x rs zero s = got [] s
lines x rs (suc k) s = then (line x rs s) (λ ns s1. then (lines x rs k s1) (λ rest s2. got (ns ∷ rest) s2))

-- a pool field is below the count of pools
abbrev pub vertex_below : ℕ → Range
vertex_below n = between 0 (n - 1)

-- `B,pools,channels,mills,spring`; that the spring is below the pools is tested behind it, as part of its field
abbrev pub head_ranges : List Range
head_ranges = between 2 max_vertices ∷ between 1 max_edges ∷ between 1 max_terminals ∷ vertex_below max_vertices ∷ []

-- `C,tail,head,flow`
abbrev pub edge_ranges : ℕ → List Range
edge_ranges n = vertex_below n ∷ vertex_below n ∷ between 0 max_flow ∷ []

-- `W,pool,need`
abbrev pub terminal_ranges : ℕ → List Range
terminal_ranges n = vertex_below n ∷ between 1 max_flow ∷ []

-- the first line
unfoldable pub header : List ℕ → Read (List ℕ)
unfolding line then
header s = then (line 66 head_ranges s) (λ ns s1. pick (ltb (get_or ns 3 0) (get_or ns 0 0)) (got ns s1) (refused 2))

-- the counts and the source, and nothing else yet
abbrev pub headed : List ℕ → Network
headed ns = record {
  vertices = get_or ns 0 0;
  edges = get_or ns 1 0;
  terminals = get_or ns 2 0;
  source = get_or ns 3 0;
  tails = replicate max_edges 0;
  heads = replicate max_edges 0;
  flows = replicate max_edges 0;
  homes = replicate max_terminals 0;
  demands = replicate max_terminals 0;
}

-- the numbers at one place of each line
abbrev pub field_column : ℕ → List (List ℕ) → List ℕ
field_column j [] = []
field_column j (ns ∷ rows) = get_or ns j 0 ∷ field_column j rows

-- the network with the edges of these lines stored from edge i on
abbrev pub with_edges : Network → ℕ → List (List ℕ) → Network
with_edges net i rows = record {
  vertices = net.vertices;
  edges = net.edges;
  terminals = net.terminals;
  source = net.source;
  tails = sets net.tails i (field_column 0 rows);
  heads = sets net.heads i (field_column 1 rows);
  flows = sets net.flows i (field_column 2 rows);
  homes = net.homes;
  demands = net.demands;
}

-- the network with the terminals of these lines stored from terminal i on
abbrev pub with_terminals : Network → ℕ → List (List ℕ) → Network
with_terminals net i rows = record {
  vertices = net.vertices;
  edges = net.edges;
  terminals = net.terminals;
  source = net.source;
  tails = net.tails;
  heads = net.heads;
  flows = net.flows;
  homes = sets net.homes i (field_column 0 rows);
  demands = sets net.demands i (field_column 1 rows);
}

-- as many edge lines as the first line says
unfoldable pub edge_lines : Network → ℕ → ℕ → List ℕ → Read Network
unfolding lines then
edge_lines net i k s = then (lines 67 (edge_ranges net.vertices) k s) (λ rows s1. got (with_edges net i rows) s1)

-- as many terminal lines as the first line says
unfoldable pub terminal_lines : Network → ℕ → ℕ → List ℕ → Read Network
unfolding lines then
terminal_lines net i k s = then (lines 87 (terminal_ranges net.vertices) k s) (λ rows s1. got (with_terminals net i rows) s1)

-- nothing follows the last line: else 1
unfoldable pub nothing_follows : Network → List ℕ → Read Network
nothing_follows net [] = got net []
nothing_follows net (c ∷ s) = refused 1

-- the whole text
unfoldable pub layout : List ℕ → Read Network
unfolding header edge_lines terminal_lines nothing_follows then
layout s =
    then (header s) (λ ns s1.
    then (edge_lines (headed ns) 0 (headed ns).edges s1) (λ net s2.
    then (terminal_lines net 0 net.terminals s2) (λ whole s3. nothing_follows whole s3)))

-- ---- printing

-- numbers in decimal, parted by commas and ended by a line feed
unfoldable pub numbers_text : List ℕ → List ℕ
numbers_text [] = []
numbers_text (n ∷ ns) = decimal n ++ (end_byte ns ∷ numbers_text ns)

unfoldable pub line_text : ℕ → List ℕ → List ℕ
line_text x ns = x ∷ 44 ∷ numbers_text ns

-- the lines of rows i, i + 1, .., i + k - 1
unfoldable pub lines_text : ℕ → (ℕ → List ℕ) → ℕ → ℕ → List ℕ
lines_text x row i zero = []
lines_text x row i (suc k) = line_text x (row i) ++ lines_text x row (suc i) k

abbrev pub head_row : Network → List ℕ
head_row net = net.vertices ∷ net.edges ∷ net.terminals ∷ net.source ∷ []

abbrev pub edge_row : Network → ℕ → List ℕ
edge_row net i = get_or net.tails i 0 ∷ get_or net.heads i 0 ∷ get_or net.flows i 0 ∷ []

abbrev pub terminal_row : Network → ℕ → List ℕ
terminal_row net j = get_or net.homes j 0 ∷ get_or net.demands j 0 ∷ []

-- the text of a network
unfoldable pub text_of : Network → List ℕ
text_of net =
    line_text 66 (head_row net)
    ++ (lines_text 67 (edge_row net) 0 net.edges ++ lines_text 87 (terminal_row net) 0 net.terminals)
