-- How long lines are, and with them the text of a network. A line is its letter, a comma, and the digits of each number with the byte behind them, so
-- bounds on the digits bound the line; k lines of at most w bytes each are k * w bytes at most, and a run of lines may be cut in two where its lines grow
-- longer. The numbers of a lawful network are within the limits, so its longest lines are `B,32,64,16,31`, `C,31,31,1000000` and `W,31,1000000`.
use mathlib.Core.Path.{◌≡◌, ap, sym}
use mathlib.Core.Logic.{◌⊎◌, inl, inr}
use mathlib.Core.List.{List, [], ◌∷◌, ◌++◌, append_assoc}
use Prim.Native.Nat.{ℕ, zero, suc, ◌+◌, ◌-◌, ◌*◌, ◌^◌, ◌<◌, ◌≤◌}
use native.Mathlib.Nat.{mul-le-mul_right}
use native.Mathlib.Omega.{arith}
use lib.ListN.{length, replicate, length-append}
use Rattle.lists.specs.Inner.{Below}
use Rattle.lists.proofs.Laws.{lt_or_ge}
use Rattle.decimal.specs.Decimal.{decimal, max_digits}
use Rattle.decimal.proofs.Laws.{decimal-length}
use Rattle.board.specs.declared.Network.{Network}
use Rattle.text_rules.specs.Rules.{Lawful}
use Rattle.text.specs.Sizes.{vertex_digits, edge_digits, terminal_digits, line_width, head_width, edge_width, terminal_width, longest_text}
use Rattle.text.specs.Text.{end_byte, numbers_text, line_text, lines_text, head_row, edge_row, terminal_row, text_of}

-- ---- a line

-- each number has at most as many digits as its bound says, which is one or more, and there are no more numbers than bounds
abbrev pub DigitsWithin : List ℕ → List ℕ → Type 0
DigitsWithin [] [] = Unit {0}
DigitsWithin (d ∷ ds) [] = Unit {0}
DigitsWithin [] (n ∷ ns) = ⊥
DigitsWithin (d ∷ ds) (n ∷ ns) = (0 < d) × (n < 10 ^ d) × DigitsWithin ds ns

digits_within : (d n : ℕ) → 0 < d → n < 10 ^ d → length (decimal n) ≤ d
digits_within zero n h l = absurd (omega arith)
digits_within (suc k) n h l = decimal-length k n l

numbers_within : (ds ns : List ℕ) → DigitsWithin ds ns → 2 + length (numbers_text ns) ≤ line_width ds
unfolding numbers_text
numbers_within [] [] w = omega arith
numbers_within (d ∷ ds) [] w = omega (arith, numbers_within ds [] (nothing ds))
  where
    nothing : (ds : List ℕ) → DigitsWithin ds []
    nothing [] = tt
    nothing (c ∷ cs) = tt
numbers_within [] (n ∷ ns) w = absurd w
numbers_within (d ∷ ds) (n ∷ ns) w =
    let whole = length-append (decimal n) (end_byte ns ∷ numbers_text ns) in
    omega (arith, digits_within d n w.0 w.1, numbers_within ds ns w.2)

pub line_within : (x : ℕ) (ds ns : List ℕ) → DigitsWithin ds ns → length (line_text x ns) ≤ line_width ds
unfolding line_text
line_within x ds ns w = omega (arith, numbers_within ds ns w)

-- at most k numbers, all below 10 ^ d
pub each_within : (d k n : ℕ) (ns : List ℕ) → 0 < d → n ≤ 10 ^ d → Below n ns → length ns ≤ k → DigitsWithin (replicate k d) ns
each_within d zero n [] h l b s = tt
each_within d (suc k) n [] h l b s = tt
each_within d zero n (m ∷ ns) h l b s = absurd (omega arith)
each_within d (suc k) n (m ∷ ns) h l b s = (h, omega (arith, b.0), each_within d k n ns h l b.1 (omega arith))

-- ---- runs of lines

-- lines of at most w bytes each
pub lines_within : (x : ℕ) (row : ℕ → List ℕ) (w i k : ℕ) → ((j : ℕ) → i ≤ j → j < i + k → length (line_text x (row j)) ≤ w)
    → length (lines_text x row i k) ≤ k * w
unfolding lines_text
lines_within x row w i zero short = omega arith
lines_within x row w i (suc k) short =
    omega (
      arith,
      length-append (line_text x (row i)) (lines_text x row (suc i) k),
      short i (omega arith) (omega arith),
      lines_within x row w (suc i) k (λ j h g. short j (omega arith) (omega arith)),
    )

-- a run of lines is its first j and the others behind them
lines_split : (x : ℕ) (row : ℕ → List ℕ) (i j k : ℕ) → lines_text x row i (j + k) ≡ lines_text x row i j ++ lines_text x row (i + j) k
unfolding lines_text
lines_split x row i zero k = let e : i + 0 ≡ i = omega arith in let f : 0 + k ≡ k = omega arith in rw (e, f)
lines_split x row i (suc j) k =
    let e : i + suc j ≡ suc i + j = omega arith in
    let f : suc j + k ≡ suc (j + k) = omega arith in
    rw (e, f, lines_split x row (suc i) j k) (sym (append_assoc (line_text x (row i)) (lines_text x row (suc i) j) (lines_text x row (suc i + j) k)))

-- the first m lines of at most v bytes each, those behind them of at most w
pub lines_parted : (x : ℕ) (row : ℕ → List ℕ) (v w m n : ℕ) → ((j : ℕ) → j < n → j < m → length (line_text x (row j)) ≤ v)
    → ((j : ℕ) → j < n → m ≤ j → length (line_text x (row j)) ≤ w) → length (lines_text x row 0 n) ≤ m * v + (n - m) * w
lines_parted x row v w m n first others = go (lt_or_ge m n)
  where
    go : (m < n) ⊎ (n ≤ m) → length (lines_text x row 0 n) ≤ m * v + (n - m) * w
    go (inl h) =
        let e : m + (n - m) ≡ n = omega arith in
        let cut : lines_text x row 0 n ≡ lines_text x row 0 m ++ lines_text x row (0 + m) (n - m) = rw e at (lines_split x row 0 m (n - m)) in
        let front : length (lines_text x row 0 m) ≤ m * v = lines_within x row v 0 m (λ j a b. first j (omega arith) (omega arith)) in
        let back : length (lines_text x row (0 + m) (n - m)) ≤ (n - m) * w =
        lines_within x row w (0 + m) (n - m) (λ j a b. others j (omega arith) (omega arith)) in
        omega (arith, ap length cut, length-append (lines_text x row 0 m) (lines_text x row (0 + m) (n - m)))
    go (inr h) =
        let front : length (lines_text x row 0 n) ≤ n * v = lines_within x row v 0 n (λ j a b. first j (omega arith) (omega arith)) in
        let more : n * v ≤ m * v = mul-le-mul_right v h in
        omega (arith, front, more)

-- ---- the text of a network

module _ (net : Network) (law : Lawful net) where
  head_short : length (line_text 66 (head_row net)) ≤ head_width
  head_short = line_within 66 (vertex_digits ∷ edge_digits ∷ terminal_digits ∷ vertex_digits ∷ []) (head_row net) (omega arith)

  edge_short : (i : ℕ) → i < net.edges → length (line_text 67 (edge_row net i)) ≤ edge_width
  edge_short i h = line_within 67 (vertex_digits ∷ vertex_digits ∷ max_digits ∷ []) (edge_row net i) (omega (arith, law.sound.tail i h, law.sound.head i h, law.within.flow i h))

  terminal_short : (j : ℕ) → j < net.terminals → length (line_text 87 (terminal_row net j)) ≤ terminal_width
  terminal_short j h = line_within 87 (vertex_digits ∷ max_digits ∷ []) (terminal_row net j) (omega (arith, law.sound.home j h, law.within.demand j h))

  pub network_short : length (text_of net) ≤ longest_text
  unfolding text_of
  network_short =
      let edges : List ℕ = lines_text 67 (edge_row net) 0 net.edges in
      let terminals : List ℕ = lines_text 87 (terminal_row net) 0 net.terminals in
      let whole = length-append (line_text 66 (head_row net)) (edges ++ terminals) in
      let rest = length-append edges terminals in
      let edges_short = lines_within 67 (edge_row net) edge_width 0 net.edges (λ i a b. edge_short i (omega arith)) in
      let terminals_short = lines_within 87 (terminal_row net) terminal_width 0 net.terminals (λ j a b. terminal_short j (omega arith)) in
      omega (arith, head_short, law.within.edges, law.within.terminals)
