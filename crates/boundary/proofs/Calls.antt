-- A call on the board that a memory stands for: what it answers, and the memory after it.
use mathlib.Core.Path.{◌≡◌, sym, ap, ◌∙◌}
use mathlib.Core.Logic.{◌≢◌}
use mathlib.Core.List.{List, []}
use Prim.Native.Nat.{ℕ}
use borrow.Author.Tests.{eq-eqb, ne_eqb}
use Rattle.std.specs.Prelude.{Result, Ok, Err}
use Rattle.lists.proofs.Laws.{pick_yes, pick_no}
use Rattle.sets.specs.Sets.{EdgeWord, set_of}
use Rattle.refusals.specs.declared.Refusal.{Refusal}
use Rattle.refusals.specs.Refusals.{number, answer_of}
use Rattle.refusals.proofs.Laws.{refused}
use Rattle.board.specs.Whole.{Board, Played, Table}
use Rattle.journal.specs.Words.{whole_of, given_of, no_words, words_after}
use Rattle.journal.proofs.After.{after_none}
use Rattle.boundary_parts.specs.Memory.{Memory, memory, board_of, numbers_of, edge_rows, terminal_rows, memory_of, memory_loaded, memory_after}
use Rattle.boundary_parts.specs.Inner.{IsBoardOf}
use Rattle.boundary.specs.Inner.{memory_given}

-- where the call is refused, it gives the board as it was
abbrev pub Keeps : (Board → Played) → Type 0
Keeps call = (b : Board) → (call b).answer ≢ 0 → (call b).board ≡ b

-- what is stored is the memory of the board, with the words that the call left
pub stored-memory :
    (next : Table) (left : List (List ℕ)) (n : List ℕ) (e p : List (List ℕ)) (m : EdgeWord)
    → n ≡ numbers_of (whole_of next [])
    → e ≡ edge_rows (whole_of next [])
    → p ≡ terminal_rows (whole_of next [])
    → set_of m ≡ set_of next.marks
    → memory n e p m left ≡ memory_of (whole_of next left) left
stored-memory next left n e p m hn he hp hm =
    λ i. record { numbers = hn i; edges = he i; terminals = hp i; marks = hm i; words = left }

module _
    (call : Board → Played) (keeps : Keeps call)
    (numbers : List ℕ) (edges terminals : List (List ℕ)) (marks : EdgeWord) (words : List (List ℕ))
    (t : Table) (is : IsBoardOf t numbers edges terminals marks) (left : List (List ℕ))
    (stores : left ≡ words_after t.moves (call (whole_of t words)).board words) where
  abbrev lent : Memory
  lent = memory numbers edges terminals marks words

  -- the answer and the memory at exit: those of the call on the board of the memory
  abbrev Gives : ℕ → Memory → Type 0
  Gives n m = (n ≡ (call (board_of lent)).answer) × (m ≡ memory_after lent (call (board_of lent)).answer (call (board_of lent)).board)

  pub called : (given : Result Table Refusal) → given_of t given left ≡ call (whole_of t words)
      → Gives (answer_of given) (memory_given given (memory numbers edges terminals marks left))
  unfolding memory_after
  called (Ok next) gave =
      let there : record { answer = 0; board = whole_of next left } ≡ call (board_of lent) = gave ∙ ap call (is words) in
      let none : 0 ≡ (call (board_of lent)).answer = ap (λ (p : Played). p.answer) there in
      let board : whole_of next left ≡ (call (board_of lent)).board = ap (λ (p : Played). p.board) there in
      let journal : left ≡ words_after (board_of lent).moves (call (board_of lent)).board words =
      stores ∙ ap (λ (b : Board). words_after b.moves (call b).board words) (is words) in (
        none,
        ap (λ (b : Board). memory_of b left) board
            ∙ ap (memory_of (call (board_of lent)).board) journal
            ∙ sym (pick_yes _ _ _ (eq-eqb (call (board_of lent)).answer 0 (sym none))),
      )
  called (Err r) gave =
      let there : record { answer = number r; board = whole_of t left } ≡ call (board_of lent) = gave ∙ ap call (is words) in
      let answers : number r ≡ (call (board_of lent)).answer = ap (λ (p : Played). p.answer) there in
      let said : number r ≡ (call (whole_of t words)).answer = ap (λ (p : Played). p.answer) gave in
      let kept : (call (whole_of t words)).board ≡ whole_of t words = keeps (whole_of t words) (λ z. refused r (said ∙ z)) in
      let same : left ≡ words =
      stores ∙ after_none t.moves (call (whole_of t words)).board words (ap (λ (b : Board). b.moves) kept) in (
        answers,
        ap (memory numbers edges terminals marks) same
            ∙ sym (pick_no _ _ _ (ne_eqb (call (board_of lent)).answer 0 (λ z. refused r (answers ∙ z)))),
      )

-- the memory after a load
pub loaded-memory :
    (b : Board) (next : Table) (left : List (List ℕ)) (n : List ℕ) (e p : List (List ℕ)) (m : EdgeWord)
    → whole_of next left ≡ b
    → left ≡ no_words
    → n ≡ numbers_of (whole_of next [])
    → e ≡ edge_rows (whole_of next [])
    → p ≡ terminal_rows (whole_of next [])
    → set_of m ≡ set_of next.marks
    → memory n e p m left ≡ memory_loaded b
loaded-memory b next left n e p m gave empty hn he hp hm =
    stored-memory next left n e p m hn he hp hm ∙ ap (λ (b : Board). memory_of b left) gave ∙ ap (memory_of b) empty
