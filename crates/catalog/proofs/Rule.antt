-- Every board of the catalog is accepted: the test over the whole table is computed, and carried to each board.
use mathlib.Core.Path.{◌≡◌, refl, ap, ◌∙◌}
use mathlib.Core.Bool.{true}
use mathlib.Core.Logic.{◌⊎◌, inl, inr}
use mathlib.Core.List.{List}
use Prim.Native.Nat.{ℕ, zero, suc, ◌-◌, ◌≤◌, ◌<◌}
use native.Mathlib.Omega.{arith}
use lib.Dec.{leb, eqb}
use lib.ListN.{length, take, drop, length-drop}
use lib.Seq.{take-append_seam}
use borrow.Author.Tests.{leb-true, eqb-true}
use Rattle.lists.specs.Lists.{index_of, keyed}
use Rattle.lists.proofs.Laws.{both_left, both_right, lt_or_ge, rest_part}
use Rattle.decimal.specs.Decimal.{decimal, number_of}
use Rattle.text.specs.Text.{numbers_text}
use Rattle.text.specs.Results.{read_text}
use Rattle.catalog.specs.Table.{table}
use Rattle.catalog.specs.Catalog.{boards, span, boards_from, board_text, catalog_text, catalog_call, catalogued, entry_accepted, all_accepted}
use Rattle.catalog.proofs.Laws.{call_none, call_short, call_done}

pub all_accepted_lem : all_accepted boards table ≡ true
unfolding all_accepted table numbers_text decimal index_of number_of keyed
all_accepted_lem = refl

-- each board of a list whose boards are accepted
each_entry_accepted : (n k : ℕ) (t : List ℕ) → all_accepted n t ≡ true → k < n → entry_accepted (boards_from k t) ≡ true
unfolding all_accepted boards_from
each_entry_accepted zero k t h l = absurd (omega arith)
each_entry_accepted (suc n) zero t h l = both_left (entry_accepted t) (all_accepted n (drop (span t) t)) h
each_entry_accepted (suc n) (suc k) t h l = each_entry_accepted n k (drop (span t) t) (both_right (entry_accepted t) (all_accepted n (drop (span t) t)) h) (omega arith)

-- what the test of a board says
entry_facts : (t : List ℕ) → entry_accepted t ≡ true → (span t ≤ length t) × ((read_text (board_text t)).answer ≡ 0)
unfolding entry_accepted
entry_facts t h =
    let there = leb (span t) (length t) in
    let read = eqb (read_text (board_text t)).answer 0 in
    (leb-true (span t) (length t) (both_left there read h), eqb-true (read_text (board_text t)).answer 0 (both_right there read h))

pub whole : (k : ℕ) → k < boards → span (boards_from k table) ≤ length (boards_from k table)
whole k h = (entry_facts (boards_from k table) (each_entry_accepted boards k table all_accepted_lem h)).0

pub board_accepted : (k : ℕ) → k < boards → (read_text (catalog_text k)).answer ≡ 0
unfolding catalog_text
board_accepted k h = (entry_facts (boards_from k table) (each_entry_accepted boards k table all_accepted_lem h)).1

-- the table is short enough for the code
table_short : length table ≤ 4096
unfolding table
table_short = leb-true (length table) 4096 refl

-- board k of the table, as the code lends it
module _ (k from : ℕ) (h : k < boards) (there : drop from table ≡ boards_from k table) where
  abbrev the_board : List ℕ
  the_board = take (length table - from) (drop from table)

  board_part_lem : the_board ≡ boards_from k table
  board_part_lem = rest_part table from ∙ there

  pub board_fits : (span the_board ≤ length the_board) × (length the_board ≤ 4096)
  board_fits = (rw board_part_lem (whole k h), omega (arith, table_short, ap length (rest_part table from), length-drop from table))

  pub board_text_lem : board_text the_board ≡ catalog_text k
  unfolding catalog_text
  board_text_lem = ap (λ s. board_text s) board_part_lem

-- "every entry, written as text, is an accepted board", from the call to the reader: what a call that answers 0 has written is accepted
pub written_accepted : (k : ℕ) (buf : List ℕ) → (catalog_call k (length buf)).answer ≡ 0
    → (read_text (take (catalog_call k (length buf)).used (catalogued k buf))).answer ≡ 0
written_accepted k buf h = go (lt_or_ge k boards) (lt_or_ge (length buf) (length (catalog_text k)))
  where
    go : (k < boards) ⊎ (boards ≤ k) → (length buf < length (catalog_text k)) ⊎ (length (catalog_text k) ≤ length buf)
        → (read_text (take (catalog_call k (length buf)).used (catalogued k buf))).answer ≡ 0
    go (inr none) s = absurd (omega (arith, h, ap (λ w. w.answer) (call_none k buf none).0))
    go (inl l) (inl short) = absurd (omega (arith, h, ap (λ w. w.answer) (call_short k buf l short).0))
    go (inl l) (inr fits) =
        let d = call_done k buf l fits _ _ refl refl in
        rw (← d.0, ← d.1, take-append_seam) (board_accepted k l)
