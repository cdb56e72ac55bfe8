-- The whole board: what the code has of it, and the moves of its journal, which the code has in words that are lent (crates/journal).
use Rattle.std.specs.Prelude.{List, ℕ}
use Rattle.sets.specs.Sets.{set_of}
use Rattle.board.specs.declared.Network.{Network}
use Rattle.board.specs.declared.Relocation as code-relocation
use Rattle.board.specs.declared.Augmentation as code-augmentation
use Rattle.board.specs.declared.Move as code-move
use Rattle.board.specs.declared.Entry as code-entry
use Rattle.board.specs.declared.Board as code-board

-- an accepted carry: the terminal was relocated over the edge, to its tail
pub record Relocation : Type 0 where
  pub terminal : ℕ
  pub edge : ℕ

-- an accepted turn: along a cycle the flow fell by the amount on `down` and rose on `up`; `marked` are the edges it newly marked
pub record Augmentation : Type 0 where
  pub amount : ℕ
  pub down : ℕ
  pub up : ℕ
  pub marked : ℕ

pub data Move : Type 0 where
  Carry : Relocation → Move
  Turn : Augmentation → Move

-- a place of the journal
pub record Entry : Type 0 where
  pub step : Move

pub record Board : Type 0 where
  pub stage : ℕ
  pub network : Network
  pub acyclic : List ℕ
  pub flows : List ℕ
  pub marks : ℕ
  pub places : List ℕ
  pub journal : List Entry
  pub moves : ℕ
  pub finish_from : ℕ

-- what a call on a board gives: 0 and the board after it; or the number that the call is refused with, and the board as it was
pub record Played : Type 0 where
  pub answer : ℕ
  pub board : Board

-- what the code's `Relocation`, `Augmentation`, `Move` and `Entry` stand for
abbrev pub relocation_of : code-relocation.Relocation → Relocation
relocation_of r = record { terminal = r.terminal; edge = r.edge }

abbrev pub augmentation_of : code-augmentation.Augmentation → Augmentation
augmentation_of a = record { amount = a.amount; down = set_of a.down; up = set_of a.up; marked = set_of a.marked }

abbrev pub move_of : code-move.Move → Move
move_of (code-move.TheVariants.Carry r) = Carry (relocation_of r)
move_of (code-move.TheVariants.Turn a) = Turn (augmentation_of a)

abbrev pub entry_of : code-entry.Entry → Entry
entry_of e = record { step = move_of e.step }

-- the code's `Board`: without the journal
abbrev pub Table : Type 0
Table = code-board.Board
